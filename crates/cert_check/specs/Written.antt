-- Which certificates are accepted for a network line by line, and where others are refused.
use Rattle.std.specs.Prelude.{◌≡◌, ◌⊎◌, ℕ, ◌+◌, List, ◌∷◌, ◌++◌, length, All, Result, Ok, Err, ⊤}
use Rattle.service_model.specs.declared.cert_rules.TheConstants.{LONG_LINE}
use Rattle.service_model.specs.declared.cert.Verdict.{Verdict}
use Rattle.service_model.specs.declared.cert.Cert.{Cert}
use Rattle.service_model.specs.declared.cert.Item.{Item}
use Rattle.service_model.specs.Net.{Net}
use Rattle.service_model.specs.Verdicts.{IsTrueOf}
use Rattle.service_model.specs.Items.{items_of}
use Rattle.service_model.specs.Held.{Held, none_held, held_after}
use Rattle.bound_cert.specs.Laws.{IsShort}
use Rattle.cert_check.specs.declared.check_fault.CheckFault.{CheckFault}
use Rattle.cert_check.specs.declared.check_fault.CheckFault.TheVariants.{Fault, NoMemory}
use Rattle.service_model.specs.Certs.{IsFirstBroken, AllKeep}

-- the item's line is too long
pub record IsLong (x : Item) (rule : ℕ) : Type 0 where
  pub long : ¬ IsShort x
  pub rule_is : rule ≡ LONG_LINE

-- the item's line is short, and the rule is the first that fails on the item
pub record IsShortFault (n : Net) (h : Held) (x : Item) (rule : ℕ) : Type 0 where
  pub short : IsShort x
  pub broken : IsFirstBroken n h x rule

-- the rule is the first that fails on the item's line
abbrev pub IsFirstLineFault : Net → Held → Item → ℕ → Type 0
IsFirstLineFault n h x rule = IsLong x rule ⊎ IsShortFault n h x rule

-- no rule fails on the certificate's lines, and the verdict is its own
pub record IsAcceptedCert (n : Net) (c : Cert) (v : Verdict) : Type 0 where
  pub keep : AllKeep n none_held (items_of c)
  pub short : All IsShort (items_of c)
  pub verdict : v ≡ c.verdict

-- the first of the items' lines on which a rule fails, and the first rule that fails on it
pub record IsRefusedLine (n : Net) (items : List Item) (line rule : ℕ) : Type 0 where
  pub front : List Item
  pub item : Item
  pub rest : List Item
  pub parts : items ≡ front ++ item ∷ rest
  pub keep : AllKeep n none_held front
  pub short : All IsShort front
  pub fault : IsFirstLineFault n (held_after none_held front) item rule
  pub place : line ≡ length front + 1

-- what a check of a certificate answers
abbrev pub ChecksCert : Net → Cert → Result Verdict CheckFault → Type 0
ChecksCert n c (Ok v) = IsAcceptedCert n c v × IsTrueOf n v
ChecksCert n c (Err (Fault f)) = IsRefusedLine n (items_of c) f.line f.rule
ChecksCert n c (Err NoMemory) = ⊤
