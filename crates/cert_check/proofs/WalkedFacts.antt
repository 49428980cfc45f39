-- What a walk over all lines of a certificate says of it.
use Rattle.std.proofs.Common.{◌≡◌, [], ◌∷◌, Option, Some, Ok, Err, refl, sym, ap, ◌∙◌, subst, arith}
use Rattle.service_model.specs.declared.cert.Verdict.{Verdict}
use Rattle.service_model.specs.declared.cert.Cert.{Cert}
use Rattle.service_model.specs.declared.cert.Item.TheVariants.{Head as HeadItem}
use Rattle.service_model.specs.Net.{Net}
use Rattle.service_model.specs.Items.{items_from, items_of}
use Rattle.service_model.specs.Held.{Held, none_held}
use Rattle.service_model.specs.Certs.{AllKeep}
use Rattle.cert_laws.proofs.KeptFacts.{held_after-end}
use Rattle.cert_check.specs.declared.check_fault.CheckFault.{CheckFault}
use Rattle.cert_check.specs.declared.check_fault.CheckFault.TheVariants.{Fault, NoMemory}
use Rattle.cert_check.specs.Checking.{new_checking}
use Rattle.cert_check.specs.Written.{IsAcceptedCert, ChecksCert}
use Rattle.cert_check.specs.Walking.{Walking, HasWalked, Walks}
use Rattle.cert_check.proofs.AnswerFacts.{none_came}

abbrev pub new_walk : Net → Walking
new_walk n = record { checking = new_checking n; lines = 0 }

none_walked : (n : Net) → HasWalked (new_walk n) []
none_walked n = record { stands = none_came n; unfailed = refl; short = λ k d within. absurd (omega arith); counted = refl }

pub refused_cert : (n : Net) (c : Cert) (now : Walking) (fault : CheckFault) → Walks (new_walk n) now (items_of c) (Err fault) → ChecksCert n c (Err fault)
refused_cert n c now (Fault f) walks = walks [] (none_walked n)
refused_cert n c now NoMemory walks = tt

pub walked_cert : (n : Net) (c : Cert) (now : Walking) → Walks (new_walk n) now (items_of c) (Ok tt) → HasWalked now (items_of c)
walked_cert n c now walks = walks.1 [] (none_walked n)

pub cert_verdict : (n : Net) (c : Cert) (now : Walking) → Walks (new_walk n) now (items_of c) (Ok tt) → now.checking.held.verdict ≡ Some c.verdict
cert_verdict n c now walks =
    ap (λ (h : Held). h.verdict) (walked_cert n c now walks).stands.came ∙ held_after-end none_held (HeadItem c.head ∷ items_from c 0 0 c.nodes) c.verdict

some_verdict : {v w : Verdict} → (let a : Option Verdict = Some v in a ≡ Some w) → v ≡ w
some_verdict same = cc

pub accepted_cert : (n : Net) (c : Cert) (now : Walking) (v : Verdict) → Walks (new_walk n) now (items_of c) (Ok tt) → now.checking.held.verdict ≡ Some v
    → IsAcceptedCert n c v
accepted_cert n c now v walks has =
    let walked = walked_cert n c now walks in
    record {
      keep = subst (λ (m : Net). AllKeep m none_held (items_of c)) walks.0 walked.stands.keep;
      short = walked.short;
      verdict = some_verdict (sym has ∙ cert_verdict n c now walks);
    }
