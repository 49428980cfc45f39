-- A fault of a rule that lines and items both have is one of the line's item.
use Rattle.std.proofs.Common.{◌≡◌, ◌≢◌, ℕ, ◌+◌, ◌<◌, ◌≤◌, ◌==◌, nat_lt, not, length, List, [], ◌∷◌, ◌++◌, Bool, true, false, if◌then◌else◌, Option, Some, None, is_none, is_some, Result, Ok, Err, IfOk, refl, sym, ap, ◌∙◌, subst, inl, inr, ⊎_elim, arith, length-append, eqb-true}
use Rattle.std.specs.Prelude.{MatchBool, ◌⊎◌}
use Rattle.std.proofs.lemmas.Bool.{both_ways, eq-eqb}
use Rattle.service_model.specs.declared.cert_rules.TheConstants.{LONG_LINE, NOT_JSON, SHAPE, HEAD, VERSION, AFTER_END, PLACE, NETWORK, TABLE, CHILD, CHILD_ARC, LOCAL, BUDGET, ROOT, FITS, STAGE_TWICE, RELAXED, SPLIT_NODE, SPLIT_LATE, SPLIT_PLAN, SPLIT_ARC, VERDICT, PLAN}
use Rattle.service_model.specs.declared.cert.Item.{Item}
use Rattle.service_model.specs.declared.cert.Item.TheVariants.{Head as HeadItem, Table as TableItem, Node as NodeItem, Split as SplitItem, End as EndItem}
use Rattle.service_model.specs.Net.{Net}
use Rattle.service_model.specs.Items.{is_head}
use Rattle.service_model.specs.CertNumbers.{InRange}
use Rattle.service_model.specs.Held.{Held, none_held, held_after, is_misplaced}
use Rattle.service_model.specs.CertRules.{Rule, NetworkRule}
use Rattle.service_model.specs.Certs.{IsFirstBroken}
use Rattle.bound_cert.specs.declared.limits.TheConstants.{MAX_LINE, FORMAT}
use Rattle.bound_cert.specs.declared.line.Refusal.{Refusal}
use Rattle.bound_cert.specs.declared.line.Refusal.TheVariants.{NotJson, Shape}
use Rattle.bound_cert.specs.declared.line.Line.{Line}
use Rattle.bound_cert.specs.declared.fault.CertFault.{CertFault}
use Rattle.bound_cert.specs.Reading.{line_from}
use Rattle.bound_cert.specs.Stream.{Place, Step, start, is_out_of_turn, broken_rule, fault_at, with_rule, with_line, line_done, read_byte, go_on, behind, reads}
use Rattle.bound_cert.specs.Order.{Counts}
use Rattle.bound_cert.specs.Broken.{IsOfItems, BreaksRule}
use Rattle.bound_cert.specs.Laws.{RulesAgree}
use Rattle.bound_cert.proofs.RangeFacts.{IsRead, line_ok}
use Rattle.bound_cert.proofs.OrderFacts.{turn_by, turn_from, none_by, tests, StepInOrder, byte_in_order, held_after-append, starts}
use Rattle.bound_cert.proofs.StreamFacts.{read_byte_counts}

-- ---- the rules on an item, by their numbers
choose_by : (same : Bool) (a b : ℕ) (P Q : Type 0) → (a == b) ≡ same → (a ≡ b → P) → (a ≢ b → Q) → MatchBool same P Q
choose_by true a b P Q e here other = here (eqb-true a b e)
choose_by false a b P Q e here other = other (λ same. both_ways _ e (eq-eqb a b same))

choose : (a b : ℕ) (P Q : Type 0) → (a ≡ b → P) → (a ≢ b → Q) → MatchBool (a == b) P Q
choose a b P Q here other = choose_by (a == b) a b P Q refl here other

skip : (a b : ℕ) (P Q : Type 0) → a ≢ b → Q → MatchBool (a == b) P Q
skip a b P Q differ rest = choose a b P Q (λ same. absurd (differ same)) (λ other. rest)

no_network_rule : (n : Net) (h : Held) (x : Item) (rule : ℕ) → rule < NETWORK → NetworkRule n h x rule
no_network_rule n h (HeadItem g) rule low = skip rule NETWORK _ _ (λ e. omega arith) tt
no_network_rule n h (TableItem t) rule low =
    skip rule TABLE _ _ (λ e. omega arith) (skip rule CHILD _ _ (λ e. omega arith)
    (skip rule CHILD_ARC _ _ (λ e. omega arith) (skip rule LOCAL _ _ (λ e. omega arith) tt)))
no_network_rule n h (NodeItem x) rule low =
    skip rule BUDGET _ _ (λ e. omega arith) (skip rule ROOT _ _ (λ e. omega arith) (skip rule FITS _ _ (λ e. omega arith)
    (skip rule STAGE_TWICE _ _ (λ e. omega arith) (skip rule RELAXED _ _ (λ e. omega arith) tt))))
no_network_rule n h (SplitItem s) rule low =
    skip rule SPLIT_NODE _ _ (λ e. omega arith) (skip rule SPLIT_LATE _ _ (λ e. omega arith)
    (skip rule SPLIT_PLAN _ _ (λ e. omega arith) (skip rule SPLIT_ARC _ _ (λ e. omega arith) tt)))
no_network_rule n h (EndItem v) rule low = skip rule VERDICT _ _ (λ e. omega arith) (skip rule PLAN _ _ (λ e. omega arith) tt)

-- the rules below one of those on places hold
rules_below : (n : Net) (h : Held) (x : Item) (rule : ℕ) → rule ≤ PLACE → InRange x → (HEAD < rule → is_head x ≡ is_none h.head)
    → (AFTER_END < rule → h.verdict ≡ None) → (k : ℕ) → k < rule → Rule n h x k
rules_below n h x rule low shape head ended k below =
    choose k SHAPE _ _ (λ e. shape) (λ other.
    choose k HEAD _ _ (λ e. head (omega arith)) (λ other'.
    choose k AFTER_END _ _ (λ e. ended (omega arith)) (λ other''.
    skip k PLACE _ _ (λ e. omega arith) (no_network_rule n h x k (omega arith)))))

-- ---- a whole line that breaks a rule
not_version : IsOfItems VERSION → ⊥
not_version of = ⊎_elim (λ e. omega arith) (⊎_elim (λ e. omega arith) (λ e. omega arith)) of

same_some : (a b : ℕ) → Some a ≡ Some b → a ≡ b
same_some a b e = cc

-- which test failed, and which passed before it
abbrev FailedTest : Bool → Bool → Bool → ℕ → Type 0
FailedTest turn ended placed rule =
    ((rule ≡ HEAD) × (turn ≡ true)) ⊎ (((rule ≡ AFTER_END) × (turn ≡ false) × (ended ≡ true))
    ⊎ ((rule ≡ PLACE) × (turn ≡ false) × (ended ≡ false) × (placed ≡ true)))

failed_test : (turn version ended placed : Bool) (rule : ℕ) → tests turn version ended placed ≡ Some rule → IsOfItems rule
    → FailedTest turn ended placed rule
failed_test true version ended placed rule e of = inl (sym (same_some HEAD rule e), refl)
failed_test false true ended placed rule e of = absurd (not_version (subst IsOfItems (sym (same_some VERSION rule e)) of))
failed_test false false true placed rule e of = inr (inl (sym (same_some AFTER_END rule e), refl, refl))
failed_test false false false true rule e of = inr (inr (sym (same_some PLACE rule e), refl, refl, refl))
failed_test false false false false rule e of = cc

first_broken : (n : Net) (h : Held) (p : Place) (line : Line) (rule : ℕ) → Counts h p → IsRead p.tables line → broken_rule p line ≡ Some rule
    → IsOfItems rule → IsFirstBroken n h line.item rule
first_broken n h p line rule counts read e of =
    let x = line.item in
    let turned = λ (kept : is_out_of_turn p x ≡ false). turn_from (p.lines == 0) (is_head x) kept ∙ counts.first in
    ⊎_elim
    (λ (is, turn). subst (IsFirstBroken n h x) (sym is) (record {
      fails = λ (holds : is_head x ≡ is_none h.head). both_ways _ (turn_by (p.lines == 0) (is_head x) (holds ∙ sym counts.first)) turn;
      first = rules_below n h x HEAD (omega arith) read.0 (λ less. absurd (omega arith)) (λ less. absurd (omega arith));
    }))
    (⊎_elim
    (λ (is, turn, ended). subst (IsFirstBroken n h x) (sym is) (record {
      fails = λ (holds : h.verdict ≡ None). both_ways _ (counts.ended ∙ ap is_some holds) ended;
      first = rules_below n h x AFTER_END (omega arith) read.0 (λ less. turned turn) (λ less. absurd (omega arith));
    }))
    (λ (is, turn, ended, placed). subst (IsFirstBroken n h x) (sym is) (record {
      fails = λ (holds : is_misplaced (length h.nodes) (length h.splits) x ≡ false). both_ways (is_misplaced p.nodes p.splits x) (rw (counts.nodes, counts.splits) holds) placed;
      first = rules_below n h x PLACE (omega arith) read.0 (λ less. turned turn) (λ less. none_by h.verdict (sym counts.ended ∙ ended));
    })))
    (failed_test (is_out_of_turn p x) (not (line.version == FORMAT)) p.ended (is_misplaced p.nodes p.splits x) rule e of)

-- ---- the byte at which a rule fails
same_fault : {A : Type 0} (f g : CertFault) → (let r : Result A CertFault = Err f in r) ≡ Err g → f ≡ g
same_fault f g e = cc

-- the line begun at a place is whole, and breaks the fault's rule
record BreaksHere (p : Place) (fault : CertFault) : Type 0 where
  line : Line
  reads_as : line_from p.tables p.begun ≡ Ok line
  number : fault.line ≡ p.lines + 1
  broken : broken_rule p line ≡ Some fault.rule

-- a rule that no item breaks
other_rule : (p : Place) (rule : ℕ) (fault : CertFault) → rule < HEAD → (let s : Step = fault_at p rule in s) ≡ Err fault → IsOfItems fault.rule → ⊥
other_rule p rule fault low e of =
    let f : CertFault = record { line = p.lines + 1; rule = rule } in
    let same : rule ≡ fault.rule = ap (λ (g : CertFault). g.rule) (same_fault f fault e) in
    ⊎_elim (λ is. omega arith) (⊎_elim (λ is. omega arith) (λ is. omega arith)) of

rule_here : (p : Place) (line : Line) (rule : Option ℕ) (fault : CertFault) → line_from p.tables p.begun ≡ Ok line → broken_rule p line ≡ rule
    → with_rule p line.item rule ≡ Err fault → BreaksHere p fault
rule_here p line None fault read is e = cc
rule_here p line (Some rule) fault read is e =
    let f : CertFault = record { line = p.lines + 1; rule = rule } in
    let same = same_fault f fault e in
    record {
      line = line;
      reads_as = read;
      number = sym (ap (λ (g : CertFault). g.line) same);
      broken = is ∙ ap (λ (g : CertFault). Some g.rule) same;
    }

line_here : (p : Place) (read : Result Line Refusal) (fault : CertFault) → line_from p.tables p.begun ≡ read → with_line p read ≡ Err fault
    → IsOfItems fault.rule → BreaksHere p fault
line_here p (Err NotJson) fault is e of = absurd (other_rule p NOT_JSON fault (omega arith) e of)
line_here p (Err Shape) fault is e of = absurd (other_rule p SHAPE fault (omega arith) e of)
line_here p (Ok line) fault is e of = rule_here p line (broken_rule p line) fault is refl e

done_here : (p : Place) (fault : CertFault) → line_done p ≡ Err fault → IsOfItems fault.rule → BreaksHere p fault
unfolding line_done
done_here p fault e of = line_here p (line_from p.tables p.begun) fault refl e of

room_here : (p : Place) (b : ℕ) (room : Bool) (fault : CertFault)
    → (let s : Step = if room then Ok ([], record p { begun = p.begun ++ b ∷ [] }) else fault_at p LONG_LINE in s) ≡ Err fault → IsOfItems fault.rule → ⊥
room_here p b true fault e of = cc
room_here p b false fault e of = other_rule p LONG_LINE fault (omega arith) e of

byte_by : (p : Place) (b : ℕ) (feed : Bool) (fault : CertFault) → (b == 10) ≡ feed
    → (let s : Step = if feed then line_done p else (
    if nat_lt (length p.begun) MAX_LINE then Ok ([], record p { begun = p.begun ++ b ∷ [] }) else fault_at p LONG_LINE) in s) ≡ Err fault
    → IsOfItems fault.rule → (b ≡ 10) × BreaksHere p fault
byte_by p b true fault is e of = (eqb-true b 10 is, done_here p fault e of)
byte_by p b false fault is e of = absurd (room_here p b (nat_lt (length p.begun) MAX_LINE) fault e of)

byte_here : (p : Place) (b : ℕ) (fault : CertFault) → read_byte p b ≡ Err fault → IsOfItems fault.rule → (b ≡ 10) × BreaksHere p fault
unfolding read_byte
byte_here p b fault e of = byte_by p b (b == 10) fault refl e of

-- ---- the bytes up to it
is_read : (seen : ℕ) (bytes : List ℕ) (line : Line) → line_from seen bytes ≡ Ok line → IsRead seen line
is_read seen bytes line e = subst (λ (r : Result Line Refusal). IfOk r (IsRead seen)) e (line_ok seen bytes)

step_breaks : (n : Net) (b : ℕ) (bytes : List ℕ) (h : Held) (p : Place) (fault : CertFault) (step : Step) → Counts h p → read_byte p b ≡ step
    → StepInOrder h step → (go_on (reads bytes) step).1 ≡ Err fault → IsOfItems fault.rule
    → ((g : Held) (q : Place) → Counts g q → (reads bytes q).1 ≡ Err fault → BreaksRule n g q bytes (reads bytes q).0 fault)
    → BreaksRule n h p (b ∷ bytes) (go_on (reads bytes) step).0 fault
step_breaks n b bytes h p fault (Ok x) counts is (first, later) e of again =
    let r = again (held_after h x.0) x.1 later e in
    let counted = read_byte_counts p b x.0 x.1 is in
    record {
      front = b ∷ r.front;
      rest = r.rest;
      parts = ap (λ (bs : List ℕ). b ∷ bs) r.parts;
      place = r.place;
      before = ap (go_on (reads r.front)) is ∙ ap (behind x.0) r.before;
      line = r.line;
      reads_as = r.reads_as;
      number = omega (arith, r.number, counted, length-append x.0 (reads bytes x.1).0);
      broken = subst (λ (g : Held). IsFirstBroken n g r.line.item fault.rule) (sym (held_after-append h x.0 (reads bytes x.1).0)) r.broken;
    }
step_breaks n b bytes h p fault (Err f) counts is order e of again =
    let same = same_fault f fault e in
    let (feed, here) = byte_here p b fault (is ∙ ap (λ (g : CertFault). let s : Step = Err g in s) same) of in
    record {
      front = [];
      rest = bytes;
      parts = ap (λ c. c ∷ bytes) feed;
      place = p;
      before = refl;
      line = here.line;
      reads_as = here.reads_as;
      number = omega (arith, here.number);
      broken = first_broken n h p here.line fault.rule counts (is_read p.tables p.begun here.line here.reads_as) here.broken of;
    }

breaks_from : (n : Net) (bytes : List ℕ) (h : Held) (p : Place) (fault : CertFault) → Counts h p → (reads bytes p).1 ≡ Err fault → IsOfItems fault.rule
    → BreaksRule n h p bytes (reads bytes p).0 fault
breaks_from n [] h p fault counts e of = cc
breaks_from n (b ∷ bytes) h p fault counts e of =
    step_breaks n b bytes h p fault (read_byte p b) counts refl (byte_in_order h p b counts) e of
    (λ g q counted later. breaks_from n bytes g q fault counted later of)

pub rules_agree : RulesAgree
rules_agree n bytes fault e of = breaks_from n bytes none_held start fault starts e of
