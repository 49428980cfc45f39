-- The first fault of items is one, and accepted items have none.
use Rattle.std.proofs.Common.{◌≡◌, ℕ, List, [], ◌∷◌, ◌++◌, length, refl, sym, ap, ◌∙◌, subst, inl, inr, ⊎_elim, arith}
use Rattle.std.specs.Prelude.{Option, None, IsSome}
use Rattle.std.proofs.lemmas.Bool.{cases_order}
use Rattle.service_model.specs.declared.cert.Verdict.{Verdict}
use Rattle.service_model.specs.declared.cert.Item.{Item}
use Rattle.service_model.specs.Net.{Net}
use Rattle.service_model.specs.Held.{Held, none_held, held_with, held_after}
use Rattle.service_model.specs.CertRules.{Keeps}
use Rattle.service_model.specs.Certs.{IsFirstBroken, AllKeep, IsFaultAt}
use Rattle.cert_laws.specs.ItemLaws.{FaultOneLaw, NoFaultLaw}
use Rattle.cert_laws.proofs.KeptFacts.{AllKeep-parts}

first_one : {x y : Item} {xs ys : List Item} → x ∷ xs ≡ y ∷ ys → (x ≡ y) × (xs ≡ ys)
first_one same = (cc, cc)

-- where a rule fails on an item behind items that keep all, the place is one
one_place : (n : Net) (h : Held) (front front' : List Item) (x x' : Item) (rest rest' : List Item) → front ++ x ∷ rest ≡ front' ++ x' ∷ rest'
    → AllKeep n h front → ¬ Keeps n (held_after h front) x → AllKeep n h front' → ¬ Keeps n (held_after h front') x' → (front ≡ front') × (x ≡ x')
one_place n h [] [] x x' rest rest' same keep fails keep' fails' = (refl, (first_one same).0)
one_place n h [] (y ∷ front') x x' rest rest' same keep fails keep' fails' =
    absurd (fails (subst (Keeps n h) (sym (first_one same).0) keep'.0))
one_place n h (y ∷ front) [] x x' rest rest' same keep fails keep' fails' =
    absurd (fails' (subst (Keeps n h) (first_one same).0 keep.0))
one_place n h (y ∷ front) (y' ∷ front') x x' rest rest' same keep fails keep' fails' =
    let parts = first_one same in
    let back : AllKeep n (held_with h y) front' = subst (λ z. AllKeep n (held_with h z) front') (sym parts.0) keep'.1 in
    let still : ¬ Keeps n (held_after (held_with h y) front') x' = subst (λ z. ¬ Keeps n (held_after (held_with h z) front') x') (sym parts.0) fails' in
    let more = one_place n (held_with h y) front front' x x' rest rest' parts.1 keep.1 fails back still in
    (ap (λ z. z ∷ front) parts.0 ∙ ap (λ zs. y' ∷ zs) more.0, more.1)

-- the first rule that fails on an item is one
one_rule : (n : Net) (h : Held) (x : Item) (rule rule' : ℕ) → IsFirstBroken n h x rule → IsFirstBroken n h x rule' → rule ≡ rule'
one_rule n h x rule rule' broken broken' = ⊎_elim
    (λ same. same)
    (⊎_elim (λ before. absurd (broken.fails (broken'.first rule before))) (λ after. absurd (broken'.fails (broken.first rule' after))))
    (cases_order rule rule')

fault_not_kept : (n : Net) (items : List Item) (line rule : ℕ) → IsFaultAt n items line rule → ¬ AllKeep n none_held items
fault_not_kept n items line rule fault keep =
    let parts = AllKeep-parts n none_held fault.front (fault.item ∷ fault.rest) (subst (AllKeep n none_held) fault.parts keep) in
    fault.broken.fails (parts.1.0 rule)

two_faults : (n : Net) (items : List Item) (line rule line' rule' : ℕ) → IsFaultAt n items line rule → IsFaultAt n items line' rule'
    → (line ≡ line') × (rule ≡ rule')
two_faults n items line rule line' rule' fault other =
    let place = one_place n none_held fault.front other.front fault.item other.item fault.rest other.rest (sym fault.parts ∙ other.parts)
    fault.keep (λ keep. fault.broken.fails (keep rule)) other.keep (λ keep. other.broken.fails (keep rule')) in
    let there : IsFirstBroken n (held_after none_held fault.front) fault.item rule' =
    subst (λ z. IsFirstBroken n (held_after none_held fault.front) z rule') (sym place.1)
    (subst (λ front. IsFirstBroken n (held_after none_held front) other.item rule') (sym place.0) other.broken) in (
      omega (arith, fault.place, other.place, ap length place.0),
      one_rule n (held_after none_held fault.front) fault.item rule rule' fault.broken there,
    )

pub fault_one_law : FaultOneLaw
fault_one_law n items line rule line' rule' (inl fault) (inl other) = two_faults n items line rule line' rule' fault other
fault_one_law n items line rule line' rule' (inl fault) (inr other) = absurd (fault_not_kept n items line rule fault other.keep)
fault_one_law n items line rule line' rule' (inr fault) (inl other) = absurd (fault_not_kept n items line' rule' other fault.keep)
fault_one_law n items line rule line' rule' (inr fault) (inr other) = (fault.place ∙ sym other.place, fault.rule_is ∙ sym other.rule_is)

ended_not_open : (verdict : Option Verdict) → verdict ≡ None → ¬ IsSome verdict
ended_not_open verdict open' some = cc

pub no_fault_law : NoFaultLaw
no_fault_law n items line rule accepted (inl fault) = fault_not_kept n items line rule fault accepted.keep
no_fault_law n items line rule accepted (inr fault) = ended_not_open (held_after none_held items).verdict fault.unended accepted.ended
