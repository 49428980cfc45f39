-- Marks, one number after the other.
use Rattle.std.proofs.Common.{◌≡◌, ℕ, ◌+◌, ◌<◌, Bool, true, false, List, ◌∷◌, ◌++◌, [], length, get_or, set, take, replicate, sym, ap, ◌∙◌, subst, inl, inr, ⊎_elim, arith}
use Rattle.std.specs.Prelude.{All, Contains}
use Rattle.std.proofs.lemmas.Bool.{cases_eq, cases_lt, both_ways}
use Rattle.std.proofs.lemmas.List.{length-set, length-replicate, get_or-replicate, get_or_past, get_or-set_same, get_or-set_other, take_more}
use Rattle.std.proofs.lemmas.List.Elements.{All-weaker, All-push, Contains-append_left, Contains-push}
use Rattle.node_rules.specs.Marks.{IsMarked, MarksMore}

-- a number is marked only where there is a mark for it
pub marked_there : (marks : List Bool) (k : ℕ) → IsMarked marks k → k < length marks
marked_there marks k is = ⊎_elim (λ low. low) (λ past. absurd (both_ways _ (get_or_past marks k false past) is)) (cases_lt k (length marks))

-- no number is marked at first
pub none_marked : (count k : ℕ) → IsMarked (replicate count false) k → ⊥
none_marked count k is =
    let low = marked_there (replicate count false) k is in
    both_ways _ (get_or-replicate count k false false (omega (arith, low, length-replicate count false))) is

still_marked : (marks : List Bool) (at k : ℕ) → at < length marks → IsMarked marks k → IsMarked (set marks at true) k
still_marked marks at k low is = ⊎_elim
    (λ same. ap (λ m. get_or (set marks at true) m false) same ∙ get_or-set_same marks at true false low)
    (λ other. get_or-set_other marks at k true false other ∙ is)
    (cases_eq k at)

-- one number more is marked
pub marks_next : (numbers : List ℕ) (i : ℕ) (old now : List Bool) → MarksMore (take i numbers) old now → i < length numbers
    → get_or numbers i 0 < length now → MarksMore (take (i + 1) numbers) old (set now (get_or numbers i 0) true)
marks_next numbers i old now more within low =
    let at = get_or numbers i 0 in
    let list : take (i + 1) numbers ≡ take i numbers ++ get_or numbers i 0 ∷ [] = take_more numbers i 0 within in
    record {
      long = length-set now at true ∙ more.long;
      keeps = λ k is. still_marked now at k low (more.keeps k is);
      sets = subst (All (IsMarked (set now at true))) (sym list)
          (All-push (IsMarked (set now at true)) (take i numbers) at
          (All-weaker (IsMarked now) (IsMarked (set now at true)) (λ k is. still_marked now at k low is) (take i numbers) more.sets)
          (get_or-set_same now at true false low));
      only = λ k is. ⊎_elim
          (λ same. inr (subst (λ xs. Contains xs k) (sym list) (subst (λ x. Contains (take i numbers ++ at ∷ []) x) (sym same) (Contains-push (take i numbers) at))))
          (λ other. ⊎_elim
          (λ was. inl was)
          (λ inside. inr (subst (λ xs. Contains xs k) (sym list) (Contains-append_left (take i numbers) (at ∷ []) k inside)))
          (more.only k (sym (get_or-set_other now at k true false other) ∙ is)))
          (cases_eq k at);
    }
