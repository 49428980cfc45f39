-- Marks and their queue, step by step.
use Rattle.std.proofs.Common.{ℕ, zero, suc, ◌≡◌, ◌+◌, ◌<◌, ◌≤◌, Bool, true, false, not, cond, List, [], ◌∷◌, ◌++◌, length, get_or, set, take, replicate, refl, sym, ap, ◌∙◌, subst, inl, inr, ⊎_elim, arith}
use Rattle.std.specs.Prelude.{All, Contains, count_by}
use Rattle.std.proofs.lemmas.Bool.{cases_eq, cases_lt, cases_Bool, both_ways, MatchBool-at_true, MatchBool-at_false}
use Rattle.std.proofs.lemmas.List.{length_push, length-set, length-replicate, get_or-replicate, get_or_past, get_or-set_same, get_or-set_other, take_more, take_all, take-append-le}
use Rattle.std.proofs.lemmas.List.Elements.{Contains-push, Contains-append_left, Contains-push_cases}
use Rattle.std.proofs.lemmas.List.Sums.{sum_by-set, sum_by-cons}
use Rattle.service_model.specs.Marks.{Marks, MarksOne, MarksAll}

all_off : (n : ℕ) → count_by (λ b. not b) (replicate n false) ≡ n
all_off zero = refl
all_off (suc n) = let rest = all_off n in let e = sum_by-cons (λ (b : Bool). cond (not b) 1 0) false (replicate n false) in omega (arith, rest, e)

none_marked : (n q : ℕ) → get_or (replicate n false) q false ≡ false
none_marked n q = ⊎_elim (λ low. get_or-replicate n q false false low) (λ past. get_or_past (replicate n false) q false (omega (arith, past, length-replicate n false))) (cases_lt q n)

pub marks_none : (n : ℕ) → Marks (replicate n false) []
marks_none n = record {
  there = λ q h. absurd (omega (arith, h.1));
  marked = λ q h. absurd (omega (arith, h.1));
  only = λ q is. absurd (both_ways _ (none_marked n q) is);
  counts = let off = all_off n in omega (arith, off, length-replicate n false);
}

pub marks_push : (seen : List Bool) (queue : List ℕ) (c : ℕ) → Marks seen queue → c < length seen → get_or seen c false ≡ false → Marks (set seen c true) (queue ++ c ∷ [])
marks_push seen queue c marks low off = record {
  there = λ q h. ⊎_elim (λ old. omega (arith, marks.there q old, length-set seen c true)) (λ same. omega (arith, low, same, length-set seen c true)) (Contains-push_cases queue c q h);
  marked = λ q h. ⊎_elim
      (λ same. ap (λ n. get_or (set seen c true) n false) same ∙ get_or-set_same seen c true false low)
      (λ other. ⊎_elim (λ old. get_or-set_other seen c q true false other ∙ marks.marked q old) (λ same. absurd (other (sym same))) (Contains-push_cases queue c q h))
      (cases_eq q c);
  only = λ q is. ⊎_elim
      (λ same. subst (λ x. Contains (queue ++ c ∷ []) x) (sym same) (Contains-push queue c))
      (λ other. Contains-append_left queue (c ∷ []) q (marks.only q (sym (get_or-set_other seen c q true false other) ∙ is)))
      (cases_eq q c);
  counts =
      let e = sum_by-set (λ b. cond (not b) 1 0) seen c true false low in
      let one : ℕ = 1 in
      let here : cond (not (get_or seen c false)) 1 0 ≡ one = ap (λ b. cond (not b) 1 0) off in
      omega (arith, e, here, marks.counts, length_push queue c, length-set seen c true);
}

pub marks_start : (seen : List Bool) (queue cs : List ℕ) → Marks seen queue → MarksAll (take 0 cs) seen seen queue queue
marks_start seen queue cs marks = record {
  marks = marks;
  long = refl;
  longer = omega arith;
  front = take_all (length queue) queue (omega arith);
  all = λ q h. absurd (omega (arith, h.1));
  only = λ q h. inl h;
}

pub marks_more : (cs : List ℕ) (k : ℕ) (seen0 seen seen' : List Bool) (queue0 queue queue' : List ℕ) → k < length cs → All (λ c. c < length seen0) cs
    → MarksAll (take k cs) seen0 seen queue0 queue → MarksOne (get_or cs k 0) seen seen' queue queue' → MarksAll (take (k + 1) cs) seen0 seen' queue0 queue'
marks_more cs k seen0 seen seen' queue0 queue queue' inside there old one =
    let c = get_or cs k 0 in
    let more : take (k + 1) cs ≡ take k cs ++ get_or cs k 0 ∷ [] = take_more cs k 0 inside in
    let low : get_or cs k 0 < length seen = omega (arith, there k 0 inside, old.long) in
    ⊎_elim
    (λ on.
    let both = MatchBool-at_true _ _ on one in
    subst (λ (s : List Bool). MarksAll (take (k + 1) cs) seen0 s queue0 queue') (sym both.0)
    (subst (λ (q : List ℕ). MarksAll (take (k + 1) cs) seen0 seen queue0 q) (sym both.1)
    (record {
      marks = old.marks;
      long = old.long;
      longer = old.longer;
      front = old.front;
      all = λ q h. ⊎_elim (old.all q) (λ same. subst (λ x. Contains queue x) same (old.marks.only (get_or cs k 0) on))
          (Contains-push_cases (take k cs) (get_or cs k 0) q (subst (λ xs. Contains xs q) more h));
      only = λ q h. ⊎_elim (λ was. inl was) (λ come. inr (subst (λ xs. Contains xs q) (sym more) (Contains-append_left (take k cs) (get_or cs k 0 ∷ []) q come))) (old.only q h);
    })))
    (λ off.
    let both = MatchBool-at_false _ _ off one in
    subst (λ (s : List Bool). MarksAll (take (k + 1) cs) seen0 s queue0 queue') (sym both.0)
    (subst (λ (q : List ℕ). MarksAll (take (k + 1) cs) seen0 (set seen (get_or cs k 0) true) queue0 q) (sym both.1)
    (record {
      marks = marks_push seen queue (get_or cs k 0) old.marks low off;
      long = length-set seen (get_or cs k 0) true ∙ old.long;
      longer = omega (arith, old.longer, length_push queue (get_or cs k 0));
      front = take-append-le (length queue0) queue (get_or cs k 0 ∷ []) old.longer ∙ old.front;
      all = λ q h. ⊎_elim (λ earlier. Contains-append_left queue (get_or cs k 0 ∷ []) q (old.all q earlier)) (λ same. subst (λ x. Contains (queue ++ get_or cs k 0 ∷ []) x) same (Contains-push queue (get_or cs k 0)))
          (Contains-push_cases (take k cs) (get_or cs k 0) q (subst (λ xs. Contains xs q) more h));
      only = λ q h. ⊎_elim
          (λ was. ⊎_elim (λ first. inl first) (λ come. inr (subst (λ xs. Contains xs q) (sym more) (Contains-append_left (take k cs) (get_or cs k 0 ∷ []) q come))) (old.only q was))
          (λ same. inr (subst (λ xs. Contains xs q) (sym more) (subst (λ x. Contains (take k cs ++ get_or cs k 0 ∷ []) x) same (Contains-push (take k cs) (get_or cs k 0)))))
          (Contains-push_cases queue (get_or cs k 0) q h);
    })))
    (cases_Bool (get_or seen (get_or cs k 0) false))

pub marks_end : (cs : List ℕ) (k : ℕ) (seen0 seen : List Bool) (queue0 queue : List ℕ) → length cs ≤ k → MarksAll (take k cs) seen0 seen queue0 queue → MarksAll cs seen0 seen queue0 queue
marks_end cs k seen0 seen queue0 queue past old = subst (λ (xs : List ℕ). MarksAll xs seen0 seen queue0 queue) (take_all k cs past) old

pub few_queued : (seen : List Bool) (queue : List ℕ) → Marks seen queue → length queue ≤ length seen
few_queued seen queue marks = omega (arith, marks.counts)
