-- Tops under shortcuts, and where a place is made to lead to another.
use Rattle.std.proofs.Common.{ℕ, zero, suc, ◌≡◌, ◌<◌, List, [], ◌∷◌, ◌++◌, length, get_or, set, refl, sym, ap, ◌∙◌, subst, inl, inr, ⊎_elim, arith}
use Rattle.std.specs.Prelude.{◌⊎◌, ◌↔◌}
use Rattle.std.proofs.lemmas.Bool.{cases_eq, cases_lt}
use Rattle.std.proofs.lemmas.List.{get_or_past, get_or-set_same, get_or-set_other, length-set}
use Rattle.cluster_split.proofs.PlaceFacts.{each_push}
use Rattle.cluster_split.specs.Tops.{reached, Reaches, Falls, IsTop, Alike, AreTops, IsShortcut}
use Rattle.cluster_split.proofs.ReachFacts.{reach_not, reach_step, reach_one, reach_trans, reach_le, reach_on, top_alone}

-- alike is an equivalence

pub alike_not : (up tops : List ℕ) (k : ℕ) → Alike up tops k k
alike_not up tops k h top = (λ r. r, λ r. r)

pub alike_back : (up tops : List ℕ) (k m : ℕ) → Alike up tops k m → Alike up tops m k
alike_back up tops k m alike h top = ((alike h top).1, (alike h top).0)

pub alike_trans : (up tops : List ℕ) (k m l : ℕ) → Alike up tops k m → Alike up tops m l → Alike up tops k l
alike_trans up tops k m l one two h top = (λ r. (two h top).0 ((one h top).0 r), λ r. (one h top).1 ((two h top).1 r))

-- with fewer tops still
pub alike_less : (up old new : List ℕ) (k m : ℕ) → ((h : ℕ) → IsTop new h → IsTop old h) → Alike up old k m → Alike up new k m
alike_less up old new k m shrinks alike h top = alike h (shrinks h top)

alike_steps : (up tops : List ℕ) → AreTops up tops → (n k : ℕ) → Alike up tops k (reached tops k n)
alike_steps up tops are zero k = alike_not up tops k
alike_steps up tops are (suc n) k = alike_trans up tops k (get_or tops k 0) (reached tops (get_or tops k 0) n) (are.alike k) (alike_steps up tops are n (get_or tops k 0))

-- where a place leads by the tops is above it, at or below the same tops
pub alike_reach : (up tops : List ℕ) (k h : ℕ) → AreTops up tops → Reaches tops k h → Alike up tops k h
alike_reach up tops k h are (n, is) = subst (λ v. Alike up tops k v) is (alike_steps up tops are n k)

above_steps : (up tops : List ℕ) → AreTops up tops → (n k : ℕ) → Reaches up k (reached tops k n)
above_steps up tops are zero k = reach_not up k
above_steps up tops are (suc n) k = reach_trans up k (get_or tops k 0) (reached tops (get_or tops k 0) n) (are.above k) (above_steps up tops are n (get_or tops k 0))

pub above_reach : (up tops : List ℕ) (k h : ℕ) → AreTops up tops → Reaches tops k h → Reaches up k h
above_reach up tops k h are (n, is) = subst (λ v. Reaches up k v) is (above_steps up tops are n k)

pub tops_fall : (up tops : List ℕ) → Falls up → AreTops up tops → Falls tops
tops_fall up tops falls are k = reach_le up k (get_or tops k 0) falls (are.above k)

-- two alike tops are one
pub alike_tops : (up tops : List ℕ) (k m : ℕ) → Falls up → IsTop tops k → IsTop tops m → Alike up tops k m → k ≡ m
alike_tops up tops k m falls top top' alike =
    let le = reach_le up m k falls ((alike k top).0 (reach_not up k)) in
    let ge = reach_le up k m falls ((alike m top').1 (reach_not up m)) in
    omega (arith, le, ge)

-- each place its own top
pub own_are : (up tops : List ℕ) → length tops ≡ length up → ((k : ℕ) → k < length up → IsTop tops k) → AreTops up tops
own_are up tops long own = record {
  long = long;
  above = λ k. ⊎_elim
      (λ inside. subst (λ v. Reaches up k v) (sym (own k inside)) (reach_not up k))
      (λ past. subst (λ v. Reaches up k v) (get_or_past up k 0 past ∙ sym (get_or_past tops k 0 (omega (arith, past, long)))) (reach_one up k))
      (cases_lt k (length up));
  alike = λ k. ⊎_elim
      (λ inside. subst (λ v. Alike up tops k v) (sym (own k inside)) (alike_not up tops k))
      (λ past h top.
      let on : get_or up k 0 ≡ get_or tops k 0 = get_or_past up k 0 past ∙ sym (get_or_past tops k 0 (omega (arith, past, long))) in
      ⊎_elim
      (λ same. subst (λ v. (Reaches up k h) ↔ (Reaches up v h)) (sym (ap (λ v. get_or tops v 0) same ∙ top ∙ sym same)) (λ r. r, λ r. r))
      (λ apart. subst (λ v. (Reaches up k h) ↔ (Reaches up v h)) on (reach_on up k h apart, reach_step up k h))
      (cases_eq k h))
      (cases_lt k (length up));
}

-- shortcuts

pub shortcut_not : (xs : List ℕ) → IsShortcut xs xs
shortcut_not xs = record { long = refl; each = λ k. reach_not xs (get_or xs k 0) }

short_steps : (old new : List ℕ) → IsShortcut old new → (n k : ℕ) → Reaches old k (reached new k n)
short_steps old new short zero k = reach_not old k
short_steps old new short (suc n) k =
    reach_trans old k (get_or new k 0) (reached new (get_or new k 0) n) (reach_step old k (get_or new k 0) (short.each k)) (short_steps old new short n (get_or new k 0))

-- where a place leads it led before
pub short_reach : (old new : List ℕ) (k h : ℕ) → IsShortcut old new → Reaches new k h → Reaches old k h
short_reach old new k h short (n, is) = subst (λ v. Reaches old k v) is (short_steps old new short n k)

pub short_falls : (old new : List ℕ) → IsShortcut old new → Falls old → Falls new
short_falls old new short falls k = let le = reach_le old (get_or old k 0) (get_or new k 0) falls (short.each k) in omega (arith, le, falls k)

-- the tops are the same
pub short_top : (old new : List ℕ) (h : ℕ) → IsShortcut old new → Falls old → IsTop new h → IsTop old h
short_top old new h short falls top =
    let le = reach_le old (get_or old h 0) (get_or new h 0) falls (short.each h) in
    omega (arith, le, falls h, top)

pub top_short : (old new : List ℕ) (h : ℕ) → IsShortcut old new → IsTop old h → IsTop new h
top_short old new h short top = top_alone old h (get_or new h 0) top (subst (λ v. Reaches old v (get_or new h 0)) top (short.each h))

pub short_trans : (one two three : List ℕ) → IsShortcut one two → IsShortcut two three → IsShortcut one three
short_trans one two three first then = record {
  long = then.long ∙ first.long;
  each = λ k.
      reach_trans one (get_or one k 0) (get_or two k 0) (get_or three k 0) (first.each k)
      (short_reach one two (get_or two k 0) (get_or three k 0) first (then.each k));
}

pub short_are : (up old new : List ℕ) → Falls up → IsShortcut old new → AreTops up old → AreTops up new
short_are up old new falls short are = record {
  long = short.long ∙ are.long;
  above = λ k. above_reach up old k (get_or new k 0) are (reach_step old k (get_or new k 0) (short.each k));
  alike = λ k.
      alike_less up old new k (get_or new k 0) (λ h top. short_top old new h short (tops_fall up old falls are) top)
      (alike_reach up old k (get_or new k 0) are (reach_step old k (get_or new k 0) (short.each k)));
}

-- a place is made to lead to another

pub set_cases : (xs : List ℕ) (at to k : ℕ) → at < length xs → ((k ≡ at) × (get_or (set xs at to) k 0 ≡ to)) ⊎ ((k ≡ at → ⊥) × (get_or (set xs at to) k 0 ≡ get_or xs k 0))
set_cases xs at to k inside = ⊎_elim
    (λ same. inl (same, ap (λ v. get_or (set xs at to) v 0) same ∙ get_or-set_same xs at to 0 inside))
    (λ apart. inr (apart, get_or-set_other xs at k to 0 apart))
    (cases_eq k at)

-- to where it leads by two steps or more
pub short_set : (xs : List ℕ) (at to : ℕ) → at < length xs → Reaches xs (get_or xs at 0) to → IsShortcut xs (set xs at to)
short_set xs at to inside there = record {
  long = length-set xs at to;
  each = λ k. ⊎_elim
      (λ here. subst (λ v. Reaches xs (get_or xs k 0) v) (sym here.1) (subst (λ v. Reaches xs (get_or xs v 0) to) (sym here.0) there))
      (λ apart. subst (λ v. Reaches xs (get_or xs k 0) v) (sym apart.1) (reach_not xs (get_or xs k 0)))
      (set_cases xs at to k inside);
}

-- the tops after a top was made to lead on: those before, without it
pub set_top : (tops : List ℕ) (at to h : ℕ) → at < length tops → to < at → IsTop (set tops at to) h → IsTop tops h × (h ≡ at → ⊥)
set_top tops at to h inside less top = ⊎_elim
    (λ here. absurd (omega (arith, here.0, here.1, less, top)))
    (λ apart. (sym apart.1 ∙ top, apart.0))
    (set_cases tops at to h inside)

pub top_set : (tops : List ℕ) (at to h : ℕ) → at < length tops → IsTop tops h → IsTop (set tops at to) h ⊎ (h ≡ at)
top_set tops at to h inside top = ⊎_elim
    (λ here. inr here.0)
    (λ apart. inl (apart.1 ∙ top))
    (set_cases tops at to h inside)

-- to the place above it
pub set_alike : (up tops : List ℕ) (at : ℕ) → at < length tops → get_or up at 0 < at → Alike up (set tops at (get_or up at 0)) at (get_or up at 0)
set_alike up tops at inside less h top =
    let old = set_top tops at (get_or up at 0) h inside less top in
    (reach_on up at h (λ same. old.1 (sym same)), reach_step up at h)

pub set_are : (up tops : List ℕ) (at : ℕ) → at < length tops → get_or up at 0 < at → AreTops up tops → AreTops up (set tops at (get_or up at 0))
set_are up tops at inside less are = record {
  long = length-set tops at (get_or up at 0) ∙ are.long;
  above = λ k. ⊎_elim
      (λ here. subst (λ v. Reaches up k v) (sym here.1) (subst (λ v. Reaches up v (get_or up at 0)) (sym here.0) (reach_one up at)))
      (λ apart. subst (λ v. Reaches up k v) (sym apart.1) (are.above k))
      (set_cases tops at (get_or up at 0) k inside);
  alike = λ k. ⊎_elim
      (λ here. subst (λ v. Alike up (set tops at (get_or up at 0)) k v) (sym here.1) (subst (λ v. Alike up (set tops at (get_or up at 0)) v (get_or up at 0)) (sym here.0) (set_alike up tops at inside less)))
      (λ apart. subst (λ v. Alike up (set tops at (get_or up at 0)) k v) (sym apart.1)
      (alike_less up tops (set tops at (get_or up at 0)) k (get_or tops k 0) (λ h top. (set_top tops at (get_or up at 0) h inside less top).0) (are.alike k)))
      (set_cases tops at (get_or up at 0) k inside);
}

-- a climb: the place that was led to, and two steps further

pub climb_in : (old now : List ℕ) (place at : ℕ) → Falls old → place < length old → IsShortcut old now → Reaches old place at → at < length now
climb_in old now place at falls inside short there = omega (arith, reach_le old place at falls there, inside, short.long)

pub climb_next : (old now : List ℕ) (place at next : ℕ) → Falls old → place < length old → IsShortcut old now → Reaches old place at → get_or now at 0 ≡ next → next < length now
climb_next old now place at next falls inside short there is =
    omega (arith, climb_in old now place at falls inside short there, short_falls old now short falls at, is)

pub climb_less : (old now : List ℕ) (at next over : ℕ) → Falls old → IsShortcut old now → get_or now at 0 ≡ next → get_or now next 0 ≡ over → (next ≡ at → ⊥) → over < at
climb_less old now at next over falls short is is' apart =
    let fall = short_falls old now short falls in
    omega (arith, fall at, fall next, is, is', apart)

pub climb_short : (old now : List ℕ) (at next over : ℕ) → IsShortcut old now → at < length now → get_or now at 0 ≡ next → get_or now next 0 ≡ over → IsShortcut old (set now at over)
climb_short old now at next over short inside is is' =
    short_trans old now (set now at over) short (short_set now at over inside (subst (λ v. Reaches now v over) (sym is) (1, is')))

pub climb_there : (old now : List ℕ) (place at next over : ℕ) → IsShortcut old now → Reaches old place at → get_or now at 0 ≡ next → get_or now next 0 ≡ over → Reaches old place over
climb_there old now place at next over short there is is' =
    reach_trans old place at over there (short_reach old now at over short (reach_step now at over (subst (λ v. Reaches now v over) (sym is) (1, is'))))

-- each of the first so many places leads to a top
abbrev pub LeadTo : List ℕ → List ℕ → List ℕ → Type 0
LeadTo tops place heads = (x : ℕ) → x < length heads → Reaches tops (get_or place x 0) (get_or heads x 0) × IsTop tops (get_or heads x 0)

-- and one more, by the tops as they were
pub heads_more : (old now new place heads : List ℕ) (x h : ℕ) → Falls old → IsShortcut old now → IsShortcut now new → length heads ≡ x → Reaches now (get_or place x 0) h → IsTop new h → LeadTo old place heads
    → LeadTo old place (heads ++ h ∷ [])
heads_more old now new place heads x h falls short short' long there top are =
    each_push (λ k v. Reaches old (get_or place k 0) v × IsTop old v) heads h are (
      subst (λ k. Reaches old (get_or place k 0) h) (sym long) (short_reach old now (get_or place x 0) h short there),
      short_top old now h short falls (short_top now new h short' (short_falls old now short falls) top),
    )
