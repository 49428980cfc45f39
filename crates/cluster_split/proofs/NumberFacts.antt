-- Numbers for heads, one stage more; numbers that are picked, one more.
use Rattle.std.proofs.Common.{ℕ, ◌≡◌, ◌≢◌, ◌+◌, ◌<◌, ◌≤◌, Bool, true, false, List, [], ◌∷◌, ◌++◌, length, get_or, set, replicate, refl, sym, ap, ◌∙◌, subst, inl, inr, ⊎_elim, arith}
use Rattle.std.specs.Prelude.{◌⊎◌, Contains}
use Rattle.std.proofs.lemmas.Bool.{cases_eq, cases_lt, cases_Bool, MatchBool-at_true, MatchBool-at_false}
use Rattle.std.proofs.lemmas.List.{length_push, length-set, length-replicate, get_or-replicate, get_or_past, get_or-set_same, get_or-set_other, get_or_append_left, get_or_push}
use Rattle.std.proofs.lemmas.List.Elements.{All-push, Contains-push, Contains-append_left, Contains-push_cases}
use Rattle.std.proofs.lemmas.List.Quantifiers.{all_pairs_push}
use Rattle.service_model.specs.Forests.{ArePicked}
use Rattle.cluster_split.specs.Numbers.{Gives, AreNumbers, PushesIf}

-- on the way: the first so many stages have numbers, and their heads have them too
pub record Numbering (heads : List ℕ) (count last : ℕ) (given numbers : List ℕ) : Type 0 where
  pub long : length numbers ≡ count
  pub given_long : length given ≡ length heads
  pub few : last ≤ count
  pub number : (x : ℕ) → x < count → get_or given (get_or heads x 0) 0 ≡ get_or numbers x 0
  pub from_one : (x : ℕ) → x < count → 1 ≤ get_or numbers x 0
  pub up_to : (x : ℕ) → x < count → get_or numbers x 0 ≤ last
  -- a head has a number where a stage has that head
  pub known : (h : ℕ) → get_or given h 0 ≢ 0 → (x : ℕ) × (x < count) × (get_or heads x 0 ≡ h)
  -- two heads have two numbers
  pub apart : (h g : ℕ) → get_or given h 0 ≢ 0 → get_or given h 0 ≡ get_or given g 0 → h ≡ g
  -- each number stands at a stage, and the lesser ones at earlier stages
  pub there : (m : ℕ) → 1 ≤ m → m ≤ last → (x : ℕ) × (x < count) × (get_or numbers x 0 ≡ m)
  pub by_lowest : (x m : ℕ) → x < count → 1 ≤ m → m < get_or numbers x 0 → (y : ℕ) × (y < x) × (get_or numbers y 0 ≡ m)

none_given : (n h none : ℕ) → none ≡ 0 → get_or (replicate n none) h 0 ≡ none
none_given n h none is = ⊎_elim
    (λ low. get_or-replicate n h none 0 low)
    (λ past. get_or_past (replicate n none) h 0 (omega (arith, past, length-replicate n none)) ∙ sym is)
    (cases_lt h n)

pub numbering_none : (heads given : List ℕ) → (let zero : ℕ = 0 in given ≡ replicate (length heads) zero) → Numbering heads 0 0 given []
numbering_none heads given is =
    let none : (h : ℕ) → get_or given h 0 ≡ 0 = λ h. ap (λ v. get_or v h 0) is ∙ none_given (length heads) h 0 refl in
    record {
      long = refl;
      given_long = let zero : ℕ = 0 in ap length is ∙ length-replicate (length heads) zero;
      few = omega arith;
      number = λ x low. absurd (omega arith);
      from_one = λ x low. absurd (omega arith);
      up_to = λ x low. absurd (omega arith);
      known = λ h some. absurd (some (none h));
      apart = λ h g some. absurd (some (none h));
      there = λ m one most. absurd (omega arith);
      by_lowest = λ x m low. absurd (omega arith);
    }

-- one number at the end

at_old : (numbers : List ℕ) (v x count : ℕ) → length numbers ≡ count → x < count → get_or (numbers ++ v ∷ []) x 0 ≡ get_or numbers x 0
at_old numbers v x count long low = get_or_append_left numbers (v ∷ []) 0 x (omega (arith, long, low))

at_new : (numbers : List ℕ) (v x : ℕ) → length numbers ≡ x → get_or (numbers ++ v ∷ []) x 0 ≡ v
at_new numbers v x long = get_or_push numbers v 0 x long

-- a fact of each stage's number, with one stage more
each_more : (P : ℕ → ℕ → Type 0) (numbers : List ℕ) (v count : ℕ) → length numbers ≡ count → ((x : ℕ) → x < count → P x (get_or numbers x 0)) → P count v
    → (x : ℕ) → x < count + 1 → P x (get_or (numbers ++ v ∷ []) x 0)
each_more P numbers v count long each here x low = ⊎_elim
    (λ less. subst (λ w. P x w) (sym (at_old numbers v x count long less)) (each x less))
    (λ last.
    let is : count ≡ x = omega (arith, low, last) in
    subst (λ w. P x w) (sym (at_new numbers v x (long ∙ is))) (subst (λ w. P w v) is here))
    (cases_lt x count)

-- a stage with a number of before
stage_more : (numbers : List ℕ) (v m count x : ℕ) → length numbers ≡ count → x < count → get_or numbers x 0 ≡ m → get_or (numbers ++ v ∷ []) x 0 ≡ m
stage_more numbers v m count x long low is = at_old numbers v x count long low ∙ is

-- the lesser numbers still stand earlier, where all numbers below the new one are there
lowest_more : (numbers : List ℕ) (v last count : ℕ) → length numbers ≡ count → v ≤ last + 1 → ((m : ℕ) → 1 ≤ m → m ≤ last → (x : ℕ) × (x < count) × (get_or numbers x 0 ≡ m))
    → ((x m : ℕ) → x < count → 1 ≤ m → m < get_or numbers x 0 → (y : ℕ) × (y < x) × (get_or numbers y 0 ≡ m))
    → (x m : ℕ) → x < count + 1 → 1 ≤ m → m < get_or (numbers ++ v ∷ []) x 0 → (y : ℕ) × (y < x) × (get_or (numbers ++ v ∷ []) y 0 ≡ m)
lowest_more numbers v last count long most there old x m low one less = ⊎_elim
    (λ earlier.
    let y = old x m earlier one (subst (λ w. m < w) (at_old numbers v x count long earlier) less) in
    (y.0, y.1, stage_more numbers v m count y.0 long (omega (arith, y.1, earlier)) y.2))
    (λ here.
    let is : count ≡ x = omega (arith, low, here) in
    let below : m < v = subst (λ w. m < w) (at_new numbers v x (long ∙ is)) less in
    let y = there m one (omega (arith, below, most)) in
    (y.0, omega (arith, y.1, is), stage_more numbers v m count y.0 long y.1 y.2))
    (cases_lt x count)

-- a stage whose head has a number gets it
numbered_before : (heads : List ℕ) (count last : ℕ) (given numbers : List ℕ) → count < length heads → Numbering heads count last given numbers → get_or given (get_or heads count 0) 0 ≢ 0
    → Numbering heads (count + 1) last given (numbers ++ get_or given (get_or heads count 0) 0 ∷ [])
numbered_before heads count last given numbers inside old some =
    let v = get_or given (get_or heads count 0) 0 in
    let x = old.known (get_or heads count 0) some in
    let mine : get_or numbers x.0 0 ≡ get_or given (get_or heads count 0) 0 = sym (old.number x.0 x.1) ∙ ap (λ w. get_or given w 0) x.2 in
    let most : get_or given (get_or heads count 0) 0 ≤ last = omega (arith, mine, old.up_to x.0 x.1) in
    record {
      long = omega (arith, length_push numbers v, old.long);
      given_long = old.given_long;
      few = omega (arith, old.few);
      number = each_more (λ y w. get_or given (get_or heads y 0) 0 ≡ w) numbers v count old.long old.number refl;
      from_one = each_more (λ y w. 1 ≤ w) numbers v count old.long old.from_one (omega (arith, some));
      up_to = each_more (λ y w. w ≤ last) numbers v count old.long old.up_to most;
      known = λ h known. let y = old.known h known in (y.0, omega (arith, y.1), y.2);
      apart = old.apart;
      there = λ m one low. let y = old.there m one low in (y.0, omega (arith, y.1), stage_more numbers v m count y.0 old.long y.1 y.2);
      by_lowest = lowest_more numbers v last count old.long (omega (arith, most)) old.there old.by_lowest;
    }

-- a head after a number was given
given_cases : (given : List ℕ) (at v h : ℕ) → at < length given → ((h ≡ at) × (get_or (set given at v) h 0 ≡ v)) ⊎ ((h ≡ at → ⊥) × (get_or (set given at v) h 0 ≡ get_or given h 0))
given_cases given at v h inside = ⊎_elim
    (λ same. inl (same, ap (λ w. get_or (set given at v) w 0) same ∙ get_or-set_same given at v 0 inside))
    (λ other. inr (other, get_or-set_other given at h v 0 other))
    (cases_eq h at)

-- no head has a number past the last
given_most : (heads : List ℕ) (count last : ℕ) (given numbers : List ℕ) → Numbering heads count last given numbers → (h : ℕ) → get_or given h 0 ≤ last
given_most heads count last given numbers old h = ⊎_elim
    (λ none. omega (arith, none))
    (λ some. let x = old.known h some in omega (arith, old.up_to x.0 x.1, sym (old.number x.0 x.1) ∙ ap (λ w. get_or given w 0) x.2))
    (cases_eq (get_or given h 0) 0)

-- a stage whose head has no number gets the next one
numbered_anew : (heads : List ℕ) (count last at : ℕ) (given numbers : List ℕ) → count < length heads → at < length heads → at ≡ get_or heads count 0 → Numbering heads count last given numbers → get_or given at 0 ≡ 0
    → Numbering heads (count + 1) (last + 1) (set given at (last + 1)) (numbers ++ (last + 1) ∷ [])
numbered_anew heads count last at given numbers inside low is old none =
    let cases : (h : ℕ) → ((h ≡ at) × (get_or (set given at (last + 1)) h 0 ≡ last + 1)) ⊎ ((h ≡ at → ⊥) × (get_or (set given at (last + 1)) h 0 ≡ get_or given h 0)) =
    λ h. given_cases given at (last + 1) h (omega (arith, low, old.given_long)) in
    let new : (x : ℕ) → x < count → get_or heads x 0 ≡ at → ⊥ = λ x earlier same. omega (arith, old.from_one x earlier, sym (old.number x earlier) ∙ ap (λ w. get_or given w 0) same, none) in
    let most = given_most heads count last given numbers old in
    record {
      long = omega (arith, length_push numbers (last + 1), old.long);
      given_long = length-set given at (last + 1) ∙ old.given_long;
      few = omega (arith, old.few);
      number = each_more (λ y w. get_or (set given at (last + 1)) (get_or heads y 0) 0 ≡ w) numbers (last + 1) count old.long
          (λ x earlier. ⊎_elim (λ here. absurd (new x earlier here.0)) (λ apart. apart.1 ∙ old.number x earlier) (cases (get_or heads x 0)))
          (⊎_elim (λ here. here.1) (λ apart. absurd (apart.0 (sym is))) (cases (get_or heads count 0)));
      from_one = each_more (λ y w. 1 ≤ w) numbers (last + 1) count old.long old.from_one (omega arith);
      up_to = each_more (λ y w. w ≤ last + 1) numbers (last + 1) count old.long (λ x earlier. omega (arith, old.up_to x earlier)) (omega arith);
      known = λ h known. ⊎_elim
          (λ here. (count, omega arith, sym is ∙ sym here.0))
          (λ apart. let y = old.known h (λ zero. known (apart.1 ∙ zero)) in (y.0, omega (arith, y.1), y.2))
          (cases h);
      apart = λ h g known same. ⊎_elim
          (λ here. ⊎_elim
          (λ here'. here.0 ∙ sym here'.0)
          (λ other. absurd (omega (arith, most g, here.1, same, other.1)))
          (cases g))
          (λ other. ⊎_elim
          (λ here. absurd (omega (arith, most h, here.1, same, other.1)))
          (λ other'. old.apart h g (λ zero. known (other.1 ∙ zero)) (sym other.1 ∙ same ∙ other'.1))
          (cases g))
          (cases h);
      there = λ m one low. ⊎_elim
          (λ less. let y = old.there m one (omega (arith, less)) in (y.0, omega (arith, y.1), stage_more numbers (last + 1) m count y.0 old.long y.1 y.2))
          (λ here. (count, omega arith, at_new numbers (last + 1) count old.long ∙ omega (arith, low, here)))
          (cases_lt m (last + 1));
      by_lowest = lowest_more numbers (last + 1) last count old.long (omega arith) old.there old.by_lowest;
    }

pub numbering_more : (heads : List ℕ) (count last last' : ℕ) (given given' numbers : List ℕ) → count < length heads → get_or heads count 0 < length heads → Numbering heads count last given numbers
    → Gives (get_or heads count 0) last given given' last' → Numbering heads (count + 1) last' given' (numbers ++ get_or given' (get_or heads count 0) 0 ∷ [])
numbering_more heads count last last' given given' numbers inside low old (inl (some, same, last_same)) =
    subst (λ (g : List ℕ). Numbering heads (count + 1) last' g (numbers ++ get_or g (get_or heads count 0) 0 ∷ [])) (sym same)
    (subst (λ m. Numbering heads (count + 1) m given (numbers ++ get_or given (get_or heads count 0) 0 ∷ [])) (sym last_same) (numbered_before heads count last given numbers inside old some))
numbering_more heads count last last' given given' numbers inside low old (inr (none, is, next)) =
    let at = get_or heads count 0 in
    let here : get_or given' (get_or heads count 0) 0 ≡ last + 1 = ap (λ (v : List ℕ). get_or v (get_or heads count 0) 0) is ∙ get_or-set_same given (get_or heads count 0) (last + 1) 0 (omega (arith, low, old.given_long)) in
    subst (λ v. Numbering heads (count + 1) last' given' (numbers ++ v ∷ [])) (sym here)
    (subst (λ (g : List ℕ). Numbering heads (count + 1) last' g (numbers ++ (last + 1) ∷ [])) (sym is)
    (subst (λ m. Numbering heads (count + 1) m (set given (get_or heads count 0) (last + 1)) (numbers ++ (last + 1) ∷ [])) (sym next) (numbered_anew heads count last at given numbers inside low refl old none)))

pub numbering_all : (heads : List ℕ) (count last : ℕ) (given numbers : List ℕ) → count ≡ length heads → Numbering heads count last given numbers → AreNumbers heads numbers
numbering_all heads count last given numbers end all = record {
  long = all.long ∙ end;
  same = λ x y low high.
      let one : x < count = omega (arith, low, end) in
      let two : y < count = omega (arith, high, end) in (
        λ is. all.apart (get_or heads x 0) (get_or heads y 0) (λ zero. omega (arith, all.from_one x one, all.number x one, zero)) (all.number x one ∙ is ∙ sym (all.number y two)),
        λ is. sym (all.number x one) ∙ ap (λ w. get_or given w 0) is ∙ all.number y two,
      );
  from_one = λ x low. all.from_one x (omega (arith, low, end));
  by_lowest = λ x m low one less. all.by_lowest x m (omega (arith, low, end)) one less;
}

-- picked numbers

pub picked_none : (P : ℕ → Type 0) → ArePicked P 0 []
picked_none P = record {
  rising = λ i j d less inside. absurd (omega arith);
  low = λ k d inside. absurd (omega arith);
  only = λ j h. absurd (omega (arith, h.1));
  all = λ j low. absurd (omega arith);
}

picked_push : (P : ℕ → Type 0) (n : ℕ) (xs : List ℕ) → ArePicked P n xs → P n → ArePicked P (n + 1) (xs ++ n ∷ [])
picked_push P n xs old here = record {
  rising = all_pairs_push (λ i j. i < j) xs n old.rising old.low;
  low = All-push (λ j. j < n + 1) xs n (λ k d inside. omega (arith, old.low k d inside)) (omega arith);
  only = λ j h. ⊎_elim (old.only j) (λ same. subst P same here) (Contains-push_cases xs n j h);
  all = λ j low p. ⊎_elim
      (λ less. Contains-append_left xs (n ∷ []) j (old.all j less p))
      (λ last. let is : n ≡ j = omega (arith, low, last) in subst (λ v. Contains (xs ++ n ∷ []) v) is (Contains-push xs n))
      (cases_lt j n);
}

picked_same : (P : ℕ → Type 0) (n : ℕ) (xs : List ℕ) → ArePicked P n xs → (P n → ⊥) → ArePicked P (n + 1) xs
picked_same P n xs old not_here = record {
  rising = old.rising;
  low = λ k d inside. omega (arith, old.low k d inside);
  only = old.only;
  all = λ j low p. ⊎_elim
      (λ less. old.all j less p)
      (λ last. let is : j ≡ n = omega (arith, low, last) in absurd (not_here (subst P is p)))
      (cases_lt j n);
}

pub picked_if : (P : ℕ → Type 0) (n : ℕ) (xs xs' : List ℕ) (wanted : Bool) → ArePicked P n xs → (wanted ≡ true → P n) → (wanted ≡ false → P n → ⊥) → PushesIf wanted n xs xs' → ArePicked P (n + 1) xs'
picked_if P n xs xs' wanted old on off put = ⊎_elim
    (λ t. subst (λ (v : List ℕ). ArePicked P (n + 1) v) (sym (MatchBool-at_true _ _ t put)) (picked_push P n xs old (on t)))
    (λ f. subst (λ (v : List ℕ). ArePicked P (n + 1) v) (sym (MatchBool-at_false _ _ f put)) (picked_same P n xs old (off f)))
    (cases_Bool wanted)
