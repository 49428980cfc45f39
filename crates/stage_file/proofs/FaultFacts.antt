-- The first rule of several, and of records in their order.
use Rattle.std.proofs.Common.{◌≡◌, ℕ, zero, suc, ◌+◌, ◌-◌, ◌<◌, Option, Some, None, List, [], ◌∷◌, ◌++◌, Err, refl, arith, inl, inr, add-one, zero-add, suc-add, ◌∙◌}
use Rattle.std.proofs.lemmas.Bool.{cases_lt}
use Rattle.service_model.specs.Search.{or_else, first_of, first_below}
use Rattle.stage_file.specs.declared.fault.FileFault.{FileFault}
use Rattle.stage_file.specs.declared.fault.ReadFault.{ReadFault}
use Rattle.stage_file.specs.declared.fault.ReadFault.TheVariants.{Fault, NoMemory}
use Rattle.stage_file.specs.Faults.{Reads}

-- the first of some rules is the first of them and more
pub found_first : {A : Type 0} (front back : List (Option A)) (x : A) → first_of front ≡ Some x → first_of (front ++ back) ≡ Some x
found_first [] back x found = cc
found_first (None ∷ front) back x found = found_first front back x found
found_first (Some y ∷ front) back x found = found

-- where some rules hold, the first is among those behind
pub found_behind : {A : Type 0} (front back : List (Option A)) → first_of front ≡ None → first_of (front ++ back) ≡ first_of back
found_behind [] back none = refl
found_behind (None ∷ front) back none = found_behind front back none
found_behind (Some y ∷ front) back none = cc

pub first_below_step : {A : Type 0} (f : ℕ → Option A) (n : ℕ) → first_below f n ≡ None → first_below f (n + 1) ≡ f n
first_below_step f n before = rw add-one (rw before refl)

first_below_stays : {A : Type 0} (f : ℕ → Option A) (more n : ℕ) (x : A) → first_below f n ≡ Some x → first_below f (more + n) ≡ Some x
first_below_stays f zero n x found = rw (zero-add n) found
first_below_stays f (suc more) n x found = rw (suc-add more n) (rw (first_below_stays f more n x found) refl)

-- where no record below k fails, that of k is the first
pub first_below_found : {A : Type 0} (f : ℕ → Option A) (n k : ℕ) (x : A) → first_below f k ≡ None → k < n → f k ≡ Some x → first_below f n ≡ Some x
first_below_found f n k x before within here =
    let found : first_below f (k + 1) ≡ Some x = first_below_step f k before ∙ here in
    let far : n ≡ (n - (k + 1)) + (k + 1) = omega arith in
    rw far (first_below_stays f (n - (k + 1)) (k + 1) x found)

or_else_first : {A : Type 0} (a b : Option A) → or_else a b ≡ None → a ≡ None
or_else_first None b none = refl
or_else_first (Some x) b none = cc

or_else_second : {A : Type 0} (a b : Option A) → or_else a b ≡ None → b ≡ None
or_else_second None b none = none
or_else_second (Some x) b none = cc

-- where no record fails, each passes
pub none_below : {A : Type 0} (f : ℕ → Option A) (n : ℕ) → first_below f n ≡ None → (k : ℕ) → k < n → f k ≡ None
none_below f zero none k within = absurd (omega arith)
none_below f (suc n) none k within =
    let last : f n ≡ None = or_else_second (first_below f n) (f n) none in
    let before : first_below f n ≡ None = or_else_first (first_below f n) (f n) none in
    elim (cases_lt k n) [ inl less ↦ none_below f n before k less | inr more ↦ (let same : k ≡ n = omega arith in rw same last) ]

-- each rule of a list holds
abbrev pub AllNone : {A : Type 0} → List (Option A) → Type 0
AllNone [] = Unit {0}
AllNone (x ∷ xs) = (x ≡ None) × AllNone xs

pub first_of_none : {A : Type 0} (xs : List (Option A)) → first_of xs ≡ None → AllNone xs
first_of_none [] none = tt
first_of_none (None ∷ xs) none = (refl, first_of_none xs none)
first_of_none (Some x ∷ xs) none = cc

-- a step that stops stops the whole, where its fault is the whole's
pub reads_stop : {X Y : Type 0} (part whole : Option FileFault) (x : X) (y : Y) (e : ReadFault) → ((f : FileFault) → part ≡ Some f → whole ≡ Some f) → Reads part x (Err e) → Reads whole y (Err e)
reads_stop part whole x y (Fault f) same stops = same f stops
reads_stop part whole x y NoMemory same stops = stops

-- a record that stops a file's reading stops it, where no record before fails
pub stops_below : {X Y : Type 0} (f : ℕ → Option FileFault) (n k : ℕ) (here : Option FileFault) (x : X) (y : Y) (e : ReadFault)
    → first_below f k ≡ None → k < n → f k ≡ here → Reads here x (Err e) → Reads (first_below f n) y (Err e)
stops_below f n k here x y e before within at stops =
    reads_stop here (first_below f n) x y e (λ fault found. first_below_found f n k fault before within (at ∙ found)) stops
