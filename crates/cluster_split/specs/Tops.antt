-- Places that lead to earlier places, and the tops among them.
use Rattle.std.specs.Prelude.{◌≡◌, ℕ, zero, suc, ◌≤◌, ◌⊎◌, ◌↔◌, List, length, slice_index}

-- where so many steps along the numbers lead from place k
abbrev pub reached : List ℕ → ℕ → ℕ → ℕ
reached numbers k zero = k
reached numbers k (suc n) = reached numbers (slice_index numbers k) n

-- steps along the numbers lead from place k to place h
abbrev pub Reaches : List ℕ → ℕ → ℕ → Type 0
Reaches numbers k h = (n : ℕ) × (reached numbers k n ≡ h)

-- no step leads to a later place
abbrev pub Falls : List ℕ → Type 0
Falls numbers = (k : ℕ) → slice_index numbers k ≤ k

-- no step leads on from place h
abbrev pub IsTop : List ℕ → ℕ → Type 0
IsTop numbers h = slice_index numbers h ≡ h

-- two places of a forest stand at or below the same tops
abbrev pub Alike : List ℕ → List ℕ → ℕ → ℕ → Type 0
Alike up tops k m = (h : ℕ) → IsTop tops h → (Reaches up k h ↔ Reaches up m h)

-- each place leads to a place above it in the forest, at or below the same tops
pub record AreTops (up tops : List ℕ) : Type 0 where
  pub long : length tops ≡ length up
  pub above : (k : ℕ) → Reaches up k (slice_index tops k)
  pub alike : (k : ℕ) → Alike up tops k (slice_index tops k)

-- each place leads where it led before, in one step or more
pub record IsShortcut (old new : List ℕ) : Type 0 where
  pub long : length new ≡ length old
  pub each : (k : ℕ) → Reaches old (slice_index old k) (slice_index new k)

-- two places have one root above them
abbrev pub SameTree : List ℕ → ℕ → ℕ → Type 0
SameTree up k m = (r : ℕ) × IsTop up r × Reaches up k r × Reaches up m r

-- place h stands above one of two places, and not above the other
abbrev pub Parts : List ℕ → ℕ → ℕ → ℕ → Type 0
Parts up h k m = (Reaches up k h × ¬ Reaches up m h) ⊎ (Reaches up m h × ¬ Reaches up k h)

-- two places come below the same tops, and only what parts them is no top any more
pub record Merges (up old new : List ℕ) (k m : ℕ) : Type 0 where
  pub alike : Alike up new k m
  pub shrinks : (h : ℕ) → IsTop new h → IsTop old h
  pub only : (h : ℕ) → IsTop old h → ¬ IsTop new h → Parts up h k m

-- a top is a top no more; what was below it alone is now below a top above it
pub record Lifts (up old new : List ℕ) (k m : ℕ) : Type 0 where
  pub top : IsTop new m
  pub above : Reaches up k m
  pub lower : m ≤ slice_index up k
  pub alike : Alike up new k m
  pub shrinks : (h : ℕ) → IsTop new h → IsTop old h
  pub stays : (h : ℕ) → IsTop old h → (IsTop new h) ⊎ (h ≡ k)
