-- What a shelf holds, and what its calls do to it.
use Rattle.std.specs.Prelude.{◌≡◌, ◌<◌, ◌≤◌, ◌⊎◌, ℕ, List, [], ◌++◌, length, take, drop, min, Option, unwrap_or, option_map}
use Rattle.std.specs.Ordering.{nat_cmp}
use Rattle.std.specs.Cmp.Lexicographic.{slice_cmp}
use Rattle.std.specs.FinMap as map

-- bytes by names
abbrev pub Held : Type 0
Held = map.FinMap (slice_cmp nat_cmp) (List ℕ)

-- the bytes of a name, and none where it is missing
abbrev pub file_bytes : Held → List ℕ → List ℕ
file_bytes held name = unwrap_or (map.get held name) []

-- a fetch gave bytes from a place on: no more than fit and are left, and at least one where one is left
pub record Fetched (file : List ℕ) (at : ℕ) (buffer : List ℕ) (count : ℕ) : Type 0 where
  pub fits : count ≤ length buffer
  pub bytes : take count buffer ≡ take count (drop at file)
  pub left : count ≤ length (drop at file)
  pub some : 0 < length (drop at file) → 0 < count

-- how many bytes of a file from a place on fit into a buffer and are left
abbrev pub most_fetched : List ℕ → ℕ → List ℕ → ℕ
most_fetched file at buffer = min (length buffer) (length (drop at file))

-- a name holds these bytes and no others, and the other names stay
abbrev pub with_bytes : Held → List ℕ → List ℕ → Held
with_bytes held name bytes = map.insert held name bytes

-- a piece follows the bytes of a name, and the other names stay
abbrev pub with_piece : Held → List ℕ → List ℕ → Held
with_piece held name piece = map.insert held name (file_bytes held name ++ piece)

-- where it is told what a shelf holds: a name holds these bytes and no others
abbrev pub put_in : List ℕ → List ℕ → Option Held → Option Held
put_in name bytes = option_map (λ held. with_bytes held name bytes)

-- where it is told what a shelf holds: a piece follows the bytes of a name
abbrev pub add_to : List ℕ → List ℕ → Option Held → Option Held
add_to name piece = option_map (λ held. with_piece held name piece)

-- after a refused append nothing has changed, or a prefix of the piece follows the name's bytes
abbrev pub AddedPart : List ℕ → List ℕ → Option Held → Option Held → Type 0
AddedPart name piece old new = (new ≡ old) ⊎ ((n : ℕ) × (new ≡ add_to name (take n piece) old))

-- after a refused create nothing has changed, or the name holds no bytes
abbrev pub MaybeEmptied : List ℕ → Option Held → Option Held → Type 0
MaybeEmptied name old new = (new ≡ old) ⊎ (new ≡ put_in name [] old)
