-- What a put does to what was written.
use Rattle.std.specs.Prelude.{◌≡◌, ℕ, List, ◌++◌, take, Option, option_map}

-- a piece follows what was written, where that is told
abbrev pub put_behind : List ℕ → Option (List ℕ) → Option (List ℕ)
put_behind piece = option_map (λ written. written ++ piece)

-- after a refused put a prefix of the piece follows what was written
abbrev pub PutPart : List ℕ → Option (List ℕ) → Option (List ℕ) → Type 0
PutPart piece old new = (n : ℕ) × (new ≡ put_behind (take n piece) old)
