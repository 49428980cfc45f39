-- A search that marks each stage that it puts into its queue.
use Rattle.std.specs.Prelude.{◌≡◌, ℕ, ◌+◌, ◌≤◌, ◌<◌, Bool, true, false, not, ◌⊎◌, List, [], ◌∷◌, ◌++◌, length, slice_index_or, slice_set, take, Contains, count_by, MatchBool}

-- the marked stages are those in the queue, each once
pub record Marks (seen : List Bool) (queue : List ℕ) : Type 0 where
  pub there : (q : ℕ) → Contains queue q → q < length seen
  pub marked : (q : ℕ) → Contains queue q → slice_index_or seen q false ≡ true
  pub only : (q : ℕ) → slice_index_or seen q false ≡ true → Contains queue q
  pub counts : count_by (λ b. not b) seen + length queue ≡ length seen

-- the stage is marked and comes to the queue's end, unless it was marked
abbrev pub MarksOne : ℕ → List Bool → List Bool → List ℕ → List ℕ → Type 0
MarksOne stage seen seen' queue queue' =
    MatchBool (slice_index_or seen stage false) ((seen' ≡ seen) × (queue' ≡ queue)) ((seen' ≡ slice_set seen stage true) × (queue' ≡ queue ++ stage ∷ []))

-- those of the stages that were not marked come to the queue's end
pub record MarksAll (stages : List ℕ) (seen seen' : List Bool) (queue queue' : List ℕ) : Type 0 where
  pub marks : Marks seen' queue'
  pub long : length seen' ≡ length seen
  pub longer : length queue ≤ length queue'
  pub front : take (length queue) queue' ≡ queue
  pub all : (q : ℕ) → Contains stages q → Contains queue' q
  pub only : (q : ℕ) → Contains queue' q → Contains queue q ⊎ Contains stages q
