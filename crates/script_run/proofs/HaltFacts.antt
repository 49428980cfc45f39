-- What carrying out a script leaves of the counts and of other names.
use Rattle.std.proofs.Common.{◌≤◌, ℕ, ◌+◌, List, ◌++◌, ◌∷◌, [], length, Option, Result, Ok, Err, arith, inl, inr}
use Rattle.cert_files.specs.Certificates.{bytes_in}
use Rattle.edit_reuse.specs.Sessions.{State}
use Rattle.script_run.specs.declared.halt.Halt.{Halt}
use Rattle.script_run.specs.declared.halt.Halt.TheVariants as halt
use Rattle.script_run.specs.Parts.{Part}
use Rattle.script_run.specs.Runs.{rows_in, KeepsUnnumbered}
use Rattle.script_run.specs.Halts.{Outside, IsGiven, IsBegun, IsUnput, IsLeftAt, IsCarriedOut, IsHalted, CarryCase}
use Rattle.script_run.proofs.RunFacts.{parts_keep, begun_keep}

-- no count falls
pub record IsLaterOutside (o : Outside) : Type 0 where
  pub writes : o.writes ≤ o.writes_after
  pub faults : o.faults ≤ o.faults_after

given_later : (name : Option (List ℕ)) (parts : List Part) (rows : List (List (List ℕ))) (o : Outside) → IsGiven name parts rows o → IsLaterOutside o
given_later name parts rows o given = record { writes = (let same = given.writes in omega (arith, same)); faults = (let same = given.faults in omega (arith, same)) }

begun_later : (name : Option (List ℕ)) (parts : List Part) (part : Part) (o : Outside) → IsBegun name parts part o → IsLaterOutside o
begun_later name parts part o begun = record { writes = begun.writes; faults = (let same = begun.faults in omega (arith, same)) }

unput_later : (name : Option (List ℕ)) (parts : List Part) (part : Part) (o : Outside) → IsUnput name parts part o → IsLaterOutside o
unput_later name parts part o unput = record { writes = (let same = unput.writes in omega (arith, same)); faults = unput.faults }

left_later : (h : Halt) (at : State) (number : ℕ) (later : List (List (List ℕ))) (name : Option (List ℕ)) (parts : List Part) (o : Outside) → IsLeftAt h at number later name parts o → IsLaterOutside o
left_later halt.Shelf at number later name parts o left = begun_later name parts left.0.0 o left.0.2
left_later halt.Sink at number later name parts o left = unput_later name parts left.0.0 o left.0.2
left_later halt.NoMemory at number later name parts o (inl given) = given_later name parts (rows_in parts) o given
left_later halt.NoMemory at number later name parts o (inr (inl begun)) = begun_later name parts begun.0 o begun.2
left_later halt.NoMemory at number later name parts o (inr (inr unput)) = unput_later name parts unput.0 o unput.2

pub halted_later : (h : Halt) (s : State) (script : List (List (List ℕ))) (name : Option (List ℕ)) (o : Outside) → IsHalted h s script name o → IsLaterOutside o
halted_later h s script name o is = left_later h is.at (length is.done + 1) is.later name is.parts o is.left

pub carried_later : (s last : State) (script : List (List (List ℕ))) (name : Option (List ℕ)) (o : Outside) (filled : ℕ) → IsCarriedOut s last script name o filled → IsLaterOutside o
carried_later s last script name o filled is = given_later name is.parts _ o is.given

-- names without a number keep what they hold
left_keeps : (h : Halt) (at : State) (number : ℕ) (later : List (List (List ℕ))) (name : Option (List ℕ)) (parts : List Part) (o : Outside) → IsLeftAt h at number later name parts o → KeepsUnnumbered name o.held o.held_after
left_keeps halt.Shelf at number later name parts o left = begun_keep name parts (bytes_in left.0.0.cert) o.held o.held_after left.0.2.held
left_keeps halt.Sink at number later name parts o left = parts_keep name (parts ++ left.0.0 ∷ []) o.held o.held_after left.0.2.held
left_keeps halt.NoMemory at number later name parts o (inl given) = parts_keep name parts o.held o.held_after given.held
left_keeps halt.NoMemory at number later name parts o (inr (inl begun)) = begun_keep name parts (bytes_in begun.0.cert) o.held o.held_after begun.2.held
left_keeps halt.NoMemory at number later name parts o (inr (inr unput)) = parts_keep name (parts ++ unput.0 ∷ []) o.held o.held_after unput.2.held

pub carry_keeps : (s last : State) (script : List (List (List ℕ))) (name : Option (List ℕ)) (o : Outside) (ticks ticked : ℕ) (r : Result (Unit {0}) Halt) → CarryCase s last script name o ticks ticked r → KeepsUnnumbered name o.held o.held_after
carry_keeps s last script name o ticks ticked (Ok done) is = (let out = is.2 in parts_keep name out.parts o.held o.held_after out.given.held)
carry_keeps s last script name o ticks ticked (Err h) is = left_keeps h is.at (length is.done + 1) is.later name is.parts o is.left
