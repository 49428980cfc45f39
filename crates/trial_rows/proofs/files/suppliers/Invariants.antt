use Rattle.std.proofs.Common.{◌≡◌, ℕ, ◌<◌, false, length, take, get_or}
use Rattle.trial_rows.specs.Trials.{is_supplier}
use Rattle.trial_rows.proofs.files.suppliers.Given as goal

abbrev pub invariant-arcs : goal.invariant-arcs
invariant-arcs l = (length l.marks.items ≡ l.fn.stages) × ((j : ℕ) → j < l.fn.stages → get_or l.marks.items j false ≡ is_supplier (take l.arc-index l.arcs) j)
