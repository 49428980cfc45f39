-- The root rounded down is the root rounded up where its square is n, and else one more is.
use Rattle.std.proofs.Common.{arith}
use Rattle.gsm_nums.specs.Root.{IsRootUp}
use Rattle.gsm_nums.proofs.RootFacts.{root_down, root_one_more, root_up_value}
use Rattle.gsm_nums.proofs.root.root_up.Goals as goal
use Rattle.gsm_nums.proofs.root.root_up.Goals.{then-down-n, else-down-n}

pub returns : goal.returns
returns c =
    let is : IsRootUp c.args.n c.if-down-n.up = elim c.if-down-n.branch [
      | then-down-n w ↦ rw w.up-is (root_one_more c.args.n c.isqrt-down.result (omega arith) (omega arith))
      | else-down-n w ↦ rw w.up-is (root_down c.args.n c.isqrt-down.result (omega arith))
    ] in
    record { value = root_up_value c.args.n c.if-down-n.up is; root = is.root; least = is.least }
