use Rattle.std.proofs.Common.{sym, subst}
use Rattle.cert_check.specs.Arrivals.{Arrivals}
use Rattle.cert_check.specs.Keeping.{IsKept}
use Rattle.cert_check.proofs.KeepFacts.{head_kept}
use Rattle.cert_check.proofs.keep.keep_head.Goals as goal

pub returns-clause-kept : goal.returns-clause-kept
returns-clause-kept c =
    let n = c.args.rules.now in
    let now = head_kept n c.args.came.now c.args.head c.args.found.now c.requires.kept c.requires.keeps in
    subst (λ (a : Arrivals). IsKept n a c.args.found.now) (sym c.set_head.ensures) now
