use Rattle.std.proofs.Common.{sym, subst}
use Rattle.service_model.specs.declared.cert.Verdict.{Verdict}
use Rattle.service_model.specs.declared.cert.Item.TheVariants.{End as EndItem}
use Rattle.service_model.specs.CertRules.{Keeps}
use Rattle.cert_check.specs.Arrivals.{Arrivals}
use Rattle.cert_check.specs.Keeping.{IsKept}
use Rattle.cert_check.proofs.KeepFacts.{end_kept}
use Rattle.cert_check.proofs.keep.keep_end.Goals as goal

pub returns-clause-kept : goal.returns-clause-kept
returns-clause-kept c =
    let n = c.args.rules.now in
    let keeps = subst (λ (v : Verdict). Keeps n c.args.came.now.held (EndItem v)) (sym c.in_ok-copied.ensures) c.requires.keeps in
    let now = end_kept n c.args.came.now c.in_ok-copied.copied c.args.found.now c.requires.kept keeps in
    subst (λ (a : Arrivals). IsKept n a c.args.found.now) (sym c.set_verdict.ensures) now
