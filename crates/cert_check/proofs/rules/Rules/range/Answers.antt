use Rattle.std.proofs.Common.{sym, ap, ◌∙◌, subst}
use Rattle.service_model.specs.Net.{Net}
use Rattle.service_model.specs.Ranges.{whole_of, HasIntervals}
use Rattle.service_model.specs.CertRanges.{node_range}
use Rattle.service_model.specs.Held.{cuts_of}
use Rattle.cert_check.proofs.RangesFacts.{first_range}
use Rattle.cert_check.proofs.rules.Rules.range.Goals as goal

pub returns-then-node-eq0 : goal.returns-then-node-eq0
returns-then-node-eq0 c =
    let n = c.args.self.now in
    let cuts = cuts_of n c.args.came.now.held in
    record {
      range = c.self.invariant.whole ∙ ap whole_of c.self.view_is ∙ sym (first_range n cuts) ∙ ap (node_range n cuts) (sym c.if-node-eq0.true);
      intervals = subst (λ (m : Net). HasIntervals m c.self.inside.whole) c.self.view_is c.self.invariant.intervals;
    }
