use Rattle.std.proofs.Common.{◌≡◌, ◌≤◌, drop, All}
use Rattle.serde_json.specs.View.{items_view}
use Rattle.bound_cert.specs.Fields.{wholes_among}
use Rattle.bound_cert.proofs.ReadFacts.{with_front}
use Rattle.bound_cert.proofs.values.wholes_among.Given as goal

abbrev pub invariant-values : goal.invariant-values
invariant-values l = record {
  front : with_front l.found.items (wholes_among l.most (items_view (drop l.value-index l.values))) ≡ wholes_among l.most (items_view l.values);
  within : All (λ n. n ≤ l.most) l.found.items;
}
