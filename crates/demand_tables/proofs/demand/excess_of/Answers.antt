use Rattle.std.proofs.Common.{◌≡◌, false, ap, ◌∙◌, subst}
use Rattle.stage_file.specs.declared.stages.Bound.{Bound}
use Rattle.stage_file.specs.declared.stages.Bound.TheVariants.{Named, Sum, Pool}
use Rattle.stage_file.specs.declared.stages.StageRow.{StageRow}
use Rattle.demand_tables.specs.Demand.{no_row, row_at, table_names}
use Rattle.demand_tables.specs.DemandFaults.{lacks_table, asks_customers}
use Rattle.demand_tables.proofs.ExcessLaws.{rules_hold}
use Rattle.demand_tables.proofs.MadeFacts.{named_some}
use Rattle.demand_tables.proofs.demand.excess_of.Goals as goal

pub named_list-requires : goal.named_list-requires
named_list-requires c =
    let raw = c.args.lookups.now.raw.now in
    let bound : (row_at c.args.lookups.now.raw.now c.args.stage).bound ≡ Named c.in-Named.name = ap (λ (s : StageRow). s.bound) (c.get.ensures.whatever_else no_row) ∙ c.in-Named.is in
    let rules = rules_hold raw c.args.stage c.requires.bounds c.requires.there in
    rw c.as_slice.ensures (named_some raw c.in-Named.name (subst (λ (b : Bound). lacks_table (table_names c.args.lookups.now.raw.now.tables) b ≡ false) bound rules.table))

pub sum_list-requires-clause-some : goal.sum_list-requires-clause-some
unfolding asks_customers
sum_list-requires-clause-some c =
    let raw = c.args.lookups.now.raw.now in
    let bound : (row_at c.args.lookups.now.raw.now c.args.stage).bound ≡ Sum = ap (λ (s : StageRow). s.bound) (c.get.ensures.whatever_else no_row) ∙ c.in-Sum.is in
    let rules = rules_hold raw c.args.stage c.requires.bounds c.requires.there in
    rw c.arcs_from-arcs.ensures (rules.customers (ap asks_customers bound))

pub pooled_list-requires-clause-some : goal.pooled_list-requires-clause-some
unfolding asks_customers
pooled_list-requires-clause-some c =
    let raw = c.args.lookups.now.raw.now in
    let bound : (row_at c.args.lookups.now.raw.now c.args.stage).bound ≡ Pool = ap (λ (s : StageRow). s.bound) (c.get.ensures.whatever_else no_row) ∙ c.in-Pool.is in
    let rules = rules_hold raw c.args.stage c.requires.bounds c.requires.there in
    rw c.arcs_from-arcs.ensures (rules.customers (ap asks_customers bound))
