-- The report on a plan: what is told of each stage.
use Rattle.std.specs.Prelude.{ℕ, ◌+◌, ◌-◌, ◌*◌, List, [], ◌∷◌, length, map, slice_index, codes, decimal}
use Rattle.std.specs.List.{range_with_len}
use Rattle.service_model.specs.declared.plan.Plan.{Plan}
use Rattle.service_model.specs.Net.{Net, stage_at}
use Rattle.service_model.specs.Plans.{inbound_at, outbound_at}
use Rattle.network_check.specs.declared.checked.Checked.{Checked}
use Rattle.network_check.specs.Checked.{name_at, unit_at, excess_at}
use Rattle.stock_report.specs.declared.report.StockLine.{StockLine}

-- the net replenishment time of a stage
abbrev pub net_time : Net → Plan → ℕ → ℕ
net_time n p j = inbound_at p j + (stage_at n j).lead - outbound_at p j

-- the stock that covers it
abbrev pub stock_at : Checked → Plan → ℕ → ℕ
stock_at c p j = slice_index (excess_at c j) (net_time c.network p j)

-- the report on one stage: its name, its times, its stock and what that costs
abbrev pub report_row : Checked → Plan → ℕ → List (List ℕ)
report_row c p j =
    name_at c j
    ∷ decimal (inbound_at p j)
    ∷ decimal (outbound_at p j)
    ∷ decimal (net_time c.network p j)
    ∷ decimal (stock_at c p j)
    ∷ decimal (unit_at c j * stock_at c p j)
    ∷ []

-- the header of the reports
abbrev pub report_header : List (List ℕ)
report_header = codes "stage" ∷ codes "inbound" ∷ codes "outbound" ∷ codes "time" ∷ codes "stock" ∷ codes "cost" ∷ []

-- the reports on all stages, in their order
abbrev pub report_rows : Checked → Plan → List (List (List ℕ))
report_rows c p = map (report_row c p) (range_with_len 0 (length c.network.stages))

-- a stage's times, its stock and what that costs, as numbers
abbrev pub stock_line : Checked → Plan → ℕ → StockLine
stock_line c p j = record {
  inbound = inbound_at p j;
  outbound = outbound_at p j;
  time = net_time c.network p j;
  stock = stock_at c p j;
  cost = unit_at c j * stock_at c p j;
}

-- a name with its numbers, as fields
abbrev pub line_row : List ℕ → StockLine → List (List ℕ)
line_row name line =
    name ∷ decimal line.inbound ∷ decimal line.outbound ∷ decimal line.time ∷ decimal line.stock ∷ decimal line.cost ∷ []
