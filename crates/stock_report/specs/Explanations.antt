-- What is told of an accepted certificate: how its ranges were cut, which arcs are tight, and which limits bind.
use Rattle.std.specs.Prelude.{◌≡◌, ℕ, ◌+◌, ◌<◌, ◌==◌, Bool, List, [], ◌∷◌, ◌++◌, length, map, filter, find, codes, decimal, All, Option, Some, None, IfSome, IsSome, if◌then◌else◌}
use Rattle.std.specs.List.{range_with_len}
use Rattle.service_model.specs.declared.limits.TheConstants.{INF}
use Rattle.service_model.specs.declared.stage.SupplyArc.{SupplyArc}
use Rattle.service_model.specs.declared.plan.Plan.{Plan}
use Rattle.service_model.specs.declared.cert.Node.{Node}
use Rattle.service_model.specs.declared.cert.Split.{Split}
use Rattle.service_model.specs.declared.cert.Cert.{Cert}
use Rattle.service_model.specs.Net.{Net, stage_at}
use Rattle.service_model.specs.Plans.{Feasible, HasTimes, inbound_at, outbound_at}
use Rattle.service_model.specs.Nodes.{bound_of}
use Rattle.service_model.specs.Held.{node_at, relaxed_at, cut_by}
use Rattle.network_check.specs.declared.checked.Checked.{Checked}
use Rattle.network_check.specs.Checked.{name_at}
use Rattle.stock_report.specs.Outcomes.{valid_row}

-- a bound, and none where no plan of the range is feasible
abbrev pub bound_text : ℕ → List ℕ
bound_text bound = if bound == INF then codes "none" else decimal bound

-- the bound of node k
abbrev pub bound_in : Cert → ℕ → ℕ
bound_in cert k = bound_of cert.tables (node_at cert.nodes k).roots

-- the split that names node k, if there is one
abbrev pub split_of_node : List Split → ℕ → Option Split
split_of_node splits k = find (λ s. s.node == k) splits

-- what became of a node: it is a leaf, or its range was cut after an outbound time of the arc's supplier
abbrev pub fate_of : Checked → Cert → Option Split → List (List ℕ)
fate_of c cert None = codes "leaf" ∷ []
fate_of c cert (Some s) =
    codes "split" ∷ name_at c s.supplier ∷ name_at c s.customer ∷ decimal (cut_by c.network cert.nodes s).last ∷ []

-- what is told of node k: its bound, and what became of it
abbrev pub node_row : Checked → Cert → ℕ → List (List ℕ)
node_row c cert k = codes "node" ∷ decimal k ∷ bound_text (bound_in cert k) ∷ fate_of c cert (split_of_node cert.splits k)

-- the customer waits for the supplier's time and not a period longer
abbrev pub is_tight : Plan → SupplyArc → Bool
is_tight p a = outbound_at p a.supplier + a.transit == inbound_at p a.customer

-- what is told of a tight arc: its ends, and the time that the supplier quotes
abbrev pub tight_row : Checked → Plan → SupplyArc → List (List ℕ)
tight_row c p a = codes "tight" ∷ name_at c a.supplier ∷ name_at c a.customer ∷ decimal (outbound_at p a.supplier) ∷ []

-- the stage quotes the greatest outbound time that it may
abbrev pub is_at_limit : Net → Plan → ℕ → Bool
is_at_limit n p j = outbound_at p j == (stage_at n j).most

-- what is told of a limit that binds: the stage, and the time that it quotes
abbrev pub limit_row : Checked → Plan → ℕ → List (List ℕ)
limit_row c p j = codes "limit" ∷ name_at c j ∷ decimal (outbound_at p j) ∷ []

-- what is told of a plan, where there is one: its tight arcs, and then the limits that bind
abbrev pub plan_notes : Checked → Option Plan → List (List (List ℕ))
plan_notes c None = []
plan_notes c (Some p) =
    map (tight_row c p) (filter (is_tight p) c.network.arcs)
    ++ map (limit_row c p) (filter (is_at_limit c.network p) (range_with_len 0 (length c.network.stages)))

-- what is told of an accepted certificate: its verdict, each node, and what binds its plan
abbrev pub explain_rows : Checked → Cert → List (List (List ℕ))
explain_rows c cert =
    valid_row c.network cert.verdict
    ∷ map (node_row c cert) (range_with_len 0 (length cert.nodes))
    ++ plan_notes c cert.verdict.plan

-- a split names a node with a relaxed plan, and two stages
pub record IsExplainedSplit (n : Net) (nodes : List Node) (s : Split) : Type 0 where
  pub node : s.node < length nodes
  pub supplier : s.supplier < length n.stages
  pub customer : s.customer < length n.stages
  pub relaxed : IsSome (node_at nodes s.node).relaxed
  pub times : HasTimes n (relaxed_at nodes s.node)

-- whatever an explanation looks up of the certificate is there
pub record IsExplainable (n : Net) (cert : Cert) : Type 0 where
  pub roots : All (λ x. All (λ r. r < length cert.tables) x.roots) cert.nodes
  pub splits : All (IsExplainedSplit n cert.nodes) cert.splits
  pub plan : IfSome cert.verdict.plan (Feasible n)
