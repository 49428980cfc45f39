-- An item's value has no float.
use Rattle.std.proofs.Common.{◌≡◌, ℕ, List, [], ◌∷◌, map, false, Option, Some, None, refl}
use Rattle.serde_json.specs.View.{items_of}
use Rattle.serde_json.specs.Written.{has_float, items_have_float}
use Rattle.service_model.specs.declared.plan.Plan.{Plan}
use Rattle.service_model.specs.declared.cert.Item.{Item}
use Rattle.service_model.specs.declared.cert.Item.TheVariants.{Head as HeadItem, Table as TableItem, Node as NodeItem, Split as SplitItem, End as EndItem}
use Rattle.bound_cert.specs.Lines.{whole, plan_data, data_of}

no_float_in : (ns : List ℕ) → items_have_float (items_of (map whole ns)) ≡ false
no_float_in [] = refl
no_float_in (n ∷ ns) = no_float_in ns

no_float_in_plan : (p : Option Plan) → has_float (plan_data p) ≡ false
no_float_in_plan None = refl
no_float_in_plan (Some p) = rw (no_float_in p.inbound, no_float_in p.outbound)

pub no_float : (x : Item) → has_float (data_of x) ≡ false
no_float (HeadItem h) = refl
no_float (TableItem t) = rw (no_float_in t.children, no_float_in t.values)
no_float (NodeItem x) = rw (no_float_in x.roots, no_float_in_plan x.relaxed)
no_float (SplitItem s) = refl
no_float (EndItem v) = rw (no_float_in_plan v.plan)
