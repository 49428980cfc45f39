-- Items on which no rule fails, with an end among them, are a certificate.
use Rattle.std.proofs.Common.{◌≡◌, List, [], ◌∷◌, ◌++◌, Some, None, refl, sym, ◌∙◌, append_assoc, append-nil}
use Rattle.service_model.specs.declared.cert_rules.TheConstants.{HEAD, AFTER_END}
use Rattle.service_model.specs.declared.table.Table.{Table}
use Rattle.service_model.specs.declared.cert.Head.{Head}
use Rattle.service_model.specs.declared.cert.Node.{Node}
use Rattle.service_model.specs.declared.cert.Split.{Split}
use Rattle.service_model.specs.declared.cert.Verdict.{Verdict}
use Rattle.service_model.specs.declared.cert.Cert.{Cert}
use Rattle.service_model.specs.declared.cert.Item.{Item}
use Rattle.service_model.specs.declared.cert.Item.TheVariants.{Head as HeadItem, Table as TableItem, Node as NodeItem, Split as SplitItem, End as EndItem}
use Rattle.service_model.specs.Net.{Net}
use Rattle.service_model.specs.Items.{tables_in, nodes_in, splits_in, verdict_of, cert_of}
use Rattle.service_model.specs.Held.{Held, none_held, held_after}
use Rattle.service_model.specs.Certs.{AllKeep}

-- what came behind a head, without an end
abbrev behind_head : Head → List Table → List Node → List Split → Held
behind_head g tables nodes splits = record { head = Some g; tables = tables; nodes = nodes; splits = splits; verdict = None }

-- the certificate of what came, with this head and this verdict
abbrev pub cert_with : Head → Held → Verdict → Cert
cert_with g h v = record { head = g; tables = h.tables; nodes = h.nodes; splits = h.splits; verdict = v }

-- the items end with the verdict, and what came is what there was and they
record EndsBy (g : Head) (tables : List Table) (nodes : List Node) (splits : List Split) (items : List Item) (h : Held) (v : Verdict) : Type 0 where
  verdict : verdict_of items ≡ Some v
  tables_are : h.tables ≡ tables ++ tables_in items
  nodes_are : h.nodes ≡ nodes ++ nodes_in items
  splits_are : h.splits ≡ splits ++ splits_in items

ends_by : (n : Net) (items : List Item) (g : Head) (tables : List Table) (nodes : List Node) (splits : List Split) (v : Verdict)
    → AllKeep n (behind_head g tables nodes splits) items → (held_after (behind_head g tables nodes splits) items).verdict ≡ Some v
    → EndsBy g tables nodes splits items (held_after (behind_head g tables nodes splits) items) v
ends_by n [] g tables nodes splits v keep ended = cc
ends_by n (HeadItem h ∷ items) g tables nodes splits v keep ended = let late = keep.0 HEAD in cc
ends_by n (TableItem t ∷ items) g tables nodes splits v keep ended =
    let rest = ends_by n items g (tables ++ t ∷ []) nodes splits v keep.1 ended in
    record { verdict = rest.verdict; tables_are = rest.tables_are ∙ append_assoc tables (t ∷ []) (tables_in items); nodes_are = rest.nodes_are; splits_are = rest.splits_are }
ends_by n (NodeItem x ∷ items) g tables nodes splits v keep ended =
    let rest = ends_by n items g tables (nodes ++ x ∷ []) splits v keep.1 ended in
    record { verdict = rest.verdict; tables_are = rest.tables_are; nodes_are = rest.nodes_are ∙ append_assoc nodes (x ∷ []) (nodes_in items); splits_are = rest.splits_are }
ends_by n (SplitItem s ∷ items) g tables nodes splits v keep ended =
    let rest = ends_by n items g tables nodes (splits ++ s ∷ []) v keep.1 ended in
    record { verdict = rest.verdict; tables_are = rest.tables_are; nodes_are = rest.nodes_are; splits_are = rest.splits_are ∙ append_assoc splits (s ∷ []) (splits_in items) }
ends_by n (EndItem w ∷ []) g tables nodes splits v keep ended =
    record { verdict = ended; tables_are = sym (append-nil tables); nodes_are = sym (append-nil nodes); splits_are = sym (append-nil splits) }
ends_by n (EndItem w ∷ x ∷ items) g tables nodes splits v keep ended = let late = keep.1.0 AFTER_END in cc

same_cert : (g : Head) (items : List Item) (h : Held) (v : Verdict) → EndsBy g [] [] [] items h v → cert_of (HeadItem g ∷ items) ≡ Some (cert_with g h v)
same_cert g items h v ends =
    let e1 = ends.verdict in
    let e2 = ends.tables_are in
    let e3 = ends.nodes_are in
    let e4 = ends.splits_are in
    rw (e1, e2, e3, e4) refl

-- items on which no rule fails and which are ended are the certificate of what came
pub cert_kept : (n : Net) (items : List Item) (v : Verdict) → AllKeep n none_held items → (held_after none_held items).verdict ≡ Some v
    → (g : Head) × (cert_of items ≡ Some (cert_with g (held_after none_held items) v))
cert_kept n [] v keep ended = cc
cert_kept n (HeadItem g ∷ items) v keep ended = (g, same_cert g items _ v (ends_by n items g [] [] [] v keep.1 ended))
cert_kept n (TableItem t ∷ items) v keep ended = let first = keep.0 HEAD in cc
cert_kept n (NodeItem x ∷ items) v keep ended = let first = keep.0 HEAD in cc
cert_kept n (SplitItem s ∷ items) v keep ended = let first = keep.0 HEAD in cc
cert_kept n (EndItem w ∷ items) v keep ended = let first = keep.0 HEAD in cc
