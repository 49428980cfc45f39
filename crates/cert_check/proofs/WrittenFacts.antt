-- The lines of a certificate on which no rule fails are accepted.
use Rattle.std.proofs.Common.{◌∷◌, is_some, sym, ap, ◌∙◌, subst}
use Rattle.service_model.specs.declared.cert.Item.TheVariants.{Head as HeadItem}
use Rattle.service_model.specs.Items.{items_from, items_of}
use Rattle.service_model.specs.Held.{none_held, held_after}
use Rattle.service_model.specs.Certs.{AllKeep}
use Rattle.cert_laws.proofs.KeptFacts.{held_after-end}
use Rattle.bound_cert.specs.Stream.{Reads, start, after_items}
use Rattle.bound_cert.proofs.WholeFacts.{whole_back}
use Rattle.cert_check.specs.Laws.{WrittenLaw}

pub written_law : WrittenLaw
written_law n c keep ordered short =
    let items = items_of c in
    let verdict = held_after-end none_held (HeadItem c.head ∷ items_from c 0 0 c.nodes) c.verdict in
    let back = whole_back items ordered short (ap is_some verdict) in
    record {
      keep = subst (λ (r : Reads). AllKeep n none_held r.0) (sym back) keep;
      place = after_items start items;
      read = ap (λ (r : Reads). r.1) back;
      verdict = ap (λ (r : Reads). (held_after none_held r.0).verdict) back ∙ verdict;
    }
