use Rattle.std.proofs.Common.{◌≡◌, ◌<◌, ◌+◌, List, ℕ, length, get_or, set, take, sym, ap, ◌∙◌, subst, rules, arith}
use Rattle.service_model.specs.declared.table.Table.{Table}
use Rattle.service_model.specs.Tables.{table_at}
use Rattle.gsm_laws.proofs.AgreeFacts.{apart_from_once}
use Rattle.split_rules.specs.Links.{LinksMore}
use Rattle.split_rules.proofs.LinkFacts.{child_more}
use Rattle.split_rules.proofs.links.link_children.Goals as goal

pub children-preserved : goal.children-preserved
children-preserved c =
    let tables = c.args.tables.now in
    let cs = (table_at tables c.args.number).children in
    let i = c.children.child-index in
    let items : c.as_slice-child-items.result.now ≡ cs = c.as_slice-child-items.ensures ∙ ap (λ (t : Table). t.children) c.table_in-parent.ensures in
    let within : i < length cs = search rules in
    let child : c.table_in-table.result.now ≡ table_at tables (get_or cs i 0) =
    c.table_in-table.ensures ∙ ap (λ (xs : List ℕ). table_at tables (get_or xs i 0)) items in
    let written =
    c.set.ensures
    ∙ ap (λ (t : Table). set c.children.links t.stage (record { parent = c.table_in-parent.result.now.stage; kind = t.kind })) child
    ∙ ap (λ (t : Table). set c.children.links (table_at tables (get_or cs i 0)).stage (record { parent = t.stage; kind = (table_at tables (get_or cs i 0)).kind })) c.table_in-parent.ensures in
    subst (LinksMore tables c.args.number (take (i + 1) cs) c.args.links.now) (sym written)
    (child_more tables c.args.number i cs c.args.links.now c.children.links c.children.invariant within (apart_from_once tables cs c.requires.once)
    (let low = (c.requires.children i 0 within).1 in let long = c.children.invariant.long in omega (arith, low, long)))
