-- Tables that keep their rules, one over another.
use Rattle.std.proofs.Common.{◌≡◌, ℕ, suc, List, [], ◌∷◌, ◌++◌, length, refl, ap, sym, ◌∙◌, subst, arith}
use Rattle.std.specs.Prelude.{Bool, true, false, ◌==◌, MatchBool, Option, Some, None, IsSome, is_none, take}
use Rattle.std.proofs.lemmas.List.{append_assoc, append-nil}
use Rattle.service_model.specs.declared.table.Table.{Table}
use Rattle.service_model.specs.declared.cert.Item.{Item}
use Rattle.service_model.specs.declared.cert.Item.TheVariants.{Table as TableItem}
use Rattle.service_model.specs.declared.cert_rules.TheConstants.{SHAPE, HEAD, AFTER_END, PLACE}
use Rattle.service_model.specs.Net.{Net}
use Rattle.service_model.specs.Tables.{table_at}
use Rattle.service_model.specs.CertNumbers.{InRange}
use Rattle.service_model.specs.Items.{is_head}
use Rattle.service_model.specs.Held.{Held, held_with, is_misplaced}
use Rattle.service_model.specs.CertRules.{TableRule, NetworkRule, Keeps}
use Rattle.cert_laws.specs.Grown.{TablesKeep}
use Rattle.cert_laws.specs.ItemLaws.{TablesLaw}

-- whichever way a choice goes
pub either : (b : Bool) (A B : Type 0) → A → B → MatchBool b A B
either true A B a b = a
either false A B a b = b

-- an item keeps all rules where it keeps those on lines and those on the network
pub keeps : (n : Net) (h : Held) (x : Item) → InRange x → is_head x ≡ is_none h.head → h.verdict ≡ None
    → is_misplaced (length h.nodes) (length h.splits) x ≡ false → ((rule : ℕ) → NetworkRule n h x rule) → Keeps n h x
keeps n h x shape head unended placed network = λ rule.
    either (rule == SHAPE) _ _ shape
    (either (rule == HEAD) _ _ head
    (either (rule == AFTER_END) _ _ unended
    (either (rule == PLACE) _ _ placed (network rule))))

has_head : {A : Type 0} (head : Option A) → IsSome head → false ≡ is_none head
has_head None some = cc
has_head (Some g) some = refl

rest_keeps : (n : Net) (came : List Table) (t : Table) (more : List Table) → TablesKeep n came (t ∷ more) → TablesKeep n (came ++ t ∷ []) more
rest_keeps n came t more keep = λ i within.
    let next = keep (suc i) (omega (arith, within)) in
    (next.0, subst (λ (ts : List Table). (rule : ℕ) → TableRule n ts (table_at more i) rule) (sym (append_assoc came (t ∷ []) (take i more))) next.1)

pub tables_law : TablesLaw
tables_law n h [] some unended keep = (tt, subst (λ (ts : List Table). h ≡ record h { tables = ts }) (sym (append-nil h.tables)) refl)
tables_law n h (t ∷ more) some unended keep =
    let first = keep 0 (omega arith) in
    let rules = subst (λ (ts : List Table). (rule : ℕ) → TableRule n ts t rule) (append-nil h.tables) first.1 in
    let one = keeps n h (TableItem t) first.0 (has_head h.head some) unended refl rules in
    let rest = tables_law n (held_with h (TableItem t)) more some unended (rest_keeps n h.tables t more keep) in
    ((one, rest.0), rest.1 ∙ ap (λ (ts : List Table). record h { tables = ts }) (append_assoc h.tables (t ∷ []) more))
