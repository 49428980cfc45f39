-- Signatures, and the tables without values that they stand for.
use Rattle.std.proofs.Common.{◌≡◌, ◌≢◌, ℕ, ◌<◌, ◌&&◌, Bool, true, false, nat_eq, List, [], ◌∷◌, ◌++◌, map, length, get_or, Option, Some, None, is_some, position, MatchOption, refl, sym, ap, subst, ◌∙◌, eqb-true, eq-eqb, arith}
use denote.Enum.Bare.{sameb, same_true, true_same}
use Rattle.std.specs.Cmp.Lexicographic.{pointwise}
use Rattle.std.specs.List.{list_any}
use Rattle.std.proofs.lemmas.Bool.{and_parts, and_from, false_from_ne_true}
use Rattle.std.proofs.lemmas.List.{get_or-map, length-map, map_push}
use Rattle.std.proofs.lemmas.List.Folds.{list_any_at, list_any_none}
use Rattle.std.proofs.lemmas.List.Quantifiers.{position-Some}
use Rattle.std.proofs.lemmas.Slice.Eq.{bytes_eq-Decides}
use Rattle.indexmap.specs.IndexSet.{insert_key}
use Rattle.service_model.specs.contracts.table.Kind.{the_type}
use Rattle.service_model.specs.declared.table.Table.{Table}
use Rattle.service_model.specs.Tables.{table_at, no_table}
use Rattle.tree_tables.specs.declared.wanted.Wanted.{Wanted}
use Rattle.tree_tables.specs.Fills.{IsAsWanted, table_of}
use Rattle.table_pool.specs.declared.signature.Signature.{Signature}
use Rattle.table_pool.specs.Pools.{HasWanted}
use Rattle.table_pool.specs.Signatures.{signed_by, unvalued}

-- whether two signatures have all parts alike, as `==` finds it
abbrev pub is_same : Signature → Signature → Bool
is_same a b =
    nat_eq a.stage b.stage && (sameb the_type a.kind b.kind && (nat_eq a.least b.least && (nat_eq a.most b.most && (nat_eq a.floor b.floor && pointwise nat_eq a.children.items b.children.items))))

same_signed : (a b : Signature) → is_same a b ≡ true → signed_by a ≡ signed_by b
same_signed a b same =
    let one = and_parts (nat_eq a.stage b.stage) _ same in
    let two = and_parts (sameb the_type a.kind b.kind) _ one.1 in
    let three = and_parts (nat_eq a.least b.least) _ two.1 in
    let four = and_parts (nat_eq a.most b.most) _ three.1 in
    let five = and_parts (nat_eq a.floor b.floor) _ four.1 in
    let stage = eqb-true a.stage b.stage one.0 in
    let kind = same_true the_type tt a.kind b.kind two.0 in
    let least = eqb-true a.least b.least three.0 in
    let most = eqb-true a.most b.most four.0 in
    let floor = eqb-true a.floor b.floor five.0 in
    let children = (bytes_eq-Decides a.children.items b.children.items).0 five.1 in
    λ i. record { stage = stage i; kind = kind i; least = least i; most = most i; floor = floor i; children = children i; values = [] }

signed_same : (a b : Signature) → signed_by a ≡ signed_by b → is_same a b ≡ true
signed_same a b same =
    and_from _ _ (eq-eqb a.stage b.stage (ap (λ (t : Table). t.stage) same))
    (and_from _ _ (true_same the_type a.kind b.kind (ap (λ (t : Table). t.kind) same))
    (and_from _ _ (eq-eqb a.least b.least (ap (λ (t : Table). t.least) same))
    (and_from _ _ (eq-eqb a.most b.most (ap (λ (t : Table). t.most) same))
    (and_from _ _ (eq-eqb a.floor b.floor (ap (λ (t : Table). t.floor) same))
    ((bytes_eq-Decides a.children.items b.children.items).1 (ap (λ (t : Table). t.children) same))))))

-- the table that stands for the signature at a place
signed_at : (keys : List Signature) (tables : List Table) (i : ℕ) (d : Signature) → map signed_by keys ≡ tables → i < length keys → table_at tables i ≡ signed_by (get_or keys i d)
signed_at keys tables i d seen within = ap (λ (ts : List Table). table_at ts i) (sym seen) ∙ get_or-map signed_by keys i d no_table within

-- as many signatures as tables
as_many : (keys : List Signature) (tables : List Table) → map signed_by keys ≡ tables → length keys ≡ length tables
as_many keys tables seen = sym (length-map keys signed_by) ∙ ap length seen

-- a signature of none of the tables differs from each
apart_at : (keys : List Signature) (tables : List Table) (s : Signature) → map signed_by keys ≡ tables
    → ((i : ℕ) → i < length tables → table_at tables i ≢ signed_by s)
    → (i : ℕ) (d : Signature) → i < length keys → is_same s (get_or keys i d) ≢ true
apart_at keys tables s seen new i d within same =
    new i (subst (λ n. i < n) (as_many keys tables seen) within) (signed_at keys tables i d seen within ∙ sym (same_signed s (get_or keys i d) same))

-- what a search for a signature gives
pub place_said : (keys : List Signature) (tables : List Table) (s : Signature) (r : Option ℕ) → map signed_by keys ≡ tables
    → r ≡ position (is_same s) keys → is_some r ≡ list_any (is_same s) keys
    → MatchOption r ((i : ℕ) → i < length tables → table_at tables i ≢ signed_by s) (λ i. (i < length tables) × (table_at tables i ≡ signed_by s))
place_said keys tables s None seen at found = λ i within same.
    let within' : i < length keys = subst (λ n. i < n) (sym (as_many keys tables seen)) within in
    let there = list_any_at (is_same s) keys i s within' (signed_same s (get_or keys i s) (sym same ∙ signed_at keys tables i s seen within')) in
    cc
place_said keys tables s (Some k) seen at found =
    let first = position-Some (is_same s) keys k s (sym at) in
    (subst (λ n. k < n) (as_many keys tables seen) first.0, signed_at keys tables k s seen first.0 ∙ sym (same_signed s (get_or keys k s) first.1))

-- a new signature puts its table at the end
pub signed_push : (keys : List Signature) (tables : List Table) (s : Signature) → map signed_by keys ≡ tables
    → ((i : ℕ) → i < length tables → table_at tables i ≢ signed_by s)
    → map signed_by (insert_key is_same keys s) ≡ tables ++ signed_by s ∷ []
signed_push keys tables s seen new =
    let absent : list_any (is_same s) keys ≡ false = list_any_none (is_same s) keys (λ i d within. false_from_ne_true (is_same s (get_or keys i d)) (apart_at keys tables s seen new i d within)) in
    rw (absent, map_push, seen) refl

-- the table without values stands at the table's place
unvalued_at : (tables signatures : List Table) (i : ℕ) → signatures ≡ map unvalued tables → i < length tables → table_at signatures i ≡ unvalued (table_at tables i)
unvalued_at tables signatures i signed within = ap (λ (ts : List Table). table_at ts i) signed ∙ get_or-map unvalued tables i no_table no_table within

as_wanted_unvalued : (w : Wanted) (t : Table) → IsAsWanted w t → unvalued t ≡ table_of w []
as_wanted_unvalued w t wanted = λ i. record {
  stage = wanted.stage i;
  kind = wanted.kind i;
  least = wanted.least i;
  most = wanted.most i;
  floor = wanted.floor i;
  children = wanted.children i;
  values = [];
}

-- where no signature is the wanted one, no table is as wanted
pub none_wanted : (tables signatures : List Table) (w : Wanted) (s : Table) → signatures ≡ map unvalued tables → s ≡ table_of w []
    → ((i : ℕ) → i < length signatures → table_at signatures i ≢ s) → ¬ HasWanted tables w
none_wanted tables signatures w s signed wanted none has =
    let within : has.0 < length signatures = omega (arith, ap length signed, length-map tables unvalued, has.1) in
    none has.0 within (unvalued_at tables signatures has.0 signed has.1 ∙ as_wanted_unvalued w (table_at tables has.0) has.2 ∙ sym wanted)
