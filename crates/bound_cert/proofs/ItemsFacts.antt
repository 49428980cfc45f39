-- The items of a certificate, made one after another.
use Rattle.std.proofs.Common.{◌≡◌, ℕ, suc, ◌+◌, ◌-◌, ◌/◌, ◌%◌, ◌==◌, ◌<◌, max, Bool, true, false, not, if◌then◌else◌, List, [], ◌∷◌, ◌++◌, map, take, drop, refl, sym, ap, ◌∙◌, ⊎_elim, arith, append_assoc, ne_eqb}
use Rattle.std.proofs.lemmas.Bool.{cases_lt}
use Rattle.std.proofs.lemmas.List.{drop-take, drop-drop, drop_all, length-take}
use Rattle.service_model.specs.declared.table.Table.{Table}
use Rattle.service_model.specs.declared.cert.Node.{Node}
use Rattle.service_model.specs.declared.cert.Split.{Split}
use Rattle.service_model.specs.declared.cert.Cert.{Cert}
use Rattle.service_model.specs.declared.cert.Item.{Item}
use Rattle.service_model.specs.Items.{split_after, items_from}
use Rattle.bound_cert.specs.Arranged.{items_on}

-- the item of the first that is left, where so many of count were moved before
pub moved_one : {A : Type 0} (item : A → Item) (old new : List Item) (x : A) (left rest : List A) (count i : ℕ) → i < count
    → left ≡ x ∷ rest → new ≡ old ++ item x ∷ []
    → (new ++ map item (take (count - (i + 1)) rest) ≡ old ++ map item (take (count - i) left)) × (drop (count - (i + 1)) rest ≡ drop (count - i) left)
moved_one item old new x left rest count i more first grown =
    let next : count - i ≡ suc (count - (i + 1)) = omega arith in
    (rw (grown, next, first) (append_assoc old (item x ∷ []) (map item (take (count - (i + 1)) rest))), rw (next, first) refl)

-- tables behind the first ones, up to a number
tables_between : (came seen : ℕ) (tables : List Table) → drop came (take seen tables) ≡ take (seen - came) (drop came tables)
tables_between came seen tables = ⊎_elim
    (λ less.
    let none : seen - came ≡ 0 = omega arith in
    rw none (drop_all came (take seen tables) (omega (arith, length-take seen tables))))
    (λ more.
    let is : came + (seen - came) ≡ seen = omega arith in
    ap (λ (k : ℕ). drop came (take k tables)) (sym is) ∙ drop-take came (seen - came) tables)
    (cases_lt seen came)

tables_left : (came seen : ℕ) (tables : List Table) → drop (seen - came) (drop came tables) ≡ drop (max came seen) tables
tables_left came seen tables =
    let is : came + (seen - came) ≡ max came seen = grind arith in
    drop-drop (seen - came) came tables ∙ ap (λ (k : ℕ). drop k tables) is

-- a split comes after each node of an even number, and then there is one less
record Halves (k : ℕ) (even : Bool) (splits : List Split) : Type 0 where
  after : split_after splits k ≡ (if even then take 1 (drop ((k + 1) / 2) splits) else [])
  left : (if even then drop 1 (drop ((k + 1) / 2) splits) else drop ((k + 1) / 2) splits) ≡ drop ((k + 1 + 1) / 2) splits
  turn : not even ≡ ((k + 1) % 2 == 0)

halves : (k : ℕ) (even : Bool) (splits : List Split) → (k % 2 == 0) ≡ even → Halves k even splits
halves k true splits e =
    let even : k % 2 ≡ 0 = grind arith in
    let here : k / 2 ≡ (k + 1) / 2 = omega arith in
    let next : (k + 1) / 2 + 1 ≡ (k + 1 + 1) / 2 = omega arith in
    let odd : (k + 1) % 2 ≡ 0 → ⊥ = λ e. omega arith in
    record {
      after = rw (e, here) refl;
      left = drop-drop 1 ((k + 1) / 2) splits ∙ ap (λ (m : ℕ). drop m splits) next;
      turn = sym (ne_eqb ((k + 1) % 2) 0 odd);
    }
halves k false splits e =
    let odd : k % 2 ≡ 1 = grind arith in
    let even : (k + 1) % 2 ≡ 0 = omega arith in
    let next : (k + 1) / 2 ≡ (k + 1 + 1) / 2 = omega arith in
    record {
      after = rw e refl;
      left = ap (λ (m : ℕ). drop m splits) next;
      turn = rw even refl;
    }

pub items_on_from : (c : Cert) (nodes : List Node) (k came : ℕ)
    → items_from c k came nodes ≡ items_on (k % 2 == 0) came (drop came c.tables) (drop ((k + 1) / 2) c.splits) nodes
items_on_from c [] k came = refl
items_on_from c (x ∷ nodes) k came =
    let tables = tables_between came x.seen c.tables in
    let left = tables_left came x.seen c.tables in
    let h = halves k (k % 2 == 0) c.splits refl in
    let rest = items_on_from c nodes (k + 1) (max came x.seen) in
    rw (tables, left, h.after, h.left, h.turn, rest) refl
