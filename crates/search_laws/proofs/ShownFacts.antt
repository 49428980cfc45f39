-- What came of a certificate's items, but for its verdict.
use Rattle.std.proofs.Common.{◌≡◌, ℕ, ◌+◌, ◌/◌, ◌%◌, max, Bool, cond, List, [], ◌∷◌, ◌++◌, map, take, drop, Some, None, sym, ap, ◌∙◌, ⊎_elim, append_assoc, append-nil, arith}
use Rattle.std.proofs.Math.Seq.{take-add}
use Rattle.std.proofs.lemmas.Bool.{cases_eq, cases_lt, eq-eqb, ne_eqb}
use Rattle.std.proofs.lemmas.List.{take-append-drop, take-take, drop_all, length-take}
use Rattle.service_model.specs.declared.table.Table.{Table}
use Rattle.service_model.specs.declared.cert.Node.{Node}
use Rattle.service_model.specs.declared.cert.Split.{Split}
use Rattle.service_model.specs.declared.cert.Cert.{Cert}
use Rattle.service_model.specs.declared.cert.Item.{Item}
use Rattle.service_model.specs.declared.cert.Item.TheVariants.{Head as HeadItem, Table as TableItem, Node as NodeItem, Split as SplitItem}
use Rattle.service_model.specs.Items.{split_after, items_from}
use Rattle.service_model.specs.Held.{Held, none_held, held_after}
use Rattle.cert_laws.proofs.KeptFacts.{held_after-append}
use Rattle.search_laws.specs.Own.{shown_by}

-- what came of a certificate's head, and of these
abbrev came_of : Cert → List Table → List Node → List Split → Held
came_of c tables nodes splits = record { head = Some c.head; tables = tables; nodes = nodes; splits = splits; verdict = None }

tables_come : (c : Cert) (tables : List Table) (nodes : List Node) (splits : List Split) (more : List Table)
    → held_after (came_of c tables nodes splits) (map TableItem more) ≡ came_of c (tables ++ more) nodes splits
tables_come c tables nodes splits [] = ap (λ (ts : List Table). came_of c ts nodes splits) (sym (append-nil tables))
tables_come c tables nodes splits (t ∷ more) =
    tables_come c (tables ++ t ∷ []) nodes splits more ∙ ap (λ (ts : List Table). came_of c ts nodes splits) (append_assoc tables (t ∷ []) more)

splits_come : (c : Cert) (tables : List Table) (nodes : List Node) (splits more : List Split)
    → held_after (came_of c tables nodes splits) (map SplitItem more) ≡ came_of c tables nodes (splits ++ more)
splits_come c tables nodes splits [] = ap (λ (ss : List Split). came_of c tables nodes ss) (sym (append-nil splits))
splits_come c tables nodes splits (s ∷ more) =
    splits_come c tables nodes (splits ++ s ∷ []) more ∙ ap (λ (ss : List Split). came_of c tables nodes ss) (append_assoc splits (s ∷ []) more)

-- the tables that a node sees first go on where those before it end
tables_step : (tables : List Table) (came seen : ℕ) → take came tables ++ drop came (take seen tables) ≡ take (max came seen) tables
tables_step tables came seen = ⊎_elim
    (λ more.
    let most : max came seen ≡ seen = omega arith in
    let front : take came (take seen tables) ≡ take came tables = take-take came seen tables (omega (arith, more)) in
    ap (λ (ts : List Table). ts ++ drop came (take seen tables)) (sym front)
    ∙ take-append-drop came (take seen tables)
    ∙ ap (λ k. take k tables) (sym most))
    (λ few.
    let most : max came seen ≡ came = omega arith in
    ap (λ (ts : List Table). take came tables ++ ts) (drop_all came (take seen tables) (omega (arith, few, length-take seen tables)))
    ∙ append-nil (take came tables)
    ∙ ap (λ k. take k tables) (sym most))
    (cases_lt came seen)

-- and so do the splits
splits_step : (splits : List Split) (k : ℕ) → take ((k + 1) / 2) splits ++ split_after splits k ≡ take ((k + 1 + 1) / 2) splits
splits_step splits k = ⊎_elim
    (λ even.
    let half : (k + 1) / 2 ≡ k / 2 = omega (arith, even) in
    let next : (k + 1 + 1) / 2 ≡ k / 2 + 1 = omega (arith, even) in
    ap (λ (b : Bool). take ((k + 1) / 2) splits ++ cond b (take 1 (drop (k / 2) splits)) []) (eq-eqb (k % 2) 0 even)
    ∙ ap (λ m. take m splits ++ take 1 (drop (k / 2) splits)) half
    ∙ sym (take-add (k / 2) 1 splits)
    ∙ ap (λ m. take m splits) (sym next))
    (λ odd.
    let same : (k + 1) / 2 ≡ (k + 1 + 1) / 2 = omega (arith, odd) in
    ap (λ (b : Bool). take ((k + 1) / 2) splits ++ cond b (take 1 (drop (k / 2) splits)) []) (ne_eqb (k % 2) 0 odd)
    ∙ append-nil (take ((k + 1) / 2) splits)
    ∙ ap (λ m. take m splits) same)
    (cases_eq (k % 2) 0)

nodes_come : (c : Cert) (k came : ℕ) (done nodes : List Node)
    → held_after (came_of c (take came c.tables) done (take ((k + 1) / 2) c.splits)) (items_from c k came nodes) ≡ came_of c c.tables (done ++ nodes) c.splits
nodes_come c k came done [] =
    let tables = take came c.tables in
    let splits = take ((k + 1) / 2) c.splits in
    let rest = drop ((k + 1) / 2) c.splits in
    held_after-append (came_of c tables done splits) (map TableItem (drop came c.tables)) (map SplitItem rest)
    ∙ ap (λ (h : Held). held_after h (map SplitItem rest)) (tables_come c tables done splits (drop came c.tables))
    ∙ splits_come c (tables ++ drop came c.tables) done splits rest
    ∙ ap (λ (ts : List Table). came_of c ts done (splits ++ rest)) (take-append-drop came c.tables)
    ∙ ap (λ (ss : List Split). came_of c c.tables done ss) (take-append-drop ((k + 1) / 2) c.splits)
    ∙ ap (λ (ns : List Node). came_of c c.tables ns c.splits) (sym (append-nil done))
nodes_come c k came done (x ∷ nodes) =
    let tables = take came c.tables in
    let splits = take ((k + 1) / 2) c.splits in
    let new = drop came (take x.seen c.tables) in
    let cut = split_after c.splits k in
    let later = items_from c (k + 1) (max came x.seen) nodes in
    ap (λ (items : List Item). held_after (came_of c tables done splits) items) (append_assoc (map TableItem new) (NodeItem x ∷ map SplitItem cut) later)
    ∙ held_after-append (came_of c tables done splits) (map TableItem new) (NodeItem x ∷ map SplitItem cut ++ later)
    ∙ ap (λ (h : Held). held_after h (NodeItem x ∷ map SplitItem cut ++ later)) (tables_come c tables done splits new)
    ∙ held_after-append (came_of c (tables ++ new) (done ++ x ∷ []) splits) (map SplitItem cut) later
    ∙ ap (λ (h : Held). held_after h later) (splits_come c (tables ++ new) (done ++ x ∷ []) splits cut)
    ∙ ap (λ (ts : List Table). held_after (came_of c ts (done ++ x ∷ []) (splits ++ cut)) later) (tables_step c.tables came x.seen)
    ∙ ap (λ (ss : List Split). held_after (came_of c (take (max came x.seen) c.tables) (done ++ x ∷ []) ss) later) (splits_step c.splits k)
    ∙ nodes_come c (k + 1) (max came x.seen) (done ++ x ∷ []) nodes
    ∙ ap (λ (ns : List Node). came_of c c.tables ns c.splits) (append_assoc done (x ∷ []) nodes)

-- behind all items but the end stands what the certificate shows
pub shown_after : (c : Cert) → held_after none_held (HeadItem c.head ∷ items_from c 0 0 c.nodes) ≡ shown_by c
shown_after c = nodes_come c 0 0 [] c.nodes
