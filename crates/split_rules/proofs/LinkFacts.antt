-- Links, one child and one table after the other.
use Rattle.std.proofs.Common.{◌≡◌, ◌≢◌, ℕ, ◌+◌, ◌<◌, ◌⊎◌, List, [], ◌∷◌, ◌++◌, length, get_or, set, take, drop, replicate, refl, sym, ap, ◌∙◌, subst, inl, inr, ⊎_elim, add-one, arith}
use Rattle.std.specs.Prelude.{Contains}
use Rattle.std.specs.List.{AllByRecursion}
use Rattle.std.proofs.Math.Seq.{drop-cons}
use Rattle.std.proofs.lemmas.Bool.{cases_lt, cases_eq}
use Rattle.std.proofs.lemmas.List.{take-append-drop, take_more, length-set, length-replicate, get_or-replicate, get_or_past, get_or-set_same, get_or-set_other}
use Rattle.std.proofs.lemmas.List.Concat.{flat_map-append}
use Rattle.std.proofs.lemmas.List.Elements.{All-contains, All-from_recursion, Contains-append_left, Contains-push}
use Rattle.service_model.specs.declared.table.Table.{Table}
use Rattle.service_model.specs.Net.{Net}
use Rattle.service_model.specs.Tables.{table_at}
use Rattle.gsm_laws.specs.Traces.{IsAbsent}
use Rattle.gsm_laws.proofs.ElementFacts.{each, each_two, all_append, all_both, all_parts}
use Rattle.gsm_laws.proofs.AgreeFacts.{Apart, apart_append}
use Rattle.split_rules.specs.declared.links.Link.{Link}
use Rattle.split_rules.specs.Links.{no_link, link_at, link_of, AreLinked, LinksMore, AreLinks, children_of}

-- a list, parted at a place
parted_at : (xs : List ℕ) (i : ℕ) → i < length xs → xs ≡ take i xs ++ (get_or xs i 0 ∷ drop (i + 1) xs)
parted_at xs i within =
    sym (take-append-drop i xs) ∙ ap (λ (ys : List ℕ). take i xs ++ ys) (drop-cons xs i 0 within ∙ ap (λ k. get_or xs i 0 ∷ drop k xs) (sym (add-one i)))

-- a child at a place is of another stage than those before it
earlier_apart : (tables : List Table) (cs : List ℕ) (i : ℕ) → i < length cs → Apart tables cs
    → AllByRecursion (λ d. (table_at tables d).stage ≢ (table_at tables (get_or cs i 0)).stage) (take i cs)
earlier_apart tables cs i within apart =
    let parts = apart_append tables (take i cs) (get_or cs i 0 ∷ drop (i + 1) cs) (subst (Apart tables) (parted_at cs i within) apart) in
    each (λ d. IsAbsent tables (table_at tables d).stage (get_or cs i 0 ∷ drop (i + 1) cs)) (λ d. (table_at tables d).stage ≢ (table_at tables (get_or cs i 0)).stage)
    (λ d absent same. absent.0 (sym same)) (take i cs) parts.2

pub no_child : (tables : List Table) (k : ℕ) (links : List Link) → LinksMore tables k [] links links
no_child tables k links = record { long = refl; sets = tt; keeps = λ j absent. refl }

-- the link of one child more
pub child_more : (tables : List Table) (k i : ℕ) (cs : List ℕ) (old now : List Link) → LinksMore tables k (take i cs) old now → i < length cs
    → Apart tables cs → (table_at tables (get_or cs i 0)).stage < length now
    → LinksMore tables k (take (i + 1) cs) old (set now (table_at tables (get_or cs i 0)).stage (link_of tables k (get_or cs i 0)))
child_more tables k i cs old now more within apart low =
    let c = get_or cs i 0 in
    let s = (table_at tables c).stage in
    let link = link_of tables k c in
    let list : take (i + 1) cs ≡ take i cs ++ get_or cs i 0 ∷ [] = take_more cs i 0 within in
    record {
      long = length-set now s link ∙ more.long;
      sets = subst (AreLinked tables (set now s link) k) (sym list)
          (all_both (λ d. link_at (set now s link) (table_at tables d).stage ≡ link_of tables k d) (take i cs) (c ∷ [])
          (each_two (λ d. link_at now (table_at tables d).stage ≡ link_of tables k d) (λ d. (table_at tables d).stage ≢ s)
          (λ d. link_at (set now s link) (table_at tables d).stage ≡ link_of tables k d)
          (λ d is other. get_or-set_other now s (table_at tables d).stage link no_link other ∙ is)
          (take i cs) more.sets (earlier_apart tables cs i within apart))
          (get_or-set_same now s link no_link low, tt));
      keeps = λ j absent.
          let parts = all_append (λ d. (table_at tables d).stage ≢ j) (take i cs) (c ∷ []) (subst (IsAbsent tables j) list absent) in
          get_or-set_other now s j link no_link (λ same. parts.1.0 (sym same)) ∙ more.keeps j parts.0;
    }

-- children of a table at a place are of different stages, and of other stages than the children of the tables before it
children_parted : (tables : List Table) (ks : List ℕ) (i : ℕ) → i < length ks → Apart tables (children_of tables ks)
    → Apart tables (table_at tables (get_or ks i 0)).children
    × AllByRecursion
    (λ m. AllByRecursion (λ d. IsAbsent tables (table_at tables d).stage (table_at tables (get_or ks i 0)).children) (table_at tables m).children) (take i ks)
children_parted tables ks i within apart =
    let k = get_or ks i 0 in
    let cs = (table_at tables k).children in
    let rest = children_of tables (drop (i + 1) ks) in
    let kids = ap (children_of tables) (parted_at ks i within) ∙ flat_map-append (λ m. (table_at tables m).children) (take i ks) (k ∷ drop (i + 1) ks) in
    let parts = apart_append tables (children_of tables (take i ks)) (cs ++ rest) (subst (Apart tables) kids apart) in
    let own = apart_append tables cs rest parts.1 in (
      own.0,
      all_parts (λ d. IsAbsent tables (table_at tables d).stage cs) (λ m. (table_at tables m).children) (take i ks)
          (each (λ d. IsAbsent tables (table_at tables d).stage (cs ++ rest)) (λ d. IsAbsent tables (table_at tables d).stage cs)
          (λ d absent. (all_append (λ c. (table_at tables c).stage ≢ (table_at tables d).stage) cs rest absent).0)
          (children_of tables (take i ks)) parts.2),
    )

pub own_children_apart : (tables : List Table) (ks : List ℕ) (i : ℕ) → i < length ks → Apart tables (children_of tables ks)
    → Apart tables (table_at tables (get_or ks i 0)).children
own_children_apart tables ks i within apart = (children_parted tables ks i within apart).0

absent_or_there : (tables : List Table) (j : ℕ) (cs : List ℕ) → IsAbsent tables j cs ⊎ ((c : ℕ) × Contains cs c × ((table_at tables c).stage ≡ j))
absent_or_there tables j [] = inl tt
absent_or_there tables j (c ∷ cs) = ⊎_elim
    (λ same. inr (c, (0, omega arith, refl), same))
    (λ other. ⊎_elim
    (λ absent. inl (other, absent))
    (λ (found : (d : ℕ) × Contains cs d × ((table_at tables d).stage ≡ j)). let (d, (at, within, is), same) = found in inr (d, (at + 1, omega (arith, within), behind at d is), same))
    (absent_or_there tables j cs))
    (cases_eq (table_at tables c).stage j)
  where
    behind : (at d : ℕ) → get_or cs at d ≡ d → get_or (c ∷ cs) (at + 1) d ≡ d
    behind at d is = ap (λ k. get_or (c ∷ cs) k d) (add-one at) ∙ is

pub no_table : (n : Net) (tables : List Table) (links : List Link) → links ≡ replicate (length n.stages) no_link → AreLinks n tables [] links
no_table n tables links is = record {
  long = ap length is ∙ length-replicate (length n.stages) no_link;
  sets = tt;
  only = λ j not_root. absurd (not_root (ap (λ (l : Link). l.kind) (ap (λ (ls : List Link). link_at ls j) is ∙ none_at j)));
}
  where
    none_at : (j : ℕ) → link_at (replicate (length n.stages) no_link) j ≡ no_link
    none_at j = ⊎_elim
        (λ low. get_or-replicate (length n.stages) j no_link no_link low)
        (λ past. get_or_past (replicate (length n.stages) no_link) j no_link (omega (arith, past, length-replicate (length n.stages) no_link)))
        (cases_lt j (length n.stages))

-- the links of the children of one table more
pub table_more : (n : Net) (tables : List Table) (ks : List ℕ) (i : ℕ) (old now : List Link) → i < length ks → Apart tables (children_of tables ks)
    → AreLinks n tables (take i ks) old → LinksMore tables (get_or ks i 0) (table_at tables (get_or ks i 0)).children old now
    → AreLinks n tables (take (i + 1) ks) now
table_more n tables ks i old now within apart are more =
    let k = get_or ks i 0 in
    let cs = (table_at tables k).children in
    let list : take (i + 1) ks ≡ take i ks ++ get_or ks i 0 ∷ [] = take_more ks i 0 within in
    record {
      long = more.long ∙ are.long;
      sets = subst (AllByRecursion (λ m. AreLinked tables now m (table_at tables m).children)) (sym list)
          (all_both (λ m. AreLinked tables now m (table_at tables m).children) (take i ks) (k ∷ [])
          (each_two (λ m. AreLinked tables old m (table_at tables m).children) (λ m. AllByRecursion (λ d. IsAbsent tables (table_at tables d).stage cs) (table_at tables m).children)
          (λ m. AreLinked tables now m (table_at tables m).children)
          (λ m linked apart'. each_two (λ d. link_at old (table_at tables d).stage ≡ link_of tables m d) (λ d. IsAbsent tables (table_at tables d).stage cs)
          (λ d. link_at now (table_at tables d).stage ≡ link_of tables m d)
          (λ d is absent. more.keeps (table_at tables d).stage absent ∙ is) (table_at tables m).children linked apart')
          (take i ks) are.sets (children_parted tables ks i within apart).1)
          (more.sets, tt));
      only = λ j not_root. ⊎_elim
          (λ absent.
          let same = more.keeps j absent in
          let was = are.only j (λ root. not_root (ap (λ (l : Link). l.kind) same ∙ root)) in
          record {
            parent = was.parent;
            child = was.child;
            among = subst (λ xs. Contains xs was.parent) (sym list) (Contains-append_left (take i ks) (k ∷ []) was.parent was.among);
            below = was.below;
            stage = was.stage;
            link = same ∙ was.link;
          })
          (λ (found : (c : ℕ) × Contains cs c × ((table_at tables c).stage ≡ j)). record {
            parent = k;
            child = found.0;
            among = subst (λ xs. Contains xs k) (sym list) (Contains-push (take i ks) k);
            below = found.1;
            stage = found.2;
            link = ap (link_at now) (sym found.2)
                ∙ All-contains (λ d. link_at now (table_at tables d).stage ≡ link_of tables k d) cs found.0
                (All-from_recursion (λ d. link_at now (table_at tables d).stage ≡ link_of tables k d) cs more.sets) found.1;
          })
          (absent_or_there tables j cs);
    }
