-- Names by their places.
use Rattle.std.proofs.Common.{◌≡◌, ℕ, false, nat_eq, List, [], ◌∷◌, ◌++◌, length, get_or, ◌<◌, ◌≢◌, refl, sym, ◌∙◌}
use Rattle.std.specs.Cmp.Lexicographic.{pointwise}
use Rattle.std.specs.Global.{Vec}
use Rattle.std.specs.List.{list_any}
use Rattle.std.specs.Str.{bytes_eq}
use Rattle.std.proofs.lemmas.List.{map_push}
use Rattle.std.proofs.lemmas.List.Folds.{list_any_at}
use Rattle.std.proofs.lemmas.List.Quantifiers.{all_pairs_push}
use Rattle.std.proofs.lemmas.Slice.Eq.{bytes_eq-Decides}
use Rattle.indexmap.specs.IndexSet.{insert_key}
use Rattle.stage_file.specs.Names.{names_of_keys, AreDistinct, name_in, names_in}
use Rattle.stage_file.specs.Records.{Numbered}
use Rattle.stage_file.specs.Stages.{is_name_of}
use Rattle.stage_file.proofs.ListFacts.{list_any_seen}

-- a new key puts its name at the end
pub names_push : (keys : List (Vec ℕ)) (key : Vec ℕ) → list_any (bytes_eq key.items) (names_of_keys keys) ≡ false
    → names_of_keys (insert_key (λ a b. pointwise nat_eq a.items b.items) keys key) ≡ names_of_keys keys ++ key.items ∷ []
names_push keys key new =
    let absent : list_any (λ (k : Vec ℕ). bytes_eq key.items k.items) keys ≡ false = list_any_seen (λ (k : Vec ℕ). k.items) (bytes_eq key.items) keys ∙ new in
    rw (absent, map_push) refl

-- a name that is new differs from each
pub apart_from_new : (names : List (List ℕ)) (name : List ℕ) → list_any (bytes_eq name) names ≡ false → (k : ℕ) (d : List ℕ) → k < length names → get_or names k d ≢ name
apart_from_new names name new k d within same =
    let equals = (bytes_eq-Decides name (get_or names k d)).1 (sym same) in
    let there = list_any_at (bytes_eq name) names k d within equals in
    cc

-- so it may be put behind distinct names
pub distinct_push : (names : List (List ℕ)) (name : List ℕ) → AreDistinct names → list_any (bytes_eq name) names ≡ false → AreDistinct (names ++ name ∷ [])
distinct_push names name distinct new = all_pairs_push (λ (a : List ℕ) (b : List ℕ). a ≢ b) names name distinct (apart_from_new names name new)

-- an earlier record has a name where the names of the earlier records have it
pub taken_seen : (name : List ℕ) (earlier : List Numbered) (names : List (List ℕ)) → names ≡ names_in earlier → list_any (is_name_of name) earlier ≡ list_any (bytes_eq name) names
unfolding is_name_of
taken_seen name earlier names same = rw same (list_any_seen name_in (bytes_eq name) earlier)
