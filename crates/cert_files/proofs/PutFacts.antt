-- A certificate is written line by line.
use Rattle.std.proofs.Common.{◌≡◌, ℕ, suc, ◌+◌, ◌<◌, Bool, true, false, cond, List, [], ◌∷◌, ◌++◌, length, get_or, take, drop, Option, Some, None, refl, sym, ap, ◌∙◌, inl, inr, append_assoc}
use Rattle.std.specs.Prelude.{flat_map, unwrap_or}
use Rattle.std.specs.Ordering.{nat_cmp, eq_by_cmp}
use Rattle.std.specs.Cmp.Lexicographic.{slice_cmp}
use Rattle.std.specs.FinMap as finite
use Rattle.std.proofs.lemmas.Cmp.{nat_list_cmp_total, eq_by_cmp_equiv}
use Rattle.std.proofs.lemmas.Grind.{flat_map-append}
use Rattle.std.proofs.lemmas.List.{append-nil, take-append-drop, take_more}
use Rattle.std.proofs.Math.Seq.{drop-cons}
use Rattle.gsm_outside.specs.Held.{Held, file_bytes, with_bytes, put_in, add_to, AddedPart, MaybeEmptied}
use Rattle.cert_files.specs.Certificates.{put_cert, PutPart, KeepsOthers}

ties : (name : List ℕ) → eq_by_cmp (slice_cmp nat_cmp) name name ≡ true
ties name = (eq_by_cmp_equiv nat_list_cmp_total).refl name

same_names : finite.IsAntisymmetric (slice_cmp nat_cmp)
same_names = finite.slice_cmp-IsAntisymmetric finite.nat_cmp-IsAntisymmetric

held_put : (held : Held) (name bytes : List ℕ) → file_bytes (with_bytes held name bytes) name ≡ bytes
held_put held name bytes =
    ap (λ (o : Option (List ℕ)). unwrap_or o [])
    (finite.get-insert nat_list_cmp_total held name bytes name ∙ ap (λ (b : Bool). cond b (Some bytes) (finite.get held name)) (ties name))

later_only : {X : Type 0} (here : Bool) (a b x : X) → cond here b (cond here a x) ≡ cond here b x
later_only true a b x = refl
later_only false a b x = refl

put_twice : (held : Held) (name a b : List ℕ) → with_bytes (with_bytes held name a) name b ≡ with_bytes held name b
put_twice held name a b =
    finite.same_map nat_list_cmp_total same_names _ _ (λ q.
    finite.get-insert nat_list_cmp_total (with_bytes held name a) name b q
    ∙ ap (λ (o : Option (List ℕ)). cond (eq_by_cmp (slice_cmp nat_cmp) q name) (Some b) o) (finite.get-insert nat_list_cmp_total held name a q)
    ∙ later_only (eq_by_cmp (slice_cmp nat_cmp) q name) (Some a) (Some b) (finite.get held q)
    ∙ sym (finite.get-insert nat_list_cmp_total held name b q))

-- a piece behind the bytes that were put
pub put_more : (held : Option Held) (name a b : List ℕ) → add_to name b (put_in name a held) ≡ put_in name (a ++ b) held
put_more None name a b = refl
put_more (Some m) name a b =
    ap Some (ap (λ (bytes : List ℕ). with_bytes (with_bytes m name a) name (bytes ++ b)) (held_put m name a) ∙ put_twice m name a (a ++ b))

-- the lines of items: those before one, its line and those behind
pub lines_apart : {X : Type 0} (line : X → List ℕ) (items : List X) (k : ℕ) (x : X) → k < length items → x ≡ get_or items k x
    → flat_map line items ≡ flat_map line (take k items) ++ (line x ++ flat_map line (drop (suc k) items))
lines_apart line items k x within at =
    let here : drop k items ≡ x ∷ drop (suc k) items = drop-cons items k x within ∙ ap (λ y. y ∷ drop (suc k) items) (sym at) in
    ap (flat_map line) (sym (take-append-drop k items)) ∙ flat_map-append line (take k items) (drop k items) ∙ ap (λ xs. flat_map line (take k items) ++ flat_map line xs) here

-- nothing was written yet
pub nothing_put : (held new : Option Held) (name bytes : List ℕ) → MaybeEmptied name held new → PutPart (Some name) (Some bytes) held new
nothing_put held new name bytes (inl same) = inl same
nothing_put held new name bytes (inr emptied) = inr (record { front = []; rest = bytes; parts = refl; put = emptied })

-- the front of the lines was written
pub front_put : {X : Type 0} (held new : Option Held) (name : List ℕ) (line : X → List ℕ) (items : List X) (k : ℕ) → new ≡ put_in name (flat_map line (take k items)) held
    → PutPart (Some name) (Some (flat_map line items)) held new
front_put held new name line items k put =
    inr (record {
      front = flat_map line (take k items);
      rest = flat_map line (drop k items);
      parts = ap (flat_map line) (sym (take-append-drop k items)) ∙ flat_map-append line (take k items) (drop k items);
      put = put;
    })

-- and perhaps the front of one line more
pub part_put : {X : Type 0} (held before new : Option Held) (name : List ℕ) (line : X → List ℕ) (items : List X) (k : ℕ) (x : X) → k < length items → x ≡ get_or items k x
    → before ≡ put_in name (flat_map line (take k items)) held → AddedPart name (line x) before new → PutPart (Some name) (Some (flat_map line items)) held new
part_put held before new name line items k x within at put (inl same) = front_put held new name line items k (same ∙ put)
part_put held before new name line items k x within at put (inr added) =
    let n = added.0 in
    let done = flat_map line (take k items) in
    let others = flat_map line (drop (suc k) items) in
    let one : line x ++ others ≡ take n (line x) ++ (drop n (line x) ++ others) =
    ap (λ (xs : List ℕ). xs ++ others) (sym (take-append-drop n (line x))) ∙ append_assoc (take n (line x)) (drop n (line x)) others in
    inr (record {
      front = done ++ take n (line x);
      rest = drop n (line x) ++ others;
      parts = lines_apart line items k x within at ∙ ap (λ (xs : List ℕ). done ++ xs) one ∙ sym (append_assoc done (take n (line x)) (drop n (line x) ++ others));
      put = added.1 ∙ ap (add_to name (take n (line x))) put ∙ put_more held name done (take n (line x));
    })

-- one line more was written
pub line_put : {X : Type 0} (held before new : Option Held) (name : List ℕ) (line : X → List ℕ) (items : List X) (k : ℕ) (x : X) → k < length items → x ≡ get_or items k x
    → before ≡ put_in name (flat_map line (take k items)) held → new ≡ add_to name (line x) before → new ≡ put_in name (flat_map line (take (k + 1) items)) held
line_put held before new name line items k x within at put added =
    let more : flat_map line (take (k + 1) items) ≡ flat_map line (take k items) ++ line x =
    ap (flat_map line) (take_more items k x within ∙ ap (λ y. take k items ++ y ∷ []) (sym at)) ∙ flat_map-append line (take k items) (x ∷ []) ∙ ap (λ (xs : List ℕ). flat_map line (take k items) ++ xs) (append-nil (line x)) in
    added ∙ ap (add_to name (line x)) put ∙ put_more held name (flat_map line (take k items)) (line x) ∙ ap (λ (xs : List ℕ). put_in name xs held) (sym more)

-- what a certificate leaves on a shelf is under its name
pub cert_put_keeps : (name cert : Option (List ℕ)) (held new : Option Held) → new ≡ put_cert name cert held → KeepsOthers name held new
cert_put_keeps None cert held new put = put
cert_put_keeps (Some name) None held new put = inl put
cert_put_keeps (Some name) (Some bytes) held new put = inr (bytes, put)

pub part_keeps : (name cert : Option (List ℕ)) (held new : Option Held) → PutPart name cert held new → KeepsOthers name held new
part_keeps None cert held new same = same
part_keeps (Some name) None held new same = inl same
part_keeps (Some name) (Some bytes) held new (inl same) = inl same
part_keeps (Some name) (Some bytes) held new (inr front) = inr (front.front, front.put)

pub still_keeps : (name : Option (List ℕ)) (held new : Option Held) → new ≡ held → KeepsOthers name held new
still_keeps None held new same = same
still_keeps (Some name) held new same = inl same
