-- Reading field by field: one more number of a list, and the value of a line.
use Rattle.std.proofs.Common.{◌≡◌, ℕ, suc, ◌+◌, ◌<◌, ◌≤◌, List, [], ◌∷◌, ◌++◌, length, drop, get_or, Bool, true, false, Some, None, Result, Ok, Err, refl, sym, ap, ◌∙◌, append_assoc, append-nil, add-one, drop-cons}
use Rattle.std.proofs.lemmas.Str.{IsUtf8-from_is_utf8, is_utf8-from_IsUtf8}
use Rattle.std.specs.Str.{IsUtf8, is_utf8}
use Rattle.serde_json.specs.Data.{Data, Items, no_items, item}
use Rattle.serde_json.specs.Read.{read}
use Rattle.serde_json.specs.View.{view, items_view}
use Rattle.serde_json.specs.declared.value.Value.{Value}
use Rattle.bound_cert.specs.declared.line.Refusal.{Refusal}
use Rattle.bound_cert.specs.declared.line.Refusal.TheVariants.{NotJson}
use Rattle.bound_cert.specs.declared.line.LineStop.{LineStop}
use Rattle.bound_cert.specs.declared.line.LineStop.TheVariants.{Refused, NoMemory}
use Rattle.std.proofs.lemmas.List.{drop_all}
use Rattle.bound_cert.specs.Refusals.{◌>>=◌, Fails}
use Rattle.bound_cert.specs.Fields.{whole_in, wholes_among}
use Rattle.bound_cert.specs.Reading.{value_from}

-- what was read, behind what was read before
abbrev pub with_front : List ℕ → Result (List ℕ) Refusal → Result (List ℕ) Refusal
with_front front read = read >>= λ ns. Ok (front ++ ns)

moved : (front : List ℕ) (n : ℕ) (r : Result (List ℕ) Refusal) → with_front front (r >>= λ ns. Ok (n ∷ ns)) ≡ with_front (front ++ n ∷ []) r
moved front n (Ok ns) = ap Ok (sym (append_assoc front (n ∷ []) ns))
moved front n (Err e) = refl

pub front_more : (most n : ℕ) (front : List ℕ) (d : Data) (rest : Items) → whole_in 0 most d ≡ Ok n → with_front (front ++ n ∷ []) (wholes_among most rest) ≡ with_front front (wholes_among most (item d rest))
unfolding wholes_among
front_more most n front d rest e = rw e (sym (moved front n (wholes_among most rest)))

pub front_refused : (most : ℕ) (why : Refusal) (front : List ℕ) (d : Data) (rest : Items) → whole_in 0 most d ≡ Err why → with_front front (wholes_among most (item d rest)) ≡ Err why
unfolding wholes_among
front_refused most why front d rest e = rw e

pub front_done : (most : ℕ) (front : List ℕ) → with_front front (wholes_among most no_items) ≡ Ok front
unfolding wholes_among
front_done most front = ap Ok (append-nil front)

pub refused_ends : (most : ℕ) (front : List ℕ) (d : Data) (rest : Items) (all : Result (List ℕ) Refusal) (why : LineStop)
    → with_front front (wholes_among most (item d rest)) ≡ all → Fails why (whole_in 0 most d) → Fails why all
refused_ends most front d rest all NoMemory same fails = tt
refused_ends most front d rest all (Refused why) same fails = sym same ∙ front_refused most why front d rest fails

pub all_read : (most : ℕ) (front : List ℕ) (vs : List Value) (i : ℕ) (all : Result (List ℕ) Refusal) → length vs ≤ i
    → with_front front (wholes_among most (items_view (drop i vs))) ≡ all → all ≡ Ok front
all_read most front vs i all over same = sym same ∙ ap (λ (ds : List Value). with_front front (wholes_among most (items_view ds))) (drop_all i vs over) ∙ front_done most front

-- the value at a place, and those after it
pub next_item : (vs : List Value) (i : ℕ) (v : Value) → i < length vs → v ≡ get_or vs i v → items_view (drop i vs) ≡ item (view v) (items_view (drop (i + 1) vs))
next_item vs i v h is = ap items_view (drop-cons vs i v h) ∙ rw add-one (ap (λ (x : Value). item (view x) (items_view (drop (suc i) vs))) (sym is))

pub value_here : (bytes : List ℕ) (d : Data) → IsUtf8 bytes × (read bytes ≡ Some d) → value_from bytes ≡ Ok d
unfolding value_from
value_here bytes d h = rw (is_utf8-from_IsUtf8 bytes h.0, h.1)

no_value_by : (bytes : List ℕ) (b : Bool) → is_utf8 bytes ≡ b → (IsUtf8 bytes → read bytes ≡ None) → value_from bytes ≡ Err NotJson
unfolding value_from
no_value_by bytes true e h = let none = h (IsUtf8-from_is_utf8 bytes e) in rw (e, none)
no_value_by bytes false e h = rw e

pub no_value : (bytes : List ℕ) → (IsUtf8 bytes → read bytes ≡ None) → value_from bytes ≡ Err NotJson
no_value bytes h = no_value_by bytes (is_utf8 bytes) refl h
