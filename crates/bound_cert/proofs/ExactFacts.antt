-- The compact text of a value without floats and objects is printable, and reads as that value.
use Rattle.std.proofs.Common.{◌≡◌, ℕ, zero, suc, ◌^◌, ◌<◌, ◌≤◌, List, [], ◌∷◌, ◌++◌, Bool, true, false, ◌&&◌, nat_le, nat_lt, if◌then◌else◌, Option, Some, option_and_then, append-nil, IsUtf8, decimal, refl, sym, ap, ◌∙◌, arith, get_or}
use Rattle.std.proofs.lemmas.Fmt.{decimal_is_IsNumeral}
use Rattle.std.proofs.lemmas.Str.{IsUtf8-from_ascii}
use Rattle.std.specs.Char.{digit_value}
use Rattle.std.specs.Str.Parse.{AllDigits}
use Rattle.json.specs.Json as json
use Rattle.json.specs.Print.{quoted}
use Rattle.json.specs.Tree as tree
use Rattle.json.specs.Tree.{json_tokens}
use Rattle.json.proofs.Printed.Decimals.{IsNumber-decimal}
use Rattle.json.proofs.Printed.Trees.{ArePrintable-json_tokens, value-json_tokens}
use Rattle.json.proofs.Printed.Tokens.{tokens-print}
use Rattle.json.specs.Token.{Token}
use Rattle.serde_json.specs.Data.{unsigned, negative, float, Data, null, boolean, number, string, array, object, Items, no_items, item}
use Rattle.serde_json.specs.Read.{read, of_json, of_items, max_depth}
use Rattle.serde_json.specs.Written.{outline, items_outline, compact_text, items_text}
use Rattle.serde_json.proofs.Numbers.{number_of-decimal}
use Rattle.serde_json.proofs.Texts.{print-outline}

-- each byte is printable ASCII
abbrev pub IsPrintable : List ℕ → Type 0
IsPrintable [] = Unit {0}
IsPrintable (x ∷ xs) = (32 ≤ x) × (x < 128) × IsPrintable xs

pub IsPrintable-append : (xs ys : List ℕ) → IsPrintable xs → IsPrintable ys → IsPrintable (xs ++ ys)
IsPrintable-append [] ys h k = k
IsPrintable-append (x ∷ xs) ys h k = (h.0, h.1, IsPrintable-append xs ys h.2 k)

pub IsAscii-printable : (xs : List ℕ) → IsPrintable xs → (i : ℕ) → get_or xs i 0 < 128
IsAscii-printable [] h i = omega arith
IsAscii-printable (x ∷ xs) h zero = h.1
IsAscii-printable (x ∷ xs) h (suc i) = IsAscii-printable xs h.2 i

-- the same as a test, which computes on a word
abbrev pub is_printable : List ℕ → Bool
is_printable [] = true
is_printable (x ∷ xs) = if nat_le 32 x && nat_lt x 128 then is_printable xs else false

printable_by : (x : ℕ) (xs : List ℕ) (low high : Bool) → nat_le 32 x ≡ low → nat_lt x 128 ≡ high → (is_printable xs ≡ true → IsPrintable xs)
    → (if low && high then is_printable xs else false) ≡ true → IsPrintable (x ∷ xs)
printable_by x xs true true low high more e = (grind arith, grind arith, more e)
printable_by x xs true false low high more e = cc
printable_by x xs false high low' high' more e = cc

pub printable_from : (xs : List ℕ) → is_printable xs ≡ true → IsPrintable xs
printable_from [] e = tt
printable_from (x ∷ xs) e = printable_by x xs (nat_le 32 x) (nat_lt x 128) refl refl (printable_from xs) e

digit_printable : (d : ℕ) → digit_value d < 10 → (32 ≤ d) × (d < 128)
digit_printable d h = (grind arith, grind arith)

digits_printable : (ds : List ℕ) → AllDigits 10 ds → IsPrintable ds
digits_printable [] h = tt
digits_printable (d ∷ ds) h = let p = digit_printable d h.0 in (p.0, p.1, digits_printable ds h.1)

decimal_printable : (n : ℕ) → n < 2 ^ 64 → IsPrintable (decimal n)
decimal_printable n h = digits_printable (decimal n) (decimal_is_IsNumeral n h).0.1

-- a number below 2 ^ 64, a printable string, or an array of such, at most so deep
abbrev mutual
  pub IsExact : ℕ → Data → Type 0
  IsExact k null = Unit {0}
  IsExact k (boolean b) = ⊥
  IsExact k (number (unsigned n)) = n < 2 ^ 64
  IsExact k (number (negative z)) = ⊥
  IsExact k (number (float x)) = ⊥
  IsExact k (string s) = IsPrintable (quoted s)
  IsExact zero (array ds) = ⊥
  IsExact (suc k) (array ds) = AreExact k ds
  IsExact k (object ms) = ⊥

  pub AreExact : ℕ → Items → Type 0
  AreExact k no_items = Unit {0}
  AreExact k (item d ds) = IsExact k d × AreExact k ds

mutual
  pub text_printable : (k : ℕ) (d : Data) → IsExact k d → IsPrintable (compact_text d)
  text_printable k null h = (omega arith, omega arith, (omega arith, omega arith, (omega arith, omega arith, (omega arith, omega arith, tt))))
  text_printable k (boolean b) h = absurd h
  text_printable k (number (unsigned n)) h = decimal_printable n h
  text_printable k (number (negative z)) h = absurd h
  text_printable k (number (float x)) h = absurd h
  text_printable k (string s) h = h
  text_printable zero (array ds) h = absurd h
  text_printable (suc k) (array ds) h = (omega arith, omega arith, items_printable k false ds h)
  text_printable k (object ms) h = absurd h

  items_printable : (k : ℕ) (later : Bool) (ds : Items) → AreExact k ds → IsPrintable (items_text later ds)
  items_printable k later no_items h = (omega arith, omega arith, tt)
  items_printable k true (item d ds) h = (omega arith, omega arith, IsPrintable-append _ _ (text_printable k d h.0) (items_printable k true ds h.1))
  items_printable k false (item d ds) h = IsPrintable-append _ _ (text_printable k d h.0) (items_printable k true ds h.1)

mutual
  of_json-outline : (k : ℕ) (d : Data) → IsExact k d → of_json (outline d) ≡ Some d
  of_json-outline k null h = refl
  of_json-outline k (boolean b) h = absurd h
  of_json-outline k (number (unsigned n)) h = rw (number_of-decimal n h)
  of_json-outline k (number (negative z)) h = absurd h
  of_json-outline k (number (float x)) h = absurd h
  of_json-outline k (string s) h = refl
  of_json-outline zero (array ds) h = absurd h
  of_json-outline (suc k) (array ds) h = rw (of_items-outline k ds h)
  of_json-outline k (object ms) h = absurd h

  of_items-outline : (k : ℕ) (ds : Items) → AreExact k ds → of_items (items_outline ds) ≡ Some ds
  of_items-outline k no_items h = refl
  of_items-outline k (item d ds) h = rw (of_json-outline k d h.0, of_items-outline k ds h.1)

mutual
  numbers_outline : (k : ℕ) (d : Data) → IsExact k d → tree.HasNumbers (outline d) × (tree.depth (outline d) ≤ k)
  numbers_outline k null h = (tt, omega arith)
  numbers_outline k (boolean b) h = absurd h
  numbers_outline k (number (unsigned n)) h = (IsNumber-decimal n h, omega arith)
  numbers_outline k (number (negative z)) h = absurd h
  numbers_outline k (number (float x)) h = absurd h
  numbers_outline k (string s) h = (tt, omega arith)
  numbers_outline zero (array ds) h = absurd h
  numbers_outline (suc k) (array ds) h = let p = numbers_items k ds h in (p.0, omega (arith, p.1))
  numbers_outline k (object ms) h = absurd h

  numbers_items : (k : ℕ) (ds : Items) → AreExact k ds → tree.ItemsHaveNumbers (items_outline ds) × (tree.items_depth (items_outline ds) ≤ k)
  numbers_items k no_items h = (tt, omega arith)
  numbers_items k (item d ds) h =
      let p = numbers_outline k d h.0 in
      let q = numbers_items k ds h.1 in
      ((p.0, q.0), omega (arith, p.1, q.1))

-- what is written is UTF-8, and reads as what was written
pub utf8_written : (k : ℕ) (d : Data) → IsExact k d → IsUtf8 (compact_text d)
utf8_written k d h = IsUtf8-from_ascii (compact_text d) (IsAscii-printable (compact_text d) (text_printable k d h))

pub read_written : (k : ℕ) (d : Data) → k ≤ max_depth → IsExact k d → read (compact_text d) ≡ Some d
read_written k d shallow h =
    let p = numbers_outline k d h in
    let ts = json_tokens (outline d) in
    let lexed = tokens-print ts (ArePrintable-json_tokens (outline d) p.0) in
    let whole = λ (o : Option (json.Json × List Token)). option_and_then of_json (option_and_then (λ q. json.if_last q.0 q.1) o) in
    ap read (sym (print-outline d))
    ∙ ap whole (ap (json.value max_depth) (lexed ∙ sym (append-nil ts)) ∙ value-json_tokens (outline d) max_depth [] (omega (arith, p.1)))
    ∙ of_json-outline k d h
