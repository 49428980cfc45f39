-- The records of a text: how many there are, how many fields each has, and that reading to the end gives them all.
use Rattle.std.proofs.Common.{◌≡◌, ℕ, zero, suc, ◌+◌, ◌-◌, ◌<◌, ◌≤◌, Bool, true, false, cond, List, [], ◌∷◌, ◌++◌, length, get_or, Option, Some, None, All, refl, arith}
use Rattle.std.proofs.lemmas.List.{length-append, length-map, length-take}
use Rattle.std.proofs.lemmas.List.Elements.{All-cons, All-nil, All-map, All-weaker}
use Rattle.std.specs.List.{suffix_len}
use Rattle.csv.specs.Records.{field_at}
use Rattle.csv.specs.Machine.{Read, next_record, ends_at_end, is_end, step, fields_after, field_after}
use Rattle.csv.specs.Reading.{Reached, records_from, records_next, records, default_config, strip_bom, is_bom}
use Rattle.csv.specs.declared.parser.Action.{Action}
use Rattle.csv.specs.declared.parser.Action.TheVariants as act
use Rattle.csv.specs.declared.parser.Config.{Config}
use Rattle.csv.specs.declared.parser.State.{State}
use Rattle.csv.specs.declared.parser.State.TheVariants as st
use Rattle.stage_file.specs.Rows.{is_blank, without_blank_end, rows_of_bytes}

field_is : (fields : List (List ℕ)) (i : ℕ) (d : List ℕ) → i < length fields → field_at fields i ≡ Some (get_or fields i d)
unfolding field_at
field_is [] i d within = absurd (omega arith)
field_is (f ∷ fs) zero d within = refl
field_is (f ∷ fs) (suc i) d within = field_is fs i d (omega arith)

-- the field that was read is the one at the place
pub field_read : (fields : List (List ℕ)) (i : ℕ) (f d : List ℕ) → field_at fields i ≡ Some f → i < length fields → get_or fields i d ≡ f
field_read fields i f d read within = let there = field_is fields i d within in cc

end_le : (b : Bool) (fields : List (List ℕ)) (p : Read) → cond b (Some (fields, st.StartRecord, [])) None ≡ Some p → (length p.2 ≤ 0) × (length p.0 ≤ length fields)
end_le true fields p e = (let same : [] ≡ p.2 = cc in let row : fields ≡ p.0 = cc in (rw (← same) (omega arith), rw (← row) (omega arith)))
end_le false fields p e = cc

fields_after_le : (a : Action) (fields : List (List ℕ)) (field : List ℕ) → length (fields_after a fields field) ≤ length fields + 1
fields_after_le act.EndField fields field = omega (arith, length-append fields (field ∷ []))
fields_after_le act.Skip fields field = omega arith
fields_after_le act.Copy fields field = omega arith
fields_after_le act.EndRecord fields field = omega (arith, length-append fields (field ∷ []))

step_le : (b : Bool) (fields : List (List ℕ)) (s : State) (rest : List ℕ) (more : Option Read) (p : Read) (most : ℕ)
    → (more ≡ Some p → (length p.2 ≤ length rest) × (length p.0 ≤ most)) → length fields ≤ most
    → cond b (Some (fields, s, rest)) more ≡ Some p → (length p.2 ≤ length rest) × (length p.0 ≤ most)
step_le true fields s rest more p most h few e = (let same : rest ≡ p.2 = cc in let row : fields ≡ p.0 = cc in (rw (← same) (omega arith), rw (← row) few))
step_le false fields s rest more p most h few e = h e

-- a read of a record leaves fewer bytes, where there were any, and adds at most a field for each byte that it takes, and one
next_le : (cfg : Config) (s : State) (fields : List (List ℕ)) (field xs : List ℕ) (p : Read)
    → next_record cfg s fields field xs ≡ Some p → (length p.2 ≤ length xs - 1) × (length p.0 ≤ length fields + length xs + 1)
unfolding next_record
next_le cfg s fields field [] p e =
    let le = end_le (ends_at_end s) (fields ++ (field ∷ [])) p e in
    (omega arith, omega (arith, length-append fields (field ∷ [])))
next_le cfg s fields field (c ∷ rest) p e =
    let after = fields_after (step cfg s c).1 fields field in
    let grown : length after ≤ length fields + 1 = fields_after_le (step cfg s c).1 fields field in
    let le = step_le (is_end (step cfg s c).1) after (step cfg s c).0 rest (next_record cfg (step cfg s c).0 after (field_after (step cfg s c).1 c field) rest) p (length fields + length rest + 2)
    (λ q. (let more = next_le cfg (step cfg s c).0 after (field_after (step cfg s c).1 c field) rest p q in (omega arith, omega arith))) (omega arith) e in
    (omega arith, omega arith)

end_state : (b : Bool) (fields : List (List ℕ)) (p : Read) → cond b (Some (fields, st.StartRecord, [])) None ≡ Some p → (p.1 ≡ st.StartRecord) × (p.2 ≡ [])
end_state true fields p e = (cc, cc)
end_state false fields p e = cc

-- behind the end there is no record
none_behind : (cfg : Config) (raw : List (List (List ℕ))) (s2 : State) (ys : List ℕ) → Reached cfg st.StartRecord [] raw s2 ys → length raw ≤ 0
unfolding Reached next_record
none_behind cfg [] s2 ys r = omega arith
none_behind cfg (row ∷ raw) s2 ys (p, e, same, more) = cc

one_at_end : (cfg : Config) (s : State) (p : Read) → next_record cfg s [] [] [] ≡ Some p → (p.1 ≡ st.StartRecord) × (p.2 ≡ [])
unfolding next_record
one_at_end cfg s p e = end_state (ends_at_end s) ([] ∷ []) p e

-- no more records than bytes, and one
few : (cfg : Config) (s : State) (xs : List ℕ) (raw : List (List (List ℕ))) (s2 : State) (ys : List ℕ) → Reached cfg s xs raw s2 ys → length raw ≤ length xs + 1
unfolding Reached
few cfg s xs [] s2 ys r = omega arith
few cfg s [] (row ∷ raw) s2 ys (p, e, same, more) =
    let at = one_at_end cfg s p e in
    let behind : Reached cfg st.StartRecord [] raw s2 ys = rw (at.0, at.1) at more in
    let none = none_behind cfg raw s2 ys behind in
    omega arith
few cfg s (c ∷ xs) (row ∷ raw) s2 ys (p, e, same, more) =
    let rest = few cfg p.1 p.2 raw s2 ys more in
    let less = next_le cfg s [] [] (c ∷ xs) p e in
    omega arith

-- records that take a text to its end are all its records
all_from : (cfg : Config) (n : ℕ) (s : State) (xs : List ℕ) (raw : List (List (List ℕ))) (s2 : State) (ys : List ℕ)
    → length raw ≤ n → Reached cfg s xs raw s2 ys → next_record cfg s2 [] [] ys ≡ None → records_from cfg n s xs ≡ raw
unfolding Reached records_from
all_from cfg zero s xs [] s2 ys le r none = refl
all_from cfg zero s xs (row ∷ raw) s2 ys le r none = absurd (omega arith)
all_from cfg (suc n) s xs [] s2 ys le (state, bytes) none = rw (state, bytes, none) refl
all_from cfg (suc n) s xs (row ∷ raw) s2 ys le (p, e, same, more) none =
    rw (e, same, all_from cfg n p.1 p.2 raw s2 ys (omega arith) more none) refl

pub all_records : (cfg : Config) (xs : List ℕ) (raw : List (List (List ℕ))) (s2 : State) (ys : List ℕ)
    → Reached cfg st.StartRecord xs raw s2 ys → next_record cfg s2 [] [] ys ≡ None → records cfg xs ≡ raw
all_records cfg xs raw s2 ys r none = all_from cfg (length xs + 1) st.StartRecord xs raw s2 ys (few cfg st.StartRecord xs raw s2 ys r) r none

-- ---- how many, and how long

few_next : (more : State → List ℕ → List (List (List ℕ))) (n : ℕ) → ((s : State) (xs : List ℕ) → length (more s xs) ≤ n) → (read : Option Read) → length (records_next more read) ≤ suc n
few_next more n few None = omega arith
few_next more n few (Some p) = omega (arith, few p.1 p.2)

few_from : (cfg : Config) (n : ℕ) (s : State) (xs : List ℕ) → length (records_from cfg n s xs) ≤ n
unfolding records_from
few_from cfg zero s xs = omega arith
few_from cfg (suc n) s xs = few_next (records_from cfg n) n (few_from cfg n) (next_record cfg s [] [] xs)

-- a row with at most so many fields
abbrev HasFew : ℕ → List (List ℕ) → Type 0
HasFew most row = length row ≤ most

short_next : (more : State → List ℕ → List (List (List ℕ))) (bytes : ℕ) → ((s : State) (xs : List ℕ) → length xs ≤ bytes → All (HasFew (bytes + 1)) (more s xs))
    → (read : Option Read) → ((p : Read) → read ≡ Some p → (length p.2 ≤ bytes) × (length p.0 ≤ bytes + 1)) → All (HasFew (bytes + 1)) (records_next more read)
short_next more bytes short None h = All-nil (HasFew (bytes + 1))
short_next more bytes short (Some p) h =
    let here = h p refl in
    All-cons (HasFew (bytes + 1)) p.0 (more p.1 p.2) here.1 (short p.1 p.2 here.0)

short_from : (cfg : Config) (bytes n : ℕ) (s : State) (xs : List ℕ) → length xs ≤ bytes → All (HasFew (bytes + 1)) (records_from cfg n s xs)
unfolding records_from
short_from cfg bytes zero s xs le = All-nil (HasFew (bytes + 1))
short_from cfg bytes (suc n) s xs le =
    short_next (records_from cfg n) bytes (short_from cfg bytes n) (next_record cfg s [] [] xs)
    (λ p e. (let less = next_le cfg s [] [] xs p e in (omega arith, omega arith)))

strip_le_if : (b : Bool) (rest : List ℕ) (x y z : ℕ) → length (cond b rest (x ∷ y ∷ z ∷ rest)) ≤ length rest + 3
strip_le_if true rest x y z = omega arith
strip_le_if false rest x y z = omega arith

strip_le : (xs : List ℕ) → length (strip_bom xs) ≤ length xs
unfolding strip_bom
strip_le [] = omega arith
strip_le (a ∷ []) = omega arith
strip_le (a ∷ b ∷ []) = omega arith
strip_le (a ∷ b ∷ c ∷ rest) = omega (arith, strip_le_if (is_bom a b c) rest a b c)

cut_le : (most : ℕ) (row : List (List ℕ)) → HasFew most row → HasFew most (without_blank_end row)
unfolding without_blank_end
cut_le most row few = omega (arith, length-take (length row - suffix_len is_blank row) row)

pub few_rows : (bytes : List ℕ) → length (rows_of_bytes bytes) ≤ length bytes + 1
unfolding rows_of_bytes
few_rows bytes =
    let text = strip_bom bytes in
    let shorter : length text ≤ length bytes = strip_le bytes in
    let few : length (records default_config text) ≤ length text + 1 = few_from default_config (length text + 1) st.StartRecord text in
    omega (arith, length-map (records default_config text) without_blank_end)

pub short_rows : (bytes : List ℕ) → All (λ row. length row ≤ length bytes + 1) (rows_of_bytes bytes)
unfolding rows_of_bytes
short_rows bytes =
    let most = length bytes + 1 in
    let text = strip_bom bytes in
    let read = records default_config text in
    let short : All (HasFew most) read = short_from default_config (length bytes) (length text + 1) st.StartRecord text (strip_le bytes) in
    All-map (HasFew most) without_blank_end read (All-weaker (HasFew most) (λ row. HasFew most (without_blank_end row)) (cut_le most) read short)
