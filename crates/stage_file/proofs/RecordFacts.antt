-- One row more, and texts.
use Rattle.std.proofs.Common.{◌≡◌, ℕ, ◌+◌, ◌<◌, ◌≤◌, suc, List, [], ◌++◌, ◌∷◌, length, map, take, drop, get_or, arith, drop-cons, append_assoc, append-nil, ap, sym, ◌∙◌}
use Rattle.std.proofs.lemmas.List.{drop_all}
use Rattle.std.proofs.lemmas.List.{get_or-map, take_more, map_push}
use Rattle.stage_file.specs.declared.record.Record.{Record}
use Rattle.stage_file.specs.Records.{Numbered, numbered, kept_at, record_at, no_record}
use Rattle.stage_file.specs.Seen.{seen_as, all_seen}

pub numbered_more : (rows : List (List (List ℕ))) (front : List Numbered) (i k : ℕ) (row : List (List ℕ)) → i < length rows → get_or rows i [] ≡ row
    → (front ++ kept_at k row) ++ numbered (k + 1) (drop (i + 1) rows) ≡ front ++ numbered k (drop i rows)
unfolding numbered
numbered_more rows front i k row within same =
    let e : i + 1 ≡ suc i = omega arith in
    rw (drop-cons rows i [], same, e) (append_assoc front (kept_at k row) (numbered (k + 1) (drop (suc i) rows)))

pub numbered_done : (rows : List (List (List ℕ))) (front : List Numbered) (i k : ℕ) → length rows ≤ i → front ++ numbered k (drop i rows) ≡ front
unfolding numbered
numbered_done rows front i k end = rw (drop_all i rows end) (append-nil front)

-- the record that was read at a place
pub record_read : (records : List Record) (k : ℕ) (r : Record) → k < length records → r ≡ get_or records k r → record_at (all_seen records) k ≡ seen_as r
record_read records k r within at = get_or-map seen_as records k r no_record within ∙ ap seen_as (sym at)

-- what is seen of the records up to a place, and of the record there
pub seen_more : {Y : Type 0} (see : Numbered → Y) (records : List Record) (k : ℕ) (r : Record) → k < length records → r ≡ get_or records k r
    → map see (all_seen (take (k + 1) records)) ≡ map see (all_seen (take k records)) ++ see (seen_as r) ∷ []
seen_more see records k r within at =
    let more : take (k + 1) records ≡ take k records ++ r ∷ [] = take_more records k r within ∙ ap (λ (x : Record). take k records ++ x ∷ []) (sym at) in
    rw (more, map_push seen_as (take k records) r) (map_push see (all_seen (take k records)) (seen_as r))
