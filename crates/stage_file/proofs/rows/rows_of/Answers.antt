use Rattle.std.proofs.Common.{Bor, List, ℕ, ◌≡◌, ◌∙◌, sym, refl, inl, inr, map, Some, ◌∷◌, ◌++◌, []}
use Rattle.std.proofs.lemmas.List.{map_push}
use Rattle.csv.specs.Reading.{Reached, default_config, strip_bom}
use Rattle.csv.specs.Records.{fields_of}
use Rattle.csv.specs.declared.parser.State.TheVariants as st
use Rattle.csv.proofs.ReadFacts.{rows-end, rows-more}
use Rattle.stage_file.specs.Rows.{without_blank_end, rows_of_bytes}
use Rattle.stage_file.proofs.RowFacts.{all_records, few_rows, short_rows}
use Rattle.stage_file.proofs.rows.rows_of.Goals as goal

pub records-init : goal.records-init
unfolding Reached
records-init c =
    let fr = c.from_reader-reader.ensures in
    let e = c.flexible.ensures in
    let h = c.has_headers.ensures in
    let start = c.into_iter-record-iterator.ensures.into_iter_gives ∙ refl in
    let rdr = c.into_byte_records-record-items.ensures.rdr in
    let left = c.into_byte_records-record-items.ensures.left in
    rw (start, rdr, c.new-rows.ensures) (
      rw (e, h) at fr.trim ∙ c.new.ensures.trim,
      inr (inr (rw (e, h) at fr.has_headers, fr.headers)),
      left,
      rw (e, h) at fr.config ∙ c.new.ensures.config,
      strip_bom c.args.bytes.now,
      fr.source,
      [],
      refl,
      (sym fr.state, refl),
    )

pub records-preserved : goal.records-preserved
records-preserved c =
    let inv = c.records.invariant in
    let s = rw (c.in-Some.is, c.in-Ok.is) at ((c.next.ensures.steps inv.2 inv.0).0 inv.1) in
    let f : List (List ℕ) = fields_of c.in-Ok.record in
    let m = rows-more (λ (s : Bor (List ℕ)). Some s.now) c.records.record-iterator.rdr c.next.new.self.rdr f default_config st.StartRecord (strip_bom c.args.bytes.now) inv.4 inv.6 inv.3 inv.5 inv.8 s.0 in
    let rows : c.push.new.self ≡ map without_blank_end (inv.6 ++ f ∷ []) = rw (c.in_ok-push.ensures.ok, c.in_ok-row_of.ensures, inv.7, map_push) refl in
    (s.0.3 ∙ inv.0, inl s.1, s.2, s.0.2 ∙ inv.3, m.0, m.1, inv.6 ++ f ∷ [], rows, m.2)

pub returns : goal.returns
unfolding rows_of_bytes
returns c =
    let inv = c.records.invariant in
    let s = rw c.in-None.is at ((c.next.ensures.steps inv.2 inv.0).0 inv.1) in
    let none = rows-end (λ (s : Bor (List ℕ)). Some s.now) c.records.record-iterator.rdr c.next.new.self.rdr [] default_config inv.4 inv.3 inv.5 s in
    let all = all_records default_config (strip_bom c.args.bytes.now) inv.6 c.records.record-iterator.rdr.state inv.4 inv.8 none in
    let same : c.records.rows ≡ rows_of_bytes c.args.bytes.now = rw (inv.7, all) refl in
    record {
      value = same;
      few_rows = rw same (few_rows c.args.bytes.now);
      short_rows = rw same (short_rows c.args.bytes.now);
    }
