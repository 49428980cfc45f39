use Rattle.std.proofs.Common.{◌≡◌, ◌+◌, ◌<◌, true, false, eqb, [], length, arith, sym, ◌∙◌}
use Rattle.stage_file.specs.Seen.{record_of}
use Rattle.edit_script.specs.Names.{is_of}
use Rattle.edit_script.proofs.NameFacts.{fields_at, left_past, left_header, left_other, left_found, none_left, place_found, place_none}
use Rattle.edit_script.proofs.names.place_of.Goals as goal
use Rattle.edit_script.proofs.names.place_of.Goals.{else-behind_header-via-then-behind_header+else-is_of, else-behind_header-via-else-behind_header}

pub rows-preserved-then-is_empty : goal.rows-preserved-then-is_empty
rows-preserved-then-is_empty c =
    let rows = c.args.rows.now in
    let k = c.rows.k in
    let within : k < length rows = omega arith in
    let none : eqb (length (fields_at rows k)) 0 ≡ true =
    rw (c.get.ensures.whatever_else [], ← c.as_slice.ensures, ← c.kept-fields.ensures) (sym c.is_empty.ensures ∙ c.if-is_empty.true) in
    sym (left_past (is_of c.args.name.now) c.rows.behind_header rows k within none) ∙ c.rows.invariant

pub returns-then-is_of-clause-value : goal.returns-then-is_of-clause-value
returns-then-is_of-clause-value c =
    let rows = c.args.rows.now in
    let k = c.rows.k in
    let within : k < length rows = omega arith in
    let test = is_of c.args.name.now in
    let same : fields_at rows k ≡ c.kept-fields.result.now = rw (c.get.ensures.whatever_else [], ← c.as_slice.ensures) (sym c.kept-fields.ensures) in
    let some : eqb (length (fields_at rows k)) 0 ≡ false = rw same (sym c.is_empty.ensures ∙ c.if-is_empty.false) in
    let passes : test (record_of (k + 1) (fields_at rows k)) ≡ true = rw same (sym (c.is_of.ensures (k + 1)) ∙ c.if-is_of.true) in
    let before = rw c.if-behind_header.true at c.rows.invariant in
    place_found test rows k (fields_at rows k) (sym before ∙ left_found test rows k within some passes)

pub rows-preserved : goal.rows-preserved
rows-preserved c =
    let rows = c.args.rows.now in
    let k = c.rows.k in
    let within : k < length rows = omega arith in
    let test = is_of c.args.name.now in
    let same : fields_at rows k ≡ c.kept-fields.result.now = rw (c.get.ensures.whatever_else [], ← c.as_slice.ensures) (sym c.kept-fields.ensures) in
    let some : eqb (length (fields_at rows k)) 0 ≡ false = rw same (sym c.is_empty.ensures ∙ c.if-is_empty.false) in
    elim c.else-behind_header.branch [
      | else-behind_header-via-then-behind_header+else-is_of w ↦
          (let fails : test (record_of (k + 1) (fields_at rows k)) ≡ false = rw same (sym (w.is_of.ensures (k + 1)) ∙ w.if-is_of.false) in
          let before = rw w.if-behind_header.true at c.rows.invariant in
          sym (left_other test rows k within some fails) ∙ before)
      | else-behind_header-via-else-behind_header w ↦
          (let before = rw w.if-behind_header.false at c.rows.invariant in
          sym (left_header test rows k within some) ∙ before)
    ]

pub returns-clause-value : goal.returns-clause-value
returns-clause-value c =
    let rows = c.args.rows.now in
    let test = is_of c.args.name.now in
    place_none test rows (sym c.rows.invariant ∙ none_left test c.rows.behind_header rows c.rows.k (omega arith))
