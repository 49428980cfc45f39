use Rattle.std.proofs.Common.{◌≡◌, ◌<◌, [], false, take, length, get_or, All, refl, sym, ◌∙◌, arith}
use Rattle.std.proofs.lemmas.List.{take_all, map_more, get_or_read}
use Rattle.std.proofs.lemmas.List.Elements.{All-more}
use Rattle.stage_file.specs.declared.limits.TheConstants.{MAX_EXCESS}
use Rattle.stage_file.specs.Fields.{is_no_number, is_past, number_or}
use Rattle.stage_file.proofs.TableFacts.{entries_pass}
use Rattle.stage_file.proofs.tables.entries_of.Goals as goal

pub fields-preserved : goal.fields-preserved
fields-preserved c =
    let fields = c.entries_in-fields.result.now in
    let before = c.fields.invariant in
    let within : c.fields.k < length fields = omega arith in
    let read : get_or fields c.fields.k [] ≡ c.as_slice.result.now = sym (get_or_read fields c.fields.k c.index-fields-k.result within c.index-fields-k.is []) ∙ sym c.as_slice.ensures in
    record {
      entries = rw (c.in_ok-push.ensures.ok, before.entries, map_more (number_or 0 MAX_EXCESS) fields c.fields.k [] within, read, c.in-Some.ensures.0) refl;
      numbers = All-more (λ f. is_no_number MAX_EXCESS f ≡ false) fields c.fields.k [] within before.numbers (rw read c.in-Some.ensures.1);
      within = All-more (λ f. is_past MAX_EXCESS f ≡ false) fields c.fields.k [] within before.within (rw read c.in-Some.ensures.2);
    }

pub returns : goal.returns
returns c =
    let fields = c.entries_in-fields.result.now in
    let whole : take c.fields.k fields ≡ fields = take_all c.fields.k fields (omega arith) in
    let read = c.fields.invariant in
    let numbers : All (λ f. is_no_number MAX_EXCESS f ≡ false) fields = rw whole at read.numbers in
    let within : All (λ f. is_past MAX_EXCESS f ≡ false) fields = rw whole at read.within in
    rw (← c.entries_in-fields.ensures) (entries_pass c.args.record.now.number fields numbers within, rw whole at read.entries)
