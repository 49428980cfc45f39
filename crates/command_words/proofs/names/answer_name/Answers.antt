use Rattle.std.proofs.Common.{◌≡◌, ◌++◌, refl, sym, ◌∙◌, append_assoc, codes, string_bytes}
use Rattle.std.specs.Prelude.{decimal}
use Rattle.std.proofs.lemmas.Slice.Eq.{bytes_eq-Decides}
use Rattle.command_words.specs.Names.{is_kept}
use Rattle.command_words.proofs.NameFacts.{begins_with_front}
use Rattle.command_words.proofs.names.answer_name.Goals as goal

pub returns-in_ok-from_str-in-Whole-clause-kept : goal.returns-in_ok-from_str-in-Whole-clause-kept
unfolding is_kept
returns-in_ok-from_str-in-Whole-clause-kept c =
    let name = c.args.name.now in
    rw (c.in-Whole.is, c.in_ok-from_str-in-Whole.ensures.ok, (bytes_eq-Decides name name).1 refl) refl

pub returns-in_ok-format-in-Numbered-clause-value : goal.returns-in_ok-format-in-Numbered-clause-value
returns-in_ok-format-in-Numbered-clause-value c =
    rw c.in-Numbered.is (c.in_ok-format-in-Numbered.ensures.ok ∙ sym (append_assoc c.args.name.now (codes "-") (decimal c.args.k)))

pub returns-in_ok-format-in-Numbered-clause-kept : goal.returns-in_ok-format-in-Numbered-clause-kept
unfolding is_kept
returns-in_ok-format-in-Numbered-clause-kept c =
    let front = c.args.name.now ++ codes "-" in
    let file : string_bytes c.in_ok-format-in-Numbered.field-0 ≡ front ++ decimal c.args.k = c.in_ok-format-in-Numbered.ensures.ok ∙ sym (append_assoc c.args.name.now (codes "-") (decimal c.args.k)) in
    rw (c.in-Numbered.is, file, begins_with_front front (decimal c.args.k)) refl
