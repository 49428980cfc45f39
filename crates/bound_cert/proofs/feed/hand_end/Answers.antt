use Rattle.std.proofs.Common.{rules, ◌≡◌, true, false, [], arith}
use Rattle.bound_cert.specs.Stream.{has_begun, closed, line_done}
use Rattle.bound_cert.proofs.StreamFacts.{line_done_counts}
use Rattle.bound_cert.proofs.FeedFacts.{took_none, took_more, step_on, refused_step, closed_behind}
use Rattle.bound_cert.proofs.EndFacts.{no_last_line, last_line}
use Rattle.bound_cert.proofs.feed.hand_end.Goals as goal

pub returns-then-not-has_begun-clause-feeds : goal.returns-then-not-has_begun-clause-feeds
returns-then-not-has_begun-clause-feeds g c =
    let none : has_begun c.args.stream.now ≡ false = search rules in
    closed_behind _ [] (closed c.args.stream.now) c.args.stream.now _ _ _ _ (no_last_line c.args.stream.now none) (took_none _) c.close.ensures

pub returns-in-Err-clause-feeds : goal.returns-in-Err-clause-feeds
returns-in-Err-clause-feeds g c =
    let begun : has_begun c.args.stream.now ≡ true = search rules in
    refused_step _ [] closed (line_done c.args.stream.now) c.args.stream.now _ _ _ _ _ c.in-Err.stop
    (last_line c.args.stream.now begun) (line_done_counts c.args.stream.now) (omega arith) (took_none _) c.in-Err.ensures.stepped

pub returns-clause-feeds : goal.returns-clause-feeds
returns-clause-feeds g c =
    let begun : has_begun c.args.stream.now ≡ true = search rules in
    let (items, read, stops, stands) = c.in_default.ensures.stepped in
    closed_behind _ items (closed c.hand_last.new.stream) c.hand_last.new.stream _ _ _ _
    (step_on _ [] items closed _ _ (last_line c.args.stream.now begun) read) (took_more _ _ _ [] items (took_none _) stops stands) c.close-2.ensures
