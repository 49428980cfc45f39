use Rattle.std.proofs.Common.{◌+◌, ◌++◌, drop, get_or, ap, ◌∙◌, arith, length-append}
use Rattle.bound_cert.specs.Stream.{reads, behind, read_byte}
use Rattle.bound_cert.proofs.StreamFacts.{read_byte_counts, next_byte}
use Rattle.bound_cert.proofs.FeedFacts.{took_more, step_on, refused_step}
use Rattle.bound_cert.proofs.feed.hand_all.Goals as goal

pub bytes-preserved : goal.bytes-preserved
bytes-preserved g c =
    let at = c.bytes.invariant in
    let next = next_byte c.args.piece.now c.bytes.byte-index c.bytes-test.true in
    let same = at.are ∙ ap (λ bs. behind at.taken (reads bs c.bytes.stream)) next in
    let (items, read, stops, stands) = c.in_default.ensures.stepped in
    let counted = read_byte_counts c.bytes.stream (get_or c.args.piece.now c.bytes.byte-index 0) items c.hand_byte.new.stream read in
    let follows = c.in_default.ensures.follows in
    record {
      taken = at.taken ++ items;
      are = step_on _ at.taken items (reads (drop (c.bytes.byte-index + 1) c.args.piece.now)) _ _ same read;
      took = took_more _ _ _ at.taken items at.took stops stands;
      keeps = g.met.T.Taker.keeps_on _ _ _ _ _ _ at.keeps c.hand_byte.ensures.keeps;
      lines = omega (arith, at.lines, counted, length-append at.taken items);
      within = record {
        bytes = omega (arith, at.within.bytes, follows.bytes);
        tables = follows.tables;
        nodes = follows.nodes;
        splits = follows.splits;
      };
    }

pub returns-in-Err-clause-feeds : goal.returns-in-Err-clause-feeds
returns-in-Err-clause-feeds g c =
    let at = c.bytes.invariant in
    let next = next_byte c.args.piece.now c.bytes.byte-index c.bytes-test.true in
    let same = at.are ∙ ap (λ bs. behind at.taken (reads bs c.bytes.stream)) next in
    refused_step _ at.taken (reads (drop (c.bytes.byte-index + 1) c.args.piece.now)) (read_byte c.bytes.stream (get_or c.args.piece.now c.bytes.byte-index 0))
    c.bytes.stream _ _ _ _ _ c.in-Err.stop same (read_byte_counts c.bytes.stream _) at.lines at.took c.in-Err.ensures.stepped
