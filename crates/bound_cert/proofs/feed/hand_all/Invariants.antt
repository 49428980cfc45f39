use Rattle.std.proofs.Common.{◌≡◌, ◌+◌, List, length, drop}
use Rattle.service_model.specs.declared.cert.Item.{Item}
use Rattle.service_model.specs.Takers.{state_of}
use Rattle.bound_cert.specs.Stream.{reads, behind}
use Rattle.bound_cert.specs.Steps.{Within}
use Rattle.bound_cert.proofs.FeedFacts.{Took}
use Rattle.bound_cert.proofs.feed.hand_all.Given as goal

-- these items were taken, and the bytes that are left give the others
abbrev pub invariant-bytes : goal.invariant-bytes
invariant-bytes g l = record {
  taken : List Item;
  are : reads l.piece l.initial.stream ≡ behind taken (reads (drop l.byte-index l.piece) l.stream);
  took : Took
      (state_of (g.T.Taker.stands_for l.initial.taker l.initial.world) (g.T.Taker.stops l.initial.taker) (g.T.Taker.refuses l.initial.taker l.initial.world))
      (state_of (g.T.Taker.stands_for l.taker l.world) (g.T.Taker.stops l.taker) (g.T.Taker.refuses l.taker l.world)) taken;
  keeps : g.T.Taker.keeps l.initial.taker l.initial.world l.taker l.world;
  lines : l.stream.lines ≡ l.initial.stream.lines + length taken;
  within : Within l.stream (l.initial.stream.lines + length l.initial.stream.begun + l.byte-index);
}
