use Rattle.std.proofs.Common.{◌≡◌, None, Ok, Err, refl, subst}
use Rattle.bound_cert.specs.Reader.{Reader}
use Rattle.bound_cert.specs.Stream.{start, reads, reads_end}
use Rattle.bound_cert.specs.Feeding.{Feeds}
use Rattle.cert_check.proofs.WholeFacts.{reads_count, ends_early, goes_on_feeding}
use Rattle.cert_check.proofs.AnswerFacts.{seen}
use Rattle.cert_check.proofs.bytes.hand_whole.Goals as goal

pub returns-in-Err-clause-feeds : goal.returns-in-Err-clause-feeds
returns-in-Err-clause-feeds c =
    let bytes = c.args.bytes.now in
    let place = c.feed.new.self.place in
    let first = subst (λ (r : Reader). r.answer ≡ None → Feeds (reads bytes r.place) (seen c.args.checker.now) (seen c.feed.new.taker) r.place.lines place (Err c.in-Err.stop))
    c.new-reader.ensures c.in-Err.ensures.feeds refl in
    (place, ends_early (reads bytes start) reads_end _ _ 0 place c.in-Err.stop first)

pub returns-clause-feeds : goal.returns-clause-feeds
returns-clause-feeds c =
    let bytes = c.args.bytes.now in
    let place = c.feed.new.self.place in
    let first = subst (λ (r : Reader). r.answer ≡ None → Feeds (reads bytes r.place) (seen c.args.checker.now) (seen c.feed.new.taker) r.place.lines place (Ok tt))
    c.new-reader.ensures c.in_default.ensures.feeds refl in
    let second = c.finish.ensures.feeds c.in_default.ensures.remembers in (
      c.finish.new.self.place,
      goes_on_feeding (reads bytes start) reads_end (seen c.args.checker.now) (seen c.feed.new.taker) (seen c.finish.new.taker) 0 place
          c.finish.new.self.place c.finish.result first (reads_count bytes start place first.ends) second,
    )
