use Rattle.std.proofs.Common.{◌≡◌, ◌+◌, ◌<◌, ◌++◌, length, drop, All}
use Rattle.stage_file.specs.Records.{numbered}
use Rattle.stage_file.specs.Seen.{all_seen, AreShort}
use Rattle.stage_file.proofs.record.records_of.Given as goal

abbrev pub invariant-rows : goal.invariant-rows
invariant-rows l = record {
  value : all_seen l.records.items ++ numbered (l.k + 1) (drop l.k l.rows) ≡ numbered 1 l.rows;
  some : All (λ r. 0 < length r.fields.now) l.records.items;
  short : AreShort l.records.items;
}
