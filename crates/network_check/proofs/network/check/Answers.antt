use Rattle.network_check.proofs.TogetherFacts.{case_of_files}
use Rattle.network_check.proofs.network.check.Goals as goal

pub returns : goal.returns
returns c =
    let read = c.in_ok-raw.ensures.value in
    case_of_files c.args.horizon c.args.files.now c.in_ok-raw.raw c.check_records.result read.0 read.1 c.check_records.ensures
