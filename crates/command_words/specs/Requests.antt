-- A request as the code holds it, as what is asked.
use Rattle.std.specs.Prelude.{◌≡◌, ◌≤◌, ℕ, List, Option, Some, None, Result, Ok, Err, option_map, IfSome, IsTrue, not, ⊤}
use Rattle.service_model.specs.declared.limits.TheConstants.{MAX_HORIZON, MAX_STAGES}
use Rattle.service_model.specs.declared.cert_rules.TheConstants.{MAX_BUDGET}
use Rattle.command_words.specs.declared.limits.TheConstants.{MAX_SEED, MAX_EXTRA}
use Rattle.command_words.specs.declared.asked.TrialNumbers.{TrialNumbers}
use Rattle.command_words.specs.declared.command.Command.{Command}
use Rattle.command_words.specs.Commands.{reads_network}
use Rattle.command_words.specs.Asked.{Asked, asked_of}
use Rattle.command_words.specs.declared.asked.Request.{Request}
use Rattle.command_words.specs.declared.word_fault.WordFault.{WordFault}

-- what a request asks for
abbrev pub request_as : Request → Asked
request_as r = record {
  command = r.command;
  stages = r.stages.now;
  tables = r.tables.now;
  arcs = r.arcs.now;
  further = r.further.now;
  cert = option_map (λ name. name.now) r.cert;
  horizon = r.horizon;
  ranges = r.ranges;
  trial = r.trial;
}

-- a budget of ranges that may be asked for
abbrev pub IsRanges : Option ℕ → Type 0
IsRanges ranges = IfSome ranges (λ k. (1 ≤ k) × (k ≤ MAX_BUDGET))

-- numbers that a trial network may be made from
pub record IsTrialNumbers (t : TrialNumbers) : Type 0 where
  pub seed : t.seed ≤ MAX_SEED
  pub some : 1 ≤ t.stages
  pub stages : t.stages ≤ MAX_STAGES
  pub extra : t.extra ≤ MAX_EXTRA

-- a trial network is made exactly where the command reads no network, and from numbers within their ranges
abbrev pub IsTrialFor : Command → Option TrialNumbers → Type 0
IsTrialFor command None = IsTrue (reads_network command)
IsTrialFor command (Some t) = IsTrue (not (reads_network command)) × IsTrialNumbers t

-- what is known of a request
pub record IsRequest (r : Request) : Type 0 where
  pub horizon : r.horizon ≤ MAX_HORIZON
  pub ranges : IsRanges r.ranges
  pub trial : IsTrialFor r.command r.trial

-- what reading words gives: what they ask for, or the first rule that fails
abbrev pub RequestCase : List (List ℕ) → Result Request WordFault → Type 0
RequestCase words (Ok r) = (asked_of words ≡ Ok (request_as r)) × IsRequest r
RequestCase words (Err fault) = asked_of words ≡ Err fault
