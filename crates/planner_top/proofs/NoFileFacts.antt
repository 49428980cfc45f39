-- Words that need no file name none that is written, and ask for no file that is read.
use Rattle.std.proofs.Common.{◌≡◌, ℕ, Bool, true, false, not, List, drop, Option, Some, None, Result, Ok, refl, subst}
use Rattle.std.specs.Prelude.{IsTrue, ⊤}
use Rattle.std.specs.Result.{MatchResult}
use Rattle.command_words.specs.declared.command.Command.{Command}
use Rattle.command_words.specs.declared.command.Command.TheVariants as command
use Rattle.command_words.specs.declared.asked.Request.{Request}
use Rattle.command_words.specs.declared.asked.TrialNumbers.{TrialNumbers}
use Rattle.command_words.specs.declared.word_fault.WordFault.{WordFault}
use Rattle.command_words.specs.Commands.{reads_network}
use Rattle.command_words.specs.WordRules.{word_fault}
use Rattle.command_words.specs.Asked.{Asked, asked_by, unless_fault, command_of, asked_of, cert_in, cert_name}
use Rattle.command_words.specs.Requests.{request_as, IsTrialFor}
use Rattle.planner_top.specs.Runs.{NeedNoFile}
use Rattle.planner_top.specs.Sessions.{AsksSession}

-- what is asked for needs no file
abbrev needs_none : Result Asked WordFault → Type 0
needs_none asked = MatchResult asked (λ q. IsTrue (not (reads_network q.command))) (λ fault. ⊤)

unnamed_by : (fault : Option WordFault) (c : Command) (later : List (List ℕ)) → needs_none (unless_fault fault (asked_by c later)) → cert_in (unless_fault fault (asked_by c later)) ≡ None
unnamed_by (Some fault) c later need = refl
unnamed_by None command.Solve later need = cc
unnamed_by None command.Session later need = cc
unnamed_by None command.Audit later need = cc
unnamed_by None command.Check later need = cc
unnamed_by None command.Explain later need = cc
unnamed_by None command.Clusters later need = cc
unnamed_by None command.Trial later need = refl

-- no certificate is asked for
pub no_name : (words : List (List ℕ)) → NeedNoFile words → cert_name words ≡ None
unfolding asked_of
no_name words need = unnamed_by (word_fault words) (command_of words) (drop 1 words) need

not_both : (b : Bool) → IsTrue b → IsTrue (not b) → ⊥
not_both true is other = cc
not_both false is other = cc

-- what is asked for is a trial
pub is_trial : (words : List (List ℕ)) (r : Request) → asked_of words ≡ Ok (request_as r) → IsTrialFor r.command r.trial → NeedNoFile words → r.trial ≡ None → ⊥
is_trial words r asked trial need none =
    let reads : IsTrue (reads_network r.command) = subst (λ (t : Option TrialNumbers). IsTrialFor r.command t) none trial in
    let other : IsTrue (not (reads_network r.command)) = subst (λ (x : Result Asked WordFault). needs_none x) asked need in
    not_both (reads_network r.command) reads other

-- it is no session
pub no_session : (words : List (List ℕ)) → NeedNoFile words → AsksSession words → ⊥
no_session words need (q, asked, own) =
    let other : IsTrue (not (reads_network q.command)) = subst (λ (x : Result Asked WordFault). needs_none x) asked need in
    let none : IsTrue (not (reads_network command.Session)) = subst (λ (c : Command). IsTrue (not (reads_network c))) own other in
    cc
