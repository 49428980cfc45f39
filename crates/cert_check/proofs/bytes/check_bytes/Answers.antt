use Rattle.std.proofs.Common.{◌≡◌, Ok, Err, sym, ap, ◌∙◌, subst}
use Rattle.std.proofs.lemmas.Bool.{both_ways}
use Rattle.std.specs.Prelude.{is_some}
use Rattle.service_model.specs.Net.{Net}
use Rattle.service_model.specs.Verdicts.{IsTrueOf}
use Rattle.bound_cert.specs.Feeding.{Feeds}
use Rattle.cert_check.specs.declared.check_fault.CheckFault.{CheckFault}
use Rattle.cert_check.specs.Checking.{Checking}
use Rattle.cert_check.specs.Refusals.{refusal_by}
use Rattle.cert_check.specs.Bytes.{whole, ChecksBytes}
use Rattle.cert_check.proofs.AnswerFacts.{seen, refused, accepted, has_verdict}
use Rattle.cert_check.proofs.bytes.check_bytes.Goals as goal

pub returns-in-Err : goal.returns-in-Err
returns-in-Err c =
    let n = c.args.network.now in
    let now = c.hand_whole.new.checker in
    let (place, feeds) = c.in-Err.ensures.feeds in
    let fed = subst (λ (k : Checking). Feeds (whole c.args.bytes.now) (seen k) (seen now) 0 place (Err c.in-Err.stop)) c.in_ok-checker.ensures feeds in
    let same : now.network ≡ n = c.in-Err.ensures.keeps ∙ ap (λ (k : Checking). k.network) c.in_ok-checker.ensures in
    let answer : refusal_by c.in-Err.stop now.fault ≡ c.refusal.result =
    sym (c.refusal.ensures ∙ ap (refusal_by c.in-Err.stop) c.fault.ensures.value) in
    subst (λ (fault : CheckFault). ChecksBytes n c.args.bytes.now (Err fault)) answer
    (refused n c.args.bytes.now now place c.in-Err.stop same fed)

pub unreachable-requires : goal.unreachable-requires
unreachable-requires c =
    let n = c.args.network.now in
    let now = c.hand_whole.new.checker in
    let (place, feeds) = c.in_default.ensures.feeds in
    let fed = subst (λ (k : Checking). Feeds (whole c.args.bytes.now) (seen k) (seen now) 0 place (Ok tt)) c.in_ok-checker.ensures feeds in
    let same : now.network ≡ n = c.in_default.ensures.keeps ∙ ap (λ (k : Checking). k.network) c.in_ok-checker.ensures in
    both_ways (is_some now.held.verdict) (ap is_some (sym c.verdict.ensures.value ∙ c.in-None.is)) (has_verdict n c.args.bytes.now now place same fed)

pub returns : goal.returns
returns c =
    let n = c.args.network.now in
    let now = c.hand_whole.new.checker in
    let (place, feeds) = c.in_default.ensures.feeds in
    let fed = subst (λ (k : Checking). Feeds (whole c.args.bytes.now) (seen k) (seen now) 0 place (Ok tt)) c.in_ok-checker.ensures feeds in
    let same : now.network ≡ n = c.in_default.ensures.keeps ∙ ap (λ (k : Checking). k.network) c.in_ok-checker.ensures in (
      accepted n c.args.bytes.now now place c.in-Some.verdict same fed (sym c.verdict.ensures.value ∙ c.in-Some.is),
      subst (λ (m : Net). IsTrueOf m c.in-Some.verdict) same c.in-Some.ensures.is_true,
    )
