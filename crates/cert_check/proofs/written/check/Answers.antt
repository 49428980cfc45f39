use Rattle.std.proofs.Common.{◌≡◌, Ok, Err, sym, ap, ◌∙◌, subst}
use Rattle.std.specs.Prelude.{is_some}
use Rattle.std.proofs.lemmas.Bool.{both_ways}
use Rattle.service_model.specs.Net.{Net}
use Rattle.service_model.specs.Items.{items_of}
use Rattle.service_model.specs.Verdicts.{IsTrueOf}
use Rattle.cert_check.specs.Checking.{Checking}
use Rattle.cert_check.specs.Walking.{Walking, Walks}
use Rattle.cert_check.proofs.WalkedFacts.{refused_cert, cert_verdict, accepted_cert}
use Rattle.cert_check.proofs.written.check.Goals as goal

pub returns-in-Err : goal.returns-in-Err
returns-in-Err c =
    let cert = c.args.cert.now in
    let walks = subst (λ (w : Walking). Walks w c.cert.new.self (items_of cert) (Err c.in-Err.fault)) c.in_ok-walk.ensures c.in-Err.ensures in
    refused_cert c.args.network.now cert c.cert.new.self c.in-Err.fault walks

pub unreachable-requires : goal.unreachable-requires
unreachable-requires c =
    let cert = c.args.cert.now in
    let walks = subst (λ (w : Walking). Walks w c.cert.new.self (items_of cert) (Ok tt)) c.in_ok-walk.ensures c.in_default.ensures in
    let none = sym (ap (λ (k : Checking). k.held.verdict) c.into_checker.ensures) ∙ sym c.verdict.ensures.value ∙ c.in-None.is in
    both_ways (is_some c.cert.new.self.checking.held.verdict) (ap is_some none)
    (ap is_some (cert_verdict c.args.network.now cert c.cert.new.self walks))

pub returns : goal.returns
returns c =
    let cert = c.args.cert.now in
    let n = c.args.network.now in
    let walks = subst (λ (w : Walking). Walks w c.cert.new.self (items_of cert) (Ok tt)) c.in_ok-walk.ensures c.in_default.ensures in
    let has = sym (ap (λ (k : Checking). k.held.verdict) c.into_checker.ensures) ∙ sym c.verdict.ensures.value ∙ c.in-Some.is in
    let same : c.into_checker.result.network ≡ n = ap (λ (k : Checking). k.network) c.into_checker.ensures ∙ walks.0 in (
      accepted_cert n cert c.cert.new.self c.in-Some.verdict walks has,
      subst (λ (m : Net). IsTrueOf m c.in-Some.verdict) same c.in-Some.ensures.is_true,
    )
