use Rattle.std.proofs.Common.{◌≡◌, ℕ, List, Result, Ok, Err}
use Rattle.std.specs.Prelude.{IfOk}
use Rattle.service_model.specs.declared.cert.Cert.{Cert}
use Rattle.network_check.specs.declared.checked.Checked.{Checked}
use Rattle.stock_report.specs.Lines.{lines_of}
use Rattle.stock_report.specs.Explanations.{explain_rows}
use Rattle.cert_explain.specs.Explained.{IsCertOf, Explains}
use Rattle.cert_explain.proofs.ExplainFacts.{accepted_cert, accepted_told}
use Rattle.cert_explain.proofs.bytes.accepted_text.Goals as goal

pub cert_in-requires-clause-whole : goal.cert_in-requires-clause-whole
cert_in-requires-clause-whole c = accepted_cert c.args.checked.now.network c.args.bytes.now c.requires.accepted.0 c.requires.accepted.1.0

pub explain_text-requires-clause-explainable : goal.explain_text-requires-clause-explainable
explain_text-requires-clause-explainable c =
    (accepted_told c.args.checked.now.network c.args.bytes.now c.requires.accepted.0 c.in_ok-cert.cert c.horizon-horizon.ensures.valid c.requires.accepted.1.0
    c.requires.accepted.1.1 c.in_ok-cert.ensures).1

explains : {E : Type 0} (r : Result (List ℕ) E) (checked : Checked) (bytes : List ℕ) (x : Cert) → IsCertOf checked.network bytes x
    → IfOk r (λ text. text ≡ lines_of (explain_rows checked x)) → IfOk r (Explains checked bytes)
explains (Ok text) checked bytes x is told = (x, is, told)
explains (Err e) checked bytes x is told = tt

pub returns : goal.returns
returns c =
    explains c.explain_text.result c.args.checked.now c.args.bytes.now c.in_ok-cert.cert
    (accepted_told c.args.checked.now.network c.args.bytes.now c.requires.accepted.0 c.in_ok-cert.cert c.horizon-horizon.ensures.valid c.requires.accepted.1.0
    c.requires.accepted.1.1 c.in_ok-cert.ensures).0 c.explain_text.ensures
