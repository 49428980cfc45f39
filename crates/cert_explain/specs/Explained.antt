-- The explanation of bytes as a certificate.
use Rattle.std.specs.Prelude.{◌≡◌, ℕ, List, Some, Result, Ok, Err, ⊤}
use Rattle.service_model.specs.declared.cert.Cert.{Cert}
use Rattle.service_model.specs.Net.{Net}
use Rattle.service_model.specs.Verdicts.{IsTrueOf}
use Rattle.service_model.specs.Items.{cert_of}
use Rattle.bound_cert.specs.Stream.{Place}
use Rattle.cert_check.specs.declared.check_fault.CheckFault.{CheckFault}
use Rattle.cert_check.specs.declared.check_fault.CheckFault.TheVariants.{Fault, NoMemory}
use Rattle.cert_check.specs.Bytes.{whole, IsAcceptedBytes, IsRefusedBytes}
use Rattle.network_check.specs.declared.checked.Checked.{Checked}
use Rattle.stock_report.specs.Lines.{lines_of}
use Rattle.stock_report.specs.Explanations.{explain_rows}

-- no rule on lines fails on the bytes, and their items are this certificate
pub record IsWholeCert (bytes : List ℕ) (c : Cert) : Type 0 where
  pub place : Place
  pub read : (whole bytes).1 ≡ Ok place
  pub items : cert_of (whole bytes).0 ≡ Some c

-- the certificate of accepted bytes, whose verdict is true of the network
pub record IsCertOf (n : Net) (bytes : List ℕ) (c : Cert) : Type 0 where
  pub items : cert_of (whole bytes).0 ≡ Some c
  pub accepted : IsAcceptedBytes n bytes c.verdict
  pub true_verdict : IsTrueOf n c.verdict

-- the text explains the certificate that the bytes are
abbrev pub Explains : Checked → List ℕ → List ℕ → Type 0
Explains checked bytes text = (c : Cert) × IsCertOf checked.network bytes c × (text ≡ lines_of (explain_rows checked c))

-- what is answered on bytes: the explanation of the certificate that they are, or where they are refused
abbrev pub ExplainCase : Checked → List ℕ → Result (List ℕ) CheckFault → Type 0
ExplainCase checked bytes (Ok text) = Explains checked bytes text
ExplainCase checked bytes (Err (Fault f)) = IsRefusedBytes checked.network bytes f.line f.rule
ExplainCase checked bytes (Err NoMemory) = ⊤
