-- The laws of checks.
use Rattle.std.specs.Prelude.{◌≡◌, ℕ, List, All, flat_map}
use Rattle.service_model.specs.declared.cert.Verdict.{Verdict}
use Rattle.service_model.specs.declared.cert.Cert.{Cert}
use Rattle.service_model.specs.Net.{Net}
use Rattle.service_model.specs.Items.{items_of}
use Rattle.service_model.specs.Held.{none_held}
use Rattle.service_model.specs.Certs.{AllKeep}
use Rattle.bound_cert.specs.Lines.{line_of}
use Rattle.bound_cert.specs.Order.{AllInOrder}
use Rattle.bound_cert.specs.Laws.{IsShort}
use Rattle.cert_check.specs.Bytes.{IsAcceptedBytes, IsRefusedBytes}

-- accepted bytes have one verdict
abbrev pub VerdictOneLaw : Type 0
VerdictOneLaw = (n : Net) (bytes : List ℕ) (v w : Verdict) → IsAcceptedBytes n bytes v → IsAcceptedBytes n bytes w → v ≡ w

-- refused bytes have one first fault
abbrev pub RefusalOneLaw : Type 0
RefusalOneLaw = (n : Net) (bytes : List ℕ) (line rule line' rule' : ℕ) → IsRefusedBytes n bytes line rule → IsRefusedBytes n bytes line' rule'
    → (line ≡ line') × (rule ≡ rule')

-- accepted bytes are not refused
abbrev pub NotBothLaw : Type 0
NotBothLaw = (n : Net) (bytes : List ℕ) (v : Verdict) (line rule : ℕ) → IsAcceptedBytes n bytes v → ¬ IsRefusedBytes n bytes line rule

-- the lines of a certificate on which no rule fails, whoever wrote it, are accepted with its verdict
abbrev pub WrittenLaw : Type 0
WrittenLaw = (n : Net) (c : Cert) → AllKeep n none_held (items_of c) → AllInOrder none_held (items_of c) → All IsShort (items_of c)
    → IsAcceptedBytes n (flat_map line_of (items_of c)) c.verdict
