-- Certificates of answers, as bytes on a shelf.
use Rattle.std.specs.Prelude.{◌≡◌, ℕ, List, Option, Some, None, ◌⊎◌, ◌++◌, option_map, flat_map}
use Rattle.service_model.specs.declared.cert.Cert.{Cert}
use Rattle.gsm_outside.specs.Held.{Held, put_in}
use Rattle.service_model.specs.Items.{items_of}
use Rattle.bound_cert.specs.Lines.{line_of}

-- the lines of a certificate, one after another
unfoldable pub cert_bytes : Cert → List ℕ
cert_bytes c = flat_map line_of (items_of c)

-- the bytes of a certificate, where there is one
abbrev pub bytes_in : Option Cert → Option (List ℕ)
bytes_in cert = option_map cert_bytes cert

-- what a shelf holds, where it tells, once a certificate was written under the name that is asked for; as before where none is
-- asked for or there is none
abbrev pub put_cert : Option (List ℕ) → Option (List ℕ) → Option Held → Option Held
put_cert None cert held = held
put_cert (Some name) None held = held
put_cert (Some name) (Some bytes) held = put_in name bytes held

-- the name holds the front of the bytes, and the other names stay
pub record PutFront (name bytes : List ℕ) (old new : Option Held) : Type 0 where
  pub front : List ℕ
  pub rest : List ℕ
  pub parts : bytes ≡ front ++ rest
  pub put : new ≡ put_in name front old

-- what is held once a certificate was perhaps begun: what was held, or under its name the front of its bytes
abbrev pub PutPart : Option (List ℕ) → Option (List ℕ) → Option Held → Option Held → Type 0
PutPart None cert old new = new ≡ old
PutPart (Some name) None old new = new ≡ old
PutPart (Some name) (Some bytes) old new = (new ≡ old) ⊎ PutFront name bytes old new

-- what is held stays, but perhaps for the bytes of one name
abbrev pub KeepsOthers : Option (List ℕ) → Option Held → Option Held → Type 0
KeepsOthers None old new = new ≡ old
KeepsOthers (Some name) old new = (new ≡ old) ⊎ ((bytes : List ℕ) × (new ≡ put_in name bytes old))
