-- A session is carried out row by row.
use Rattle.std.specs.Prelude.{◌≡◌, ◌+◌, ℕ, List, [], ◌∷◌, ◌++◌, length, map, flat_map, Option, Some, None}
use Rattle.service_model.specs.declared.cert.Cert.{Cert}
use Rattle.gsm_outside.specs.Held.{Held, put_in}
use Rattle.cert_files.specs.Certificates.{cert_bytes}
use Rattle.stock_report.specs.Sessions.{session_end_row}
use Rattle.command_words.specs.declared.file_word.Naming.TheVariants.{Numbered}
use Rattle.command_words.specs.Names.{answer_name}
use Rattle.edit_reuse.specs.Sessions.{State}
use Rattle.script_run.specs.Parts.{Part, IsRowDone}

-- the rows of a script, the first of which has a number, carried out one after another
unfoldable pub IsRun : State → ℕ → List (List (List ℕ)) → List Part → State → Type 0
IsRun old number [] parts new = (parts ≡ []) × (new ≡ old)
IsRun old number (row ∷ later) parts new =
    (next : State) × (first : List Part) × (rest : List Part) × IsRowDone old number row next first × (parts ≡ first ++ rest) × IsRun next (number + 1) later rest new

-- the lines of parts
abbrev pub rows_in : List Part → List (List (List ℕ))
rows_in parts = map (λ p. p.row) parts

-- a certificate, if there is one
abbrev pub cert_list : Option Cert → List Cert
cert_list None = []
cert_list (Some c) = c ∷ []

-- the certificates of parts
abbrev pub certs_in : List Part → List Cert
certs_in parts = flat_map (λ p. cert_list p.cert) parts

-- how many tables certificates have
abbrev pub tables_in : List Cert → ℕ
tables_in [] = 0
tables_in (c ∷ later) = length c.tables + tables_in later

-- the line behind the rows of a script: how many of them were carried out
abbrev pub end_row : List Part → List (List ℕ)
end_row parts = session_end_row (length parts)

-- what a shelf holds, where it tells, once files were written in turn, each under a name with its number behind
unfoldable pub put_numbered : List ℕ → ℕ → List (List ℕ) → Option Held → Option Held
put_numbered name number [] held = held
put_numbered name number (bytes ∷ later) held = put_numbered name (number + 1) later (put_in (answer_name Numbered name number) bytes held)

-- what it holds once the certificates of parts were written, where a name is asked for
abbrev pub put_parts : Option (List ℕ) → List Part → Option Held → Option Held
put_parts None parts held = held
put_parts (Some name) parts held = put_numbered name 1 (map cert_bytes (certs_in parts)) held

-- what is held stays, but perhaps for files under a name with a number behind, where a name is asked for
abbrev pub KeepsUnnumbered : Option (List ℕ) → Option Held → Option Held → Type 0
KeepsUnnumbered None old new = new ≡ old
KeepsUnnumbered (Some name) old new = (files : List (List ℕ)) × (new ≡ put_numbered name 1 files old)
