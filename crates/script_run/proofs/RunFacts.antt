-- A run of rows, one row longer.
use Rattle.std.proofs.Common.{◌≡◌, ℕ, ◌+◌, List, [], ◌∷◌, ◌++◌, length, map, Option, Some, None, refl, sym, ap, ◌∙◌, subst, arith, inl, inr, append_assoc}
use Rattle.std.proofs.lemmas.List.{append-nil, length-map, map-append}
use Rattle.std.proofs.lemmas.Grind.{flat_map-append}
use Rattle.service_model.specs.declared.cert.Cert.{Cert}
use Rattle.gsm_outside.specs.Held.{Held, put_in}
use Rattle.cert_files.specs.Certificates.{cert_bytes, bytes_in, put_cert, PutPart}
use Rattle.command_words.specs.declared.file_word.Naming.TheVariants.{Numbered}
use Rattle.command_words.specs.Names.{answer_name}
use Rattle.edit_reuse.specs.Sessions.{State}
use Rattle.script_run.specs.Parts.{Part, IsRowDone}
use Rattle.script_run.specs.Runs.{IsRun, cert_list, certs_in, tables_in, put_numbered, put_parts, KeepsUnnumbered}
use Rattle.script_run.specs.Halts.{numbered_name}

-- the rows of a run and one row behind them
pub run_more : (old at next : State) (number : ℕ) (rows : List (List (List ℕ))) (row : List (List ℕ)) (parts last : List Part) → IsRun old number rows parts at → IsRowDone at (number + length rows) row next last
    → IsRun old number (rows ++ row ∷ []) (parts ++ last) next
unfolding IsRun
run_more old at next number [] row parts last run done =
    let same : number + 0 ≡ number = omega arith in
    (next, last, [], subst (λ (k : ℕ). IsRowDone old k row next last) same (subst (λ (s : State). IsRowDone s (number + 0) row next last) run.1 done), ap (λ (x : List Part). x ++ last) run.0 ∙ sym (append-nil last), (refl, refl))
run_more old at next number (r ∷ rows) row parts last run done =
    let same : number + length (r ∷ rows) ≡ number + 1 + length rows = omega arith in
    let later = run_more run.0 at next (number + 1) rows row run.2 last run.5 (subst (λ (k : ℕ). IsRowDone at k row next last) same done) in
    (run.0, run.1, run.2 ++ last, run.3, ap (λ (x : List Part). x ++ last) run.4 ∙ append_assoc run.1 run.2 last, later)

-- files that were written, and one more
numbered_more : (name : List ℕ) (number : ℕ) (files : List (List ℕ)) (bytes : List ℕ) (held : Option Held)
    → put_numbered name number (files ++ bytes ∷ []) held ≡ put_in (answer_name Numbered name (number + length files)) bytes (put_numbered name number files held)
unfolding put_numbered
numbered_more name number [] bytes held =
    let same : number ≡ number + 0 = omega arith in
    ap (λ (k : ℕ). put_in (answer_name Numbered name k) bytes held) same
numbered_more name number (x ∷ files) bytes held =
    let same : number + 1 + length files ≡ number + length (x ∷ files) = omega arith in
    numbered_more name (number + 1) files bytes (put_in (answer_name Numbered name number) x held)
    ∙ ap (λ (k : ℕ). put_in (answer_name Numbered name k) bytes (put_numbered name (number + 1) files (put_in (answer_name Numbered name number) x held))) same

pub certs_more : (parts : List Part) (part : Part) → certs_in (parts ++ part ∷ []) ≡ certs_in parts ++ cert_list part.cert
certs_more parts part = flat_map-append (λ (p : Part). cert_list p.cert) parts (part ∷ []) ∙ ap (λ (x : List Cert). certs_in parts ++ x) (append-nil (cert_list part.cert))

abbrev put_certs : List ℕ → List Cert → Option Held → Option Held
put_certs name certs held = put_numbered name 1 (map cert_bytes certs) held

put_list : (name : List ℕ) (certs : List Cert) (cert : Option Cert) (held : Option Held)
    → put_certs name (certs ++ cert_list cert) held ≡ put_cert (Some (answer_name Numbered name (length certs + 1))) (bytes_in cert) (put_certs name certs held)
put_list name certs None held = ap (λ (x : List Cert). put_certs name x held) (append-nil certs)
put_list name certs (Some c) held =
    let same : 1 + length (map cert_bytes certs) ≡ length certs + 1 = omega (arith, length-map certs cert_bytes) in
    ap (λ (x : List (List ℕ)). put_numbered name 1 x held) (map-append cert_bytes certs (c ∷ [])) ∙ numbered_more name 1 (map cert_bytes certs) (cert_bytes c) held
    ∙ ap (λ (k : ℕ). put_in (answer_name Numbered name k) (cert_bytes c) (put_certs name certs held)) same

-- what a shelf holds once the certificate of one part more was written
pub put_more_parts : (name : Option (List ℕ)) (parts : List Part) (part : Part) (held : Option Held)
    → put_parts name (parts ++ part ∷ []) held ≡ put_cert (numbered_name name (length (certs_in parts) + 1)) (bytes_in part.cert) (put_parts name parts held)
put_more_parts None parts part held = refl
put_more_parts (Some name) parts part held =
    ap (λ (x : List Cert). put_certs name x held) (certs_more parts part) ∙ put_list name (certs_in parts) part.cert held

-- its tables
tables_both : (a b : List Cert) → tables_in (a ++ b) ≡ tables_in a + tables_in b
tables_both [] b = (let zero : 0 + tables_in b ≡ tables_in b = omega arith in sym zero)
tables_both (c ∷ a) b = (let rest = tables_both a b in let all : length c.tables + tables_in (a ++ b) ≡ length c.tables + tables_in a + tables_in b = omega (arith, rest) in all)

pub tables_more : (parts : List Part) (part : Part) → tables_in (certs_in (parts ++ part ∷ [])) ≡ tables_in (certs_in parts) + tables_in (cert_list part.cert)
tables_more parts part = ap tables_in (certs_more parts part) ∙ tables_both (certs_in parts) (cert_list part.cert)

-- a file that is being written behind others, whose front is there
part_files : (name : List ℕ) (files : List (List ℕ)) (cert : Option (List ℕ)) (held new : Option Held) → PutPart (Some (answer_name Numbered name (length files + 1))) cert (put_numbered name 1 files held) new
    → KeepsUnnumbered (Some name) held new
part_files name files None held new same = (files, same)
part_files name files (Some bytes) held new (inl same) = (files, same)
part_files name files (Some bytes) held new (inr front) =
    let same : length files + 1 ≡ 1 + length files = omega arith in
    (files ++ front.front ∷ [], front.put ∙ ap (λ (k : ℕ). put_in (answer_name Numbered name k) front.front (put_numbered name 1 files held)) same ∙ sym (numbered_more name 1 files front.front held))

-- what the certificates of parts leave on a shelf is under their names
pub parts_keep : (name : Option (List ℕ)) (parts : List Part) (held new : Option Held) → new ≡ put_parts name parts held → KeepsUnnumbered name held new
parts_keep None parts held new put = put
parts_keep (Some name) parts held new put = (map cert_bytes (certs_in parts), put)

-- and so is what a certificate leaves that is being written
pub begun_keep : (name : Option (List ℕ)) (parts : List Part) (cert : Option (List ℕ)) (held new : Option Held) → PutPart (numbered_name name (length (certs_in parts) + 1)) cert (put_parts name parts held) new
    → KeepsUnnumbered name held new
begun_keep None parts cert held new same = same
begun_keep (Some name) parts cert held new part =
    let files : List (List ℕ) = map cert_bytes (certs_in parts) in
    let same : length (certs_in parts) ≡ length files = sym (length-map (certs_in parts) cert_bytes) in
    part_files name files cert held new (subst (λ (k : ℕ). PutPart (Some (answer_name Numbered name (k + 1))) cert (put_numbered name 1 files held) new) same part)
