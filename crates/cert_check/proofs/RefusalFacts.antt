-- Bytes are accepted with one verdict, or refused at one place by one rule.
use Rattle.std.proofs.Common.{◌≡◌, ℕ, List, ◌∷◌, Result, Ok, Err, sym, ap, ◌∙◌, subst, inl, inr}
use Rattle.service_model.specs.declared.cert.Item.{Item}
use Rattle.service_model.specs.Net.{Net}
use Rattle.service_model.specs.Held.{none_held}
use Rattle.service_model.specs.Certs.{AllKeep, IsFaultAt}
use Rattle.cert_laws.proofs.KeptFacts.{AllKeep-parts}
use Rattle.cert_laws.proofs.FaultFacts.{fault_one_law}
use Rattle.bound_cert.specs.declared.fault.CertFault.{CertFault}
use Rattle.bound_cert.specs.Stream.{Place}
use Rattle.cert_check.specs.Bytes.{whole, IsRefusedBehind}
use Rattle.cert_check.specs.Laws.{RefusalOneLaw, NotBothLaw}

not_refused : (n : Net) (items : List Item) (line rule : ℕ) → AllKeep n none_held items → ¬ IsFaultAt n items line rule
not_refused n items line rule keep refused =
    let parts = AllKeep-parts n none_held refused.front (refused.item ∷ refused.rest) (subst (AllKeep n none_held) refused.parts keep) in
    refused.broken.fails (parts.1.0 rule)

same_fault : (f g : CertFault) → (let r : Result Place CertFault = Err f in r) ≡ Err g → f ≡ g
same_fault f g same = cc

two_behind : (n : Net) (bytes : List ℕ) (line rule line' rule' : ℕ) → IsRefusedBehind n bytes line rule → IsRefusedBehind n bytes line' rule'
    → (line ≡ line') × (rule ≡ rule')
two_behind n bytes line rule line' rule' a b =
    let same = same_fault _ _ (sym a.fault ∙ b.fault) in (ap (λ (f : CertFault). f.line) same, ap (λ (f : CertFault). f.rule) same)

pub refusal_one_law : RefusalOneLaw
refusal_one_law n bytes line rule line' rule' (inl a) (inl b) = fault_one_law n (whole bytes).0 line rule line' rule' (inl a) (inl b)
refusal_one_law n bytes line rule line' rule' (inl a) (inr b) = absurd (not_refused n (whole bytes).0 line rule b.keep a)
refusal_one_law n bytes line rule line' rule' (inr a) (inl b) = absurd (not_refused n (whole bytes).0 line' rule' a.keep b)
refusal_one_law n bytes line rule line' rule' (inr a) (inr b) = two_behind n bytes line rule line' rule' a b

place_no_fault : (p : Place) (f : CertFault) → (let r : Result Place CertFault = Ok p in r) ≡ Err f → ⊥
place_no_fault p f same = cc

pub not_both_law : NotBothLaw
not_both_law n bytes v line rule accepted (inl refused) = not_refused n (whole bytes).0 line rule accepted.keep refused
not_both_law n bytes v line rule accepted (inr refused) = place_no_fault accepted.place _ (sym accepted.read ∙ refused.fault)
