-- Accepted bytes are a certificate that can be explained.
use Rattle.std.proofs.Common.{◌≡◌, ◌<◌, ℕ, List, length, Option, Some, None, refl, sym, ap, subst}
use Rattle.std.specs.Prelude.{All, IfSome}
use Rattle.std.proofs.lemmas.List.{get_or_default}
use Rattle.service_model.specs.declared.plan.Plan.{Plan}
use Rattle.service_model.specs.declared.cert.Node.{Node}
use Rattle.service_model.specs.declared.cert.Cert.{Cert}
use Rattle.service_model.specs.declared.cert.Outcome.{Outcome}
use Rattle.service_model.specs.declared.cert.Outcome.TheVariants.{Optimal, Infeasible, Spent}
use Rattle.service_model.specs.declared.cert.Verdict.{Verdict}
use Rattle.service_model.specs.declared.cert.Item.{Item}
use Rattle.service_model.specs.Net.{Net}
use Rattle.service_model.specs.Plans.{Feasible}
use Rattle.service_model.specs.Networks.{IsNetwork}
use Rattle.service_model.specs.Verdicts.{TrueAs, IsTrueOf}
use Rattle.service_model.specs.Items.{cert_of}
use Rattle.service_model.specs.Held.{none_held, held_after, no_node}
use Rattle.service_model.specs.Certs.{AllKeep}
use Rattle.cert_check.specs.Bytes.{whole, IsAcceptedBytes}
use Rattle.stock_report.specs.Explanations.{IsExplainable}
use Rattle.cert_explain.specs.Explained.{IsWholeCert, IsCertOf}
use Rattle.cert_explain.proofs.CertFacts.{cert_with, cert_kept}
use Rattle.cert_explain.proofs.SplitFacts.{all_told}

feasible_as : (outcome : Outcome) (n : Net) (bound : ℕ) (plan : Option Plan) → TrueAs outcome n bound plan → IfSome plan (Feasible n)
feasible_as Optimal n bound None is = absurd is
feasible_as Optimal n bound (Some p) is = is.0.feasible
feasible_as Infeasible n bound None is = tt
feasible_as Infeasible n bound (Some p) is = (let none = is.1 in cc)
feasible_as Spent n bound None is = tt
feasible_as Spent n bound (Some p) is = is.1 p refl

-- the certificate of items on which no rule fails has their verdict, and can be explained
cert_told : (n : Net) (items : List Item) (v : Verdict) (c : Cert) → IsNetwork n → AllKeep n none_held items → (held_after none_held items).verdict ≡ Some v → IsTrueOf n v
    → cert_of items ≡ Some c → (c.verdict ≡ v) × IsExplainable n c
cert_told n items v c valid keep ended true' is =
    let (g, kept) = cert_kept n items v keep ended in
    let same : cert_with g (held_after none_held items) v ≡ c = cc in
    let (sound, told) = all_told n items valid keep in (
      ap (λ (d : Cert). d.verdict) (sym same),
      subst (λ (d : Cert). IsExplainable n d) same (record {
        roots = λ k d within.
            subst (λ (x : Node). All (λ r. r < length (held_after none_held items).tables) x.roots)
            (get_or_default (held_after none_held items).nodes k no_node d within) (sound.nodes k within).there;
        splits = told.splits;
        plan = feasible_as v.outcome n v.bound v.plan true';
      }),
    )

-- accepted bytes are a certificate
pub accepted_cert : (n : Net) (bytes : List ℕ) (v : Verdict) → IsAcceptedBytes n bytes v → (c : Cert) × IsWholeCert bytes c
accepted_cert n bytes v is =
    let (g, kept) = cert_kept n (whole bytes).0 v is.keep is.verdict in
    (cert_with g (held_after none_held (whole bytes).0) v, record { place = is.place; read = is.read; items = kept })

-- the certificate that accepted bytes are has their verdict, and can be explained
pub accepted_told : (n : Net) (bytes : List ℕ) (v : Verdict) (c : Cert) → IsNetwork n → IsAcceptedBytes n bytes v → IsTrueOf n v → IsWholeCert bytes c
    → IsCertOf n bytes c × IsExplainable n c
accepted_told n bytes v c valid accepted true' is =
    let (same, can) = cert_told n (whole bytes).0 v c valid accepted.keep accepted.verdict true' is.items in (
      record {
        items = is.items;
        accepted = subst (λ (w : Verdict). IsAcceptedBytes n bytes w) (sym same) accepted;
        true_verdict = subst (λ (w : Verdict). IsTrueOf n w) (sym same) true';
      },
      can,
    )
