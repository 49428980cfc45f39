-- Items on which no rule fails have a true verdict.
use Rattle.std.proofs.Common.{◌≡◌, ◌<◌, List, [], ◌∷◌, length, refl, ap, arith}
use Rattle.std.specs.Prelude.{Option, Some, None, IsSome, IsSomeAnd}
use Rattle.std.proofs.lemmas.List.{get_or-map}
use Rattle.std.proofs.lemmas.List.Elements.{recursion_from_All}
use Rattle.service_model.specs.declared.cert.Verdict.{Verdict}
use Rattle.service_model.specs.declared.cert.Item.{Item}
use Rattle.service_model.specs.declared.cert.Item.TheVariants.{Head as HeadItem}
use Rattle.service_model.specs.Net.{Net}
use Rattle.service_model.specs.Networks.{IsNetwork}
use Rattle.service_model.specs.Nodes.{bound_of, AreSoundBelow}
use Rattle.service_model.specs.Verdicts.{IsTrueOf}
use Rattle.service_model.specs.Items.{items_of, items_from}
use Rattle.service_model.specs.Held.{Held, none_held, held_with, held_after, no_node}
use Rattle.service_model.specs.Certs.{AllKeep}
use Rattle.service_model.proofs.NetworkFacts.{IsNetwork-HasEnds}
use Rattle.gsm_laws.proofs.ElementFacts.{each}
use Rattle.gsm_laws.proofs.BelowFacts.{sound_everywhere}
use Rattle.gsm_laws.proofs.NodeFacts.{node_law}
use Rattle.cert_laws.specs.SoFar.{SoundSoFar}
use Rattle.cert_laws.specs.ItemLaws.{BoundLaw, CheckLaw, AcceptedLaw, CertLaw}
use Rattle.cert_laws.proofs.KeptFacts.{held_after-end}
use Rattle.cert_laws.proofs.ItemFacts.{item_more_law}

-- of no items all is sound
pub none_sound : (n : Net) → SoundSoFar n none_held
none_sound n = record {
  tables = record { shaped = λ i within. absurd (omega arith); lower = λ i within. absurd (omega arith) };
  nodes = λ k within. absurd (omega arith);
  cuts = λ k within. absurd (omega arith);
  few = omega arith;
  named = λ k d within. absurd (omega arith);
  verdict = λ v has. cc;
}

-- items on which no rule fails leave what came sound
pub items_sound : (n : Net) (h : Held) (items : List Item) → IsNetwork n → SoundSoFar n h → AllKeep n h items → SoundSoFar n (held_after h items)
items_sound n h [] valid sound keep = sound
items_sound n h (x ∷ items) valid sound keep = items_sound n (held_with h x) items valid (item_more_law n h x valid sound keep.0) keep.1

pub bound_law : BoundLaw
bound_law n items k p valid keep within feasible inside =
    let h = held_after none_held items in
    let sound = items_sound n none_held items valid (none_sound n) keep in
    let node = sound.nodes k within in
    let below = each (λ i. i < length h.tables) (AreSoundBelow n h.tables) (λ i there. sound_everywhere n h.tables i sound.tables there) _
    (recursion_from_All (λ i. i < length h.tables) _ node.there) in
    let bound = node_law n h.tables _ _ p (IsNetwork-HasEnds n valid) below node feasible inside in
    let same = ap (bound_of h.tables) (get_or-map (λ x. x.roots) h.nodes k no_node [] within) in
    omega (arith, bound, same)

pub check_law : CheckLaw
check_law n items v valid keep has = (items_sound n none_held items valid (none_sound n) keep).verdict v has

has_verdict : (n : Net) (verdict : Option Verdict) → IsSome verdict → ((v : Verdict) → verdict ≡ Some v → IsTrueOf n v) → IsSomeAnd verdict (IsTrueOf n)
has_verdict n None some true' = cc
has_verdict n (Some v) some true' = true' v refl

pub accepted_law : AcceptedLaw
accepted_law n items valid accepted =
    let sound = items_sound n none_held items valid (none_sound n) accepted.keep in
    has_verdict n (held_after none_held items).verdict accepted.ended sound.verdict

pub cert_law : CertLaw
cert_law n c valid keep = check_law n (items_of c) c.verdict valid keep (held_after-end none_held (HeadItem c.head ∷ items_from c 0 0 c.nodes) c.verdict)
