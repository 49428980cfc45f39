-- Merging along a tree: what each step does.
use Rattle.std.proofs.Common.{ℕ, ◌≡◌, ◌+◌, ◌<◌, List, length, get_or, set, sym, subst, inl, inr, ⊎_elim, arith}
use Rattle.std.proofs.lemmas.Bool.{cases_eq, cases_lt}
use Rattle.cluster_split.specs.Tops.{Reaches, Falls, IsTop, Alike, AreTops, IsShortcut, SameTree, Parts, Merges, Lifts}
use Rattle.service_model.specs.declared.stage.SupplyArc.{SupplyArc}
use Rattle.service_model.specs.Net.{arc_in}
use Rattle.cluster_split.specs.Places.{AtEnds, AreMerged}
use Rattle.cluster_split.proofs.ReachFacts.{reach_one, reach_trans, reach_le, reach_split, top_alone, one_top}
use Rattle.cluster_split.proofs.TopFacts.{alike_back, alike_trans, alike_less, alike_reach, above_reach, tops_fall, short_are, short_top, top_short, set_top, top_set, set_alike, set_are}

-- a top that is made to lead to the place above it, and then the top of that place

pub lift_falls : (up old : List ℕ) (at : ℕ) → Falls up → AreTops up old → at < length up → get_or up at 0 < at → Falls (set old at (get_or up at 0))
lift_falls up old at falls are inside less = tops_fall up (set old at (get_or up at 0)) falls (set_are up old at (omega (arith, inside, are.long)) less are)

pub lift_are : (up old new : List ℕ) (at : ℕ) → Falls up → AreTops up old → at < length up → get_or up at 0 < at → IsShortcut (set old at (get_or up at 0)) new → AreTops up new
lift_are up old new at falls are inside less short =
    short_are up (set old at (get_or up at 0)) new falls short (set_are up old at (omega (arith, inside, are.long)) less are)

pub lift_step : (up old new : List ℕ) (at m : ℕ) → Falls up → AreTops up old → at < length up → get_or up at 0 < at → IsShortcut (set old at (get_or up at 0)) new → Reaches (set old at (get_or up at 0)) (get_or up at 0) m → IsTop new m
    → Lifts up old new at m
lift_step up old new at m falls are inside less short there top =
    let low : at < length old = omega (arith, inside, are.long) in
    let mid : AreTops up (set old at (get_or up at 0)) = set_are up old at low less are in
    let fall : Falls (set old at (get_or up at 0)) = tops_fall up (set old at (get_or up at 0)) falls mid in
    let above = above_reach up (set old at (get_or up at 0)) (get_or up at 0) m mid there in
    record {
      top = top;
      above = reach_trans up at (get_or up at 0) m (reach_one up at) above;
      lower = reach_le up (get_or up at 0) m falls above;
      alike = alike_less up (set old at (get_or up at 0)) new at m (λ h is. short_top (set old at (get_or up at 0)) new h short fall is)
          (alike_trans up (set old at (get_or up at 0)) at (get_or up at 0) m (set_alike up old at low less) (alike_reach up (set old at (get_or up at 0)) (get_or up at 0) m mid there));
      shrinks = λ h is. (set_top old at (get_or up at 0) h low less (short_top (set old at (get_or up at 0)) new h short fall is)).0;
      stays = λ h is. ⊎_elim (λ still. inl (top_short (set old at (get_or up at 0)) new h short still)) (λ here. inr here) (top_set old at (get_or up at 0) h low is);
    }

-- on the way: tops a and b of two places, and what was merged between them
pub record Merging (up old now : List ℕ) (one other a b : ℕ) : Type 0 where
  pub tops : AreTops up now
  pub top_a : IsTop now a
  pub top_b : IsTop now b
  pub above_a : Reaches up one a
  pub above_b : Reaches up other b
  pub alike_a : Alike up now one a
  pub alike_b : Alike up now other b
  pub shrinks : (h : ℕ) → IsTop now h → IsTop old h
  pub only : (h : ℕ) → IsTop old h → (IsTop now h → ⊥) → Parts up h one other

-- the two places the other way round
pub parts_back : (up : List ℕ) (h k m : ℕ) → Parts up h k m → Parts up h m k
parts_back up h k m (inl there) = inr there
parts_back up h k m (inr back) = inl back

pub tree_back : (up : List ℕ) (k m : ℕ) → SameTree up k m → SameTree up m k
tree_back up k m (r, root, one, two) = (r, root, two, one)

pub merging_back : (up old now : List ℕ) (one other a b : ℕ) → Merging up old now one other a b → Merging up old now other one b a
merging_back up old now one other a b m = record {
  tops = m.tops;
  top_a = m.top_b;
  top_b = m.top_a;
  above_a = m.above_b;
  above_b = m.above_a;
  alike_a = m.alike_b;
  alike_b = m.alike_a;
  shrinks = m.shrinks;
  only = λ h is off. parts_back up h one other (m.only h is off);
}

-- the later of the two tops is no root
pub later_steps : (up old now : List ℕ) (one other a b : ℕ) → Falls up → SameTree up one other → Merging up old now one other a b → b < a → get_or up a 0 < a
later_steps up old now one other a b falls (r, root, to, to') m less = ⊎_elim
    (λ is.
    let here : a ≡ r = one_top up one a r is root m.above_a to in
    ⊎_elim
    (λ there. absurd (omega (arith, reach_le up b r falls there, here, less)))
    (λ back. absurd (omega (arith, top_alone up r b root back, here, less)))
    (reach_split up other b r m.above_b to'))
    (λ apart. omega (arith, falls a, apart))
    (cases_eq (get_or up a 0) a)

-- the later of the two tops parts the places
later_parts : (up old now : List ℕ) (one other a b : ℕ) → Falls up → Merging up old now one other a b → b < a → Parts up a one other
later_parts up old now one other a b falls m less = inl (m.above_a, λ bad. omega (arith, less, reach_le up b a falls ((m.alike_b a m.top_a).0 bad)))

pub merging_more : (up old now new : List ℕ) (one other a b c : ℕ) → Falls up → Merging up old now one other a b → b < a → AreTops up new → Lifts up now new a c → Merging up old new one other c b
merging_more up old now new one other a b c falls m less are lifts = record {
  tops = are;
  top_a = lifts.top;
  top_b = ⊎_elim (λ still. still) (λ here. absurd (omega (arith, here, less))) (lifts.stays b m.top_b);
  above_a = reach_trans up one a c m.above_a lifts.above;
  above_b = m.above_b;
  alike_a = alike_trans up new one a c (alike_less up now new one a lifts.shrinks m.alike_a) lifts.alike;
  alike_b = alike_less up now new other b lifts.shrinks m.alike_b;
  shrinks = λ h is. m.shrinks h (lifts.shrinks h is);
  only = λ h is off. ⊎_elim
      (λ still. ⊎_elim
      (λ on. absurd (off on))
      (λ here. subst (λ v. Parts up v one other) (sym here) (later_parts up old now one other a b falls m less))
      (lifts.stays h still))
      (λ gone. m.only h is gone)
      (cases_eq (get_or now h 0) h);
}

pub merging_less : (up old now new : List ℕ) (one other a b c : ℕ) → Falls up → Merging up old now one other a b → a < b → AreTops up new → Lifts up now new b c → Merging up old new one other a c
merging_less up old now new one other a b c falls m less are lifts =
    merging_back up old new other one c a (merging_more up old now new other one b a c falls (merging_back up old now one other a b m) less are lifts)

-- it begins with the tops of the two places
pub merging_none : (up old mid now : List ℕ) (one other a b : ℕ) → Falls up → AreTops up old → IsShortcut old mid → Reaches old one a → IsTop mid a → IsShortcut mid now → Reaches mid other b → IsTop now b
    → Merging up old now one other a b
merging_none up old mid now one other a b falls are short to top short' to' top' =
    let are' = short_are up old mid falls short are in
    let now_are = short_are up mid now falls short' are' in
    let fall = tops_fall up old falls are in
    let fall' = tops_fall up mid falls are' in
    let back : (h : ℕ) → IsTop now h → IsTop mid h = λ h is. short_top mid now h short' fall' is in
    record {
      tops = now_are;
      top_a = top_short mid now a short' top;
      top_b = top';
      above_a = above_reach up old one a are to;
      above_b = above_reach up mid other b are' to';
      alike_a = alike_less up old now one a (λ h is. short_top old mid h short fall (back h is)) (alike_reach up old one a are to);
      alike_b = alike_less up mid now other b back (alike_reach up mid other b are' to');
      shrinks = λ h is. short_top old mid h short fall (back h is);
      only = λ h is off. absurd (off (top_short mid now h short' (top_short old mid h short is)));
    }

-- and ends where the two tops are one
pub merging_all : (up old now : List ℕ) (one other a b : ℕ) → Merging up old now one other a b → a ≡ b → Merges up old now one other
merging_all up old now one other a b m same = record {
  alike = alike_trans up now one a other m.alike_a (subst (λ v. Alike up now v other) (sym same) (alike_back up now other b m.alike_b));
  shrinks = m.shrinks;
  only = m.only;
}

-- arc after arc

pub merged_none : (up place : List ℕ) (arcs : List SupplyArc) (dropped old : List ℕ) → AreTops up old → AreMerged up place arcs dropped 0 old old
merged_none up place arcs dropped old are = record {
  tops = are;
  joined = λ i low. absurd (omega arith);
  only = λ h is off. absurd (off is);
}

pub merged_more : (up place : List ℕ) (arcs : List SupplyArc) (dropped : List ℕ) (k : ℕ) (old now new : List ℕ) → AreMerged up place arcs dropped k old now → AreTops up new
    → AtEnds (Merges up now new) place (arc_in arcs (get_or dropped k 0)) → AreMerged up place arcs dropped (k + 1) old new
merged_more up place arcs dropped k old now new before are merges = record {
  tops = are;
  joined = λ i low. ⊎_elim
      (λ less.
      let a = arc_in arcs (get_or dropped i 0) in
      alike_less up now new (get_or place a.supplier 0) (get_or place a.customer 0) merges.shrinks (before.joined i less))
      (λ last.
      let is : k ≡ i = omega (arith, low, last) in
      subst (λ v. AtEnds (Alike up new) place (arc_in arcs (get_or dropped v 0))) is merges.alike)
      (cases_lt i k);
  only = λ h is off. ⊎_elim
      (λ still. (k, omega arith, merges.only h still off))
      (λ gone. let i = before.only h is gone in (i.0, omega (arith, i.1), i.2))
      (cases_eq (get_or now h 0) h);
}
