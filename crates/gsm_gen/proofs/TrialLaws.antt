-- What is drawn is a trial network.
use Rattle.std.proofs.Common.{◌≡◌, ◌≢◌, ◌==◌, ◌<◌, ◌≤◌, ℕ, zero, suc, ◌+◌, ◌-◌, ◌*◌, min, Bool, true, false, List, [], ◌∷◌, ◌++◌, length, get_or, cond, refl, ap, sym, ◌∙◌, arith, subst}
use Rattle.std.specs.List.{All, AllPairs, range_with_len}
use Rattle.std.proofs.lemmas.Bool.{false≢true}
use Rattle.std.proofs.lemmas.Bool.Decides.{nat_tests}
use Rattle.std.proofs.lemmas.List.{length_push}
use Rattle.std.proofs.lemmas.List.Elements.{All-map, All-push}
use Rattle.std.proofs.lemmas.List.Folds.{list_any_at}
use Rattle.std.proofs.lemmas.List.FromFn.{length-map-range_with_len}
use Rattle.std.proofs.lemmas.List.Quantifiers.{all_pairs_push}
use Rattle.service_model.specs.declared.limits.TheConstants.{MAX_STAGES, MAX_ARCS, MAX_HORIZON}
use Rattle.trial_rows.specs.declared.drawn.TrialStage.{TrialStage}
use Rattle.trial_rows.specs.declared.drawn.TrialArc.{TrialArc}
use Rattle.trial_rows.specs.Trials.{ComesBefore, StageWithin, ArcWithin, IsTrial}
use Rattle.gsm_gen.specs.declared.limits.TheConstants.{MAX_EXTRA}
use Rattle.gsm_gen.specs.Words.{drawn}
use Rattle.gsm_gen.specs.Joins.{is_before, directed, joins, are_joined, with_arc}
use Rattle.gsm_gen.specs.Networks.{drawn_stage, drawn_stages, tree_word, tree_arc, tree_arcs, pair_word, with_pair, arcs_after}
use Rattle.gsm_gen.proofs.NetworkFacts.{tree_none, arcs_first, arcs_more}
use Rattle.gsm_gen.proofs.TreeFacts.{drawn_below, tree_added}

-- a drawn stage is within its ranges
stage_within : (seed horizon k : ℕ) → StageWithin horizon (drawn_stage seed horizon k)
stage_within seed horizon k =
    let lead = drawn_below seed (4 * k + 1) (min 10 horizon + 1) (omega arith) in
    let factor = drawn_below seed (4 * k + 2) 100 (omega arith) in
    let unit = drawn_below seed (4 * k + 3) 50 (omega arith) in
    record { lead = omega arith; some_factor = omega arith; factor = omega arith; some_unit = omega arith; unit = omega arith }

-- so are all
stages_within : (seed horizon count : ℕ) → All (StageWithin horizon) (drawn_stages seed horizon count)
unfolding drawn_stages
stages_within seed horizon count =
    All-map (StageWithin horizon) (drawn_stage seed horizon) (range_with_len 0 count) (λ i d within. stage_within seed horizon (get_or (range_with_len 0 count) i d))

-- there are as many as were asked for
pub length-drawn_stages : (seed horizon count : ℕ) → length (drawn_stages seed horizon count) ≡ count
unfolding drawn_stages
length-drawn_stages seed horizon count = length-map-range_with_len (drawn_stage seed horizon) 0 count

-- of two stages one comes before the other
before_where : (stages : List TrialStage) (i j : ℕ) → is_before stages i j ≡ true → ComesBefore stages i j
before_where stages i j test = grind (arith, nat_tests)

-- and where the first does not, the second does
behind_where : (stages : List TrialStage) (i j : ℕ) → i ≢ j → is_before stages i j ≡ false → ComesBefore stages j i
behind_where stages i j differ test = grind (arith, nat_tests)

-- the arc between two stages goes from the one that comes before
directed_within : (stages : List TrialStage) (i j : ℕ) → i < length stages → j < length stages → i ≢ j → ArcWithin stages (directed stages i j)
unfolding directed
directed_within stages i j first second differ = chosen (is_before stages i j) refl
  where
    chosen : (b : Bool) → is_before stages i j ≡ b → ArcWithin stages (cond b (record { supplier = i; customer = j }) (record { supplier = j; customer = i }))
    chosen true test = record { supplier = first; customer = second; before = before_where stages i j test }
    chosen false test = record { supplier = second; customer = first; before = behind_where stages i j differ test }

-- at most so many arcs, each within the stages, no two of them the same
record AreArcs (stages : List TrialStage) (most : ℕ) (arcs : List TrialArc) : Type 0 where
  within : All (ArcWithin stages) arcs
  once : AllPairs (λ a b. a ≢ b) arcs
  few : length arcs ≤ most

-- an arc joins its own ends
joins_own : (a : TrialArc) → joins a.supplier a.customer a ≡ true
joins_own a = grind (arith, nat_tests)

-- an arc whose ends no arc joins differs from each
apart : (arcs : List TrialArc) (a : TrialArc) → are_joined arcs a.supplier a.customer ≡ false → (k : ℕ) (d : TrialArc) → k < length arcs → get_or arcs k d ≢ a
apart arcs a free k d within same =
    let found = list_any_at (joins a.supplier a.customer) arcs k d within (ap (joins a.supplier a.customer) same ∙ joins_own a) in
    false≢true (sym free ∙ found)

-- one arc more, unless its ends are joined
arcs_with : (stages : List TrialStage) (most : ℕ) (arcs : List TrialArc) (a : TrialArc) → AreArcs stages most arcs → ArcWithin stages a → AreArcs stages (most + 1) (with_arc arcs a)
unfolding with_arc
arcs_with stages most arcs a had within = chosen (are_joined arcs a.supplier a.customer) refl
  where
    chosen : (b : Bool) → are_joined arcs a.supplier a.customer ≡ b → AreArcs stages (most + 1) (cond b arcs (arcs ++ a ∷ []))
    chosen true test = record { within = had.within; once = had.once; few = omega (arith, had.few) }
    chosen false free = record {
      within = All-push (ArcWithin stages) arcs a had.within within;
      once = all_pairs_push (λ (x : TrialArc) (y : TrialArc). x ≢ y) arcs a had.once (apart arcs a free);
      few = omega (arith, had.few, length_push arcs a);
    }

-- the arc of a stage of the network is within it
tree_arc_within : (seed : ℕ) (stages : List TrialStage) (k : ℕ) → 1 ≤ k → k < length stages → ArcWithin stages (tree_arc seed stages k)
unfolding tree_arc
tree_arc_within seed stages k some there =
    let j = drawn seed (tree_word stages + (k - 1)) k in
    let below : j < k = drawn_below seed (tree_word stages + (k - 1)) k some in
    let first : j < length stages = omega (arith, below) in
    let differ : j ≢ k = omega (arith, below) in
    directed_within stages j k first there differ

-- the arcs of the stages
tree_are : (seed : ℕ) (stages : List TrialStage) (count : ℕ) → count < length stages → AreArcs stages count (tree_arcs seed stages count)
tree_are seed stages zero there = rw (tree_none seed stages) (record { within = λ k d w. absurd (omega arith); once = λ i j d l w. absurd (omega arith); few = omega arith })
tree_are seed stages (suc k) there =
    let some : 1 ≤ suc k = omega arith in
    let less : suc k - 1 ≡ k = omega arith in
    let had : AreArcs stages k (tree_arcs seed stages (suc k - 1)) = rw less (tree_are seed stages k (omega arith)) in
    let more = arcs_with stages k (tree_arcs seed stages (suc k - 1)) (tree_arc seed stages (suc k)) had (tree_arc_within seed stages (suc k) some there) in
    let next : k + 1 ≡ suc k = omega arith in
    subst (λ m. AreArcs stages m (tree_arcs seed stages (suc k))) next (subst (AreArcs stages (k + 1)) (tree_added seed stages (suc k) some) more)

-- one pair more
pair_with : (stages : List TrialStage) (most : ℕ) (arcs : List TrialArc) (i j : ℕ) → i < length stages → j < length stages
    → AreArcs stages most arcs → AreArcs stages (most + 1) (with_pair stages arcs i j)
unfolding with_pair
pair_with stages most arcs i j first second had = chosen (i == j) refl
  where
    chosen : (b : Bool) → (i == j) ≡ b → AreArcs stages (most + 1) (cond b arcs (with_arc arcs (directed stages i j)))
    chosen true same = record { within = had.within; once = had.once; few = omega (arith, had.few) }
    chosen false test =
        let differ : i ≢ j = grind (arith, nat_tests) in
        arcs_with stages most arcs (directed stages i j) had (directed_within stages i j first second differ)

-- the arcs of the stages and of so many pairs
arcs_are : (seed : ℕ) (stages : List TrialStage) (e : ℕ) → 1 ≤ length stages → AreArcs stages (length stages - 1 + e) (arcs_after seed stages e)
arcs_are seed stages zero some =
    let tree = tree_are seed stages (length stages - 1) (omega arith) in
    let all : length stages - 1 ≡ length stages - 1 + 0 = omega arith in
    rw (arcs_first seed stages) (subst (λ m. AreArcs stages m (tree_arcs seed stages (length stages - 1))) all tree)
arcs_are seed stages (suc e) some =
    let at = pair_word stages e in
    let first = drawn_below seed at (length stages) some in
    let second = drawn_below seed (at + 1) (length stages) some in
    let more = pair_with stages (length stages - 1 + e) (arcs_after seed stages e) (drawn seed at (length stages)) (drawn seed (at + 1) (length stages)) first second (arcs_are seed stages e some) in
    let next : length stages - 1 + e + 1 ≡ length stages - 1 + suc e = omega arith in
    let step : e + 1 ≡ suc e = omega arith in
    subst (λ m. AreArcs stages m (arcs_after seed stages (suc e))) next (subst (AreArcs stages (length stages - 1 + e + 1)) (sym (arcs_more seed stages e) ∙ ap (arcs_after seed stages) step) more)

-- what is drawn is a trial network
pub drawn_trial : (seed horizon count extra : ℕ) → horizon ≤ MAX_HORIZON → 1 ≤ count → count ≤ MAX_STAGES → extra ≤ MAX_EXTRA
    → IsTrial horizon (drawn_stages seed horizon count) (arcs_after seed (drawn_stages seed horizon count) extra)
drawn_trial seed horizon count extra short some few pairs =
    let stages = drawn_stages seed horizon count in
    let long = length-drawn_stages seed horizon count in
    let arcs = arcs_are seed stages extra (omega (arith, long)) in
    record {
      horizon_within = short;
      some = omega (arith, long);
      few = omega (arith, long);
      few_arcs = omega (arith, long, arcs.few);
      within = stages_within seed horizon count;
      arcs_within = arcs.within;
      once = arcs.once;
    }

-- its arcs are fewer than the most
pub few_arcs : (seed horizon count extra : ℕ) → 1 ≤ count → count ≤ MAX_STAGES → extra ≤ MAX_EXTRA
    → length (arcs_after seed (drawn_stages seed horizon count) extra) < MAX_ARCS
few_arcs seed horizon count extra some few pairs =
    let long = length-drawn_stages seed horizon count in
    let arcs = arcs_are seed (drawn_stages seed horizon count) extra (omega (arith, long)) in
    omega (arith, long, arcs.few)
