-- A feasible plan lies in the range of exactly one leaf.
use Rattle.std.proofs.Common.{◌≡◌, ◌≢◌, ℕ, ◌+◌, ◌*◌, ◌<◌, ◌≤◌, List, [], ◌∷◌, ◌++◌, length, refl, sym, ap, ◌∙◌, subst, inl, inr, ⊎_elim, arith}
use Rattle.std.specs.Prelude.{All, ◌⊎◌}
use Rattle.std.proofs.lemmas.Bool.{cases_eq, cases_lt}
use Rattle.std.proofs.lemmas.List.{get_or_append_left, get_or_push, get_or-map}
use Rattle.std.proofs.lemmas.List.Elements.{All-push, recursion_from_All}
use Rattle.service_model.specs.declared.plan.Plan.{Plan}
use Rattle.service_model.specs.Net.{Net, no_stage}
use Rattle.service_model.specs.Plans.{Feasible, outbound_at}
use Rattle.service_model.specs.Ranges.{ended, started, IsIn}
use Rattle.service_model.specs.Nodes.{AreSoundBelow}
use Rattle.service_model.specs.CertRanges.{Cut, node_range, IsLeaf, IsCut, IsOnlyLeaf}
use Rattle.gsm_laws.proofs.ElementFacts.{each}
use Rattle.gsm_laws.proofs.BelowFacts.{sound_everywhere}
use Rattle.gsm_laws.proofs.NodeFacts.{node_law}
use Rattle.cert_laws.specs.Laws.{LeafLaw, LeastBoundLaw}
use Rattle.cert_laws.proofs.CutFacts.{AllLong, long_start, long_more, more_cuts, old_node, left_node, right_node, old_left_right, by_cuts}
use Rattle.cert_laws.proofs.HalfFacts.{in_ended, in_started, in_from_ended, in_from_started, low_in_ended, high_in_started}

-- what is known after some cuts: the ranges' lengths, that the cuts name nodes, and the plan's only leaf
record Known (n : Net) (p : Plan) (cuts : List Cut) : Type 0 where
  long : AllLong n cuts
  named : All (λ c. c.node < 2 * length cuts + 1) cuts
  node : ℕ
  one : IsOnlyLeaf n cuts p node

known_start : (n : Net) (p : Plan) → Feasible n p → Known n p []
known_start n p feasible = record {
  long = long_start n;
  named = λ k d within. absurd (omega arith);
  node = 0;
  one = record {
    leaf = record { there = omega arith; not_cut = λ k d within. absurd (omega arith) };
    inside = λ j within.
        let fits = feasible.stages j within in (
          omega (arith, fits.not_early, get_or-map (λ s. s.least) n.stages j no_stage 0 within),
          omega (arith, fits.not_late, get_or-map (λ s. s.most) n.stages j no_stage 0 within),
        );
    only = λ other leaf inside. omega (arith, leaf.there);
  };
}

-- where a leaf that holds the plan stands after one cut more, if leaf k held it before
abbrev Stands : List Cut → Cut → Plan → ℕ → ℕ → Type 0
Stands earlier c p k other =
    ((other ≡ k) × (c.node ≢ other))
    ⊎ (((other ≡ 2 * length earlier + 1) × (c.node ≡ k) × (outbound_at p c.stage ≤ c.last))
    ⊎ ((other ≡ 2 * length earlier + 2) × (c.node ≡ k) × (c.last < outbound_at p c.stage)))

stands_old : (n : Net) (earlier : List Cut) (c : Cut) (p : Plan) → (known : Known n p earlier) → (other : ℕ)
    → IsLeaf (earlier ++ c ∷ []) other → IsIn n (node_range n (earlier ++ c ∷ []) other) p → other < 2 * length earlier + 1
    → Stands earlier c p known.node other
stands_old n earlier c p known other leaf inside low =
    let before = subst (λ r. IsIn n r p) (old_node n earlier c other low) inside in
    let old : IsLeaf earlier other = record {
      there = low;
      not_cut = λ k d within. subst (λ x. x.node ≢ other) (get_or_append_left earlier (c ∷ []) d k within) (leaf.not_cut k d (omega (arith, more_cuts earlier c)));
    } in
    inl (
      known.one.only other old before,
      subst (λ x. x.node ≢ other) (get_or_push earlier c c (length earlier) refl) (leaf.not_cut (length earlier) c (omega (arith, more_cuts earlier c))),
    )

stands : (n : Net) (earlier : List Cut) (c : Cut) (p : Plan) → IsCut n earlier c → (known : Known n p earlier) → (other : ℕ)
    → IsLeaf (earlier ++ c ∷ []) other → IsIn n (node_range n (earlier ++ c ∷ []) other) p → Stands earlier c p known.node other
stands n earlier c p cut known other leaf inside =
    let long = known.long c.node cut.leaf.there in
    ⊎_elim
    (λ low. stands_old n earlier c p known other leaf inside low)
    (⊎_elim
    (λ is.
    let at : IsIn n (ended (node_range n earlier c.node) c.stage c.last) p =
    subst (λ r. IsIn n r p) (ap (node_range n (earlier ++ c ∷ [])) is ∙ left_node n earlier c) inside in
    inr (inl (
      is,
      known.one.only c.node cut.leaf (in_from_ended n _ p c.stage c.last cut.holds.not_late at),
      low_in_ended n _ p c.stage c.last (omega (arith, cut.holds.most_there, long.1)) cut.holds.most_there at,
    )))
    (λ is.
    let at : IsIn n (started (node_range n earlier c.node) c.stage c.last) p =
    subst (λ r. IsIn n r p) (ap (node_range n (earlier ++ c ∷ [])) is ∙ right_node n earlier c) inside in
    inr (inr (
      is,
      known.one.only c.node cut.leaf (in_from_started n _ p c.stage c.last cut.holds.not_early at),
      high_in_started n _ p c.stage c.last (omega (arith, cut.holds.least_there, long.0)) cut.holds.least_there at,
    ))))
    (old_left_right earlier c other leaf.there)

-- a new node is a leaf
new_leaf : (n : Net) (earlier : List Cut) (c : Cut) (p : Plan) → IsCut n earlier c → Known n p earlier → (k : ℕ) → 2 * length earlier < k
    → k < 2 * length earlier + 3 → IsLeaf (earlier ++ c ∷ []) k
new_leaf n earlier c p cut known k late within = record {
  there = omega (arith, more_cuts earlier c);
  not_cut = All-push (λ x. x.node ≢ k) earlier c (λ i d inside same. absurd (omega (arith, known.named i d inside, same)))
      (λ same. absurd (omega (arith, cut.leaf.there, same)));
}

-- the plan's leaf is cut, and the plan lies in the left half
left_leaf : (n : Net) (earlier : List Cut) (c : Cut) (p : Plan) → IsCut n earlier c → (known : Known n p earlier) → c.node ≡ known.node
    → outbound_at p c.stage ≤ c.last → IsOnlyLeaf n (earlier ++ c ∷ []) p (2 * length earlier + 1)
left_leaf n earlier c p cut known is low = record {
  leaf = new_leaf n earlier c p cut known (2 * length earlier + 1) (omega arith) (omega arith);
  inside =
      let inside : IsIn n (node_range n earlier c.node) p = subst (λ k. IsIn n (node_range n earlier k) p) (sym is) known.one.inside in
      subst (λ r. IsIn n r p) (sym (left_node n earlier c)) (in_ended n _ p c.stage c.last inside low);
  only = λ other leaf there. ⊎_elim (λ kept. absurd (kept.1 (is ∙ sym kept.0))) (⊎_elim (λ at. at.0) (λ at. absurd (omega (arith, at.2, low))))
      (stands n earlier c p cut known other leaf there);
}

-- or in the right half
right_leaf : (n : Net) (earlier : List Cut) (c : Cut) (p : Plan) → IsCut n earlier c → (known : Known n p earlier) → c.node ≡ known.node
    → c.last < outbound_at p c.stage → IsOnlyLeaf n (earlier ++ c ∷ []) p (2 * length earlier + 2)
right_leaf n earlier c p cut known is high = record {
  leaf = new_leaf n earlier c p cut known (2 * length earlier + 2) (omega arith) (omega arith);
  inside =
      let inside : IsIn n (node_range n earlier c.node) p = subst (λ k. IsIn n (node_range n earlier k) p) (sym is) known.one.inside in
      subst (λ r. IsIn n r p) (sym (right_node n earlier c)) (in_started n _ p c.stage c.last inside high);
  only = λ other leaf there. ⊎_elim (λ kept. absurd (kept.1 (is ∙ sym kept.0))) (⊎_elim (λ at. absurd (omega (arith, at.2, high))) (λ at. at.0))
      (stands n earlier c p cut known other leaf there);
}

-- the plan's leaf is not cut
same_leaf : (n : Net) (earlier : List Cut) (c : Cut) (p : Plan) → IsCut n earlier c → (known : Known n p earlier) → c.node ≢ known.node
    → IsOnlyLeaf n (earlier ++ c ∷ []) p known.node
same_leaf n earlier c p cut known apart = record {
  leaf = record {
    there = omega (arith, known.one.leaf.there, more_cuts earlier c);
    not_cut = All-push (λ x. x.node ≢ known.node) earlier c known.one.leaf.not_cut apart;
  };
  inside = subst (λ r. IsIn n r p) (sym (old_node n earlier c known.node known.one.leaf.there)) known.one.inside;
  only = λ other leaf there. ⊎_elim (λ kept. kept.0) (⊎_elim (λ at. absurd (apart at.1)) (λ at. absurd (apart at.1)))
      (stands n earlier c p cut known other leaf there);
}

one_leaf : (n : Net) (earlier : List Cut) (c : Cut) (p : Plan) → IsCut n earlier c → Known n p earlier → (k : ℕ) × IsOnlyLeaf n (earlier ++ c ∷ []) p k
one_leaf n earlier c p cut known = ⊎_elim
    (λ is. ⊎_elim
    (λ high. (2 * length earlier + 2, right_leaf n earlier c p cut known is high))
    (λ low. (2 * length earlier + 1, left_leaf n earlier c p cut known is low))
    (cases_lt c.last (outbound_at p c.stage)))
    (λ apart. (known.node, same_leaf n earlier c p cut known apart))
    (cases_eq c.node known.node)

known_more : (n : Net) (p : Plan) (earlier : List Cut) (c : Cut) → IsCut n earlier c → Known n p earlier → Known n p (earlier ++ c ∷ [])
known_more n p earlier c cut known =
    let found = one_leaf n earlier c p cut known in
    record {
      long = long_more n earlier c cut known.long;
      named = All-push (λ x. x.node < 2 * length (earlier ++ c ∷ []) + 1) earlier c
          (λ k d within. omega (arith, known.named k d within, more_cuts earlier c))
          (omega (arith, cut.leaf.there, more_cuts earlier c));
      node = found.0;
      one = found.1;
    }

pub leaf_law : LeafLaw
leaf_law n cuts p are feasible =
    let known = by_cuts n (Known n p) (known_start n p feasible) (known_more n p) cuts are in
    (known.node, known.one)

pub least_bound_law : LeastBoundLaw
least_bound_law n tables roots cuts b p ends sound are nodes bounds feasible =
    let found = leaf_law n cuts p are feasible in
    let leaf = found.1.leaf in
    let node = nodes found.0 leaf.there in
    let below = each (λ k. k < length tables) (AreSoundBelow n tables) (λ k within. sound_everywhere n tables k sound within) _
    (recursion_from_All (λ k. k < length tables) _ node.there) in
    let here = node_law n tables _ _ p ends below node feasible found.1.inside in
    omega (arith, here, bounds found.0 leaf)
