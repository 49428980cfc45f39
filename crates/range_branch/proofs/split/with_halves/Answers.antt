use Rattle.std.proofs.Common.{ℕ, ◌+◌, List, [], ◌∷◌, ◌++◌, ap, ◌∙◌, subst}
use Rattle.service_model.specs.declared.range.Range.{Range}
use Rattle.service_model.specs.declared.cert.Node.{Node}
use Rattle.range_branch.specs.Progress.{AreReplaced, leaf_of}
use Rattle.range_branch.proofs.split.with_halves.Goals as goal

pub returns : goal.returns
returns c =
    let h = c.args.halves in
    let p = c.args.progress in
    record {
      nodes = c.in_ok-push-2.ensures.ok ∙ ap (λ (xs : List Node). xs ++ h.right_made.node ∷ []) c.in_ok-push.ensures.ok;
      splits = c.in_ok-push-3.ensures.ok;
      ranges = c.in_ok-push-5.ensures.ok ∙ ap (λ (xs : List Range). xs ++ h.right ∷ []) c.in_ok-push-4.ensures.ok;
      leaves = subst (λ (k : ℕ). AreReplaced p.leaves c.replace_least.new.leaves c.args.leaf (leaf_of h.left_made.bound k) (leaf_of h.right_made.bound (k + 1)))
          c.len-node.ensures c.in_ok-replace_least.ensures;
      between = c.find_more.new.found;
      left = c.in_ok-find_more.ensures.more;
      right = c.in_ok-find_more-2.ensures.more;
    }
