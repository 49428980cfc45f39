-- The first split that names a node.
use Rattle.std.proofs.Common.{◌≡◌, ℕ, ◌+◌, ◌<◌, ◌==◌, true, false, cond, List, [], ◌∷◌, length, get_or, take, Option, Some, sym, ap, ◌∙◌}
use Rattle.std.specs.Prelude.{All, IfSome}
use Rattle.std.specs.Option.{option_or}
use Rattle.std.proofs.lemmas.List.{take_more}
use Rattle.std.proofs.lemmas.List.Elements.{All-head, All-tail}
use Rattle.std.proofs.lemmas.List.Folds.{find-append}
use Rattle.service_model.specs.declared.cert.Split.{Split}
use Rattle.stock_report.specs.Explanations.{split_of_node}

-- what stands for a split that there is not
abbrev pub no_split : Split
no_split = record { node = 0; supplier = 0; customer = 0 }

-- the first split that names a node, with one more behind
pub first_more : (splits : List Split) (i k : ℕ) (first : Option Split) → i < length splits → first ≡ split_of_node (take i splits) k
    → option_or first (split_of_node (get_or splits i no_split ∷ []) k) ≡ split_of_node (take (i + 1) splits) k
first_more splits i k first within is =
    ap (λ (x : Option Split). option_or x (split_of_node (get_or splits i no_split ∷ []) k)) is
    ∙ sym (find-append (λ s. s.node == k) (take i splits) (get_or splits i no_split ∷ []))
    ∙ ap (λ (xs : List Split). split_of_node xs k) (sym (take_more splits i no_split within))

-- the split that names a node is one of the splits
pub first_holds : (P : Split → Type 0) (splits : List Split) (k : ℕ) → All P splits → IfSome (split_of_node splits k) P
first_holds P [] k all = tt
first_holds P (s ∷ splits) k all =
    elim (s.node == k) as (λ b. IfSome (cond b (Some s) (split_of_node splits k)) P) [
      | true ↦ All-head P s splits all
      | false ↦ first_holds P splits k (All-tail P s splits all)
    ]
