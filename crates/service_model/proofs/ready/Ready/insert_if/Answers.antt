use Rattle.std.proofs.Common.{inl, inr, ⊎_elim}
use Rattle.service_model.proofs.ready.Ready.insert_if.Goals as goal

pub returns-in_ok-insert : goal.returns-in_ok-insert
returns-in_ok-insert c = λ q. (
  λ now. ⊎_elim (λ was. inl was) (λ same. inr (same, c.if-wanted.true)) ((c.in_ok-insert.ensures q).0 now),
  λ was. (c.in_ok-insert.ensures q).1 (⊎_elim (λ earlier. inl earlier) (λ same. inr same.0) was),
)
