use Rattle.std.proofs.Common.{refl, inl}
use Rattle.gsm_outside.proofs.CauseFacts.{counted_cause, at_ok, at_err}
use Rattle.gsm_outside.proofs.real.FileShelfShelf.TheImpl.Goals as goal

pub fetch-tells : goal.fetch-tells
fetch-tells g c = record {
  within = c.ensures.within;
  bytes = at_ok c.result (λ _. tt);
  held = refl;
  cause = counted_cause _ _ _ c.ensures.reads;
  writes = c.ensures.writes;
}

pub create-tells : goal.create-tells
create-tells g c = record {
  ok = at_ok c.result (λ _. refl);
  err = at_err c.result (λ _. inl refl);
  cause = counted_cause _ _ _ c.ensures.writes;
  reads = c.ensures.reads;
}

pub append-tells : goal.append-tells
append-tells g c = record {
  ok = at_ok c.result (λ _. refl);
  err = at_err c.result (λ _. inl refl);
  cause = counted_cause _ _ _ c.ensures.writes;
  reads = c.ensures.reads;
}
