use Rattle.std.proofs.Common.{refl}
use Rattle.gsm_outside.proofs.CauseFacts.{counted_cause, at_ok, at_err}
use Rattle.gsm_outside.proofs.real.StdSinkSink.TheImpl.Goals as goal

pub put-tells : goal.put-tells
put-tells g c = record {
  ok = at_ok c.result (λ _. refl);
  err = at_err c.result (λ _. (0, refl));
  cause = counted_cause _ _ _ c.ensures.faults;
}
