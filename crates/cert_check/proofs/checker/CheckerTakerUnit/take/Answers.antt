use Rattle.cert_check.proofs.TakeFacts.{take_stands, take_counts}
use Rattle.cert_check.proofs.checker.CheckerTakerUnit.take.Goals as goal

pub returns-clause-stands : goal.returns-clause-stands
returns-clause-stands c = λ items stands. take_stands _ _ _ _ items c.take_item.ensures.takes stands

pub returns-clause-stops : goal.returns-clause-stops
returns-clause-stops c = take_counts _ _ _ _ c.take_item.ensures.takes c.take_item.ensures.later
