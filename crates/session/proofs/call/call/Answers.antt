use Rattle.std.proofs.Common.{Ok, Err}
use Rattle.session.specs.History.{stop, and_step, and_turn}
use Rattle.session.proofs.call.call.Goals as goal

pub returns-in-Step-clause-made : goal.returns-in-Step-clause-made
returns-in-Step-clause-made g c = and_step c.step-answer.ensures.stepped stop

pub returns-in-Ok-clause-made : goal.returns-in-Ok-clause-made
returns-in-Ok-clause-made g c = and_turn (Ok c.in-Ok.run') c.in-Ok.ensures stop

pub returns-in-Err-clause-made : goal.returns-in-Err-clause-made
returns-in-Err-clause-made g c = and_turn (Err c.in-Err.field-0) c.in-Err.ensures stop
