use Rattle.law_carried.proofs.Theorem.{backward_is_forward, stored_is_last_write}
use Rattle.law_carried.proofs.backward.backward_is_forward.Goals as goal

pub returns-clause-events : goal.returns-clause-events
returns-clause-events c = backward_is_forward

pub returns-clause-stored : goal.returns-clause-stored
returns-clause-stored c = stored_is_last_write
