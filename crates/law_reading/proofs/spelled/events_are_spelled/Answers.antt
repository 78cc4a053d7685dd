use Rattle.law_reading.proofs.SpelledEvents.{whole_event}
use Rattle.law_reading.proofs.spelled.events_are_spelled.Goals as goal

pub returns : goal.returns
returns c = whole_event
