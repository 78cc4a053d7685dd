use Rattle.law_reading.proofs.Slots.{slot_stands}
use Rattle.law_reading.proofs.spelled.slots_are_spelled.Goals as goal

pub returns : goal.returns
returns c = slot_stands
