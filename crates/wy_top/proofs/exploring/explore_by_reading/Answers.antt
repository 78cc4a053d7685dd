use Rattle.std.proofs.Common.{refl}
use Rattle.wy_top.specs.Openings.{memory, refused, session}
use Rattle.wy_top.proofs.Scenes.{counts_of_memory, whole_scene}
use Rattle.wy_top.proofs.exploring.explore_by_reading.Goals as goal

pub returns-in-Ok-Open-clause-explores : goal.returns-in-Ok-Open-clause-explores
returns-in-Ok-Open-clause-explores g c =
    let opens = rw (c.in-Ok-Open.field-0-is) at c.in-Ok-Open.ensures.opens in
    session _ c.explore_whole-ending.result _ _ (whole_scene _ _ c.in-Ok-Open.typed.program c.in-Ok-Open.trace opens.2) c.explore_whole-ending.ensures.closed c.explore_whole-ending.ensures.read_out c.explore_whole-ending.ensures.taken
    (counts_of_memory _ _ _ c.explore_whole-ending.result opens.1 c.explore_whole-ending.ensures.counts) c.end.ensures

pub returns-in-Ok-Refused-clause-explores : goal.returns-in-Ok-Refused-clause-explores
returns-in-Ok-Refused-clause-explores g c =
    let opens = rw (c.in-Ok-Refused.field-0-is) at c.in-Ok-Refused.ensures.opens in
    refused c.in-Ok-Refused.answer c.deliver.result (rw (c.in-Ok-Refused.field-0-is) at c.in-Ok-Refused.ensures.some) opens.0 opens.1 refl c.deliver.ensures

pub returns-in-Err-clause-explores : goal.returns-in-Err-clause-explores
returns-in-Err-clause-explores g c = memory refl refl
