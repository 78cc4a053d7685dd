use Rattle.wy_steps.specs.Sets.{nothing, numbers}
use Rattle.law_reached.proofs.Laws.{calls_stand}
use Rattle.law_reached.proofs.calls_stand_on_links.Goals as goal

pub returns-clause-calls : goal.returns-clause-calls
returns-clause-calls c = calls_stand nothing

pub returns-clause-calls_carrying : goal.returns-clause-calls_carrying
returns-clause-calls_carrying c = calls_stand numbers
