use Rattle.std.proofs.Common.{ap, ◌∙◌}
use Rattle.wy_event.specs.Sources.{creation, or_else, last_write}
use Rattle.wy_index.specs.Index.{owners_of}
use Rattle.wy_index.proofs.index.Index.writer.Goals as goal

pub returns-in-Some-clause-write : goal.returns-in-Some-clause-write
unfolding last_write or_else
returns-in-Some-clause-write c = λ rs is. ap (λ o. or_else o (creation (owners_of c.args.self.now) rs c.args.slot c.args.before)) (c.in-Some.ensures.write rs is)

pub returns-in-None-clause-write : goal.returns-in-None-clause-write
unfolding last_write or_else
returns-in-None-clause-write c = λ rs is. c.creation.ensures.creation rs is ∙ ap (λ o. or_else o (creation (owners_of c.args.self.now) rs c.args.slot c.args.before)) (c.in-None.ensures.write rs is)
