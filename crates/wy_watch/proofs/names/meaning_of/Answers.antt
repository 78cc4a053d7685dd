use Rattle.std.specs.Prelude.{length}
use Rattle.wy_watch.proofs.names.meaning_of.Goals as goal

pub returns-in-Some-clause-within : goal.returns-in-Some-clause-within
returns-in-Some-clause-within g c = c.in-Some.ensures.no_field (length c.args.sight.now.program.now.fields.items)
