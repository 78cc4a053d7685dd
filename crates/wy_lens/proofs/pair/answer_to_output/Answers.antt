use Rattle.wy_lens.specs.declared.words.Beside.TheVariants.{Output}
use Rattle.wy_lens.proofs.Pairs.{as_expected, first_lacks}
use Rattle.wy_lens.proofs.pair.answer_to_output.Goals as goal

pub returns-in-Ok : goal.returns-in-Ok
returns-in-Ok c = as_expected c.args.trace.now c.args.file.now c.args.name.now c.in-Ok.opening c.expected.result c.in-Ok.ensures.opens c.expected.ensures

pub returns-in-Err : goal.returns-in-Err
returns-in-Err c = first_lacks Output c.args.trace.now c.args.file.now c.args.name.now c.in-Err.error c.unopened_by.result c.in-Err.ensures.refused c.unopened_by.ensures
