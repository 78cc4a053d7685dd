use Rattle.law_output.proofs.Whole.{prints_are_output, tells_run}
use Rattle.law_own_traces.specs.Own.{text_of}
use Rattle.wy_kernel.specs.Parts.{program_of}
use Rattle.law_output.proofs.output_is_what_the_run_wrote.Goals as goal

pub returns-clause-prints : goal.returns-clause-prints
returns-clause-prints c = λ p fits library text. prints_are_output p c.references_point_below.ensures.records (c.runs_are_in_range.ensures.runs (text_of p) (program_of p) fits library text)

pub returns-clause-text : goal.returns-clause-text
returns-clause-text c = λ p fits library text. tells_run p c.references_point_below.ensures.records (c.runs_are_in_range.ensures.runs (text_of p) (program_of p) fits library text)
