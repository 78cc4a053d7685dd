use Rattle.wy_lens.specs.declared.words.Beside.TheVariants.{Run}
use Rattle.wy_lens.proofs.Pairs.{both_open, first_lacks, second_lacks}
use Rattle.wy_lens.proofs.pair.answer_to_runs.Goals as goal

pub returns-in-Err : goal.returns-in-Err
returns-in-Err c = first_lacks Run c.args.good.now c.args.bad.now c.args.name.now c.in-Err.error c.unopened_by.result c.in-Err.ensures.refused c.unopened_by.ensures

pub returns-in-Ok-trace_of_bytes : goal.returns-in-Ok-trace_of_bytes
returns-in-Ok-trace_of_bytes c = both_open c.args.good.now c.args.bad.now c.args.name.now c.in-Ok.first c.in-Ok-trace_of_bytes.second c.compared.result c.in-Ok.ensures.opens c.in-Ok-trace_of_bytes.ensures.opens c.compared.ensures

pub returns-in-Err-trace_of_bytes : goal.returns-in-Err-trace_of_bytes
returns-in-Err-trace_of_bytes c =
    second_lacks c.args.good.now c.args.bad.now c.args.name.now c.in-Ok.first c.in-Err-trace_of_bytes.error c.unopened_by-in-Err-trace_of_bytes.result c.in-Ok.ensures.opens c.in-Err-trace_of_bytes.ensures.refused c.unopened_by-in-Err-trace_of_bytes.ensures
