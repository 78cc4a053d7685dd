-- A refusal stands at the first mirror, or at one behind it.
use Rattle.std.proofs.Common.{rules, ◌<◌, ◌^◌, length}
use Rattle.wy_framing.proofs.Fronts.{blank_first, blank_rest, refused_here, refused_later, rose_here, rose_later, taken_each}
use Rattle.wy_framing.proofs.serve.+serve_each.Goals as goal

pub returns-in-Ok-serve_each-clause-mirrors : goal.returns-in-Ok-serve_each-clause-mirrors
returns-in-Ok-serve_each-clause-mirrors g t c = λ blank.
    taken_each _ _ _ _ _ _ _ c.in-Some.ensures.cases.0 (c.in-Ok.ensures.content (blank_first _ _ _ _ _ c.in-Some.ensures.cases.0 blank)) (c.in-Ok-serve_each.ensures.mirrors (blank_rest _ _ _ _ _ c.in-Some.ensures.cases.0 blank))

pub returns-in-Err-clause-mirrors : goal.returns-in-Err-clause-mirrors
returns-in-Err-clause-mirrors g t c = λ blank.
    refused_later _ _ _ _ _ _ _ c.in-Some.ensures.cases.0 (c.in-Ok.ensures.content (blank_first _ _ _ _ _ c.in-Some.ensures.cases.0 blank)) (c.in-Err.ensures.mirrors (blank_rest _ _ _ _ _ c.in-Some.ensures.cases.0 blank))

pub returns-in-Err-clause-faults : goal.returns-in-Err-clause-faults
returns-in-Err-clause-faults g t c =
    let few : length c.args.sinks.now < 2 ^ 32 = search rules in
    rose_later _ _ _ _ _ _ _ _ few c.in-Some.ensures.cases.0 c.behind.ensures c.in-Ok.ensures.failed c.in-Err.ensures.faults

pub returns-in-Err-Failed-clause-mirrors : goal.returns-in-Err-Failed-clause-mirrors
returns-in-Err-Failed-clause-mirrors g t c = λ blank. refused_here _ _ _ _ _ _ c.in-Some.ensures.cases.0 (c.in-Err-Failed.ensures.content (blank_first _ _ _ _ _ c.in-Some.ensures.cases.0 blank))

pub returns-in-Err-Failed-clause-faults : goal.returns-in-Err-Failed-clause-faults
returns-in-Err-Failed-clause-faults g t c = rose_here _ _ _ _ _ _ c.in-Some.ensures.cases.0 c.in-Err-Failed.field-0-is c.in-Err-Failed.ensures.failed

pub returns-in-Err-NoMemory-clause-mirrors : goal.returns-in-Err-NoMemory-clause-mirrors
returns-in-Err-NoMemory-clause-mirrors g t c = λ blank. refused_here _ _ _ _ _ _ c.in-Some.ensures.cases.0 (c.in-Err-NoMemory.ensures.content (blank_first _ _ _ _ _ c.in-Some.ensures.cases.0 blank))
