use Rattle.wy_operation.proofs.LibraryOperations.{of_none, of_one, of_two, of_three}
use Rattle.wy_operation.proofs.texts.operation.library.Goals as goal

pub returns-in-empty-clause-step : goal.returns-in-empty-clause-step
returns-in-empty-clause-step g c w is joined = of_none _ w _ _ c.args.op _ c.args.all.now c.read_byte.result c.args.parts.now c.in-empty.len_below (c.read_byte.ensures.step _ c.args.all.now)

pub returns-in-len1-clause-step : goal.returns-in-len1-clause-step
returns-in-len1-clause-step g c w is joined =
    of_one _ w _ _ c.args.op _ c.args.all.now c.library_one.result c.args.parts.now _ c.in-len1.len_at_least c.in-len1.len_below joined (λ a. c.library_one.ensures.step w a is)

pub returns-in-len2-clause-step : goal.returns-in-len2-clause-step
returns-in-len2-clause-step g c w is joined =
    of_two _ w _ _ c.args.op _ c.args.all.now c.library_two.result c.args.parts.now _ _ c.in-len2.len_at_least c.in-len2.len_below joined (λ a b. c.library_two.ensures.step w a b is)

pub returns-in-len3-clause-step : goal.returns-in-len3-clause-step
returns-in-len3-clause-step g c w is joined =
    of_three _ w _ _ c.args.op _ c.args.all.now c.library_three.result c.args.parts.now _ _ _ c.in-len3.len_at_least c.in-len3.len_below joined (λ a b d. c.library_three.ensures.step w a b d is)
