use Rattle.wy_value.proofs.Ranges.{unary_in_range, binary_in_range, converted_in_range}
use Rattle.wy_value.proofs.law.results_are_in_range.Goals as goal

pub returns-clause-unary : goal.returns-clause-unary
returns-clause-unary c = unary_in_range

pub returns-clause-binary : goal.returns-clause-binary
returns-clause-binary c = binary_in_range

pub returns-clause-converted : goal.returns-clause-converted
returns-clause-converted c = converted_in_range
