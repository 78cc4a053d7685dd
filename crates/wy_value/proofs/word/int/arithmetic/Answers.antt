use Rattle.std.proofs.Common.{rules}
use Rattle.std.proofs.lemmas.Int.{wraps}
use Rattle.wy_value.proofs.Wrapping.{div_is}
use Rattle.wy_value.proofs.word.int.arithmetic.Goals as goal

pub returns-in-Add : goal.returns-in-Add
returns-in-Add c = search (rules, wraps)

pub returns-in-Sub : goal.returns-in-Sub
returns-in-Sub c = search (rules, wraps)

pub returns-in-Div : goal.returns-in-Div
returns-in-Div c = search (rules, wraps, div_is)
