use Rattle.law_typed.proofs.Inducting.{expressions_are_typed, initials_fit}
use Rattle.law_typed.proofs.expressions.what_is_elaborated_has_its_type.Goals as goal

pub returns-clause-expressions : goal.returns-clause-expressions
returns-clause-expressions c = expressions_are_typed

pub returns-clause-initials : goal.returns-clause-initials
returns-clause-initials c = initials_fit
