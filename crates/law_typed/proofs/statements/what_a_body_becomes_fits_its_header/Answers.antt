use Rattle.law_typed.proofs.Constructing.{constructors_are_typed, implied_constructors_are_typed}
use Rattle.law_typed.proofs.Embodying.{methods_are_typed}
use Rattle.law_typed.proofs.statements.what_a_body_becomes_fits_its_header.Goals as goal

pub returns-clause-methods : goal.returns-clause-methods
returns-clause-methods c = methods_are_typed

pub returns-clause-constructors : goal.returns-clause-constructors
returns-clause-constructors c = constructors_are_typed

pub returns-clause-implied : goal.returns-clause-implied
returns-clause-implied c = implied_constructors_are_typed
