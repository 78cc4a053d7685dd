use Rattle.law_program_parts.proofs.Lengths.{bodies_have_places, initializers_have_places}
use Rattle.law_program_parts.proofs.parts.each_class_and_each_method_has_a_place.Goals as goal

pub returns-clause-initializers : goal.returns-clause-initializers
returns-clause-initializers c = initializers_have_places

pub returns-clause-bodies : goal.returns-clause-bodies
returns-clause-bodies c = bodies_have_places
