use Rattle.wy_syntax.specs.Declarations.{unit}
use Rattle.wy_members.specs.Declarations.{classes_of}
use Rattle.law_program_parts.proofs.Interfaces.{all_bare, interfaces_have_headers_alone}
use Rattle.law_program_parts.proofs.Lengths.{bodies_have_places}
use Rattle.law_program_parts.proofs.parts.each_method_of_a_tree_has_a_place.Goals as goal

pub returns-clause-interfaces : goal.returns-clause-interfaces
returns-clause-interfaces c = interfaces_have_headers_alone

pub returns-clause-bodies : goal.returns-clause-bodies
returns-clause-bodies c tree w tokens p h = bodies_have_places (unit 0 tree) tokens p (all_bare (classes_of (unit 0 tree)) (interfaces_have_headers_alone tree w)) h
