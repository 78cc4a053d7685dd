use Rattle.law_program_parts.proofs.Concrete.{none_abstract}
use Rattle.law_program_parts.proofs.parts.constructors_and_static_methods_have_bodies.Goals as goal

pub returns-clause-concrete : goal.returns-clause-concrete
returns-clause-concrete c = none_abstract c.the_table_of_a_text_says_what_the_text_says.ensures.rows

pub returns-clause-bodies : goal.returns-clause-bodies
returns-clause-bodies c = λ tree well count p accepted k m found never.
    c.methods_of_programs_have_bodies.ensures tree well count p accepted k m found (none_abstract c.the_table_of_a_text_says_what_the_text_says.ensures.rows tree well count p accepted k m found never)
