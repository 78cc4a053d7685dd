use Rattle.std.proofs.Common.{ap}
use Rattle.wy_kernel.specs.Table.{Table}
use Rattle.wy_syntax.specs.Declarations.{unit}
use Rattle.law_program_parts.proofs.TypedMade.{comes}
use Rattle.law_program_parts.proofs.parts.methods_of_programs_have_bodies.Goals as goal

pub returns : goal.returns
returns c = λ tree well count p accepted.
    let made = comes (unit 0 tree) count p accepted in
    c.what_a_text_becomes_fits_its_types.ensures.bodies made.j made.t (unit 0 tree) count p (c.the_table_of_a_text_says_what_the_text_says.ensures.rows made.t (unit 0 tree) (ap (λ (x : Table). x.methods) made.is_table.rows))
    (c.methods_without_bodies_are_abstract.ensures tree well made.keeps) made.becomes
