use Rattle.wy_program.proofs.Sources.{typed_as, lacks_types}
use Rattle.wy_program.proofs.source.typed.Goals as goal

pub returns-in-Ok-clause-found : goal.returns-in-Ok-clause-found
returns-in-Ok-clause-found c = typed_as _ _ c.in-Ok.program.program c.in-Ok.ensures.found c.in-Ok.ensures.lines

pub returns-in-Err-Broken-clause-refused : goal.returns-in-Err-Broken-clause-refused
returns-in-Err-Broken-clause-refused c =
    lacks_types _ _ _ _ _ (rw c.in-Err-Broken.field-0-is at c.in-Err-Broken.ensures.refused) c.line_of-line.ensures
