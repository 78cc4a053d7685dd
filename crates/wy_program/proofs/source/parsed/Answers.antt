use Rattle.wy_program.proofs.Sources.{has_tree, lacks_tree}
use Rattle.wy_program.proofs.source.parsed.Goals as goal

pub returns-in-Ok-clause-found : goal.returns-in-Ok-clause-found
returns-in-Ok-clause-found c = has_tree c.in-Ok.tree _ c.in-Ok.ensures.found

pub returns-in-Err-Syntax-clause-refused : goal.returns-in-Err-Syntax-clause-refused
returns-in-Err-Syntax-clause-refused c =
    lacks_tree _ _ _ (rw c.in-Err-Syntax.field-0-is at c.in-Err-Syntax.ensures.refused) (rw c.in-Err-Syntax.field-0-is at c.in-Err-Syntax.ensures.place) c.line_of-line.ensures
