use Rattle.std.proofs.Common.{map}
use Rattle.wy_syntax.specs.View.{statement_of}
use Rattle.wy_declaration.proofs.Constructors.{statements_go, statements_alone, statements_end, statements_ended}
use Rattle.wy_declaration.proofs.constructor.statements.Goals as goal

pub returns-in_default-split : goal.returns-in_default-split
returns-in_default-split c =
    statements_ended (map statement_of c.loop-part.found.items) _ _ (statements_alone _ _ _ c.in-Some.ensures.parts c.in_default-split.ensures.parts) c.loop-part.invariant

pub loop-part-preserved : goal.loop-part-preserved
loop-part-preserved c = statements_go _ _ _ _ _ _ _ _ _ c.in_ok-push.ensures.items c.in-Some.ensures.parts c.in-Some-split.ensures.parts c.in_ok-statement.ensures c.loop-part.invariant

pub returns : goal.returns
returns c = statements_ended (map statement_of c.loop-part.found.items) _ _ (statements_end _ c.in_default.ensures.parts) c.loop-part.invariant
