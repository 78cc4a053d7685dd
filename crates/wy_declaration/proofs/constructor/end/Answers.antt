use Rattle.wy_declaration.proofs.Constructors.{end_go, end_here, end_none}
use Rattle.wy_declaration.proofs.constructor.end.Goals as goal

pub returns-in_default-split : goal.returns-in_default-split
returns-in_default-split c = end_here _ _ _ _ c.in-Some.ensures.parts c.in_default-split.ensures.parts c.loop-part.invariant

pub loop-part-preserved : goal.loop-part-preserved
loop-part-preserved c = end_go _ _ _ _ _ _ c.in-Some.ensures.parts c.in-Some-split.ensures.parts c.loop-part.invariant

pub returns : goal.returns
returns c = end_none _ _ c.in_default.ensures.parts c.loop-part.invariant
