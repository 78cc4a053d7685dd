use Rattle.wy_declaration.proofs.Classes.{brace_here, brace_on, brace_none}
use Rattle.wy_declaration.proofs.class.behind_brace.Goals as goal

pub returns-then-is_leaf : goal.returns-then-is_leaf
returns-then-is_leaf c = brace_here _ _ _ _ c.in-Some.ensures.parts (cc) c.loop-part.invariant

pub loop-part-preserved : goal.loop-part-preserved
loop-part-preserved c = brace_on _ _ _ _ c.in-Some.ensures.parts (cc) c.loop-part.invariant

pub returns : goal.returns
returns c = brace_none _ _ c.in_default.ensures.parts c.loop-part.invariant
