use Rattle.std.proofs.Common.{map}
use Rattle.wy_syntax.specs.View.{member_of}
use Rattle.wy_syntax.proofs.Heads.{row_ends as ended}
use Rattle.wy_declaration.proofs.Classes.{methods_go}
use Rattle.wy_declaration.proofs.class.methods.Goals as goal

pub loop-method-preserved : goal.loop-method-preserved
loop-method-preserved c = methods_go _ _ _ _ _ _ _ c.in_ok-push.ensures.items c.in-Some.ensures.methods c.in_ok-method_in.ensures c.loop-method.invariant

pub returns : goal.returns
returns c = ended (map member_of c.loop-method.found.items) _ _ c.in_default.ensures c.loop-method.invariant
