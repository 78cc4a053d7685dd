use Rattle.std.proofs.Common.{ap, ◌∙◌, map}
use Rattle.wy_tree.specs.Ast.{view}
use Rattle.wy_syntax.specs.Declarations.{parameter}
use Rattle.wy_syntax.specs.View.{parameter_of}
use Rattle.wy_syntax.proofs.Heads.{row_ends as ended}
use Rattle.wy_declaration.proofs.Headers.{parameters_go, parameters_alone, parameters_end}
use Rattle.wy_declaration.proofs.header.parameter_list.Goals as goal

pub returns-in_default-split : goal.returns-in_default-split
returns-in_default-split c =
    ended (map parameter_of c.loop-part.found.items) _ _ (parameters_alone c.loop-part.left.at _ _ _ c.in-Some.ensures.trees c.in_default-split.ensures.trees) c.loop-part.invariant

pub loop-part-preserved : goal.loop-part-preserved
loop-part-preserved c =
    parameters_go _ _ _ _ _ _ _ _ _ _ _ _ c.in_ok-push.ensures.items c.in-Some.ensures.trees c.in-Some-split.ensures.trees c.in-Some.ensures.next c.in-Some-split.ensures.next
    (c.in_ok-parameter.ensures ∙ ap (λ n. parameter n (view c.in-Some.part.tree.now)) c.in-Some.ensures.at) c.loop-part.invariant

pub returns : goal.returns
returns c = ended (map parameter_of c.loop-part.found.items) _ _ (parameters_end c.loop-part.left.at _ c.in_default.ensures.trees) c.loop-part.invariant
