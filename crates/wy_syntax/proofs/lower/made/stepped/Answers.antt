use Rattle.std.proofs.Common.{◌∙◌, ap, false, arith}
use Rattle.wy_syntax.specs.Names.{widths, is_up}
use Rattle.wy_syntax.specs.Syntax as plain
use Rattle.wy_syntax.specs.View.{expression_of}
use Rattle.wy_syntax.proofs.ExpressionViews.{view_wrong, view_step}
use Rattle.wy_syntax.proofs.Shapes.{leaf_is, node_is, one_before, with_first}
use Rattle.wy_syntax.proofs.Steps.{steps_go, steps_wrong}
use Rattle.wy_syntax.proofs.lower.made.stepped.Goals as goal

pub loop-left-preserved : goal.loop-left-preserved
loop-left-preserved c =
    let shape = with_first _ _ _ _ (one_before c.loop-left.left.now _ c.in-len1-up.len_at_least c.step-item.is) (leaf_is _ _ c.in-Leaf.is) in
    (steps_go _ _ _ _ _ _ _ _ shape (view_step _ _ _ _ ∙ ap (λ v. plain.Step false c.is_up.result (expression_of v) c.loop-left.token) c.in_ok-operand.ensures.ok) (c.is_up.ensures ∙ ap is_up c.sign_of.ensures) c.loop-left.invariant.0, omega (arith, ap widths shape))

pub returns-in_default-step : goal.returns-in_default-step
returns-in_default-step c =
    let shape = with_first _ _ _ _ (one_before c.loop-left.left.now _ c.in-len1-up.len_at_least c.step-item.is) (node_is _ _ _ c.in_default-step.is) in
    view_wrong ∙ steps_wrong _ _ _ _ _ _ _ shape c.loop-left.invariant.0
