use Rattle.std.proofs.Common.{◌∙◌}
use Rattle.wy_syntax.proofs.Shapes.{two_before}
use Rattle.wy_syntax.proofs.Heads.{declared_is, not_declared}
use Rattle.wy_syntax.proofs.StatementViews.{view_declare, view_wrong}
use Rattle.wy_syntax.proofs.lower.act.declared.Goals as goal

pub returns-in_default : goal.returns-in_default
returns-in_default c = view_wrong ∙ not_declared _ _ c.args.parts.now c.in_default.len_below

pub returns : goal.returns
returns c =
    let shape = two_before c.args.parts.now _ _ c.in-len2-up.len_at_least c.ty-item.is c.variables-item.is in
    view_declare _ _ c.in_ok-declarators.declarators ∙ declared_is _ _ _ _ _ _ _ _ _ shape c.width.ensures c.in_ok-ty.ensures c.in_ok-declarators.ensures
