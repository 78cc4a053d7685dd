use Rattle.std.proofs.Common.{◌∙◌}
use Rattle.wy_syntax.proofs.Shapes.{one_before}
use Rattle.wy_syntax.proofs.Heads.{throw_is, no_throw}
use Rattle.wy_syntax.proofs.StatementViews.{view_throw, view_wrong}
use Rattle.wy_syntax.proofs.lower.act.thrown.Goals as goal

pub returns-in_default : goal.returns-in_default
returns-in_default c = view_wrong ∙ no_throw _ _ c.args.parts.now c.in_default.len_below

pub returns : goal.returns
returns c =
    let shape = one_before c.args.parts.now _ c.in-len1-up.len_at_least c.value-item.is in
    view_throw _ _ ∙ throw_is _ _ _ _ _ _ shape c.in_ok-value.ensures
