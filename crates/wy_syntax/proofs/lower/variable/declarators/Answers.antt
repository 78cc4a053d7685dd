use Rattle.std.proofs.Common.{◌∙◌}
use Rattle.wy_syntax.proofs.Shapes.{carried}
use Rattle.wy_syntax.specs.View.{declarator_of, declarators_of}
use Rattle.wy_syntax.proofs.Heads.{no_list, list_is, row_alone}
use Rattle.wy_syntax.proofs.lower.variable.declarators.Goals as goal

pub returns-in_default : goal.returns-in_default
returns-in_default c = row_alone declarator_of _ _ _ _ c.new-found.ensures.items c.in_ok-push.ensures.items c.in_ok-declarator.ensures ∙ no_list _ _ c.in_default.ensures

pub returns : goal.returns
returns c = carried _ declarators_of _ _ (list_is _ _ _ c.in-Some.ensures) c.declarator_list.ensures
