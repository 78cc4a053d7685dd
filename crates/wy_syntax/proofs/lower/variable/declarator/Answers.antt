use Rattle.wy_syntax.proofs.Shapes.{carried, one_before}
use Rattle.wy_syntax.specs.View.{declarator_of}
use Rattle.wy_syntax.proofs.Heads.{not_declarator, empty_declarator, declarator_is}
use Rattle.wy_syntax.proofs.lower.variable.declarator.Goals as goal

pub returns-in_default : goal.returns-in_default
returns-in_default c = carried _ declarator_of _ _ (not_declarator _ _ c.in_default.ensures) c.lone.ensures

pub returns-in_default-parts : goal.returns-in_default-parts
returns-in_default-parts c = carried _ declarator_of _ _ (empty_declarator _ _ c.in-Some.parts.now c.in-Some.ensures c.in_default-parts.len_below) c.lone-in_default-parts.ensures

pub returns : goal.returns
returns c =
    let shape = one_before c.in-Some.parts.now _ c.in-len1-up.len_at_least c.name-item.is in
    declarator_is _ _ _ _ _ _ _ _ _ c.in-Some.ensures shape c.width.ensures c.in_ok-name.ensures c.pairs.ensures c.in_ok-initial.ensures
