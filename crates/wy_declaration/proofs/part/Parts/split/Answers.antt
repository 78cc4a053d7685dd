use Rattle.std.proofs.Common.{refl}
use Rattle.wy_declaration.proofs.Split.{empty, splits}
use Rattle.wy_declaration.proofs.part.Parts.split.Goals as goal

pub returns-in_default : goal.returns-in_default
returns-in_default c = empty c.args.self c.in_default.len_below

pub returns : goal.returns
returns c = splits c.args.self c.tree-item.result c.width.result _ _ c.in-len1-up.len_at_least c.tree-item.is c.width.ensures refl refl refl refl
