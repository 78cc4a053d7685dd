use Rattle.std.proofs.Common.{◌∙◌, sym}
use Rattle.wy_telling.proofs.Values.{prints_nothing}
use Rattle.wy_telling.proofs.print.plain_units.Goals as goal

pub returns-then-not-is_plain : goal.returns-then-not-is_plain
returns-then-not-is_plain c = c.new.ensures.items ∙ prints_nothing c.args.value (sym c.is_plain.ensures ∙ c.if-not-is_plain.true)
