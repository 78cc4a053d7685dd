use Rattle.wy_compare.proofs.Partings.{one_text}
use Rattle.wy_compare.proofs.laws.one_text_is_due.Goals as goal

pub returns : goal.returns
returns c = one_text
