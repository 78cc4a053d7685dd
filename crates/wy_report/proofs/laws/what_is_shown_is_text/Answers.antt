use Rattle.wy_report.proofs.Texts.{shown_is_text}
use Rattle.wy_report.proofs.laws.what_is_shown_is_text.Goals as goal

pub returns : goal.returns
returns c = shown_is_text
