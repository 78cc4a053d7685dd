use Rattle.wy_report.proofs.Tags.{the_tags}
use Rattle.wy_report.proofs.laws.tags_are_the_templates.Goals as goal

pub returns : goal.returns
returns c = the_tags
