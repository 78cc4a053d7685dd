use Rattle.std.proofs.Common.{◌∙◌, refl, sym}
use Rattle.wy_event.specs.Numbers.{none}
use Rattle.wy_fold.proofs.Listing.{none_pass}
use Rattle.wy_fold.proofs.listed.lines_by.Goals as goal

pub returns-clause-lines : goal.returns-clause-lines
returns-clause-lines g c = c.answer_lines.ensures.lines _ refl none (c.new.ensures.items ∙ sym (none_pass c.args.events.items))
