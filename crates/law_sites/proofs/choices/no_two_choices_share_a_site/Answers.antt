use Rattle.law_sites.proofs.Distinct.{choices_stand_apart}
use Rattle.law_sites.proofs.choices.no_two_choices_share_a_site.Goals as goal

pub returns : goal.returns
returns c = choices_stand_apart
