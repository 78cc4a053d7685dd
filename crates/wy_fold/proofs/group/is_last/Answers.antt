use Rattle.wy_fold.proofs.Grouping.{last_read}
use Rattle.wy_fold.proofs.group.is_last.Goals as goal

pub returns-in-len1-up : goal.returns-in-len1-up
returns-in-len1-up c = last_read _ _ c.in-len1-up.len_at_least
