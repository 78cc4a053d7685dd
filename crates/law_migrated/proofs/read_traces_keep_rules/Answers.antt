use Rattle.law_migrated.proofs.Whole.{keep_rules}
use Rattle.law_migrated.proofs.read_traces_keep_rules.Goals as goal

pub returns : goal.returns
returns c = keep_rules
