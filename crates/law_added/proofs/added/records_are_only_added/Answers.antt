use Rattle.law_added.proofs.Tasks.{adds_to_records}
use Rattle.law_added.proofs.added.records_are_only_added.Goals as goal

pub returns : goal.returns
returns c = adds_to_records
