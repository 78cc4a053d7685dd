use Rattle.law_refusals.proofs.Once.{found_once, denoted_once, refused_always}
use Rattle.law_refusals.proofs.due.what_is_found_is_one.Goals as goal

pub returns : goal.returns
returns c = record { found = found_once; denoted = denoted_once; refused = refused_always }
