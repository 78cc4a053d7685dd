use Rattle.law_typed.proofs.Blocking.{blocks_are_typed}
use Rattle.law_typed.proofs.statements.what_a_block_becomes_fits_its_body.Goals as goal

pub returns : goal.returns
returns c = blocks_are_typed
