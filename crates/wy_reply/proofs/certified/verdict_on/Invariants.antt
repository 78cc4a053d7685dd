-- the ledger of the blank
use Rattle.wy_reply.proofs.certified.verdict_on.Given as goal

abbrev pub ghosts-verdict_with : goal.ghosts-verdict_with
ghosts-verdict_with a = record { name = a.blank.name; parts = a.blank.parts }
