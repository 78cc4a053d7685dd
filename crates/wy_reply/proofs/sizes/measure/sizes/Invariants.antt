-- the ledger of the blank
use Rattle.wy_reply.proofs.sizes.measure.sizes.Given as goal

abbrev pub ghosts-answer_sizes : goal.ghosts-answer_sizes
ghosts-answer_sizes a = record { name = a.blank.name; parts = a.blank.parts }
