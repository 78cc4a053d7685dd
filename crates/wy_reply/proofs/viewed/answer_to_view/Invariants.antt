-- the ledger of the blank
use Rattle.wy_reply.proofs.viewed.answer_to_view.Given as goal

abbrev pub ghosts-answer_indexed : goal.ghosts-answer_indexed
ghosts-answer_indexed g a = record { name = a.blank.name; parts = a.blank.parts }
