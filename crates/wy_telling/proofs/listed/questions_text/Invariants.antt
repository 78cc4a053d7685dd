-- the ledger of the blank
use Rattle.wy_telling.proofs.listed.questions_text.Given as goal

abbrev pub ghosts-all_lines : goal.ghosts-all_lines
ghosts-all_lines g a = record { name = a.blank.name; parts = a.blank.parts }
