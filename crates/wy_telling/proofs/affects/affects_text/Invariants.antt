-- the ledger of the blank
use Rattle.wy_telling.proofs.affects.affects_text.Given as goal

abbrev pub ghosts-later_lines : goal.ghosts-later_lines
ghosts-later_lines g a = record { name = a.blank.name; parts = a.blank.parts }
