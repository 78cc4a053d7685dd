-- the ledger of the blank
use Rattle.wy_fold.proofs.fold.show_text.Given as goal

abbrev pub ghosts-show_by : goal.ghosts-show_by
ghosts-show_by a = record { name = a.blank.name; parts = a.blank.parts }
