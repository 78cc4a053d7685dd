-- the ledger of the blank
use Rattle.wy_fold.proofs.slice.slice_text.Given as goal

abbrev pub ghosts-slice_by : goal.ghosts-slice_by
ghosts-slice_by a = record { name = a.blank.name; parts = a.blank.parts }
