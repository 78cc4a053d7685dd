-- the ledger of the blank
use Rattle.wy_compare.proofs.text.diff_text.Given as goal

abbrev pub ghosts-diff_by : goal.ghosts-diff_by
ghosts-diff_by a = record { name = a.blank.name; parts = a.blank.parts }
