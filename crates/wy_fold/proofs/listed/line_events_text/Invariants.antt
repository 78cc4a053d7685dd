-- the ledger of the blank
use Rattle.wy_fold.proofs.listed.line_events_text.Given as goal

abbrev pub ghosts-lines_by : goal.ghosts-lines_by
ghosts-lines_by a = record { name = a.blank.name; parts = a.blank.parts }
