-- the ledger of the blank
use Rattle.wy_ask.proofs.opened.Opened.open.Given as goal

abbrev pub ghosts-indexed : goal.ghosts-indexed
ghosts-indexed g a = record { name = a.blank.name; parts = a.blank.parts }
