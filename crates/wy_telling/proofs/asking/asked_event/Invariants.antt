-- the ledger of the blank
use Rattle.wy_telling.proofs.asking.asked_event.Given as goal

abbrev pub ghosts-resolved : goal.ghosts-resolved
ghosts-resolved g a = record { name = a.blank.name; parts = a.blank.parts }
