-- the ledger of the blank
use Rattle.wy_telling.proofs.why.why_text.Given as goal

abbrev pub ghosts-event_lines : goal.ghosts-event_lines
ghosts-event_lines g a = record { name = a.blank.name; parts = a.blank.parts }
