-- the ledger of the blank
use Rattle.wy_telling.proofs.scoped.scope_text.Given as goal

abbrev pub ghosts-scope_lines : goal.ghosts-scope_lines
ghosts-scope_lines g a = record { name = a.blank.name; parts = a.blank.parts }
