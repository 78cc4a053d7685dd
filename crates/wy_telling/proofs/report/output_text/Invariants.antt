-- the ledger of the blank
use Rattle.wy_telling.proofs.report.output_text.Given as goal

abbrev pub ghosts-all_output : goal.ghosts-all_output
ghosts-all_output g a = record { name = a.blank.name; parts = a.blank.parts }
