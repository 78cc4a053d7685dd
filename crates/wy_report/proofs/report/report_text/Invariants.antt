-- the ledger of the blank
use Rattle.wy_report.proofs.report.report_text.Given as goal

abbrev pub ghosts-report_by : goal.ghosts-report_by
ghosts-report_by a = record { name = a.blank.name; parts = a.blank.parts }
