-- the ledger of the blank
use Rattle.wy_migrate.proofs.migrating.migrate.Given as goal

abbrev pub ghosts-hand_all_on : goal.ghosts-hand_all_on
ghosts-hand_all_on g a = record { name = a.blank.name; parts = a.blank.parts }
