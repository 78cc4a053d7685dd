-- the ledger of the blank
use Rattle.wy_session.proofs.desk.explore.Given as goal

abbrev pub ghosts-explore_indexed : goal.ghosts-explore_indexed
ghosts-explore_indexed g a = record { name = a.blank.name; parts = a.blank.parts }
