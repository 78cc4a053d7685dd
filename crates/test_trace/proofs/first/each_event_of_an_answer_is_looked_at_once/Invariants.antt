-- the ledger of the blank
use Rattle.test_trace.proofs.first.each_event_of_an_answer_is_looked_at_once.Given as goal

abbrev pub ghosts-ask : goal.ghosts-ask
ghosts-ask g a = record { name = a.blank.name; parts = a.blank.parts }
