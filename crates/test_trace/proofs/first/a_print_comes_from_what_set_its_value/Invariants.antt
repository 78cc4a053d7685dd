-- the ledger of the blank
use Rattle.test_trace.proofs.first.a_print_comes_from_what_set_its_value.Given as goal

abbrev pub ghosts-ask : goal.ghosts-ask
ghosts-ask g a = record { name = a.blank.name; parts = a.blank.parts }
