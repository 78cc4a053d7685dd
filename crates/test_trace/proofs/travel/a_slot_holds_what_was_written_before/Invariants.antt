-- the ledger of the blank
use Rattle.test_trace.proofs.travel.a_slot_holds_what_was_written_before.Given as goal

abbrev pub ghosts-look_up : goal.ghosts-look_up
ghosts-look_up g a = record { name = a.blank.name; parts = a.blank.parts }
