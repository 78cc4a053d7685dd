-- the ledger of the blank
use Rattle.test_trace.proofs.travel.the_frames_at_an_event_have_what_their_locals_held.Given as goal

abbrev pub ghosts-look_back : goal.ghosts-look_back
ghosts-look_back g a = record { name = a.blank.name; parts = a.blank.parts }
