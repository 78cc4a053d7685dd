-- the ledgers of the blanks
use Rattle.test_trace.proofs.paged.a_block_is_read_again_once_64_others_were.Given as goal

abbrev pub ghosts-look_beside : goal.ghosts-look_beside
ghosts-look_beside g a = record { name = a.blank.name; parts = a.blank.parts }

abbrev pub ghosts-look : goal.ghosts-look
ghosts-look g a = record { name = a.blank.name; parts = a.blank.parts }
