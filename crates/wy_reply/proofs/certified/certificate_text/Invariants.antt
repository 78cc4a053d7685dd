-- the ledger of the blank
use Rattle.wy_reply.proofs.certified.certificate_text.Given as goal

abbrev pub ghosts-certificate_of : goal.ghosts-certificate_of
ghosts-certificate_of g a = record { name = a.blank.name; parts = a.blank.parts }
