-- The way from a question to the certificate of its event.
use Rattle.std.proofs.Common.{ℕ, List, Ok, Vec, Global}
use Rattle.wy_kernel.specs.Program.{Program}
use Rattle.wy_event.specs.Record.{Recorded}
use Rattle.wy_ask.specs.Asked.{owners}
use Rattle.wy_cert.specs.Goodness.{Certifies}
use Rattle.wy_telling.specs.Answers.{answered}
use Rattle.wy_telling.specs.Untelling.{FindsAsked}
use Rattle.wy_reply.specs.Certificates.{Certified}

pub certified_of : (p : Program) (lines : List ℕ) (rs : List Recorded) (seal text : List ℕ) (event : ℕ) (bytes : Vec ℕ Global)
    → FindsAsked p rs text (Ok event) → Certifies (owners p) rs seal event bytes.items → Certified p lines rs seal text (Ok bytes)
certified_of p lines rs seal text event bytes (q, asks, at) is = (event, answered q event asks at, is)
