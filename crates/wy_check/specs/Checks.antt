-- What a check says of the bytes of a certificate, and what it leaves of a view.
use Rattle.std.specs.Prelude.{◌≡◌, ◌≢◌, ℕ, List, Option, IfSome, Result, Ok, Err}
use Rattle.hex.specs.Hex.{encode_lower}
use Rattle.wy_event.specs.Record.{Recorded}
use Rattle.wy_event.specs.Sources.{Owners, closure, data_closure}
use Rattle.wy_view.specs.View.{RefusedFor, Told}
use Rattle.wy_why.specs.declared.answer.Answer.{Answer}
use Rattle.wy_why.specs.Answer.{up_to}
use Rattle.wy_cert.specs.declared.certificate.Certificate.{Certificate}
use Rattle.wy_cert.specs.Spelling.{IsWritten, spelled}
use Rattle.wy_cert.specs.Goodness.{IsFault, IsGood}
use Rattle.wy_check.specs.declared.error.CertError.{CertError}
use Rattle.wy_check.specs.declared.error.CertError.TheVariants.{NotRead, OtherTrace, BadEvent, View, NoMemory}

-- all that an event comes from, and what it comes from by data
pub record IsAnswer (owner : Owners) (rs : List Recorded) (event : ℕ) (answer : Answer) : Type 0 where
  pub all : answer.all.items ≡ up_to event (closure owner rs event)
  pub flow : answer.flow.items ≡ up_to event (data_closure owner rs event)

-- the bytes spell this certificate
pub record IsSpelled (c : Certificate) (bytes : List ℕ) : Type 0 where
  pub written : IsWritten c
  pub spelled : bytes ≡ spelled c

-- what is said of the bytes, over the records where they are told. No two of these hold of one trace and one
-- list of bytes, so each is said exactly where it is so, or the view refused, or memory was not found
abbrev pub Judges : Owners → Option (List Recorded) → List ℕ → List ℕ → Result Answer CertError → Type 0
Judges owner told seal bytes (Ok answer) = (c : Certificate) × IsSpelled c bytes
    × (c.hex ≡ encode_lower seal)
    × IfSome told (λ rs. IsGood owner rs seal c × IsAnswer owner rs c.event answer)
Judges owner told seal bytes (Err NotRead) = (c : Certificate) → ¬ IsSpelled c bytes
Judges owner told seal bytes (Err OtherTrace) = (c : Certificate) × IsSpelled c bytes
    × (c.hex ≢ encode_lower seal)
Judges owner told seal bytes (Err (BadEvent n)) = (c : Certificate) × IsSpelled c bytes
    × (c.hex ≡ encode_lower seal) × IfSome told (λ rs. IsFault owner rs c n)
Judges owner told seal bytes (Err (View error)) = Unit {0}
Judges owner told seal bytes (Err NoMemory) = Unit {0}

-- not refused, unless by the view or for want of memory
abbrev pub IsAccepted : Result Answer CertError → Type 0
IsAccepted (Ok answer) = Unit {0}
IsAccepted (Err (View error)) = Unit {0}
IsAccepted (Err NoMemory) = Unit {0}
IsAccepted _ = ⊥

-- a view's refusal has its cause, and every other answer leaves the view's faults
abbrev pub KeepsView : Result Answer CertError → Told → Told → Type 0
KeepsView (Err (View error)) old new = RefusedFor error old new
KeepsView _ old new = new.faults ≡ old.faults
