-- What is said of the bytes of a certificate, by what its lines are.
use Rattle.std.proofs.Common.{◌≡◌, ◌<◌, ◌^◌, ℕ, List, Option, Some, None, Ok, Err, length, refl, subst}
use Rattle.std.specs.Prelude.{IfSome}
use Rattle.hex.specs.Hex.{encode_lower}
use Rattle.wy_event.specs.Record.{Recorded}
use Rattle.wy_event.specs.Sources.{Owners}
use Rattle.wy_why.specs.declared.answer.Answer.{Answer}
use Rattle.wy_cert.specs.declared.certificate.Certificate.{Certificate}
use Rattle.wy_cert.specs.Spelling.{events}
use Rattle.wy_cert.specs.Goodness.{IsFault, IsGood}
use Rattle.wy_cert.proofs.Goodness.{line_of}
use Rattle.wy_check.specs.declared.error.CertError.TheVariants.{BadEvent}
use Rattle.wy_check.specs.Checks.{IsAnswer, IsSpelled, Judges}
use Rattle.wy_check.specs.Faults.{IsWhole}

-- what holds of the records that are told
if_told : {X : Type 0} {P : X → Type 0} (o : Option X) → ((x : X) → o ≡ Some x → P x) → IfSome o P
if_told None holds = tt
if_told (Some x) holds = holds x refl

-- a certificate whose lines are as they ought to be is good
good_whole : (owner : Owners) (rs : List Recorded) (seal : List ℕ) (c : Certificate) → c.hex ≡ encode_lower seal → IsWhole owner rs c → IsGood owner rs seal c
good_whole owner rs seal c of whole = record {
  of_trace = of;
  there =
      let line = line_of c.listed c.event whole.last.listed in
      subst (λ n. n < length rs) line.2 (whole.sound line.0 line.1).there;
  last = whole.last;
  sound = whole.sound;
}

pub faulty : (owner : Owners) (told : Option (List Recorded)) (seal bytes : List ℕ) (c : Certificate) (n : ℕ) → IsSpelled c bytes → c.hex ≡ encode_lower seal
    → ((rs : List Recorded) → told ≡ Some rs → IsFault owner rs c n) → Judges owner told seal bytes (Err (BadEvent n))
faulty owner told seal bytes c n spelled of fault = (c, spelled, of, if_told told fault)

pub accepted : (owner : Owners) (told : Option (List Recorded)) (seal bytes : List ℕ) (c : Certificate) (answer : Answer) → IsSpelled c bytes → c.hex ≡ encode_lower seal
    → ((rs : List Recorded) → told ≡ Some rs → IsWhole owner rs c) → ((rs : List Recorded) → IsWhole owner rs c → IsAnswer owner rs c.event answer) → Judges owner told seal bytes (Ok answer)
accepted owner told seal bytes c answer spelled of whole answers = (
  c,
  spelled,
  of,
  if_told told (λ rs is. (good_whole owner rs seal c of (whole rs is), answers rs (whole rs is))),
)
