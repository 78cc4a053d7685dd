-- What is said of certificates is said in one way.
use Rattle.std.specs.Prelude.{◌≡◌, ℕ, List, Some, Result, Ok, Err}
use Rattle.wy_event.specs.Record.{Recorded}
use Rattle.wy_event.specs.Sources.{Owners}
use Rattle.wy_why.specs.declared.answer.Answer.{Answer}
use Rattle.wy_cert.specs.declared.certificate.Certificate.{Certificate}
use Rattle.wy_cert.specs.Spelling.{IsWritten, spelled}
use Rattle.wy_cert.specs.Goodness.{Certifies}
use Rattle.wy_check.specs.declared.error.CertError.{CertError}
use Rattle.wy_check.specs.declared.error.CertError.TheVariants.{View, NoMemory}
use Rattle.wy_check.specs.Checks.{Judges}

-- bytes spell one certificate
abbrev pub OneIsSpelled : Type 0
OneIsSpelled = (c d : Certificate) → IsWritten c → IsWritten d → spelled c ≡ spelled d → c ≡ d

-- an event of a trace has one certificate
abbrev pub OneCertifies : Type 0
OneCertifies = (owner : Owners) (rs : List Recorded) (seal : List ℕ) (event : ℕ) (x y : List ℕ)
    → Certifies owner rs seal event x → Certifies owner rs seal event y → x ≡ y

-- what is said is of the certificate: neither the view refused nor was memory wanting
abbrev pub IsVerdict : Result Answer CertError → Type 0
IsVerdict (Err (View error)) = ⊥
IsVerdict (Err NoMemory) = ⊥
IsVerdict _ = Unit {0}

-- both give the same answer, or both refuse for the same
abbrev pub SayTheSame : Result Answer CertError → Result Answer CertError → Type 0
SayTheSame (Ok a) (Ok b) = (a.all.items ≡ b.all.items) × (a.flow.items ≡ b.flow.items)
SayTheSame (Err e) (Err f) = e ≡ f
SayTheSame _ _ = ⊥

-- over records that are told one verdict is due for bytes
abbrev pub OneVerdictIsDue : Type 0
OneVerdictIsDue = (owner : Owners) (rs : List Recorded) (seal bytes : List ℕ)
    (r s : Result Answer CertError) → IsVerdict r → IsVerdict s
    → Judges owner (Some rs) seal bytes r → Judges owner (Some rs) seal bytes s → SayTheSame r s
