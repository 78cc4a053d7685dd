-- What is told of certificates over a trace: that of the event that a question asks about, and whether one that is given is good.
use Rattle.std.specs.Prelude.{◌≡◌, ℕ, List, [], ◌∷◌, ◌++◌, length, Result, Ok, Err, Vec}
use Rattle.std.specs.declared.alloc.Global.{Global}
use Rattle.sha2.specs.Sha256.{sha256}
use Rattle.wy_kernel.specs.Program.{Program}
use Rattle.wy_event.specs.Record.{Recorded}
use Rattle.wy_event.specs.declared.record.Trace.{Trace}
use Rattle.wy_event.specs.declared.record.Version.{Version}
use Rattle.wy_spelling.specs.Spelling.{events_bytes, opening, tail_frames}
use Rattle.wy_why.specs.declared.answer.Answer.{Answer}
use Rattle.wy_ask.specs.Asked.{owners}
use Rattle.wy_cert.specs.Goodness.{Certifies}
use Rattle.wy_check.specs.declared.error.CertError.{CertError}
use Rattle.wy_check.specs.declared.error.CertError.TheVariants.{OtherTrace, BadEvent, View}
use Rattle.wy_telling.specs.declared.untold.Untold.{Untold}
use Rattle.wy_telling.specs.Answers.{AnswerIs, Refused, Telling, TellsAnswer}
use Rattle.wy_view.specs.declared.view.ViewError.TheVariants.{NoMemory}
use Rattle.wy_reply.specs.Lines.{certificate_event_line, certificate_not_read_line, good_line, other_trace_line}

-- the seal of a trace in a version: the digest of all bytes before it
abbrev pub seal_of : Version → Trace → List ℕ
seal_of v t = sha256 (opening v t.head ++ (events_bytes v t.events ++ tail_frames t.tail))

-- ---- the certificate of an event

-- of an event nothing is told but itself
abbrev pub itself : Telling
itself = λ p lines rs event. event ∷ []

-- the answer to a question that is put to a trace with this seal: the certificate of its event, or why there is none
abbrev pub CertifyIs : Program → List ℕ → List Recorded → List ℕ → List ℕ → Result (List ℕ) Refused → Type 0
CertifyIs p lines rs seal question (Ok bytes) = (event : ℕ)
    × AnswerIs itself p lines rs question (Ok (event ∷ []))
    × Certifies (owners p) rs seal event bytes
CertifyIs p lines rs seal question (Err why) = AnswerIs itself p lines rs question (Err why)

-- these bytes or this refusal is the answer; a view can refuse, and memory run out, at any question
abbrev pub Certified : Program → List ℕ → List Recorded → List ℕ → List ℕ → Result (Vec ℕ Global) Untold → Type 0
Certified p lines rs seal question (Ok bytes) = CertifyIs p lines rs seal question (Ok bytes.items)
Certified p lines rs seal question (Err e) = TellsAnswer itself p lines rs question (Err e)

-- ---- the verdict on a certificate

-- the status and the text that are due for it
abbrev pub verdict_status : Result Answer CertError → ℕ
verdict_status (Ok answer) = 0
verdict_status (Err e) = 11

abbrev pub verdict_line : Result Answer CertError → List ℕ
verdict_line (Ok answer) = good_line (length answer.all.items) (length answer.flow.items)
verdict_line (Err OtherTrace) = other_trace_line
verdict_line (Err (BadEvent event)) = certificate_event_line event
verdict_line (Err _) = certificate_not_read_line

-- where the view refused, it was for want of memory
abbrev pub WantsMemory : Result Answer CertError → Type 0
WantsMemory (Err (View error)) = error ≡ NoMemory
WantsMemory _ = Unit {0}
