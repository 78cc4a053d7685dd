-- The bytes of a trace end with its seal.
use Rattle.std.proofs.Common.{◌≡◌, ◌∙◌, sym, ap, ◌+◌, ◌-◌, ◌≤◌, ℕ, List, ◌∷◌, ◌++◌, length, length-append, drop, append_assoc, arith}
use Rattle.std.proofs.Math.Seq.{drop-append_seam}
use Rattle.sha2.specs.Sha256.{sha256}
use Rattle.sha2.proofs.Facts256.{length-sha256}
use Rattle.wy_kernel.specs.declared.program.Program.{Program}
use Rattle.wy_event.specs.declared.record.Trace.{Trace}
use Rattle.wy_spelling.specs.Spelling.{events_bytes, number, opening, sealed, seal_frame, tail_frames, trace_bytes}
use Rattle.wy_frames.specs.Heads.{version_of}
use Rattle.law_reading.specs.Spelled.{TracesAreSpelled}
use Rattle.wy_reply.specs.Certificates.{seal_of}
use Rattle.wy_reply.specs.Opening.{IsDecoded}

-- what stands in front of thirty-two bytes
ends_with : (bytes front end : List ℕ) → bytes ≡ front ++ end → length end ≡ 32 → (32 ≤ length bytes) × (drop (length bytes - 32) bytes ≡ end)
ends_with bytes front end is long =
    let all : length bytes ≡ length front + 32 = ap length is ∙ length-append front end ∙ ap (λ n. length front + n) long in
    let left : length bytes - 32 ≡ length front = omega (arith, all) in
    (omega (arith, all), ap (λ n. drop n bytes) left ∙ ap (drop (length front)) is ∙ drop-append_seam front end)

pub sealed_end : TracesAreSpelled → (p : Program) (bytes : List ℕ) (t : Trace) → IsDecoded p bytes t → (32 ≤ length bytes) × (drop (length bytes - 32) bytes ≡ seal_of (version_of bytes) t)
unfolding trace_bytes sealed seal_frame
sealed_end spelled p bytes t is =
    let inner : List ℕ = opening (version_of bytes) t.head ++ (events_bytes (version_of bytes) t.events ++ tail_frames t.tail) in
    let seal = sha256 inner in
    let mark : List ℕ = 83 ∷ number (length seal) in
    ends_with bytes (inner ++ mark) seal (spelled p bytes t is.are_bytes is.reads ∙ sym (append_assoc inner mark seal)) (length-sha256 inner)
