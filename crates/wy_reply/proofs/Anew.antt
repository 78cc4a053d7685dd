-- A trace that was handed on to a recorder is written anew.
use Rattle.std.proofs.Common.{◌≡◌, ◌∙◌, sym, ap, subst, refl, inl, inr, ◌⊎◌, ◌++◌, ℕ, List, length, map}
use Rattle.std.proofs.lemmas.List.{length-map}
use Rattle.std.specs.List.{concat}
use Rattle.wy_event.specs.Record.{Recorded, recorded}
use Rattle.wy_event.specs.declared.record.Event.{Event}
use Rattle.wy_event.specs.declared.record.Trace.{Trace}
use Rattle.wy_fitting.specs.Fits.{AllFit, EndFits}
use Rattle.wy_machine.specs.Traces.{closed}
use Rattle.wy_record.specs.declared.recorder.Phase.{Phase}
use Rattle.wy_record.specs.declared.recorder.Phase.TheVariants.{Done as Finished, Failed, Recording}
use Rattle.wy_record.specs.Recorders.{Mirrors}
use Rattle.wy_reply.specs.declared.answer.Answer.{Answer}
use Rattle.wy_reply.specs.declared.status.Status.TheVariants.{Done}
use Rattle.wy_reply.specs.Lines.{migrated_line}
use Rattle.wy_reply.specs.Migrations.{HoldAnew, HoldAnewByPhase, HoldPartAnew, MigratesAs, front_of}
use Rattle.wy_reply.specs.Recordings.{Spelling}

-- the mirrors of events that are those of the trace
pub of_events : (s : Spelling) (t : Trace) (es : List Event) (old new : Mirrors) → es ≡ t.events → new ≡ closed (s.closing t.tail) (s.opening t.head ++ concat (map s.frame (map recorded es))) old → new ≡ closed (s.closing t.tail) (front_of s t) old
of_events s t es old new same is = subst (λ (z : List Event). new ≡ closed (s.closing t.tail) (s.opening t.head ++ concat (map s.frame (map recorded z))) old) same is

pub line_of : (t : Trace) (es : List Event) → es ≡ t.events → migrated_line (length es) ≡ migrated_line (length (map recorded t.events))
line_of t es same = ap migrated_line (ap length same ∙ sym (length-map t.events recorded))

pub held_whole : (s : Spelling) (t : Trace) (old new : Mirrors) → AllFit (map recorded t.events) → EndFits t.tail → new ≡ closed (s.closing t.tail) (front_of s t) old → HoldAnew s t old new
held_whole s t old new fit ends holds = record { events_fit = fit; end_fits = ends; held = holds }

pub migrated : (s : Spelling) (t : Trace) (old new : Mirrors) (n m : ℕ) (answer : Answer) → HoldAnew s t old new → m ≡ n → answer.status ≡ Done → answer.text.items ≡ migrated_line (length (map recorded t.events)) → MigratesAs s t old new n m answer
migrated s t old new n m answer holds same done text = inr (done, text, holds, same)

-- ---- by the phase of the recorder

pub by_done : (s : Spelling) (t : Trace) (at : Phase) (old new : Mirrors) → HoldAnew s t old new → at ≡ Finished → HoldAnewByPhase s t at old new
by_done s t at old new holds is = subst (λ (z : Phase). HoldAnewByPhase s t z old new) (sym is) holds

pub by_part : (s : Spelling) (t : Trace) (at : Phase) (old new : Mirrors) → HoldPartAnew s t old new → (at ≡ Failed) ⊎ (at ≡ Recording) → HoldAnewByPhase s t at old new
by_part s t at old new begun (inl is) = subst (λ (z : Phase). HoldAnewByPhase s t z old new) (sym is) begun
by_part s t at old new begun (inr is) = subst (λ (z : Phase). HoldAnewByPhase s t z old new) (sym is) begun
