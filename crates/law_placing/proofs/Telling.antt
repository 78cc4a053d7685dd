-- What is read of a trace is told by its bytes.
use Rattle.std.proofs.Common.{◌≡◌, ℕ, ◌≤◌, List, [], ◌∷◌, ◌++◌, map, length, Ok, refl, sym, ap, ◌∙◌, append_assoc}
use Rattle.std.specs.List.{AllByRecursion, concat}
use Rattle.std.proofs.lemmas.List.Elements.{All-from_recursion}
use Rattle.sha2.specs.Sha256.{sha256}
use Rattle.wy_kernel.specs.Limits.{trace_limit}
use Rattle.wy_kernel.specs.declared.program.Program.{Program}
use Rattle.wy_event.specs.declared.record.Version.{Version}
use Rattle.wy_event.specs.declared.record.Event.{Event}
use Rattle.wy_event.specs.declared.record.Trace.{Trace}
use Rattle.wy_event.specs.Record.{Recorded, recorded}
use Rattle.wy_fitting.specs.Fits.{AllFit, AllTold, IsTold, told}
use Rattle.wy_spelling.specs.Spelling.{closing, event_frame, events_bytes, opening, run_bytes, seal_frame, sealed, tail_frames, trace_bytes}
use Rattle.wy_frames.specs.Heads.{version_of}
use Rattle.wy_frames.specs.Traces.{IsReadAs}
use Rattle.law_reading.specs.Spelled.{AreBytes, RecordedEventsAreTold}
use Rattle.law_reading.proofs.SpelledTraces.{whole_trace}

-- the frames of events, by their records
frames_are : (v : Version) (events : List Event) → events_bytes v events ≡ concat (map (event_frame v) (map recorded events))
unfolding events_bytes
frames_are v [] = refl
frames_are v (e ∷ events) = ap (λ l. event_frame v (recorded e) ++ l) (frames_are v events)

-- a trace is spelled as the run is that has its head, its events and its end
trace_is : (v : Version) (x : Trace) → trace_bytes v x ≡ run_bytes v x.head (map recorded x.events) x.tail
unfolding trace_bytes sealed closing
trace_is v x =
    let head = opening v x.head in
    let tail = tail_frames x.tail in
    let events = events_bytes v x.events in
    let whole : head ++ (events ++ tail) ≡ (head ++ events) ++ tail = sym (append_assoc head events tail) in
    let seal : List ℕ → List ℕ = λ l. seal_frame (sha256 l) in
    ap (λ l. l ++ seal l) whole ∙ append_assoc (head ++ events) tail (seal ((head ++ events) ++ tail)) ∙ ap (λ l. (head ++ l) ++ (tail ++ seal ((head ++ l) ++ tail))) (frames_are v x.events)

each_told : (v : Version) (rs : List Recorded) → rs ≡ map (told v) rs → AllByRecursion (IsTold v) rs
each_told v [] is = tt
each_told v (r ∷ rs) is = let one : r ≡ told v r = cc in let others : rs ≡ map (told v) rs = cc in (sym one, each_told v rs others)

pub are_told : RecordedEventsAreTold → (p : Program) (bytes : List ℕ) (x : Trace) → AreBytes bytes → length bytes ≤ trace_limit → AllFit (map recorded x.events) → IsReadAs p bytes (Ok x) → AllTold (version_of bytes) (map recorded x.events)
are_told back p bytes x are small fit read =
    let v = version_of bytes in
    let spelled = whole_trace p bytes x are read ∙ trace_is v x in
    All-from_recursion (IsTold v) (map recorded x.events) (each_told v (map recorded x.events) (back v p x.head (map recorded x.events) x.tail bytes x are small fit spelled read))
