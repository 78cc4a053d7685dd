-- A frame is put behind what each mirror has and the hasher holds.
use Rattle.std.proofs.Common.{List, map, Ok, Err, ℕ, ◌∙◌}
use Rattle.sha2.specs.Hashers.{Holds256}
use Rattle.wy_event.specs.Record.{recorded}
use Rattle.wy_record.specs.Recorders.{Mirrors}
use Rattle.wy_event.specs.declared.record.Version.TheVariants.{Two}
use Rattle.wy_spelling.specs.Spelling.{event_frame}
use Rattle.wy_framing.proofs.Fronts.{same_has_front}
use Rattle.wy_framing.proofs.Traces.{counts_as, failed_keeps, faults_as, fed_alike, low_kept, low_recording, recording_keeps, still_held, taken_alike}
use Rattle.wy_framing.proofs.recorder.FrameRecorderRecorder.note.Goals as goal

pub returns-in_default-clause-sound : goal.returns-in_default-clause-sound
returns-in_default-clause-sound g c = λ keeps.
    failed_keeps _ _ _

pub returns-in_default-clause-mirrors : goal.returns-in_default-clause-mirrors
returns-in_default-clause-mirrors g c = λ keeps.
    same_has_front (event_frame Two (recorded c.args.event.now)) (map (λ b. (goal.TraceSink-dyn g (b.vtable, b.value)).bytes b.value) c.args.self.now.mirrors.items)

pub returns-in-Err-clause-sound : goal.returns-in-Err-clause-sound
returns-in-Err-clause-sound g c = λ keeps.
    failed_keeps _ _ _

pub returns-in-Err-clause-faults : goal.returns-in-Err-clause-faults
returns-in-Err-clause-faults g c = λ keeps.
    let olds : List ℕ = map (λ b. (goal.TraceSink-dyn g (b.vtable, b.value)).faults b.value) c.args.self.now.mirrors.items in
    let news : List ℕ = map (λ b. (goal.TraceSink-dyn g (b.vtable, b.value)).faults b.value) c.serve_all.new.sinks.items in
    faults_as (Err c.in-Err.error) olds news c.in-Err.ensures.faults (low_recording _ _ _ _ c.requires keeps)

pub returns-in-Err-clause-counts : goal.returns-in-Err-clause-counts
returns-in-Err-clause-counts g c = λ keeps.
    let olds : List ℕ = map (λ b. (goal.TraceSink-dyn g (b.vtable, b.value)).faults b.value) c.args.self.now.mirrors.items in
    let news : List ℕ = map (λ b. (goal.TraceSink-dyn g (b.vtable, b.value)).faults b.value) c.serve_all.new.sinks.items in
    counts_as (Err c.in-Err.error) olds news c.in-Err.ensures.faults (low_recording _ _ _ _ c.requires keeps)

pub returns-in-Err-clause-mirrors : goal.returns-in-Err-clause-mirrors
returns-in-Err-clause-mirrors g c = λ keeps.
    let olds : Mirrors = map (λ b. (goal.TraceSink-dyn g (b.vtable, b.value)).bytes b.value) c.args.self.now.mirrors.items in
    let news : Mirrors = map (λ b. (goal.TraceSink-dyn g (b.vtable, b.value)).bytes b.value) c.serve_all.new.sinks.items in
    taken_alike (Err c.in-Err.error) c.as_slice.result.now (event_frame Two (recorded c.args.event.now)) olds news (c.as_slice.ensures.value ∙ c.in-Ok.ensures) (c.in-Err.ensures.mirrors (λ opens. absurd (cc)))

pub returns-clause-sound : goal.returns-clause-sound
returns-clause-sound g c = λ keeps.
    let olds : Mirrors = map (λ b. (goal.TraceSink-dyn g (b.vtable, b.value)).bytes b.value) c.args.self.now.mirrors.items in
    let news : Mirrors = map (λ b. (goal.TraceSink-dyn g (b.vtable, b.value)).bytes b.value) c.serve_all.new.sinks.items in
    recording_keeps _ _ _ (low_kept (map (λ b. (goal.TraceSink-dyn g (b.vtable, b.value)).faults b.value) c.args.self.now.mirrors.items) (map (λ b. (goal.TraceSink-dyn g (b.vtable, b.value)).faults b.value) c.serve_all.new.sinks.items) c.in_default-serve_all.ensures.faults (low_recording _ _ _ _ c.requires keeps))
    (still_held (Holds256 c.args.self.now.hasher) (Holds256 c.update.new.self) c.in-Ok.piece.items olds news
    (taken_alike (Ok tt) c.as_slice.result.now c.in-Ok.piece.items olds news c.as_slice.ensures.value (c.in_default-serve_all.ensures.mirrors (λ opens. absurd (cc))))
    (fed_alike (Holds256 c.args.self.now.hasher) (Holds256 c.update.new.self) c.as_slice-2.result.now c.in-Ok.piece.items c.as_slice-2.ensures.value c.update.ensures) (keeps.held c.requires))

pub returns-clause-faults : goal.returns-clause-faults
returns-clause-faults g c = λ keeps.
    let olds : List ℕ = map (λ b. (goal.TraceSink-dyn g (b.vtable, b.value)).faults b.value) c.args.self.now.mirrors.items in
    let news : List ℕ = map (λ b. (goal.TraceSink-dyn g (b.vtable, b.value)).faults b.value) c.serve_all.new.sinks.items in
    faults_as (Ok tt) olds news c.in_default-serve_all.ensures.faults (low_recording _ _ _ _ c.requires keeps)

pub returns-clause-counts : goal.returns-clause-counts
returns-clause-counts g c = λ keeps.
    let olds : List ℕ = map (λ b. (goal.TraceSink-dyn g (b.vtable, b.value)).faults b.value) c.args.self.now.mirrors.items in
    let news : List ℕ = map (λ b. (goal.TraceSink-dyn g (b.vtable, b.value)).faults b.value) c.serve_all.new.sinks.items in
    counts_as (Ok tt) olds news c.in_default-serve_all.ensures.faults (low_recording _ _ _ _ c.requires keeps)

pub returns-clause-mirrors : goal.returns-clause-mirrors
returns-clause-mirrors g c = λ keeps.
    let olds : Mirrors = map (λ b. (goal.TraceSink-dyn g (b.vtable, b.value)).bytes b.value) c.args.self.now.mirrors.items in
    let news : Mirrors = map (λ b. (goal.TraceSink-dyn g (b.vtable, b.value)).bytes b.value) c.serve_all.new.sinks.items in
    taken_alike (Ok tt) c.as_slice.result.now (event_frame Two (recorded c.args.event.now)) olds news (c.as_slice.ensures.value ∙ c.in-Ok.ensures) (c.in_default-serve_all.ensures.mirrors (λ opens. absurd (cc)))
