use Rattle.std.proofs.Common.{◌≡◌, ◌∙◌, ◌+◌, ◌++◌, ◌∷◌, List, Err, ap, arith, drop, length, map, rules, subst, sym, take}
use Rattle.std.proofs.Math.Seq.{take-length}
use Rattle.std.proofs.lemmas.List.{append-nil}
use Rattle.wy_event.specs.Record.{Recorded, recorded}
use Rattle.wy_record.specs.declared.recorder.RecordError.{RecordError}
use Rattle.wy_machine.specs.Shown.{HasRefused, HasTaken, Shown, TakesOn, shown}
use Rattle.wy_machine.proofs.Taking.{items_more, items_split, refused, took}
use Rattle.wy_machine.proofs.whole.note_all.Given as given
use Rattle.wy_machine.proofs.whole.note_all.Goals as goal

module _ (g : given.Over) where
  abbrev see : g.row.R.Denot → Shown
  see = shown g.R.Recorder.phase g.R.Recorder.kept g.R.Recorder.expected g.R.Recorder.position g.R.Recorder.faults g.R.Recorder.counts g.R.Recorder.mirrors

  abbrev Took : Shown → Shown → List Recorded → Type 0
  Took = HasTaken g.R.Recorder.keeps g.R.Recorder.compares g.R.Recorder.frame

pub loop-event-init : goal.loop-event-init
loop-event-init g c = record {
  sound = c.requires.sound;
  recording = c.requires.recording;
  takes = λ first before h. subst (Took g first (see g c.args.recorder.now)) (sym (append-nil before)) h;
}

pub loop-event-preserved : goal.loop-event-preserved
loop-event-preserved g c =
    let noted = c.in_ok-note.ensures {u = tt} in
    let so_far = c.loop-event.invariant in
    record {
      sound = noted.sound so_far.sound;
      recording = noted.phase;
      takes = λ first before h.
          subst (Took g first (see g c.note.new.self)) (items_more recorded before c.args.events.now c.loop-event.event-index c.event-item.result c.loop-event-test.true (sym c.event-item.is))
          (took g.R.Recorder.keeps g.R.Recorder.compares g.R.Recorder.frame first (see g c.loop-event.recorder) (see g c.note.new.self) (before ++ map recorded (take c.loop-event.event-index c.args.events.now)) (recorded c.event-item.result)
          (so_far.takes first before h) noted.phase noted.kept noted.expected noted.position noted.as_expected (noted.faults so_far.sound) (noted.counts so_far.sound) (noted.mirrors so_far.sound));
    }

pub returns-in_err-note-clause-takes : goal.returns-in_err-note-clause-takes
returns-in_err-note-clause-takes g c first before h =
    let e : RecordError = c.in_err-note.field-0.0 in
    let due = c.in_err-note.ensures {u = tt} in
    let so_far = c.loop-event.invariant in
    let found : TakesOn g.R.Recorder.keeps g.R.Recorder.compares g.R.Recorder.frame {X = Unit {0}} first before (map recorded c.args.events.now) (Err e) (see g c.note.new.self) =
    λ rest. subst (λ (es : List Recorded). HasRefused g.R.Recorder.keeps g.R.Recorder.compares g.R.Recorder.frame first (see g c.note.new.self) es e)
    (items_split recorded before c.args.events.now c.loop-event.event-index c.event-item.result rest c.loop-event-test.true (sym c.event-item.is))
    (refused g.R.Recorder.keeps g.R.Recorder.compares g.R.Recorder.frame first (see g c.loop-event.recorder) (see g c.note.new.self) (before ++ map recorded (take c.loop-event.event-index c.args.events.now)) (recorded c.event-item.result)
    (so_far.takes first before h) (map recorded (drop (c.loop-event.event-index + 1) c.args.events.now) ++ rest) e due.phase due.expected due.differs (due.faults so_far.sound) (due.counts so_far.sound) (due.mirrors so_far.sound)) in
    search rules

pub returns-clause-takes : goal.returns-clause-takes
returns-clause-takes g c first before h =
    let all : c.loop-event.event-index ≡ length c.args.events.now = omega arith in
    subst (λ (es : List Recorded). Took g first (see g c.loop-event.recorder) (before ++ es)) (ap (map recorded) (ap (λ k. take k c.args.events.now) all ∙ take-length c.args.events.now))
    (c.loop-event.invariant.takes first before h)
