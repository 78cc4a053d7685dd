use Rattle.std.proofs.Common.{◌≡◌, ◌++◌, ◌∙◌, Err, List, ap, map, rules, subst, sym, ℕ}
use Rattle.std.specs.List.{concat}
use Rattle.std.proofs.lemmas.Result.{err_from_is_err_and}
use Rattle.wy_event.specs.Record.{Recorded, recorded}
use Rattle.wy_fitting.specs.Fits.{AllFit}
use Rattle.wy_kernel.specs.Parts.{program_of}
use Rattle.wy_kernel.specs.Program.{Program}
use Rattle.wy_meaning.specs.Run.{events}
use Rattle.wy_record.specs.declared.recorder.RecordError.{RecordError}
use Rattle.wy_record.specs.Recorders.{CountsAs, FaultsAs, HavePrefix}
use Rattle.wy_steps.specs.Sets.{nothing}
use Rattle.wy_machine.specs.declared.ended.Ended.{Ended}
use Rattle.wy_machine.specs.Differences.{DiffersAsFirst}
use Rattle.wy_machine.specs.Ended.{IsEndOf, IsTailOf}
use Rattle.wy_machine.specs.Refusals.{told}
use Rattle.wy_machine.specs.Shown.{HasTaken, IsRecorded, Shown, shown}
use Rattle.wy_machine.proofs.Agreeing.{as_expected, differs_behind, differs_given}
use Rattle.wy_machine.proofs.Mirrors.{any_error, begun_end, begun_events, begun_opening, whole}
use Rattle.wy_machine.proofs.Runs.{left_so}
use Rattle.wy_machine.proofs.recording.record.Given as given
use Rattle.wy_machine.proofs.recording.record.Goals as goal

module _ (g : given.Over) where
  abbrev see : g.row.R.Denot → Shown
  see = shown g.R.Recorder.phase g.R.Recorder.kept g.R.Recorder.expected g.R.Recorder.position g.R.Recorder.faults g.R.Recorder.counts g.R.Recorder.mirrors

-- what the run left, with the input of the head
left : (g : given.Over) (p : Program) (xs ys : List ℕ) (steps : ℕ) (old new : g.row.R.Denot) (e : Ended) → xs ≡ ys → IsRecorded g.R.Recorder.keeps g.R.Recorder.compares g.R.Recorder.frame p xs steps (see g old) e (see g new) →
    IsRecorded g.R.Recorder.keeps g.R.Recorder.compares g.R.Recorder.frame p ys steps (see g old) e (see g new)
left g p xs ys steps old new e same is = subst (λ zs. IsRecorded g.R.Recorder.keeps g.R.Recorder.compares g.R.Recorder.frame p zs steps (see g old) e (see g new)) same is

pub returns-clause-ended : goal.returns-clause-ended
returns-clause-ended g c = (left g (program_of c.args.program.now) c.as_slice.result.now c.args.head.now.input c.args.head.now.steps c.start.new.self c.run.new.recorder c.in_ok-ended.ended c.as_slice.ensures c.in_ok-ended.ensures.recorded).end

pub returns-clause-fits : goal.returns-clause-fits
returns-clause-fits g c = subst (λ xs. AllFit (events nothing (program_of c.args.program.now) xs c.args.head.now.steps)) c.as_slice.ensures c.in_ok-ended.ensures.fits

pub returns-clause-mirrors : goal.returns-clause-mirrors
returns-clause-mirrors g c =
    whole _ _ _ (g.R.Recorder.mirrors c.args.recorder.now) (g.R.Recorder.mirrors c.start.new.self) (g.R.Recorder.mirrors c.run.new.recorder) (g.R.Recorder.mirrors c.finish.new.self)
    ((c.in_ok-start.ensures {u = tt}).mirrors c.requires.sound) (left g (program_of c.args.program.now) c.as_slice.result.now c.args.head.now.input c.args.head.now.steps c.start.new.self c.run.new.recorder c.in_ok-ended.ended c.as_slice.ensures c.in_ok-ended.ensures.recorded).taken.mirrors ((c.in_ok-finish.ensures {u = tt}).mirrors c.run.ensures.sound)

pub returns-clause-as_expected : goal.returns-clause-as_expected
returns-clause-as_expected g c does =
    as_expected (map recorded c.args.expected.items) (g.R.Recorder.expected c.start.new.self) (g.R.Recorder.expected c.run.new.recorder) _ (g.R.Recorder.position c.run.new.recorder)
    ((c.in_ok-start.ensures {u = tt}).expected does).0 (left g (program_of c.args.program.now) c.as_slice.result.now c.args.head.now.input c.args.head.now.steps c.start.new.self c.run.new.recorder c.in_ok-ended.ended c.as_slice.ensures c.in_ok-ended.ensures.recorded).taken.expected ((left g (program_of c.args.program.now) c.as_slice.result.now c.args.head.now.input c.args.head.now.steps c.start.new.self c.run.new.recorder c.in_ok-ended.ended c.as_slice.ensures c.in_ok-ended.ensures.recorded).taken.position does) ((left g (program_of c.args.program.now) c.as_slice.result.now c.args.head.now.input c.args.head.now.steps c.start.new.self c.run.new.recorder c.in_ok-ended.ended c.as_slice.ensures c.in_ok-ended.ensures.recorded).taken.agreed does) ((c.in_ok-finish.ensures {u = tt}).as_expected does)

pub returns-in_err-start-clause-begun : goal.returns-in_err-start-clause-begun
returns-in_err-start-clause-begun g c =
    any_error c.from_residual.result _ (begun_opening g.R.Recorder.closing (IsTailOf (program_of c.args.program.now) c.args.head.now.input c.args.head.now.steps) (g.R.Recorder.opening c.args.head.now) _ (g.R.Recorder.mirrors c.args.recorder.now) (g.R.Recorder.mirrors c.start.new.self)
    ((c.in_err-start.ensures {u = tt}).mirrors c.requires.sound))

pub returns-in_err-ended-clause-begun : goal.returns-in_err-ended-clause-begun
returns-in_err-ended-clause-begun g c =
    any_error c.from_residual-in_err-ended.result _ (begun_events g.R.Recorder.closing (IsTailOf (program_of c.args.program.now) c.args.head.now.input c.args.head.now.steps) (g.R.Recorder.opening c.args.head.now) _ (g.R.Recorder.mirrors c.args.recorder.now) (g.R.Recorder.mirrors c.start.new.self) (g.R.Recorder.mirrors c.run.new.recorder)
    ((c.in_ok-start.ensures {u = tt}).mirrors c.requires.sound)
    (subst (λ xs. HavePrefix (concat (map g.R.Recorder.frame (events nothing (program_of c.args.program.now) xs c.args.head.now.steps))) (g.R.Recorder.mirrors c.start.new.self) (g.R.Recorder.mirrors c.run.new.recorder)) c.as_slice.ensures c.in_err-ended.ensures.begun))

pub returns-in_err-ended-clause-left : goal.returns-in_err-ended-clause-left
returns-in_err-ended-clause-left g c =
    let h = err_from_is_err_and c.from_residual-in_err-ended.result c.from_residual-in_err-ended.ensures.1 in
    rw (h.1, h.2) (left_so Ended c.in_err-ended.field-0.0 (g.R.Recorder.phase c.run.new.recorder) c.in_err-ended.ensures.phase)

pub returns-in_err-ended-clause-faults : goal.returns-in_err-ended-clause-faults
returns-in_err-ended-clause-faults g c =
    let h = err_from_is_err_and c.from_residual-in_err-ended.result c.from_residual-in_err-ended.ensures.1 in
    rw (h.1, h.2) (subst (λ n. FaultsAs {X = Ended} (Err (told c.in_err-ended.field-0.0)) n (g.R.Recorder.faults c.run.new.recorder)) ((c.in_ok-start.ensures {u = tt}).faults c.requires.sound) c.in_err-ended.ensures.faults)

pub returns-in_err-ended-clause-counts : goal.returns-in_err-ended-clause-counts
returns-in_err-ended-clause-counts g c =
    let h = err_from_is_err_and c.from_residual-in_err-ended.result c.from_residual-in_err-ended.ensures.1 in
    rw (h.1, h.2) (subst (λ ns. CountsAs {X = Ended} (Err (told c.in_err-ended.field-0.0)) ns (g.R.Recorder.counts c.run.new.recorder)) ((c.in_ok-start.ensures {u = tt}).counts c.requires.sound) c.in_err-ended.ensures.counts)

pub returns-in_err-ended-clause-differs : goal.returns-in_err-ended-clause-differs
returns-in_err-ended-clause-differs g c =
    let h = err_from_is_err_and c.from_residual-in_err-ended.result c.from_residual-in_err-ended.ensures.1 in
    rw (h.1, h.2) (differs_given Ended (told c.in_err-ended.field-0.0) g.R.Recorder.compares (map recorded c.args.expected.items) (g.R.Recorder.expected c.start.new.self) _ (λ does. ((c.in_ok-start.ensures {u = tt}).expected does).0)
    (subst (λ xs. DiffersAsFirst {X = Ended} (Err (told c.in_err-ended.field-0.0)) g.R.Recorder.compares (g.R.Recorder.expected c.start.new.self) (events nothing (program_of c.args.program.now) xs c.args.head.now.steps)) c.as_slice.ensures c.in_err-ended.ensures.differs))

pub returns-in_err-finish-clause-begun : goal.returns-in_err-finish-clause-begun
returns-in_err-finish-clause-begun g c =
    any_error c.from_residual-in_err-finish.result _ (begun_end g.R.Recorder.closing (IsTailOf (program_of c.args.program.now) c.args.head.now.input c.args.head.now.steps) (g.R.Recorder.opening c.args.head.now) _ (g.R.Recorder.mirrors c.args.recorder.now) _ (g.R.Recorder.mirrors c.start.new.self) (g.R.Recorder.mirrors c.run.new.recorder) (g.R.Recorder.mirrors c.finish.new.self)
    (left g (program_of c.args.program.now) c.as_slice.result.now c.args.head.now.input c.args.head.now.steps c.start.new.self c.run.new.recorder c.in_ok-ended.ended c.as_slice.ensures c.in_ok-ended.ensures.recorded).end.tail ((c.in_ok-start.ensures {u = tt}).mirrors c.requires.sound) (left g (program_of c.args.program.now) c.as_slice.result.now c.args.head.now.input c.args.head.now.steps c.start.new.self c.run.new.recorder c.in_ok-ended.ended c.as_slice.ensures c.in_ok-ended.ensures.recorded).taken.mirrors ((c.in_err-finish.ensures {u = tt}).mirrors c.run.ensures.sound))

pub returns-in_err-finish-clause-differs : goal.returns-in_err-finish-clause-differs
returns-in_err-finish-clause-differs g c =
    let e : RecordError = c.in_err-finish.field-0.0 in
    let all : List Recorded = events nothing (program_of c.args.program.now) c.args.head.now.input c.args.head.now.steps in
    let found : DiffersAsFirst {X = Unit {0}} (Err e) g.R.Recorder.compares (map recorded c.args.expected.items) all =
    differs_behind (Unit {0}) e g.R.Recorder.compares (map recorded c.args.expected.items) (g.R.Recorder.expected c.start.new.self) (g.R.Recorder.expected c.run.new.recorder) all (g.R.Recorder.position c.run.new.recorder)
    (λ does. ((c.in_ok-start.ensures {u = tt}).expected does).0) (left g (program_of c.args.program.now) c.as_slice.result.now c.args.head.now.input c.args.head.now.steps c.start.new.self c.run.new.recorder c.in_ok-ended.ended c.as_slice.ensures c.in_ok-ended.ensures.recorded).taken.expected (left g (program_of c.args.program.now) c.as_slice.result.now c.args.head.now.input c.args.head.now.steps c.start.new.self c.run.new.recorder c.in_ok-ended.ended c.as_slice.ensures c.in_ok-ended.ensures.recorded).taken.position (left g (program_of c.args.program.now) c.as_slice.result.now c.args.head.now.input c.args.head.now.steps c.start.new.self c.run.new.recorder c.in_ok-ended.ended c.as_slice.ensures c.in_ok-ended.ensures.recorded).taken.agreed (c.in_err-finish.ensures {u = tt}).differs in
    search rules
