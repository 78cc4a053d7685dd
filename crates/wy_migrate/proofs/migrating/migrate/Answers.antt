-- From the opening to what closes it; and so far as it came, where it was refused.
use Rattle.std.proofs.Common.{◌≡◌, List, map, refl}
use Rattle.std.specs.List.{concat}
use Rattle.wy_event.specs.declared.record.Tail.{Tail}
use Rattle.wy_machine.proofs.Mirrors.{any_error, begun_end, begun_events, begun_opening, whole}
use Rattle.wy_migrate.proofs.migrating.migrate.Goals as goal

pub returns-in_err-start-clause-begun : goal.returns-in_err-start-clause-begun
returns-in_err-start-clause-begun g c = λ rs is.
    any_error c.from_residual.result _ (begun_opening g.R.Recorder.closing (λ (end : Tail). end ≡ c.args.tail.now) (g.R.Recorder.opening c.args.head.now) (concat (map g.R.Recorder.frame rs)) (g.R.Recorder.mirrors c.args.recorder.now) (g.R.Recorder.mirrors c.start.new.self)
    ((c.in_err-start.ensures {u = tt}).mirrors c.requires.sound))

pub returns-in_err-hand_all_on-clause-begun : goal.returns-in_err-hand_all_on-clause-begun
returns-in_err-hand_all_on-clause-begun g c = λ rs is.
    any_error c.from_residual-in_err-hand_all_on.result _ (begun_events g.R.Recorder.closing (λ (end : Tail). end ≡ c.args.tail.now) (g.R.Recorder.opening c.args.head.now) (concat (map g.R.Recorder.frame rs)) (g.R.Recorder.mirrors c.args.recorder.now) (g.R.Recorder.mirrors c.start.new.self) (g.R.Recorder.mirrors c.hand_all_on.new.recorder)
    ((c.in_ok-start.ensures {u = tt}).mirrors c.requires.sound) (c.in_err-hand_all_on.ensures.takes rs is))

pub returns-in_err-finish-clause-begun : goal.returns-in_err-finish-clause-begun
returns-in_err-finish-clause-begun g c = λ rs is.
    any_error c.from_residual-in_err-finish.result _ (begun_end g.R.Recorder.closing (λ (end : Tail). end ≡ c.args.tail.now) (g.R.Recorder.opening c.args.head.now) (concat (map g.R.Recorder.frame rs)) (g.R.Recorder.mirrors c.args.recorder.now) c.args.tail.now (g.R.Recorder.mirrors c.start.new.self) (g.R.Recorder.mirrors c.hand_all_on.new.recorder) (g.R.Recorder.mirrors c.finish.new.self)
    refl ((c.in_ok-start.ensures {u = tt}).mirrors c.requires.sound) (c.in_ok-hand_all_on.ensures.takes rs is) ((c.in_err-finish.ensures {u = tt}).mirrors c.hand_all_on.ensures.sound))

pub returns-clause-mirrors : goal.returns-clause-mirrors
returns-clause-mirrors g c = λ rs is.
    whole _ (g.R.Recorder.opening c.args.head.now) (concat (map g.R.Recorder.frame rs)) (g.R.Recorder.mirrors c.args.recorder.now) (g.R.Recorder.mirrors c.start.new.self) (g.R.Recorder.mirrors c.hand_all_on.new.recorder) (g.R.Recorder.mirrors c.finish.new.self)
    ((c.in_ok-start.ensures {u = tt}).mirrors c.requires.sound) (c.in_ok-hand_all_on.ensures.takes rs is) ((c.in_ok-finish.ensures {u = tt}).mirrors c.hand_all_on.ensures.sound)
