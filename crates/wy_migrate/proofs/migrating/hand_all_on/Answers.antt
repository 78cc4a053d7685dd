-- One event more is handed on, until all are.
use Rattle.std.proofs.Common.{◌∙◌, ◌<◌, arith, refl, sym}
use Rattle.std.proofs.lemmas.Result.{err_from_is_err_and}
use Rattle.wy_machine.proofs.Mirrors.{with_nothing}
use Rattle.wy_view.proofs.Views.{keeps_itself, keeps_on}
use Rattle.wy_migrate.proofs.Handed.{counted, refused, there, took}
use Rattle.wy_migrate.proofs.migrating.hand_all_on.Goals as goal

pub loop-n-init : goal.loop-n-init
loop-n-init g c = record {
  within = omega arith;
  sound = c.requires.sound;
  recording = c.requires.recording;
  mirrors = λ rs is. sym (with_nothing (g.R.Recorder.mirrors c.args.recorder.now));
  keeps = keeps_itself (g.V.EventView.tells c.args.view.now);
  given = refl;
  faults = refl;
  counts = refl;
}

pub loop-n-preserved : goal.loop-n-preserved
loop-n-preserved g c =
    let told = g.V.EventView.tells in
    let mirrors = g.R.Recorder.mirrors in
    let v = c.loop-n.invariant in
    let first = told c.args.view.now in
    let below : c.loop-n.n < first.count = omega (arith, c.count-n-end.ensures.count) in
    record {
      within = omega (arith, below);
      sound = c.hand_on.ensures.sound;
      recording = c.in_ok-hand_on.ensures.phase;
      mirrors = λ rs is.
          let at = there rs c.loop-n.n (omega (arith, below, counted first.records rs first.count is c.count-n-end.ensures.told)) in
          took g.R.Recorder.frame rs c.loop-n.n at.0 at.1 (mirrors c.args.recorder.now) (mirrors c.loop-n.recorder) (mirrors c.hand_on.new.recorder) (v.mirrors rs is) (c.in_ok-hand_on.ensures.takes rs at.0 (v.keeps.records ∙ is) at.1);
      keeps = keeps_on first (told c.loop-n.view) (told c.hand_on.new.view) v.keeps c.hand_on.ensures.keeps;
      given = c.in_ok-hand_on.ensures.answers ∙ v.given;
      faults = c.in_ok-hand_on.ensures.faults ∙ v.faults;
      counts = c.in_ok-hand_on.ensures.counts ∙ v.counts;
    }

pub returns-in_err-hand_on-clause-takes : goal.returns-in_err-hand_on-clause-takes
returns-in_err-hand_on-clause-takes g c = λ rs is.
    let mirrors = g.R.Recorder.mirrors in
    let v = c.loop-n.invariant in
    let first = g.V.EventView.tells c.args.view.now in
    let below : c.loop-n.n < first.count = omega (arith, c.count-n-end.ensures.count) in
    let at = there rs c.loop-n.n (omega (arith, below, counted first.records rs first.count is c.count-n-end.ensures.told)) in
    let h = err_from_is_err_and c.from_residual.result c.from_residual.ensures.1 in
    rw h.1 (refused g.R.Recorder.frame rs c.loop-n.n at.0 at.1 (mirrors c.args.recorder.now) (mirrors c.loop-n.recorder) (mirrors c.hand_on.new.recorder) (v.mirrors rs is) (c.in_err-hand_on.ensures.takes rs at.0 (v.keeps.records ∙ is) at.1))
