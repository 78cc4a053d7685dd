use Rattle.std.proofs.Common.{refl}
use Rattle.std.proofs.lemmas.Result.{err_from_is_err_and}
use Rattle.wy_operation.proofs.Runs.{note_write_as, note_write_as_done}
use Rattle.wy_work.specs.Machines.{standing}
use Rattle.wy_work.proofs.Handlers.{caught_goes, caught_refused, refused_around}
use Rattle.wy_work.proofs.machine.Machine.caught.Goals as goal

pub returns-in_err-number : goal.returns-in_err-number
returns-in_err-number g c = record {
  goes = λ p.
      let m = standing g.R.Register.keeps g.R.Register.kept c.args.self.now in
      let e = c.in_err-number.field-0.0 in
      let h = err_from_is_err_and c.from_residual-in_err-number.result c.from_residual-in_err-number.ensures.1 in
      rw (h.1, h.2) (caught_refused p m _ c.args.clause.now c.args.event c.args.value c.local-slot.result (c.in_ok-begin_early.ensures.step p) (c.local-slot.ensures.step p) _ _ e
      (note_write_as p e _ _ _ _ _ _ c.into_slot-draft.ensures.draft c.into_slot-draft.ensures.value (c.in_err-number.ensures.step p)) (refused_around e _ _ _ c.in_ok-begin_early.ensures.calls c.in_err-number.ensures.frames));
}

pub returns : goal.returns
returns g c = record {
  goes = λ p.
      let m = standing g.R.Register.keeps g.R.Register.kept c.args.self.now in
      caught_goes p m _ c.args.clause.now c.args.event c.args.value c.local-slot.result (c.in_ok-begin_early.ensures.step p) (c.local-slot.ensures.step p) _ _ c.in_ok-number.number c.in_ok-begin_early.ensures.calls
      (note_write_as_done p _ _ _ _ _ _ _ c.into_slot-draft.ensures.draft c.into_slot-draft.ensures.value (c.in_ok-number.ensures.step p)) c.in_ok-number.ensures.frames (c.in_ok-activate_through.ensures.step p) _ c.in_ok-activate_through.ensures.calls
      _ _ (standing g.R.Register.keeps g.R.Register.kept c.push_stmt.new.self) refl c.clear.ensures c.in_ok-push_stmt.ensures;
}
