use Rattle.std.proofs.lemmas.Result.{err_from_is_err_and}
use Rattle.wy_work.specs.Machines.{standing}
use Rattle.wy_work.proofs.Operates.{binary_failed, binary_went}
use Rattle.wy_work.proofs.machine.Machine.binary.Goals as goal

pub returns-in_err-value : goal.returns-in_err-value
returns-in_err-value g c = record {
  goes = λ p.
      let h = err_from_is_err_and c.from_residual.result c.from_residual.ensures.1 in
      rw (h.1, h.2) (binary_failed p (standing g.R.Register.keeps g.R.Register.kept c.args.self.now) _ _ c.args.op _ _ _ c.args.site c.value_at-left.ensures c.top-right.ensures c.last_uses.ensures.last _ (λ w. c.in_err-value.ensures.step p w) c.in_err-value.ensures.around);
}

pub returns : goal.returns
returns g c = record {
  goes = λ p. binary_went p (standing g.R.Register.keeps g.R.Register.kept c.args.self.now) _ _ c.args.op _ _ _ c.args.site c.value_at-left.ensures c.top-right.ensures c.last_uses.ensures.last _ (λ w. c.in_ok-value.ensures.step p w) c.in_ok-value.ensures.around c.in_ok-join.ensures;
}
