use Rattle.std.proofs.Common.{◌∙◌, ap, arith, refl}
use Rattle.wy_state.specs.Agrees.{shape}
use Rattle.wy_machine.specs.Ended.{last_thrown}
use Rattle.wy_machine.proofs.Ends.{kept_of}
use Rattle.wy_machine.proofs.finish.finish.Goals as goal

pub returns : goal.returns
returns g c p vs o is many =
    kept_of p (shape g.R.Register.keeps g.R.Register.kept c.args.state) vs c.args.signal o is c.args.steps _ (omega (arith, many, c.len.ensures, c.if-len-statements.false)) refl c.new.ensures c.stop_number.ensures (c.in_ok-number_of.ensures ∙ c.last_of-last.ensures)
    c.saturating_sub.ensures refl refl (omega (arith, c.in-Ok.ensures, c.len-2.ensures)) (c.in_ok-thrown.ensures p is.state is.agrees ∙ ap (last_thrown is.state) c.last_of-last.ensures)
