use Rattle.wy_kernel.specs.View.{expression}
use Rattle.wy_work.specs.Machines.{standing}
use Rattle.wy_work.proofs.Assigns.{text_stored}
use Rattle.wy_work.proofs.Updates.{update_seen}
use Rattle.wy_work.proofs.machine.Machine.store_text.Goals as goal

pub returns : goal.returns
returns g c = record { goes = text_stored _ (standing g.R.Register.keeps g.R.Register.kept c.args.self.now) c.args.slot _ _ _ _ _ _ _ _ _ (standing g.R.Register.keeps g.R.Register.kept c.store.new.self) (expression c.args.expr.now) (update_seen c.args.expr.now c.in-Upd.place c.in-Upd.op c.in-Upd.value c.in-Upd.value_ty c.in-Upd.ty c.in-Upd.wide c.in-Upd.gives_old c.in-Upd.site c.in-Upd.is) c.store.ensures.goes }
