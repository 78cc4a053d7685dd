use Rattle.wy_work.specs.Machines.{standing}
use Rattle.wy_work.proofs.Shows.{shows_itself, shows_object}
use Rattle.wy_work.proofs.machine.Machine.show.Goals as goal

pub returns-in-Object : goal.returns-in-Object
returns-in-Object g c = record { goes = shows_object _ (standing g.R.Register.keeps g.R.Register.kept c.args.self.now) c.args.above c.args.site _ c.in_ok-push_copy.ensures _ _ c.call_chosen.result (standing g.R.Register.keeps g.R.Register.kept c.call_chosen.new.self) c.top.ensures c.in-Object.is c.call_chosen.ensures.goes }

pub returns-in_default : goal.returns-in_default
returns-in_default g c = record { goes = shows_itself _ (standing g.R.Register.keeps g.R.Register.kept c.args.self.now) c.args.above c.args.site _ c.in_ok-push_copy.ensures _ c.top.ensures c.in_default.not-Object }
