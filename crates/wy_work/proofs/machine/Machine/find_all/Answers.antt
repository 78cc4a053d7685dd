use Rattle.std.proofs.lemmas.List.{nil_from_length}
use Rattle.wy_work.specs.Machines.{standing}
use Rattle.wy_work.proofs.Finds.{row_done, row_goes}
use Rattle.wy_work.proofs.machine.Machine.find_all.Goals as goal

pub returns-in-None : goal.returns-in-None
returns-in-None g c = record { goes = row_done _ (standing g.R.Register.keeps g.R.Register.kept c.args.self.now) _ (nil_from_length _ c.in-None.ensures.cases) }

pub returns-in_ok-push-in-Some : goal.returns-in_ok-push-in-Some
returns-in_ok-push-in-Some g c = record { goes = row_goes _ (standing g.R.Register.keeps g.R.Register.kept c.args.self.now) (standing g.R.Register.keeps g.R.Register.kept c.push.new.self) c.find.result (standing g.R.Register.keeps g.R.Register.kept c.find.new.self) _ _ _ c.in-Some.ensures.cases.0 c.in_ok-push-in-Some.ensures c.find.ensures.goes }
