use Rattle.std.proofs.lemmas.List.{nil_from_length}
use Rattle.wy_work.specs.Machines.{standing}
use Rattle.wy_work.proofs.Ends.{first_goes, none_left}
use Rattle.wy_work.proofs.machine.Machine.begin_all.Goals as goal

pub returns-in-None : goal.returns-in-None
returns-in-None g c = record { goes = λ p. none_left p (standing g.R.Register.keeps g.R.Register.kept c.args.self.now) _ _ (nil_from_length _ c.in-None.ensures.cases) c.clear.ensures }

pub returns-in_ok-push-in-Some : goal.returns-in_ok-push-in-Some
returns-in_ok-push-in-Some g c = record { goes = λ p. first_goes p (standing g.R.Register.keeps g.R.Register.kept c.args.self.now) (standing g.R.Register.keeps g.R.Register.kept c.push.new.self) (standing g.R.Register.keeps g.R.Register.kept c.begin.new.self) c.args.stmts.now c.in-Some.rest c.in-Some.first c.begin.result c.in-Some.ensures.cases.0 c.in_ok-push-in-Some.ensures (c.begin.ensures.goes p) }
