use Rattle.std.proofs.Common.{◌∙◌, ◌∷◌, ap}
use Rattle.wy_state.specs.Seen.{valued}
use Rattle.wy_work.specs.Machines.{standing}
use Rattle.wy_work.proofs.Passing.{body_gives, body_passed}
use Rattle.wy_work.proofs.machine.Machine.pass_body.Goals as goal

pub returns-in_default : goal.returns-in_default
returns-in_default g c = record { goes = λ p. body_passed p (standing g.R.Register.keeps g.R.Register.kept c.args.self.now) c.args.returns_none c.args.site c.args.why c.in_default.not-Returned }

pub returns : goal.returns
returns g c = record {
  goes = λ p.
      let e = c.in-Returned.event in
      let v = c.in-Returned.value in
      body_gives p (standing g.R.Register.keeps g.R.Register.kept c.args.self.now) c.args.returns_none c.args.site _ e v c.args.why c.in-Returned.is (c.in_ok-push_with.ensures ∙ ap (λ vs. valued e v ∷ vs) c.clear.ensures);
}
