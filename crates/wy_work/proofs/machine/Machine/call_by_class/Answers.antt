use Rattle.std.proofs.Common.{ap, inl, inr, subst, suc, sym, true, ◌≡◌, ◌∙◌, ◌∷◌, Err}
use Rattle.wy_kernel.specs.Parts.{program_of}
use Rattle.wy_meaning.specs.Run.{world}
use Rattle.wy_meaning.specs.World.{fail, is_null, is_text, null_pointer}
use Rattle.wy_operands.specs.Values.{at, last_many, under_many}
use Rattle.wy_work.specs.Machines.{standing}
use Rattle.wy_work.proofs.Choices.{chosen_by_class, chosen_fails, chosen_on_text, fixed_seen, no_text, null_apart, null_seen, resumed_as, text_apart, text_seen}
use Rattle.wy_work.proofs.Runs.{failed_at, world_program}
use Rattle.wy_operation.proofs.Exceptions.{fails}
use Rattle.wy_operation.proofs.Runs.{answers_as}
use Rattle.wy_operation.specs.Around.{Ends}
use Rattle.wy_state.specs.Agrees.{itself, shape}
use Rattle.wy_state.specs.Seen.{given}
use Rattle.wy_steps.specs.Sets.{nothing}
use Rattle.wy_steps.specs.State.{Carried, return}
use Rattle.wy_work.proofs.machine.Machine.call_by_class.Goals as goal

pub returns-in_default : goal.returns-in_default
returns-in_default g c = record {
  goes =
      let p = program_of c.args.on.now.program.now in
      let m = standing g.R.Register.keeps g.R.Register.kept c.args.self.now in
      let q = standing g.R.Register.keeps g.R.Register.kept c.call_chosen.new.self in
      resumed_as p m q c.call_chosen.result (under_many (suc c.args.count) m.values) _ _
      (chosen_by_class (world p m.depth) c.args.method (at c.args.count m.values) (last_many c.args.count m.values) c.args.site
      (ap is_null (sym c.value_at.ensures) ∙ null_apart _ c.in_default.not-Null)
      (ap is_text (sym c.value_at.ensures) ∙ no_text _ c.in_default.not-Text c.in_default.not-Fixed))
      c.call_chosen.ensures.goes;
}

pub returns-in-Text : goal.returns-in-Text
returns-in-Text g c = record {
  goes =
      let p = program_of c.args.on.now.program.now in
      let m = standing g.R.Register.keeps g.R.Register.kept c.args.self.now in
      let q = standing g.R.Register.keeps g.R.Register.kept c.call_on_text.new.self in
      let text : is_text c.value_at.result ≡ true = elim c.in-Text.is as (λ _. is_text c.value_at.result ≡ true) [ inl a ↦ text_seen _ a.0 a.1 | inr b ↦ fixed_seen _ b.0 b.1 ] in
      resumed_as p m q c.call_on_text.result (under_many (suc c.args.count) m.values) _ _
      (chosen_on_text (world p m.depth) c.args.method (at c.args.count m.values) (last_many c.args.count m.values) c.args.site
      (ap is_null (sym c.value_at.ensures) ∙ text_apart _ text) (ap is_text (sym c.value_at.ensures) ∙ text))
      c.call_on_text.ensures.goes;
}

pub returns-in-Null : goal.returns-in-Null
returns-in-Null g c = record {
  goes =
      let p = program_of c.args.on.now.program.now in
      let m = standing g.R.Register.keeps g.R.Register.kept c.args.self.now in
      let r = at c.args.count m.values in
      let w = world p m.depth in
      failed_at p m _ m.values _ (λ v. return (v ∷ under_many (suc c.args.count) m.values)) (itself {X = Carried nothing}) c.fail.result (λ u. return m.values)
      (answers_as p (itself {X = Carried nothing}) (Err c.fail.result) m.state _ _ _
      (chosen_fails w c.args.method r (last_many c.args.count m.values) c.args.site (ap is_null (sym c.value_at.ensures) ∙ null_seen _ c.in-Null.is))
      (fails w null_pointer c.args.site (Carried nothing) p c.fail.result m.state _ r (subst (λ us. Ends p c.fail.result m.state (fail w null_pointer c.args.site (given r.value us)) (shape g.R.Register.keeps g.R.Register.kept c.fail.new.state)) c.uses_at.ensures (c.fail.ensures.step p w r.value (world_program p m.depth)))))
      c.fail.ensures.around;
}
