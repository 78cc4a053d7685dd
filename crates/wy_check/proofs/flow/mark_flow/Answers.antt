-- From the last line to the first.
use Rattle.std.proofs.Common.{◌≡◌, ◌+◌, ◌-◌, ◌||◌, ℕ, suc, false, length, Some, refl, sym, ap, ◌∙◌, subst, arith}
use Rattle.std.specs.Prelude.{nat_eq, slice_get}
use Rattle.std.proofs.lemmas.Option.{slice_get_read}
use Rattle.wy_event.specs.Sources.{data_closure}
use Rattle.wy_check.specs.Marks.{mark_of}
use Rattle.wy_check.proofs.Flows.{IsGone, begins_gone, ends_gone, gone_line, only_marked}
use Rattle.wy_check.proofs.flow.mark_flow.Goals as goal

pub loop-next-init : goal.loop-next-init
loop-next-init c = record {
  gone = λ owner rs cert listed event room unmarked whole.
      let long : length c.mark.new.marks ≡ length c.args.marks.now = c.mark.auto.marks in
      let at_room : length c.mark.new.marks ≡ suc cert.event = long ∙ room ∙ ap suc (sym event) in
      subst (λ n. IsGone owner rs cert whole n c.mark.new.marks) (ap length listed)
      (begins_gone owner rs cert whole c.mark.new.marks at_room (only_marked c.args.marks.now c.mark.new.marks c.args.event cert.event room long event unmarked c.mark.ensures));
  within = omega arith;
}

pub loop-next-preserved : goal.loop-next-preserved
loop-next-preserved c =
    let n = c.loop-next.next - 1 in
    let back : c.loop-next.next ≡ suc n = omega arith in
    record {
      gone = λ owner rs cert listed event room unmarked whole.
          let gone = subst (λ k. IsGone owner rs cert whole k c.loop-next.marks) back (c.loop-next.invariant.gone owner rs cert listed event room unmarked whole) in
          gone_line owner rs cert whole n c.index-lines-next.result (ap (λ ls. slice_get ls n) listed ∙ slice_get_read c.args.lines.now (length c.args.lines.now) n c.index-lines-next.result refl (omega (arith, c.loop-next.invariant.within, c.loop-next-test.true)) c.index-lines-next.is) c.loop-next.marks gone c.mark_line.new.marks c.mark_line.auto.marks c.mark_line.ensures;
      within = omega (arith, c.loop-next.invariant.within);
    }

pub returns : goal.returns
returns c = λ owner rs cert listed event room unmarked whole j.
    let none : c.loop-next.next ≡ 0 = omega arith in
    let gone = subst (λ k. IsGone owner rs cert whole k c.loop-next.marks) none (c.loop-next.invariant.gone owner rs cert listed event room unmarked whole) in
    subst (λ e. mark_of c.loop-next.marks j ≡ data_closure owner rs e j) event (ends_gone owner rs cert whole c.loop-next.marks gone j)
