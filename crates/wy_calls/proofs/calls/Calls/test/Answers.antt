use Rattle.std.proofs.Common.{◌≡◌, ◌∙◌, ap, sym, reverse, subst, ◌≤◌, List, Some}
use Rattle.std.specs.Option.{IsSomeAnd}
use Rattle.wy_calls.specs.declared.parts.Begun.{Begun}
use Rattle.wy_steps.specs.State.{Through}
use Rattle.wy_calls.specs.Calls.{CallStack, activated, event_of}
use Rattle.wy_calls.specs.Layout.{mark_in, newest_of, IsNext}
use Rattle.wy_calls.proofs.Frames.{newest_has_event}
use Rattle.wy_calls.proofs.CallStacks.{activated_is, stands_with_more}
use Rattle.wy_calls.proofs.calls.Calls.test.Goals as goal

pub invariant_of-self-2 : goal.invariant_of-self-2
invariant_of-self-2 c =
    let is : mark_in (reverse c.self.inside.begun.items) c.in-Some.frame c.args.statement ≡ Some c.in-Some-mark_of.mark =
    ap (λ (bs : List Begun). mark_in (reverse bs) c.in-Some.frame c.args.statement) (sym c.deref-2.ensures.value) ∙ sym c.in-Some-mark_of.ensures in
    let sits : IsSomeAnd (mark_in (reverse c.self.inside.begun.items) c.in-Some.frame c.args.statement) (λ m. m ≤ c.args.event) = subst (λ x. IsSomeAnd x (λ m. m ≤ c.args.event)) (sym is) c.if-event-mark.false in
    let next : IsNext c.self.inside.active.items c.args.event = subst (λ es. IsNext es c.args.event) c.deref-else-event-mark.ensures.value (c.is_next.ensures c.if-not-is_next.false) in
    rw c.in_ok-push.ensures.items (stands_with_more _ _ _ _ sits next c.self.invariant)

pub returns : goal.returns
returns c =
    let newest : event_of c.args.self.now.frames ≡ Some c.in-Some.frame =
    ap event_of (ap (λ (s : CallStack). s.frames) (sym c.self.view_is)) ∙ newest_has_event (reverse c.self.inside.frames.items) c.self.inside.locals.items ∙ ap (λ ls. newest_of (reverse ls)) (sym c.deref.ensures.value) ∙ (sym c.in-Some.ensures) in
    activated_is _ _ _ _ _ _ c.in_ok-push.ensures.items c.self.invariant
    ∙ ap (activated c.args.event (Through (Some c.in-Some.frame) c.args.statement)) c.self.view_is
    ∙ ap (λ f. activated c.args.event (Through f c.args.statement) c.args.self.now) (sym newest)
