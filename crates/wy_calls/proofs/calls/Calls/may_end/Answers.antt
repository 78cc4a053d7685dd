use Rattle.std.proofs.Common.{◌≡◌, ◌∙◌, ap, sym, subst, refl, reverse, take, List, Some, true}
use Rattle.std.specs.List.{All}
use Rattle.wy_calls.specs.declared.parts.Entry.{Entry}
use Rattle.wy_calls.specs.Calls.{MayEnd, event_of}
use Rattle.wy_calls.specs.Layout.{framed, newest_of, outlasts, IsUnder}
use Rattle.wy_calls.proofs.Frames.{newest_has_event}
use Rattle.wy_calls.proofs.CallStacks.{may_end_is, not_true}
use Rattle.wy_calls.proofs.calls.Calls.may_end.Goals as goal

pub returns : goal.returns
returns c is =
    let newest : event_of (framed (reverse c.self.inside.frames.items) c.self.inside.locals.items) ≡ Some c.in-Some.frame =
    newest_has_event (reverse c.self.inside.frames.items) c.self.inside.locals.items ∙ ap (λ ls. newest_of (reverse ls)) (sym c.deref.ensures.value) ∙ sym c.in-Some.ensures in
    let under : IsUnder (reverse c.self.inside.scopes.items) c.outlasting-from.result = rw c.deref-4.ensures.value at (c.is_sealed.ensures (not_true c.is_sealed.result is)) in
    let out : All (λ e. outlasts c.in-Some.frame c.args.statement e ≡ true) (take c.outlasting-from.result c.self.inside.active.items) =
    subst (λ (es : List Entry). All (λ e. outlasts c.in-Some.frame c.args.statement e ≡ true) (take c.outlasting-from.result es)) c.deref-3.ensures.value c.outlasting-from.ensures.outlast in
    subst (MayEnd c.args.statement) c.self.view_is (may_end_is _ _ _ _ _ _ newest under out)
