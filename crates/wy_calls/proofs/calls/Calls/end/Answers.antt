use Rattle.std.proofs.Common.{◌≡◌, ◌∙◌, ap, sym, subst, reverse, take, List, Some, true}
use Rattle.std.specs.List.{All}
use Rattle.wy_calls.specs.declared.parts.Entry.{Entry}
use Rattle.wy_calls.specs.Calls.{MayEnd, ended, event_of}
use Rattle.wy_calls.specs.Layout.{framed, newest_of, outlasts}
use Rattle.wy_calls.proofs.Entries.{filter_keeps}
use Rattle.wy_calls.proofs.Frames.{newest_has_event}
use Rattle.wy_calls.proofs.CallStacks.{ended_is, scopes_after_end, stands_after_end}
use Rattle.wy_calls.proofs.calls.Calls.end.Goals as goal

pub end-requires-clause-below : goal.end-requires-clause-below
end-requires-clause-below c =
    let out : All (λ e. outlasts c.in-Some.frame c.args.statement e ≡ true) (take c.outlasting-from.result c.self.inside.active.items) =
    subst (λ (es : List Entry). All (λ e. outlasts c.in-Some.frame c.args.statement e ≡ true) (take c.outlasting-from.result es)) c.deref-3.ensures.value c.outlasting-from.ensures.outlast in
    filter_keeps (outlasts c.in-Some.frame c.args.statement) (take c.outlasting-from.result c.self.inside.active.items) out

pub invariant_of-self : goal.invariant_of-self
invariant_of-self c =
    let newest : event_of (framed (reverse c.self.inside.frames.items) c.self.inside.locals.items) ≡ Some c.in-Some.frame =
    newest_has_event (reverse c.self.inside.frames.items) c.self.inside.locals.items ∙ ap (λ ls. newest_of (reverse ls)) (sym c.deref.ensures.value) ∙ sym c.in-Some.ensures in
    stands_after_end _ _ _ _ _ _ c.self.invariant newest (subst (MayEnd c.args.statement) (sym c.self.view_is) c.requires) _ _ c.end.ensures c.close.ensures

pub returns : goal.returns
returns c =
    let newest : event_of (framed (reverse c.self.inside.frames.items) c.self.inside.locals.items) ≡ Some c.in-Some.frame =
    newest_has_event (reverse c.self.inside.frames.items) c.self.inside.locals.items ∙ ap (λ ls. newest_of (reverse ls)) (sym c.deref.ensures.value) ∙ sym c.in-Some.ensures in
    ended_is _ (reverse c.self.inside.begun.items) _ _ _ c.in-Some.frame c.args.statement c.end.ensures newest (scopes_after_end _ _ _ _ _ _ c.self.invariant newest (subst (MayEnd c.args.statement) (sym c.self.view_is) c.requires))
    ∙ ap (ended c.args.statement) c.self.view_is
