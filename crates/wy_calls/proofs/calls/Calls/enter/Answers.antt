use Rattle.std.proofs.Common.{◌≡◌, ◌∙◌, ap, sym, length, arith, refl}
use Rattle.wy_calls.specs.Calls.{CallStack}
use Rattle.wy_calls.proofs.Frames.{as_many}
use Rattle.wy_calls.proofs.CallStacks.{refused_for_memory}
use Rattle.wy_calls.proofs.calls.Calls.enter.Goals as goal

pub returns-then-len-ge-DEPTH_LIMIT-clause-refused : goal.returns-then-len-ge-DEPTH_LIMIT-clause-refused
returns-then-len-ge-DEPTH_LIMIT-clause-refused c =
    let deep : length c.args.self.now.frames ≡ length c.self.inside.frames.items = ap (λ (s : CallStack). length s.frames) (sym c.self.view_is) ∙ as_many c.self.inside.frames.items c.self.inside.locals.items in
    (omega (arith, deep), refl)

pub returns-then-event-eq-NONE-clause-refused : goal.returns-then-event-eq-NONE-clause-refused
returns-then-event-eq-NONE-clause-refused c =
    let deep : length c.args.self.now.frames ≡ length c.self.inside.frames.items = ap (λ (s : CallStack). length s.frames) (sym c.self.view_is) ∙ as_many c.self.inside.frames.items c.self.inside.locals.items in
    omega (arith, deep)

pub returns-in_err-resize-clause-refused : goal.returns-in_err-resize-clause-refused
returns-in_err-resize-clause-refused c =
    let deep : length c.args.self.now.frames ≡ length c.self.inside.frames.items = ap (λ (s : CallStack). length s.frames) (sym c.self.view_is) ∙ as_many c.self.inside.frames.items c.self.inside.locals.items in
    refused_for_memory _ _ _ c.from_residual.ensures.1 (omega (arith, deep))

pub returns-in_err-push-clause-refused : goal.returns-in_err-push-clause-refused
returns-in_err-push-clause-refused c =
    let deep : length c.args.self.now.frames ≡ length c.self.inside.frames.items = ap (λ (s : CallStack). length s.frames) (sym c.self.view_is) ∙ as_many c.self.inside.frames.items c.self.inside.locals.items in
    refused_for_memory _ _ _ c.from_residual-in_err-push.ensures.1 (omega (arith, deep))

pub returns-clause-room : goal.returns-clause-room
returns-clause-room c =
    let deep : length c.args.self.now.frames ≡ length c.self.inside.frames.items = ap (λ (s : CallStack). length s.frames) (sym c.self.view_is) ∙ as_many c.self.inside.frames.items c.self.inside.locals.items in
    omega (arith, deep)
