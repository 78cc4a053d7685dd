use Rattle.std.proofs.Common.{subst, reverse, List}
use Rattle.wy_calls.specs.declared.parts.Begun.{Begun}
use Rattle.wy_calls.specs.Layout.{MayBegin}
use Rattle.wy_calls.proofs.Last.{turned}
use Rattle.wy_calls.proofs.CallStacks.{stands_begun}
use Rattle.wy_calls.proofs.calls.Calls.begin.Goals as goal

pub invariant_of-self-2 : goal.invariant_of-self-2
invariant_of-self-2 c =
    let may : MayBegin (reverse c.self.inside.begun.items) c.in-Some.frame c.args.statement =
    subst (λ (bs : List Begun). MayBegin (reverse bs) c.in-Some.frame c.args.statement) c.deref-3.ensures.value (c.may_begin.ensures c.if-not-may_begin.false) in
    rw (turned _ _ _ c.in_ok-push.ensures.items) (stands_begun _ _ _ _ may.1 may.0 c.self.invariant)
