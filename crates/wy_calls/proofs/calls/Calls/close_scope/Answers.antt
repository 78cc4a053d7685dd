use Rattle.std.proofs.Common.{◌∙◌, ap, sym, reverse}
use Rattle.wy_calls.specs.Calls.{closed}
use Rattle.wy_calls.specs.Layout.{framed}
use Rattle.wy_calls.proofs.Last.{turned}
use Rattle.wy_calls.proofs.CallStacks.{seen, stands_without, stands_closed, closed_is}
use Rattle.wy_calls.proofs.calls.Calls.close_scope.Goals as goal

pub invariant_of-self-then-len-scope : goal.invariant_of-self-then-len-scope
invariant_of-self-then-len-scope c = stands_without _ _ c.in-Some.mark _ (rw (turned _ _ _ c.in-Some.ensures.items) at c.self.invariant)

pub invariant_of-self-2 : goal.invariant_of-self-2
invariant_of-self-2 c = stands_closed _ _ _ c.in-Some.mark _ c.truncate.ensures.items (rw (turned _ _ _ c.in-Some.ensures.items) at c.self.invariant)

pub returns-clause-closed : goal.returns-clause-closed
returns-clause-closed c =
    let is = turned c.self.inside.scopes.items c.in-Some.mark c.pop.new.self.items c.in-Some.ensures.items in
    closed_is _ _ _ _ _ c.in-Some.mark c.truncate.ensures.items (rw is at c.self.invariant)
    ∙ ap (λ ns. closed (seen (framed (reverse c.self.inside.frames.items) c.self.inside.locals.items) c.self.inside.active.items ns)) (sym is) ∙ ap closed c.self.view_is
