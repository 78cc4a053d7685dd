use Rattle.std.proofs.Common.{◌∙◌, ap, sym, reverse, ◌∷◌}
use Rattle.wy_calls.specs.Layout.{mark_in}
use Rattle.wy_calls.proofs.Last.{turned}
use Rattle.wy_calls.proofs.Entries.{none_is_older}
use Rattle.wy_calls.proofs.entry.mark_of.Goals as goal

pub returns-then-innermost-frame-2 : goal.returns-then-innermost-frame-2
returns-then-innermost-frame-2 c =
    let is = turned c.loop-innermost.begun.now c.in-Some.innermost.now c.in-Some.around.now c.in-Some.ensures.cases.0 in
    sym (none_is_older (c.in-Some.innermost.now ∷ reverse c.in-Some.around.now) c.args.frame c.args.statement c.if-innermost-frame-2.true (rw is at c.loop-innermost.invariant.rises))
    ∙ ap (λ os. mark_in os c.args.frame c.args.statement) (sym is) ∙ c.loop-innermost.invariant.same
