use Rattle.std.proofs.Common.{sym, ◌∙◌}
use Rattle.wy_static.proofs.Called.{adds_nothing, adds_none, adds_one}
use Rattle.wy_static.proofs.links.keep_called.Goals as goal

pub returns-in_default : goal.returns-in_default
returns-in_default c = adds_nothing c.args.targets.now c.args.link.now (sym c.called.ensures ∙ c.in_default.is)

pub returns-then-is_last : goal.returns-then-is_last
returns-then-is_last c = adds_none c.args.targets.now c.args.link.now c.in-Some.method (sym c.in-Some.ensures) (c.is_last.ensures.0 c.if-is_last.true)

pub returns : goal.returns
returns c = adds_one c.args.targets.now c.keep.new.rows c.args.link.now c.in-Some.method (sym c.in-Some.ensures) (λ last. let e = c.is_last.ensures.1 last in let f = c.if-is_last.false in cc) c.in_ok-keep.ensures
