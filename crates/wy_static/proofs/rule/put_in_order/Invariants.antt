use Rattle.std.proofs.Common.{◌≡◌, ◌++◌, drop}
use Rattle.wy_static.proofs.Rules.{ordered}
use Rattle.wy_static.proofs.rule.put_in_order.Given as goal

abbrev pub invariant-loop-part : goal.invariant-loop-part
invariant-loop-part l = l.out.items ++ ordered l.kind l.owner (drop l.part-index l.parts) ≡ l.fn.out.items ++ ordered l.fn.kind l.fn.owner l.parts
