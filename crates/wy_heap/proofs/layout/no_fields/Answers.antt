use Rattle.std.proofs.Common.{◌≡◌, ◌∙◌, ap, arith, replicate, [], List, ℕ}
use Rattle.wy_heap.specs.Layout.{lists_of}
use Rattle.wy_heap.proofs.Owns.{one_more}
use Rattle.wy_heap.proofs.layout.no_fields.Goals as goal

pub loop-init : goal.loop-init
loop-init c = ap lists_of c.in_ok-own.ensures.items

pub loop-preserved : goal.loop-preserved
loop-preserved c = one_more c.loop.own.items c.push.new.self.items c.loop.counter c.new.result c.loop.invariant c.new.ensures.items c.in_ok-push.ensures.items

pub returns : goal.returns
returns c = let all : c.loop.counter ≡ c.args.classes = omega arith in c.loop.invariant ∙ ap (λ n. replicate {A = List ℕ} n []) all
