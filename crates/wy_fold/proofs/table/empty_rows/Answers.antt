use Rattle.std.proofs.Common.{◌≡◌, ◌∙◌, ap, arith, replicate, [], List, ℕ}
use Rattle.wy_fold.specs.Groups.{lists_of}
use Rattle.wy_fold.proofs.Tables.{one_more_row}
use Rattle.wy_fold.proofs.table.empty_rows.Goals as goal

pub loop-init : goal.loop-init
loop-init c = ap lists_of c.in_ok-rows.ensures.items

pub loop-preserved : goal.loop-preserved
loop-preserved c = one_more_row c.loop.rows.items c.push.new.self.items c.loop.counter c.new.result c.loop.invariant c.new.ensures.items c.in_ok-push.ensures.items

pub returns : goal.returns
returns c = let all : c.loop.counter ≡ c.args.many = omega arith in c.loop.invariant ∙ ap (λ n. replicate {A = List ℕ} n []) all
