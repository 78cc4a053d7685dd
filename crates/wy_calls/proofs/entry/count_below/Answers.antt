use Rattle.std.proofs.Common.{subst, arith}
use Rattle.std.specs.List.{All}
use Rattle.wy_calls.specs.declared.parts.Entry.{Entry}
use Rattle.wy_calls.specs.Layout.{IsBelow}
use Rattle.wy_calls.proofs.Entries.{all_below, ascends_front, front_of}
use Rattle.wy_calls.proofs.entry.count_below.Goals as goal

pub returns-then-newest-mark-clause-below : goal.returns-then-newest-mark-clause-below
returns-then-newest-mark-clause-below c =
    subst (All (λ (e : Entry). IsBelow e c.args.mark)) c.loop-newest.invariant.front
    (all_below c.loop-newest.entries.now c.in-Some.older.now c.in-Some.newest.now c.args.mark c.in-Some.ensures.cases.0 c.loop-newest.invariant.ascends c.if-newest-mark.true)

pub loop-newest-preserved : goal.loop-newest-preserved
loop-newest-preserved c = record {
  inside = omega (arith, c.in-Some.ensures.cases.1, c.loop-newest.invariant.inside);
  front = front_of c.args.entries.now c.loop-newest.entries.now c.in-Some.older.now c.in-Some.newest.now c.in-Some.ensures.cases.0 c.loop-newest.invariant.front;
  ascends = ascends_front c.loop-newest.entries.now c.in-Some.older.now c.in-Some.newest.now c.in-Some.ensures.cases.0 c.loop-newest.invariant.ascends;
}
