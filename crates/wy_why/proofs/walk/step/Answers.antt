-- A marked event is visited, and one that isn't is passed by.
use Rattle.std.proofs.Common.{true, false, arith}
use Rattle.wy_why.specs.declared.mark.Mark.TheVariants.{Out, In, Flow}
use Rattle.wy_why.proofs.Walking.{down_visited, down_passed, then_so, mark_at}
use Rattle.wy_why.proofs.walk.step.Goals as goal

pub returns-in-Out-clause-down : goal.returns-in-Out-clause-down
returns-in-Out-clause-down g c = λ start first n down.
    let mark = mark_at c.args.walk.now.marks.items c.args.k c.index.result.now Out (omega (arith, c.requires.room)) c.index.ensures c.in-Out.is in
    down_passed c.args.index.now start (g.V.EventView.tells c.args.view.now) first c.args.steps.now n c.args.k c.args.walk.now down (omega (arith, down.room, c.requires.room)) (mark true) (mark false)

pub returns-in-In-clause-down : goal.returns-in-In-clause-down
returns-in-In-clause-down g c = λ start first n down.
    let told = g.V.EventView.tells in
    let mark = mark_at c.args.walk.now.marks.items c.args.k c.index.result.now In (omega (arith, c.requires.room)) c.index.ensures c.in-In.is in
    then_so c.visit.result _ _ (told c.args.view.now) (told c.visit.new.view) c.visit.ensures.visited c.visit.ensures.answers
    (λ visited faults. down_visited c.args.index.now start (told c.args.view.now) (told c.visit.new.view) first c.args.steps.now c.visit.new.steps n c.args.k false c.args.walk.now c.visit.new.walk
    down (omega (arith, down.room, c.requires.room)) visited c.visit.ensures.keeps c.visit.ensures.reads faults c.visit.ensures.forward (mark true) (mark false))

pub returns-in-Flow-clause-down : goal.returns-in-Flow-clause-down
returns-in-Flow-clause-down g c = λ start first n down.
    let told = g.V.EventView.tells in
    let mark = mark_at c.args.walk.now.marks.items c.args.k c.index.result.now Flow (omega (arith, c.requires.room)) c.index.ensures c.in-Flow.is in
    then_so c.visit-in-Flow.result _ _ (told c.args.view.now) (told c.visit-in-Flow.new.view) c.visit-in-Flow.ensures.visited c.visit-in-Flow.ensures.answers
    (λ visited faults. down_visited c.args.index.now start (told c.args.view.now) (told c.visit-in-Flow.new.view) first c.args.steps.now c.visit-in-Flow.new.steps n c.args.k true c.args.walk.now c.visit-in-Flow.new.walk
    down (omega (arith, down.room, c.requires.room)) visited c.visit-in-Flow.ensures.keeps c.visit-in-Flow.ensures.reads faults c.visit-in-Flow.ensures.forward (mark true) (mark false))
