use Rattle.std.proofs.Common.{◌≡◌, ◌<◌, ◌∙◌, ◌++◌, ap, arith, length}
use Rattle.std.proofs.lemmas.List.{length-map}
use Rattle.wy_kernel.specs.View.{present}
use Rattle.wy_heap.specs.Layouts.{plan_in}
use Rattle.wy_heap.proofs.Rows.{goes_up, stops_over, stops_past}
use Rattle.wy_heap.proofs.layout.Layouts.fields_up.Goals as goal
use Rattle.wy_heap.proofs.layout.Layouts.fields_up.Goals.{else-loop-test, then-loop-test+then-class-len}

pub loop-preserved : goal.loop-preserved
loop-preserved c =
    let many : length (plan_in c.args.self.now).above ≡ length c.args.self.now.above.items = length-map c.args.self.now.above.items present in
    let below : c.loop.counter < length (plan_in c.args.self.now).above = omega (arith, many, c.loop-test.true, c.len-end.ensures, c.args.self.now.above.ok) in
    let inside : c.loop.class < length c.args.self.now.above.items = omega (arith, c.if-class-len.false, c.len.ensures, c.args.self.now.above.ok) in
    goes_up c.args.self.now c.loop.row.items c.extend_from_slice.new.self.items _ (length (plan_in c.args.self.now).above) c.loop.counter c.loop.class c.index-class.result.now c.index.result.now c.loop.invariant below (c.in_ok-extend_from_slice.ensures.items ∙ ap (λ xs. c.loop.row.items ++ xs) c.deref.ensures.value) inside c.index.ensures c.index-class.ensures

pub returns : goal.returns
returns c =
    let many : length (plan_in c.args.self.now).above ≡ length c.args.self.now.above.items = length-map c.args.self.now.above.items present in
    elim c.loop-test.branch [
      | else-loop-test w ↦ stops_over c.args.self.now c.loop.row.items _ (length (plan_in c.args.self.now).above) c.loop.counter c.loop.class c.loop.invariant (omega (arith, many, w.loop-test.false, c.len-end.ensures, c.args.self.now.above.ok))
      | then-loop-test+then-class-len w ↦ stops_past c.args.self.now c.loop.row.items _ _ c.loop.class c.loop.invariant (omega (arith, w.if-class-len.true, w.len.ensures, c.args.self.now.above.ok))
    ]
