use Rattle.std.proofs.Common.{◌≡◌, ◌-◌, sym, ap, length, arith}
use Rattle.std.proofs.lemmas.List.{length-map}
use Rattle.wy_kernel.specs.Parts.{program_of}
use Rattle.wy_kernel.specs.View.{class_of}
use Rattle.wy_watch.specs.Names.{field_above, field_within}
use Rattle.wy_watch.proofs.Upward.{up_here, up_further, up_none, up_end}
use Rattle.wy_watch.proofs.field.field_above.Goals as goal

pub loop-init : goal.loop-init
loop-init c =
    let p = program_of c.args.program.now in
    let all = c.args.program.now.classes.items in
    let same : length p.classes ≡ length all = length-map all class_of in
    let all_left : length p.classes ≡ length all - 0 = omega (arith, same) in
    ap (λ k. field_within k p c.args.is_static c.args.class c.args.name.now) all_left

pub returns-in-Some-clause-field : goal.returns-in-Some-clause-field
returns-in-Some-clause-field c =
    let p = program_of c.args.program.now in
    let r = field_above p c.args.is_static c.args.class c.args.name.now in
    up_here p c.args.is_static c.args.name.now (length c.args.program.now.classes.items) c.loop.counter c.loop.at c.in-Some.field r
    (omega (arith, c.loop-test.true, c.len-end.ensures)) (sym c.in-Some.ensures.field) c.loop.invariant

pub returns-in_default-above-clause-field : goal.returns-in_default-above-clause-field
returns-in_default-above-clause-field c =
    let p = program_of c.args.program.now in
    let r = field_above p c.args.is_static c.args.class c.args.name.now in
    up_none p c.args.is_static c.args.name.now (length c.args.program.now.classes.items) c.loop.counter c.loop.at r
    (omega (arith, c.loop-test.true, c.len-end.ensures)) (sym c.in_default.ensures.field) (sym c.in_default-above.ensures) c.loop.invariant

pub loop-preserved : goal.loop-preserved
loop-preserved c =
    let p = program_of c.args.program.now in
    let r = field_above p c.args.is_static c.args.class c.args.name.now in
    up_further p c.args.is_static c.args.name.now (length c.args.program.now.classes.items) c.loop.counter c.loop.at c.in-Some-above.next r
    (omega (arith, c.loop-test.true, c.len-end.ensures)) (sym c.in_default.ensures.field) (sym c.in-Some-above.ensures) c.loop.invariant

pub returns-clause-field : goal.returns-clause-field
returns-clause-field c =
    let p = program_of c.args.program.now in
    let r = field_above p c.args.is_static c.args.class c.args.name.now in
    up_end p c.args.is_static c.args.name.now (length c.args.program.now.classes.items) c.loop.counter c.loop.at r
    (omega (arith, c.loop-test.false, c.len-end.ensures)) c.loop.invariant
