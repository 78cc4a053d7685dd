use Rattle.std.proofs.Common.{◌∙◌, ◌≡◌, sym, ap, length, arith}
use Rattle.std.proofs.lemmas.List.{length-map}
use Rattle.wy_kernel.specs.Parts.{program_of}
use Rattle.wy_kernel.specs.View.{field_of}
use Rattle.wy_watch.specs.Names.{declared_field, is_meant}
use Rattle.wy_watch.proofs.Fields.{found_field, passed_field}
use Rattle.wy_watch.proofs.field.declared_field.Goals as goal

pub returns-then-is_meant-clause-field : goal.returns-then-is_meant-clause-field
returns-then-is_meant-clause-field c =
    let p = program_of c.args.program.now in
    let test = is_meant c.args.is_static c.args.class c.args.name.now in
    let same : length p.fields ≡ length c.args.program.now.fields.items = length-map c.args.program.now.fields.items field_of in
    found_field p test c.loop-n.n (declared_field p c.args.is_static c.args.class c.args.name.now) (omega (arith, same, c.loop-n-test.true, c.fields-n-end.ensures))
    (ap test (sym c.field.ensures) ∙ sym c.is_meant.ensures ∙ c.if-is_meant.true) c.loop-n.invariant

pub loop-n-preserved : goal.loop-n-preserved
loop-n-preserved c =
    let p = program_of c.args.program.now in
    let test = is_meant c.args.is_static c.args.class c.args.name.now in
    let same : length p.fields ≡ length c.args.program.now.fields.items = length-map c.args.program.now.fields.items field_of in
    passed_field p test c.loop-n.n (declared_field p c.args.is_static c.args.class c.args.name.now) (omega (arith, same, c.loop-n-test.true, c.fields-n-end.ensures))
    (ap test (sym c.field.ensures) ∙ sym c.is_meant.ensures ∙ c.if-is_meant.false) c.loop-n.invariant
