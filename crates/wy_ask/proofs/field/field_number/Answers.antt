use Rattle.std.proofs.Common.{◌∙◌, ◌≡◌, sym, ap, length, arith}
use Rattle.std.proofs.lemmas.List.{length-map}
use Rattle.wy_kernel.specs.Parts.{program_of}
use Rattle.wy_kernel.specs.View.{field_of}
use Rattle.wy_ask.specs.Asked.{field_number, is_meant}
use Rattle.wy_ask.proofs.Fields.{found_field, passed_field}
use Rattle.wy_ask.proofs.field.field_number.Goals as goal

pub returns-then-is_meant-clause-number : goal.returns-then-is_meant-clause-number
returns-then-is_meant-clause-number c =
    let p = program_of c.args.program.now in
    let test = is_meant p c.args.is_static c.args.class.now c.args.name.now in
    let same : length p.fields ≡ length c.args.program.now.fields.items = length-map c.args.program.now.fields.items field_of in
    found_field p test c.loop-n.n (field_number p c.args.is_static c.args.class.now c.args.name.now) (omega (arith, same, c.loop-n-test.true, c.fields-n-end.ensures))
    (ap test (sym c.field.ensures) ∙ sym c.is_meant.ensures ∙ c.if-is_meant.true) c.loop-n.invariant

pub loop-n-preserved : goal.loop-n-preserved
loop-n-preserved c =
    let p = program_of c.args.program.now in
    let test = is_meant p c.args.is_static c.args.class.now c.args.name.now in
    let same : length p.fields ≡ length c.args.program.now.fields.items = length-map c.args.program.now.fields.items field_of in
    passed_field p test c.loop-n.n (field_number p c.args.is_static c.args.class.now c.args.name.now) (omega (arith, same, c.loop-n-test.true, c.fields-n-end.ensures))
    (ap test (sym c.field.ensures) ∙ sym c.is_meant.ensures ∙ c.if-is_meant.false) c.loop-n.invariant
