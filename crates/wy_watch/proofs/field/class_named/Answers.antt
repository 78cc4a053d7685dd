use Rattle.std.proofs.Common.{◌∙◌, ◌≡◌, sym, ap, length, arith}
use Rattle.std.proofs.lemmas.List.{length-map}
use Rattle.std.specs.Str.{bytes_eq}
use Rattle.wy_kernel.specs.Parts.{program_of}
use Rattle.wy_kernel.specs.View.{class_of}
use Rattle.wy_watch.specs.Names.{class_named}
use Rattle.wy_watch.proofs.Fields.{found_class, passed_class}
use Rattle.wy_watch.proofs.field.class_named.Goals as goal

pub returns-then-eq : goal.returns-then-eq
returns-then-eq c =
    let p = program_of c.args.program.now in
    let same : length p.classes ≡ length c.args.program.now.classes.items = length-map c.args.program.now.classes.items class_of in
    found_class p c.args.name.now c.loop-n.n (class_named p c.args.name.now) (omega (arith, same, c.loop-n-test.true, c.len-n-end.ensures))
    (ap (λ w. bytes_eq w c.args.name.now) (sym c.class_name.ensures) ∙ sym c.eq.ensures ∙ c.if-eq.true) c.loop-n.invariant

pub loop-n-preserved : goal.loop-n-preserved
loop-n-preserved c =
    let p = program_of c.args.program.now in
    let same : length p.classes ≡ length c.args.program.now.classes.items = length-map c.args.program.now.classes.items class_of in
    passed_class p c.args.name.now c.loop-n.n (class_named p c.args.name.now) (omega (arith, same, c.loop-n-test.true, c.len-n-end.ensures))
    (ap (λ w. bytes_eq w c.args.name.now) (sym c.class_name.ensures) ∙ sym c.eq.ensures ∙ c.if-eq.false) c.loop-n.invariant
