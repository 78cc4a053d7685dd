use Rattle.std.proofs.Common.{refl, sym, ap, ◌∙◌, arith}
use Rattle.wy_kernel.specs.Parts.{program_of}
use Rattle.wy_check.proofs.Histories.{class_at, class_past}
use Rattle.wy_check.proofs.history.owner.Goals as goal

pub returns-then-field-len : goal.returns-then-field-len
returns-then-field-len c =
    let fields = c.args.program.now.fields in
    class_at (program_of c.args.program.now) fields.items c.args.field c.index.result.now refl (omega (arith, c.if-field-len.true, c.len.ensures, fields.ok.0)) c.index.ensures

pub returns-else-field-len : goal.returns-else-field-len
returns-else-field-len c =
    let fields = c.args.program.now.fields in
    class_past (program_of c.args.program.now) fields.items c.args.field refl (omega (arith, c.if-field-len.false, c.len.ensures, fields.ok.0))
