use Rattle.std.proofs.Common.{◌∙◌, sym}
use Rattle.wy_kernel.specs.Parts.{program_of}
use Rattle.wy_operation.proofs.Places.{may_below, may_null, may_primitive}
use Rattle.wy_operation.proofs.place.may_store.Goals as goal

pub returns-then-is_null : goal.returns-then-is_null
returns-then-is_null c = sym (may_null _ _ _ _ (sym c.is_null.ensures ∙ c.if-is_null.true))

pub returns-then-is_primitive : goal.returns-then-is_primitive
returns-then-is_primitive c = sym (may_primitive _ _ _ _ (sym c.is_primitive.ensures ∙ c.if-is_primitive.true))

pub returns : goal.returns
returns c =
    let is = may_below (program_of c.args.program.now) c.args.element c.args.found c.args.value (sym c.is_null.ensures ∙ c.if-is_null.false) (sym c.is_primitive.ensures ∙ c.if-is_primitive.false) in
    rw is c.is_below.ensures
