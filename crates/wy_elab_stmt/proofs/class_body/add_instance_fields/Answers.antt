use Rattle.std.proofs.Common.{ap, map, false}
use Rattle.std.proofs.lemmas.Result.{err_from_is_err_and}
use Rattle.wy_syntax.specs.View.{declarator_of, type_seen}
use Rattle.wy_elab_body.specs.Bodies.{field_initials}
use Rattle.wy_elab_stmt.specs.ClassViews.{at_rest, growth_of}
use Rattle.wy_elab_stmt.proofs.ClassParts.{in_fields_made, in_fields_refused}
use Rattle.wy_elab_stmt.proofs.class_body.add_instance_fields.Goals as goal

pub returns-in_err-add_fields : goal.returns-in_err-add_fields
returns-in_err-add_fields c = λ w first second s.
    let p = err_from_is_err_and c.from_residual.result c.from_residual.ensures.1 in
    rw (p.1, p.2) (in_fields_refused (growth_of c.args.growth.now first second) (field_initials w c.args.number false (type_seen c.args.ty.now) (map declarator_of c.args.all.now)) c.args.texts.now _ (c.in_err-add_fields.ensures w second s))

pub returns : goal.returns
returns c = λ w first second s. ap at_rest (in_fields_made (growth_of c.args.growth.now first second) (field_initials w c.args.number false (type_seen c.args.ty.now) (map declarator_of c.args.all.now)) _ c.args.texts.now _ (c.in_ok-add_fields.ensures w second s))
