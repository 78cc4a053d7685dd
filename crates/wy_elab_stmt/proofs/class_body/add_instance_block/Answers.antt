use Rattle.std.proofs.Common.{ap}
use Rattle.std.proofs.lemmas.Result.{err_from_is_err_and}
use Rattle.wy_syntax.specs.View.{block_of, class_of}
use Rattle.wy_elab_body.specs.declared.place.Role.TheVariants.{FieldsBody}
use Rattle.wy_elab_body.specs.Bodies.{initializer_block}
use Rattle.wy_elab_stmt.specs.ClassViews.{at_rest, growth_of}
use Rattle.wy_elab_stmt.proofs.ClassParts.{in_fields_made, in_fields_refused}
use Rattle.wy_elab_stmt.proofs.class_body.add_instance_block.Goals as goal

pub returns-in_err-add_block : goal.returns-in_err-add_block
returns-in_err-add_block c = λ w first second s.
    let p = err_from_is_err_and c.from_residual.result c.from_residual.ensures.1 in
    rw (p.1, p.2) (in_fields_refused (growth_of c.args.growth.now first second) (initializer_block w (class_of c.args.class.now) FieldsBody (block_of c.args.b.now)) c.args.texts.now _ (c.in_err-add_block.ensures w second s))

pub returns : goal.returns
returns c = λ w first second s. ap at_rest (in_fields_made (growth_of c.args.growth.now first second) (initializer_block w (class_of c.args.class.now) FieldsBody (block_of c.args.b.now)) _ c.args.texts.now _ (c.in_ok-add_block.ensures w second s))
