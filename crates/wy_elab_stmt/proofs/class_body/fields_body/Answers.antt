use Rattle.std.proofs.Common.{◌≡◌, subst, List, Option, true}
use Rattle.std.specs.Prelude.{IfOk}
use Rattle.wy_kernel.specs.Program.{Body}
use Rattle.wy_syntax.specs.View.{class_of}
use Rattle.wy_elab_body.specs.Places.{has_fields_unit}
use Rattle.wy_elab_stmt.specs.ClassViews.{growing_of}
use Rattle.wy_elab_body.specs.Views.{bodies_seen}
use Rattle.wy_elab_stmt.proofs.ClassParts.{fields_there}
use Rattle.wy_elab_stmt.proofs.class_body.fields_body.Goals as goal

pub returns-then-has_fields_unit : goal.returns-then-has_fields_unit
returns-then-has_fields_unit c = λ w stale s.
    let there : has_fields_unit (class_of c.args.class.now) ≡ true = cc in
    let given : List (Option Body) → Type 0 = λ z. IfOk c.own_fields.result (λ all. bodies_seen all ≡ z) in
    subst given (fields_there w (class_of c.args.class.now) (growing_of c.args.fields stale) there) (c.own_fields.ensures w stale s)
