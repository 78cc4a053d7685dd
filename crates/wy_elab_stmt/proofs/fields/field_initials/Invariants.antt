use Rattle.std.proofs.Common.{◌≡◌, drop, map}
use Rattle.wy_kernel.specs.View.{statement}
use Rattle.wy_syntax.specs.View.{declarator_of, type_seen}
use Rattle.wy_elab_body.specs.Bodies.{field_initials}
use Rattle.wy_elab_body.specs.Making.{each}
use Rattle.wy_elab_body.specs.Statements.{Setting as PlainSetting}
use Rattle.wy_elab_body.specs.Views.{IsSetting, making_of}
use Rattle.wy_elab_stmt.proofs.Appended.{appended, initial_in}
use Rattle.wy_elab_stmt.proofs.fields.field_initials.Given as goal

abbrev pub invariant-loop-d : goal.invariant-loop-d
invariant-loop-d l = (w : PlainSetting) → IsSetting l.setting w →
    appended (map statement l.made.items) (each (initial_in w l.class l.is_static (type_seen l.ty)) (map declarator_of (drop l.d-index l.all)) (making_of l.making l.texts))
    ≡ field_initials w l.class l.is_static (type_seen l.ty) (map declarator_of l.all) (making_of l.making l.initial.texts)
