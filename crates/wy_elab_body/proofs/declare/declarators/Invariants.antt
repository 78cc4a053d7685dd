use Rattle.std.proofs.Common.{◌≡◌, drop, map}
use Rattle.wy_kernel.specs.View.{statement}
use Rattle.wy_syntax.specs.View.{declarator_of}
use Rattle.wy_elab_body.specs.Making.{behind, each}
use Rattle.wy_elab_body.specs.Statements.{Setting as PlainSetting, declarator}
use Rattle.wy_elab_body.specs.Views.{IsSetting, making_of}
use Rattle.wy_elab_body.proofs.declare.declarators.Given as goal

abbrev pub invariant-loop-d : goal.invariant-loop-d
invariant-loop-d l = (w : PlainSetting) → IsSetting l.setting w →
    behind (map statement l.made.items) (each (declarator w l.is_final l.ty) (map declarator_of (drop l.d-index l.all)) (making_of l.making l.texts))
    ≡ each (declarator w l.is_final l.ty) (map declarator_of l.all) (making_of l.initial.making l.initial.texts)
