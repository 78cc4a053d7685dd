use Rattle.std.proofs.Common.{◌≡◌, drop, map}
use Rattle.wy_kernel.specs.View.{statement}
use Rattle.wy_syntax.specs.View.{effect_of}
use Rattle.wy_elab_body.specs.Making.{behind, each}
use Rattle.wy_elab_body.specs.Statements.{Setting as PlainSetting, effect}
use Rattle.wy_elab_body.specs.Views.{IsSetting, making_of}
use Rattle.wy_elab_body.proofs.declare.effects.Given as goal

abbrev pub invariant-loop-e : goal.invariant-loop-e
invariant-loop-e l = (w : PlainSetting) → IsSetting l.setting w →
    behind (map statement l.made.items) (each (effect w) (map effect_of (drop l.e-index l.all)) (making_of l.making l.texts))
    ≡ each (effect w) (map effect_of l.all) (making_of l.initial.making l.initial.texts)
