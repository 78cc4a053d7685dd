use Rattle.std.proofs.Common.{◌≡◌, drop, map}
use Rattle.wy_syntax.specs.View.{parameter_of}
use Rattle.wy_elab_body.specs.Bodies.{parameters}
use Rattle.wy_elab_body.specs.Statements.{Setting as PlainSetting}
use Rattle.wy_elab_body.specs.Views.{IsSetting, making_of}
use Rattle.wy_elab_body.proofs.body.parameters.Given as goal

abbrev pub invariant-loop-p : goal.invariant-loop-p
invariant-loop-p l = (w : PlainSetting) → IsSetting l.setting w →
    parameters w (map parameter_of (drop l.p-index l.all)) (making_of l.making l.texts)
    ≡ parameters w (map parameter_of l.all) (making_of l.initial.making l.initial.texts)
