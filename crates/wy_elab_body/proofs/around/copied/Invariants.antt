use Rattle.std.proofs.Common.{◌≡◌, take, map}
use Rattle.wy_elab_body.specs.Views.{label_of}
use Rattle.wy_elab_body.proofs.around.copied.Given as goal

abbrev pub invariant-loop-label : goal.invariant-loop-label
invariant-loop-label l = map label_of l.all.items ≡ map label_of (take l.label-index l.labels)
