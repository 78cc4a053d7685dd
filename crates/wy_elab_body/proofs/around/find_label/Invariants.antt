use Rattle.std.proofs.Common.{◌≡◌, drop, find, map}
use Rattle.wy_elab_body.specs.Jumps.{is_labelled}
use Rattle.wy_elab_body.specs.Views.{label_of}
use Rattle.wy_elab_body.proofs.around.find_label.Given as goal

abbrev pub invariant-loop-label : goal.invariant-loop-label
invariant-loop-label l = find (is_labelled l.name) (map label_of l.labels) ≡ find (is_labelled l.name) (map label_of (drop l.label-index l.labels))
