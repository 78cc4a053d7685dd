use Rattle.std.proofs.Common.{◌≡◌, map, length, reverse}
use Rattle.wy_kernel.specs.View.{expression}
use Rattle.wy_elab_expr.specs.Elaboration.{sizes_of}
use Rattle.wy_elab_expr.specs.Views.{behind, meaning_of}
use Rattle.wy_elab_expr.proofs.sizes.sizes_of.Given as goal

abbrev pub invariant-loop-m : goal.invariant-loop-m
invariant-loop-m l =
    behind (map expression l.forms.items) (sizes_of (map meaning_of (reverse l.waiting.items)) l.token l.texts)
    ≡ sizes_of (map meaning_of (reverse l.initial.waiting.items)) l.token l.initial.texts

abbrev pub decreases-loop-m : goal.decreases-loop-m
decreases-loop-m l = length l.waiting.items
