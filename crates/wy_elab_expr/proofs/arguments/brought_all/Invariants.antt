use Rattle.std.proofs.Common.{◌≡◌, map, drop, reverse}
use Rattle.wy_kernel.specs.View.{expression}
use Rattle.wy_elab_expr.specs.Members.{brought_all}
use Rattle.wy_elab_expr.specs.Views.{behind, meaning_of}
use Rattle.wy_elab_expr.proofs.arguments.brought_all.Given as goal

abbrev pub invariant-loop-to : goal.invariant-loop-to
invariant-loop-to l =
    behind (map expression l.forms.items) (brought_all (drop l.to-index l.params) (map meaning_of (reverse l.waiting.items)) l.texts)
    ≡ behind (map expression l.initial.forms.items) (brought_all l.params (map meaning_of (reverse l.initial.waiting.items)) l.initial.texts)
