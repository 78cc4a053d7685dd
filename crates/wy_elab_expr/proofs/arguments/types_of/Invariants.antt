use Rattle.std.proofs.Common.{◌≡◌, ◌++◌, map, drop}
use Rattle.wy_elab_expr.specs.Members.{types_of}
use Rattle.wy_elab_expr.specs.Views.{meaning_of}
use Rattle.wy_elab_expr.proofs.arguments.types_of.Given as goal

abbrev pub invariant-loop-m : goal.invariant-loop-m
invariant-loop-m l = l.types.items ++ types_of (map meaning_of (drop l.m-index l.args)) ≡ types_of (map meaning_of l.args)
