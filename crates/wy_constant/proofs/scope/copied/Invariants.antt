use Rattle.std.proofs.Common.{◌≡◌, ◌++◌, length, map, drop}
use Rattle.wy_constant.specs.Scopes.{text_of}
use Rattle.wy_constant.proofs.scope.copied.Given as goal

abbrev pub invariant-loop-text : goal.invariant-loop-text
invariant-loop-text l = (map text_of l.all.items ++ map text_of (drop l.text-index l.list) ≡ map text_of l.list) × (length l.all.items ≡ l.text-index)
