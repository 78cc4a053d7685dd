-- Kinds that are the same.
use Rattle.std.proofs.Common.{true, ◌≡◌}
use denote.Enum.Bare.{same_true, true_same}
use Rattle.wy_tree.specs.Kinds.{same}
use Rattle.wy_tree.specs.contracts.kind.Kind.{the_type}
use Rattle.wy_tree.specs.declared.kind.Kind.{Kind}

pub same_is : (a b : Kind) → same a b ≡ true → a ≡ b
same_is a b e = same_true the_type tt a b e

pub is_same : (a b : Kind) → a ≡ b → same a b ≡ true
is_same a b e = true_same the_type a b e
