-- How many tokens declarations take at least.
use Rattle.std.proofs.Common.{ℕ, ◌+◌, List, [], ◌∷◌, length}
use Rattle.wy_syntax.specs.Syntax.{Member, ClassSyntax}
use Rattle.wy_syntax.specs.Syntax as syntax

-- a member takes one, and fields one more for each
abbrev pub member_weight : Member → ℕ
member_weight (syntax.Fields ms ty all) = 1 + length all
member_weight _ = 1

abbrev pub members_weight : List Member → ℕ
members_weight [] = 0
members_weight (m ∷ ms) = member_weight m + members_weight ms

-- a class takes its word and its name besides
abbrev pub class_weight : ClassSyntax → ℕ
class_weight k = 2 + members_weight k.members

abbrev pub classes_weight : List ClassSyntax → ℕ
classes_weight [] = 0
classes_weight (k ∷ ks) = class_weight k + classes_weight ks
