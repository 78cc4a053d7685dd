-- Members in memory as contracts see them, and types whose classes are known.
use Rattle.std.specs.Prelude.{Bool, true, List, Option, Some, None, map, is_some}
use Rattle.std.specs.Borrow.{Bor}
use Rattle.wy_syntax.specs.declared.declaration.Member as memory
use Rattle.wy_syntax.specs.View.{member_of}
use Rattle.wy_syntax.specs.Syntax.{WrittenType, Member, ClassSyntax}
use Rattle.wy_syntax.specs.Syntax as syntax
use Rattle.wy_members.specs.Declarations.{CompilationUnit, denoted}

abbrev pub members_seen : List (Bor memory.Member) → List Member
members_seen members = map (λ (m : Bor memory.Member). member_of m.now) members

-- a class with these members in place of its own
abbrev pub with_members : ClassSyntax → List Member → ClassSyntax
with_members k members = record k { members = members }

abbrev pub is_known_base : CompilationUnit → syntax.Base → Bool
is_known_base unit (syntax.Basic p) = true
is_known_base unit (syntax.Class name) = is_some (denoted unit name)

-- the type names no class that is not declared
abbrev pub is_known_type : CompilationUnit → WrittenType → Bool
is_known_type unit ty = is_known_base unit ty.base

abbrev pub is_known_result : CompilationUnit → Option WrittenType → Bool
is_known_result unit None = true
is_known_result unit (Some ty) = is_known_type unit ty
