-- The part of a unit whose types are known has its classes.
use Rattle.std.proofs.Common.{◌≡◌, ℕ, List, [], ◌∷◌, ◌++◌, refl, ap, map}
use Rattle.std.specs.Prelude.{position}
use Rattle.std.specs.Str.{bytes_eq}
use Rattle.wy_kernel.specs.Builtin as builtin
use Rattle.wy_syntax.specs.Syntax.{ClassSyntax, Declaration, Declared}
use Rattle.wy_syntax.specs.Syntax as syntax
use Rattle.wy_members.specs.Declarations.{CompilationUnit, written_names, denoted, name_of}
use Rattle.wy_members.specs.Broken.{with_known_members, known_part}

module _ (whole : CompilationUnit) where
  -- this part of it, with known members alone
  abbrev known : CompilationUnit → CompilationUnit
  known unit = map (with_known_members whole) unit

  same_names : (unit : CompilationUnit) → written_names (known unit) ≡ written_names unit
  same_names [] = refl
  same_names (Declared k ∷ rest) = ap (λ ns. k.name.name ∷ ns) (same_names rest)
  same_names (syntax.Declaration.Nothing ∷ rest) = same_names rest
  same_names (syntax.Declaration.Unknown ∷ rest) = same_names rest

pub known_names : (unit : CompilationUnit) → written_names (known_part unit) ≡ written_names unit
known_names unit = same_names unit unit

pub known_denotes : (unit : CompilationUnit) (name : List ℕ) → denoted (known_part unit) name ≡ denoted unit name
unfolding denoted
known_denotes unit name = ap (λ (ns : List (List ℕ)). position (bytes_eq name) (map name_of builtin.classes ++ ns)) (known_names unit)
