-- A member is known where each type that it names is.
use Rattle.std.proofs.Common.{◌≡◌, Bool, true, false, ◌&&◌, List, [], ◌∷◌, ◌++◌, Option, Some, refl, sym, ◌∙◌, ap, map}
use Rattle.std.specs.Prelude.{None as Absent}
use Rattle.std.specs.Prelude.{is_some, option_to_list}
use Rattle.std.specs.List.{list_all}
use Rattle.wy_syntax.specs.Syntax.{Named, WrittenType, Parameter}
use Rattle.wy_syntax.specs.Syntax as syntax
use Rattle.wy_members.specs.Declarations.{CompilationUnit, denoted}
use Rattle.wy_members.specs.Broken.{named_by, named_in_types}
use Rattle.wy_members.specs.Known.{is_known_base, is_known_type, is_known_result}

module _ (unit : CompilationUnit) where
  abbrev are_denoted : List Named → Bool
  are_denoted named = list_all (λ (n : Named). is_some (denoted unit n.name)) named

  of_first : (ty : WrittenType) (b : syntax.Base) (rest : List Named) → are_denoted (named_by b ty.token ++ rest) ≡ (is_known_base unit b && are_denoted rest)
  of_first ty (syntax.Basic p) rest = refl
  of_first ty (syntax.Class name) rest = refl

  pub of_types : (types : List WrittenType) → are_denoted (named_in_types types) ≡ list_all (is_known_type unit) types
  of_types [] = refl
  of_types (ty ∷ rest) = of_first ty ty.base (named_in_types rest) ∙ ap (λ b. is_known_type unit ty && b) (of_types rest)

  abbrev pub are_known_parameters : List Parameter → Bool
  are_known_parameters params = list_all (λ (p : Parameter). is_known_type unit p.ty) params

  of_written : (params : List Parameter) → list_all (is_known_type unit) (map (λ (p : Parameter). p.ty) params) ≡ are_known_parameters params
  of_written [] = refl
  of_written (p ∷ rest) = ap (λ b. is_known_type unit p.ty && b) (of_written rest)

  pub of_parameters : (params : List Parameter) → are_denoted (named_in_types (map (λ (p : Parameter). p.ty) params)) ≡ are_known_parameters params
  of_parameters params = of_types (map (λ (p : Parameter). p.ty) params) ∙ of_written params

  pub of_method : (result : Option WrittenType) (params : List Parameter) → are_denoted (named_in_types (option_to_list result ++ map (λ (p : Parameter). p.ty) params)) ≡ (is_known_result unit result && are_known_parameters params)
  of_method Absent params = of_parameters params
  of_method (Some ty) params = of_types (ty ∷ map (λ (p : Parameter). p.ty) params) ∙ ap (λ b. is_known_type unit ty && b) (of_written params)

  and_true : (b : Bool) → (b && true) ≡ b
  and_true true = refl
  and_true false = refl

  pub of_one : (ty : WrittenType) → are_denoted (named_in_types (ty ∷ [])) ≡ is_known_type unit ty
  of_one ty = of_types (ty ∷ []) ∙ and_true (is_known_type unit ty)

  pub with_known_result : (result : Option WrittenType) (params : List Parameter) → is_known_result unit result ≡ true → are_known_parameters params ≡ are_denoted (named_in_types (option_to_list result ++ map (λ (p : Parameter). p.ty) params))
  with_known_result result params e = sym (of_method result params ∙ ap (λ b. b && are_known_parameters params) e)
