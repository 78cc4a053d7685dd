-- What is found in memory is what breaks the rules of the unit that it was read from.
use Rattle.std.proofs.Common.{◌≡◌, ℕ, List, Option, subst}
use Rattle.wy_kernel.specs.Program.{Class, Method, Field}
use Rattle.wy_kernel.specs.Table.{Table}
use Rattle.wy_syntax.specs.Syntax.{ClassSyntax}
use Rattle.wy_constant.specs.declared.rule.Rule.TheVariants as rule
use Rattle.wy_members.specs.Least.{IsLeast, Among}
use Rattle.wy_members.specs.Within.{CycleAt, UnknownInClass, RepeatsIn, BadOverridesIn, NotImplementedsIn, DeclaresAt, LeavesAt, WrongBodyAt}
use Rattle.wy_members.specs.Least.{Either}
use Rattle.wy_members.specs.Declarations.{CompilationUnit, classes_of, table}
use Rattle.wy_members.specs.Broken.{Breaks, compared, known_part}
use Rattle.wy_members.proofs.Leasts.{like}
use Rattle.wy_members.proofs.Duplicates.{duplicate_least}
use Rattle.wy_members.proofs.Unknowns.{unknown_least}
use Rattle.wy_members.proofs.Overrides.{Cycles, cycle_of_parts, cycle_in_parts, BadOverrides, override_of_parts, override_in_parts, NotImplementeds, implemented_of_parts, implemented_in_parts}

module _ (unit : CompilationUnit) (r : Option ℕ) where
  pub duplicates : (cs : List Class) (fs : List Field) (ms : List Method) (ks : List ClassSyntax) → cs ≡ (table unit).classes → fs ≡ (table unit).fields → ms ≡ (table (known_part unit)).methods → ks ≡ classes_of unit →
      IsLeast (RepeatsIn cs fs ms ks) r → IsLeast (Breaks unit rule.Duplicate) r
  duplicates cs fs ms ks a b c d h =
      duplicate_least unit r
      (subst (λ (x : List Class). IsLeast (RepeatsIn x (table unit).fields (table (known_part unit)).methods (classes_of unit)) r) a
      (subst (λ (x : List Field). IsLeast (RepeatsIn cs x (table (known_part unit)).methods (classes_of unit)) r) b
      (subst (λ (x : List Method). IsLeast (RepeatsIn cs fs x (classes_of unit)) r) c
      (subst (λ (x : List ClassSyntax). IsLeast (RepeatsIn cs fs ms x) r) d h))))

  pub unknowns : (ks : List ClassSyntax) → ks ≡ classes_of unit → IsLeast (Among ks (λ i k. UnknownInClass unit k)) r → IsLeast (Breaks unit rule.UnknownName) r
  unknowns ks d h = unknown_least unit r (subst (λ (x : List ClassSyntax). IsLeast (Among x (λ i k. UnknownInClass unit k)) r) d h)

  pub cycles : (cs : List Class) → cs ≡ (table unit).classes → IsLeast (Among cs (CycleAt cs)) r → IsLeast (Breaks unit rule.Cycle) r
  cycles cs a h = like (Cycles unit) (Breaks unit rule.Cycle) r (cycle_of_parts unit) (cycle_in_parts unit) (subst (λ (x : List Class). IsLeast (Among x (CycleAt x)) r) a h)

  pub overrides : (cs : List Class) (lower : Table) (ks : List ClassSyntax) → cs ≡ (table unit).classes → lower ≡ compared unit → ks ≡ classes_of unit → IsLeast (BadOverridesIn unit cs lower ks) r → IsLeast (Breaks unit rule.BadOverride) r
  overrides cs lower ks a b d h =
      like (BadOverrides unit) (Breaks unit rule.BadOverride) r (override_of_parts unit) (override_in_parts unit)
      (subst (λ (x : List Class). IsLeast (BadOverridesIn unit x (compared unit) (classes_of unit)) r) a
      (subst (λ (x : Table). IsLeast (BadOverridesIn unit cs x (classes_of unit)) r) b
      (subst (λ (x : List ClassSyntax). IsLeast (BadOverridesIn unit cs lower x) r) d h)))

  -- of these classes and methods, and what is compared
  abbrev Unimplemented : List Class → List Method → Table → List ClassSyntax → ℕ → Type 0
  Unimplemented cs ms lower ks = Either (Among ms (DeclaresAt cs)) (Either (Among lower.classes (LeavesAt cs lower)) (Among ks (WrongBodyAt cs)))

  pub implementations : (judged lower : Table) (ks : List ClassSyntax) → judged.classes ≡ (table unit).classes → judged.methods ≡ (table unit).methods → lower ≡ compared unit → ks ≡ classes_of unit →
      IsLeast (NotImplementedsIn judged lower ks) r → IsLeast (Breaks unit rule.NotImplemented) r
  implementations judged lower ks a m b d h =
      like (NotImplementeds unit) (Breaks unit rule.NotImplemented) r (implemented_of_parts unit) (implemented_in_parts unit)
      (subst (λ (x : List Class). IsLeast (Unimplemented x (table unit).methods (compared unit) (classes_of unit)) r) a
      (subst (λ (x : List Method). IsLeast (Unimplemented judged.classes x (compared unit) (classes_of unit)) r) m
      (subst (λ (x : Table). IsLeast (Unimplemented judged.classes judged.methods x (classes_of unit)) r) b
      (subst (λ (x : List ClassSyntax). IsLeast (Unimplemented judged.classes judged.methods lower x) r) d h))))
