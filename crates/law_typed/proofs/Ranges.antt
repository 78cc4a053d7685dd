-- The type of an expression names a class of the program, if it names one.
use Rattle.std.proofs.Common.{ℕ, ◌<◌, ◌≤◌, ap, List, length, Option, arith}
use Rattle.std.specs.List.{All}
use Rattle.wy_kernel.specs.declared.types.Base.{Base}
use Rattle.wy_kernel.specs.declared.types.Ty.{Ty}
use Rattle.wy_kernel.specs.declared.types.Ty.TheVariants.{Of}
use Rattle.wy_kernel.specs.Form.{Expression}
use Rattle.wy_kernel.specs.Program.{Program, string_class}
use Rattle.wy_kernel.specs.Subtyping.{class_type, Supertype, itself, further, Below, IsReference}
use Rattle.wy_kernel.specs.Table.{IsTable, IsTypeOf, ConstantValue}
use Rattle.wy_overloads.proofs.Straight.{Straight, equal, upward, widening, null, object, array, straight}
use Rattle.wy_typing.specs.Expressions.{HasType}
use Rattle.wy_typing.specs.Programs.{IsTypeIn}
use Rattle.wy_typing.proofs.Ranges as ranges
use Rattle.law_typed.specs.ExpressionsTyped.{table_of}
use Rattle.law_typed.proofs.Bringing.{top_of}

module _ (p : Program) (constants : List (Option ConstantValue)) (is : IsTable (table_of p constants)) where
  pub many_classes : 18 ≤ length p.classes
  many_classes = omega (arith, ranges.library_many is.library_classes.0, ap length is.library_classes.1)

  abbrev pub Known : Ty → Type 0
  Known ty = IsTypeOf (length p.classes) ty

  pub array_of_known : (base : Base) (m n : ℕ) → Known (Of base m) → Known (Of base n)
  array_of_known base m n h = ranges.array_known (length p.classes) base m n h

  pub text_known : Known (class_type string_class)
  text_known = omega (arith, many_classes)

  -- a type above a reference type of the program
  straight_known : {a b : Ty} → IsReference a → Known a → Straight p.classes a b → Known b
  straight_known r h equal = h
  straight_known r h (upward s) = upward_known s h
    where
      upward_known : {c d : ℕ} → Supertype p.classes c d → c < length p.classes → d < length p.classes
      upward_known itself lt = lt
      upward_known (further {c} {d} contained s) lt = upward_known s (is.supertypes_in_range c d contained)
  straight_known r h (widening w) = tt
  straight_known r h (null n) = absurd r
  straight_known r h object = omega (arith, many_classes)
  straight_known r h (array lt) = omega (arith, many_classes)

  pub above_known : (a b : Ty) → IsReference a → Known a → Below p.classes a b → Known b
  above_known a b r h le = straight_known r h (straight p.classes (top_of (table_of p constants) is) le)

  pub type_known : (locals : List Ty) → All (IsTypeIn p) locals → {e : Expression} {ty : Ty} → HasType p locals e ty → Known ty
  type_known locals known h = ranges.type_known p many_classes is.methods_in_range is.fields_in_range locals known h
