-- A program whose classes extend and implement what they may not.
use Rattle.std.proofs.Common.{◌≡◌, ◌≤◌, refl, inl, arith}
use Rattle.std.specs.Prelude.{[], ◌∷◌, Some, codes}
use Rattle.std.specs.Prelude.{None as Absent}
use Rattle.wy_kernel.specs.Builtin as builtin
use Rattle.wy_syntax.specs.declared.declaration.Modifier.TheVariants as modifier
use Rattle.wy_constant.specs.declared.rule.Rule.TheVariants as rule
use Rattle.wy_members.specs.Declarations.{CompilationUnit, table, denoted}
use Rattle.wy_members.specs.Broken.{Breaks, extends_interface, implements_class, extends_final, extends_library}
use Rattle.wy_members.proofs.Written.{at, the, class, interface}
use Rattle.wy_members.proofs.Judged.{judged, not_above}

-- interface I { }
-- final class F { }
-- class A extends I { }
-- class B implements F { }
-- class C extends F { }
-- class D extends String { }
-- interface J extends A { }
abbrev supertypes : CompilationUnit
supertypes =
    interface (codes "I") 1 [] [] 3
    ∷ class (the modifier.Final 4 ∷ []) (codes "F") 6 Absent [] [] 8
    ∷ class [] (codes "A") 10 (Some (at (codes "I") 12)) [] [] 14
    ∷ class [] (codes "B") 16 Absent (at (codes "F") 18 ∷ []) [] 20
    ∷ class [] (codes "C") 22 (Some (at (codes "F") 24)) [] [] 26
    ∷ class [] (codes "D") 28 (Some (at (codes "String") 30)) [] [] 32
    ∷ interface (codes "J") 34 (at (codes "A") 36 ∷ []) [] 38
    ∷ []

a_class_extends_an_interface : Breaks supertypes rule.BadOverride 10
unfolding table denoted builtin.classes
a_class_extends_an_interface = (20, judged supertypes 20 refl, inl (extends_interface (record { name = at (codes "I") 12; written = (2, omega arith, refl); clause = refl; denotes = refl; found = refl }) refl))

a_class_implements_a_class : Breaks supertypes rule.BadOverride 16
unfolding table denoted builtin.classes
a_class_implements_a_class = (21, judged supertypes 21 refl, inl (implements_class (record { name = at (codes "F") 18; written = (3, omega arith, refl); clause = (0, omega arith, refl); denotes = refl; found = refl }) refl))

a_class_extends_a_final_class : Breaks supertypes rule.BadOverride 22
unfolding table denoted builtin.classes
a_class_extends_a_final_class = (22, judged supertypes 22 refl, inl (extends_final (record { name = at (codes "F") 24; written = (4, omega arith, refl); clause = refl; denotes = refl; found = refl }) refl))

a_class_extends_the_class_of_texts : Breaks supertypes rule.BadOverride 28
unfolding table denoted builtin.classes
a_class_extends_the_class_of_texts = (
  23,
  judged supertypes 23 refl,
  inl (extends_library (record { name = at (codes "String") 30; written = (5, omega arith, refl); clause = refl; denotes = refl; found = refl }) (omega arith) (λ e. (let f : 1 ≡ 0 = e in omega arith)) (λ s. (let le : 2 ≤ 1 = not_above (table supertypes).classes refl s in omega arith))),
)

an_interface_extends_a_class : Breaks supertypes rule.BadOverride 34
unfolding table denoted builtin.classes
an_interface_extends_a_class = (24, judged supertypes 24 refl, inl (implements_class (record { name = at (codes "A") 36; written = (6, omega arith, refl); clause = (0, omega arith, refl); denotes = refl; found = refl }) refl))
