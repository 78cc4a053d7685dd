-- A program that breaks Duplicate in each way.
use Rattle.std.proofs.Common.{refl, arith}
use Rattle.std.specs.Prelude.{[], ◌∷◌, Some, codes}
use Rattle.std.specs.Prelude.{None as Absent}
use Rattle.wy_kernel.specs.Builtin as builtin
use Rattle.wy_syntax.specs.declared.declaration.Modifier.TheVariants as modifier
use Rattle.wy_syntax.specs.Syntax.{Fields, Method}
use Rattle.wy_constant.specs.declared.rule.Rule.TheVariants as rule
use Rattle.wy_members.specs.Declarations.{CompilationUnit, table, denoted}
use Rattle.wy_members.specs.Broken.{Breaks, again_class, reserved, again_field, again_method, again_parameter, again_modifier}
use Rattle.wy_members.proofs.Written.{int_type, long_type, the, parameter, declarator, header, empty, constructor, class, interface}

-- class Math { }
-- interface Error { }
-- class A {
--   int x;
--   static static long x;
--   A(int n) { }
--   A(int n) { }
--   void f(int p, long p) { }
--   int f(int p, long q) { }
-- }
-- class A { }
abbrev repeated : CompilationUnit
repeated =
    class [] (codes "Math") 1 Absent [] [] 3
    ∷ interface (codes "Error") 5 [] [] 7
    ∷ class [] (codes "A") 9 Absent [] (
    Fields [] (int_type 11) (declarator (codes "x") 12 ∷ [])
    ∷ Fields (the modifier.Static 14 ∷ the modifier.Static 15 ∷ []) (long_type 16) (declarator (codes "x") 17 ∷ [])
    ∷ constructor [] (codes "A") 19 (parameter (int_type 21) (codes "n") 22 ∷ []) 24
    ∷ constructor [] (codes "A") 26 (parameter (int_type 28) (codes "n") 29 ∷ []) 31
    ∷ Method (header [] (codes "f") 34 (parameter (int_type 36) (codes "p") 37 ∷ parameter (long_type 39) (codes "p") 40 ∷ [])) Absent (empty 42)
    ∷ Method (header [] (codes "f") 45 (parameter (int_type 47) (codes "p") 48 ∷ parameter (long_type 50) (codes "q") 51 ∷ [])) (Some (int_type 44)) (empty 53)
    ∷ []) 55
    ∷ class [] (codes "A") 57 Absent [] [] 59
    ∷ []

a_name_that_is_reserved : Breaks repeated rule.Duplicate 1
a_name_that_is_reserved = reserved (0, omega arith, refl) (3, omega arith, refl)

a_class_of_the_library : Breaks repeated rule.Duplicate 5
unfolding table denoted builtin.classes
a_class_of_the_library = again_class (4, 19, omega arith, refl, refl) refl

a_second_modifier : Breaks repeated rule.Duplicate 15
a_second_modifier = again_modifier (2, omega arith, refl) (2, omega arith, refl) (0, 1, omega arith, refl, refl) refl

a_second_field : Breaks repeated rule.Duplicate 17
unfolding table denoted builtin.classes builtin.fields
a_second_field = again_field (1, 2, omega arith, refl, refl) refl refl

a_second_constructor : Breaks repeated rule.Duplicate 26
unfolding table denoted builtin.classes builtin.methods builtin.first_methods
a_second_constructor = again_method (37, 38, omega arith, refl, refl) refl refl refl

a_second_parameter : Breaks repeated rule.Duplicate 40
a_second_parameter = again_parameter (record { written = (2, omega arith, refl); member = (4, omega arith, refl) }) refl (0, 1, omega arith, refl, refl) refl

a_second_method : Breaks repeated rule.Duplicate 45
unfolding table denoted builtin.classes builtin.methods builtin.first_methods
a_second_method = again_method (39, 40, omega arith, refl, refl) refl refl refl

a_second_class : Breaks repeated rule.Duplicate 57
unfolding table denoted builtin.classes
a_second_class = again_class (20, 21, omega arith, refl, refl) refl
