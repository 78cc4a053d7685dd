-- A program that breaks UnknownName in each way, and one that breaks Cycle.
use Rattle.std.proofs.Common.{◌≡◌, ℕ, ap, refl, arith}
use Rattle.std.specs.Prelude.{List, [], ◌∷◌, Some, codes, slice_index_or}
use Rattle.wy_kernel.specs.Builtin as builtin
use Rattle.wy_kernel.specs.Subtyping.{direct_supertypes, itself, further}
use Rattle.wy_syntax.specs.Syntax.{Fields, Method}
use Rattle.wy_constant.specs.declared.rule.Rule.TheVariants as rule
use Rattle.wy_members.specs.Declarations.{CompilationUnit, table, denoted}
use Rattle.wy_members.specs.Broken.{Breaks, unknown_class, unknown_constructor, above_itself}
use Rattle.wy_members.proofs.Written.{at, class_type, parameter, declarator, empty, constructor, class}

-- class A extends B implements C {
--   D x;
--   E f(F p) throws G { }
--   Integer() { }
-- }
abbrev unknown : CompilationUnit
unknown =
    class [] (codes "A") 1 (Some (at (codes "B") 3)) (at (codes "C") 5 ∷ []) (
    Fields [] (class_type (codes "D") 7) (declarator (codes "x") 8 ∷ [])
    ∷ Method (record { modifiers = []; name = at (codes "f") 11; params = parameter (class_type (codes "F") 13) (codes "p") 14 ∷ []; throws = at (codes "G") 17 ∷ [] }) (Some (class_type (codes "E") 10)) (empty 18)
    ∷ constructor [] (codes "Integer") 20 [] 23
    ∷ []) 25
    ∷ []

of_a_superclass : Breaks unknown rule.UnknownName 3
unfolding denoted builtin.classes
of_a_superclass = unknown_class (0, omega arith, refl) (0, omega arith, refl) refl

of_an_interface : Breaks unknown rule.UnknownName 5
unfolding denoted builtin.classes
of_an_interface = unknown_class (0, omega arith, refl) (1, omega arith, refl) refl

of_the_type_of_a_field : Breaks unknown rule.UnknownName 7
unfolding denoted builtin.classes
of_the_type_of_a_field = unknown_class (0, omega arith, refl) (2, omega arith, refl) refl

of_a_result : Breaks unknown rule.UnknownName 10
unfolding denoted builtin.classes
of_a_result = unknown_class (0, omega arith, refl) (3, omega arith, refl) refl

of_the_type_of_a_parameter : Breaks unknown rule.UnknownName 13
unfolding denoted builtin.classes
of_the_type_of_a_parameter = unknown_class (0, omega arith, refl) (4, omega arith, refl) refl

of_what_is_thrown : Breaks unknown rule.UnknownName 17
unfolding denoted builtin.classes
of_what_is_thrown = unknown_class (0, omega arith, refl) (5, omega arith, refl) refl

of_a_constructor : Breaks unknown rule.UnknownName 20
of_a_constructor = unknown_constructor (record { written = (0, omega arith, refl); member = (2, omega arith, refl) }) refl (λ e. (let f : 73 ≡ 65 = ap (λ (name : List ℕ). slice_index_or name 0 0) e in omega arith))

-- class A extends B { }
-- class B extends A { }
abbrev circle : CompilationUnit
circle = class [] (codes "A") 1 (Some (at (codes "B") 3)) [] [] 5 ∷ class [] (codes "B") 7 (Some (at (codes "A") 9)) [] [] 11 ∷ []

one_of_a_circle : Breaks circle rule.Cycle 1
unfolding table denoted builtin.classes direct_supertypes
one_of_a_circle = above_itself {c = 18} refl (19, (0, omega arith, refl), further (0, omega arith, refl) itself)
