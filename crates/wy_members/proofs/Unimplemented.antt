-- A program that breaks NotImplemented in each way.
use Rattle.std.proofs.Common.{◌≡◌, refl, inl, arith}
use Rattle.std.specs.Prelude.{true, false, [], ◌∷◌, Some, codes}
use Rattle.std.specs.Prelude.{None as Absent}
use Rattle.wy_kernel.specs.declared.operator.Primitive.TheVariants as prim
use Rattle.wy_kernel.specs.declared.types.MethodForm.TheVariants as kind
use Rattle.wy_kernel.specs.Program as plain
use Rattle.wy_kernel.specs.Builtin as builtin
use Rattle.wy_kernel.specs.Subtyping.{Below, direct_supertypes, class_type, primitive_type}
use Rattle.wy_syntax.specs.declared.declaration.Modifier.TheVariants as modifier
use Rattle.wy_syntax.specs.Syntax.{Method}
use Rattle.wy_constant.specs.declared.rule.Rule.TheVariants as rule
use Rattle.wy_overloads.specs.Choice.{NearestHasBody}
use Rattle.wy_members.specs.Declarations.{CompilationUnit, table, denoted}
use Rattle.wy_members.specs.Broken.{Breaks, compared, Inherits, declares_abstract, left_in, body_missing, body_too_much, abstract_constructor, static_without_body, private_without_body}
use Rattle.wy_members.proofs.Written.{at, int_type, the, header, empty, constructor, class, interface}
use Rattle.wy_members.proofs.Judged.{judged}
use Rattle.wy_members.proofs.Inherited.{of_each_named}

-- class A { abstract int f(); }
-- abstract class B {
--   int g();
--   abstract void h() { }
--   abstract B() { }
--   static abstract void i();
--   private abstract void j();
-- }
-- interface I { int k(); }
-- class C implements I { private int k() { } }
abbrev unimplemented : CompilationUnit
unimplemented =
    class [] (codes "A") 1 Absent [] (Method (header (the modifier.Abstract 3 ∷ []) (codes "f") 5 []) (Some (int_type 4)) Absent ∷ []) 9
    ∷ class (the modifier.Abstract 10 ∷ []) (codes "B") 12 Absent [] (
    Method (header [] (codes "g") 15 []) (Some (int_type 14)) Absent
    ∷ Method (header (the modifier.Abstract 19 ∷ []) (codes "h") 21 []) Absent (empty 24)
    ∷ constructor (the modifier.Abstract 26 ∷ []) (codes "B") 27 [] 30
    ∷ Method (header (the modifier.Static 32 ∷ the modifier.Abstract 33 ∷ []) (codes "i") 35 []) Absent Absent
    ∷ Method (header (the modifier.Private 39 ∷ the modifier.Abstract 40 ∷ []) (codes "j") 42 []) Absent Absent
    ∷ []) 46
    ∷ interface (codes "I") 48 [] (Method (header [] (codes "k") 51 []) (Some (int_type 50)) Absent ∷ []) 55
    ∷ class [] (codes "C") 57 Absent (at (codes "I") 59 ∷ []) (Method (header (the modifier.Private 61 ∷ []) (codes "k") 63 []) (Some (int_type 62)) (empty 66) ∷ []) 68
    ∷ []

an_abstract_method_declared : Breaks unimplemented rule.NotImplemented 5
unfolding table denoted builtin.classes builtin.methods builtin.first_methods
an_abstract_method_declared = (18, judged unimplemented 18 refl, declares_abstract refl refl (37, omega arith, refl) refl refl)

a_body_missing : Breaks unimplemented rule.NotImplemented 15
unfolding table denoted builtin.classes
a_body_missing = (19, judged unimplemented 19 refl, body_missing (record { written = (1, omega arith, refl); member = (0, omega arith, refl) }) refl refl)

a_body_too_much : Breaks unimplemented rule.NotImplemented 21
unfolding table denoted builtin.classes
a_body_too_much = (19, judged unimplemented 19 refl, body_too_much (record { written = (1, omega arith, refl); member = (1, omega arith, refl) }) refl refl)

a_constructor_that_is_abstract : Breaks unimplemented rule.NotImplemented 27
unfolding table denoted builtin.classes
a_constructor_that_is_abstract = (19, judged unimplemented 19 refl, abstract_constructor (record { written = (1, omega arith, refl); member = (2, omega arith, refl) }) refl refl)

a_static_method_without_body : Breaks unimplemented rule.NotImplemented 35
unfolding table denoted builtin.classes
a_static_method_without_body = (19, judged unimplemented 19 refl, static_without_body (record { written = (1, omega arith, refl); member = (3, omega arith, refl) }) refl refl)

a_private_method_without_body : Breaks unimplemented rule.NotImplemented 42
unfolding table denoted builtin.classes
a_private_method_without_body = (19, judged unimplemented 19 refl, private_without_body (record { written = (1, omega arith, refl); member = (4, omega arith, refl) }) refl refl)

-- the two private methods are compared with none, so that this is method 42 of those that are
abbrev k_of_i : plain.Method
k_of_i = record { name = codes "k"; site = 51; class = 20; params = []; result = primitive_type prim.Int; form = kind.Instance; is_private = false; is_abstract = true; is_final = false }

inherited_by_c : Inherits (compared unimplemented) 21 42 k_of_i
unfolding table denoted compared direct_supertypes builtin.classes builtin.methods builtin.first_methods
inherited_by_c = record {
  has = (refl, record { named = refl; declared = (tt, Below.declared (1, omega arith, refl)) });
  undeclared = λ j other same. of_each_named (λ n m. m.class ≡ 21 → ⊥) (codes "k") (compared unimplemented).methods j other ((λ e. (let f : 20 ≡ 21 = e in omega arith)), tt) same.0 same.1.member.named;
}

no_body_above_c : NearestHasBody (compared unimplemented) (class_type 21) k_of_i → ⊥
unfolding table denoted compared builtin.classes builtin.methods builtin.first_methods
no_body_above_c (j, other, same, nearest, body) =
    of_each_named (λ n m. m.is_abstract ≡ false → ⊥) (codes "k") (compared unimplemented).methods j other ((λ e. absurd (cc)), tt) same.0 same.1.member.named body

an_abstract_method_left_in : Breaks unimplemented rule.NotImplemented 57
unfolding table denoted compared builtin.classes
an_abstract_method_left_in = (
  21,
  judged unimplemented 21 refl,
  left_in {row = record { name = codes "C"; site = 57; is_interface = false; is_abstract = false; is_final = false; above = Some 0; interfaces = 20 ∷ [] }} refl refl inherited_by_c no_body_above_c refl,
)
