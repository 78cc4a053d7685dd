-- Programs whose methods may not override those that they do, or may not stand together.
use Rattle.std.proofs.Common.{◌≡◌, ℕ, sym, refl, inl, inr, arith}
use Rattle.std.specs.Prelude.{Bool, true, false, List, [], ◌∷◌, Some, codes}
use Rattle.std.specs.Prelude.{None as Absent}
use Rattle.wy_kernel.specs.declared.operator.Primitive.TheVariants as prim
use Rattle.wy_kernel.specs.declared.types.Ty.{Ty}
use Rattle.wy_kernel.specs.declared.types.Ty.TheVariants.{Void}
use Rattle.wy_kernel.specs.declared.types.MethodForm.{MethodForm}
use Rattle.wy_kernel.specs.declared.types.MethodForm.TheVariants as kind
use Rattle.wy_kernel.specs.Program as plain
use Rattle.wy_kernel.specs.Builtin as builtin
use Rattle.wy_kernel.specs.Subtyping.{Substitutable, Below, direct_supertypes, class_type, primitive_type}
use Rattle.wy_syntax.specs.declared.declaration.Modifier.TheVariants as modifier
use Rattle.wy_syntax.specs.Syntax.{Method}
use Rattle.wy_constant.specs.declared.rule.Rule.TheVariants as rule
use Rattle.wy_overloads.specs.Choice.{Equivalent}
use Rattle.wy_members.specs.Declarations.{CompilationUnit, table, denoted}
use Rattle.wy_members.specs.Broken.{Breaks, compared, Inherits, HasNoCommonResult, wrong_result, static_against_instance, overrides_final, inherited_results, inherited_static}
use Rattle.wy_overloads.specs.Lineage.{HasTop}
use Rattle.wy_members.proofs.Written.{at, int_type, long_type, the, header, empty, class, interface}
use Rattle.wy_members.proofs.Judged.{judged}
use Rattle.wy_members.proofs.Inherited.{of_each_named, no_reference_below}

abbrev int : Ty
int = primitive_type prim.Int

abbrev long : Ty
long = primitive_type prim.Long

-- a method without parameters
abbrev row : List ℕ → ℕ → ℕ → Ty → MethodForm → Bool → Bool → plain.Method
row name site c result form is_abstract is_final = record { name = name; site = site; class = c; params = []; result = result; form = form; is_private = false; is_abstract = is_abstract; is_final = is_final }

-- class A {
--   int f() { }
--   static void g() { }
--   final void h() { }
-- }
-- class B extends A {
--   long f() { }
--   void g() { }
--   void h() { }
-- }
abbrev overriding : CompilationUnit
overriding =
    class [] (codes "A") 1 Absent [] (
    Method (header [] (codes "f") 4 []) (Some (int_type 3)) (empty 7)
    ∷ Method (header (the modifier.Static 9 ∷ []) (codes "g") 11 []) Absent (empty 14)
    ∷ Method (header (the modifier.Final 16 ∷ []) (codes "h") 18 []) Absent (empty 21)
    ∷ []) 23
    ∷ class [] (codes "B") 25 (Some (at (codes "A") 27)) [] (
    Method (header [] (codes "f") 30 []) (Some (long_type 29)) (empty 33)
    ∷ Method (header [] (codes "g") 36 []) Absent (empty 39)
    ∷ Method (header [] (codes "h") 42 []) Absent (empty 45)
    ∷ []) 47
    ∷ []

another_result : Breaks overriding rule.BadOverride 30
unfolding table denoted compared direct_supertypes builtin.classes builtin.methods builtin.first_methods
another_result = (
  19,
  judged overriding 19 refl,
  inr (wrong_result {k = 37} {m = row (codes "f") 30 19 long kind.Instance false false} {other = row (codes "f") 4 18 int kind.Instance false false}
      (record { method = (41, omega arith, refl); own = refl; same = (refl, record { member = record { named = refl; declared = (tt, Below.declared (0, omega arith, refl)) }; same = refl }); elsewhere = λ e. (let f : 18 ≡ 19 = e in omega arith) })
      (λ s. elim s [ inl e ↦ absurd (cc) | inr below ↦ below.0 ])),
)

an_instance_method_against_a_static_one : Breaks overriding rule.BadOverride 36
unfolding table denoted compared direct_supertypes builtin.classes builtin.methods builtin.first_methods
an_instance_method_against_a_static_one = (
  19,
  judged overriding 19 refl,
  inr (static_against_instance {k = 38} {m = row (codes "g") 36 19 Void kind.Instance false false} {other = row (codes "g") 11 18 Void kind.Static false false}
      (record { method = (42, omega arith, refl); own = refl; same = (refl, record { member = record { named = refl; declared = (tt, Below.declared (0, omega arith, refl)) }; same = refl }); elsewhere = λ e. (let f : 18 ≡ 19 = e in omega arith) })
      (λ e. absurd (cc))),
)

a_final_method_overridden : Breaks overriding rule.BadOverride 42
unfolding table denoted compared direct_supertypes builtin.classes builtin.methods builtin.first_methods
a_final_method_overridden = (
  19,
  judged overriding 19 refl,
  inr (overrides_final {k = 39} {m = row (codes "h") 42 19 Void kind.Instance false false} {other = row (codes "h") 18 18 Void kind.Instance false true}
      (record { method = (43, omega arith, refl); own = refl; same = (refl, record { member = record { named = refl; declared = (tt, Below.declared (0, omega arith, refl)) }; same = refl }); elsewhere = λ e. (let f : 18 ≡ 19 = e in omega arith) })
      refl),
)

-- interface I { int f(); }
-- interface J { long f(); }
-- abstract class K implements I, J { }
-- class L { static int f() { } }
-- abstract class M extends L implements I { }
abbrev together : CompilationUnit
together =
    interface (codes "I") 1 [] (Method (header [] (codes "f") 4 []) (Some (int_type 3)) Absent ∷ []) 8
    ∷ interface (codes "J") 10 [] (Method (header [] (codes "f") 13 []) (Some (long_type 12)) Absent ∷ []) 17
    ∷ class (the modifier.Abstract 18 ∷ []) (codes "K") 20 Absent (at (codes "I") 22 ∷ at (codes "J") 24 ∷ []) [] 26
    ∷ class [] (codes "L") 28 Absent [] (Method (header (the modifier.Static 30 ∷ []) (codes "f") 32 []) (Some (int_type 31)) (empty 35) ∷ []) 37
    ∷ class (the modifier.Abstract 38 ∷ []) (codes "M") 40 (Some (at (codes "L") 42)) (at (codes "I") 44 ∷ []) [] 46
    ∷ []

abbrev f_of_i : plain.Method
f_of_i = row (codes "f") 4 18 int kind.Instance true false

abbrev f_of_j : plain.Method
f_of_j = row (codes "f") 13 19 long kind.Instance true false

abbrev f_of_l : plain.Method
f_of_l = row (codes "f") 32 21 int kind.Static false false

no_common : (classes : List plain.Class) (a : Ty) → HasTop classes → Substitutable classes a int → Substitutable classes a long → ⊥
no_common classes a top (inl e) (inl f) = absurd (cc)
no_common classes a top (inl e) (inr below) = no_reference_below classes a prim.Long top below.0 below.1
no_common classes a top (inr below) s = no_reference_below classes a prim.Int top below.0 below.1

-- each method of this name in the program has no parameters, and class c declares none
elsewhere : (c : ℕ) → (18 ≡ c → ⊥) → (19 ≡ c → ⊥) → (21 ≡ c → ⊥) → (j : ℕ) (other : plain.Method) → Equivalent (compared together) (class_type c) f_of_i j other → other.class ≡ c → ⊥
unfolding table denoted compared builtin.classes builtin.methods builtin.first_methods
elsewhere c i k l j other same = of_each_named (λ n m. m.class ≡ c → ⊥) (codes "f") (compared together).methods j other (i, (k, (l, tt))) same.0 same.1.member.named

inherited_by_k : Inherits (compared together) 20 36 f_of_i
unfolding table denoted compared direct_supertypes builtin.classes builtin.methods builtin.first_methods
inherited_by_k = record {
  has = (refl, record { named = refl; declared = (tt, Below.declared (1, omega arith, refl)) });
  undeclared = elsewhere 20 (λ e. (let f : 18 ≡ 20 = e in omega arith)) (λ e. (let f : 19 ≡ 20 = e in omega arith)) (λ e. (let f : 21 ≡ 20 = e in omega arith));
}

no_result_for_k : HasNoCommonResult (compared together) (class_type 20) f_of_i
unfolding table denoted compared direct_supertypes builtin.classes builtin.methods builtin.first_methods
no_result_for_k j other same counts stands =
    no_common (compared together).classes other.result refl
    (stands 36 f_of_i (refl, record { member = record { named = sym same.1.member.named; declared = (tt, Below.declared (1, omega arith, refl)) }; same = sym same.1.same }))
    (stands 37 f_of_j (refl, record { member = record { named = sym same.1.member.named; declared = (tt, Below.declared (2, omega arith, refl)) }; same = sym same.1.same }))

results_that_no_method_has : Breaks together rule.BadOverride 20
unfolding table denoted compared builtin.classes
results_that_no_method_has = (
  20,
  judged together 20 refl,
  inr (inherited_results {row = record { name = codes "K"; site = 20; is_interface = false; is_abstract = true; is_final = false; above = Some 0; interfaces = 18 ∷ 19 ∷ [] }} refl inherited_by_k no_result_for_k),
)

inherited_by_m : Inherits (compared together) 22 36 f_of_i
unfolding table denoted compared direct_supertypes builtin.classes builtin.methods builtin.first_methods
inherited_by_m = record {
  has = (refl, record { named = refl; declared = (tt, Below.declared (1, omega arith, refl)) });
  undeclared = elsewhere 22 (λ e. (let f : 18 ≡ 22 = e in omega arith)) (λ e. (let f : 19 ≡ 22 = e in omega arith)) (λ e. (let f : 21 ≡ 22 = e in omega arith));
}

a_static_method_against_an_interface : Breaks together rule.BadOverride 40
unfolding table denoted compared direct_supertypes builtin.classes builtin.methods builtin.first_methods
a_static_method_against_an_interface = (
  22,
  judged together 22 refl,
  inr (inherited_static {row = record { name = codes "M"; site = 40; is_interface = false; is_abstract = true; is_final = false; above = Some 21; interfaces = 18 ∷ [] }} {m = f_of_i} {other = f_of_l} 40 refl inherited_by_m
      (refl, record { member = record { named = refl; declared = (tt, Below.declared (0, omega arith, refl)) }; same = refl })
      (λ e. absurd (cc))),
)
