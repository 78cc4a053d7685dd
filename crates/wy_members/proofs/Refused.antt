-- A program and its refusal.
use Rattle.std.proofs.Common.{◌≡◌, ℕ, zero, suc, ◌<◌, ◌≤◌, Bool, true, false, ◌&&◌, List, [], ◌∷◌, length, Some, get_or, refl, inl, inr, sym, ◌∙◌, ap, nat_lt, ltb-true, arith}
use Rattle.std.specs.Prelude.{slice_get, codes}
use Rattle.std.specs.Prelude.{None as Absent}
use Rattle.std.specs.List.{Contains, list_all, enumerate_from}
use Rattle.std.proofs.lemmas.Option.{slice_get_within}
use Rattle.wy_kernel.specs.Program.{Class, Method, Field}
use Rattle.wy_kernel.specs.Builtin as builtin
use Rattle.wy_syntax.specs.Syntax.{Named, Placed, Member, ClassSyntax}
use Rattle.wy_constant.specs.declared.rule.Rule.{Rule}
use Rattle.wy_constant.specs.declared.rule.Rule.TheVariants as rule
use Rattle.wy_members.specs.Declarations.{CompilationUnit, classes_of, table, denoted}
use Rattle.wy_members.specs.Broken as broken
use Rattle.wy_members.specs.Broken.{Breaks, HasMember, IsSourceClass, IsDuplicate, IsUnknownName, IsCycle, HasWrongSupertype, HasWrongMethod, IsNotImplemented, compared, known_part, names_in, modifiers_in}
use Rattle.wy_members.specs.Refusal.{rule_order, IsRefusal}
use Rattle.wy_members.proofs.Written.{class}

both : (a b : Bool) → a && b ≡ true → (a ≡ true) × (b ≡ true)
both true b e = (refl, e)
both false b e = absurd (cc)

contained_passes : {X : Type 0} (test : X → Bool) (xs : List X) (k : ℕ) (x : X) → list_all test xs ≡ true → k < length xs → get_or xs k x ≡ x → test x ≡ true
contained_passes test [] k x all lt is = absurd (omega arith)
contained_passes test (y ∷ ys) zero x all lt is = ap test (sym is) ∙ (both (test y) (list_all test ys) all).0
contained_passes test (y ∷ ys) (suc k) x all lt is = contained_passes test ys k x (both (test y) (list_all test ys) all).1 (omega arith) is

found_passes : {X : Type 0} (test : X → Bool) (xs : List X) (k : ℕ) (x : X) → list_all test xs ≡ true → slice_get xs k ≡ Some x → test x ≡ true
found_passes test [] k x all is = absurd (cc)
found_passes test (y ∷ ys) zero x all is = let same : y ≡ x = cc in ap test (sym same) ∙ (both (test y) (list_all test ys) all).0
found_passes test (y ∷ ys) (suc k) x all is = found_passes test ys k x (both (test y) (list_all test ys) all).1 is

-- class Math { }
abbrev math : CompilationUnit
math = class [] (codes "Math") 1 Absent [] [] 3 ∷ []

no_member : {A : Type 0} {c : ℕ} {k : ClassSyntax} {m : Member} → HasMember math c k m → A
no_member {c} {k} h =
    let few : length k.members < 1 = ltb-true (length k.members) 1 (contained_passes (λ (p : ℕ × ClassSyntax). nat_lt (length p.1.members) 1) (enumerate_from 18 (classes_of math)) h.written.0 (c, k) refl h.written.1 h.written.2) in
    let lt : h.member.0 < length k.members = h.member.1 in
    absurd (omega arith)

written_at : (c : ℕ) (k : ClassSyntax) → IsSourceClass math c k → 0 < k.name.token
written_at c k (i, lt, is) = ltb-true 0 k.name.token (contained_passes (λ (p : ℕ × ClassSyntax). nat_lt 0 p.1.name.token) (enumerate_from 18 (classes_of math)) i (c, k) refl lt is)

class_at : (j : ℕ) (row : Class) → slice_get (table math).classes j ≡ Some row → 0 < row.site
unfolding table denoted builtin.classes
class_at j row is = ltb-true 0 row.site (found_passes (λ (k : Class). nat_lt 0 k.site) (table math).classes j row refl is)

compared_class_at : (j : ℕ) (row : Class) → slice_get (compared math).classes j ≡ Some row → 0 < row.site
unfolding table denoted compared builtin.classes
compared_class_at j row is = ltb-true 0 row.site (found_passes (λ (k : Class). nat_lt 0 k.site) (compared math).classes j row refl is)

method_at : (m : Method) → Contains (table math).methods m → 0 < m.site
unfolding table denoted builtin.classes builtin.methods builtin.first_methods
method_at m (i, lt, is) = ltb-true 0 m.site (contained_passes (λ (x : Method). nat_lt 0 x.site) (table math).methods i m refl lt is)

known_method_at : (j : ℕ) (m : Method) → slice_get (table (known_part math)).methods j ≡ Some m → 0 < m.site
unfolding table denoted builtin.classes builtin.methods builtin.first_methods
known_method_at j m is = ltb-true 0 m.site (found_passes (λ (x : Method). nat_lt 0 x.site) (table (known_part math)).methods j m refl is)

compared_method_at : (m : Method) → Contains (compared math).methods m → 0 < m.site
unfolding table denoted compared builtin.classes builtin.methods builtin.first_methods
compared_method_at m (i, lt, is) = ltb-true 0 m.site (contained_passes (λ (x : Method). nat_lt 0 x.site) (compared math).methods i m refl lt is)

field_at : (j : ℕ) (f : Field) → slice_get (table math).fields j ≡ Some f → 0 < f.site
unfolding table denoted builtin.classes builtin.fields
field_at j f is = ltb-true 0 f.site (found_passes (λ (x : Field). nat_lt 0 x.site) (table math).fields j f refl is)

no_modifiers : {A : Type 0} (k : ClassSyntax) (ms : List Placed) (j : ℕ) (b : Placed) → Contains (classes_of math) k → Contains (modifiers_in k) ms → slice_get ms j ≡ Some b → A
no_modifiers k ms j b (i, lt, is) (n, less, at) there =
    let none : list_all (λ (x : List Placed). nat_lt (length x) 1) (modifiers_in k) ≡ true =
    contained_passes (λ (x : ClassSyntax). list_all (λ (y : List Placed). nat_lt (length y) 1) (modifiers_in x)) (classes_of math) i k refl lt is in
    let few : length ms < 1 = ltb-true (length ms) 1 (contained_passes (λ (x : List Placed). nat_lt (length x) 1) (modifiers_in k) n ms none less at) in
    let within : j < length ms = slice_get_within ms j b there in
    absurd (omega arith)

no_name : {A : Type 0} (k : ClassSyntax) (n : Named) → Contains (classes_of math) k → Contains (names_in k) n → A
no_name k n (i, lt, is) (j, less, at) =
    let few : length (names_in k) < 1 = ltb-true (length (names_in k)) 1 (contained_passes (λ (x : ClassSyntax). nat_lt (length (names_in x)) 1) (classes_of math) i k refl lt is) in
    absurd (omega arith)

duplicate_at : {t : ℕ} → IsDuplicate math t → 0 < t
duplicate_at (broken.again_class {a} {b} p e) = class_at p.1 b p.4
duplicate_at (broken.reserved {k} (i, lt, is) among) = ltb-true 0 k.name.token (contained_passes (λ (x : ClassSyntax). nat_lt 0 x.name.token) (classes_of math) i k refl lt is)
duplicate_at (broken.again_field {a} {b} p e f) = field_at p.1 b p.4
duplicate_at (broken.again_method {a} {b} p e f g) = known_method_at p.1 b p.4
duplicate_at (broken.again_parameter member e p f) = no_member member
duplicate_at (broken.again_modifier {k} {ms} {a} {b} one list p e) = no_modifiers k ms p.1 b one list p.4

unknown_at : {t : ℕ} → IsUnknownName math t → 0 < t
unknown_at (broken.unknown_class {k} {n} one name e) = no_name k n one name
unknown_at (broken.unknown_constructor member e f) = no_member member

cycle_at : {t : ℕ} → IsCycle math t → 0 < t
cycle_at (broken.above_itself {c} {row} is itself) = class_at c row is

wrong_supertype_at : {c t : ℕ} → HasWrongSupertype math c t → 0 < t
wrong_supertype_at {c} (broken.extends_interface {k} e f) = written_at c k e.written
wrong_supertype_at {c} (broken.implements_class {k} e f) = written_at c k e.written
wrong_supertype_at {c} (broken.extends_final {k} e f) = written_at c k e.written
wrong_supertype_at {c} (broken.extends_library {k} e f g h) = written_at c k e.written

wrong_method_at : {c t : ℕ} → HasWrongMethod (compared math) c t → 0 < t
wrong_method_at (broken.wrong_result {m} o f) = compared_method_at m o.method
wrong_method_at (broken.static_against_instance {m} o f) = compared_method_at m o.method
wrong_method_at (broken.overrides_final {m} o f) = compared_method_at m o.method
wrong_method_at {c} (broken.inherited_results {row} is h none) = compared_class_at c row is
wrong_method_at {c} (broken.inherited_static {row} j is h e f) = compared_class_at c row is

not_implemented_at : {c t : ℕ} → IsNotImplemented math c t → 0 < t
not_implemented_at (broken.declares_abstract {m} is e one f g) = method_at m one
not_implemented_at {c} (broken.left_in {row} is e h counts f) = compared_class_at c row is
not_implemented_at (broken.body_missing member e f) = no_member member
not_implemented_at (broken.body_too_much member e f) = no_member member
not_implemented_at (broken.abstract_constructor member e f) = no_member member
not_implemented_at (broken.static_without_body member e f) = no_member member
not_implemented_at (broken.private_without_body member e f) = no_member member

broken_at : (r : Rule) (t : ℕ) → Breaks math r t → 1 ≤ t
broken_at rule.Duplicate t h = let lt : 0 < t = duplicate_at h in omega arith
broken_at rule.UnknownName t h = let lt : 0 < t = unknown_at h in omega arith
broken_at rule.Cycle t h = let lt : 0 < t = cycle_at h in omega arith
broken_at rule.BadOverride t (c, judged, inl h) = let lt : 0 < t = wrong_supertype_at h in omega arith
broken_at rule.BadOverride t (c, judged, inr h) = let lt : 0 < t = wrong_method_at h in omega arith
broken_at rule.NotImplemented t (c, judged, h) = let lt : 0 < t = not_implemented_at h in omega arith
broken_at _ t h = absurd h

from_the_first : (r : Rule) → 1 ≤ rule_order r
unfolding rule_order
from_the_first rule.Duplicate = omega arith
from_the_first _ = omega arith

refused : IsRefusal math rule.Duplicate 1
unfolding rule_order
refused = record {
  broken = broken.reserved (0, omega arith, refl) (3, omega arith, refl);
  least_token = broken_at;
  first_rule = λ other h. from_the_first other;
}
