-- The rows of a program's table that its text declares have the tokens of its classes as their sites.
use Rattle.std.proofs.Common.{◌≡◌, arith, ℕ, zero, suc, ◌+◌, ◌≤◌, Bool, true, false, ◌||◌, if◌then◌else◌, List, [], ◌∷◌, ◌++◌, length}
use Rattle.std.specs.Prelude.{Some, slice_get, map, flat_map, codes}
use Rattle.std.specs.List.{AllByRecursion, list_any, enumerate_from, cons_option}
use Rattle.std.proofs.ByRecursion.{All-append}
use Rattle.std.proofs.lemmas.List.Elements.{All-contains, All-from_recursion}
use Rattle.wy_kernel.specs.declared.types.MethodForm.TheVariants as kind
use Rattle.wy_kernel.specs.Program.{Class, Method, Field, first_source_class}
use Rattle.wy_kernel.specs.Builtin as builtin
use Rattle.wy_syntax.specs.Syntax.{WrittenType, Declarator, Placed, Member, ClassSyntax}
use Rattle.wy_syntax.specs.Syntax as syntax
use Rattle.wy_members.specs.Declarations.{CompilationUnit, classes_of, class_row, class_rows, method_in, methods_in, methods_of, implied, initializes_objects, fields_unit, is_constructor, implied_constructor, field_rows, fields_in, fields_among, fields_of, class_by_class, table}
use Rattle.wy_members.proofs.Contained.{contained}
use Rattle.law_sites.proofs.Tokens.{DeclaratorTokens, MemberTokens, ClassTokens, ClassesTokens}

-- ---- lists

-- what holds of each element holds of that at a place
pub at_place : {X : Type 0} (Q : X → Type 0) (xs : List X) (i : ℕ) (x : X) → AllByRecursion Q xs → slice_get xs i ≡ Some x → Q x
at_place Q xs i x h e = All-contains Q xs x (All-from_recursion Q xs h) (contained xs i x e)

-- what holds of the second of two lists holds of each element behind the first
pub behind_first : {X : Type 0} (Q : X → Type 0) (xs ys : List X) (i : ℕ) (x : X) → AllByRecursion Q ys → length xs ≤ i → slice_get (xs ++ ys) i ≡ Some x → Q x
behind_first Q [] ys i x h a e = at_place Q ys i x h e
behind_first Q (y ∷ xs) ys zero x h a e = absurd (omega arith)
behind_first Q (y ∷ xs) ys (suc i) x h a e = behind_first Q xs ys i x h (omega arith) e

by_class : {X : Type 0} (P : ℕ → Type 0) (Q : X → Type 0) (f : ℕ → ClassSyntax → List X) → ((c : ℕ) (k : ClassSyntax) → ClassTokens P k → AllByRecursion Q (f c k)) → (c : ℕ) (ks : List ClassSyntax) → ClassesTokens P ks →
    AllByRecursion Q (flat_map (λ p. f p.0 p.1) (enumerate_from c ks))
by_class P Q f h c [] t = tt
by_class P Q f h c (k ∷ ks) t = All-append Q (f c k) (flat_map (λ p. f p.0 p.1) (enumerate_from (c + 1) ks)) (h c k t.0) (by_class P Q f h (c + 1) ks t.1)

-- ---- classes

classes_sited : (P : ℕ → Type 0) (unit : CompilationUnit) (ks : List ClassSyntax) → ClassesTokens P ks → AllByRecursion (λ (k : Class). P k.site) (map (class_row unit) ks)
classes_sited P unit [] t = tt
classes_sited P unit (k ∷ ks) t = (t.0.name, classes_sited P unit ks t.1)

pub class_sited : (P : ℕ → Type 0) (unit : CompilationUnit) → ClassesTokens P (classes_of unit) → (c : ℕ) (k : Class) → length builtin.classes ≤ c → slice_get (table unit).classes c ≡ Some k → P k.site
unfolding table
class_sited P unit t c k a e = behind_first (λ (x : Class). P x.site) builtin.classes (class_rows unit unit) c k (classes_sited P unit (classes_of unit) t) a e

-- ---- methods

abbrev MethodSited : (ℕ → Type 0) → Method → Type 0
MethodSited P m = P m.site

abbrev MethodsSited : (ℕ → Type 0) → List Method → Type 0
MethodsSited P ms = AllByRecursion (MethodSited P) ms

with_one : (P : ℕ → Type 0) (unit : CompilationUnit) (c : ℕ) (k : ClassSyntax) (m : Member) (rest : List Method) → MemberTokens P m → MethodsSited P rest → MethodsSited P (cons_option (method_in unit c k m) rest)
with_one P unit c k (syntax.Method h result body) rest t i = (t.0.0, i)
with_one P unit c k (syntax.Constructor h own_call brace parts end) rest t i = (t.0.0, i)
with_one P unit c k _ rest t i = i

methods_in_sited : (P : ℕ → Type 0) (unit : CompilationUnit) (c : ℕ) (k : ClassSyntax) (ms : List Member) → AllByRecursion (MemberTokens P) ms → MethodsSited P (methods_in unit c k ms)
methods_in_sited P unit c k [] t = tt
methods_in_sited P unit c k (m ∷ ms) t = with_one P unit c k m (methods_in unit c k ms) t.0 (methods_in_sited P unit c k ms t.1)

where_so : (P : ℕ → Type 0) (b : Bool) (m : Method) → P m.site → MethodsSited P (if b then m ∷ [] else [])
where_so P true m h = (h, tt)
where_so P false m h = tt

unless_so : (P : ℕ → Type 0) (b : Bool) (m : Method) → P m.site → MethodsSited P (if b then [] else m ∷ [])
unless_so P true m h = tt
unless_so P false m h = (h, tt)

methods_of_sited : (P : ℕ → Type 0) (unit : CompilationUnit) (c : ℕ) (k : ClassSyntax) → ClassTokens P k → MethodsSited P (methods_of unit c k)
methods_of_sited P unit c k t =
    All-append (MethodSited P) (fields_unit c k ++ implied_constructor c k) (methods_in unit c k k.members)
    (All-append (MethodSited P) (fields_unit c k) (implied_constructor c k) (where_so P (list_any initializes_objects k.members) (implied c k (codes "<fields>") kind.Fields) t.name)
    (unless_so P (k.is_interface || list_any is_constructor k.members) (implied c k (codes "new") kind.Constructor) t.name))
    (methods_in_sited P unit c k k.members t.members)

pub method_sited : (P : ℕ → Type 0) (unit : CompilationUnit) → ClassesTokens P (classes_of unit) → (k : ℕ) (m : Method) → length builtin.methods ≤ k → slice_get (table unit).methods k ≡ Some m → P m.site
unfolding table
method_sited P unit t k m a e =
    behind_first (MethodSited P) builtin.methods (class_by_class (methods_of unit) unit) k m (by_class P (MethodSited P) (methods_of unit) (methods_of_sited P unit) first_source_class (classes_of unit) t) a e

-- ---- fields

abbrev FieldSited : (ℕ → Type 0) → Field → Type 0
FieldSited P f = P f.site

abbrev FieldsSited : (ℕ → Type 0) → List Field → Type 0
FieldsSited P fs = AllByRecursion (FieldSited P) fs

field_rows_sited : (P : ℕ → Type 0) (unit : CompilationUnit) (c : ℕ) (ms : List Placed) (ty : WrittenType) (all : List Declarator) → DeclaratorTokens P all → FieldsSited P (field_rows unit c ms ty all)
field_rows_sited P unit c ms ty [] t = tt
field_rows_sited P unit c ms ty (d ∷ all) t = (t.0.0, field_rows_sited P unit c ms ty all t.1)

fields_in_sited : (P : ℕ → Type 0) (unit : CompilationUnit) (c : ℕ) (m : Member) → MemberTokens P m → FieldsSited P (fields_in unit c m)
fields_in_sited P unit c (syntax.Fields ms ty all) t = field_rows_sited P unit c ms ty all t
fields_in_sited P unit c _ t = tt

fields_among_sited : (P : ℕ → Type 0) (unit : CompilationUnit) (c : ℕ) (ms : List Member) → AllByRecursion (MemberTokens P) ms → FieldsSited P (fields_among unit c ms)
fields_among_sited P unit c [] t = tt
fields_among_sited P unit c (m ∷ ms) t = All-append (FieldSited P) (fields_in unit c m) (fields_among unit c ms) (fields_in_sited P unit c m t.0) (fields_among_sited P unit c ms t.1)

pub field_sited : (P : ℕ → Type 0) (unit : CompilationUnit) → ClassesTokens P (classes_of unit) → (k : ℕ) (f : Field) → length builtin.fields ≤ k → slice_get (table unit).fields k ≡ Some f → P f.site
unfolding table
field_sited P unit t k f a e =
    behind_first (FieldSited P) builtin.fields (class_by_class (fields_of unit) unit) k f (by_class P (FieldSited P) (fields_of unit) (λ c x h. fields_among_sited P unit c x.members h.members) first_source_class (classes_of unit) t) a e
