-- What holds of each method that a member is, and of those that no text declares, holds of all methods of a program.
use Rattle.std.proofs.Common.{◌≡◌, refl, sym, subst, arith, ℕ, suc, ◌+◌, Bool, true, false, ◌||◌, if◌then◌else◌, List, [], ◌∷◌, ◌++◌}
use Rattle.std.specs.Prelude.{Option, Some, None, Ok, slice_get, filter_map, codes}
use Rattle.std.specs.List.{AllByRecursion, list_any, cons_option}
use Rattle.wy_kernel.specs.declared.types.MethodForm.TheVariants as kind
use Rattle.wy_kernel.specs.Program.{Program, Method, first_source_class}
use Rattle.wy_kernel.specs.Builtin as builtin
use Rattle.wy_syntax.specs.Syntax.{Member, ClassSyntax}
use Rattle.wy_members.specs.Declarations.{CompilationUnit, classes_of, method_in, methods_in, implied, initializes_objects, fields_unit, is_constructor, implied_constructor, methods_of, table}
use Rattle.wy_members.specs.Refusal.{KeepsRules}
use Rattle.wy_elab_stmt.specs.Elaborates.{Elaborates}
use Rattle.wy_typing.specs.Expressions.{IsMethod}
use Rattle.law_program_parts.specs.Rows.{rows_from}
use Rattle.law_program_parts.specs.Programs.{TablesHaveRows}
use Rattle.law_program_parts.proofs.TypedMade.{comes}
use Rattle.law_program_parts.proofs.BodiesLists.{at_all, all_joined}

-- it holds of the method that a member is, where it is one
abbrev pub OfRow : (Method → Type 0) → Option Method → Type 0
OfRow Q None = Unit {0}
OfRow Q (Some m) = Q m

one_row : (Q : Method → Type 0) (o : Option Method) (rest : List Method) → OfRow Q o → AllByRecursion Q rest → AllByRecursion Q (cons_option o rest)
one_row Q None rest h i = i
one_row Q (Some m) rest h i = (h, i)

rows_by : (Q : Method → Type 0) (unit : CompilationUnit) (c : ℕ) (k : ClassSyntax) (ms : List Member) → AllByRecursion (λ (m : Member). OfRow Q (method_in unit c k m)) ms → AllByRecursion Q (filter_map (method_in unit c k) ms)
rows_by Q unit c k [] h = tt
rows_by Q unit c k (m ∷ ms) h = one_row Q (method_in unit c k m) (filter_map (method_in unit c k) ms) h.0 (rows_by Q unit c k ms h.1)

unless : (Q : Method → Type 0) (b : Bool) (m : Method) → Q m → AllByRecursion Q (if b then [] else m ∷ [])
unless Q true m h = tt
unless Q false m h = (h, tt)

where_so : (Q : Method → Type 0) (b : Bool) (m : Method) → Q m → AllByRecursion Q (if b then m ∷ [] else [])
where_so Q true m h = (h, tt)
where_so Q false m h = tt

pub class_by : (Q : Method → Type 0) (unit : CompilationUnit) (c : ℕ) (k : ClassSyntax) → Q (implied c k (codes "<fields>") kind.Fields) → Q (implied c k (codes "new") kind.Constructor) →
    AllByRecursion (λ (m : Member). OfRow Q (method_in unit c k m)) k.members → AllByRecursion Q (methods_of unit c k)
class_by Q unit c k f g h =
    all_joined Q (fields_unit c k ++ implied_constructor c k) (methods_in unit c k k.members)
    (all_joined Q (fields_unit c k) (implied_constructor c k) (where_so Q (list_any initializes_objects k.members) (implied c k (codes "<fields>") kind.Fields) f)
    (unless Q (k.is_interface || list_any is_constructor k.members) (implied c k (codes "new") kind.Constructor) g))
    (rows_by Q unit c k k.members h)

-- the classes from number c on
pub classes_by : (Q : Method → Type 0) (unit : CompilationUnit) (c : ℕ) (ks : List ClassSyntax) → ((i : ℕ) (k : ClassSyntax) → slice_get ks i ≡ Some k → AllByRecursion Q (methods_of unit (c + i) k)) → AllByRecursion Q (rows_from unit c ks)
classes_by Q unit c [] h = tt
classes_by Q unit c (k ∷ ks) h =
    all_joined Q (methods_of unit c k) (rows_from unit (suc c) ks) (let P : ℕ → Type 0 = λ n. AllByRecursion Q (methods_of unit n k) in subst P (omega arith) (h 0 k refl))
    (classes_by Q unit (suc c) ks (λ i x e. let P : ℕ → Type 0 = λ n. AllByRecursion Q (methods_of unit n x) in subst P (omega arith) (h (suc i) x e)))

-- the library's methods, and those of the text
pub methods_by : (Q : Method → Type 0) → TablesHaveRows → (unit : CompilationUnit) (count : ℕ) (p : Program) → Elaborates unit count (Ok p) → AllByRecursion Q builtin.methods →
    (KeepsRules unit → AllByRecursion Q (rows_from unit first_source_class (classes_of unit))) → (k : ℕ) (m : Method) → IsMethod p k m → Q m
methods_by Q rows unit count p accepted library text k m found =
    let c = comes unit count p accepted in
    let P : List Method → Type 0 = AllByRecursion Q in
    let all : AllByRecursion Q (table unit).methods = subst P (sym (rows (table unit) unit refl)) (all_joined Q builtin.methods (rows_from unit first_source_class (classes_of unit)) library (text c.keeps)) in
    at_all Q p.methods k m (subst P c.methods all) found
