-- What a name denotes in a table and in its text.
use Rattle.std.proofs.Common.{◌≡◌, ℕ, suc, ◌+◌, Bool, refl, sym, ◌∙◌, ap, List, [], ◌∷◌, ◌++◌, map, Option, Some, cond, add-one}
use Rattle.std.specs.Prelude.{bytes_eq, flat_map}
use Rattle.std.specs.List.{position_from, enumerate_from}
use Rattle.std.proofs.lemmas.List.{map-append}
use Rattle.std.proofs.lemmas.Iterator.Adapters.{position_from-zero}
use Rattle.wy_kernel.specs.Program.{Class, Method, first_source_class}
use Rattle.wy_kernel.specs.Builtin as builtin
use Rattle.wy_syntax.specs.Syntax.{ClassSyntax}
use Rattle.wy_constant.specs.Fields.{is_class_named, class_named}
use Rattle.wy_members.specs.Declarations.{CompilationUnit, classes_of, name_of, class_names, denoted, class_row, class_rows, methods_of, table}
use Rattle.wy_members.proofs.Numbering.{bytes_eq_sym}
use Rattle.law_program_parts.specs.Rows.{NamesAgreeInTables, rows_from}
use Rattle.law_program_parts.specs.Programs.{TablesHaveRows}

named_here : (name : List ℕ) (i : ℕ) (cs : List Class) → position_from (is_class_named name) i cs ≡ position_from (bytes_eq name) i (map name_of cs)
named_here name i [] = refl
named_here name i (c ∷ cs) = ap (λ (b : Bool). cond b (Some i) (position_from (is_class_named name) (i + 1) cs)) (bytes_eq_sym c.name name) ∙ ap (λ (o : Option ℕ). cond (bytes_eq name c.name) (Some i) o) (named_here name (i + 1) cs)

row_names : (unit : CompilationUnit) (ks : List ClassSyntax) → map name_of (map (class_row unit) ks) ≡ map (λ (k : ClassSyntax). k.name.name) ks
row_names unit [] = refl
row_names unit (k ∷ ks) = ap (λ (l : List (List ℕ)). k.name.name ∷ l) (row_names unit ks)

table_names : (unit : CompilationUnit) → map name_of (table unit).classes ≡ class_names unit
unfolding table
table_names unit = map-append name_of builtin.classes (class_rows unit unit) ∙ ap (λ (l : List (List ℕ)). map name_of builtin.classes ++ l) (row_names unit (classes_of unit))

-- what a name denotes in a text it denotes in a program of the text's classes
pub named_as_denoted : (unit : CompilationUnit) (classes : List Class) (name : List ℕ) → classes ≡ (table unit).classes → class_named classes name ≡ denoted unit name
unfolding denoted
named_as_denoted unit classes name is =
    ap (λ (cs : List Class). class_named cs name) is ∙ named_here name 0 (table unit).classes ∙ ap (position_from (bytes_eq name) 0) (table_names unit) ∙ sym (position_from-zero (bytes_eq name) (class_names unit))

pub names_agree : NamesAgreeInTables
names_agree p unit is name c e = sym (named_as_denoted unit p.classes name is) ∙ e

rows_are : (unit : CompilationUnit) (c : ℕ) (ks : List ClassSyntax) → flat_map (λ (q : ℕ × ClassSyntax). methods_of unit q.0 q.1) (enumerate_from c ks) ≡ rows_from unit c ks
rows_are unit c [] = refl
rows_are unit c (k ∷ ks) =
    ap (λ (n : ℕ). methods_of unit c k ++ flat_map (λ (q : ℕ × ClassSyntax). methods_of unit q.0 q.1) (enumerate_from n ks)) (add-one c)
    ∙ ap (λ (l : List Method). methods_of unit c k ++ l) (rows_are unit (suc c) ks)

pub tables_have_rows : TablesHaveRows
unfolding table
tables_have_rows t unit is = is ∙ ap (λ (l : List Method). builtin.methods ++ l) (rows_are unit first_source_class (classes_of unit))
