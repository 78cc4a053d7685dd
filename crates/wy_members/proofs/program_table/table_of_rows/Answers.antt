use Rattle.std.proofs.Common.{◌≡◌, ◌<◌, ℕ, List, length, ap, sym, subst, ◌∙◌, arith}
use Rattle.std.specs.Prelude.{map, option_map}
use Rattle.std.proofs.lemmas.List.{length-map}
use Rattle.wy_kernel.specs.declared.types.Class as memory
use Rattle.wy_kernel.specs.declared.types.Field as memory_field
use Rattle.wy_kernel.specs.declared.types.Method as memory_method
use Rattle.wy_kernel.specs.Program.{Class}
use Rattle.wy_kernel.specs.Builtin.{no_site}
use Rattle.wy_kernel.specs.View.{class_of, method_of, field_of}
use Rattle.wy_table.specs.ClassTable.{table_of}
use Rattle.wy_table.specs.Hierarchy.{rows_of}
use Rattle.wy_table.specs.MethodIndex.{IsIndexOf}
use Rattle.wy_table.specs.Names.{KeepsNames}
use Rattle.wy_kernel.specs.Table.{Table, IsTable, NamesAmong, KeepsSupertypes, constant_value}
use Rattle.wy_members.specs.Declarations.{table, no_constants}
use Rattle.wy_members.specs.Names.{unit_of}
use Rattle.wy_members.proofs.InRange.{is_table, names_among}
use Rattle.wy_members.proofs.ProgramTables.{same_table}
use Rattle.wy_members.proofs.program_table.table_of_rows.Goals as goal

pub hierarchy_of-requires-clause-among : goal.hierarchy_of-requires-clause-among
hierarchy_of-requires-clause-among c =
    let seen : map class_of c.as_slice.result.now ≡ (table (unit_of c.args.names.now)).classes = ap (map class_of) c.as_slice.ensures.value ∙ c.requires.rows.classes in
    let P : List Class → Type 0 = λ xs. NamesAmong xs in
    subst P (sym seen) (names_among (unit_of c.args.names.now))

pub invariant_of-result-clause-keeps_supertypes : goal.invariant_of-result-clause-keeps_supertypes
invariant_of-result-clause-keeps_supertypes c =
    let P : List memory.Class → Type 0 = λ xs. KeepsSupertypes (map class_of xs) (rows_of c.in_ok-hierarchy.hierarchy) in
    ∣ subst P c.as_slice.ensures.value c.in_ok-hierarchy.ensures ∣₁

pub of-requires-clause-classes : goal.of-requires-clause-classes
of-requires-clause-classes c =
    let few = c.requires.rows.few_classes in
    let same : length c.as_slice-3.result.now ≡ length c.args.rows.classes.items = ap length c.as_slice-3.ensures.value in
    omega (arith, few, same)

pub of-requires-clause-fields : goal.of-requires-clause-fields
of-requires-clause-fields c =
    let few = c.requires.rows.few_fields in
    let same : length c.as_slice-4.result.now ≡ length c.args.rows.fields.items = ap length c.as_slice-4.ensures.value in
    omega (arith, few, same)

pub invariant_of-result-clause-keeps_names : goal.invariant_of-result-clause-keeps_names
invariant_of-result-clause-keeps_names c =
    let names = c.in_ok-declared.declared in
    let P : List memory.Class → List memory_field.Field → Type 0 = λ cs fs. KeepsNames (map class_of cs) (map field_of fs) names in
    ∣ subst (λ (fs : List memory_field.Field). P c.args.rows.classes.items fs) c.as_slice-4.ensures.value (subst (λ (cs : List memory.Class). P cs c.as_slice-4.result.now) c.as_slice-3.ensures.value c.in_ok-declared.ensures) ∣₁

pub invariant_of-result-clause-is_index : goal.invariant_of-result-clause-is_index
invariant_of-result-clause-is_index c =
    let P : List memory_method.Method → Type 0 = λ ms. IsIndexOf c.in_ok-index.index (map method_of ms) in
    ∣ subst P c.as_slice-5.ensures.value c.in_ok-index.ensures ∣₁

pub invariant_of-result-clause-is_table : goal.invariant_of-result-clause-is_table
invariant_of-result-clause-is_table c =
    let unit = unit_of c.args.names.now in
    let rows = c.args.rows in
    let r = c.requires.rows in
    let none : map (option_map constant_value) c.in_ok-constants.constants.items ≡ no_constants (map field_of rows.fields.items) = c.in_ok-constants.ensures ∙ ap (λ fs. no_constants (map field_of fs)) c.as_slice-2.ensures.value in
    let few_classes : length (table unit).classes < no_site = few (length-map rows.classes.items class_of) (ap length r.classes) r.few_classes in
    let few_methods : length (table unit).methods < no_site = few (length-map rows.methods.items method_of) (ap length r.methods) r.few_methods in
    let few_fields : length (table unit).fields < no_site = few (length-map rows.fields.items field_of) (ap length r.fields) r.few_fields in
    let P : Table → Type 0 = λ t. IsTable t in
    ∣ subst P (sym (same_table unit rows.classes.items rows.methods.items rows.fields.items c.in_ok-constants.constants.items r.classes r.methods r.fields none)) (is_table unit c.requires.acyclic few_classes few_methods few_fields) ∣₁
  where
    few : {a b d : ℕ} → a ≡ b → a ≡ d → b < no_site → d < no_site
    few e f h = omega arith

pub returns : goal.returns
unfolding table_of
returns c =
    let r = c.requires.rows in
    same_table (unit_of c.args.names.now) c.args.rows.classes.items c.args.rows.methods.items c.args.rows.fields.items c.in_ok-constants.constants.items r.classes r.methods r.fields
    (c.in_ok-constants.ensures ∙ ap (λ fs. no_constants (map field_of fs)) c.as_slice-2.ensures.value)
