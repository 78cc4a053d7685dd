-- The table of a tree is a table.
use Rattle.std.proofs.Common.{sym, subst, arith, ◌<◌, ◌≤◌, length}
use Rattle.wy_kernel.specs.Builtin as builtin
use Rattle.wy_kernel.specs.Table.{Table, IsTable}
use Rattle.wy_syntax.specs.Names.{width}
use Rattle.wy_syntax.specs.Declarations.{unit}
use Rattle.wy_members.specs.Declarations.{CompilationUnit, classes_of, table}
use Rattle.wy_members.specs.Constants.{IsTableOf, with_constants}
use Rattle.wy_members.proofs.InRange.{acyclic, is_table}
use Rattle.wy_elab_stmt.proofs.OneProgram.{as_wide}
use Rattle.law_structure.proofs.Productions.{unit_full}
use Rattle.law_program_parts.specs.TableLaws.{AreFew, TreesDeclareFew, TreesHaveTables}
use Rattle.law_program_parts.proofs.Weights.{classes_weight}
use Rattle.law_program_parts.proofs.Trees.{unit_fits}
use Rattle.law_program_parts.proofs.TableRows.{many_classes_at_most, many_methods_at_most, many_fields_at_most}

pub trees_declare_few : TreesDeclareFew
trees_declare_few tree well few =
    let text = unit 0 tree in
    let room : classes_weight (classes_of text) ≤ width tree = unit_fits 0 tree (unit_full tree well) in
    record {
      classes = omega (arith, few, room, as_wide tree, many_classes_at_most text);
      methods = omega (arith, few, room, as_wide tree, many_methods_at_most text);
      fields = omega (arith, few, room, as_wide tree, many_fields_at_most text);
    }

-- with the constants of its fields
with_its_constants : (text : CompilationUnit) (t : Table) → IsTable (table text) → IsTableOf text t → IsTable t
with_its_constants text t h is =
    let own : IsTable (with_constants (table text) t.constants) = record {
      library_classes = h.library_classes;
      library_methods = h.library_methods;
      library_fields = h.library_fields;
      supertypes_in_range = h.supertypes_in_range;
      methods_in_range = h.methods_in_range;
      fields_in_range = h.fields_in_range;
      constants_of_fields = is.constants.a_place_a_field;
      acyclic = h.acyclic;
      few_classes = h.few_classes;
      few_methods = h.few_methods;
      few_fields = h.few_fields;
    } in
    subst IsTable (sym is.rows) own

pub trees_have_tables : TreesHaveTables
trees_have_tables tree well few keeps t is =
    let text = unit 0 tree in
    let few_of : AreFew (table text) = trees_declare_few tree well few in
    let classes : length (table text).classes < builtin.no_site = omega (arith, few_of.classes) in
    let methods : length (table text).methods < builtin.no_site = omega (arith, few_of.methods) in
    let fields : length (table text).fields < builtin.no_site = omega (arith, few_of.fields) in
    with_its_constants text t (is_table text (acyclic text keeps) classes methods fields) is
