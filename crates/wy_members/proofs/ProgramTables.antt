-- The table of a program in memory, before and after its constants are found.
use Rattle.std.proofs.Common.{◌≡◌, ℕ, zero, suc, List, [], ◌∷◌, Option, Some, ◌∙◌, ap, subst, length, ◌↔◌}
use Rattle.std.specs.Prelude.{map, option_map, slice_get}
use Rattle.wy_kernel.specs.declared.form.Const.{Const}
use Rattle.wy_kernel.specs.declared.types.Class as memory
use Rattle.wy_kernel.specs.declared.types.Method as memory_method
use Rattle.wy_kernel.specs.declared.types.Field as memory_field
use Rattle.wy_kernel.specs.Program.{Field}
use Rattle.wy_kernel.specs.View.{class_of, method_of, field_of}
use Rattle.wy_kernel.specs.Table.{Table, ConstantValue, table_with, constant_value}
use Rattle.wy_syntax.specs.Syntax.{Expression}
use Rattle.wy_members.specs.Declarations.{CompilationUnit, table, no_constants, all_fields}
use Rattle.wy_members.specs.Constants.{with_constants, initializers, IsConstant, IsTableOf}
use Rattle.wy_members.specs.Sweep.{AreConstants, IsFinished, GoesOn}
use Rattle.wy_members.proofs.Sweeps.{exact}

pub same_table : (unit : CompilationUnit) (classes : List memory.Class) (methods : List memory_method.Method) (fields : List memory_field.Field) (constants : List (Option Const)) →
    map class_of classes ≡ (table unit).classes → map method_of methods ≡ (table unit).methods → map field_of fields ≡ (table unit).fields →
    map (option_map constant_value) constants ≡ no_constants (map field_of fields) → table_with classes methods fields constants ≡ table unit
unfolding table
same_table unit classes methods fields constants a b c d =
    let e : map (option_map constant_value) constants ≡ no_constants (all_fields unit) = d ∙ ap no_constants c in
    λ i. record { classes = a i; methods = b i; fields = c i; constants = e i }

none_at : (fields : List Field) (k : ℕ) (v : ConstantValue) → slice_get (no_constants fields) k ≡ Some (Some v) → ⊥
none_at [] k v e = cc
none_at (f ∷ fields) zero v e = cc
none_at (f ∷ fields) (suc k) v e = none_at fields k v e

none_yet : (unit : CompilationUnit) (all : List (Option Expression)) → AreConstants (table unit) all
unfolding table
none_yet unit all k v e = absurd (none_at (all_fields unit) k v e)

pub is_table_of : (unit : CompilationUnit) (t : Table) → GoesOn (initializers unit) (table unit) t → IsFinished t (initializers unit) → length t.constants ≡ length t.fields → IsTableOf unit t
is_table_of unit t goes finished many =
    let all = initializers unit in
    let sound : AreConstants t all = goes.constants (none_yet unit all) in
    let same_fields : length t.fields ≡ length (table unit).fields = ap (λ (x : Table). length x.fields) goes.rows in
    record {
      rows = ap (λ (x : Table). with_constants x t.constants) goes.rows;
      constants = record {
        a_place_a_field = many ∙ same_fields;
        exact = λ k v. subst (λ rows. (slice_get t.constants k ≡ Some (Some v)) ↔ IsConstant rows all k v) goes.rows (exact t all sound finished k v);
      };
    }
