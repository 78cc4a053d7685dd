-- A table with one constant more.
use Rattle.std.proofs.Common.{ℕ, List, Option, sym, ◌∙◌}
use Rattle.std.specs.Prelude.{option_map, slice_set}
use Rattle.std.proofs.lemmas.List.{length-map}
use Rattle.std.proofs.Math.Logic.{∥∥₁_elim}
use Rattle.std.proofs.Props.{props}
use Rattle.std.proofs.Math.ListN.{length-set}
use Rattle.wy_kernel.specs.declared.form.Const.{Const}
use Rattle.wy_kernel.specs.declared.types.Class as memory
use Rattle.wy_kernel.specs.declared.types.Method as memory_method
use Rattle.wy_kernel.specs.declared.types.Field as memory_field
use Rattle.wy_kernel.specs.Table.{IsTable, table_with, constant_value}

pub still_table : (classes : List memory.Class) (methods : List memory_method.Method) (fields : List memory_field.Field) (constants : List (Option Const)) (k : ℕ) (c : Option Const) →
    ∥ IsTable (table_with classes methods fields constants) ∥₁ → ∥ IsTable (table_with classes methods fields (slice_set constants k c)) ∥₁
still_table classes methods fields constants k c g = ∥∥₁_elim g (hlevel props) (λ t. ∣ record {
  library_classes = t.library_classes;
  library_methods = t.library_methods;
  library_fields = t.library_fields;
  supertypes_in_range = t.supertypes_in_range;
  methods_in_range = t.methods_in_range;
  fields_in_range = t.fields_in_range;
  constants_of_fields = length-map (slice_set constants k c) (option_map constant_value) ∙ length-set constants k c ∙ sym (length-map constants (option_map constant_value)) ∙ t.constants_of_fields;
  acyclic = t.acyclic;
  few_classes = t.few_classes;
  few_methods = t.few_methods;
  few_fields = t.few_fields;
} ∣₁)
