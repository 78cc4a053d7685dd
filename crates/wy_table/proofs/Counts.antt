-- The lists of a class table are as long as one another where they go together.
use Rattle.std.proofs.Common.{◌≡◌, ℕ, List, length, Option, sym, ◌∙◌}
use Rattle.std.specs.Prelude.{map, option_map}
use Rattle.std.proofs.lemmas.List.{length-map}
use Rattle.std.proofs.Math.Logic.{∥∥₁_elim}
use Rattle.std.proofs.Props.{props}
use Rattle.wy_kernel.specs.declared.types.Class.{Class}
use Rattle.wy_kernel.specs.declared.types.Method.{Method}
use Rattle.wy_kernel.specs.declared.types.Field.{Field}
use Rattle.wy_kernel.specs.declared.form.Const.{Const}
use Rattle.wy_kernel.specs.View.{field_of}
use Rattle.wy_kernel.specs.Table.{table_with, constant_value, IsTable}

pub constants_of_fields : (classes : List Class) (methods : List Method) (fields : List Field) (constants : List (Option Const)) → ∥ IsTable (table_with classes methods fields constants) ∥₁ → length constants ≡ length (map field_of fields)
constants_of_fields classes methods fields constants g =
    ∥∥₁_elim g (hlevel props) (λ g'. sym (length-map constants (option_map constant_value)) ∙ g'.constants_of_fields)
