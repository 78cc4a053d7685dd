-- Variables and texts in memory as contracts see them.
use Rattle.std.specs.Prelude.{List, map, option_map, string_bytes}
use Rattle.wy_kernel.specs.Table.{constant_value}
use Rattle.wy_constant.specs.declared.variable.Variable as memory
use Rattle.wy_constant.specs.declared.variable.FixedText as memory_text
use Rattle.wy_constant.specs.declared.variables.Variables.{Variables}
use Rattle.wy_constant.specs.Scope.{Variable, FixedText}

abbrev pub variable_of : memory.Variable → Variable
variable_of v = record {
  name = string_bytes v.name;
  number = v.number;
  ty = v.ty;
  is_fixed = v.is_fixed;
  constant = option_map constant_value v.constant;
}

abbrev pub variables_of : Variables → List Variable
variables_of variables = map variable_of variables.list.items

abbrev pub text_of : memory_text.FixedText → FixedText
text_of t = record { units = t.units.items; token = t.token }
