-- Parts of what an expression becomes, by themselves.
use Rattle.std.specs.Prelude.{ℕ, if◌then◌else◌}
use Rattle.wy_kernel.specs.declared.form.LibOp.TheVariants as lib
use Rattle.wy_kernel.specs.Form.{Lib, more, none}
use Rattle.wy_kernel.specs.Table.{Table}
use Rattle.wy_constant.specs.declared.rule.Rule.TheVariants.{BadOperand}
use Rattle.wy_elab_expr.specs.Meaning.{Meaning, Formed, Gets, ◌>>=◌, formed, give, refuse, type_of}
use Rattle.wy_elab_expr.specs.Members.{int_type}
use Rattle.wy_elab_expr.specs.Operators.{Judgement, choice_formed, choice_result, is_boolean, primitive_in}

-- the length of an array, read (JLS 10.7)
abbrev pub length_read : Meaning → ℕ → Gets Meaning
length_read m token = do
  array ← formed m
  give (Formed (Lib lib.ArrayLength (more array none) token) int_type)

-- `test ? a : b` where they are not all constants
abbrev pub choice_unknown : Judgement → Table → Meaning → Meaning → Meaning → ℕ → Gets Meaning
choice_unknown j t test a b token =
    if is_boolean (type_of test) then choice_formed (choice_result j t a (primitive_in (type_of a)) b (primitive_in (type_of b))) test a b token
    else refuse BadOperand token
