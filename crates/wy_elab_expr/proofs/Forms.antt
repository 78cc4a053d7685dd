-- The forms of some expressions, computed.
use Rattle.std.proofs.Common.{◌≡◌, ℕ, zero, Bool, true, false, List, [], ◌∷◌, refl, Some, None, Ok, Err}
use Rattle.std.specs.Prelude.{codes}
use Rattle.wy_kernel.specs.declared.operator.Primitive.TheVariants as prim
use Rattle.wy_kernel.specs.declared.operator.BinOp.TheVariants.{Add}
use Rattle.wy_kernel.specs.declared.types.Base.TheVariants.{Primitive as Basic}
use Rattle.wy_kernel.specs.declared.types.Ty.{Ty}
use Rattle.wy_kernel.specs.declared.types.Ty.TheVariants.{Of}
use Rattle.wy_kernel.specs.declared.form.CondForm.TheVariants as cond
use Rattle.wy_kernel.specs.Form as kernel
use Rattle.wy_kernel.specs.Program.{same_primitive, primitive_code}
use Rattle.wy_kernel.specs.Table.{Table}
use Rattle.wy_kernel.specs.Subtyping.{primitive_type}
use Rattle.wy_constant.specs.Widening.{widens_to}
use Rattle.wy_constant.specs.declared.rule.Rule.TheVariants.{NoMethod, UnknownName, BadOperand, BadAssign, NotInStatic}
use Rattle.wy_tree.specs.Seen as token
use Rattle.wy_syntax.specs.Syntax as source
use Rattle.wy_constant.specs.Refusal.{refused}
use Rattle.wy_constant.specs.Scope.{Scope, body_of, with_variable}
use Rattle.wy_constant.specs.Fields.{field_within}
use Rattle.wy_constant.specs.Constant.{choice_type, choice_constant, name_constant}
use Rattle.wy_elab_expr.specs.Meaning.{Formed, converted_form, brought, text_type}
use Rattle.wy_elab_expr.specs.Operators.{Judgement, is_assignable, operand_types, binary_of, choice_of}
use Rattle.wy_elab_expr.specs.Members.{named_spot, named}
use Rattle.wy_elab_expr.specs.Elaboration.{elaborated, target, assigned, assigned_value, literal_meaning, stepped}

no_classes : Table
no_classes = record { classes = []; methods = []; fields = []; constants = [] }

below : Ty → Ty → Bool
below (Of (Basic p) zero) (Of (Basic q) zero) = widens_to p q
below _ _ = false

-- of the primitive types alone
numbers : Judgement
numbers = record { below = below; choice = λ ty name arguments. Err NoMethod }

-- a static body with an int i, a long l, a byte b, a short s, a boolean z and a final int k
locals : Scope
locals =
    with_variable (with_variable (with_variable (with_variable (with_variable (with_variable (body_of 18 false)
    (codes "i") (primitive_type prim.Int) false None) (codes "l") (primitive_type prim.Long) false None) (codes "b") (primitive_type prim.Byte) false None)
    (codes "s") (primitive_type prim.Short) false None) (codes "z") (primitive_type prim.Bool) false None) (codes "k") (primitive_type prim.Int) true None

name : List ℕ → ℕ → source.Expression
name n at = source.Name n at

-- i + l: a Conv stands where the type changes
sum : elaborated numbers no_classes locals (source.Binary Add (name (codes "i") 0) (name (codes "l") 2) 1) []
    ≡ Ok (Formed (kernel.Bin Add (kernel.Conv prim.Long (kernel.Read (kernel.Local 0))) (kernel.Read (kernel.Local 1)) 1) (primitive_type prim.Long), [])
unfolding elaborated named named_spot name_constant field_within binary_of operand_types brought converted_form same_primitive primitive_code locals name no_classes numbers
sum = refl

-- z ? b : s is a short
choice : elaborated numbers no_classes locals (source.Choice (name (codes "z") 0) (name (codes "b") 2) (name (codes "s") 4) 1) []
    ≡ Ok (Formed (kernel.Cond cond.Choice (kernel.Read (kernel.Local 4)) (kernel.the (kernel.Conv prim.Short (kernel.Read (kernel.Local 2)))) (kernel.the (kernel.Read (kernel.Local 3))) 1) (primitive_type prim.Short), [])
unfolding elaborated named named_spot name_constant field_within choice_of choice_constant choice_type brought converted_form same_primitive primitive_code locals name no_classes numbers
choice = refl

-- "a" + i holds a text, which keeps its first token
text : elaborated numbers no_classes locals (source.Binary Add (source.Literal (token.Text (97 ∷ [])) 7) (name (codes "i") 9) 8) []
    ≡ Ok (Formed (kernel.Cat (kernel.Str 0) (kernel.Read (kernel.Local 0)) text_type (primitive_type prim.Int) 8) text_type, record { units = 97 ∷ []; token = 7 } ∷ [])
unfolding elaborated literal_meaning named named_spot name_constant field_within binary_of brought converted_form same_primitive primitive_code locals name no_classes numbers
text = refl

-- an operand that denotes nothing comes before a bad operator
unknown_first : elaborated numbers no_classes locals (source.Binary Add (name (codes "z") 0) (name (codes "y") 2) 1) [] ≡ Err (refused UnknownName 2)
unfolding elaborated named named_spot name_constant field_within locals name no_classes numbers
unknown_first = refl

bad_operand : elaborated numbers no_classes locals (source.Binary Add (name (codes "z") 0) (name (codes "i") 2) 1) [] ≡ Err (refused BadOperand 1)
unfolding elaborated named named_spot name_constant field_within binary_of operand_types locals name no_classes numbers
bad_operand = refl

-- i = l, and k = i where k is final with an initializer
too_wide : elaborated numbers no_classes locals (source.Assign (name (codes "i") 0) (name (codes "l") 2) 1) [] ≡ Err (refused BadAssign 1)
unfolding elaborated target assigned assigned_value is_assignable named named_spot name_constant field_within widens_to below locals name no_classes numbers
too_wide = refl

final_assigned : elaborated numbers no_classes locals (source.Assign (name (codes "k") 0) (name (codes "i") 2) 1) [] ≡ Err (refused BadAssign 1)
unfolding elaborated target assigned named named_spot name_constant field_within locals name no_classes numbers
final_assigned = refl

-- `this` in a static body
no_this : elaborated numbers no_classes locals (source.This 3) [] ≡ Err (refused NotInStatic 3)
unfolding elaborated locals
no_this = refl

-- i++
step : elaborated numbers no_classes locals (source.Step false true (name (codes "i") 0) 1) []
    ≡ Ok (Formed (kernel.Upd (kernel.Local 0) Add kernel.absent (primitive_type prim.Int) (primitive_type prim.Int) (Some prim.Int) true 1) (primitive_type prim.Int), [])
unfolding elaborated target stepped named_spot field_within locals name no_classes numbers
step = refl
