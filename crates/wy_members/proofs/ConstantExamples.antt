-- The constant variables of some programs, computed.
use Rattle.std.proofs.Common.{◌≡◌, ℕ, zero, suc, pos, true, false, List, [], ◌∷◌, refl, Some, None, subst}
use Rattle.std.specs.Prelude.{codes, slice_get}
use Rattle.std.specs.Int.{int_wrap}
use Rattle.wy_kernel.specs.declared.operator.Primitive.{Primitive}
use Rattle.wy_kernel.specs.declared.operator.Primitive.TheVariants as prim
use Rattle.wy_kernel.specs.declared.operator.BinOp.TheVariants.{Add}
use Rattle.wy_kernel.specs.Form as plain
use Rattle.wy_kernel.specs.Table.{ConstantValue, Simple}
use Rattle.wy_kernel.specs.Builtin as builtin
use Rattle.wy_tree.specs.Seen as token
use Rattle.wy_syntax.specs.declared.declaration.Modifier.TheVariants as modifier
use Rattle.wy_syntax.specs.Syntax.{Named, Basic, Expression, Literal, Name, Binary, Value, Placed, Member, Fields, Declared}
use Rattle.wy_constant.specs.Widening.{widens_to}
use Rattle.wy_constant.specs.Fields.{field_within}
use Rattle.wy_constant.specs.Constant.{constant, name_constant, binary_constant, constant_variable}
use Rattle.wy_members.specs.Declarations.{CompilationUnit, table, denoted}
use Rattle.wy_members.specs.Constants.{initializers, told, with_constants, without_constants, IsConstantField, by_initializer}
use Rattle.wy_members.proofs.Least.{nothing_told}

named : List ℕ → Named
named name = record { name = name; token = 0 }

placed_static_final : List Placed
placed_static_final = record { modifier = modifier.Static; token = 0 } ∷ record { modifier = modifier.Final; token = 0 } ∷ []

-- `static final ty name = e;`
fixed : Primitive → List ℕ → Expression → Member
fixed p name e = Fields placed_static_final (record { base = Basic p; token = 0; brackets = 0 }) (record { name = named name; brackets = 0; initial = Some (Value e) } ∷ [])

-- `class C { .. }`
class_of : List Member → CompilationUnit
class_of members = Declared (record { is_interface = false; modifiers = []; name = named (codes "C"); above = None; interfaces = []; members = members; end = 0 }) ∷ []

int : ℕ → Expression
int n = Literal (token.Int n true) 0

read : List ℕ → Expression
read name = Name name 0

plus_one : List ℕ → Expression
plus_one name = Binary Add (read name) (int 1) 0

number : ℕ → ConstantValue
number n = Simple (plain.Int (pos n))

-- static final int A = B + 1; static final int B = 2;
needs_a_later_one : CompilationUnit
needs_a_later_one = class_of (fixed prim.Int (codes "A") (plus_one (codes "B")) ∷ fixed prim.Int (codes "B") (int 2) ∷ [])

second_is_two : IsConstantField needs_a_later_one 2 (number 2)
unfolding table denoted initializers builtin.fields builtin.classes constant constant_variable widens_to needs_a_later_one class_of fixed placed_static_final int number named int_wrap
second_is_two = by_initializer [] (λ j w e. cc) refl

first_is_three : IsConstantField needs_a_later_one 1 (number 3)
unfolding table denoted initializers builtin.fields builtin.classes constant binary_constant name_constant field_within constant_variable widens_to needs_a_later_one class_of fixed placed_static_final plus_one read int number named int_wrap
first_is_three = by_initializer (None ∷ None ∷ Some (number 2) ∷ []) only refl
  where
    only : (j : ℕ) (w : ConstantValue) → slice_get (None ∷ None ∷ Some (number 2) ∷ []) j ≡ Some (Some w) → IsConstantField needs_a_later_one j w
    only zero w e = cc
    only (suc zero) w e = cc
    only (suc (suc zero)) w e = two w (cc)
      where
        two : (x : ConstantValue) → number 2 ≡ x → IsConstantField needs_a_later_one 2 x
        two x h = subst (λ y. IsConstantField needs_a_later_one 2 y) h second_is_two
    only (suc (suc (suc j))) w e = cc

-- static final int A = B; static final int B = A; static final int C = A + 1;
in_a_circle : CompilationUnit
in_a_circle = class_of (fixed prim.Int (codes "A") (read (codes "B")) ∷ fixed prim.Int (codes "B") (read (codes "A")) ∷ fixed prim.Int (codes "C") (plus_one (codes "A")) ∷ [])

nothing_in_a_circle : (k : ℕ) → told (with_constants (without_constants (table in_a_circle)) []) (initializers in_a_circle) k ≡ None
unfolding table denoted initializers builtin.fields builtin.classes constant binary_constant name_constant field_within constant_variable in_a_circle class_of fixed placed_static_final plus_one read int named
nothing_in_a_circle zero = refl
nothing_in_a_circle (suc zero) = refl
nothing_in_a_circle (suc (suc zero)) = refl
nothing_in_a_circle (suc (suc (suc zero))) = refl
nothing_in_a_circle (suc (suc (suc (suc k)))) = refl

none_is_constant : (k : ℕ) (v : ConstantValue) → IsConstantField in_a_circle k v → ⊥
none_is_constant = nothing_told (without_constants (table in_a_circle)) (initializers in_a_circle) nothing_in_a_circle

-- static final byte A = 200;
too_large : CompilationUnit
too_large = class_of (fixed prim.Byte (codes "A") (int 200) ∷ [])

nothing_too_large : (k : ℕ) → told (with_constants (without_constants (table too_large)) []) (initializers too_large) k ≡ None
unfolding table denoted initializers builtin.fields builtin.classes constant constant_variable widens_to too_large class_of fixed placed_static_final int named int_wrap
nothing_too_large zero = refl
nothing_too_large (suc zero) = refl
nothing_too_large (suc (suc k)) = refl

no_byte_is_constant : (k : ℕ) (v : ConstantValue) → IsConstantField too_large k v → ⊥
no_byte_is_constant = nothing_told (without_constants (table too_large)) (initializers too_large) nothing_too_large
