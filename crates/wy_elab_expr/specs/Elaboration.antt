-- From source expressions to kernel forms with their types: one rule a form, operands from left to right before the form's own rules (JLS 15.7).
use Rattle.std.specs.Prelude.{ℕ, zero, suc, ◌+◌, Bool, true, false, not, ◌&&◌, ◌||◌, List, [], ◌∷◌, length, Option, Some, None, is_some, option_map, option_and_then, unwrap_or, codes, bytes_eq, slice_get, if◌then◌else◌}
use Rattle.wy_kernel.specs.declared.operator.Primitive.{Primitive}
use Rattle.wy_kernel.specs.declared.operator.Primitive.TheVariants as prim
use Rattle.wy_kernel.specs.declared.operator.BinOp.{BinOp}
use Rattle.wy_kernel.specs.declared.operator.BinOp.TheVariants.{Add, Sub}
use Rattle.wy_kernel.specs.declared.types.Base.TheVariants.{Primitive as Basic, Class as Named}
use Rattle.wy_kernel.specs.declared.types.Ty.{Ty}
use Rattle.wy_kernel.specs.declared.types.Ty.TheVariants.{Void, Null, Of}
use Rattle.wy_kernel.specs.declared.form.CondForm.TheVariants as cond
use Rattle.wy_kernel.specs.declared.form.LibOp.TheVariants as lib
use Rattle.wy_kernel.specs.Form as kernel
use Rattle.wy_kernel.specs.Program.{object_class}
use Rattle.wy_kernel.specs.Subtyping.{class_type}
use Rattle.wy_kernel.specs.Table.{Table}
use Rattle.wy_tree.specs.Seen.{Tok}
use Rattle.wy_syntax.specs.Syntax.{Expression, WrittenType, Basic as written_basic, Class as written_class, Row, none, more, Initial, Value, Listed, Elements, no_more, element}
use Rattle.wy_syntax.specs.Syntax as source
use Rattle.wy_constant.specs.declared.rule.Rule.TheVariants.{UnknownName, NoMethod, BadOperand, BadAssign, NotInStatic, NotOffered}
use Rattle.wy_constant.specs.Scope.{Scope}
use Rattle.wy_constant.specs.Fields.{class_named, field_of, superclass}
use Rattle.wy_constant.specs.Constant.{literal, can_name_class}
use Rattle.wy_elab_expr.specs.Meaning.{Meaning, Known, Formed, type_of, Gets, give, refuse, ◌>>=◌, brought, formed}
use Rattle.wy_elab_expr.specs.Operators.{Judgement, is_void, is_text_type, number_type, primitive_in, is_assignable, unary_of, binary_of, operand_types, lazy_of, choice_of, cast_of, instance_of}
use Rattle.wy_elab_expr.specs.Members.{Spot, spot, this_form, named_spot, named, qualified_spot, qualified_name, field_spot, field_read, object_field, no_field, is_library_name, Nothing, Object, OfClass, Super, called, LibraryMethod, text_methods, value_of_methods, integer_methods, math_methods, has_name, library_call, created, some_void, int_type}

-- ---- written types

abbrev pub named_type : Option ℕ → ℕ → ℕ → Gets Ty
named_type (Some c) brackets token = give (Of (Named c) brackets)
named_type None brackets token = refuse UnknownName token

abbrev pub type_with : Table → source.Base → ℕ → ℕ → Gets Ty
type_with t (source.Basic p) brackets token = give (Of (Basic p) brackets)
type_with t (source.Class name) brackets token = named_type (class_named t.classes name) brackets token

unfoldable pub type_written : Table → WrittenType → Gets Ty
type_written t ty = type_with t ty.base ty.brackets ty.token

-- ---- literals

abbrev pub literal_or_null : Option Meaning → Gets Meaning
literal_or_null (Some m) = give m
literal_or_null None = give (Formed (kernel.Const kernel.Null) Null)

unfoldable pub literal_meaning : Tok → ℕ → Gets Meaning
literal_meaning value token = literal_or_null (option_map (λ c. Known c token) (literal value))

-- ---- names before a dot

-- a class that a name denotes, with the name's token
pub record ClassName : Type 0 where
  pub name : List ℕ
  pub token : ℕ

abbrev pub names_class : Table → Scope → List ℕ → Bool
names_class t s name = can_name_class t s name && (is_some (class_named t.classes name) || is_library_name name)

abbrev pub class_in : Table → Scope → Expression → Option ClassName
class_in t s (source.Name name token) = if names_class t s name then Some (record { name = name; token = token }) else None
class_in t s _ = None

-- `System.in` and `System.out`
pub data Stream : Type 0 where
  Input : Stream
  Output : Stream

abbrev pub stream_named : List ℕ → Option Stream
stream_named name = if bytes_eq name (codes "in") then Some Input else (if bytes_eq name (codes "out") then Some Output else None)

abbrev pub is_system : Option ClassName → Bool
is_system (Some c) = bytes_eq c.name (codes "System")
is_system None = false

abbrev pub stream_in : Table → Scope → Expression → Option Stream
stream_in t s (source.Field object name token) = if is_system (class_in t s object) then stream_named name else None
stream_in t s _ = None

-- ---- calls

abbrev pub class_methods : List ℕ → List LibraryMethod
class_methods class =
    if bytes_eq class (codes "Integer") then integer_methods
    else (if bytes_eq class (codes "Math") then math_methods
    else (if bytes_eq class (codes "String") then value_of_methods else []))

-- a method of an object has no class to be called on
abbrev pub is_of_texts : List ℕ → List ℕ → Bool
is_of_texts class name = bytes_eq class (codes "String") && has_name text_methods name && not (has_name value_of_methods name)

abbrev pub called_on_known : Judgement → Table → Scope → Option ℕ → List ℕ → List Meaning → ℕ → Gets Meaning
called_on_known j t s (Some c) name arguments token = called j t s OfClass (class_type c) name arguments token
called_on_known j t s None name arguments token = refuse NotOffered token

unfoldable pub called_on_class : Judgement → Table → Scope → ClassName → List ℕ → List Meaning → ℕ → Gets Meaning
called_on_class j t s class name arguments token =
    if is_of_texts class.name name then refuse (if some_void arguments then BadOperand else NotInStatic) token
    else (if is_library_name class.name || bytes_eq class.name (codes "String") then library_call j (class_methods class.name) None name arguments token
    else called_on_known j t s (class_named t.classes class.name) name arguments token)

unfoldable pub called_on : Judgement → Table → Scope → Meaning → List ℕ → List Meaning → ℕ → Gets Meaning
called_on j t s m name arguments token =
    if is_void (type_of m) then refuse BadOperand token
    else (if is_text_type (type_of m) then (do
      object ← formed m
      library_call j text_methods (Some object) name arguments token)
    else (do
      object ← formed m
      called j t s (Object object) (type_of m) name arguments token))

-- the next byte of the input
abbrev pub byte_read : List ℕ → List Meaning → ℕ → Gets Meaning
byte_read name [] token = if bytes_eq name (codes "read") then give (Formed (kernel.Lib lib.ReadByte kernel.none token) int_type) else refuse NotOffered token
byte_read name (m ∷ rest) token = refuse (if bytes_eq name (codes "read") then NoMethod else NotOffered) token

-- what is printed: byte and short as int, other values in their own type; a literal null or chars aren't offered
abbrev pub printed_type : Ty → Ty
printed_type (Of (Basic prim.Byte) zero) = int_type
printed_type (Of (Basic prim.Short) zero) = int_type
printed_type ty = ty

abbrev pub is_printed : Ty → Bool
is_printed Null = false
is_printed (Of (Basic prim.Char) (suc zero)) = false
is_printed ty = true

pub record Printed : Type 0 where
  pub form : kernel.Expression
  pub ty : Ty

unfoldable pub printed : Meaning → ℕ → Gets Printed
printed m token =
    if is_void (type_of m) then refuse BadOperand token
    else (if is_printed (type_of m) then (do
      e ← brought (printed_type (type_of m)) m
      give (record { form = e; ty = printed_type (type_of m) }))
    else refuse NotOffered token)

abbrev pub is_print : List ℕ → Bool
is_print name = bytes_eq name (codes "print") || bytes_eq name (codes "println")

abbrev pub some_printed : Printed → Gets (Option Printed)
some_printed p = give (Some p)

-- what a call of `print` or `println` writes: a value, or nothing but the end of a line
unfoldable pub print_operand : List ℕ → List Meaning → ℕ → Gets (Option Printed)
print_operand name [] token = if bytes_eq name (codes "println") then give None else refuse (if is_print name then NoMethod else NotOffered) token
print_operand name (m ∷ []) token =
    if is_print name then printed m token >>= some_printed
    else refuse (if is_void (type_of m) then BadOperand else NotOffered) token
print_operand name arguments token = refuse (if some_void arguments then BadOperand else (if is_print name then NoMethod else NotOffered)) token

-- a call of `print` or `println` has no value
abbrev pub print_call : List ℕ → List Meaning → ℕ → Gets Meaning
print_call name arguments token = do
  p ← print_operand name arguments token
  give (Formed (kernel.Const kernel.Null) Void)

abbrev pub called_on_stream : Stream → List ℕ → List Meaning → ℕ → Gets Meaning
called_on_stream Input name arguments token = if some_void arguments then refuse BadOperand token else byte_read name arguments token
called_on_stream Output name arguments token = print_call name arguments token

-- ---- `super`

abbrev pub above : Table → Scope → ℕ
above t s = unwrap_or (superclass (slice_get t.classes s.class)) object_class

abbrev pub super_field_named : Table → Scope → Option ℕ → ℕ → Gets Spot
super_field_named t s (Some k) token = object_field s this_form k (slice_get t.fields k) token
super_field_named t s None token = refuse (no_field (above t s)) token

unfoldable pub super_spot : Table → Scope → List ℕ → ℕ → Gets Spot
super_spot t s name token = if s.has_this then super_field_named t s (field_of t (above t s) name) token else refuse NotInStatic token

-- ---- elements and sizes of arrays

abbrev pub is_int_number : Option Primitive → Bool
is_int_number (Some prim.Int) = true
is_int_number _ = false

abbrev pub is_index : Ty → Bool
is_index ty = is_int_number (number_type ty)

abbrev pub element_of : Ty → Option Ty
element_of (Of base (suc brackets)) = Some (Of base brackets)
element_of ty = None

abbrev pub element_at : Option Ty → Meaning → Meaning → ℕ → Gets Spot
element_at None array index token = refuse BadOperand token
element_at (Some ty) array index token =
    if is_index (type_of index) then (do
      a ← formed array
      i ← brought int_type index
      give (spot (kernel.Elem a i token) ty false))
    else refuse BadOperand token

unfoldable pub element_spot : Meaning → Meaning → ℕ → Gets Spot
element_spot array index token = element_at (element_of (type_of array)) array index token

unfoldable pub sizes_of : List Meaning → ℕ → Gets kernel.Row
sizes_of [] token = give kernel.none
sizes_of (m ∷ rest) token =
    if is_index (type_of m) then (do
      e ← brought int_type m
      es ← sizes_of rest token
      give (kernel.more e es))
    else refuse BadOperand token

abbrev pub with_brackets : Ty → ℕ → Ty
with_brackets (Of base n) more_brackets = Of base (n + more_brackets)
with_brackets ty more_brackets = ty

-- ---- assignment (JLS 15.14, 15.15, 15.26)

-- a value for a variable of a type
unfoldable pub assigned_value : Judgement → Ty → Meaning → ℕ → Gets kernel.Expression
assigned_value j ty m token =
    if is_void (type_of m) then refuse BadOperand token
    else (if is_assignable j ty m then brought ty m else refuse BadAssign token)

unfoldable pub assigned : Judgement → Option Spot → Meaning → ℕ → Gets Meaning
assigned j None m token = refuse (if is_void (type_of m) then BadOperand else BadAssign) token
assigned j (Some p) m token =
    if p.is_fixed && not (is_void (type_of m)) then refuse BadAssign token
    else (do
      e ← assigned_value j p.ty m token
      give (Formed (kernel.Set p.place e token) p.ty))

abbrev pub is_object_type : Ty → Bool
is_object_type (Of (Named zero) zero) = true
is_object_type ty = false

-- a text is added to a String, or to an Object where the right side is a String
abbrev pub adds_text : BinOp → Ty → Ty → Bool
adds_text Add left right = is_text_type left || is_object_type left && is_text_type right
adds_text op left right = false

abbrev pub updated_in : BinOp → Option Primitive → Spot → Meaning → ℕ → Gets Meaning
updated_in op wide p m token =
    if p.is_fixed then refuse BadAssign token
    else (do
      e ← formed m
      give (Formed (kernel.Upd p.place op (kernel.the e) (type_of m) p.ty wide false token) p.ty))

abbrev pub left_primitive : Judgement → Table → BinOp → Ty → Ty → Option Primitive
left_primitive j t op left right = option_and_then (λ o. primitive_in o.left) (operand_types j t op left right)

-- the operation is done in the type that the left side is promoted to
abbrev pub updated_by : Option Primitive → BinOp → Spot → Meaning → ℕ → Gets Meaning
updated_by None op p m token = refuse BadOperand token
updated_by (Some q) op p m token = updated_in op (Some q) p m token

unfoldable pub updated : Judgement → Table → BinOp → Option Spot → Meaning → ℕ → Gets Meaning
updated j t op None m token = refuse (if is_void (type_of m) then BadOperand else BadAssign) token
updated j t op (Some p) m token =
    if is_void (type_of m) then refuse BadOperand token
    else (if adds_text op p.ty (type_of m) then updated_in op None p m token
    else updated_by (left_primitive j t op p.ty (type_of m)) op p m token)

abbrev pub stepped_in : Option Primitive → BinOp → Bool → Spot → ℕ → Gets Meaning
stepped_in None op gives_old p token = refuse BadOperand token
stepped_in (Some wide) op gives_old p token =
    if p.is_fixed then refuse BadAssign token
    else give (Formed (kernel.Upd p.place op kernel.absent int_type p.ty (Some wide) gives_old token) p.ty)

-- `++` and `--`
unfoldable pub stepped : Bool → Bool → Option Spot → ℕ → Gets Meaning
stepped is_before is_up None token = refuse BadOperand token
stepped is_before is_up (Some p) token = stepped_in (number_type p.ty) (if is_up then Add else Sub) (not is_before) p token

abbrev pub read : Spot → Meaning
read p = Formed (kernel.Read p.place) p.ty

-- a field of the class above, read
abbrev pub super_read : Table → Scope → List ℕ → ℕ → Gets Meaning
super_read t s name token = do
  p ← super_spot t s name token
  give (read p)

abbrev pub is_an_array : Ty → Bool
is_an_array ty = is_some (element_of ty)

-- the field of an object, but not the length of an array
unfoldable pub field_target : Table → Scope → Meaning → List ℕ → ℕ → Gets (Option Spot)
field_target t s m name token =
    if is_an_array (type_of m) && bytes_eq name (codes "length") then give None
    else (do
      p ← field_spot t s m (type_of m) name token
      give (Some p))

abbrev pub is_limit : List ℕ → List ℕ → Bool
is_limit class name = (bytes_eq class (codes "Integer") || bytes_eq class (codes "Long")) && (bytes_eq name (codes "MAX_VALUE") || bytes_eq name (codes "MIN_VALUE"))

unfoldable pub class_target : Table → Scope → ClassName → List ℕ → ℕ → Gets (Option Spot)
class_target t s class name token =
    if is_limit class.name name then give None
    else (do
      p ← qualified_spot t s class.name name class.token token
      give (Some p))

abbrev pub just : Gets Spot → Gets (Option Spot)
just m = do
  p ← m
  give (Some p)

abbrev pub class_for_new : Option ℕ → ℕ → Gets ℕ
class_for_new (Some c) token = give c
class_for_new None token = refuse UnknownName token

-- the elements of an initializer, and the tokens before them
pub record Listing : Type 0 where
  pub forms : kernel.Row
  pub sites : List ℕ

abbrev pub listing : kernel.Row → List ℕ → Listing
listing forms sites = record { forms = forms; sites = sites }

abbrev pub or_type : Option Ty → ℕ → Gets Ty
or_type (Some ty) token = give ty
or_type None token = refuse BadAssign token

-- an expression of a form that can be a variable; parentheses are none
abbrev pub is_place : Expression → Bool
is_place (source.Name name token) = true
is_place (source.Group inner token) = is_place inner
is_place (source.Field object name token) = true
is_place (source.SuperField name token) = true
is_place (source.Element array index token) = true
is_place _ = false

-- ---- the table

unfoldable mutual
  pub elaborated : Judgement → Table → Scope → Expression → Gets Meaning
  elaborated j t s (source.Literal value token) = literal_meaning value token
  elaborated j t s (source.Name name token) = named t s name token
  elaborated j t s (source.This token) = if s.has_this then give (Formed this_form (class_type s.class)) else refuse NotInStatic token
  elaborated j t s (source.Group inner token) = elaborated j t s inner
  elaborated j t s (source.Invoke name args token) = do
    arguments ← elaborated_all j t s args
    called j t s Nothing (class_type s.class) name arguments token
  elaborated j t s (source.Field object name token) =
      elim (class_in t s object) [
        | Some c ↦ qualified_name t s c.name name c.token token
        | None ↦ (do
          m ← elaborated j t s object
          field_read t s m name token)
      ]
  elaborated j t s (source.InvokeOn object name args token) =
      elim (stream_in t s object) [
        | Some stream ↦ (do
          arguments ← elaborated_all j t s args
          called_on_stream stream name arguments token)
        | None ↦ elim (class_in t s object) [
          | Some c ↦ (do
            arguments ← elaborated_all j t s args
            called_on_class j t s c name arguments token)
          | None ↦ (do
            m ← elaborated j t s object
            arguments ← elaborated_all j t s args
            called_on j t s m name arguments token)
        ]
      ]
  elaborated j t s (source.SuperField name token) = do
    p ← super_spot t s name token
    give (read p)
  elaborated j t s (source.SuperInvoke name args token) = do
    arguments ← elaborated_all j t s args
    called j t s Super (class_type (above t s)) name arguments token
  elaborated j t s (source.Element array index token) = do
    a ← elaborated j t s array
    i ← elaborated j t s index
    p ← element_spot a i token
    give (read p)
  elaborated j t s (source.NewObject class args token) = do
    c ← class_for_new (class_named t.classes class.name) class.token
    arguments ← elaborated_all j t s args
    created j t s c arguments token
  elaborated j t s (source.NewArray base base_token sizes brackets token) = do
    ty ← type_with t base 0 base_token
    ms ← elaborated_all j t s sizes
    dims ← sizes_of ms token
    give (Formed (kernel.NewArray (with_brackets ty (length ms + brackets)) dims kernel.none [] token) (with_brackets ty (length ms + brackets)))
  elaborated j t s (source.NewList base base_token brackets elements brace token) = do
    ty ← type_with t base brackets base_token
    inner ← or_type (element_of ty) brace
    all ← elements_of j t s inner elements
    give (Formed (kernel.NewArray ty kernel.none all.forms all.sites token) ty)
  elaborated j t s (source.Unary op operand token) = do
    m ← elaborated j t s operand
    unary_of op m token
  elaborated j t s (source.Step is_before is_up operand token) = do
    p ← (if is_place operand then target j t s operand else elaborated j t s operand >>= λ m. give None)
    stepped is_before is_up p token
  elaborated j t s (source.Binary op left right token) = do
    a ← elaborated j t s left
    b ← elaborated j t s right
    binary_of j t op a b token
  elaborated j t s (source.Both left right token) = do
    a ← elaborated j t s left
    b ← elaborated j t s right
    lazy_of cond.And (λ p q. p && q) a b token
  elaborated j t s (source.Either left right token) = do
    a ← elaborated j t s left
    b ← elaborated j t s right
    lazy_of cond.Or (λ p q. p || q) a b token
  elaborated j t s (source.InstanceOf left ty token) = do
    m ← elaborated j t s left
    to ← type_written t ty
    instance_of j t to m token
  elaborated j t s (source.Cast ty operand token) = do
    to ← type_written t ty
    m ← elaborated j t s operand
    cast_of j t to m token
  elaborated j t s (source.Choice test main other token) = do
    z ← elaborated j t s test
    a ← elaborated j t s main
    b ← elaborated j t s other
    choice_of j t z a b token
  elaborated j t s (source.Assign left value token) = do
    p ← target j t s left
    m ← elaborated j t s value
    assigned j p m token
  elaborated j t s (source.Update op left value token) = do
    p ← target j t s left
    m ← elaborated j t s value
    updated j t op p m token
  elaborated j t s source.Wrong = refuse BadOperand 0

  -- expressions one after another
  pub elaborated_all : Judgement → Table → Scope → Row → Gets (List Meaning)
  elaborated_all j t s none = give []
  elaborated_all j t s (more e rest) = do
    m ← elaborated j t s e
    ms ← elaborated_all j t s rest
    give (m ∷ ms)

  -- the variable that such an expression is, if it is one
  pub target : Judgement → Table → Scope → Expression → Gets (Option Spot)
  target j t s (source.Name name token) = just (named_spot t s name token)
  target j t s (source.Group inner token) = target j t s inner
  target j t s (source.Field object name token) =
      elim (class_in t s object) [
        | Some c ↦ class_target t s c name token
        | None ↦ (do
          m ← elaborated j t s object
          field_target t s m name token)
      ]
  target j t s (source.SuperField name token) = just (super_spot t s name token)
  target j t s (source.Element array index token) = do
    a ← elaborated j t s array
    i ← elaborated j t s index
    just (element_spot a i token)
  target j t s e = give None

  -- the elements of an array initializer, each of a type
  pub elements_of : Judgement → Table → Scope → Ty → Elements → Gets Listing
  elements_of j t s ty no_more = give (listing kernel.none [])
  elements_of j t s ty (element before first rest) = do
    e ← initialized j t s ty first before
    all ← elements_of j t s ty rest
    give (listing (kernel.more e all.forms) (before ∷ all.sites))

  -- what a variable or an element of a type is given first, by the token of its Set
  pub initialized : Judgement → Table → Scope → Ty → Initial → ℕ → Gets kernel.Expression
  initialized j t s ty (Value e) token = do
    m ← elaborated j t s e
    assigned_value j ty m token
  initialized j t s ty (Listed elements brace) token = do
    inner ← or_type (element_of ty) brace
    all ← elements_of j t s inner elements
    give (kernel.NewArray ty kernel.none all.forms all.sites brace)

-- ---- an expression as what stands around it takes it

pub record Typed : Type 0 where
  pub form : kernel.Expression
  pub ty : Ty

unfoldable pub typed : Judgement → Table → Scope → Expression → Gets Typed
typed j t s e = do
  m ← elaborated j t s e
  form ← formed m
  give (record { form = form; ty = type_of m })
