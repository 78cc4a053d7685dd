-- What names of fields, calls and `new` denote, and their forms (JLS 6.5, 15.8 to 15.12).
use Rattle.std.specs.Prelude.{ℕ, zero, suc, Bool, true, false, not, ◌&&◌, ◌||◌, ◌==◌, nat_lt, List, [], ◌∷◌, map, Option, Some, None, Result, Ok, Err, codes, bytes_eq, slice_get, if◌then◌else◌}
use Rattle.wy_kernel.specs.declared.operator.Primitive.TheVariants as prim
use Rattle.wy_kernel.specs.declared.types.Base.TheVariants.{Class as Named}
use Rattle.wy_kernel.specs.declared.types.Ty.{Ty}
use Rattle.wy_kernel.specs.declared.types.Ty.TheVariants.{Void, Of}
use Rattle.wy_kernel.specs.declared.types.MethodForm.{MethodForm}
use Rattle.wy_kernel.specs.declared.types.MethodForm.TheVariants as kind
use Rattle.wy_kernel.specs.declared.form.CallForm.{CallForm}
use Rattle.wy_kernel.specs.declared.form.CallForm.TheVariants as call
use Rattle.wy_kernel.specs.declared.form.LibOp.{LibOp}
use Rattle.wy_kernel.specs.declared.form.LibOp.TheVariants as lib
use Rattle.wy_kernel.specs.Form.{Expression, Read, New, Call, Lib, Place, Local, Static, Part, absent, the, Row, none, more}
use Rattle.wy_kernel.specs.Form as kernel
use Rattle.wy_kernel.specs.Program.{Class, Method, Field, object_class, first_source_class}
use Rattle.wy_kernel.specs.Subtyping.{primitive_type, class_type, object_type}
use Rattle.wy_kernel.specs.Table.{Table, ConstantValue}
use Rattle.wy_constant.specs.declared.rule.Rule.{Rule}
use Rattle.wy_constant.specs.declared.rule.Rule.TheVariants.{UnknownName, NotImplemented, NoMethod, BadOperand, Private, NotInStatic, NotOffered}
use Rattle.wy_constant.specs.Scope.{Scope, Variable, denoted}
use Rattle.wy_constant.specs.Fields.{class_named, field_of}
use Rattle.wy_constant.specs.Constant.{name_constant, member_constant}
use Rattle.wy_elab_expr.specs.Meaning.{Meaning, Known, Formed, type_of, text_type, Gets, give, refuse, ◌>>=◌, brought, formed}
use Rattle.wy_elab_expr.specs.Operators.{Judgement, is_void, class_of, is_interface, boolean_type}

-- ---- places, to which a value can be assigned (JLS 15.26)

-- is_fixed holds for a final variable with an initializer
pub record Spot : Type 0 where
  pub place : Place
  pub ty : Ty
  pub is_fixed : Bool

abbrev pub spot : Place → Ty → Bool → Spot
spot place ty is_fixed = record { place = place; ty = ty; is_fixed = is_fixed }

abbrev pub this_form : Expression
this_form = Read (Local 0)

abbrev pub is_outside : Scope → Bool → ℕ → Bool
is_outside s is_private class = is_private && not (class == s.class)

-- ---- fields

abbrev pub own_field : Scope → ℕ → Option Field → ℕ → Gets Spot
own_field s k None token = refuse UnknownName token
own_field s k (Some f) token =
    if is_outside s f.is_private f.class then refuse Private token
    else (if f.is_static then give (spot (Static k token) f.ty f.is_fixed)
    else (if s.has_this then give (spot (kernel.Field this_form k token) f.ty f.is_fixed) else refuse NotInStatic token))

abbrev pub own_field_named : Table → Scope → Option ℕ → ℕ → Gets Spot
own_field_named t s (Some k) token = own_field s k (slice_get t.fields k) token
own_field_named t s None token = refuse UnknownName token

abbrev pub variable_or_field : Table → Scope → List ℕ → Option Variable → ℕ → Gets Spot
variable_or_field t s name (Some v) token = give (spot (Local v.number) v.ty v.is_fixed)
variable_or_field t s name None token = own_field_named t s (field_of t s.class name) token

-- a simple name: a local, or else a field of the class
unfoldable pub named_spot : Table → Scope → List ℕ → ℕ → Gets Spot
named_spot t s name token = variable_or_field t s name (denoted s name) token

abbrev pub read_as : Option ConstantValue → Spot → ℕ → Meaning
read_as (Some c) p token = Known c token
read_as None p token = Formed (Read p.place) p.ty

unfoldable pub named : Table → Scope → List ℕ → ℕ → Gets Meaning
named t s name token = do
  p ← named_spot t s name token
  give (read_as (name_constant t s name) p token)

-- the library has no other member, and a source class no member of an unknown name
abbrev pub no_field : ℕ → Rule
no_field class = if nat_lt class first_source_class then NotOffered else UnknownName

abbrev pub static_field : Scope → ℕ → Option Field → ℕ → Gets Spot
static_field s k None token = refuse UnknownName token
static_field s k (Some f) token =
    if is_outside s f.is_private f.class then refuse Private token
    else (if f.is_static then give (spot (Static k token) f.ty f.is_fixed) else refuse NotInStatic token)

abbrev pub field_of_class : Table → Scope → ℕ → Option ℕ → ℕ → Gets Spot
field_of_class t s class (Some k) token = static_field s k (slice_get t.fields k) token
field_of_class t s class None token = refuse (no_field class) token

-- a name of java.lang that is no class of a program
abbrev pub is_library_name : List ℕ → Bool
is_library_name class = bytes_eq class (codes "Integer") || bytes_eq class (codes "Long") || bytes_eq class (codes "Math") || bytes_eq class (codes "System")

abbrev pub member_of_class : Table → Scope → List ℕ → Option ℕ → List ℕ → ℕ → ℕ → Gets Spot
member_of_class t s class (Some c) name class_token token = field_of_class t s c (field_of t c name) token
member_of_class t s class None name class_token token = if is_library_name class then refuse NotOffered token else refuse UnknownName class_token

-- a class's name with a field's name
unfoldable pub qualified_spot : Table → Scope → List ℕ → List ℕ → ℕ → ℕ → Gets Spot
qualified_spot t s class name class_token token = member_of_class t s class (class_named t.classes class) name class_token token

abbrev pub limit_or : Option ConstantValue → ℕ → Gets Meaning → Gets Meaning
limit_or (Some c) token other = give (Known c token)
limit_or None token other = other

-- MAX_VALUE and MIN_VALUE, or a static field; a constant's first token is that of the class
unfoldable pub qualified_name : Table → Scope → List ℕ → List ℕ → ℕ → ℕ → Gets Meaning
qualified_name t s class name class_token token =
    if is_library_name class then limit_or (member_constant t class name) class_token (refuse NotOffered token)
    else (do
      p ← qualified_spot t s class name class_token token
      give (read_as (member_constant t class name) p class_token))

-- a field of an object: a static one isn't read through an expression
abbrev pub object_field : Scope → Expression → ℕ → Option Field → ℕ → Gets Spot
object_field s object k None token = refuse UnknownName token
object_field s object k (Some f) token =
    if is_outside s f.is_private f.class then refuse Private token
    else (if f.is_static then refuse NotOffered token else give (spot (kernel.Field object k token) f.ty f.is_fixed))

abbrev pub field_through : Table → Scope → ℕ → Expression → Option ℕ → ℕ → Gets Spot
field_through t s class object (Some k) token = object_field s object k (slice_get t.fields k) token
field_through t s class object None token = refuse (no_field class) token

unfoldable pub field_spot : Table → Scope → Meaning → Ty → List ℕ → ℕ → Gets Spot
field_spot t s m (Of (Named c) zero) name token = do
  object ← formed m
  field_through t s c object (field_of t c name) token
field_spot t s m Void name token = refuse BadOperand token
field_spot t s m ty name token = refuse UnknownName token

-- the length of an array, or a field
abbrev pub is_length : Ty → List ℕ → Bool
is_length (Of base (suc brackets)) name = bytes_eq name (codes "length")
is_length _ name = false

unfoldable pub field_read : Table → Scope → Meaning → List ℕ → ℕ → Gets Meaning
field_read t s m name token =
    if is_length (type_of m) name then (do
      array ← formed m
      give (Formed (Lib lib.ArrayLength (more array none) token) (primitive_type prim.Int)))
    else (do
      p ← field_spot t s m (type_of m) name token
      give (Formed (Read p.place) p.ty))

-- ---- arguments

abbrev pub some_void : List Meaning → Bool
some_void [] = false
some_void (m ∷ rest) = is_void (type_of m) || some_void rest

abbrev pub types_of : List Meaning → List Ty
types_of all = map (λ m. type_of m) all

-- each argument brought to the type of its parameter
unfoldable pub brought_all : List Ty → List Meaning → Gets Row
brought_all (p ∷ ps) (m ∷ ms) = do
  e ← brought p m
  es ← brought_all ps ms
  give (more e es)
brought_all _ _ = give none

abbrev pub of_choice : Result ℕ Rule → ℕ → Gets ℕ
of_choice (Ok k) token = give k
of_choice (Err rule) token = refuse rule token

unfoldable pub method_for : Judgement → Ty → List ℕ → List Meaning → ℕ → Gets ℕ
method_for j ty name arguments token = if some_void arguments then refuse BadOperand token else of_choice (j.choice ty name (types_of arguments)) token

-- ---- calls (JLS 15.12)

-- through what a method is called: nothing, an expression, a class, or `super`
pub data Through : Type 0 where
  Nothing : Through
  Object : Expression → Through
  OfClass : Through
  Super : Through

abbrev pub is_static : MethodForm → Bool
is_static kind.Static = true
is_static _ = false

abbrev pub instance_if : Bool → Option Rule
instance_if b = if b then None else Some NotInStatic

abbrev pub broken_by : Scope → Through → Bool → Bool → Option Rule
broken_by s Nothing of_class bodiless = if of_class then None else instance_if s.has_this
broken_by s OfClass of_class bodiless = instance_if of_class
broken_by s (Object e) of_class bodiless = if of_class then Some NotOffered else None
broken_by s Super of_class bodiless =
    if s.has_this then (if of_class then Some NotOffered else (if bodiless then Some NotImplemented else None)) else Some NotInStatic

-- the rule that a call of a method breaks, if it breaks one
abbrev pub broken : Scope → Through → Method → Option Rule
broken s through m = if is_outside s m.is_private m.class then Some Private else broken_by s through (is_static m.form) m.is_abstract

abbrev pub receiver : Through → Part
receiver (Object e) = the e
receiver _ = the this_form

-- a method that isn't private is chosen by the class of its receiver, unless it is called through `super`
abbrev pub call_form : Through → Method → CallForm
call_form Super m = call.Direct
call_form through m = if m.is_private then call.Direct else call.Chosen

abbrev pub call_of : Through → ℕ → Method → Ty → Row → ℕ → Expression
call_of through k m ty arguments token =
    if is_static m.form then Call call.Static k absent Void arguments token else Call (call_form through m) k (receiver through) ty arguments token

abbrev pub called_unless : Option Rule → Through → ℕ → Method → Ty → List Meaning → ℕ → Gets Meaning
called_unless (Some rule) through k m ty arguments token = refuse rule token
called_unless None through k m ty arguments token = do
  es ← brought_all m.params arguments
  give (Formed (call_of through k m ty es token) m.result)

abbrev pub called_at : Scope → Through → ℕ → Option Method → Ty → List Meaning → ℕ → Gets Meaning
called_at s through k None ty arguments token = refuse NoMethod token
called_at s through k (Some m) ty arguments token = called_unless (broken s through m) through k m ty arguments token

-- a call of the method that a type has for the arguments
unfoldable pub called : Judgement → Table → Scope → Through → Ty → List ℕ → List Meaning → ℕ → Gets Meaning
called j t s through ty name arguments token = do
  k ← method_for j ty name arguments token
  called_at s through k (slice_get t.methods k) ty arguments token

-- ---- the library (java.lang)

pub record LibraryMethod : Type 0 where
  pub name : List ℕ
  pub params : List Ty
  pub op : LibOp
  pub outcome : Ty

abbrev pub entry : List ℕ → List Ty → LibOp → Ty → LibraryMethod
entry name params op outcome = record { name = name; params = params; op = op; outcome = outcome }

abbrev pub int_type : Ty
int_type = primitive_type prim.Int

abbrev pub long_type : Ty
long_type = primitive_type prim.Long

abbrev pub char_type : Ty
char_type = primitive_type prim.Char

-- the methods of a text
unfoldable pub text_methods : List LibraryMethod
text_methods =
    entry (codes "length") [] lib.Length int_type
    ∷ entry (codes "isEmpty") [] lib.IsEmpty boolean_type
    ∷ entry (codes "charAt") (int_type ∷ []) lib.CharAt char_type
    ∷ entry (codes "substring") (int_type ∷ []) lib.PartFrom text_type
    ∷ entry (codes "substring") (int_type ∷ int_type ∷ []) lib.Part text_type
    ∷ entry (codes "equals") (object_type ∷ []) lib.Same boolean_type
    ∷ entry (codes "compareTo") (text_type ∷ []) lib.Compare int_type
    ∷ entry (codes "toString") [] lib.Itself text_type
    ∷ []

unfoldable pub value_of_methods : List LibraryMethod
value_of_methods =
    entry (codes "valueOf") (char_type ∷ []) lib.ValueOf text_type
    ∷ entry (codes "valueOf") (int_type ∷ []) lib.ValueOf text_type
    ∷ entry (codes "valueOf") (long_type ∷ []) lib.ValueOf text_type
    ∷ entry (codes "valueOf") (boolean_type ∷ []) lib.ValueOf text_type
    ∷ []

unfoldable pub integer_methods : List LibraryMethod
integer_methods =
    entry (codes "parseInt") (text_type ∷ []) lib.ParseInt int_type
    ∷ entry (codes "toString") (int_type ∷ []) lib.IntText text_type
    ∷ []

unfoldable pub math_methods : List LibraryMethod
math_methods =
    entry (codes "abs") (int_type ∷ []) lib.Abs int_type
    ∷ entry (codes "abs") (long_type ∷ []) lib.Abs long_type
    ∷ entry (codes "max") (int_type ∷ int_type ∷ []) lib.Max int_type
    ∷ entry (codes "max") (long_type ∷ long_type ∷ []) lib.Max long_type
    ∷ entry (codes "min") (int_type ∷ int_type ∷ []) lib.Min int_type
    ∷ entry (codes "min") (long_type ∷ long_type ∷ []) lib.Min long_type
    ∷ []

abbrev pub are_below : Judgement → List Ty → List Ty → Bool
are_below j [] [] = true
are_below j (a ∷ as_) (p ∷ ps) = j.below a p && are_below j as_ ps
are_below j _ _ = false

-- the first that takes the arguments: a list has the more specific ones in front
abbrev pub applicable : Judgement → List LibraryMethod → List ℕ → List Ty → Option LibraryMethod
applicable j [] name types = None
applicable j (m ∷ rest) name types = if bytes_eq m.name name && are_below j types m.params then Some m else applicable j rest name types

abbrev pub has_name : List LibraryMethod → List ℕ → Bool
has_name [] name = false
has_name (m ∷ rest) name = bytes_eq m.name name || has_name rest name

abbrev pub front : Option Expression → Row → Row
front (Some e) rest = more e rest
front None rest = rest

abbrev pub library_form : Option LibraryMethod → Bool → Option Expression → List Meaning → ℕ → Gets Meaning
library_form (Some m) offered object arguments token = do
  es ← brought_all m.params arguments
  give (Formed (Lib m.op (front object es) token) m.outcome)
library_form None offered object arguments token = refuse (if offered then NoMethod else NotOffered) token

-- a call of a method of the library, the receiver before the arguments
unfoldable pub library_call : Judgement → List LibraryMethod → Option Expression → List ℕ → List Meaning → ℕ → Gets Meaning
library_call j methods object name arguments token =
    if some_void arguments then refuse BadOperand token
    else library_form (applicable j methods name (types_of arguments)) (has_name methods name) object arguments token

-- ---- `new` (JLS 15.9)

abbrev pub constructed : Scope → ℕ → Bool → ℕ → Option Method → List Meaning → ℕ → Gets Meaning
constructed s class is_abstract k None arguments token = refuse NoMethod token
constructed s class is_abstract k (Some m) arguments token =
    if is_outside s m.is_private m.class then refuse Private token
    else (if is_abstract then refuse NotImplemented token
    else (do
      es ← brought_all m.params arguments
      give (Formed (New class (Some k) es token) (class_type class))))

abbrev pub is_abstract : Option Class → Bool
is_abstract (Some c) = c.is_abstract
is_abstract None = false

-- Object has no constructor to call
abbrev pub new_plain : List Meaning → ℕ → Gets Meaning
new_plain [] token = give (Formed (New object_class None none token) object_type)
new_plain (m ∷ rest) token = refuse (if some_void (m ∷ rest) then BadOperand else NoMethod) token

unfoldable pub created : Judgement → Table → Scope → ℕ → List Meaning → ℕ → Gets Meaning
created j t s class arguments token =
    if class == object_class then new_plain arguments token
    else (if is_interface (class_of t class) then (if some_void arguments then refuse BadOperand token else refuse NotImplemented token)
    else (do
      k ← method_for j (class_type class) (codes "new") arguments token
      constructed s class (is_abstract (class_of t class)) k (slice_get t.methods k) arguments token))
