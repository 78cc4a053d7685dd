-- The type that an expression has in a body of a program, by the types of the body's locals (JLS 15): its value is of its primitive type, or is
-- null or a reference to what is below its type. All its numbers are those of parts of the program.
use Rattle.std.specs.Prelude.{◌≡◌, ℕ, suc, ◌<◌, ◌⊎◌, Bool, true, false, List, [], ◌∷◌, length, replicate, Some, None, slice_get}
use Rattle.wy_kernel.specs.declared.operator.Primitive.{Primitive}
use Rattle.wy_kernel.specs.declared.operator.UnOp.{UnOp}
use Rattle.wy_kernel.specs.declared.operator.UnOp.TheVariants.{Not}
use Rattle.wy_kernel.specs.declared.operator.BinOp.{BinOp}
use Rattle.wy_kernel.specs.declared.operator.BinOp.TheVariants.{Add, Sub}
use Rattle.wy_kernel.specs.declared.types.Base.{Base}
use Rattle.wy_kernel.specs.declared.types.Ty.{Ty}
use Rattle.wy_kernel.specs.declared.types.Ty.TheVariants.{Void, Of}
use Rattle.wy_kernel.specs.declared.types.MethodForm.{MethodForm}
use Rattle.wy_kernel.specs.declared.types.MethodForm.TheVariants as kind
use Rattle.wy_kernel.specs.declared.form.CondForm.TheVariants as cond
use Rattle.wy_kernel.specs.declared.form.CallForm.{CallForm}
use Rattle.wy_kernel.specs.declared.form.CallForm.TheVariants as call
use Rattle.wy_kernel.specs.declared.form.LibOp.{LibOp}
use Rattle.wy_kernel.specs.Form.{Constant, Expression, Const, Str, Read, Set, Upd, Un, Bin, Conv, Cast, InstanceOf, Cond, New, NewArray, Call, Cat, Lib, Place, Local, Static, Field, Elem, absent, the, Row, none, more}
use Rattle.wy_kernel.specs.Program as part
use Rattle.wy_kernel.specs.Program.{Program, Body, Class, Method, object_class}
use Rattle.wy_kernel.specs.Subtyping.{IsReference, primitive_type, class_type, object_type}
use Rattle.wy_kernel.specs.Table.{IsTypeOf}
use Rattle.wy_typing.specs.Types.{boolean_type, int_type, text_type, IsValueType, IsNumber, IsPromoted, constant_type, Fits, CastsTo, Promotes, Operates, UpdatesIn, Joins, Offers}

-- ---- parts of a program

abbrev pub IsMethod : Program → ℕ → Method → Type 0
IsMethod p k m = slice_get p.methods k ≡ Some m

abbrev pub IsField : Program → ℕ → part.Field → Type 0
IsField p k f = slice_get p.fields k ≡ Some f

abbrev pub HasBody : Program → ℕ → Type 0
HasBody p k = (b : Body) × (slice_get p.bodies k ≡ Some (Some b))

-- objects of the class may be made: it is no interface, and not abstract (JLS 15.9.1)
abbrev pub IsMade : Program → ℕ → Type 0
IsMade p c = (k : Class) × (slice_get p.classes c ≡ Some k) × (k.is_interface ≡ false) × (k.is_abstract ≡ false)

-- a reference type, whose class is one of the program
abbrev pub IsReferenceOf : Program → Ty → Type 0
IsReferenceOf p ty = IsReference ty × IsTypeOf (length p.classes) ty

-- a constructor, or the unit of a class's instance initializers
abbrev pub MakesReady : MethodForm → Type 0
MakesReady form = (form ≡ kind.Constructor) ⊎ (form ≡ kind.Fields)

-- a method that isn't private is chosen by the class of its receiver
abbrev pub MayBeCalled : Program → CallForm → ℕ → Method → Type 0
MayBeCalled p call.Chosen k m = m.is_private ≡ false
MayBeCalled p call.Direct k m = HasBody p k
MayBeCalled p call.Static k m = ⊥

-- ---- the types of forms

mutual
  pub data HasType (p : Program) (locals : List Ty) : Expression → Ty → Type 0 where
    constant : {c : Constant} → HasType p locals (Const c) (constant_type c)
    text : {n : ℕ} → n < length p.fixed_texts → HasType p locals (Str n) text_type
    read : {place : Place} {ty : Ty} → IsPlace p locals place ty → HasType p locals (Read place) ty
    -- JLS 15.26.1
    assigned : {place : Place} {value : Expression} {ty : Ty} {site : ℕ} → IsPlace p locals place ty → Gives p locals value ty → HasType p locals (Set place value site) ty
    -- the old value and the right side are brought to the type of the operation, and its result to that of the place (JLS 15.26.2)
    updated : {place : Place} {value : Expression} {op : BinOp} {to from wide : Primitive} {site : ℕ} → IsPlace p locals place (primitive_type to) → HasType p locals value (primitive_type from) → UpdatesIn op to from wide → HasType p locals (Upd place op (the value) (primitive_type from) (primitive_type to) (Some wide) false site) (primitive_type to)
    -- `++` and `--` (JLS 15.14.2, 15.14.3, 15.15.1, 15.15.2)
    stepped : {place : Place} {op : BinOp} {to wide : Primitive} {gives_old : Bool} {site : ℕ} → IsPlace p locals place (primitive_type to) → (op ≡ Add) ⊎ (op ≡ Sub) → Promotes to wide → HasType p locals (Upd place op absent int_type (primitive_type to) (Some wide) gives_old site) (primitive_type to)
    -- a text is added to a String, or to an Object where the right side is a String
    extended : {place : Place} {value : Expression} {ty value_ty : Ty} {site : ℕ} → IsPlace p locals place ty → HasType p locals value value_ty → Joins ty value_ty → Fits p.classes text_type ty → HasType p locals (Upd place Add (the value) value_ty ty None false site) ty
    -- JLS 15.15.3 to 15.15.5
    signed : {op : UnOp} {operand : Expression} {q : Primitive} → (op ≡ Not → ⊥) → IsPromoted q → HasType p locals operand (primitive_type q) → HasType p locals (Un op operand) (primitive_type q)
    -- JLS 15.15.6
    negated : {operand : Expression} → HasType p locals operand boolean_type → HasType p locals (Un Not operand) boolean_type
    operated : {op : BinOp} {left right : Expression} {a b c : Ty} {site : ℕ} → HasType p locals left a → HasType p locals right b → Operates p.classes op a b c → HasType p locals (Bin op left right site) c
    converted : {operand : Expression} {to from : Primitive} → IsNumber to → IsNumber from → HasType p locals operand (primitive_type from) → HasType p locals (Conv to operand) (primitive_type to)
    -- JLS 15.16
    cast : {operand : Expression} {ty from : Ty} {site : ℕ} → IsReferenceOf p ty → HasType p locals operand from → CastsTo p.classes from ty → HasType p locals (Cast ty operand site) ty
    -- JLS 15.20.2
    tested : {operand : Expression} {ty from : Ty} → IsReferenceOf p ty → HasType p locals operand from → CastsTo p.classes from ty → HasType p locals (InstanceOf ty operand) boolean_type
    -- JLS 15.23
    both : {left right : Expression} {site : ℕ} → HasType p locals left boolean_type → HasType p locals right boolean_type → HasType p locals (Cond cond.And left (the right) absent site) boolean_type
    -- JLS 15.24
    either : {left right : Expression} {site : ℕ} → HasType p locals left boolean_type → HasType p locals right boolean_type → HasType p locals (Cond cond.Or left absent (the right) site) boolean_type
    -- JLS 15.25
    chosen : {test main other : Expression} {ty : Ty} {site : ℕ} → HasType p locals test boolean_type → IsValueType ty → IsTypeOf (length p.classes) ty → Gives p locals main ty → Gives p locals other ty → HasType p locals (Cond cond.Choice test (the main) (the other) site) ty
    -- Object has no constructor to call (JLS 15.9)
    made_plain : {site : ℕ} → IsMade p object_class → HasType p locals (New object_class None none site) object_type
    made : {c k : ℕ} {m : Method} {args : Row} {site : ℕ} → IsMade p c → IsMethod p k m → m.form ≡ kind.Constructor → m.class ≡ c → HasBody p k → GivesAll p locals args m.params → HasType p locals (New c (Some k) args site) (class_type c)
    -- sizes for the first pairs of brackets (JLS 15.10.1)
    array : {base : Base} {brackets : ℕ} {sizes : Row} {site : ℕ} (n : ℕ) → n < brackets → IsTypeOf (length p.classes) (Of base brackets) → GivesAll p locals sizes (replicate (suc n) int_type) → HasType p locals (NewArray (Of base brackets) sizes none [] site) (Of base brackets)
    -- elements in braces (JLS 10.6)
    filled : {base : Base} {brackets : ℕ} {elements : Row} {sites : List ℕ} {site : ℕ} → IsTypeOf (length p.classes) (Of base brackets) → GivesAll p locals elements (replicate (length sites) (Of base brackets)) → HasType p locals (NewArray (Of base (suc brackets)) none elements sites site) (Of base (suc brackets))
    -- JLS 15.12
    called : {k : ℕ} {m : Method} {args : Row} {site : ℕ} → IsMethod p k m → m.form ≡ kind.Static → HasBody p k → GivesAll p locals args m.params → HasType p locals (Call call.Static k absent Void args site) m.result
    called_on : {form : CallForm} {k : ℕ} {m : Method} {receiver : Expression} {ty : Ty} {args : Row} {site : ℕ} → IsMethod p k m → m.form ≡ kind.Instance → MayBeCalled p form k m → Gives p locals receiver ty → IsReferenceOf p ty → Fits p.classes ty (class_type m.class) → GivesAll p locals args m.params → HasType p locals (Call form k (the receiver) ty args site) m.result
    -- a constructor's call of another, and of the instance initializers (JLS 8.8.7.1, 12.5)
    begun : {k : ℕ} {m : Method} {receiver : Expression} {args : Row} {site : ℕ} → IsMethod p k m → MakesReady m.form → HasBody p k → Gives p locals receiver (class_type m.class) → GivesAll p locals args m.params → HasType p locals (Call call.Direct k (the receiver) (class_type m.class) args site) m.result
    -- JLS 15.18.1
    joined : {left right : Expression} {a b : Ty} {site : ℕ} → HasType p locals left a → HasType p locals right b → Joins a b → HasType p locals (Cat left right a b site) text_type
    offered : {op : LibOp} {args : Row} {params : List Ty} {ty : Ty} {site : ℕ} → Offers op params ty → GivesAll p locals args params → HasType p locals (Lib op args site) ty

  -- its value may stand where one of the type is wanted
  pub data Gives (p : Program) (locals : List Ty) : Expression → Ty → Type 0 where
    fitting : {e : Expression} {a ty : Ty} → HasType p locals e a → Fits p.classes a ty → Gives p locals e ty

  -- a place of values of the type (JLS 15.26)
  pub data IsPlace (p : Program) (locals : List Ty) : Place → Ty → Type 0 where
    local : {i : ℕ} {ty : Ty} → slice_get locals i ≡ Some ty → IsPlace p locals (Local i) ty
    static : {k : ℕ} {f : part.Field} {site : ℕ} → IsField p k f → f.is_static ≡ true → IsPlace p locals (Static k site) f.ty
    field : {object : Expression} {k : ℕ} {f : part.Field} {site : ℕ} → IsField p k f → f.is_static ≡ false → Gives p locals object (class_type f.class) → IsPlace p locals (Field object k site) f.ty
    element : {array index : Expression} {base : Base} {brackets : ℕ} {site : ℕ} → HasType p locals array (Of base (suc brackets)) → HasType p locals index int_type → IsPlace p locals (Elem array index site) (Of base brackets)

  -- as many as there are types, each for its own
  pub data GivesAll (p : Program) (locals : List Ty) : Row → List Ty → Type 0 where
    nothing : GivesAll p locals none []
    and_more : {e : Expression} {rest : Row} {ty : Ty} {types : List Ty} → Gives p locals e ty → GivesAll p locals rest types → GivesAll p locals (more e rest) (ty ∷ types)
