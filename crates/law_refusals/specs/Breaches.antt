-- The ways in which an expression itself breaks a rule, each at its token, by what its operands are found to be (JLS 15).
-- The token is that of the name, the `(` of a call, the operator, or the first token of what has none of these.
use Rattle.std.specs.Prelude.{◌≡◌, ℕ, ◌<◌, ◌≤◌, Bool, true, false, List, Some, None, slice_get, codes, bytes_eq}
use Rattle.std.specs.List.{Contains}
use Rattle.wy_kernel.specs.declared.operator.Primitive.TheVariants as prim
use Rattle.wy_kernel.specs.declared.operator.UnOp.{UnOp}
use Rattle.wy_kernel.specs.declared.operator.BinOp.{BinOp}
use Rattle.wy_kernel.specs.declared.types.Base.TheVariants.{Primitive as Basic}
use Rattle.wy_kernel.specs.declared.types.Ty.{Ty}
use Rattle.wy_kernel.specs.declared.types.Ty.TheVariants.{Void, Null, Of}
use Rattle.wy_kernel.specs.declared.types.MethodForm.TheVariants as kind
use Rattle.wy_kernel.specs.Program.{Class, Method, Field as FieldRow, object_class, first_source_class}
use Rattle.wy_kernel.specs.Subtyping.{class_type}
use Rattle.wy_kernel.specs.Table.{Table}
use Rattle.wy_syntax.specs.Syntax.{Named, WrittenType, Expression, Row, Initial, Value, Listed, Elements, Name, This, Invoke, Field, InvokeOn, SuperField, SuperInvoke, Element, NewObject, NewArray, NewList, Unary, Step, Binary, Both, Either, InstanceOf, Cast, Choice, Assign, Update}
use Rattle.wy_syntax.specs.Syntax as source
use Rattle.wy_constant.specs.declared.rule.Rule.{Rule}
use Rattle.wy_constant.specs.declared.rule.Rule.TheVariants as rule
use Rattle.wy_constant.specs.Scope.{Scope}
use Rattle.wy_constant.specs.Fields.{class_named}
use Rattle.wy_constant.specs.Constant.{member_constant}
use Rattle.wy_overloads.specs.Choice.{Refused}
use Rattle.wy_elab_expr.specs.Meaning.{Meaning, type_of}
use Rattle.wy_elab_expr.specs.Operators.{Judgement, boolean_type}
use Rattle.wy_elab_expr.specs.Members.{Spot, LibraryMethod, types_of, has_name, is_library_name, is_length}
use Rattle.wy_elab_expr.specs.Elaboration.{ClassName, class_in, Input, Output, stream_in, is_of_texts, is_print, element_of, above}
use Rattle.wy_typing.specs.Types.{IsNullable}
use Rattle.law_refusals.specs.Operands.{IsNumber, IsIndex, IsInterface, CastsTo, MayAssign, TakesOne, Takes, TakesInto, Chooses}
use Rattle.law_refusals.specs.Found.{IsFound, AreFound, Denotes, IsType, IsNoType, Fills}
use Rattle.law_refusals.specs.Calls.{IsNoLocal, IsField, HasNoField, IsHidden, NamesClass, IsObject, Way, Plainly, OfObject, OfClass, OfSuper, HaveValues, Asks, Means, IsLibraryCall, Offers}

-- ---- what stands where

-- the expression writes this type, whose first token has this number
pub data Writes : Expression → source.Base → ℕ → Type 0 where
  sized : {base : source.Base} {at brackets token : ℕ} {sizes : Row} → Writes (NewArray base at sizes brackets token) base at
  filled : {base : source.Base} {at brackets brace token : ℕ} {elements : Elements} → Writes (NewList base at brackets elements brace token) base at
  tested : {left : Expression} {ty : WrittenType} {token : ℕ} → Writes (InstanceOf left ty token) ty.base ty.token
  cast : {ty : WrittenType} {operand : Expression} {token : ℕ} → Writes (Cast ty operand token) ty.base ty.token
  created : {class : Named} {args : Row} {token : ℕ} → Writes (NewObject class args token) (source.Class class.name) class.token

-- the expression is a call with these arguments
pub data Passes : Expression → Row → ℕ → Type 0 where
  plain : {name : List ℕ} {args : Row} {token : ℕ} → Passes (Invoke name args token) args token
  of_object : {object : Expression} {name : List ℕ} {args : Row} {token : ℕ} → Passes (InvokeOn object name args token) args token
  of_super : {name : List ℕ} {args : Row} {token : ℕ} → Passes (SuperInvoke name args token) args token
  by_new : {class : Named} {args : Row} {token : ℕ} → Passes (NewObject class args token) args token

-- the expression needs the value of this operand, of whatever type
pub data Needs : Expression → Expression → ℕ → Type 0 where
  cast : {ty : WrittenType} {operand : Expression} {token : ℕ} → Needs (Cast ty operand token) operand token
  tested : {left : Expression} {ty : WrittenType} {token : ℕ} → Needs (InstanceOf left ty token) left token
  assigned : {left value : Expression} {token : ℕ} → Needs (Assign left value token) value token
  updated : {op : BinOp} {left value : Expression} {token : ℕ} → Needs (Update op left value token) value token

-- the operand has to be a boolean
pub data Decides : Expression → Expression → ℕ → Type 0 where
  both_left : {left right : Expression} {token : ℕ} → Decides (Both left right token) left token
  both_right : {left right : Expression} {token : ℕ} → Decides (Both left right token) right token
  either_left : {left right : Expression} {token : ℕ} → Decides (Either left right token) left token
  either_right : {left right : Expression} {token : ℕ} → Decides (Either left right token) right token
  test : {test main other : Expression} {token : ℕ} → Decides (Choice test main other token) test token

-- the expression assigns to this one
pub data Assigns : Expression → Expression → ℕ → Type 0 where
  set : {left value : Expression} {token : ℕ} → Assigns (Assign left value token) left token
  updated : {op : BinOp} {left value : Expression} {token : ℕ} → Assigns (Update op left value token) left token

-- the expression changes this one
pub data Changes : Expression → Expression → ℕ → Type 0 where
  assigned : {whole left : Expression} {token : ℕ} → Assigns whole left token → Changes whole left token
  step : {is_before is_up : Bool} {operand : Expression} {token : ℕ} → Changes (Step is_before is_up operand token) operand token

-- in an array creation the initializer stands for an element of the type, behind the token
pub data IsElement (t : Table) : Expression → Ty → Initial → ℕ → Type 0 where
  among : {base : source.Base} {at brackets brace token before : ℕ} {elements : Elements} {ty inner : Ty} {first : Initial} → IsType t base brackets ty →
      Fills inner first before ty (Listed elements brace) brace → IsElement t (NewList base at brackets elements brace token) inner first before

-- the expression reads a field of this name in class c, of an object or of the class above the body's
pub data IsFieldOf (j : Judgement) (t : Table) (s : Scope) : Expression → ℕ → List ℕ → ℕ → Type 0 where
  of_object : {object : Expression} {name : List ℕ} {token c : ℕ} {m : Meaning} → class_in t s object ≡ None → IsFound j t s object m → type_of m ≡ class_type c → IsFieldOf j t s (Field object name token) c name token
  of_super : {name : List ℕ} {token : ℕ} → IsFieldOf j t s (SuperField name token) (above t s) name token

-- the expression names a field of this name in class c, behind the name of the class
pub data IsFieldOfClass (t : Table) (s : Scope) : Expression → ℕ → List ℕ → ℕ → Type 0 where
  of_class : {object : Expression} {name : List ℕ} {token c : ℕ} {class : ClassName} → NamesClass t s object class c → IsFieldOfClass t s (Field object name token) c name token

-- the expression names a field of this name in class c, behind something
pub data Selects (j : Judgement) (t : Table) (s : Scope) : Expression → ℕ → List ℕ → ℕ → Type 0 where
  through : {e : Expression} {name : List ℕ} {token c : ℕ} → IsFieldOf j t s e c name token → Selects j t s e c name token
  by_class : {e : Expression} {name : List ℕ} {token c : ℕ} → IsFieldOfClass t s e c name token → Selects j t s e c name token

-- or alone
pub data NamesField (j : Judgement) (t : Table) (s : Scope) : Expression → ℕ → List ℕ → ℕ → Type 0 where
  alone : {name : List ℕ} {token : ℕ} → IsNoLocal s name → NamesField j t s (Name name token) s.class name token
  behind : {e : Expression} {name : List ℕ} {token c : ℕ} → Selects j t s e c name token → NamesField j t s e c name token

-- ---- UnknownName

pub data IsUnknownName (j : Judgement) (t : Table) (s : Scope) : Expression → ℕ → Type 0 where
  -- a simple name denotes no local, and no field of the class (JLS 6.5.6.1)
  simple : {name : List ℕ} {token : ℕ} → IsNoLocal s name → HasNoField t s.class name → IsUnknownName j t s (Name name token) token
  -- a class of the program has no such field (JLS 6.5.6.2, 15.11)
  no_field : {e : Expression} {c : ℕ} {name : List ℕ} {token : ℕ} → Selects j t s e c name token → first_source_class ≤ c → HasNoField t c name → IsUnknownName j t s e token
  -- a primitive value, null and an array have no fields but the length of an array
  no_fields : {object : Expression} {name : List ℕ} {token : ℕ} {m : Meaning} → class_in t s object ≡ None → IsFound j t s object m → (type_of m ≡ Void → ⊥) → ((c : ℕ) → type_of m ≡ class_type c → ⊥) →
      is_length (type_of m) name ≡ false → IsUnknownName j t s (Field object name token) token
  -- a type names no class (JLS 6.5.5.1)
  no_class : {e : Expression} {base : source.Base} {token : ℕ} → Writes e base token → IsNoType t base → IsUnknownName j t s e token

-- ---- NotImplemented

pub data IsNotImplemented (j : Judgement) (t : Table) (s : Scope) : Expression → ℕ → Type 0 where
  -- a method of the superclass that has no body is called (JLS 15.12.3)
  abstract_method : {e : Expression} {token : ℕ} {m : Method} → Means j t s e OfSuper token m → m.is_abstract ≡ true → IsNotImplemented j t s e token
  -- an object of an interface or of an abstract class is made (JLS 15.9.1)
  interface : {class : Named} {args : Row} {token c : ℕ} → class_named t.classes class.name ≡ Some c → IsInterface t c → IsNotImplemented j t s (NewObject class args token) token
  abstract_class : {class : Named} {args : Row} {token c : ℕ} {k : Class} → class_named t.classes class.name ≡ Some c → slice_get t.classes c ≡ Some k → k.is_abstract ≡ true →
      IsNotImplemented j t s (NewObject class args token) token

-- ---- NoMethod, Ambiguous

pub data IsNoMethod (j : Judgement) (t : Table) (s : Scope) : Expression → ℕ → Type 0 where
  -- the type has no method that is applicable (JLS 15.12.2.2)
  none_applies : {e : Expression} {way : Way} {ty : Ty} {name : List ℕ} {ms : List Meaning} {token : ℕ} → Asks j t s e way ty name ms token → Refused t ty name (types_of ms) rule.NoMethod → IsNoMethod j t s e token
  of_library : {e : Expression} {methods : List LibraryMethod} {name : List ℕ} {args : Row} {ms : List Meaning} {token : ℕ} → IsLibraryCall j t s e methods name args token → AreFound j t s args ms → HaveValues ms →
      has_name methods name ≡ true → ((m : LibraryMethod) → Offers t methods name (types_of ms) m → ⊥) → IsNoMethod j t s e token
  -- the constructor of Object takes nothing
  of_object : {class : Named} {e : Expression} {rest : Row} {token : ℕ} → class_named t.classes class.name ≡ Some object_class → IsNoMethod j t s (NewObject class (source.more e rest) token) token
  -- `read` takes nothing, `print` one value, and `println` at most one
  read : {object e : Expression} {name : List ℕ} {rest : Row} {token : ℕ} → stream_in t s object ≡ Some Input → bytes_eq name (codes "read") ≡ true → IsNoMethod j t s (InvokeOn object name (source.more e rest) token) token
  print_nothing : {object : Expression} {name : List ℕ} {token : ℕ} → stream_in t s object ≡ Some Output → bytes_eq name (codes "print") ≡ true → IsNoMethod j t s (InvokeOn object name source.none token) token
  print_more : {object first second : Expression} {name : List ℕ} {rest : Row} {token : ℕ} → stream_in t s object ≡ Some Output → is_print name ≡ true →
      IsNoMethod j t s (InvokeOn object name (source.more first (source.more second rest)) token) token

pub data IsAmbiguous (j : Judgement) (t : Table) (s : Scope) : Expression → ℕ → Type 0 where
  -- methods are applicable, and none is most specific (JLS 15.12.2.5)
  several : {e : Expression} {way : Way} {ty : Ty} {name : List ℕ} {ms : List Meaning} {token : ℕ} → Asks j t s e way ty name ms token → Refused t ty name (types_of ms) rule.Ambiguous → IsAmbiguous j t s e token

-- ---- BadOperand

pub data IsBadOperand (j : Judgement) (t : Table) (s : Scope) : Expression → ℕ → Type 0 where
  -- a void value is used (JLS 14.8, 15.1)
  void_argument : {e : Expression} {args : Row} {ms : List Meaning} {token : ℕ} → Passes e args token → AreFound j t s args ms → Contains (types_of ms) Void → IsBadOperand j t s e token
  void_operand : {e operand : Expression} {m : Meaning} {token : ℕ} → Needs e operand token → IsFound j t s operand m → type_of m ≡ Void → IsBadOperand j t s e token
  void_field : {object : Expression} {name : List ℕ} {m : Meaning} {token : ℕ} → class_in t s object ≡ None → IsFound j t s object m → type_of m ≡ Void → IsBadOperand j t s (Field object name token) token
  void_call : {object : Expression} {name : List ℕ} {args : Row} {m : Meaning} {token : ℕ} → IsObject t s object → IsFound j t s object m → type_of m ≡ Void → IsBadOperand j t s (InvokeOn object name args token) token
  void_element : {e value : Expression} {ty : Ty} {m : Meaning} {token : ℕ} → IsElement t e ty (Value value) token → IsFound j t s value m → type_of m ≡ Void → IsBadOperand j t s e token
  -- an operator doesn't take operands of these types
  unary : {op : UnOp} {operand : Expression} {m : Meaning} {token : ℕ} → IsFound j t s operand m → (TakesOne op (type_of m) → ⊥) → IsBadOperand j t s (Unary op operand token) token
  binary : {op : BinOp} {left right : Expression} {a b : Meaning} {token : ℕ} → IsFound j t s left a → IsFound j t s right b → (Takes t op (type_of a) (type_of b) → ⊥) → IsBadOperand j t s (Binary op left right token) token
  -- a condition, or an operand of `&&` or `||`, isn't boolean (JLS 15.23 to 15.25)
  condition : {e operand : Expression} {m : Meaning} {token : ℕ} → Decides e operand token → IsFound j t s operand m → (type_of m ≡ boolean_type → ⊥) → IsBadOperand j t s e token
  choice : {test main other : Expression} {a b : Meaning} {token : ℕ} → IsFound j t s main a → IsFound j t s other b → (Chooses (type_of a) (type_of b) → ⊥) → IsBadOperand j t s (Choice test main other token) token
  update : {op : BinOp} {left value : Expression} {p : Spot} {m : Meaning} {token : ℕ} → Denotes j t s left (Some p) → IsFound j t s value m → (TakesInto op p.ty (type_of m) → ⊥) → IsBadOperand j t s (Update op left value token) token
  -- an element of what is no array, and an index or a size that is no int (JLS 15.10.1, 15.10.3)
  no_array : {array index : Expression} {m : Meaning} {token : ℕ} → IsFound j t s array m → element_of (type_of m) ≡ None → IsBadOperand j t s (Element array index token) token
  index : {array index : Expression} {m : Meaning} {token : ℕ} → IsFound j t s index m → (IsIndex (type_of m) → ⊥) → IsBadOperand j t s (Element array index token) token
  size : {base : source.Base} {at brackets token : ℕ} {sizes : Row} {ms : List Meaning} {m : Meaning} → AreFound j t s sizes ms → Contains ms m → (IsIndex (type_of m) → ⊥) → IsBadOperand j t s (NewArray base at sizes brackets token) token
  -- `++` or `--` of no variable, or of one that is no number (JLS 15.14, 15.15)
  no_variable : {is_before is_up : Bool} {operand : Expression} {token : ℕ} → Denotes j t s operand None → IsBadOperand j t s (Step is_before is_up operand token) token
  no_number : {is_before is_up : Bool} {operand : Expression} {p : Spot} {token : ℕ} → Denotes j t s operand (Some p) → (IsNumber p.ty → ⊥) → IsBadOperand j t s (Step is_before is_up operand token) token

-- ---- BadAssign

pub data IsBadAssign (j : Judgement) (t : Table) (s : Scope) : Expression → ℕ → Type 0 where
  -- a value may not be assigned to the variable (JLS 5.2)
  value : {left right : Expression} {p : Spot} {m : Meaning} {token : ℕ} → Denotes j t s left (Some p) → IsFound j t s right m → (type_of m ≡ Void → ⊥) → (MayAssign t p.ty m → ⊥) → IsBadAssign j t s (Assign left right token) token
  element : {e right : Expression} {ty : Ty} {m : Meaning} {token : ℕ} → IsElement t e ty (Value right) token → IsFound j t s right m → (type_of m ≡ Void → ⊥) → (MayAssign t ty m → ⊥) → IsBadAssign j t s e token
  -- braces stand for what is no array (JLS 10.6)
  braces : {e : Expression} {ty : Ty} {elements : Elements} {brace token : ℕ} → IsElement t e ty (Listed elements brace) token → element_of ty ≡ None → IsBadAssign j t s e brace
  -- what is assigned to is no variable (JLS 15.26)
  no_variable : {e left : Expression} {token : ℕ} → Assigns e left token → Denotes j t s left None → IsBadAssign j t s e token
  -- a final variable with an initializer changes (JLS 4.12.4)
  fixed : {e left : Expression} {p : Spot} {token : ℕ} → Changes e left token → Denotes j t s left (Some p) → p.is_fixed ≡ true → IsBadAssign j t s e token

-- ---- BadCast

pub data IsBadCast (j : Judgement) (t : Table) (s : Scope) : Expression → ℕ → Type 0 where
  -- the cast isn't allowed (JLS 5.5, 15.16)
  cast : {ty : WrittenType} {operand : Expression} {to : Ty} {m : Meaning} {token : ℕ} → IsType t ty.base ty.brackets to → IsFound j t s operand m → (type_of m ≡ Void → ⊥) → (CastsTo t (type_of m) to → ⊥) →
      IsBadCast j t s (Cast ty operand token) token
  -- an `instanceof` isn't one of references, or the cast wouldn't be allowed (JLS 15.20.2)
  tested : {ty : WrittenType} {left : Expression} {to : Ty} {m : Meaning} {token : ℕ} → IsType t ty.base ty.brackets to → IsFound j t s left m → (type_of m ≡ Void → ⊥) →
      (IsNullable (type_of m) × IsNullable to × CastsTo t (type_of m) to → ⊥) → IsBadCast j t s (InstanceOf left ty token) token

-- ---- Private

pub data IsPrivate (j : Judgement) (t : Table) (s : Scope) : Expression → ℕ → Type 0 where
  -- a private field, method or constructor of another class (JLS 6.6.1)
  field : {e : Expression} {c k : ℕ} {name : List ℕ} {f : FieldRow} {token : ℕ} → NamesField j t s e c name token → IsField t c name k f → IsHidden s f.is_private f.class → IsPrivate j t s e token
  method : {e : Expression} {way : Way} {m : Method} {token : ℕ} → Means j t s e way token m → IsHidden s m.is_private m.class → IsPrivate j t s e token

-- ---- NotInStatic

pub data IsNotInStatic (j : Judgement) (t : Table) (s : Scope) : Expression → ℕ → Type 0 where
  -- `this` or `super` where there is no instance (JLS 15.8.3, 15.11.2, 15.12.3)
  this : {token : ℕ} → s.has_this ≡ false → IsNotInStatic j t s (This token) token
  super_field : {name : List ℕ} {token : ℕ} → s.has_this ≡ false → IsNotInStatic j t s (SuperField name token) token
  super_method : {name : List ℕ} {args : Row} {token : ℕ} → s.has_this ≡ false → IsNotInStatic j t s (SuperInvoke name args token) token
  -- a field of an instance, by its name alone where there is none or behind a class's name (JLS 6.5.6, 15.11)
  field : {name : List ℕ} {k : ℕ} {f : FieldRow} {token : ℕ} → IsNoLocal s name → IsField t s.class name k f → f.is_static ≡ false → s.has_this ≡ false → IsNotInStatic j t s (Name name token) token
  field_of_class : {e : Expression} {c k : ℕ} {name : List ℕ} {f : FieldRow} {token : ℕ} → IsFieldOfClass t s e c name token → IsField t c name k f → f.is_static ≡ false → IsNotInStatic j t s e token
  -- a method of an instance, in the same ways (JLS 15.12.3)
  method : {e : Expression} {m : Method} {token : ℕ} → Means j t s e Plainly token m → (m.form ≡ kind.Static → ⊥) → s.has_this ≡ false → IsNotInStatic j t s e token
  method_of_class : {e : Expression} {m : Method} {token : ℕ} → Means j t s e OfClass token m → (m.form ≡ kind.Static → ⊥) → IsNotInStatic j t s e token
  method_of_texts : {object : Expression} {class : ClassName} {name : List ℕ} {args : Row} {token : ℕ} → class_in t s object ≡ Some class → is_of_texts class.name name ≡ true →
      IsNotInStatic j t s (InvokeOn object name args token) token

-- ---- NotOffered

pub data IsNotOffered (j : Judgement) (t : Table) (s : Scope) : Expression → ℕ → Type 0 where
  -- the library has no such field
  no_field : {e : Expression} {c : ℕ} {name : List ℕ} {token : ℕ} → Selects j t s e c name token → c < first_source_class → HasNoField t c name → IsNotOffered j t s e token
  no_constant : {object : Expression} {class : ClassName} {name : List ℕ} {token : ℕ} → class_in t s object ≡ Some class → is_library_name class.name ≡ true → member_constant t class.name name ≡ None →
      IsNotOffered j t s (Field object name token) token
  -- it has no method of the name
  no_method : {e : Expression} {way : Way} {ty : Ty} {name : List ℕ} {ms : List Meaning} {token : ℕ} → Asks j t s e way ty name ms token → Refused t ty name (types_of ms) rule.NotOffered → IsNotOffered j t s e token
  of_library : {e : Expression} {methods : List LibraryMethod} {name : List ℕ} {args : Row} {token : ℕ} → IsLibraryCall j t s e methods name args token → has_name methods name ≡ false → IsNotOffered j t s e token
  of_input : {object : Expression} {name : List ℕ} {args : Row} {token : ℕ} → stream_in t s object ≡ Some Input → bytes_eq name (codes "read") ≡ false → IsNotOffered j t s (InvokeOn object name args token) token
  of_output : {object : Expression} {name : List ℕ} {args : Row} {token : ℕ} → stream_in t s object ≡ Some Output → is_print name ≡ false → IsNotOffered j t s (InvokeOn object name args token) token
  -- `print` takes neither a null nor chars
  null_printed : {object value : Expression} {name : List ℕ} {m : Meaning} {token : ℕ} → stream_in t s object ≡ Some Output → IsFound j t s value m → type_of m ≡ Null →
      IsNotOffered j t s (InvokeOn object name (source.more value source.none) token) token
  chars_printed : {object value : Expression} {name : List ℕ} {m : Meaning} {token : ℕ} → stream_in t s object ≡ Some Output → IsFound j t s value m → type_of m ≡ Of (Basic prim.Char) 1 →
      IsNotOffered j t s (InvokeOn object name (source.more value source.none) token) token
  -- a static member is reached through an expression or `super`
  static_field : {e : Expression} {c k : ℕ} {name : List ℕ} {f : FieldRow} {token : ℕ} → IsFieldOf j t s e c name token → IsField t c name k f → f.is_static ≡ true → IsNotOffered j t s e token
  static_of_object : {e : Expression} {m : Method} {token : ℕ} → Means j t s e OfObject token m → m.form ≡ kind.Static → IsNotOffered j t s e token
  static_of_super : {e : Expression} {m : Method} {token : ℕ} → Means j t s e OfSuper token m → m.form ≡ kind.Static → IsNotOffered j t s e token

-- ---- all rules on expressions

-- the expression itself breaks the rule at the token
abbrev pub ExpressionBreaks : Judgement → Table → Scope → Expression → Rule → ℕ → Type 0
ExpressionBreaks j t s e rule.UnknownName token = IsUnknownName j t s e token
ExpressionBreaks j t s e rule.NotImplemented token = IsNotImplemented j t s e token
ExpressionBreaks j t s e rule.NoMethod token = IsNoMethod j t s e token
ExpressionBreaks j t s e rule.Ambiguous token = IsAmbiguous j t s e token
ExpressionBreaks j t s e rule.BadOperand token = IsBadOperand j t s e token
ExpressionBreaks j t s e rule.BadAssign token = IsBadAssign j t s e token
ExpressionBreaks j t s e rule.BadCast token = IsBadCast j t s e token
ExpressionBreaks j t s e rule.Private token = IsPrivate j t s e token
ExpressionBreaks j t s e rule.NotInStatic token = IsNotInStatic j t s e token
ExpressionBreaks j t s e rule.NotOffered token = IsNotOffered j t s e token
ExpressionBreaks j t s e _ token = ⊥
