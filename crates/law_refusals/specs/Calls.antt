-- Fields and methods by what stands before their names (JLS 6.5, 15.9, 15.11, 15.12).
use Rattle.std.specs.Prelude.{◌≡◌, ℕ, Bool, true, false, ◌||◌, List, Some, None, slice_get, codes, bytes_eq}
use Rattle.std.specs.List.{Contains}
use Rattle.wy_kernel.specs.declared.types.Ty.{Ty}
use Rattle.wy_kernel.specs.declared.types.Ty.TheVariants.{Void}
use Rattle.wy_kernel.specs.Program.{Method, Field, object_class}
use Rattle.wy_kernel.specs.Subtyping.{class_type}
use Rattle.wy_kernel.specs.Table.{Table}
use Rattle.wy_syntax.specs.Syntax.{Named, Expression, Row, Invoke, InvokeOn, SuperInvoke, NewObject}
use Rattle.wy_constant.specs.Scope.{Scope, denoted}
use Rattle.wy_constant.specs.Fields.{class_named, field_of}
use Rattle.wy_overloads.specs.Choice.{Chosen, IsMethod, EachBelow}
use Rattle.wy_elab_expr.specs.Meaning.{Meaning, type_of, text_type}
use Rattle.wy_elab_expr.specs.Operators.{Judgement}
use Rattle.wy_elab_expr.specs.Members.{LibraryMethod, text_methods, types_of, is_library_name}
use Rattle.wy_elab_expr.specs.Elaboration.{ClassName, class_in, stream_in, class_methods, is_of_texts, above}
use Rattle.law_refusals.specs.Found.{IsFound, AreFound}
use Rattle.law_refusals.specs.Operands.{IsInterface}

-- ---- fields

-- no local variable has the name
abbrev pub IsNoLocal : Scope → List ℕ → Type 0
IsNoLocal s name = denoted s name ≡ None

-- field k with this row is the one that the name denotes in the class
pub record IsField (t : Table) (class : ℕ) (name : List ℕ) (k : ℕ) (f : Field) : Type 0 where
  pub denotes : field_of t class name ≡ Some k
  pub row : slice_get t.fields k ≡ Some f

-- the class has no field of the name
abbrev pub HasNoField : Table → ℕ → List ℕ → Type 0
HasNoField t class name = (k : ℕ) (f : Field) → IsField t class name k f → ⊥

-- a private member of another class than the body's
abbrev pub IsHidden : Scope → Bool → ℕ → Type 0
IsHidden s is_private class = (is_private ≡ true) × (class ≡ s.class → ⊥)

-- ---- what stands before a dot

-- the name of class c
pub record NamesClass (t : Table) (s : Scope) (e : Expression) (name : ClassName) (c : ℕ) : Type 0 where
  pub is_name : class_in t s e ≡ Some name
  pub denotes : class_named t.classes name.name ≡ Some c

-- a value, and neither the name of a class nor a stream
pub record IsObject (t : Table) (s : Scope) (e : Expression) : Type 0 where
  pub no_class : class_in t s e ≡ None
  pub no_stream : stream_in t s e ≡ None

-- the class has no methods in the table, but those that the library offers
abbrev pub is_of_library : List ℕ → Bool
is_of_library class = is_library_name class || bytes_eq class (codes "String")

-- ---- calls

-- how a method is called: by its name alone, of an object, of a class, of the superclass, or as a constructor
pub data Way : Type 0 where
  Plainly : Way
  OfObject : Way
  OfClass : Way
  OfSuper : Way
  ByNew : Way

-- the expression calls a method of the type by this name, with these arguments, whose `(` or `new` is this token
pub data IsCall (j : Judgement) (t : Table) (s : Scope) : Expression → Way → Ty → List ℕ → Row → ℕ → Type 0 where
  plain : {name : List ℕ} {args : Row} {token : ℕ} → IsCall j t s (Invoke name args token) Plainly (class_type s.class) name args token
  of_object : {object : Expression} {name : List ℕ} {args : Row} {token : ℕ} {m : Meaning} → IsObject t s object → IsFound j t s object m → (type_of m ≡ Void → ⊥) → (type_of m ≡ text_type → ⊥) →
      IsCall j t s (InvokeOn object name args token) OfObject (type_of m) name args token
  of_class : {object : Expression} {name : List ℕ} {args : Row} {token : ℕ} {class : ClassName} {c : ℕ} → NamesClass t s object class c → is_of_library class.name ≡ false →
      IsCall j t s (InvokeOn object name args token) OfClass (class_type c) name args token
  of_super : {name : List ℕ} {args : Row} {token : ℕ} → IsCall j t s (SuperInvoke name args token) OfSuper (class_type (above t s)) name args token
  by_new : {class : Named} {args : Row} {token c : ℕ} → class_named t.classes class.name ≡ Some c → (c ≡ object_class → ⊥) → (IsInterface t c → ⊥) →
      IsCall j t s (NewObject class args token) ByNew (class_type c) (codes "new") args token

-- no value is void
abbrev pub HaveValues : List Meaning → Type 0
HaveValues ms = Contains (types_of ms) Void → ⊥

-- what a call asks for: a method of the type, by this name, for arguments that are found as these
pub record Asks (j : Judgement) (t : Table) (s : Scope) (e : Expression) (way : Way) (ty : Ty) (name : List ℕ) (ms : List Meaning) (token : ℕ) : Type 0 where
  pub args : Row
  pub call : IsCall j t s e way ty name args token
  pub found : AreFound j t s args ms
  pub values : HaveValues ms

-- the call means method m
pub record Means (j : Judgement) (t : Table) (s : Scope) (e : Expression) (way : Way) (token : ℕ) (m : Method) : Type 0 where
  pub ty : Ty
  pub name : List ℕ
  pub ms : List Meaning
  pub k : ℕ
  pub asks : Asks j t s e way ty name ms token
  pub chosen : Chosen t ty name (types_of ms) k
  pub is : IsMethod t k m

-- ---- calls of the library

-- the expression calls one of these methods by this name
pub data IsLibraryCall (j : Judgement) (t : Table) (s : Scope) : Expression → List LibraryMethod → List ℕ → Row → ℕ → Type 0 where
  of_text : {object : Expression} {name : List ℕ} {args : Row} {token : ℕ} {m : Meaning} → IsObject t s object → IsFound j t s object m → type_of m ≡ text_type →
      IsLibraryCall j t s (InvokeOn object name args token) text_methods name args token
  of_class : {object : Expression} {name : List ℕ} {args : Row} {token : ℕ} {class : ClassName} → class_in t s object ≡ Some class → is_of_library class.name ≡ true → is_of_texts class.name name ≡ false →
      IsLibraryCall j t s (InvokeOn object name args token) (class_methods class.name) name args token

-- the method has the name, and takes arguments of these types
pub record Offers (t : Table) (methods : List LibraryMethod) (name : List ℕ) (types : List Ty) (m : LibraryMethod) : Type 0 where
  pub listed : Contains methods m
  pub named : m.name ≡ name
  pub takes : EachBelow t.classes types m.params
