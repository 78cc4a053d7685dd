-- When the bodies of methods and constructors fit the types of a program, by the types that their headers are written with.
use Rattle.std.specs.Prelude.{◌≡◌, ◌<◌, ◌+◌, ◌≤◌, ◌++◌, ℕ, Bool, true, false, List, [], ◌∷◌, length, Option, Some, None, Ok}
use Rattle.wy_kernel.specs.declared.types.Base.{Base}
use Rattle.wy_kernel.specs.declared.types.Base.TheVariants.{Primitive as Basic, Class as Named}
use Rattle.wy_kernel.specs.declared.types.Ty.{Ty}
use Rattle.wy_kernel.specs.declared.types.Ty.TheVariants.{Void, Of}
use Rattle.wy_kernel.specs.Form as kernel
use Rattle.wy_kernel.specs.Program.{Program, Class, Field, Body}
use Rattle.wy_kernel.specs.Subtyping.{class_type}
use Rattle.wy_kernel.specs.Table.{ConstantValue}
use Rattle.wy_syntax.specs.Syntax.{WrittenType, Declarator, Parameter, Header, Braced, Statements, OwnCall, ClassSyntax}
use Rattle.wy_syntax.specs.Syntax as source
use Rattle.wy_constant.specs.Scope.{FixedText}
use Rattle.wy_constant.specs.Fields.{class_named, declared_field}
use Rattle.wy_elab_expr.specs.Operators.{Judgement}
use Rattle.std.specs.List.{Contains}
use Rattle.wy_elab_body.specs.declared.place.Place.{Place}
use Rattle.wy_elab_body.specs.declared.place.Role.TheVariants.{ConstructorBody}
use Rattle.wy_elab_body.specs.Places.{at, written, block_places, all_places, first_calls}
use Rattle.wy_elab_body.specs.Making.{Making, begun, with_texts}
use Rattle.wy_elab_body.specs.Bodies.{body_of, method_block, constructor_block, implied_constructor_block}
use Rattle.wy_typing.specs.Expressions.{IsField}
use Rattle.wy_typing.specs.Programs.{IsBody}
use Rattle.law_typed.specs.ExpressionsWritten.{AreWritten}
use Rattle.law_typed.specs.ExpressionsTyped.{table_of}
use Rattle.law_typed.specs.StatementsWritten.{BlockWritten, AllWritten}
use Rattle.law_typed.specs.StatementsTyped.{setting, Makes, AreAmong}

-- ---- written types

abbrev pub BaseDenotes : List Class → source.Base → Base → Type 0
BaseDenotes classes (source.Basic q) b = b ≡ Basic q
BaseDenotes classes (source.Class name) b = (c : ℕ) × (class_named classes name ≡ Some c) × (b ≡ Named c)

-- the type as it is written, with so many pairs of brackets behind a name
abbrev pub Denotes : List Class → WrittenType → ℕ → Ty → Type 0
Denotes classes written more x = (b : Base) × BaseDenotes classes written.base b × (x ≡ Of b (written.brackets + more))

abbrev pub ParamsDenote : List Class → List Parameter → List Ty → Type 0
ParamsDenote classes [] [] = Unit {0}
ParamsDenote classes (q ∷ qs) (x ∷ xs) = Denotes classes q.ty q.brackets x × ParamsDenote classes qs xs
ParamsDenote classes [] (x ∷ xs) = ⊥
ParamsDenote classes (q ∷ qs) [] = ⊥

-- no written result is void
abbrev pub ResultDenotes : List Class → Option WrittenType → Ty → Type 0
ResultDenotes classes None x = x ≡ Void
ResultDenotes classes (Some written) x = Denotes classes written 0 x

-- `this` is the first local, where there is one
abbrev pub this_of : Bool → ℕ → List Ty
this_of true c = class_type c ∷ []
this_of false c = []

-- ---- bodies

-- a body that takes what the header says, and gives back what it says
abbrev pub FitsHeader : Program → Bool → ℕ → Header → Option WrittenType → Body → Type 0
FitsHeader p has_this c h result b =
    (params : List Ty) × (out : Ty) × ParamsDenote p.classes h.params params × ResultDenotes p.classes result out × IsBody p (this_of has_this c ++ params) (Some out) b

-- the body of a method, from its beginning with the texts that other bodies hold
abbrev pub MethodsAreTyped : Type 0
MethodsAreTyped =
    (p : Program) (constants : List (Option ConstantValue)) (j : Judgement) (all : List Place) (c : ℕ) (has_this : Bool) (site : ℕ) (h : Header) (result : Option WrittenType) (b : Braced) (texts : List FixedText) (x : kernel.Statement) (after : Making) (end : ℕ)
    → Makes p constants j all → c < length p.classes → BlockWritten b → AreAmong all (block_places b)
    → method_block (setting p constants j all) h result b (with_texts (begun c has_this site) texts) ≡ Ok (x, after) → length after.texts ≤ length p.fixed_texts
    → FitsHeader p has_this c h result (body_of x after end)

-- the arguments of a call of `this` or `super` are those of a text
abbrev pub CallWritten : Option OwnCall → Type 0
CallWritten None = Unit {0}
CallWritten (Some call) = AreWritten call.args

-- the body of a constructor of class c, from its beginning: what it calls first stands among the places
abbrev pub ConstructorsAreTyped : Type 0
ConstructorsAreTyped =
    (p : Program) (constants : List (Option ConstantValue)) (j : Judgement) (all : List Place) (c : ℕ) (k : ClassSyntax) (site : ℕ) (h : Header) (own : Option OwnCall) (brace : ℕ) (parts : Statements) (texts : List FixedText) (x : kernel.Statement) (after : Making) (end : ℕ)
    → Makes p constants j all → c < length p.classes → CallWritten own → AllWritten parts
    → AreAmong all (first_calls (table_of p constants) c k h.name.token own) → AreAmong all (written brace ∷ all_places parts)
    → constructor_block (setting p constants j all) c k h own brace parts (with_texts (begun c true site) texts) ≡ Ok (x, after) → length after.texts ≤ length p.fixed_texts
    → FitsHeader p true c h None (body_of x after end)

-- that of the constructor that a class doesn't declare
abbrev pub ImpliedConstructorsAreTyped : Type 0
ImpliedConstructorsAreTyped =
    (p : Program) (constants : List (Option ConstantValue)) (j : Judgement) (all : List Place) (c : ℕ) (k : ClassSyntax) (site : ℕ) (texts : List FixedText) (x : kernel.Statement) (after : Making) (end : ℕ)
    → Makes p constants j all → c < length p.classes
    → AreAmong all (first_calls (table_of p constants) c k k.name.token None) → Contains all (at k.name.token ConstructorBody)
    → implied_constructor_block (setting p constants j all) c k (with_texts (begun c true site) texts) ≡ Ok (x, after) → length after.texts ≤ length p.fixed_texts
    → IsBody p (this_of true c) (Some Void) (body_of x after end)

-- ---- initializers

-- the class declares such a field, of the type that is written
pub record IsDeclared (p : Program) (c : ℕ) (is_static : Bool) (ty : WrittenType) (d : Declarator) : Type 0 where
  pub number : ℕ
  pub field : Field
  pub first : declared_field p.fields c d.name.name ≡ Some number
  pub found : IsField p number field
  pub static : field.is_static ≡ is_static
  pub type : Denotes p.classes ty d.brackets field.ty
