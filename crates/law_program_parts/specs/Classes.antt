-- When the bodies of a class fit the types of a program: those of its members in their order, of its instance initializers and of its initializer.
use Rattle.std.specs.Prelude.{◌≡◌, ◌<◌, ◌≤◌, ◌++◌, ℕ, Bool, true, false, not, List, [], ◌∷◌, length, Option, Some, None, Ok}
use Rattle.std.specs.List.{AllByRecursion, Contains}
use Rattle.wy_kernel.specs.declared.types.Ty.TheVariants.{Void}
use Rattle.wy_kernel.specs.Program.{Program, Body}
use Rattle.wy_kernel.specs.Table.{ConstantValue}
use Rattle.wy_syntax.specs.Syntax.{Declarator, Member, ClassSyntax}
use Rattle.wy_syntax.specs.Syntax as source
use Rattle.wy_constant.specs.Scope.{FixedText}
use Rattle.wy_elab_expr.specs.Operators.{Judgement}
use Rattle.wy_elab_body.specs.declared.place.Place.{Place}
use Rattle.wy_elab_body.specs.declared.place.Role.TheVariants.{InitializerBody, FieldsBody, ConstructorBody}
use Rattle.wy_elab_body.specs.Places.{at, written, block_places, all_places, first_calls, has_fields_unit, declares_constructor}
use Rattle.wy_elab_stmt.specs.Classes.{ClassBodies, is_static, of_class}
use Rattle.wy_typing.specs.Programs.{IsBody}
use Rattle.law_typed.specs.ExpressionsTyped.{table_of}
use Rattle.law_typed.specs.StatementsWritten.{OptionWritten, BlockWritten, AllWritten}
use Rattle.law_typed.specs.StatementsTyped.{setting, Makes, AreAmong}
use Rattle.law_typed.specs.Bodies.{this_of, FitsHeader, CallWritten, IsDeclared}

-- ---- what a class is written with

abbrev pub HasInitial : Declarator → Type 0
HasInitial d = (i : source.Initial) × (d.initial ≡ Some i)

-- a declarator of a field, with its place where it has an initializer
pub record FieldStands (p : Program) (c : ℕ) (all : List Place) (is_static : Bool) (ty : source.WrittenType) (d : Declarator) : Type 0 where
  pub declared : IsDeclared p c is_static ty d
  pub place : HasInitial d → Contains all (written d.name.token)
  pub said : OptionWritten d.initial

-- a member of class c: what it says a text can say, its statements stand among the places, and its fields are those of the table
abbrev pub MemberStands : Program → List (Option ConstantValue) → List Place → ℕ → ClassSyntax → Member → Type 0
MemberStands p constants all c k (source.Initializer true block) = Contains all (at k.name.token InitializerBody) × AreAmong all (block_places block) × BlockWritten block
MemberStands p constants all c k (source.Initializer false block) = Contains all (at k.name.token FieldsBody) × AreAmong all (block_places block) × BlockWritten block
MemberStands p constants all c k (source.Fields ms ty ds) = AllByRecursion (FieldStands p c all (is_static ms) ty) ds
MemberStands p constants all c k (source.Method h result None) = Unit {0}
MemberStands p constants all c k (source.Method h result (Some block)) = AreAmong all (block_places block) × BlockWritten block
MemberStands p constants all c k (source.Constructor h own brace parts end) =
    AreAmong all (first_calls (table_of p constants) c k h.name.token own) × AreAmong all (written brace ∷ all_places parts) × CallWritten own × AllWritten parts
MemberStands p constants all c k _ = Unit {0}

pub record ClassStands (p : Program) (constants : List (Option ConstantValue)) (all : List Place) (c : ℕ) (k : ClassSyntax) : Type 0 where
  pub class : c < length p.classes
  pub initializer : Contains all (at k.name.token InitializerBody)
  pub fields : has_fields_unit k ≡ true → Contains all (at k.name.token FieldsBody)
  pub constructor : declares_constructor k ≡ false → Contains all (at k.name.token ConstructorBody) × AreAmong all (first_calls (table_of p constants) c k k.name.token None)
  pub members : AllByRecursion (MemberStands p constants all c k) k.members

-- ---- what its bodies are

-- a body for each member that is a method or a constructor, where it has one
abbrev pub MembersFit : Program → ℕ → List Member → List (Option Body) → Type 0
MembersFit p c (source.Method h result None ∷ ms) (None ∷ bs) = MembersFit p c ms bs
MembersFit p c (source.Method h result (Some block) ∷ ms) (Some b ∷ bs) = FitsHeader p (not (is_static h.modifiers)) c h result b × MembersFit p c ms bs
MembersFit p c (source.Constructor h own brace parts end ∷ ms) (Some b ∷ bs) = FitsHeader p true c h None b × MembersFit p c ms bs
MembersFit p c (source.Initializer s block ∷ ms) bs = MembersFit p c ms bs
MembersFit p c (source.Fields modifiers ty ds ∷ ms) bs = MembersFit p c ms bs
MembersFit p c (source.Member.Nothing ∷ ms) bs = MembersFit p c ms bs
MembersFit p c (source.Member.Unknown ∷ ms) bs = MembersFit p c ms bs
MembersFit p c [] [] = Unit {0}
MembersFit p c _ _ = ⊥

abbrev pub UnitFits : Program → ℕ → Bool → List (Option Body) → Type 0
UnitFits p c true (Some b ∷ []) = IsBody p (this_of true c) None b
UnitFits p c false [] = Unit {0}
UnitFits p c _ _ = ⊥

abbrev pub ImpliedFits : Program → ℕ → Bool → List (Option Body) → Type 0
ImpliedFits p c false (Some b ∷ []) = IsBody p (this_of true c) (Some Void) b
ImpliedFits p c true [] = Unit {0}
ImpliedFits p c _ _ = ⊥

pub record ClassFits (p : Program) (c : ℕ) (k : ClassSyntax) (x : ClassBodies) : Type 0 where
  pub unit : List (Option Body)
  pub implied : List (Option Body)
  pub members : List (Option Body)
  pub bodies : x.bodies ≡ unit ++ implied ++ members
  pub unit_fits : UnitFits p c (has_fields_unit k) unit
  pub implied_fits : ImpliedFits p c (declares_constructor k) implied
  pub members_fit : MembersFit p c k.members members
  pub initializer : Body
  pub there : x.initializer ≡ Some initializer
  pub initializer_fits : IsBody p [] None initializer

-- the bodies of a class fit, where the texts that forms hold are texts of the program
abbrev pub ClassesAreTyped : Type 0
ClassesAreTyped =
    (p : Program) (constants : List (Option ConstantValue)) (j : Judgement) (all : List Place) (c : ℕ) (k : ClassSyntax) (texts after : List FixedText) (x : ClassBodies)
    → Makes p constants j all → ClassStands p constants all c k → of_class (setting p constants j all) c k texts ≡ Ok (x, after) → length after ≤ length p.fixed_texts → ClassFits p c k x
