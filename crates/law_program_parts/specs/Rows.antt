-- When the bodies of a class fit the methods that its text declares, each by its number.
use Rattle.std.specs.Prelude.{◌≡◌, ◌≤◌, ◌++◌, ℕ, suc, Bool, true, false, List, [], ◌∷◌, length, Option, Some, None, Ok}
use Rattle.std.specs.List.{AllByRecursion}
use Rattle.wy_kernel.specs.Program.{Program, Method, Body}
use Rattle.wy_syntax.specs.Syntax.{Member, ClassSyntax}
use Rattle.wy_syntax.specs.Syntax as source
use Rattle.wy_constant.specs.Fields.{class_named}
use Rattle.wy_members.specs.Declarations.{CompilationUnit, denoted, is_abstract_in, methods_of, table}
use Rattle.wy_kernel.specs.Table.{ConstantValue}
use Rattle.wy_constant.specs.Scope.{FixedText}
use Rattle.wy_elab_expr.specs.Operators.{Judgement}
use Rattle.wy_elab_body.specs.declared.place.Place.{Place}
use Rattle.wy_elab_stmt.specs.Classes.{ClassBodies}
use Rattle.wy_elab_stmt.specs.Program.{Bodies, bodies_from}
use Rattle.law_typed.specs.StatementsTyped.{setting, Makes}
use Rattle.wy_typing.specs.Programs.{IsBody, IsBodyOf}
use Rattle.law_program_parts.specs.Classes.{ClassFits, ClassStands}

-- a name denotes in a program what it denotes in its text
abbrev pub NamesAgree : Program → CompilationUnit → Type 0
NamesAgree p unit = (name : List ℕ) (c : ℕ) → class_named p.classes name ≡ Some c → denoted unit name ≡ Some c

-- a method without a body is abstract
abbrev pub MayLackBody : ClassSyntax → Member → Type 0
MayLackBody k (source.Method h result None) = is_abstract_in k h ≡ true
MayLackBody k _ = Unit {0}

-- the body of a method fits it, and one without is abstract
abbrev pub RowFits : Program → Method → Option Body → Type 0
RowFits p m None = m.is_abstract ≡ true
RowFits p m (Some b) = IsBodyOf p m b

-- each fits its own, and there are as many
abbrev pub RowsFit : Program → List Method → List (Option Body) → Type 0
RowsFit p [] [] = Unit {0}
RowsFit p (m ∷ ms) (b ∷ bs) = RowFits p m b × RowsFit p ms bs
RowsFit p _ _ = ⊥

abbrev pub BodiesFitRows : Type 0
BodiesFitRows =
    (p : Program) (unit : CompilationUnit) (c : ℕ) (k : ClassSyntax) (x : ClassBodies)
    → NamesAgree p unit → k.is_interface ≡ false → AllByRecursion (MayLackBody k) k.members → ClassFits p c k x → RowsFit p (methods_of unit c k) x.bodies

-- ---- all classes

-- an interface has headers of methods alone
abbrev pub IsHeader : Member → Type 0
IsHeader (source.Method h result None) = Unit {0}
IsHeader source.Member.Nothing = Unit {0}
IsHeader _ = ⊥

abbrev pub DeclarationStands : Program → List (Option ConstantValue) → List Place → ℕ → ClassSyntax → Bool → Type 0
DeclarationStands p constants all c k true = AllByRecursion IsHeader k.members
DeclarationStands p constants all c k false = ClassStands p constants all c k × AllByRecursion (MayLackBody k) k.members

-- the classes and interfaces of a text, the first of which has number c
abbrev pub AllStand : Program → List (Option ConstantValue) → List Place → ℕ → List ClassSyntax → Type 0
AllStand p constants all c [] = Unit {0}
AllStand p constants all c (k ∷ rest) = DeclarationStands p constants all c k k.is_interface × AllStand p constants all (suc c) rest

abbrev pub InitFits : Program → Option Body → Type 0
InitFits p None = Unit {0}
InitFits p (Some b) = IsBody p [] None b

-- the methods of the classes, each class behind the one before it
abbrev pub rows_from : CompilationUnit → ℕ → List ClassSyntax → List Method
rows_from unit c [] = []
rows_from unit c (k ∷ rest) = methods_of unit c k ++ rows_from unit (suc c) rest

-- all bodies of a text fit their methods, where the texts that forms hold are texts of the program
abbrev pub BodiesAreTyped : Type 0
BodiesAreTyped =
    (p : Program) (constants : List (Option ConstantValue)) (j : Judgement) (all : List Place) (unit : CompilationUnit) (c : ℕ) (ks : List ClassSyntax) (texts after : List FixedText) (x : Bodies)
    → Makes p constants j all → NamesAgree p unit → AllStand p constants all c ks → bodies_from (setting p constants j all) c ks texts ≡ Ok (x, after) → length after ≤ length p.fixed_texts
    → RowsFit p (rows_from unit c ks) x.methods × AllByRecursion (InitFits p) x.initializers

-- in the program that the table of a text is of, names denote what they do in the text
abbrev pub NamesAgreeInTables : Type 0
NamesAgreeInTables = (p : Program) (unit : CompilationUnit) → p.classes ≡ (table unit).classes → NamesAgree p unit
