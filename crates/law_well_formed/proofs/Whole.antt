-- Abstract syntax with nothing missing, and each called name of which has a property.
use Rattle.std.specs.Prelude.{◌≡◌, ℕ, Bool, true, false, List, Option, Some, None}
use Rattle.std.specs.List.{AllByRecursion}
use Rattle.wy_value.specs.Operator.{is_comparison}
use Rattle.wy_syntax.specs.Syntax.{Expression, Invoke, InvokeOn, SuperInvoke, NewArray, Update, Wrong, Row, Initial, Elements}
use Rattle.wy_syntax.specs.Syntax.{Declarator, Effect, ForInit, Statement, Block, Empty, Declare, Perform, If, While, Do, For, Labelled, Break, Continue, Return, Throw, Try, Unknown, Braced, braced, Statements, done, first, Other, absent, present, Last, nowhere, finally, Catches, uncaught, catch}
use Rattle.wy_syntax.specs.Syntax.{OwnCall, Member, ClassSyntax}
use Rattle.wy_syntax.specs.Syntax as source
use Rattle.law_typed.specs.Throughout.{Throughout, ThroughoutRow, ThroughoutInitial, ThroughoutElements}
use Rattle.law_typed.specs.ExpressionsWritten.{IsSome}

-- what a name may have
abbrev pub Names : Type 1
Names = List ℕ → Type 0

-- what is asked of an expression itself
abbrev pub IsSound : Names → Expression → Type 0
IsSound P (Invoke name args token) = P name
IsSound P (InvokeOn object name args token) = P name
IsSound P (SuperInvoke name args token) = P name
IsSound P (NewArray base base_token sizes brackets token) = IsSome sizes
IsSound P (Update op left value token) = is_comparison op ≡ false
IsSound P Wrong = ⊥
IsSound P _ = Unit {0}

abbrev pub Whole : Names → Expression → Type 0
Whole P e = Throughout (IsSound P) e

abbrev pub WholeRow : Names → Row → Type 0
WholeRow P args = ThroughoutRow (IsSound P) args

abbrev pub WholeInitial : Names → Initial → Type 0
WholeInitial P i = ThroughoutInitial (IsSound P) i

abbrev pub WholeElements : Names → Elements → Type 0
WholeElements P all = ThroughoutElements (IsSound P) all

abbrev pub WholePart : Names → Option Expression → Type 0
WholePart P None = Unit {0}
WholePart P (Some e) = Whole P e

abbrev pub WholeOption : Names → Option Initial → Type 0
WholeOption P None = Unit {0}
WholeOption P (Some i) = WholeInitial P i

abbrev pub WholeDeclarators : Names → List Declarator → Type 0
WholeDeclarators P all = AllByRecursion (λ (d : Declarator). WholeOption P d.initial) all

abbrev pub WholeEffects : Names → List Effect → Type 0
WholeEffects P all = AllByRecursion (λ (e : Effect). Whole P e.value) all

abbrev pub WholeInit : Names → ForInit → Type 0
WholeInit P source.ForInit.Nothing = Unit {0}
WholeInit P (source.ForInit.Declared is_final ty all) = WholeDeclarators P all
WholeInit P (source.ForInit.Effects all) = WholeEffects P all

abbrev mutual
  -- a declaration stands in a block alone
  pub WholeStatement : Names → Bool → Statement → Type 0
  WholeStatement P in_block (Block b) = WholeBlock P b
  WholeStatement P in_block (Empty token) = Unit {0}
  WholeStatement P in_block (Declare is_final ty all) = (in_block ≡ true) × WholeDeclarators P all
  WholeStatement P in_block (Perform e) = Whole P e.value
  WholeStatement P in_block (If test main other token) = Whole P test × WholeStatement P false main × WholeOther P other
  WholeStatement P in_block (While test body token) = Whole P test × WholeStatement P false body
  WholeStatement P in_block (Do body test token) = WholeStatement P false body × Whole P test
  WholeStatement P in_block (For init test updates body token) = WholeInit P init × WholePart P test × WholeEffects P updates × WholeStatement P false body
  WholeStatement P in_block (Labelled name body) = WholeStatement P false body
  WholeStatement P in_block (Break label token) = Unit {0}
  WholeStatement P in_block (Continue label token) = Unit {0}
  WholeStatement P in_block (Return value token) = WholePart P value
  WholeStatement P in_block (Throw value token) = Whole P value
  WholeStatement P in_block (Try main catches last token) = WholeBlock P main × WholeCatches P catches × WholeLast P last
  WholeStatement P in_block Unknown = ⊥

  pub WholeBlock : Names → Braced → Type 0
  WholeBlock P (braced brace parts end) = WholeStatements P parts

  pub WholeStatements : Names → Statements → Type 0
  WholeStatements P done = Unit {0}
  WholeStatements P (first s rest) = WholeStatement P true s × WholeStatements P rest

  pub WholeOther : Names → Other → Type 0
  WholeOther P absent = Unit {0}
  WholeOther P (present s) = WholeStatement P false s

  pub WholeLast : Names → Last → Type 0
  WholeLast P nowhere = Unit {0}
  WholeLast P (finally b) = WholeBlock P b

  pub WholeCatches : Names → Catches → Type 0
  WholeCatches P uncaught = Unit {0}
  WholeCatches P (catch is_final class name block rest) = WholeBlock P block × WholeCatches P rest

abbrev pub WholeCall : Names → Option OwnCall → Type 0
WholeCall P None = Unit {0}
WholeCall P (Some call) = WholeRow P call.args

abbrev pub WholeMember : Names → Member → Type 0
WholeMember P (source.Initializer is_static block) = WholeBlock P block
WholeMember P (source.Fields modifiers ty all) = WholeDeclarators P all
WholeMember P (source.Method h result None) = Unit {0}
WholeMember P (source.Method h result (Some b)) = WholeBlock P b
WholeMember P (source.Constructor h own brace parts end) = WholeCall P own × WholeStatements P parts
WholeMember P source.Member.Nothing = Unit {0}
WholeMember P source.Member.Unknown = Unit {0}

abbrev pub WholeMembers : Names → List Member → Type 0
WholeMembers P ms = AllByRecursion (WholeMember P) ms

abbrev pub WholeClasses : Names → List ClassSyntax → Type 0
WholeClasses P ks = AllByRecursion (λ (k : ClassSyntax). WholeMembers P k.members) ks

-- something that is no declaration may stand in a block
pub in_block : (P : Names) (b : Bool) (s : Statement) → WholeStatement P false s → WholeStatement P b s
in_block P b (Block x) h = h
in_block P b (Empty token) h = h
in_block P b (Declare is_final ty all) h = absurd (let e : false ≡ true = h.0 in cc)
in_block P b (Perform e) h = h
in_block P b (If test main other token) h = h
in_block P b (While test body token) h = h
in_block P b (Do body test token) h = h
in_block P b (For init test updates body token) h = h
in_block P b (Labelled name body) h = h
in_block P b (Break label token) h = h
in_block P b (Continue label token) h = h
in_block P b (Return value token) h = h
in_block P b (Throw value token) h = h
in_block P b (Try main catches last token) h = h
in_block P b Unknown h = h
