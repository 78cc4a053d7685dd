-- The tokens that what is read from a tree carries: something holds of each that a form or a declaration takes as its site.
use Rattle.std.proofs.Common.{ℕ, List, Option, Some, None}
use Rattle.std.specs.List.{AllByRecursion}
use Rattle.wy_syntax.specs.Syntax.{Expression, Row, none, more, Initial, Value, Listed, Elements, no_more, element, Declarator, Effect, ForInit, Statement, Block, Empty, Declare, Perform, If, While, Do, For, Labelled, Break, Continue, Return, Throw, Try, Braced, braced, Statements, done, first, Other, absent, present, Last, nowhere, finally, Catches, uncaught, catch, Parameter, OwnCall, Header, Member, ClassSyntax}
use Rattle.wy_syntax.specs.Syntax as source

-- ---- expressions

abbrev mutual
  pub Tokens : (ℕ → Type 0) → Expression → Type 0
  Tokens P (source.Literal value token) = P token
  Tokens P (source.Name name token) = P token
  Tokens P (source.This token) = P token
  Tokens P (source.Group inner token) = P token × Tokens P inner
  Tokens P (source.Invoke name args token) = P token × RowTokens P args
  Tokens P (source.Field object name token) = P token × Tokens P object
  Tokens P (source.InvokeOn object name args token) = P token × Tokens P object × RowTokens P args
  Tokens P (source.SuperField name token) = P token
  Tokens P (source.SuperInvoke name args token) = P token × RowTokens P args
  Tokens P (source.Element array index token) = P token × Tokens P array × Tokens P index
  Tokens P (source.NewObject class args token) = P token × RowTokens P args
  Tokens P (source.NewArray base base_token sizes brackets token) = P token × RowTokens P sizes
  Tokens P (source.NewList base base_token brackets elements brace token) = P token × P brace × ElementTokens P elements
  Tokens P (source.Unary op operand token) = P token × Tokens P operand
  Tokens P (source.Step is_before is_up operand token) = P token × Tokens P operand
  Tokens P (source.Binary op left right token) = P token × Tokens P left × Tokens P right
  Tokens P (source.Both left right token) = P token × Tokens P left × Tokens P right
  Tokens P (source.Either left right token) = P token × Tokens P left × Tokens P right
  Tokens P (source.InstanceOf left ty token) = P token × Tokens P left
  Tokens P (source.Cast ty operand token) = P token × Tokens P operand
  Tokens P (source.Choice test main other token) = P token × Tokens P test × Tokens P main × Tokens P other
  Tokens P (source.Assign left value token) = P token × Tokens P left × Tokens P value
  Tokens P (source.Update op left value token) = P token × Tokens P left × Tokens P value
  Tokens P source.Wrong = Unit {0}

  pub RowTokens : (ℕ → Type 0) → Row → Type 0
  RowTokens P none = Unit {0}
  RowTokens P (more e rest) = Tokens P e × RowTokens P rest

  pub InitialTokens : (ℕ → Type 0) → Initial → Type 0
  InitialTokens P (Value e) = Tokens P e
  InitialTokens P (Listed elements brace) = P brace × ElementTokens P elements

  pub ElementTokens : (ℕ → Type 0) → Elements → Type 0
  ElementTokens P no_more = Unit {0}
  ElementTokens P (element before head rest) = P before × InitialTokens P head × ElementTokens P rest

-- ---- statements

abbrev pub OptionTokens : (ℕ → Type 0) → Option Expression → Type 0
OptionTokens P None = Unit {0}
OptionTokens P (Some e) = Tokens P e

abbrev pub FirstTokens : (ℕ → Type 0) → Option Initial → Type 0
FirstTokens P None = Unit {0}
FirstTokens P (Some i) = InitialTokens P i

abbrev pub DeclaratorTokens : (ℕ → Type 0) → List Declarator → Type 0
DeclaratorTokens P all = AllByRecursion (λ (d : Declarator). P d.name.token × FirstTokens P d.initial) all

abbrev pub EffectTokens : (ℕ → Type 0) → List Effect → Type 0
EffectTokens P all = AllByRecursion (λ (e : Effect). P e.token × Tokens P e.value) all

abbrev pub InitTokens : (ℕ → Type 0) → ForInit → Type 0
InitTokens P source.ForInit.Nothing = Unit {0}
InitTokens P (source.ForInit.Declared is_final ty all) = DeclaratorTokens P all
InitTokens P (source.ForInit.Effects all) = EffectTokens P all

abbrev mutual
  pub StatementTokens : (ℕ → Type 0) → Statement → Type 0
  StatementTokens P (Block b) = BlockTokens P b
  StatementTokens P (Empty token) = P token
  StatementTokens P (Declare is_final ty all) = DeclaratorTokens P all
  StatementTokens P (Perform e) = P e.token × Tokens P e.value
  StatementTokens P (If test main other token) = P token × Tokens P test × StatementTokens P main × OtherTokens P other
  StatementTokens P (While test body token) = P token × Tokens P test × StatementTokens P body
  StatementTokens P (Do body test token) = P token × StatementTokens P body × Tokens P test
  StatementTokens P (For init test updates body token) = P token × InitTokens P init × OptionTokens P test × EffectTokens P updates × StatementTokens P body
  StatementTokens P (Labelled name body) = P name.token × StatementTokens P body
  StatementTokens P (Break label token) = P token
  StatementTokens P (Continue label token) = P token
  StatementTokens P (Return value token) = P token × OptionTokens P value
  StatementTokens P (Throw value token) = P token × Tokens P value
  StatementTokens P (Try main catches last token) = P token × BlockTokens P main × CatchTokens P catches × LastTokens P last
  StatementTokens P source.Statement.Unknown = Unit {0}

  pub BlockTokens : (ℕ → Type 0) → Braced → Type 0
  BlockTokens P (braced brace parts end) = P brace × AllTokens P parts × P end

  pub AllTokens : (ℕ → Type 0) → Statements → Type 0
  AllTokens P done = Unit {0}
  AllTokens P (first s rest) = StatementTokens P s × AllTokens P rest

  pub OtherTokens : (ℕ → Type 0) → Other → Type 0
  OtherTokens P absent = Unit {0}
  OtherTokens P (present s) = StatementTokens P s

  pub LastTokens : (ℕ → Type 0) → Last → Type 0
  LastTokens P nowhere = Unit {0}
  LastTokens P (finally b) = BlockTokens P b

  pub CatchTokens : (ℕ → Type 0) → Catches → Type 0
  CatchTokens P uncaught = Unit {0}
  CatchTokens P (catch is_final class name block rest) = P name.token × BlockTokens P block × CatchTokens P rest

-- ---- declarations

abbrev pub HeaderTokens : (ℕ → Type 0) → Header → Type 0
HeaderTokens P h = P h.name.token × AllByRecursion (λ (p : Parameter). P p.name.token) h.params

abbrev pub OwnTokens : (ℕ → Type 0) → Option OwnCall → Type 0
OwnTokens P None = Unit {0}
OwnTokens P (Some call) = P call.token × P call.paren × RowTokens P call.args

abbrev pub BodyTokens : (ℕ → Type 0) → Option Braced → Type 0
BodyTokens P None = Unit {0}
BodyTokens P (Some b) = BlockTokens P b

abbrev pub MemberTokens : (ℕ → Type 0) → Member → Type 0
MemberTokens P (source.Initializer is_static b) = BlockTokens P b
MemberTokens P (source.Fields ms ty all) = DeclaratorTokens P all
MemberTokens P (source.Method h result body) = HeaderTokens P h × BodyTokens P body
MemberTokens P (source.Constructor h own brace parts end) = HeaderTokens P h × OwnTokens P own × P brace × AllTokens P parts × P end
MemberTokens P source.Member.Nothing = Unit {0}
MemberTokens P source.Member.Unknown = Unit {0}

pub record ClassTokens (P : ℕ → Type 0) (k : ClassSyntax) : Type 0 where
  pub name : P k.name.token
  pub members : AllByRecursion (MemberTokens P) k.members

-- those of all classes
abbrev pub ClassesTokens : (ℕ → Type 0) → List ClassSyntax → Type 0
ClassesTokens P ks = AllByRecursion (ClassTokens P) ks
