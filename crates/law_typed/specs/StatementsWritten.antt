-- What the text of a statement can say: each expression in it is one that a text can say.
use Rattle.std.specs.Prelude.{List, Option, Some, None}
use Rattle.std.specs.List.{AllByRecursion}
use Rattle.wy_syntax.specs.Syntax.{Expression, Initial, Declarator, Effect, ForInit, Statement, Block, Empty, Declare, Perform, If, While, Do, For, Labelled, Break, Continue, Return, Throw, Try, Unknown, Braced, braced, Statements, done, first, Other, absent, present, Last, nowhere, finally, Catches, uncaught, catch}
use Rattle.wy_syntax.specs.Syntax as source
use Rattle.law_typed.specs.ExpressionsWritten.{IsWritten, InitialWritten}

abbrev pub PartWritten : Option Expression → Type 0
PartWritten None = Unit {0}
PartWritten (Some e) = IsWritten e

abbrev pub OptionWritten : Option Initial → Type 0
OptionWritten None = Unit {0}
OptionWritten (Some i) = InitialWritten i

abbrev pub DeclaratorsWritten : List Declarator → Type 0
DeclaratorsWritten all = AllByRecursion (λ (d : Declarator). OptionWritten d.initial) all

abbrev pub EffectsWritten : List Effect → Type 0
EffectsWritten all = AllByRecursion (λ (e : Effect). IsWritten e.value) all

abbrev pub InitsWritten : ForInit → Type 0
InitsWritten source.ForInit.Nothing = Unit {0}
InitsWritten (source.ForInit.Declared is_final ty all) = DeclaratorsWritten all
InitsWritten (source.ForInit.Effects all) = EffectsWritten all

-- a declaration stands in a block alone, and is the body of no loop (JLS 14.4)
abbrev pub IsNoDeclaration : Statement → Type 0
IsNoDeclaration (Declare is_final ty all) = ⊥
IsNoDeclaration Unknown = ⊥
IsNoDeclaration _ = Unit {0}

abbrev mutual
  pub StatementWritten : Statement → Type 0
  StatementWritten (Block b) = BlockWritten b
  StatementWritten (Empty token) = Unit {0}
  StatementWritten (Declare is_final ty all) = DeclaratorsWritten all
  StatementWritten (Perform e) = IsWritten e.value
  StatementWritten (If test main other token) = IsWritten test × StatementWritten main × OtherWritten other
  StatementWritten (While test body token) = IsWritten test × IsNoDeclaration body × StatementWritten body
  StatementWritten (Do body test token) = IsNoDeclaration body × StatementWritten body × IsWritten test
  StatementWritten (For init test updates body token) = InitsWritten init × PartWritten test × EffectsWritten updates × IsNoDeclaration body × StatementWritten body
  StatementWritten (Labelled name body) = StatementWritten body
  StatementWritten (Break label token) = Unit {0}
  StatementWritten (Continue label token) = Unit {0}
  StatementWritten (Return value token) = PartWritten value
  StatementWritten (Throw value token) = IsWritten value
  StatementWritten (Try main catches last token) = BlockWritten main × CatchesWritten catches × LastWritten last
  StatementWritten Unknown = Unit {0}

  pub BlockWritten : Braced → Type 0
  BlockWritten (braced brace parts end) = AllWritten parts

  pub AllWritten : Statements → Type 0
  AllWritten done = Unit {0}
  AllWritten (first s rest) = StatementWritten s × AllWritten rest

  pub OtherWritten : Other → Type 0
  OtherWritten absent = Unit {0}
  OtherWritten (present s) = StatementWritten s

  pub LastWritten : Last → Type 0
  LastWritten nowhere = Unit {0}
  LastWritten (finally b) = BlockWritten b

  pub CatchesWritten : Catches → Type 0
  CatchesWritten uncaught = Unit {0}
  CatchesWritten (catch is_final class name block rest) = BlockWritten block × CatchesWritten rest
