-- Abstract syntax in which nothing is missing: each expression is one, each statement is one, and declarations stand in blocks alone.
-- What is read from a tree of the grammar is so (JLS 14.2, 14.4).
use Rattle.std.specs.Prelude.{◌≡◌, Bool, true, false, Option, Some, None}
use Rattle.std.specs.List.{All}
use Rattle.wy_syntax.specs.Syntax.{Expression, Row, Initial, Elements, Wrong}
use Rattle.wy_syntax.specs.Syntax.{Declarator, Effect, ForInit, Effects, Statement, Block, Empty, Declare, Perform, If, While, Do, For, Labelled, Break, Continue, Return, Throw, Try, Unknown, Braced, braced, Statements, done, first, Other, absent, present, Last, nowhere, finally, Catches, uncaught, catch}
use Rattle.wy_syntax.specs.Syntax.{OwnCall, Member, ClassSyntax}
use Rattle.wy_syntax.specs.Syntax as source
use Rattle.wy_members.specs.Declarations.{CompilationUnit, classes_of}
use Rattle.law_typed.specs.Throughout.{Throughout, ThroughoutRow, ThroughoutInitial, ThroughoutElements}

-- it is an expression
abbrev pub IsOne : Expression → Type 0
IsOne Wrong = ⊥
IsOne _ = Unit {0}

-- and so is each that stands in it
abbrev pub IsComplete : Expression → Type 0
IsComplete e = Throughout IsOne e

abbrev pub AreComplete : Row → Type 0
AreComplete args = ThroughoutRow IsOne args

abbrev pub IsCompleteInitial : Initial → Type 0
IsCompleteInitial i = ThroughoutInitial IsOne i

abbrev pub HasCompleteElements : Elements → Type 0
HasCompleteElements all = ThroughoutElements IsOne all

abbrev pub IsCompleteOption : Option Expression → Type 0
IsCompleteOption None = Unit {0}
IsCompleteOption (Some e) = IsComplete e

abbrev pub HasCompleteInitial : Option Initial → Type 0
HasCompleteInitial None = Unit {0}
HasCompleteInitial (Some i) = IsCompleteInitial i

abbrev pub IsCompleteDeclarator : Declarator → Type 0
IsCompleteDeclarator d = HasCompleteInitial d.initial

abbrev pub IsCompleteEffect : Effect → Type 0
IsCompleteEffect e = IsComplete e.value

abbrev pub IsCompleteInit : ForInit → Type 0
IsCompleteInit source.ForInit.Nothing = Unit {0}
IsCompleteInit (source.ForInit.Declared is_final ty declarators) = All IsCompleteDeclarator declarators
IsCompleteInit (Effects all) = All IsCompleteEffect all

abbrev mutual
  -- a declaration may be one only where it stands in a block
  pub IsCompleteStatement : Bool → Statement → Type 0
  IsCompleteStatement in_block (Block b) = IsCompleteBlock b
  IsCompleteStatement in_block (Empty token) = Unit {0}
  IsCompleteStatement in_block (Declare is_final ty declarators) = (in_block ≡ true) × All IsCompleteDeclarator declarators
  IsCompleteStatement in_block (Perform e) = IsCompleteEffect e
  IsCompleteStatement in_block (If test main other token) = IsComplete test × IsCompleteStatement false main × IsCompleteOther other
  IsCompleteStatement in_block (While test body token) = IsComplete test × IsCompleteStatement false body
  IsCompleteStatement in_block (Do body test token) = IsCompleteStatement false body × IsComplete test
  IsCompleteStatement in_block (For init test updates body token) = IsCompleteInit init × IsCompleteOption test × All IsCompleteEffect updates × IsCompleteStatement false body
  IsCompleteStatement in_block (Labelled name body) = IsCompleteStatement false body
  IsCompleteStatement in_block (Break label token) = Unit {0}
  IsCompleteStatement in_block (Continue label token) = Unit {0}
  IsCompleteStatement in_block (Return value token) = IsCompleteOption value
  IsCompleteStatement in_block (Throw value token) = IsComplete value
  IsCompleteStatement in_block (Try main catches last token) = IsCompleteBlock main × AreCompleteCatches catches × IsCompleteLast last
  IsCompleteStatement in_block Unknown = ⊥

  pub IsCompleteBlock : Braced → Type 0
  IsCompleteBlock (braced brace parts end) = AreCompleteStatements parts

  pub AreCompleteStatements : Statements → Type 0
  AreCompleteStatements done = Unit {0}
  AreCompleteStatements (first s rest) = IsCompleteStatement true s × AreCompleteStatements rest

  pub IsCompleteOther : Other → Type 0
  IsCompleteOther absent = Unit {0}
  IsCompleteOther (present s) = IsCompleteStatement false s

  pub IsCompleteLast : Last → Type 0
  IsCompleteLast nowhere = Unit {0}
  IsCompleteLast (finally b) = IsCompleteBlock b

  pub AreCompleteCatches : Catches → Type 0
  AreCompleteCatches uncaught = Unit {0}
  AreCompleteCatches (catch is_final class name block rest) = IsCompleteBlock block × AreCompleteCatches rest

-- the arguments of a call at the head of a constructor are written
abbrev pub HasCompleteCall : Option OwnCall → Type 0
HasCompleteCall None = Unit {0}
HasCompleteCall (Some call) = AreComplete call.args

abbrev pub IsCompleteMember : Member → Type 0
IsCompleteMember (source.Initializer is_static block) = IsCompleteBlock block
IsCompleteMember (source.Fields modifiers ty declarators) = All IsCompleteDeclarator declarators
IsCompleteMember (source.Method h result None) = Unit {0}
IsCompleteMember (source.Method h result (Some b)) = IsCompleteBlock b
IsCompleteMember (source.Constructor h own brace parts end) = HasCompleteCall own × AreCompleteStatements parts
IsCompleteMember source.Member.Nothing = Unit {0}
IsCompleteMember source.Member.Unknown = Unit {0}

abbrev pub IsCompleteClass : ClassSyntax → Type 0
IsCompleteClass k = All IsCompleteMember k.members

abbrev pub IsCompleteUnit : CompilationUnit → Type 0
IsCompleteUnit unit = All IsCompleteClass (classes_of unit)
