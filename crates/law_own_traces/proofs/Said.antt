-- What is said of the calls that are statements, in what is written.
use Rattle.std.specs.Prelude.{List, [], ◌∷◌, Some}
use Rattle.std.specs.List.{AllByRecursion}
use Rattle.wy_syntax.specs.Syntax.{Effect, ForInit, Statement, Block, Empty, Declare, Perform, If, While, Do, For, Labelled, Break, Continue, Return, Throw, Try, Unknown, Braced, braced, Statements, done, first, Other, absent, present, Last, nowhere, finally, Catches, uncaught, catch, Member, ClassSyntax}
use Rattle.wy_syntax.specs.Syntax as source
use Rattle.law_own_traces.proofs.Calls.{Words, Called}

-- ---- statements

abbrev pub EffectsCalled : Words → List Effect → Type 0
EffectsCalled W [] = Unit {0}
EffectsCalled W (e ∷ rest) = Called W e.value × EffectsCalled W rest

abbrev pub InitCalled : Words → ForInit → Type 0
InitCalled W source.ForInit.Nothing = Unit {0}
InitCalled W (source.ForInit.Declared is_final ty all) = Unit {0}
InitCalled W (source.ForInit.Effects all) = EffectsCalled W all

abbrev mutual
  -- what is said of each call that is a statement
  pub CallsIn : Words → Statement → Type 0
  CallsIn W (Block b) = BlockCalls W b
  CallsIn W (Empty token) = Unit {0}
  CallsIn W (Declare is_final ty all) = Unit {0}
  CallsIn W (Perform e) = Called W e.value
  CallsIn W (If test main other token) = CallsIn W main × OtherCalls W other
  CallsIn W (While test body token) = CallsIn W body
  CallsIn W (Do body test token) = CallsIn W body
  CallsIn W (For init test updates body token) = InitCalled W init × EffectsCalled W updates × CallsIn W body
  CallsIn W (Labelled name body) = CallsIn W body
  CallsIn W (Break label token) = Unit {0}
  CallsIn W (Continue label token) = Unit {0}
  CallsIn W (Return value token) = Unit {0}
  CallsIn W (Throw value token) = Unit {0}
  CallsIn W (Try main catches last token) = BlockCalls W main × CatchCalls W catches × LastCalls W last
  CallsIn W Unknown = Unit {0}

  pub BlockCalls : Words → Braced → Type 0
  BlockCalls W (braced brace parts end) = AllCalls W parts

  pub AllCalls : Words → Statements → Type 0
  AllCalls W done = Unit {0}
  AllCalls W (first s rest) = CallsIn W s × AllCalls W rest

  pub OtherCalls : Words → Other → Type 0
  OtherCalls W absent = Unit {0}
  OtherCalls W (present s) = CallsIn W s

  pub LastCalls : Words → Last → Type 0
  LastCalls W nowhere = Unit {0}
  LastCalls W (finally b) = BlockCalls W b

  pub CatchCalls : Words → Catches → Type 0
  CatchCalls W uncaught = Unit {0}
  CatchCalls W (catch is_final class name block rest) = BlockCalls W block × CatchCalls W rest

-- ---- classes

abbrev pub MemberCalls : Words → Member → Type 0
MemberCalls W (source.Initializer is_static b) = BlockCalls W b
MemberCalls W (source.Method h result (Some b)) = BlockCalls W b
MemberCalls W (source.Constructor h own brace parts end) = AllCalls W parts
MemberCalls W _ = Unit {0}

abbrev pub MembersCalls : Words → List Member → Type 0
MembersCalls W ms = AllByRecursion (MemberCalls W) ms

abbrev pub ClassesCalls : Words → List ClassSyntax → Type 0
ClassesCalls W ks = AllByRecursion (λ (k : ClassSyntax). MembersCalls W k.members) ks
