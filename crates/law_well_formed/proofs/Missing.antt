-- Where abstract syntax is whole nothing is missing in it.
use Rattle.std.proofs.Common.{Bool, true, false, List}
use Rattle.std.specs.Prelude.{Option, Some, None}
use Rattle.std.specs.List.{All, AllByRecursion}
use Rattle.wy_tree.specs.Ast.{Ast, Asts, Leaf, Node}
use Rattle.wy_tree.specs.Ast as tree
use Rattle.wy_tree.specs.Grammar.{WellFormed}
use Rattle.wy_syntax.specs.Syntax.{Expression, Wrong, Initial}
use Rattle.wy_syntax.specs.Syntax.{Declarator, Effect, ForInit, Statement, Block, Empty, Declare, Perform, If, While, Do, For, Labelled, Break, Continue, Return, Throw, Try, Unknown, Braced, braced, Statements, done, first, Other, absent, present, Last, nowhere, finally, Catches, uncaught, catch}
use Rattle.wy_syntax.specs.Syntax.{OwnCall, Member, ClassSyntax}
use Rattle.wy_syntax.specs.Syntax as source
use Rattle.wy_syntax.specs.Declarations.{unit}
use Rattle.wy_members.specs.Declarations.{classes_of}
use Rattle.law_well_formed.specs.Complete.{IsOne, IsComplete, IsCompleteOption, HasCompleteInitial, IsCompleteDeclarator, IsCompleteEffect, IsCompleteInit, IsCompleteStatement, IsCompleteBlock, AreCompleteStatements, IsCompleteOther, IsCompleteLast, AreCompleteCatches, HasCompleteCall, IsCompleteMember, IsCompleteClass, IsCompleteUnit}
use Rattle.law_well_formed.proofs.Whole.{Names, IsSound, Whole, WholePart, WholeOption, WholeDeclarators, WholeEffects, WholeInit, WholeStatement, WholeBlock, WholeStatements, WholeOther, WholeLast, WholeCatches, WholeCall, WholeMember}
use Rattle.law_well_formed.proofs.Everywhere.{everywhere, everywhere_row, everywhere_initial}
use Rattle.law_well_formed.proofs.Leaves.{Worded, AllWorded}
use Rattle.law_well_formed.proofs.Texts.{unit_told}
use Rattle.law_well_formed.proofs.Lists.{each}

is_one : (P : Names) (e : Expression) → IsSound P e → IsOne e
is_one P Wrong h = h
is_one P _ h = tt

is_written : (P : Names) (e : Expression) → Whole P e → IsComplete e
is_written P e h = everywhere (IsSound P) IsOne (is_one P) e h

part_written : (P : Names) (e : Option Expression) → WholePart P e → IsCompleteOption e
part_written P None h = tt
part_written P (Some e) h = is_written P e h

option_written : (P : Names) (i : Option Initial) → WholeOption P i → HasCompleteInitial i
option_written P None h = tt
option_written P (Some i) h = everywhere_initial (IsSound P) IsOne (is_one P) i h

declarators_written : (P : Names) (all : List Declarator) → WholeDeclarators P all → All IsCompleteDeclarator all
declarators_written P all h = each (λ (d : Declarator). WholeOption P d.initial) IsCompleteDeclarator (λ d g. option_written P d.initial g) all h

effects_written : (P : Names) (all : List Effect) → WholeEffects P all → All IsCompleteEffect all
effects_written P all h = each (λ (e : Effect). Whole P e.value) IsCompleteEffect (λ e g. is_written P e.value g) all h

init_written : (P : Names) (i : ForInit) → WholeInit P i → IsCompleteInit i
init_written P source.ForInit.Nothing h = tt
init_written P (source.ForInit.Declared is_final ty all) h = declarators_written P all h
init_written P (source.ForInit.Effects all) h = effects_written P all h

mutual
  statement_written : (P : Names) (b : Bool) (s : Statement) → WholeStatement P b s → IsCompleteStatement b s
  statement_written P b (Block x) h = block_written P x h
  statement_written P b (Empty token) h = tt
  statement_written P b (Declare is_final ty all) h = (h.0, declarators_written P all h.1)
  statement_written P b (Perform e) h = is_written P e.value h
  statement_written P b (If test main other token) h = (is_written P test h.0, statement_written P false main h.1, other_written P other h.2)
  statement_written P b (While test body token) h = (is_written P test h.0, statement_written P false body h.1)
  statement_written P b (Do body test token) h = (statement_written P false body h.0, is_written P test h.1)
  statement_written P b (For init test updates body token) h = (init_written P init h.0, part_written P test h.1, effects_written P updates h.2, statement_written P false body h.3)
  statement_written P b (Labelled name body) h = statement_written P false body h
  statement_written P b (Break label token) h = tt
  statement_written P b (Continue label token) h = tt
  statement_written P b (Return value token) h = part_written P value h
  statement_written P b (Throw value token) h = is_written P value h
  statement_written P b (Try main catches last token) h = (block_written P main h.0, catches_written P catches h.1, last_written P last h.2)
  statement_written P b Unknown h = h

  block_written : (P : Names) (b : Braced) → WholeBlock P b → IsCompleteBlock b
  block_written P (braced brace parts end) h = statements_written P parts h

  statements_written : (P : Names) (all : Statements) → WholeStatements P all → AreCompleteStatements all
  statements_written P done h = tt
  statements_written P (first s rest) h = (statement_written P true s h.0, statements_written P rest h.1)

  other_written : (P : Names) (o : Other) → WholeOther P o → IsCompleteOther o
  other_written P absent h = tt
  other_written P (present s) h = statement_written P false s h

  last_written : (P : Names) (l : Last) → WholeLast P l → IsCompleteLast l
  last_written P nowhere h = tt
  last_written P (finally b) h = block_written P b h

  catches_written : (P : Names) (c : Catches) → WholeCatches P c → AreCompleteCatches c
  catches_written P uncaught h = tt
  catches_written P (catch is_final class name block rest) h = (block_written P block h.0, catches_written P rest h.1)

call_written : (P : Names) (own : Option OwnCall) → WholeCall P own → HasCompleteCall own
call_written P None h = tt
call_written P (Some call) h = everywhere_row (IsSound P) IsOne (is_one P) call.args h

member_written : (P : Names) (m : Member) → WholeMember P m → IsCompleteMember m
member_written P (source.Initializer is_static block) h = block_written P block h
member_written P (source.Fields modifiers ty all) h = declarators_written P all h
member_written P (source.Method g result None) h = tt
member_written P (source.Method g result (Some b)) h = block_written P b h
member_written P (source.Constructor g own brace parts end) h = (call_written P own h.0, statements_written P parts h.1)
member_written P source.Member.Nothing h = tt
member_written P source.Member.Unknown h = tt

-- ---- nothing is asked of names

abbrev pub Any : Names
Any name = Unit {0}

mutual
  pub any_worded : (t : Ast) → Worded Any t
  any_worded (Leaf o) = tt
  any_worded (Node f parts) = all_worded parts

  all_worded : (ts : Asts) → AllWorded Any ts
  all_worded tree.none = tt
  all_worded (tree.more t rest) = (any_worded t, all_worded rest)

pub nothing_missing : (t : Ast) → WellFormed t → IsCompleteUnit (unit 0 t)
nothing_missing t w =
    each (λ (k : ClassSyntax). AllByRecursion (WholeMember Any) k.members) IsCompleteClass (λ k h. each (WholeMember Any) IsCompleteMember (λ m g. member_written Any m g) k.members h) (classes_of (unit 0 t)) (unit_told Any t w (any_worded t) 0)
