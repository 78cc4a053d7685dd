-- Where abstract syntax is whole and no called name is a keyword it is what a text can say.
use Rattle.std.proofs.Common.{◌≡◌, ◌∙◌, refl, sym, ap, subst, ℕ, Bool, true, false, List, [], ◌∷◌}
use Rattle.std.specs.Prelude.{Option, Some, None, codes}
use Rattle.std.specs.List.{AllByRecursion}
use Rattle.std.proofs.lemmas.List.Elements.{All-head}
use Rattle.wy_tree.specs.Seen.{Tok, Word, Key, Int, Long, Char, Text, Sign}
use Rattle.wy_tree.specs.Words.{keys, is_key}
use Rattle.wy_tree.specs.Ast.{Ast, Asts, Leaf, Node, tokens, tokens_all}
use Rattle.wy_tree.specs.Ast as tree
use Rattle.wy_tree.specs.Grammar.{WellFormed}
use Rattle.wy_syntax.specs.Syntax.{Expression, Invoke, InvokeOn, SuperInvoke, NewArray, Update, Initial}
use Rattle.wy_syntax.specs.Syntax.{Declarator, Effect, ForInit, Statement, Block, Empty, Declare, Perform, If, While, Do, For, Labelled, Break, Continue, Return, Throw, Try, Unknown, Braced, braced, Statements, done, first, Other, absent, present, Last, nowhere, finally, Catches, uncaught, catch}
use Rattle.wy_syntax.specs.Syntax.{OwnCall, Member, ClassSyntax}
use Rattle.wy_syntax.specs.Syntax as source
use Rattle.wy_syntax.specs.Names.{word_of}
use Rattle.wy_syntax.specs.Declarations.{unit}
use Rattle.wy_members.specs.Declarations.{classes_of}
use Rattle.law_typed.specs.ExpressionsWritten.{IsName, IsSaid, IsWritten}
use Rattle.law_typed.specs.StatementsWritten.{PartWritten, OptionWritten, DeclaratorsWritten, EffectsWritten, InitsWritten, IsNoDeclaration, StatementWritten, BlockWritten, AllWritten, OtherWritten, LastWritten, CatchesWritten}
use Rattle.law_typed.specs.Bodies.{CallWritten}
use Rattle.law_well_formed.specs.Written.{MemberWritten, ClassWritten, UnitWritten, IsNoKeyword, HasNoKeyword}
use Rattle.law_well_formed.proofs.Whole.{IsSound, Whole, WholePart, WholeOption, WholeDeclarators, WholeEffects, WholeInit, WholeStatement, WholeBlock, WholeStatements, WholeOther, WholeLast, WholeCatches, WholeCall, WholeMember}
use Rattle.law_well_formed.proofs.Everywhere.{everywhere, everywhere_row, everywhere_initial}
use Rattle.law_well_formed.proofs.Leaves.{Worded, AllWorded}
use Rattle.law_well_formed.proofs.Texts.{unit_told}
use Rattle.law_well_formed.proofs.Lists.{each, weaker, front_all, rest_all}

is_said : (e : Expression) → IsSound IsName e → IsSaid e
is_said (Invoke name args token) h = h
is_said (InvokeOn object name args token) h = h
is_said (SuperInvoke name args token) h = h
is_said (NewArray base base_token sizes brackets token) h = h
is_said (Update op left value token) h = h
is_said _ h = tt

is_written : (e : Expression) → Whole IsName e → IsWritten e
is_written e h = everywhere (IsSound IsName) IsSaid is_said e h

part_written : (e : Option Expression) → WholePart IsName e → PartWritten e
part_written None h = tt
part_written (Some e) h = is_written e h

option_written : (i : Option Initial) → WholeOption IsName i → OptionWritten i
option_written None h = tt
option_written (Some i) h = everywhere_initial (IsSound IsName) IsSaid is_said i h

declarators_written : (all : List Declarator) → WholeDeclarators IsName all → DeclaratorsWritten all
declarators_written all h = weaker (λ (d : Declarator). WholeOption IsName d.initial) (λ (d : Declarator). OptionWritten d.initial) (λ d g. option_written d.initial g) all h

effects_written : (all : List Effect) → WholeEffects IsName all → EffectsWritten all
effects_written all h = weaker (λ (e : Effect). Whole IsName e.value) (λ (e : Effect). IsWritten e.value) (λ e g. is_written e.value g) all h

init_written : (i : ForInit) → WholeInit IsName i → InitsWritten i
init_written source.ForInit.Nothing h = tt
init_written (source.ForInit.Declared is_final ty all) h = declarators_written all h
init_written (source.ForInit.Effects all) h = effects_written all h

-- what stands in no block is no declaration
no_declaration : (s : Statement) → WholeStatement IsName false s → IsNoDeclaration s
no_declaration (Declare is_final ty all) h = absurd (let e : false ≡ true = h.0 in cc)
no_declaration Unknown h = h
no_declaration _ h = tt

mutual
  statement_written : (b : Bool) (s : Statement) → WholeStatement IsName b s → StatementWritten s
  statement_written b (Block x) h = block_written x h
  statement_written b (Empty token) h = tt
  statement_written b (Declare is_final ty all) h = declarators_written all h.1
  statement_written b (Perform e) h = is_written e.value h
  statement_written b (If test main other token) h = (is_written test h.0, statement_written false main h.1, other_written other h.2)
  statement_written b (While test body token) h = (is_written test h.0, no_declaration body h.1, statement_written false body h.1)
  statement_written b (Do body test token) h = (no_declaration body h.0, statement_written false body h.0, is_written test h.1)
  statement_written b (For init test updates body token) h =
      (init_written init h.0, part_written test h.1, effects_written updates h.2, no_declaration body h.3, statement_written false body h.3)
  statement_written b (Labelled name body) h = statement_written false body h
  statement_written b (Break label token) h = tt
  statement_written b (Continue label token) h = tt
  statement_written b (Return value token) h = part_written value h
  statement_written b (Throw value token) h = is_written value h
  statement_written b (Try main catches last token) h = (block_written main h.0, catches_written catches h.1, last_written last h.2)
  statement_written b Unknown h = tt

  block_written : (b : Braced) → WholeBlock IsName b → BlockWritten b
  block_written (braced brace parts end) h = statements_written parts h

  statements_written : (all : Statements) → WholeStatements IsName all → AllWritten all
  statements_written done h = tt
  statements_written (first s rest) h = (statement_written true s h.0, statements_written rest h.1)

  other_written : (o : Other) → WholeOther IsName o → OtherWritten o
  other_written absent h = tt
  other_written (present s) h = statement_written false s h

  last_written : (l : Last) → WholeLast IsName l → LastWritten l
  last_written nowhere h = tt
  last_written (finally b) h = block_written b h

  catches_written : (c : Catches) → WholeCatches IsName c → CatchesWritten c
  catches_written uncaught h = tt
  catches_written (catch is_final class name block rest) h = (block_written block h.0, catches_written rest h.1)

call_written : (own : Option OwnCall) → WholeCall IsName own → CallWritten own
call_written None h = tt
call_written (Some call) h = everywhere_row (IsSound IsName) IsSaid is_said call.args h

member_written : (m : Member) → WholeMember IsName m → MemberWritten m
member_written (source.Initializer is_static block) h = block_written block h
member_written (source.Fields modifiers ty all) h = declarators_written all h
member_written (source.Method g result None) h = tt
member_written (source.Method g result (Some b)) h = block_written b h
member_written (source.Constructor g own brace parts end) h = (call_written own h.0, statements_written parts h.1)
member_written source.Member.Nothing h = tt
member_written source.Member.Unknown h = tt

-- ---- names that are no keywords

abbrev Nonempty : List ℕ → Type 0
Nonempty [] = ⊥
Nonempty (c ∷ rest) = Unit {0}

pub no_name : IsName []
no_name e = subst Nonempty (sym e) tt

word_name : (w : List ℕ) → is_key w ≡ false → IsName w
unfolding is_key keys
word_name w h e = let new_is : is_key (codes "new") ≡ true = refl in let f : true ≡ false = sym new_is ∙ ap is_key (sym e) ∙ h in absurd cc

token_name : (o : Tok) → IsNoKeyword o → IsName (word_of o)
token_name (Word w) h = word_name w h
token_name (Key w) h = no_name
token_name (Int value decimal) h = no_name
token_name (Long value decimal) h = no_name
token_name (Char code) h = no_name
token_name (Text units) h = no_name
token_name (Sign s) h = no_name

mutual
  pub named_worded : (t : Ast) → HasNoKeyword (tokens t) → Worded IsName t
  named_worded (Leaf o) h = token_name o (All-head IsNoKeyword o [] h)
  named_worded (Node f parts) h = all_worded parts h

  all_worded : (ts : Asts) → HasNoKeyword (tokens_all ts) → AllWorded IsName ts
  all_worded tree.none h = tt
  all_worded (tree.more t rest) h = (named_worded t (front_all IsNoKeyword (tokens t) (tokens_all rest) h), all_worded rest (rest_all IsNoKeyword (tokens t) (tokens_all rest) h))

pub trees_written : (t : Ast) → WellFormed t → HasNoKeyword (tokens t) → UnitWritten (unit 0 t)
trees_written t w h =
    each (λ (k : ClassSyntax). AllByRecursion (WholeMember IsName) k.members) ClassWritten (λ k g. each (WholeMember IsName) MemberWritten (λ m x. member_written m x) k.members g) (classes_of (unit 0 t)) (unit_told IsName t w (named_worded t h) 0)
