-- From source statements to kernel statements: one rule a form (JLS 14).
use Rattle.std.specs.Prelude.{ℕ, Bool, true, false, ◌&&◌, List, [], ◌∷◌, ◌++◌, Option, Some, None, is_some, option_and_then, if◌then◌else◌}
use Rattle.wy_kernel.specs.declared.types.Ty.{Ty}
use Rattle.wy_kernel.specs.Form as kernel
use Rattle.wy_kernel.specs.View.{NONE}
use Rattle.wy_kernel.specs.Subtyping.{class_type}
use Rattle.wy_kernel.specs.Table.{Table, ConstantValue}
use Rattle.wy_syntax.specs.Syntax.{Expression, Initial, Value, Listed, WrittenType, Named, Declarator, Effect, ForInit, Statement, Block, Empty, Declare, Perform, If, While, Do, For, Labelled, Break, Continue, Return, Throw, Try, Unknown, Braced, braced, Statements, done, first, Other, absent, present, Last, nowhere, finally, Catches, uncaught, catch}
use Rattle.wy_syntax.specs.Syntax as source
use Rattle.wy_constant.specs.declared.rule.Rule.TheVariants.{Duplicate, BadOperand, BadJump, BadReturn}
use Rattle.wy_constant.specs.Scope.{Scope, with_last_value}
use Rattle.wy_constant.specs.Constant.{constant, constant_variable}
use Rattle.wy_elab_expr.specs.Operators.{Judgement}
use Rattle.wy_elab_expr.specs.Elaboration.{type_written, with_brackets, initialized}
use Rattle.wy_elab_body.specs.declared.place.Place.{Place}
use Rattle.wy_elab_body.specs.Places.{written, number_at}
use Rattle.wy_elab_body.specs.Making.{Makes, give, refuse, ◌>>=◌, expressed, changed, in_block, declaring, each}
use Rattle.wy_elab_body.specs.Parts.{condition, performed, returned, returns_nothing, thrown, caught_class, is_throwable}
use Rattle.wy_elab_body.specs.Jumps.{Around, inside, in_loop, under_label, in_try, label_named, break_target, continue_target, targets, targets_of_other, reach_of}

-- what all bodies of a program are made by: what the table settles, the table, and the places of all statements
pub record Setting : Type 0 where
  pub judgement : Judgement
  pub table : Table
  pub places : List Place

-- the number of the statement that is written at a site
abbrev pub number : Setting → ℕ → ℕ
number w site = number_at w.places (written site)

-- a statement that records no Test
abbrev pub plain : Setting → ℕ → Bool → kernel.Act → kernel.Statement
plain w site is_askable act = kernel.Stmt (number w site) site is_askable NONE act

-- a statement whose test guards jumps with these targets
abbrev pub testing : Setting → Around → ℕ → List ℕ → kernel.Act → kernel.Statement
testing w a site guarded act = kernel.Stmt (number w site) site true (reach_of a (number w site) guarded) act

abbrev pub targets_in : Around → kernel.Statement → List ℕ
targets_in a s = targets a.body a.catcher s

abbrev pub other_targets_in : Around → kernel.Other → List ℕ
other_targets_in a s = targets_of_other a.body a.catcher s

-- ---- the sites of statements

unfoldable pub site_of : Statement → ℕ
site_of (Block (braced brace parts end)) = brace
site_of (Empty token) = token
site_of (Declare is_final ty all) = ty.token
site_of (Perform e) = e.token
site_of (If test main other token) = token
site_of (While test body token) = token
site_of (Do body test token) = token
site_of (For init test updates body token) = token
site_of (Labelled name body) = name.token
site_of (Break label token) = token
site_of (Continue label token) = token
site_of (Return value token) = token
site_of (Throw value token) = token
site_of (Try main catches last token) = token
site_of Unknown = 0

-- the statement that is the body of a loop, if this is a loop
unfoldable pub body_of_loop : Statement → Option Statement
body_of_loop (While test body token) = Some body
body_of_loop (Do body test token) = Some body
body_of_loop (For init test updates body token) = Some body
body_of_loop _ = None

abbrev pub number_of_body : Setting → Option Statement → Option ℕ
number_of_body w (Some body) = Some (number w (site_of body))
number_of_body w None = None

-- ---- declarations (JLS 14.4)

-- the value of a constant variable (JLS 4.12.4)
abbrev pub value_of_initial : Table → Ty → Initial → Scope → Option ConstantValue
value_of_initial t ty (Value e) s = option_and_then (constant_variable ty) (constant t s e)
value_of_initial t ty (Listed elements brace) s = None

abbrev pub constant_if : Bool → Table → Ty → Initial → Scope → Scope
constant_if is_final t ty i s = with_last_value (if is_final then value_of_initial t ty i s else None) s

abbrev pub given_first : Setting → Bool → Ty → ℕ → Named → Option Initial → Makes kernel.Statement
given_first w is_final ty k n None = give (plain w n.token true (kernel.Declare k))
given_first w is_final ty k n (Some i) = do
  e ← expressed (λ s. initialized w.judgement w.table s ty i n.token)
  fixed ← changed (constant_if is_final w.table ty i)
  give (plain w n.token true (kernel.Eval (kernel.Set (kernel.Local k) e n.token)))

-- a variable is in scope in its own initializer
unfoldable pub declarator : Setting → Bool → Ty → Declarator → Makes kernel.Statement
declarator w is_final ty d = do
  k ← declaring d.name (with_brackets ty d.brackets) (is_final && is_some d.initial)
  given_first w is_final (with_brackets ty d.brackets) k d.name d.initial

unfoldable pub declarations : Setting → Bool → WrittenType → List Declarator → Makes (List kernel.Statement)
declarations w is_final written_type all = do
  ty ← expressed (λ s. type_written w.table written_type)
  each (declarator w is_final ty) all

-- ---- expressions that are statements

unfoldable pub effect : Setting → Effect → Makes kernel.Statement
effect w e = do
  act ← expressed (performed w.judgement w.table e.value)
  give (plain w e.token true act)

abbrev pub effects : Setting → List Effect → Makes (List kernel.Statement)
effects w all = each (effect w) all

unfoldable pub for_init : Setting → ForInit → Makes (List kernel.Statement)
for_init w source.ForInit.Nothing = give []
for_init w (source.ForInit.Declared is_final ty all) = declarations w is_final ty all
for_init w (source.ForInit.Effects all) = effects w all

-- ---- jumps

abbrev pub jumping : Setting → Option ℕ → ℕ → Makes kernel.Statement
jumping w (Some target) token = give (plain w token true (kernel.Jump target))
jumping w None token = refuse BadJump token

abbrev pub returning : Setting → Around → Option Expression → ℕ → Makes kernel.Statement
returning w a None token = if returns_nothing a.outcome then give (plain w token true (kernel.Return kernel.absent)) else refuse BadReturn token
returning w a (Some e) token = do
  v ← expressed (returned w.judgement w.table a.outcome e token)
  give (plain w token true (kernel.Return (kernel.the v)))

-- ---- rows

abbrev pub row_of : List kernel.Statement → kernel.Statements
row_of [] = kernel.done
row_of (x ∷ rest) = kernel.first x (row_of rest)

abbrev pub joined : List kernel.Statement → kernel.Statements → kernel.Statements
joined [] rest = rest
joined (x ∷ more) rest = kernel.first x (joined more rest)

-- ---- conditions of loops

abbrev pub tested : Setting → Option Expression → ℕ → Makes kernel.Part
tested w None site = give kernel.absent
tested w (Some e) site = do
  c ← expressed (condition w.judgement w.table e site)
  give (kernel.the c)

-- a `for` without a condition records no Test
abbrev pub looping : Setting → Around → ℕ → kernel.Part → List ℕ → kernel.Act → kernel.Statement
looping w a site kernel.absent guarded act = plain w site true act
looping w a site (kernel.the c) guarded act = testing w a site guarded act

abbrev pub is_label : Around → List ℕ → Bool
is_label a name = is_some (label_named a name)

abbrev pub in_first_block : Around → ℕ → Catches → Around
in_first_block a n uncaught = inside a n
in_first_block a n (catch is_final class name block rest) = in_try a n

-- the class of a clause is Throwable or below it
abbrev pub must_be_throwable : Setting → ℕ → ℕ → Makes Unit
must_be_throwable w class site = if is_throwable w.judgement class then give tt else refuse BadOperand site

-- a clause of a `try`: its class, the local that it binds, and its block
pub record Clause : Type 0 where
  pub class : ℕ
  pub local : ℕ
  pub block : kernel.Statement

-- the parameter is in scope in the block (JLS 14.20)
unfoldable pub clause : Setting → Named → Named → Makes kernel.Statement → Makes Clause
clause w class name block = in_block (do
  c ← expressed (caught_class w.judgement w.table class name.token)
  k ← declaring name (class_type c) false
  throwable ← must_be_throwable w c name.token
  x ← block
  give (record { class = c; local = k; block = x }))

unfoldable pub is_declaration : Statement → Bool
is_declaration (Declare is_final ty all) = true
is_declaration _ = false

unfoldable pub declared : Setting → Statement → Makes (List kernel.Statement)
declared w (Declare is_final ty all) = declarations w is_final ty all
declared w s = give []

-- what a statement in a block is: several statements where it is a declaration
abbrev pub several : Setting → Statement → Makes kernel.Statement → Makes (List kernel.Statement)
several w s made = if is_declaration s then declared w s else made >>= λ x. give (x ∷ [])

-- ---- the table

unfoldable mutual
  -- a statement that is no declaration
  pub statement : Setting → Around → Statement → Makes kernel.Statement
  statement w a (Block b) = block w a b
  statement w a (Empty token) = give (plain w token true (kernel.Block kernel.done))
  statement w a (Declare is_final ty all) = refuse BadOperand 0
  statement w a (Perform e) = effect w e
  statement w a (If test main other token) = do
    c ← expressed (condition w.judgement w.table test token)
    x ← statement w (inside a (number w token)) main
    y ← other_statement w (inside a (number w token)) other
    give (testing w a token (targets_in a x ++ other_targets_in a y) (kernel.If c x y))
  statement w a (While test body token) = do
    c ← expressed (condition w.judgement w.table test token)
    x ← statement w (in_loop a (number w token) (number w (site_of body))) body
    give (testing w a token (targets_in a x) (kernel.While c x))
  statement w a (Do body test token) = do
    x ← statement w (in_loop a (number w token) (number w (site_of body))) body
    c ← expressed (condition w.judgement w.table test token)
    give (testing w a token (targets_in a x) (kernel.Do x c))
  statement w a (For init test updates body token) = in_block (do
    is ← for_init w init
    c ← tested w test token
    us ← effects w updates
    x ← statement w (in_loop a (number w token) (number w (site_of body))) body
    give (looping w a token c (targets_in a x) (kernel.For (row_of is) c (row_of us) x)))
  statement w a (Labelled name body) =
      if is_label a name.name then refuse Duplicate name.token
      else (do
        x ← statement w (under_label a name.name (number w name.token) (number_of_body w (body_of_loop body))) body
        give (plain w name.token true (kernel.Labelled x)))
  statement w a (Break label token) = jumping w (break_target a label) token
  statement w a (Continue label token) = jumping w (continue_target a label) token
  statement w a (Return value token) = returning w a value token
  statement w a (Throw value token) = do
    v ← expressed (thrown w.judgement w.table value token)
    give (plain w token true (kernel.Throw v))
  statement w a (Try main catches last token) = do
    x ← block w (in_first_block a (number w token) catches) main
    cs ← clauses w (inside a (number w token)) catches
    y ← last_block w (inside a (number w token)) last
    give (plain w token true (kernel.Try x cs y))
  statement w a Unknown = refuse BadOperand 0

  pub other_statement : Setting → Around → Other → Makes kernel.Other
  other_statement w a absent = give kernel.nothing
  other_statement w a (present s) = do
    x ← statement w a s
    give (kernel.this x)

  pub block : Setting → Around → Braced → Makes kernel.Statement
  block w a (braced brace parts end) = in_block (do
    xs ← statements w (inside a (number w brace)) parts
    give (plain w brace false (kernel.Block xs)))

  -- statements in a block, where a declaration gives one for each declarator
  pub statements : Setting → Around → Statements → Makes kernel.Statements
  statements w a done = give kernel.done
  statements w a (first s rest) = do
    xs ← several w s (statement w a s)
    ys ← statements w a rest
    give (joined xs ys)

  pub last_block : Setting → Around → Last → Makes kernel.Other
  last_block w a nowhere = give kernel.nothing
  last_block w a (finally b) = do
    x ← block w a b
    give (kernel.this x)

  pub clauses : Setting → Around → Catches → Makes kernel.Catches
  clauses w a uncaught = give kernel.uncaught
  clauses w a (catch is_final class name b rest) = do
    c ← clause w class name (block w a b)
    cs ← clauses w a rest
    give (kernel.catch c.class c.local name.token c.block cs)
