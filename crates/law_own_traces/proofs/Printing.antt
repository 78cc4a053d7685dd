-- The statements that are made of what is written: a print ends a line where the word in front of its `(` is `println`.
use Rattle.std.proofs.Common.{◌≡◌, ap, ℕ, Bool, true, false, List, [], ◌∷◌, ◌++◌}
use Rattle.std.specs.Prelude.{Option, Some, None}
use Rattle.std.specs.List.{All}
use Rattle.std.proofs.lemmas.List.Elements.{All-nil, All-cons, All-head, All-tail}
use Rattle.wy_kernel.specs.declared.types.Ty.{Ty}
use Rattle.wy_kernel.specs.Form as kernel
use Rattle.wy_kernel.specs.Statements.{statements as statements_in, statements_within, statements_of_other, statements_of_all, statements_of_catches}
use Rattle.wy_kernel.specs.Subtyping.{class_type}
use Rattle.wy_kernel.specs.Table.{Table}
use Rattle.wy_syntax.specs.Syntax.{Expression, Initial, WrittenType, Named, Declarator, Effect, ForInit, Statement, Block, Empty, Declare, Perform, If, While, Do, For, Labelled, Break, Continue, Return, Throw, Try, Unknown, Braced, braced, Statements, done, first, Other, absent, present, Last, nowhere, finally, Catches, uncaught, catch}
use Rattle.wy_syntax.specs.Syntax as source
use Rattle.wy_constant.specs.declared.rule.Rule.TheVariants.{Duplicate, BadOperand, BadJump, BadReturn}
use Rattle.wy_constant.specs.Scope.{Scope}
use Rattle.wy_elab_expr.specs.Meaning.{formed}
use Rattle.wy_elab_expr.specs.Operators.{Judgement}
use Rattle.wy_elab_expr.specs.Elaboration.{type_written, with_brackets, initialized, Printed, print_operand, elaborated, elaborated_all}
use Rattle.wy_elab_body.specs.Making.{Makes, give, refuse, ◌>>=◌, expressed, changed, declaring, each}
use Rattle.wy_elab_body.specs.Parts.{ends_line, condition, performed, printing, evaluated, is_output_call, print_of, returned, returns_nothing, thrown, caught_class}
use Rattle.wy_elab_body.specs.Jumps.{Around, inside, in_loop, under_label, break_target, continue_target}
use Rattle.wy_elab_body.specs.Statements.{Setting, number, plain, testing, targets_in, other_targets_in, site_of, body_of_loop, number_of_body, constant_if, given_first, declarator, declarations, effect, effects, for_init, jumping, returning, row_of, joined, tested, looping, is_label, in_first_block, must_be_throwable, Clause, clause, is_declaration, declared, several, statement, other_statement, block, statements, last_block, clauses}
use Rattle.law_structure.proofs.Yields.{Yields, given, refused_at, refused_found, anything, and_then, behind, then_found, within_block, of_each, of_expressed, of_choice}
use Rattle.law_in_range.specs.InRange.{PrintLined, StatementLined, Lined}
use Rattle.wy_typing.proofs.Listed as listed
use Rattle.law_own_traces.proofs.Calls.{Words, Called}
use Rattle.law_own_traces.proofs.Said.{EffectsCalled, InitCalled, CallsIn, BlockCalls, AllCalls, OtherCalls, LastCalls, CatchCalls}

-- ---- what is made

-- whether a call at this token ends a line
abbrev pub line_by : Words → ℕ → Bool
line_by W token = ends_line (W token)

abbrev pub AllLined : Words → List kernel.Statement → Type 0
AllLined W all = Lined (line_by W) all

abbrev pub Lines : Words → kernel.Statement → Type 0
Lines W s = AllLined W (statements_in s)

abbrev pub ActLines : Words → kernel.Act → Type 0
ActLines W act = PrintLined (line_by W) act × AllLined W (statements_within act)

abbrev pub OtherLines : Words → kernel.Other → Type 0
OtherLines W x = AllLined W (statements_of_other x)

abbrev pub AllLines : Words → kernel.Statements → Type 0
AllLines W x = AllLined W (statements_of_all x)

abbrev pub CatchLines : Words → kernel.Catches → Type 0
CatchLines W x = AllLined W (statements_of_catches x)

abbrev pub ListLines : Words → List kernel.Statement → Type 0
ListLines W xs = All (Lines W) xs

both : (W : Words) (xs ys : List kernel.Statement) → AllLined W xs → AllLined W ys → AllLined W (xs ++ ys)
both W xs ys h i = listed.joined (StatementLined (line_by W)) xs ys h i

-- ---- expressions that are statements

print_lined : (W : Words) (name : List ℕ) (token : ℕ) (p : Option Printed) → W token ≡ name → ActLines W (print_of name token p)
print_lined W name token None h = (ap ends_line h, tt)
print_lined W name token (Some p) h = (ap ends_line h, tt)

printing_lined : (W : Words) (j : Judgement) (t : Table) (s : Scope) (e : Expression) → Called W e → Yields (printing j t s e) (ActLines W)
unfolding printing
printing_lined W j t s (source.InvokeOn object name args token) h =
    then_found (elaborated_all j t s args) _ (λ ms. Unit {0}) (ActLines W) (anything _) (λ ms x.
    then_found (print_operand name ms token) _ (λ p. Unit {0}) (ActLines W) (anything _) (λ p y. given (ActLines W) (print_of name token p) (print_lined W name token p h)))
printing_lined W j t s _ h = refused_found (ActLines W) BadOperand 0

evaluated_lined : (W : Words) (j : Judgement) (t : Table) (s : Scope) (e : Expression) → Yields (evaluated j t s e) (ActLines W)
evaluated_lined W j t s e =
    then_found (elaborated j t s e) _ (λ m. Unit {0}) (ActLines W) (anything _) (λ m x.
    then_found (formed m) _ (λ p. Unit {0}) (ActLines W) (anything _) (λ form y. given (ActLines W) (kernel.Eval form) (tt, tt)))

performed_lined : (W : Words) (j : Judgement) (t : Table) (e : Expression) → Called W e → (s : Scope) → Yields (performed j t e s) (ActLines W)
unfolding performed
performed_lined W j t e h s = of_choice (is_output_call t s e) (printing j t s e) (evaluated j t s e) (ActLines W) (printing_lined W j t s e h) (evaluated_lined W j t s e)

effect_lined : (W : Words) (w : Setting) (e : Effect) → Called W e.value → Yields (effect w e) (Lines W)
unfolding effect
effect_lined W w e h =
    and_then (expressed (performed w.judgement w.table e.value)) (λ act. give (plain w e.token true act)) (ActLines W) (Lines W)
    (of_expressed (performed w.judgement w.table e.value) (ActLines W) (performed_lined W w.judgement w.table e.value h))
    (λ act i. given (Lines W) (plain w e.token true act) i)

effects_lined : (W : Words) (w : Setting) (all : List Effect) → EffectsCalled W all → Yields (effects w all) (ListLines W)
unfolding each
effects_lined W w [] h = given (ListLines W) [] (All-nil (Lines W))
effects_lined W w (e ∷ rest) h =
    and_then (effect w e) _ (Lines W) (ListLines W) (effect_lined W w e h.0) (λ x i.
    and_then (effects w rest) _ (ListLines W) (ListLines W) (effects_lined W w rest h.1) (λ xs k. given (ListLines W) (x ∷ xs) (All-cons (Lines W) x xs i k)))

-- ---- declarations

first_lined : (W : Words) (w : Setting) (is_final : Bool) (ty : Ty) (k : ℕ) (n : Named) (i : Option Initial) → Yields (given_first w is_final ty k n i) (Lines W)
first_lined W w is_final ty k n None = given (Lines W) (plain w n.token true (kernel.Declare k)) (tt, tt)
first_lined W w is_final ty k n (Some i) =
    behind (expressed (λ s. initialized w.judgement w.table s ty i n.token)) (λ e. changed (constant_if is_final w.table ty i) >>= λ fixed. give (plain w n.token true (kernel.Eval (kernel.Set (kernel.Local k) e n.token)))) (Lines W)
    (λ e. behind (changed (constant_if is_final w.table ty i)) (λ fixed. give (plain w n.token true (kernel.Eval (kernel.Set (kernel.Local k) e n.token)))) (Lines W)
    (λ fixed. given (Lines W) (plain w n.token true (kernel.Eval (kernel.Set (kernel.Local k) e n.token))) (tt, tt)))

declarator_lined : (W : Words) (w : Setting) (is_final : Bool) (ty : Ty) (d : Declarator) → Yields (declarator w is_final ty d) (Lines W)
unfolding declarator
declarator_lined W w is_final ty d =
    behind (declaring d.name (with_brackets ty d.brackets) _) (λ k. given_first w is_final (with_brackets ty d.brackets) k d.name d.initial) (Lines W) (λ k. first_lined W w is_final (with_brackets ty d.brackets) k d.name d.initial)

declarations_lined : (W : Words) (w : Setting) (is_final : Bool) (ty : WrittenType) (all : List Declarator) → Yields (declarations w is_final ty all) (ListLines W)
unfolding declarations
declarations_lined W w is_final ty all =
    behind (expressed (λ s. type_written w.table ty)) (λ t. each (declarator w is_final t) all) (ListLines W) (λ t. of_each (declarator w is_final t) (Lines W) (declarator_lined W w is_final t) all)

init_lined : (W : Words) (w : Setting) (i : ForInit) → InitCalled W i → Yields (for_init w i) (ListLines W)
unfolding for_init
init_lined W w source.ForInit.Nothing h = given (ListLines W) [] (All-nil (Lines W))
init_lined W w (source.ForInit.Declared is_final ty all) h = declarations_lined W w is_final ty all
init_lined W w (source.ForInit.Effects all) h = effects_lined W w all h

-- ---- rows

pub row_lined : (W : Words) (xs : List kernel.Statement) → ListLines W xs → AllLines W (row_of xs)
row_lined W [] h = tt
row_lined W (x ∷ rest) h = both W (statements_in x) (statements_of_all (row_of rest)) (All-head (Lines W) x rest h) (row_lined W rest (All-tail (Lines W) x rest h))

pub joined_lined : (W : Words) (xs : List kernel.Statement) (rest : kernel.Statements) → ListLines W xs → AllLines W rest → AllLines W (joined xs rest)
joined_lined W [] rest h i = i
joined_lined W (x ∷ more) rest h i = both W (statements_in x) (statements_of_all (joined more rest)) (All-head (Lines W) x more h) (joined_lined W more rest (All-tail (Lines W) x more h) i)

pub alone_lined : (W : Words) (made : Makes kernel.Statement) → Yields made (Lines W) → Yields (made >>= λ x. give (x ∷ [])) (ListLines W)
alone_lined W made h = and_then made (λ x. give (x ∷ [])) (Lines W) (ListLines W) h (λ x i. given (ListLines W) (x ∷ []) (All-cons (Lines W) x [] i (All-nil (Lines W))))

declared_lined : (W : Words) (w : Setting) (s : Statement) → Yields (declared w s) (ListLines W)
unfolding declared
declared_lined W w (Declare is_final ty all) = declarations_lined W w is_final ty all
declared_lined W w _ = given (ListLines W) [] (All-nil (Lines W))

several_lined : (W : Words) (w : Setting) (s : Statement) (made : Makes kernel.Statement) → Yields made (Lines W) → Yields (several w s made) (ListLines W)
several_lined W w s made h = of_choice (is_declaration s) (declared w s) (made >>= λ x. give (x ∷ [])) (ListLines W) (declared_lined W w s) (alone_lined W made h)

-- ---- jumps and tests

jumping_lined : (W : Words) (w : Setting) (target : Option ℕ) (token : ℕ) → Yields (jumping w target token) (Lines W)
jumping_lined W w None token = refused_at (Lines W) BadJump token
jumping_lined W w (Some n) token = given (Lines W) (plain w token true (kernel.Jump n)) (tt, tt)

returning_lined : (W : Words) (w : Setting) (a : Around) (value : Option Expression) (token : ℕ) → Yields (returning w a value token) (Lines W)
returning_lined W w a None token =
    of_choice (returns_nothing a.outcome) (give (plain w token true (kernel.Return kernel.absent))) (refuse BadReturn token) (Lines W)
    (given (Lines W) (plain w token true (kernel.Return kernel.absent)) (tt, tt)) (refused_at (Lines W) BadReturn token)
returning_lined W w a (Some e) token =
    behind (expressed (returned w.judgement w.table a.outcome e token)) (λ v. give (plain w token true (kernel.Return (kernel.the v)))) (Lines W)
    (λ v. given (Lines W) (plain w token true (kernel.Return (kernel.the v))) (tt, tt))

looping_lined : (W : Words) (w : Setting) (a : Around) (site : ℕ) (test : kernel.Part) (guarded : List ℕ) (act : kernel.Act) → ActLines W act → Lines W (looping w a site test guarded act)
looping_lined W w a site kernel.absent guarded act h = h
looping_lined W w a site (kernel.the c) guarded act h = h

-- ---- the table

abbrev ClauseLines : Words → Clause → Type 0
ClauseLines W c = Lines W c.block

clause_lined : (W : Words) (w : Setting) (class name : Named) (b : Makes kernel.Statement) → Yields b (Lines W) → Yields (clause w class name b) (ClauseLines W)
unfolding clause
clause_lined W w class name b h =
    within_block _ (ClauseLines W)
    (behind (expressed (caught_class w.judgement w.table class name.token)) _ (ClauseLines W) (λ c.
    behind (declaring name (class_type c) false) _ (ClauseLines W) (λ k.
    behind (must_be_throwable w c name.token) _ (ClauseLines W) (λ throwable.
    and_then b _ (Lines W) (ClauseLines W) h (λ x i. given (ClauseLines W) (record { class = c; local = k; block = x }) i)))))

mutual
  unfolding statement other_statement block statements last_block clauses

  pub statement_lined : (W : Words) (w : Setting) (a : Around) (s : Statement) → CallsIn W s → Yields (statement w a s) (Lines W)
  statement_lined W w a (Block b) h = block_lined W w a b h
  statement_lined W w a (Empty token) h = given (Lines W) (plain w token true (kernel.Block kernel.done)) (tt, tt)
  statement_lined W w a (Declare is_final ty all) h = refused_at (Lines W) BadOperand 0
  statement_lined W w a (Perform e) h = effect_lined W w e h
  statement_lined W w a (If test main other token) h =
      behind (expressed (condition w.judgement w.table test token)) _ (Lines W) (λ c.
      and_then (statement w (inside a (number w token)) main) _ (Lines W) (Lines W) (statement_lined W w (inside a (number w token)) main h.0) (λ x hx.
      and_then (other_statement w (inside a (number w token)) other) _ (OtherLines W) (Lines W) (other_lined W w (inside a (number w token)) other h.1) (λ y hy.
      given (Lines W) (testing w a token (targets_in a x ++ other_targets_in a y) (kernel.If c x y)) (tt, both W (statements_in x) (statements_of_other y) hx hy))))
  statement_lined W w a (While test body token) h =
      behind (expressed (condition w.judgement w.table test token)) _ (Lines W) (λ c.
      and_then (statement w (in_loop a (number w token) (number w (site_of body))) body) _ (Lines W) (Lines W) (statement_lined W w (in_loop a (number w token) (number w (site_of body))) body h) (λ x hx.
      given (Lines W) (testing w a token (targets_in a x) (kernel.While c x)) (tt, hx)))
  statement_lined W w a (Do body test token) h =
      and_then (statement w (in_loop a (number w token) (number w (site_of body))) body) _ (Lines W) (Lines W) (statement_lined W w (in_loop a (number w token) (number w (site_of body))) body h) (λ x hx.
      behind (expressed (condition w.judgement w.table test token)) _ (Lines W) (λ c. given (Lines W) (testing w a token (targets_in a x) (kernel.Do x c)) (tt, hx)))
  statement_lined W w a (For init test updates body token) h =
      within_block _ (Lines W)
      (and_then (for_init w init) _ (ListLines W) (Lines W) (init_lined W w init h.0) (λ is hi.
      behind (tested w test token) _ (Lines W) (λ c.
      and_then (effects w updates) _ (ListLines W) (Lines W) (effects_lined W w updates h.1) (λ us hu.
      and_then (statement w (in_loop a (number w token) (number w (site_of body))) body) _ (Lines W) (Lines W) (statement_lined W w (in_loop a (number w token) (number w (site_of body))) body h.2) (λ x hx.
      given (Lines W) (looping w a token c (targets_in a x) (kernel.For (row_of is) c (row_of us) x))
      (looping_lined W w a token c (targets_in a x) (kernel.For (row_of is) c (row_of us) x) (tt, both W (statements_of_all (row_of is)) (statements_of_all (row_of us) ++ statements_in x) (row_lined W is hi) (both W (statements_of_all (row_of us)) (statements_in x) (row_lined W us hu) hx))))))))
  statement_lined W w a (Labelled name body) h =
      of_choice (is_label a name.name) (refuse Duplicate name.token) _ (Lines W) (refused_at (Lines W) Duplicate name.token)
      (and_then (statement w (under_label a name.name (number w name.token) (number_of_body w (body_of_loop body))) body) _ (Lines W) (Lines W)
      (statement_lined W w (under_label a name.name (number w name.token) (number_of_body w (body_of_loop body))) body h) (λ x hx.
      given (Lines W) (plain w name.token true (kernel.Labelled x)) (tt, hx)))
  statement_lined W w a (Break label token) h = jumping_lined W w (break_target a label) token
  statement_lined W w a (Continue label token) h = jumping_lined W w (continue_target a label) token
  statement_lined W w a (Return value token) h = returning_lined W w a value token
  statement_lined W w a (Throw value token) h =
      behind (expressed (thrown w.judgement w.table value token)) _ (Lines W) (λ v. given (Lines W) (plain w token true (kernel.Throw v)) (tt, tt))
  statement_lined W w a (Try main catches last token) h =
      and_then (block w (in_first_block a (number w token) catches) main) _ (Lines W) (Lines W) (block_lined W w (in_first_block a (number w token) catches) main h.0) (λ x hx.
      and_then (clauses w (inside a (number w token)) catches) _ (CatchLines W) (Lines W) (clauses_lined W w (inside a (number w token)) catches h.1) (λ cs hc.
      and_then (last_block w (inside a (number w token)) last) _ (OtherLines W) (Lines W) (last_lined W w (inside a (number w token)) last h.2) (λ y hy.
      given (Lines W) (plain w token true (kernel.Try x cs y)) (tt, both W (statements_in x) (statements_of_catches cs ++ statements_of_other y) hx (both W (statements_of_catches cs) (statements_of_other y) hc hy)))))
  statement_lined W w a Unknown h = refused_at (Lines W) BadOperand 0

  other_lined : (W : Words) (w : Setting) (a : Around) (s : Other) → OtherCalls W s → Yields (other_statement w a s) (OtherLines W)
  other_lined W w a absent h = given (OtherLines W) kernel.nothing tt
  other_lined W w a (present s) h = and_then (statement w a s) _ (Lines W) (OtherLines W) (statement_lined W w a s h) (λ x i. given (OtherLines W) (kernel.this x) i)

  pub block_lined : (W : Words) (w : Setting) (a : Around) (b : Braced) → BlockCalls W b → Yields (block w a b) (Lines W)
  block_lined W w a (braced brace parts end) h =
      within_block _ (Lines W)
      (and_then (statements w (inside a (number w brace)) parts) _ (AllLines W) (Lines W) (statements_lined W w (inside a (number w brace)) parts h) (λ xs i.
      given (Lines W) (plain w brace false (kernel.Block xs)) (tt, i)))

  pub statements_lined : (W : Words) (w : Setting) (a : Around) (s : Statements) → AllCalls W s → Yields (statements w a s) (AllLines W)
  statements_lined W w a done h = given (AllLines W) kernel.done tt
  statements_lined W w a (first s rest) h =
      and_then (several w s (statement w a s)) _ (ListLines W) (AllLines W) (several_lined W w s (statement w a s) (statement_lined W w a s h.0)) (λ xs i.
      and_then (statements w a rest) _ (AllLines W) (AllLines W) (statements_lined W w a rest h.1) (λ ys k. given (AllLines W) (joined xs ys) (joined_lined W xs ys i k)))

  last_lined : (W : Words) (w : Setting) (a : Around) (s : Last) → LastCalls W s → Yields (last_block w a s) (OtherLines W)
  last_lined W w a nowhere h = given (OtherLines W) kernel.nothing tt
  last_lined W w a (finally b) h = and_then (block w a b) _ (Lines W) (OtherLines W) (block_lined W w a b h) (λ x i. given (OtherLines W) (kernel.this x) i)

  clauses_lined : (W : Words) (w : Setting) (a : Around) (s : Catches) → CatchCalls W s → Yields (clauses w a s) (CatchLines W)
  clauses_lined W w a uncaught h = given (CatchLines W) kernel.uncaught tt
  clauses_lined W w a (catch is_final class name b rest) h =
      and_then (clause w class name (block w a b)) _ (ClauseLines W) (CatchLines W) (clause_lined W w class name (block w a b) (block_lined W w a b h.0)) (λ c i.
      and_then (clauses w a rest) _ (CatchLines W) (CatchLines W) (clauses_lined W w a rest h.1) (λ cs k. given (CatchLines W) (kernel.catch c.class c.local name.token c.block cs) (both W (statements_in c.block) (statements_of_catches cs) i k)))
