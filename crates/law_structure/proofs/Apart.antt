-- The statements that are made of what is written: their expressions have the tokens of its signs, and their tests those of its words.
use Rattle.std.proofs.Common.{ℕ, Bool, true, false, List, [], ◌∷◌, ◌++◌}
use Rattle.std.specs.Prelude.{Option, Some, None}
use Rattle.std.specs.List.{All, AllByRecursion}
use Rattle.std.proofs.lemmas.List.Elements.{All-nil, All-cons, All-head, All-tail}
use Rattle.wy_kernel.specs.declared.types.Ty.{Ty}
use Rattle.wy_kernel.specs.Form as kernel
use Rattle.wy_kernel.specs.Subtyping.{class_type}
use Rattle.wy_kernel.specs.Table.{Table}
use Rattle.wy_syntax.specs.Syntax.{Expression, Initial, WrittenType, Named, Declarator, Effect, ForInit, Statement, Block, Empty, Declare, Perform, If, While, Do, For, Labelled, Break, Continue, Return, Throw, Try, Unknown, Braced, braced, Statements, done, first, Other, absent, present, Last, nowhere, finally, Catches, uncaught, catch}
use Rattle.wy_syntax.specs.Syntax as source
use Rattle.wy_constant.specs.declared.rule.Rule.TheVariants.{Duplicate, BadOperand, BadJump, BadReturn}
use Rattle.wy_constant.specs.Scope.{Scope}
use Rattle.wy_elab_expr.specs.Meaning.{Meaning, type_of, formed, brought}
use Rattle.wy_elab_expr.specs.Meaning as found
use Rattle.wy_elab_expr.specs.Operators.{Judgement, is_boolean, boolean_type, is_void, is_assignable}
use Rattle.wy_elab_expr.specs.Elaboration.{type_written, with_brackets, initialized, Printed, print_operand, elaborated, elaborated_all}
use Rattle.wy_elab_body.specs.Making.{Makes, give, refuse, ◌>>=◌, expressed, changed, declaring, each}
use Rattle.wy_elab_body.specs.Parts.{Outcome, NoValue, ValueOf, NoReturn, condition, performed, printing, evaluated, is_output_call, print_of, returned_as, returned, returns_nothing, thrown, caught_class}
use Rattle.wy_elab_body.specs.Jumps.{Around, inside, in_loop, under_label, break_target, continue_target}
use Rattle.wy_elab_body.specs.Statements.{Setting, number, plain, testing, targets_in, other_targets_in, site_of, body_of_loop, number_of_body, constant_if, given_first, declarator, declarations, effect, effects, for_init, jumping, returning, row_of, joined, tested, looping, is_label, in_first_block, must_be_throwable, Clause, clause, is_declaration, declared, several, statement, other_statement, block, statements, last_block, clauses}
use Rattle.law_structure.proofs.Yields.{Yields, given, refused_at, refused_found, and_then, behind, then_found, within_block, of_expressed, of_choice}
use Rattle.law_structure.proofs.Sound.{Numbers}
use Rattle.law_structure.proofs.Clear.{Clear, ClearPart, ClearMeaning, AllClear, brought_clear, formed_clear, of_form}
use Rattle.law_structure.proofs.Elaborations.{Signs, InitialSigns, ClearPrinted, operand_clear, expression_clear, all_clear, initial_clear}

abbrev mutual
  -- S has the sites of forms that decide, and T those of statements with a test
  pub Apart : Numbers → Numbers → kernel.Statement → Type 0
  Apart S T (kernel.Stmt number site askable reach act) = ApartAct S T site act

  pub ApartAct : Numbers → Numbers → ℕ → kernel.Act → Type 0
  ApartAct S T site (kernel.Block parts) = ApartAll S T parts
  ApartAct S T site (kernel.Eval value) = Clear S value
  ApartAct S T site (kernel.Declare local) = Unit {0}
  ApartAct S T site (kernel.If test x y) = T site × Clear S test × Apart S T x × ApartOther S T y
  ApartAct S T site (kernel.While test x) = T site × Clear S test × Apart S T x
  ApartAct S T site (kernel.Do x test) = T site × Clear S test × Apart S T x
  ApartAct S T site (kernel.For inits test updates x) = T site × ClearPart S test × ApartAll S T inits × ApartAll S T updates × Apart S T x
  ApartAct S T site (kernel.Labelled x) = Apart S T x
  ApartAct S T site (kernel.Jump target) = Unit {0}
  ApartAct S T site (kernel.Return value) = ClearPart S value
  ApartAct S T site (kernel.Throw value) = Clear S value
  ApartAct S T site (kernel.Try x catches y) = Apart S T x × ApartCatches S T catches × ApartOther S T y
  ApartAct S T site (kernel.Print operand ty ends_line at) = ClearPart S operand

  pub ApartOther : Numbers → Numbers → kernel.Other → Type 0
  ApartOther S T kernel.nothing = Unit {0}
  ApartOther S T (kernel.this s) = Apart S T s

  pub ApartAll : Numbers → Numbers → kernel.Statements → Type 0
  ApartAll S T kernel.done = Unit {0}
  ApartAll S T (kernel.first s rest) = Apart S T s × ApartAll S T rest

  pub ApartCatches : Numbers → Numbers → kernel.Catches → Type 0
  ApartCatches S T kernel.uncaught = Unit {0}
  ApartCatches S T (kernel.catch class local site block rest) = Apart S T block × ApartCatches S T rest

-- ---- what is written

abbrev pub MaybeSigns : Numbers → Option Expression → Type 0
MaybeSigns S None = Unit {0}
MaybeSigns S (Some e) = Signs S e

abbrev pub FirstSigns : Numbers → Option Initial → Type 0
FirstSigns S None = Unit {0}
FirstSigns S (Some i) = InitialSigns S i

abbrev pub DeclaratorSigns : Numbers → List Declarator → Type 0
DeclaratorSigns S all = AllByRecursion (λ (d : Declarator). FirstSigns S d.initial) all

abbrev pub EffectSigns : Numbers → List Effect → Type 0
EffectSigns S [] = Unit {0}
EffectSigns S (e ∷ rest) = Signs S e.value × EffectSigns S rest

abbrev pub InitSigns : Numbers → ForInit → Type 0
InitSigns S source.ForInit.Nothing = Unit {0}
InitSigns S (source.ForInit.Declared is_final ty all) = DeclaratorSigns S all
InitSigns S (source.ForInit.Effects all) = EffectSigns S all

abbrev mutual
  pub Words : Numbers → Numbers → Statement → Type 0
  Words S T (Block b) = BlockWords S T b
  Words S T (Empty token) = Unit {0}
  Words S T (Declare is_final ty all) = DeclaratorSigns S all
  Words S T (Perform e) = Signs S e.value
  Words S T (If test main other token) = T token × Signs S test × Words S T main × OtherWords S T other
  Words S T (While test body token) = T token × Signs S test × Words S T body
  Words S T (Do body test token) = T token × Signs S test × Words S T body
  Words S T (For init test updates body token) = T token × InitSigns S init × MaybeSigns S test × EffectSigns S updates × Words S T body
  Words S T (Labelled name body) = Words S T body
  Words S T (Break label token) = Unit {0}
  Words S T (Continue label token) = Unit {0}
  Words S T (Return value token) = MaybeSigns S value
  Words S T (Throw value token) = Signs S value
  Words S T (Try main catches last token) = BlockWords S T main × CatchWords S T catches × LastWords S T last
  Words S T Unknown = Unit {0}

  pub BlockWords : Numbers → Numbers → Braced → Type 0
  BlockWords S T (braced brace parts end) = AllWords S T parts

  pub AllWords : Numbers → Numbers → Statements → Type 0
  AllWords S T done = Unit {0}
  AllWords S T (first s rest) = Words S T s × AllWords S T rest

  pub OtherWords : Numbers → Numbers → Other → Type 0
  OtherWords S T absent = Unit {0}
  OtherWords S T (present s) = Words S T s

  pub LastWords : Numbers → Numbers → Last → Type 0
  LastWords S T nowhere = Unit {0}
  LastWords S T (finally b) = BlockWords S T b

  pub CatchWords : Numbers → Numbers → Catches → Type 0
  CatchWords S T uncaught = Unit {0}
  CatchWords S T (catch is_final class name block rest) = BlockWords S T block × CatchWords S T rest

-- ---- expressions that are statements

abbrev ClearAct : Numbers → kernel.Act → Type 0
ClearAct S (kernel.Eval value) = Clear S value
ClearAct S (kernel.Print operand ty ends_line site) = ClearPart S operand
ClearAct S _ = ⊥

act_apart : (S T : Numbers) (site : ℕ) (act : kernel.Act) → ClearAct S act → ApartAct S T site act
act_apart S T site (kernel.Eval value) h = h
act_apart S T site (kernel.Print operand ty ends_line at) h = h
act_apart S T site (kernel.Block parts) h = absurd h
act_apart S T site (kernel.Declare local) h = absurd h
act_apart S T site (kernel.If test x y) h = absurd h
act_apart S T site (kernel.While test x) h = absurd h
act_apart S T site (kernel.Do x test) h = absurd h
act_apart S T site (kernel.For inits test updates x) h = absurd h
act_apart S T site (kernel.Labelled x) h = absurd h
act_apart S T site (kernel.Jump target) h = absurd h
act_apart S T site (kernel.Return value) h = absurd h
act_apart S T site (kernel.Throw value) h = absurd h
act_apart S T site (kernel.Try x catches y) h = absurd h

print_clear : (S : Numbers) (name : List ℕ) (token : ℕ) (p : Option Printed) → ClearPrinted S p → ClearAct S (print_of name token p)
print_clear S name token None h = tt
print_clear S name token (Some p) h = h

printing_clear : (S : Numbers) (j : Judgement) (t : Table) (s : Scope) (e : Expression) → Signs S e → Yields (printing j t s e) (ClearAct S)
unfolding printing
printing_clear S j t s (source.InvokeOn object name args token) h =
    then_found (elaborated_all j t s args) _ (AllClear S) (ClearAct S) (all_clear S j t s args h.1) (λ ms i.
    then_found (print_operand name ms token) _ (ClearPrinted S) (ClearAct S) (operand_clear S name ms token i) (λ p k. given (ClearAct S) (print_of name token p) (print_clear S name token p k)))
printing_clear S j t s _ h = refused_found (ClearAct S) BadOperand 0

performed_clear : (S : Numbers) (j : Judgement) (t : Table) (e : Expression) → Signs S e → (s : Scope) → Yields (performed j t e s) (ClearAct S)
unfolding performed
performed_clear S j t e h s =
    of_choice (is_output_call t s e) (printing j t s e) (evaluated j t s e) (ClearAct S) (printing_clear S j t s e h)
    (then_found (elaborated j t s e) _ (ClearMeaning S) (ClearAct S) (expression_clear S j t s e h) (λ m i.
    of_form S (formed m) _ (ClearAct S) (formed_clear S m i) (λ form k. given (ClearAct S) (kernel.Eval form) k)))

condition_clear : (S : Numbers) (j : Judgement) (t : Table) (e : Expression) (site : ℕ) → Signs S e → (s : Scope) → Yields (condition j t e site s) (Clear S)
unfolding condition
condition_clear S j t e site h s =
    then_found (elaborated j t s e) _ (ClearMeaning S) (Clear S) (expression_clear S j t s e h) (λ m i.
    of_choice (is_boolean (type_of m)) (brought boolean_type m) (found.refuse BadOperand site) (Clear S) (brought_clear S boolean_type m i) (refused_found (Clear S) BadOperand site))

returned_as_clear : (S : Numbers) (j : Judgement) (o : Outcome) (m : Meaning) (token : ℕ) → ClearMeaning S m → Yields (returned_as j o m token) (Clear S)
returned_as_clear S j (ValueOf ty) m token h =
    of_choice (is_void (type_of m)) (found.refuse BadOperand token) _ (Clear S) (refused_found (Clear S) BadOperand token)
    (of_choice (is_assignable j ty m) (brought ty m) (found.refuse BadReturn token) (Clear S) (brought_clear S ty m h) (refused_found (Clear S) BadReturn token))
returned_as_clear S j NoValue m token h = refused_found (Clear S) BadReturn token
returned_as_clear S j NoReturn m token h = refused_found (Clear S) BadReturn token

returned_clear : (S : Numbers) (j : Judgement) (t : Table) (o : Outcome) (e : Expression) (token : ℕ) → Signs S e → (s : Scope) → Yields (returned j t o e token s) (Clear S)
unfolding returned
returned_clear S j t o e token h s = then_found (elaborated j t s e) _ (ClearMeaning S) (Clear S) (expression_clear S j t s e h) (λ m i. returned_as_clear S j o m token i)

thrown_clear : (S : Numbers) (j : Judgement) (t : Table) (e : Expression) (token : ℕ) → Signs S e → (s : Scope) → Yields (thrown j t e token s) (Clear S)
unfolding thrown
thrown_clear S j t e token h s =
    then_found (elaborated j t s e) _ (ClearMeaning S) (Clear S) (expression_clear S j t s e h) (λ m i.
    of_choice (j.below (type_of m) _) (formed m) (found.refuse BadOperand token) (Clear S) (formed_clear S m i) (refused_found (Clear S) BadOperand token))

effect_apart : (S T : Numbers) (w : Setting) (e : Effect) → Signs S e.value → Yields (effect w e) (Apart S T)
unfolding effect
effect_apart S T w e h =
    and_then (expressed (performed w.judgement w.table e.value)) (λ act. give (plain w e.token true act)) (ClearAct S) (Apart S T)
    (of_expressed (performed w.judgement w.table e.value) (ClearAct S) (performed_clear S w.judgement w.table e.value h))
    (λ act i. given (Apart S T) (plain w e.token true act) (act_apart S T e.token act i))

abbrev pub ListApart : Numbers → Numbers → List kernel.Statement → Type 0
ListApart S T xs = All (Apart S T) xs

effects_apart : (S T : Numbers) (w : Setting) (all : List Effect) → EffectSigns S all → Yields (effects w all) (ListApart S T)
unfolding each
effects_apart S T w [] h = given (ListApart S T) [] (All-nil (Apart S T))
effects_apart S T w (e ∷ rest) h =
    and_then (effect w e) _ (Apart S T) (ListApart S T) (effect_apart S T w e h.0) (λ x i.
    and_then (effects w rest) _ (ListApart S T) (ListApart S T) (effects_apart S T w rest h.1) (λ xs k. given (ListApart S T) (x ∷ xs) (All-cons (Apart S T) x xs i k)))

-- ---- declarations

first_apart : (S T : Numbers) (w : Setting) (is_final : Bool) (ty : Ty) (k : ℕ) (n : Named) (i : Option Initial) → FirstSigns S i → Yields (given_first w is_final ty k n i) (Apart S T)
first_apart S T w is_final ty k n None h = given (Apart S T) (plain w n.token true (kernel.Declare k)) tt
first_apart S T w is_final ty k n (Some i) h =
    and_then (expressed (λ s. initialized w.judgement w.table s ty i n.token)) (λ e. changed (constant_if is_final w.table ty i) >>= λ fixed. give (plain w n.token true (kernel.Eval (kernel.Set (kernel.Local k) e n.token)))) (Clear S) (Apart S T)
    (of_expressed (λ s. initialized w.judgement w.table s ty i n.token) (Clear S) (λ s. initial_clear S w.judgement w.table s ty i n.token h))
    (λ e x. behind (changed (constant_if is_final w.table ty i)) (λ fixed. give (plain w n.token true (kernel.Eval (kernel.Set (kernel.Local k) e n.token)))) (Apart S T)
    (λ fixed. given (Apart S T) (plain w n.token true (kernel.Eval (kernel.Set (kernel.Local k) e n.token))) (tt, x)))

declarator_apart : (S T : Numbers) (w : Setting) (is_final : Bool) (ty : Ty) (d : Declarator) → FirstSigns S d.initial → Yields (declarator w is_final ty d) (Apart S T)
unfolding declarator
declarator_apart S T w is_final ty d h = behind (declaring d.name (with_brackets ty d.brackets) _) (λ k. given_first w is_final (with_brackets ty d.brackets) k d.name d.initial) (Apart S T) (λ k. first_apart S T w is_final (with_brackets ty d.brackets) k d.name d.initial h)

declarators_apart : (S T : Numbers) (w : Setting) (is_final : Bool) (ty : Ty) (all : List Declarator) → DeclaratorSigns S all → Yields (each (declarator w is_final ty) all) (ListApart S T)
unfolding each
declarators_apart S T w is_final ty [] h = given (ListApart S T) [] (All-nil (Apart S T))
declarators_apart S T w is_final ty (d ∷ rest) h =
    and_then (declarator w is_final ty d) _ (Apart S T) (ListApart S T) (declarator_apart S T w is_final ty d h.0) (λ x i.
    and_then (each (declarator w is_final ty) rest) _ (ListApart S T) (ListApart S T) (declarators_apart S T w is_final ty rest h.1) (λ xs k. given (ListApart S T) (x ∷ xs) (All-cons (Apart S T) x xs i k)))

declarations_apart : (S T : Numbers) (w : Setting) (is_final : Bool) (ty : WrittenType) (all : List Declarator) → DeclaratorSigns S all → Yields (declarations w is_final ty all) (ListApart S T)
unfolding declarations
declarations_apart S T w is_final ty all h = behind (expressed (λ s. type_written w.table ty)) (λ t. each (declarator w is_final t) all) (ListApart S T) (λ t. declarators_apart S T w is_final t all h)

init_apart : (S T : Numbers) (w : Setting) (i : ForInit) → InitSigns S i → Yields (for_init w i) (ListApart S T)
unfolding for_init
init_apart S T w source.ForInit.Nothing h = given (ListApart S T) [] (All-nil (Apart S T))
init_apart S T w (source.ForInit.Declared is_final ty all) h = declarations_apart S T w is_final ty all h
init_apart S T w (source.ForInit.Effects all) h = effects_apart S T w all h

-- ---- rows

pub row_apart : (S T : Numbers) (xs : List kernel.Statement) → ListApart S T xs → ApartAll S T (row_of xs)
row_apart S T [] h = tt
row_apart S T (x ∷ rest) h = (All-head (Apart S T) x rest h, row_apart S T rest (All-tail (Apart S T) x rest h))

pub joined_apart : (S T : Numbers) (xs : List kernel.Statement) (rest : kernel.Statements) → ListApart S T xs → ApartAll S T rest → ApartAll S T (joined xs rest)
joined_apart S T [] rest h i = i
joined_apart S T (x ∷ more) rest h i = (All-head (Apart S T) x more h, joined_apart S T more rest (All-tail (Apart S T) x more h) i)

pub alone_apart : (S T : Numbers) (made : Makes kernel.Statement) → Yields made (Apart S T) → Yields (made >>= λ x. give (x ∷ [])) (ListApart S T)
alone_apart S T made h = and_then made (λ x. give (x ∷ [])) (Apart S T) (ListApart S T) h (λ x i. given (ListApart S T) (x ∷ []) (All-cons (Apart S T) x [] i (All-nil (Apart S T))))

declared_apart : (S T : Numbers) (w : Setting) (s : Statement) → Words S T s → Yields (declared w s) (ListApart S T)
unfolding declared
declared_apart S T w (Declare is_final ty all) h = declarations_apart S T w is_final ty all h
declared_apart S T w _ h = given (ListApart S T) [] (All-nil (Apart S T))

several_apart : (S T : Numbers) (w : Setting) (s : Statement) (made : Makes kernel.Statement) → Words S T s → Yields made (Apart S T) → Yields (several w s made) (ListApart S T)
several_apart S T w s made g h = of_choice (is_declaration s) (declared w s) (made >>= λ x. give (x ∷ [])) (ListApart S T) (declared_apart S T w s g) (alone_apart S T made h)

-- ---- jumps and tests

jumping_apart : (S T : Numbers) (w : Setting) (target : Option ℕ) (token : ℕ) → Yields (jumping w target token) (Apart S T)
jumping_apart S T w None token = refused_at (Apart S T) BadJump token
jumping_apart S T w (Some n) token = given (Apart S T) (plain w token true (kernel.Jump n)) tt

returning_apart : (S T : Numbers) (w : Setting) (a : Around) (value : Option Expression) (token : ℕ) → MaybeSigns S value → Yields (returning w a value token) (Apart S T)
returning_apart S T w a None token h =
    of_choice (returns_nothing a.outcome) (give (plain w token true (kernel.Return kernel.absent))) (refuse BadReturn token) (Apart S T)
    (given (Apart S T) (plain w token true (kernel.Return kernel.absent)) tt) (refused_at (Apart S T) BadReturn token)
returning_apart S T w a (Some e) token h =
    and_then (expressed (returned w.judgement w.table a.outcome e token)) (λ v. give (plain w token true (kernel.Return (kernel.the v)))) (Clear S) (Apart S T)
    (of_expressed (returned w.judgement w.table a.outcome e token) (Clear S) (returned_clear S w.judgement w.table a.outcome e token h))
    (λ v i. given (Apart S T) (plain w token true (kernel.Return (kernel.the v))) i)

tested_apart : (S : Numbers) (w : Setting) (test : Option Expression) (site : ℕ) → MaybeSigns S test → Yields (tested w test site) (ClearPart S)
tested_apart S w None site h = given (ClearPart S) kernel.absent tt
tested_apart S w (Some e) site h =
    and_then (expressed (condition w.judgement w.table e site)) (λ c. give (kernel.the c)) (Clear S) (ClearPart S)
    (of_expressed (condition w.judgement w.table e site) (Clear S) (condition_clear S w.judgement w.table e site h)) (λ c i. given (ClearPart S) (kernel.the c) i)

looping_apart : (S T : Numbers) (w : Setting) (a : Around) (site : ℕ) (test : kernel.Part) (guarded : List ℕ) (act : kernel.Act) → ApartAct S T site act → Apart S T (looping w a site test guarded act)
looping_apart S T w a site kernel.absent guarded act h = h
looping_apart S T w a site (kernel.the c) guarded act h = h

asked : (S T : Numbers) (w : Setting) (test : Expression) (token : ℕ) (g : kernel.Expression → Makes kernel.Statement) → Signs S test → ((c : kernel.Expression) → Clear S c → Yields (g c) (Apart S T)) → Yields (expressed (condition w.judgement w.table test token) >>= g) (Apart S T)
asked S T w test token g h i = and_then (expressed (condition w.judgement w.table test token)) g (Clear S) (Apart S T) (of_expressed (condition w.judgement w.table test token) (Clear S) (condition_clear S w.judgement w.table test token h)) i

-- ---- the table

abbrev ClauseApart : Numbers → Numbers → Clause → Type 0
ClauseApart S T c = Apart S T c.block

clause_apart : (S T : Numbers) (w : Setting) (class name : Named) (b : Makes kernel.Statement) → Yields b (Apart S T) → Yields (clause w class name b) (ClauseApart S T)
unfolding clause
clause_apart S T w class name b h =
    within_block _ (ClauseApart S T)
    (behind (expressed (caught_class w.judgement w.table class name.token)) _ (ClauseApart S T) (λ c.
    behind (declaring name (class_type c) false) _ (ClauseApart S T) (λ k.
    behind (must_be_throwable w c name.token) _ (ClauseApart S T) (λ throwable.
    and_then b _ (Apart S T) (ClauseApart S T) h (λ x i. given (ClauseApart S T) (record { class = c; local = k; block = x }) i)))))

mutual
  unfolding statement other_statement block statements last_block clauses

  pub statement_apart : (S T : Numbers) (w : Setting) (a : Around) (s : Statement) → Words S T s → Yields (statement w a s) (Apart S T)
  statement_apart S T w a (Block b) h = block_apart S T w a b h
  statement_apart S T w a (Empty token) h = given (Apart S T) (plain w token true (kernel.Block kernel.done)) tt
  statement_apart S T w a (Declare is_final ty all) h = refused_at (Apart S T) BadOperand 0
  statement_apart S T w a (Perform e) h = effect_apart S T w e h
  statement_apart S T w a (If test main other token) h =
      asked S T w test token _ h.1 (λ c hc.
      and_then (statement w (inside a (number w token)) main) _ (Apart S T) (Apart S T) (statement_apart S T w (inside a (number w token)) main h.2) (λ x hx.
      and_then (other_statement w (inside a (number w token)) other) _ (ApartOther S T) (Apart S T) (other_apart S T w (inside a (number w token)) other h.3) (λ y hy.
      given (Apart S T) (testing w a token (targets_in a x ++ other_targets_in a y) (kernel.If c x y)) (h.0, hc, hx, hy))))
  statement_apart S T w a (While test body token) h =
      asked S T w test token _ h.1 (λ c hc.
      and_then (statement w (in_loop a (number w token) (number w (site_of body))) body) _ (Apart S T) (Apart S T) (statement_apart S T w (in_loop a (number w token) (number w (site_of body))) body h.2) (λ x hx.
      given (Apart S T) (testing w a token (targets_in a x) (kernel.While c x)) (h.0, hc, hx)))
  statement_apart S T w a (Do body test token) h =
      and_then (statement w (in_loop a (number w token) (number w (site_of body))) body) _ (Apart S T) (Apart S T) (statement_apart S T w (in_loop a (number w token) (number w (site_of body))) body h.2) (λ x hx.
      asked S T w test token _ h.1 (λ c hc. given (Apart S T) (testing w a token (targets_in a x) (kernel.Do x c)) (h.0, hc, hx)))
  statement_apart S T w a (For init test updates body token) h =
      within_block _ (Apart S T)
      (and_then (for_init w init) _ (ListApart S T) (Apart S T) (init_apart S T w init h.1) (λ is hi.
      and_then (tested w test token) _ (ClearPart S) (Apart S T) (tested_apart S w test token h.2) (λ c hc.
      and_then (effects w updates) _ (ListApart S T) (Apart S T) (effects_apart S T w updates h.3) (λ us hu.
      and_then (statement w (in_loop a (number w token) (number w (site_of body))) body) _ (Apart S T) (Apart S T) (statement_apart S T w (in_loop a (number w token) (number w (site_of body))) body h.4) (λ x hx.
      given (Apart S T) (looping w a token c (targets_in a x) (kernel.For (row_of is) c (row_of us) x))
      (looping_apart S T w a token c (targets_in a x) (kernel.For (row_of is) c (row_of us) x) (h.0, hc, row_apart S T is hi, row_apart S T us hu, hx)))))))
  statement_apart S T w a (Labelled name body) h =
      of_choice (is_label a name.name) (refuse Duplicate name.token) _ (Apart S T) (refused_at (Apart S T) Duplicate name.token)
      (and_then (statement w (under_label a name.name (number w name.token) (number_of_body w (body_of_loop body))) body) _ (Apart S T) (Apart S T)
      (statement_apart S T w (under_label a name.name (number w name.token) (number_of_body w (body_of_loop body))) body h) (λ x hx.
      given (Apart S T) (plain w name.token true (kernel.Labelled x)) hx))
  statement_apart S T w a (Break label token) h = jumping_apart S T w (break_target a label) token
  statement_apart S T w a (Continue label token) h = jumping_apart S T w (continue_target a label) token
  statement_apart S T w a (Return value token) h = returning_apart S T w a value token h
  statement_apart S T w a (Throw value token) h =
      and_then (expressed (thrown w.judgement w.table value token)) _ (Clear S) (Apart S T)
      (of_expressed (thrown w.judgement w.table value token) (Clear S) (thrown_clear S w.judgement w.table value token h)) (λ v i. given (Apart S T) (plain w token true (kernel.Throw v)) i)
  statement_apart S T w a (Try main catches last token) h =
      and_then (block w (in_first_block a (number w token) catches) main) _ (Apart S T) (Apart S T) (block_apart S T w (in_first_block a (number w token) catches) main h.0) (λ x hx.
      and_then (clauses w (inside a (number w token)) catches) _ (ApartCatches S T) (Apart S T) (clauses_apart S T w (inside a (number w token)) catches h.1) (λ cs hc.
      and_then (last_block w (inside a (number w token)) last) _ (ApartOther S T) (Apart S T) (last_apart S T w (inside a (number w token)) last h.2) (λ y hy.
      given (Apart S T) (plain w token true (kernel.Try x cs y)) (hx, hc, hy))))
  statement_apart S T w a Unknown h = refused_at (Apart S T) BadOperand 0

  other_apart : (S T : Numbers) (w : Setting) (a : Around) (s : Other) → OtherWords S T s → Yields (other_statement w a s) (ApartOther S T)
  other_apart S T w a absent h = given (ApartOther S T) kernel.nothing tt
  other_apart S T w a (present s) h = and_then (statement w a s) _ (Apart S T) (ApartOther S T) (statement_apart S T w a s h) (λ x i. given (ApartOther S T) (kernel.this x) i)

  pub block_apart : (S T : Numbers) (w : Setting) (a : Around) (b : Braced) → BlockWords S T b → Yields (block w a b) (Apart S T)
  block_apart S T w a (braced brace parts end) h =
      within_block _ (Apart S T)
      (and_then (statements w (inside a (number w brace)) parts) _ (ApartAll S T) (Apart S T) (statements_apart S T w (inside a (number w brace)) parts h) (λ xs i.
      given (Apart S T) (plain w brace false (kernel.Block xs)) i))

  pub statements_apart : (S T : Numbers) (w : Setting) (a : Around) (s : Statements) → AllWords S T s → Yields (statements w a s) (ApartAll S T)
  statements_apart S T w a done h = given (ApartAll S T) kernel.done tt
  statements_apart S T w a (first s rest) h =
      and_then (several w s (statement w a s)) _ (ListApart S T) (ApartAll S T) (several_apart S T w s (statement w a s) h.0 (statement_apart S T w a s h.0)) (λ xs i.
      and_then (statements w a rest) _ (ApartAll S T) (ApartAll S T) (statements_apart S T w a rest h.1) (λ ys k. given (ApartAll S T) (joined xs ys) (joined_apart S T xs ys i k)))

  last_apart : (S T : Numbers) (w : Setting) (a : Around) (s : Last) → LastWords S T s → Yields (last_block w a s) (ApartOther S T)
  last_apart S T w a nowhere h = given (ApartOther S T) kernel.nothing tt
  last_apart S T w a (finally b) h = and_then (block w a b) _ (Apart S T) (ApartOther S T) (block_apart S T w a b h) (λ x i. given (ApartOther S T) (kernel.this x) i)

  clauses_apart : (S T : Numbers) (w : Setting) (a : Around) (s : Catches) → CatchWords S T s → Yields (clauses w a s) (ApartCatches S T)
  clauses_apart S T w a uncaught h = given (ApartCatches S T) kernel.uncaught tt
  clauses_apart S T w a (catch is_final class name b rest) h =
      and_then (clause w class name (block w a b)) _ (ClauseApart S T) (ApartCatches S T) (clause_apart S T w class name (block w a b) (block_apart S T w a b h.0)) (λ c i.
      and_then (clauses w a rest) _ (ApartCatches S T) (ApartCatches S T) (clauses_apart S T w a rest h.1) (λ cs k. given (ApartCatches S T) (kernel.catch c.class c.local name.token c.block cs) (i, k)))
