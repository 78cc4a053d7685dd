-- The statement that is made of each written statement is sound by what stands around it.
use Rattle.std.proofs.Common.{◌≡◌, refl, sym, subst, ℕ, Bool, true, false, List, [], ◌∷◌, ◌++◌}
use Rattle.std.specs.Prelude.{Option, Some, None}
use Rattle.std.specs.List.{All}
use Rattle.std.proofs.lemmas.List.Elements.{All-nil, All-cons, All-head, All-tail}
use Rattle.wy_kernel.specs.declared.types.Ty.{Ty}
use Rattle.wy_kernel.specs.Form as kernel
use Rattle.wy_kernel.specs.Subtyping.{class_type}
use Rattle.wy_kernel.specs.Statements.{number_of}
use Rattle.wy_kernel.specs.Table.{Table}
use Rattle.wy_syntax.specs.Syntax.{Expression, Initial, Value, Listed, WrittenType, Named, Declarator, Effect, ForInit, Statement, Block, Empty, Declare, Perform, If, While, Do, For, Labelled, Break, Continue, Return, Throw, Try, Unknown, Braced, braced, Statements, done, first, Other, absent, present, Last, nowhere, finally, Catches, uncaught, catch}
use Rattle.wy_syntax.specs.Syntax as source
use Rattle.wy_constant.specs.declared.rule.Rule.TheVariants.{Duplicate, BadOperand, BadJump, BadReturn}
use Rattle.wy_constant.specs.Scope.{Scope}
use Rattle.wy_elab_expr.specs.Meaning.{formed}
use Rattle.wy_elab_expr.specs.Operators.{Judgement}
use Rattle.wy_elab_expr.specs.Elaboration.{type_written, with_brackets, initialized, Printed, print_operand, elaborated, elaborated_all}
use Rattle.wy_elab_body.specs.Making.{Makes, give, refuse, ◌>>=◌, expressed, changed, declaring, each}
use Rattle.wy_elab_body.specs.Parts.{condition, performed, printing, evaluated, is_output_call, print_of, returned, returns_nothing, thrown, caught_class}
use Rattle.wy_elab_body.specs.Jumps.{Around, inside, in_loop, under_label, break_target, continue_target}
use Rattle.wy_elab_body.specs.Statements.{Setting, number, plain, testing, targets_in, other_targets_in, site_of, body_of_loop, number_of_body, constant_if, given_first, declarator, declarations, effect, effects, for_init, jumping, returning, row_of, joined, tested, looping, is_label, in_first_block, must_be_throwable, Clause, clause, is_declaration, declared, several, statement, other_statement, block, statements, last_block, clauses}
use Rattle.law_structure.proofs.Yields.{Yields, given, refused_at, refused_found, anything, weaker, and_then, behind, then_found, within_block, of_each, of_expressed, of_choice}
use Rattle.law_structure.proofs.Sound.{Numbers, and_one, Sound, SoundOther, SoundAll, SoundCatches}
use Rattle.law_structure.proofs.Fits.{Fits, any_inner, fits_inside, fits_first_block, fits_loop, fits_label, break_fits, continue_fits, reach_fits}

-- it has the number of its site, and is sound
abbrev pub Good : Numbers → Numbers → Setting → ℕ → kernel.Statement → Type 0
Good J R w site k = (number_of k ≡ number w site) × Sound J R k

abbrev pub AllSound : Numbers → Numbers → List kernel.Statement → Type 0
AllSound J R xs = All (Sound J R) xs

-- ---- what holds no other statement

-- neither a jump, nor a test, nor a statement around others
abbrev pub Calm : kernel.Act → Type 0
Calm (kernel.Eval value) = Unit {0}
Calm (kernel.Print operand ty ends_line site) = Unit {0}
Calm _ = ⊥

calm_sound : (J R : Numbers) (w : Setting) (site : ℕ) (askable : Bool) (act : kernel.Act) → Calm act → Sound J R (plain w site askable act)
calm_sound J R w site askable (kernel.Eval value) h = refl
calm_sound J R w site askable (kernel.Print operand ty ends_line at) h = refl
calm_sound J R w site askable (kernel.Block parts) h = absurd h
calm_sound J R w site askable (kernel.Declare local) h = absurd h
calm_sound J R w site askable (kernel.If test x y) h = absurd h
calm_sound J R w site askable (kernel.While test x) h = absurd h
calm_sound J R w site askable (kernel.Do x test) h = absurd h
calm_sound J R w site askable (kernel.For inits test updates x) h = absurd h
calm_sound J R w site askable (kernel.Labelled x) h = absurd h
calm_sound J R w site askable (kernel.Jump target) h = absurd h
calm_sound J R w site askable (kernel.Return value) h = absurd h
calm_sound J R w site askable (kernel.Throw value) h = absurd h
calm_sound J R w site askable (kernel.Try x catches y) h = absurd h

print_calm : (name : List ℕ) (token : ℕ) (p : Option Printed) → Calm (print_of name token p)
print_calm name token None = tt
print_calm name token (Some p) = tt

printing_calm : (j : Judgement) (t : Table) (s : Scope) (e : Expression) → Yields (printing j t s e) Calm
unfolding printing
printing_calm j t s (source.InvokeOn object name args token) =
    then_found (elaborated_all j t s args) _ (λ ms. Unit {0}) Calm (anything _) (λ ms x.
    then_found (print_operand name ms token) _ (λ p. Unit {0}) Calm (anything _) (λ p y. given Calm (print_of name token p) (print_calm name token p)))
printing_calm j t s _ = refused_found Calm BadOperand 0

evaluated_calm : (j : Judgement) (t : Table) (s : Scope) (e : Expression) → Yields (evaluated j t s e) Calm
evaluated_calm j t s e =
    then_found (elaborated j t s e) _ (λ m. Unit {0}) Calm (anything _) (λ m x.
    then_found (formed m) _ (λ p. Unit {0}) Calm (anything _) (λ form y. given Calm (kernel.Eval form) tt))

pub performed_calm : (j : Judgement) (t : Table) (e : Expression) (s : Scope) → Yields (performed j t e s) Calm
unfolding performed
performed_calm j t e s = of_choice (is_output_call t s e) (printing j t s e) (evaluated j t s e) Calm (printing_calm j t s e) (evaluated_calm j t s e)

pub effect_made : (J R : Numbers) (w : Setting) (e : Effect) → Yields (effect w e) (Good J R w e.token)
unfolding effect
effect_made J R w e =
    and_then (expressed (performed w.judgement w.table e.value)) (λ act. give (plain w e.token true act)) Calm (Good J R w e.token)
    (of_expressed (performed w.judgement w.table e.value) Calm (performed_calm w.judgement w.table e.value))
    (λ act h. given (Good J R w e.token) (plain w e.token true act) (refl, calm_sound J R w e.token true act h))

effect_sound : (J R : Numbers) (w : Setting) (e : Effect) → Yields (effect w e) (Sound J R)
effect_sound J R w e = record { by = λ s after x is. ((effect_made J R w e).by s after x is).1 }

-- ---- declarations

given_first_sound : (J R : Numbers) (w : Setting) (is_final : Bool) (ty : Ty) (k : ℕ) (n : Named) (i : Option Initial) → Yields (given_first w is_final ty k n i) (Sound J R)
given_first_sound J R w is_final ty k n None = given (Sound J R) (plain w n.token true (kernel.Declare k)) refl
given_first_sound J R w is_final ty k n (Some i) =
    behind (expressed (λ s. initialized w.judgement w.table s ty i n.token)) (λ e. changed (constant_if is_final w.table ty i) >>= λ fixed. give (plain w n.token true (kernel.Eval (kernel.Set (kernel.Local k) e n.token)))) (Sound J R)
    (λ e. behind (changed (constant_if is_final w.table ty i)) (λ fixed. give (plain w n.token true (kernel.Eval (kernel.Set (kernel.Local k) e n.token)))) (Sound J R)
    (λ fixed. given (Sound J R) (plain w n.token true (kernel.Eval (kernel.Set (kernel.Local k) e n.token))) refl))

declarator_sound : (J R : Numbers) (w : Setting) (is_final : Bool) (ty : Ty) (d : Declarator) → Yields (declarator w is_final ty d) (Sound J R)
unfolding declarator
declarator_sound J R w is_final ty d = behind (declaring d.name (with_brackets ty d.brackets) _) (λ k. given_first w is_final (with_brackets ty d.brackets) k d.name d.initial) (Sound J R) (λ k. given_first_sound J R w is_final (with_brackets ty d.brackets) k d.name d.initial)

declarations_sound : (J R : Numbers) (w : Setting) (is_final : Bool) (ty : WrittenType) (all : List Declarator) → Yields (declarations w is_final ty all) (AllSound J R)
unfolding declarations
declarations_sound J R w is_final ty all =
    behind (expressed (λ s. type_written w.table ty)) (λ t. each (declarator w is_final t) all) (AllSound J R) (λ t. of_each (declarator w is_final t) (Sound J R) (declarator_sound J R w is_final t) all)

init_sound : (J R : Numbers) (w : Setting) (i : ForInit) → Yields (for_init w i) (AllSound J R)
unfolding for_init
init_sound J R w source.ForInit.Nothing = given (AllSound J R) [] (All-nil (Sound J R))
init_sound J R w (source.ForInit.Declared is_final ty all) = declarations_sound J R w is_final ty all
init_sound J R w (source.ForInit.Effects all) = of_each (effect w) (Sound J R) (effect_sound J R w) all

-- ---- rows

pub row_sound : (J R : Numbers) (xs : List kernel.Statement) → AllSound J R xs → SoundAll J R (row_of xs)
row_sound J R [] h = tt
row_sound J R (x ∷ rest) h = (All-head (Sound J R) x rest h, row_sound J R rest (All-tail (Sound J R) x rest h))

pub joined_sound : (J R : Numbers) (xs : List kernel.Statement) (rest : kernel.Statements) → AllSound J R xs → SoundAll J R rest → SoundAll J R (joined xs rest)
joined_sound J R [] rest h i = i
joined_sound J R (x ∷ more) rest h i = (All-head (Sound J R) x more h, joined_sound J R more rest (All-tail (Sound J R) x more h) i)

declared_sound : (J R : Numbers) (w : Setting) (s : Statement) → Yields (declared w s) (AllSound J R)
unfolding declared
declared_sound J R w (Declare is_final ty all) = declarations_sound J R w is_final ty all
declared_sound J R w _ = given (AllSound J R) [] (All-nil (Sound J R))

several_sound : (J R : Numbers) (w : Setting) (s : Statement) (made : Makes kernel.Statement) → Yields made (Sound J R) → Yields (several w s made) (AllSound J R)
several_sound J R w s made h =
    of_choice (is_declaration s) (declared w s) (made >>= λ x. give (x ∷ [])) (AllSound J R) (declared_sound J R w s)
    (and_then made (λ x. give (x ∷ [])) (Sound J R) (AllSound J R) h (λ x i. given (AllSound J R) (x ∷ []) (All-cons (Sound J R) x [] i (All-nil (Sound J R)))))

-- ---- jumps and tests

jumping_made : (J R : Numbers) (w : Setting) (target : Option ℕ) (token : ℕ) → ((n : ℕ) → target ≡ Some n → J n) → Yields (jumping w target token) (Good J R w token)
jumping_made J R w None token h = refused_at (Good J R w token) BadJump token
jumping_made J R w (Some n) token h = given (Good J R w token) (plain w token true (kernel.Jump n)) (refl, (refl, h n refl))

returning_made : (J R : Numbers) (w : Setting) (a : Around) (value : Option Expression) (token : ℕ) → Yields (returning w a value token) (Good J R w token)
returning_made J R w a None token =
    of_choice (returns_nothing a.outcome) (give (plain w token true (kernel.Return kernel.absent))) (refuse BadReturn token) (Good J R w token)
    (given (Good J R w token) (plain w token true (kernel.Return kernel.absent)) (refl, refl)) (refused_at (Good J R w token) BadReturn token)
returning_made J R w a (Some e) token =
    behind (expressed (returned w.judgement w.table a.outcome e token)) (λ v. give (plain w token true (kernel.Return (kernel.the v)))) (Good J R w token)
    (λ v. given (Good J R w token) (plain w token true (kernel.Return (kernel.the v))) (refl, refl))

-- a test by its conditions
looping_made : (J R : Numbers) (w : Setting) (a : Around) (inner : Option ℕ) → Fits J R a inner → (site : ℕ) (test : kernel.Part) (guarded : List ℕ) (inits updates : kernel.Statements) (x : kernel.Statement) →
    SoundAll J (and_one R (number w site)) inits → SoundAll J (and_one R (number w site)) updates → Sound (and_one (and_one J (number w site)) (number_of x)) (and_one R (number w site)) x →
    Good J R w site (looping w a site test guarded (kernel.For inits test updates x))
looping_made J R w a inner f site kernel.absent guarded inits updates x h i b = (refl, (refl, h, i, b))
looping_made J R w a inner f site (kernel.the c) guarded inits updates x h i b = (refl, (reach_fits J R a inner f (number w site) guarded, h, i, b))

-- the body of a loop is named by its own number
own_body : (J R : Numbers) (w : Setting) (n site : ℕ) (x : kernel.Statement) → Good (and_one (and_one J n) (number w site)) R w site x → Sound (and_one (and_one J n) (number_of x)) R x
own_body J R w n site x h = let P : ℕ → Type 0 = λ b. Sound (and_one (and_one J n) b) R x in subst P (sym h.0) h.1

-- ---- the table

abbrev ClauseSound : Numbers → Numbers → Clause → Type 0
ClauseSound J R c = Sound J R c.block

clause_made : (J R : Numbers) (w : Setting) (class name : Named) (b : Makes kernel.Statement) → Yields b (Sound J R) → Yields (clause w class name b) (ClauseSound J R)
unfolding clause
clause_made J R w class name b h =
    within_block _ (ClauseSound J R)
    (behind (expressed (caught_class w.judgement w.table class name.token)) _ (ClauseSound J R) (λ c.
    behind (declaring name (class_type c) false) _ (ClauseSound J R) (λ k.
    behind (must_be_throwable w c name.token) _ (ClauseSound J R) (λ throwable.
    and_then b _ (Sound J R) (ClauseSound J R) h (λ x i. given (ClauseSound J R) (record { class = c; local = k; block = x }) i)))))

mutual
  unfolding statement other_statement block statements last_block clauses site_of body_of_loop

  pub statement_made : (J R : Numbers) (w : Setting) (a : Around) (s : Statement) → Fits J R a (number_of_body w (body_of_loop s)) → Yields (statement w a s) (Good J R w (site_of s))
  statement_made J R w a (Block (braced brace parts end)) f = block_made J R w a (braced brace parts end) f
  statement_made J R w a (Empty token) f = given (Good J R w token) (plain w token true (kernel.Block kernel.done)) (refl, (refl, tt))
  statement_made J R w a (Declare is_final ty all) f = refused_at (Good J R w ty.token) BadOperand 0
  statement_made J R w a (Perform e) f = effect_made J R w e
  statement_made J R w a (If test main other token) f =
      behind (expressed (condition w.judgement w.table test token)) _ (Good J R w token) (λ c.
      and_then (statement w (inside a (number w token)) main) _ (Good J (and_one R (number w token)) w (site_of main)) (Good J R w token)
      (statement_made J (and_one R (number w token)) w (inside a (number w token)) main (any_inner J _ _ _ (fits_inside J R a (number w token) f))) (λ x h.
      and_then (other_statement w (inside a (number w token)) other) _ (SoundOther J (and_one R (number w token))) (Good J R w token)
      (other_made J (and_one R (number w token)) w (inside a (number w token)) other (fits_inside J R a (number w token) f)) (λ y i.
      given (Good J R w token) (testing w a token (targets_in a x ++ other_targets_in a y) (kernel.If c x y)) (refl, (reach_fits J R a None f (number w token) _, h.1, i)))))
  statement_made J R w a (While test body token) f =
      behind (expressed (condition w.judgement w.table test token)) _ (Good J R w token) (λ c.
      and_then (statement w (in_loop a (number w token) (number w (site_of body))) body) _ (Good (and_one (and_one J (number w token)) (number w (site_of body))) (and_one R (number w token)) w (site_of body)) (Good J R w token)
      (statement_made (and_one (and_one J (number w token)) (number w (site_of body))) (and_one R (number w token)) w (in_loop a (number w token) (number w (site_of body))) body (any_inner _ _ _ _ (fits_loop J R a (number w token) (number w (site_of body)) f))) (λ x h.
      given (Good J R w token) (testing w a token (targets_in a x) (kernel.While c x)) (refl, (reach_fits J R a _ f (number w token) _, own_body J (and_one R (number w token)) w (number w token) (site_of body) x h))))
  statement_made J R w a (Do body test token) f =
      and_then (statement w (in_loop a (number w token) (number w (site_of body))) body) _ (Good (and_one (and_one J (number w token)) (number w (site_of body))) (and_one R (number w token)) w (site_of body)) (Good J R w token)
      (statement_made (and_one (and_one J (number w token)) (number w (site_of body))) (and_one R (number w token)) w (in_loop a (number w token) (number w (site_of body))) body (any_inner _ _ _ _ (fits_loop J R a (number w token) (number w (site_of body)) f))) (λ x h.
      behind (expressed (condition w.judgement w.table test token)) _ (Good J R w token) (λ c.
      given (Good J R w token) (testing w a token (targets_in a x) (kernel.Do x c)) (refl, (reach_fits J R a _ f (number w token) _, own_body J (and_one R (number w token)) w (number w token) (site_of body) x h))))
  statement_made J R w a (For init test updates body token) f =
      within_block _ (Good J R w token)
      (and_then (for_init w init) _ (AllSound J (and_one R (number w token))) (Good J R w token) (init_sound J (and_one R (number w token)) w init) (λ is hi.
      behind (tested w test token) _ (Good J R w token) (λ c.
      and_then (effects w updates) _ (AllSound J (and_one R (number w token))) (Good J R w token) (of_each (effect w) (Sound J (and_one R (number w token))) (effect_sound J (and_one R (number w token)) w) updates) (λ us hu.
      and_then (statement w (in_loop a (number w token) (number w (site_of body))) body) _ (Good (and_one (and_one J (number w token)) (number w (site_of body))) (and_one R (number w token)) w (site_of body)) (Good J R w token)
      (statement_made (and_one (and_one J (number w token)) (number w (site_of body))) (and_one R (number w token)) w (in_loop a (number w token) (number w (site_of body))) body (any_inner _ _ _ _ (fits_loop J R a (number w token) (number w (site_of body)) f))) (λ x h.
      given (Good J R w token) (looping w a token c (targets_in a x) (kernel.For (row_of is) c (row_of us) x))
      (looping_made J R w a _ f token c (targets_in a x) (row_of is) (row_of us) x (row_sound J (and_one R (number w token)) is hi) (row_sound J (and_one R (number w token)) us hu) (own_body J (and_one R (number w token)) w (number w token) (site_of body) x h)))))))
  statement_made J R w a (Labelled name body) f =
      of_choice (is_label a name.name) (refuse Duplicate name.token) _ (Good J R w name.token) (refused_at (Good J R w name.token) Duplicate name.token)
      (and_then (statement w (under_label a name.name (number w name.token) (number_of_body w (body_of_loop body))) body) _ (Good (and_one J (number w name.token)) (and_one R (number w name.token)) w (site_of body)) (Good J R w name.token)
      (statement_made (and_one J (number w name.token)) (and_one R (number w name.token)) w (under_label a name.name (number w name.token) (number_of_body w (body_of_loop body))) body (fits_label J R a name.name (number w name.token) (number_of_body w (body_of_loop body)) f)) (λ x h.
      given (Good J R w name.token) (plain w name.token true (kernel.Labelled x)) (refl, (refl, h.1))))
  statement_made J R w a (Break label token) f = jumping_made J R w (break_target a label) token (break_fits J R a f label)
  statement_made J R w a (Continue label token) f = jumping_made J R w (continue_target a label) token (continue_fits J R a f label)
  statement_made J R w a (Return value token) f = returning_made J R w a value token
  statement_made J R w a (Throw value token) f =
      behind (expressed (thrown w.judgement w.table value token)) _ (Good J R w token) (λ v. given (Good J R w token) (plain w token true (kernel.Throw v)) (refl, refl))
  statement_made J R w a (Try main catches last token) f =
      and_then (block w (in_first_block a (number w token) catches) main) _ (Sound J (and_one R (number w token))) (Good J R w token)
      (block_sound J (and_one R (number w token)) w (in_first_block a (number w token) catches) main (fits_first_block J R a (number w token) catches f)) (λ x h.
      and_then (clauses w (inside a (number w token)) catches) _ (SoundCatches J (and_one R (number w token))) (Good J R w token)
      (clauses_made J (and_one R (number w token)) w (inside a (number w token)) catches (fits_inside J R a (number w token) f)) (λ cs i.
      and_then (last_block w (inside a (number w token)) last) _ (SoundOther J (and_one R (number w token))) (Good J R w token)
      (last_made J (and_one R (number w token)) w (inside a (number w token)) last (fits_inside J R a (number w token) f)) (λ y j.
      given (Good J R w token) (plain w token true (kernel.Try x cs y)) (refl, (refl, h, i, j)))))
  statement_made J R w a Unknown f = refused_at (Good J R w 0) BadOperand 0

  other_made : (J R : Numbers) (w : Setting) (a : Around) (s : Other) → Fits J R a None → Yields (other_statement w a s) (SoundOther J R)
  other_made J R w a absent f = given (SoundOther J R) kernel.nothing tt
  other_made J R w a (present s) f =
      and_then (statement w a s) _ (Good J R w (site_of s)) (SoundOther J R) (statement_made J R w a s (any_inner J R a _ f)) (λ x h. given (SoundOther J R) (kernel.this x) h.1)

  pub block_made : (J R : Numbers) (w : Setting) (a : Around) (b : Braced) → Fits J R a None → Yields (block w a b) (Good J R w (site_of (Block b)))
  block_made J R w a (braced brace parts end) f =
      within_block _ (Good J R w brace)
      (and_then (statements w (inside a (number w brace)) parts) _ (SoundAll J (and_one R (number w brace))) (Good J R w brace)
      (statements_made J (and_one R (number w brace)) w (inside a (number w brace)) parts (fits_inside J R a (number w brace) f)) (λ xs h.
      given (Good J R w brace) (plain w brace false (kernel.Block xs)) (refl, (refl, h))))

  pub block_sound : (J R : Numbers) (w : Setting) (a : Around) (b : Braced) → Fits J R a None → Yields (block w a b) (Sound J R)
  block_sound J R w a (braced brace parts end) f =
      within_block _ (Sound J R)
      (and_then (statements w (inside a (number w brace)) parts) _ (SoundAll J (and_one R (number w brace))) (Sound J R)
      (statements_made J (and_one R (number w brace)) w (inside a (number w brace)) parts (fits_inside J R a (number w brace) f)) (λ xs h.
      given (Sound J R) (plain w brace false (kernel.Block xs)) (refl, h)))

  pub statements_made : (J R : Numbers) (w : Setting) (a : Around) (s : Statements) → Fits J R a None → Yields (statements w a s) (SoundAll J R)
  statements_made J R w a done f = given (SoundAll J R) kernel.done tt
  statements_made J R w a (first s rest) f =
      and_then (several w s (statement w a s)) _ (AllSound J R) (SoundAll J R) (several_sound J R w s (statement w a s) (weaker (statement w a s) (Good J R w (site_of s)) (Sound J R) (statement_made J R w a s (any_inner J R a _ f)) (λ x h. h.1))) (λ xs h.
      and_then (statements w a rest) _ (SoundAll J R) (SoundAll J R) (statements_made J R w a rest f) (λ ys i. given (SoundAll J R) (joined xs ys) (joined_sound J R xs ys h i)))

  last_made : (J R : Numbers) (w : Setting) (a : Around) (s : Last) → Fits J R a None → Yields (last_block w a s) (SoundOther J R)
  last_made J R w a nowhere f = given (SoundOther J R) kernel.nothing tt
  last_made J R w a (finally b) f = and_then (block w a b) _ (Sound J R) (SoundOther J R) (block_sound J R w a b f) (λ x h. given (SoundOther J R) (kernel.this x) h)

  clauses_made : (J R : Numbers) (w : Setting) (a : Around) (s : Catches) → Fits J R a None → Yields (clauses w a s) (SoundCatches J R)
  clauses_made J R w a uncaught f = given (SoundCatches J R) kernel.uncaught tt
  clauses_made J R w a (catch is_final class name b rest) f =
      and_then (clause w class name (block w a b)) _ (ClauseSound J R) (SoundCatches J R) (clause_made J R w class name (block w a b) (block_sound J R w a b f)) (λ c h.
      and_then (clauses w a rest) _ (SoundCatches J R) (SoundCatches J R) (clauses_made J R w a rest f) (λ cs i. given (SoundCatches J R) (kernel.catch c.class c.local name.token c.block cs) (h, i)))
