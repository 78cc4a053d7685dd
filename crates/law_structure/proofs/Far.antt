-- The test of each statement that is made reaches as far as what stands around it says.
use Rattle.std.proofs.Common.{◌≡◌, refl, sym, subst, ℕ, Bool, true, false, if◌then◌else◌, List, [], ◌∷◌, ◌++◌}
use Rattle.std.specs.Prelude.{Option, Some, None}
use Rattle.std.specs.List.{All}
use Rattle.std.proofs.lemmas.List.Elements.{All-nil, All-cons, All-head, All-tail}
use Rattle.wy_kernel.specs.declared.types.Ty.{Ty}
use Rattle.wy_kernel.specs.Form as kernel
use Rattle.wy_kernel.specs.View.{NONE}
use Rattle.wy_kernel.specs.Subtyping.{class_type}
use Rattle.wy_syntax.specs.Syntax.{Expression, Initial, WrittenType, Named, Declarator, Effect, ForInit, Statement, Block, Empty, Declare, Perform, If, While, Do, For, Labelled, Break, Continue, Return, Throw, Try, Unknown, Braced, braced, Statements, done, first, Other, absent, present, Last, nowhere, finally, Catches, uncaught, catch}
use Rattle.wy_syntax.specs.Syntax as source
use Rattle.wy_constant.specs.declared.rule.Rule.TheVariants.{Duplicate, BadOperand, BadJump, BadReturn}
use Rattle.wy_elab_expr.specs.Elaboration.{type_written, with_brackets, initialized}
use Rattle.wy_elab_body.specs.Making.{Makes, give, refuse, ◌>>=◌, expressed, changed, declaring, each}
use Rattle.wy_elab_body.specs.Parts.{condition, performed, returned, returns_nothing, thrown, caught_class}
use Rattle.wy_elab_body.specs.Jumps.{Around, inside, in_loop, under_label, break_target, continue_target, has_clause, reach_of}
use Rattle.wy_elab_body.specs.Statements.{Setting, number, plain, testing, targets_in, other_targets_in, site_of, body_of_loop, number_of_body, constant_if, given_first, declarator, declarations, effect, effects, for_init, jumping, returning, row_of, joined, tested, looping, is_label, in_first_block, must_be_throwable, Clause, clause, is_declaration, declared, several, statement, other_statement, block, statements, last_block, clauses}
use Rattle.law_structure.specs.Outermost.{outermost, ReachesAsFar, ActReachesAsFar, OtherReachesAsFar, AllReachAsFar, CatchesReachAsFar}
use Rattle.law_structure.proofs.Yields.{Yields, given, refused_at, and_then, behind, within_block, of_each, of_expressed, of_choice}
use Rattle.law_structure.proofs.Made.{Calm, performed_calm}

abbrev pub Far : ℕ → ℕ → List ℕ → kernel.Statement → Type 0
Far b c e k = ReachesAsFar b c e k

abbrev pub ListFar : ℕ → ℕ → List ℕ → List kernel.Statement → Type 0
ListFar b c e xs = All (ReachesAsFar b c e) xs

-- ---- what holds no other statement

calm_far : (b c : ℕ) (e : List ℕ) (w : Setting) (site : ℕ) (askable : Bool) (act : kernel.Act) → Calm act → Far b c e (plain w site askable act)
calm_far b c e w site askable (kernel.Eval value) h = refl
calm_far b c e w site askable (kernel.Print operand ty ends_line at) h = refl
calm_far b c e w site askable (kernel.Block parts) h = absurd h
calm_far b c e w site askable (kernel.Declare local) h = absurd h
calm_far b c e w site askable (kernel.If test x y) h = absurd h
calm_far b c e w site askable (kernel.While test x) h = absurd h
calm_far b c e w site askable (kernel.Do x test) h = absurd h
calm_far b c e w site askable (kernel.For inits test updates x) h = absurd h
calm_far b c e w site askable (kernel.Labelled x) h = absurd h
calm_far b c e w site askable (kernel.Jump target) h = absurd h
calm_far b c e w site askable (kernel.Return value) h = absurd h
calm_far b c e w site askable (kernel.Throw value) h = absurd h
calm_far b c e w site askable (kernel.Try x catches y) h = absurd h

effect_far : (b c : ℕ) (e : List ℕ) (w : Setting) (x : Effect) → Yields (effect w x) (Far b c e)
unfolding effect
effect_far b c e w x =
    and_then (expressed (performed w.judgement w.table x.value)) (λ act. give (plain w x.token true act)) Calm (Far b c e)
    (of_expressed (performed w.judgement w.table x.value) Calm (performed_calm w.judgement w.table x.value))
    (λ act h. given (Far b c e) (plain w x.token true act) (calm_far b c e w x.token true act h))

effects_far : (b c : ℕ) (e : List ℕ) (w : Setting) (all : List Effect) → Yields (effects w all) (ListFar b c e)
effects_far b c e w all = of_each (effect w) (Far b c e) (effect_far b c e w) all

first_far : (b c : ℕ) (e : List ℕ) (w : Setting) (is_final : Bool) (ty : Ty) (k : ℕ) (n : Named) (i : Option Initial) → Yields (given_first w is_final ty k n i) (Far b c e)
first_far b c e w is_final ty k n None = given (Far b c e) (plain w n.token true (kernel.Declare k)) refl
first_far b c e w is_final ty k n (Some i) =
    behind (expressed (λ s. initialized w.judgement w.table s ty i n.token)) (λ v. changed (constant_if is_final w.table ty i) >>= λ fixed. give (plain w n.token true (kernel.Eval (kernel.Set (kernel.Local k) v n.token)))) (Far b c e)
    (λ v. behind (changed (constant_if is_final w.table ty i)) (λ fixed. give (plain w n.token true (kernel.Eval (kernel.Set (kernel.Local k) v n.token)))) (Far b c e)
    (λ fixed. given (Far b c e) (plain w n.token true (kernel.Eval (kernel.Set (kernel.Local k) v n.token))) refl))

declarator_far : (b c : ℕ) (e : List ℕ) (w : Setting) (is_final : Bool) (ty : Ty) (d : Declarator) → Yields (declarator w is_final ty d) (Far b c e)
unfolding declarator
declarator_far b c e w is_final ty d = behind (declaring d.name (with_brackets ty d.brackets) _) (λ k. given_first w is_final (with_brackets ty d.brackets) k d.name d.initial) (Far b c e) (λ k. first_far b c e w is_final (with_brackets ty d.brackets) k d.name d.initial)

declarations_far : (b c : ℕ) (e : List ℕ) (w : Setting) (is_final : Bool) (ty : WrittenType) (all : List Declarator) → Yields (declarations w is_final ty all) (ListFar b c e)
unfolding declarations
declarations_far b c e w is_final ty all =
    behind (expressed (λ s. type_written w.table ty)) (λ t. each (declarator w is_final t) all) (ListFar b c e) (λ t. of_each (declarator w is_final t) (Far b c e) (declarator_far b c e w is_final t) all)

init_far : (b c : ℕ) (e : List ℕ) (w : Setting) (i : ForInit) → Yields (for_init w i) (ListFar b c e)
unfolding for_init
init_far b c e w source.ForInit.Nothing = given (ListFar b c e) [] (All-nil (ReachesAsFar b c e))
init_far b c e w (source.ForInit.Declared is_final ty all) = declarations_far b c e w is_final ty all
init_far b c e w (source.ForInit.Effects all) = effects_far b c e w all

-- ---- rows

pub row_far : (b c : ℕ) (e : List ℕ) (xs : List kernel.Statement) → ListFar b c e xs → AllReachAsFar b c e (row_of xs)
row_far b c e [] h = tt
row_far b c e (x ∷ rest) h = (All-head (ReachesAsFar b c e) x rest h, row_far b c e rest (All-tail (ReachesAsFar b c e) x rest h))

pub joined_far : (b c : ℕ) (e : List ℕ) (xs : List kernel.Statement) (rest : kernel.Statements) → ListFar b c e xs → AllReachAsFar b c e rest → AllReachAsFar b c e (joined xs rest)
joined_far b c e [] rest h i = i
joined_far b c e (x ∷ more) rest h i = (All-head (ReachesAsFar b c e) x more h, joined_far b c e more rest (All-tail (ReachesAsFar b c e) x more h) i)

pub alone_far : (b c : ℕ) (e : List ℕ) (made : Makes kernel.Statement) → Yields made (Far b c e) → Yields (made >>= λ x. give (x ∷ [])) (ListFar b c e)
alone_far b c e made h = and_then made (λ x. give (x ∷ [])) (Far b c e) (ListFar b c e) h (λ x i. given (ListFar b c e) (x ∷ []) (All-cons (ReachesAsFar b c e) x [] i (All-nil (ReachesAsFar b c e))))

declared_far : (b c : ℕ) (e : List ℕ) (w : Setting) (s : Statement) → Yields (declared w s) (ListFar b c e)
unfolding declared
declared_far b c e w (Declare is_final ty all) = declarations_far b c e w is_final ty all
declared_far b c e w _ = given (ListFar b c e) [] (All-nil (ReachesAsFar b c e))

several_far : (b c : ℕ) (e : List ℕ) (w : Setting) (s : Statement) (made : Makes kernel.Statement) → Yields made (Far b c e) → Yields (several w s made) (ListFar b c e)
several_far b c e w s made h = of_choice (is_declaration s) (declared w s) (made >>= λ x. give (x ∷ [])) (ListFar b c e) (declared_far b c e w s) (alone_far b c e made h)

-- ---- jumps and tests

jumping_far : (b c : ℕ) (e : List ℕ) (w : Setting) (target : Option ℕ) (token : ℕ) → Yields (jumping w target token) (Far b c e)
jumping_far b c e w None token = refused_at (Far b c e) BadJump token
jumping_far b c e w (Some n) token = given (Far b c e) (plain w token true (kernel.Jump n)) refl

returning_far : (b c : ℕ) (e : List ℕ) (w : Setting) (a : Around) (value : Option Expression) (token : ℕ) → Yields (returning w a value token) (Far b c e)
returning_far b c e w a None token =
    of_choice (returns_nothing a.outcome) (give (plain w token true (kernel.Return kernel.absent))) (refuse BadReturn token) (Far b c e)
    (given (Far b c e) (plain w token true (kernel.Return kernel.absent)) refl) (refused_at (Far b c e) BadReturn token)
returning_far b c e w a (Some x) token =
    behind (expressed (returned w.judgement w.table a.outcome x token)) (λ v. give (plain w token true (kernel.Return (kernel.the v)))) (Far b c e)
    (λ v. given (Far b c e) (plain w token true (kernel.Return (kernel.the v))) refl)

reach_is : (a : Around) (n : ℕ) (guarded : List ℕ) → reach_of a n guarded ≡ outermost a.enclosing guarded n
unfolding reach_of
reach_is a n guarded = refl

looping_far : (w : Setting) (a : Around) (site : ℕ) (test : kernel.Part) (inits updates : kernel.Statements) (x : kernel.Statement) →
    AllReachAsFar a.body a.catcher (a.enclosing ++ number w site ∷ []) inits → AllReachAsFar a.body a.catcher (a.enclosing ++ number w site ∷ []) updates → ReachesAsFar a.body a.catcher (a.enclosing ++ number w site ∷ []) x →
    Far a.body a.catcher a.enclosing (looping w a site test (targets_in a x) (kernel.For inits test updates x))
looping_far w a site kernel.absent inits updates x h i j = (refl, h, i, j)
looping_far w a site (kernel.the c) inits updates x h i j = (reach_is a (number w site) (targets_in a x), h, i, j)

-- ---- the table

abbrev ClauseFar : ℕ → ℕ → List ℕ → Clause → Type 0
ClauseFar b c e x = Far b c e x.block

clause_far : (b c : ℕ) (e : List ℕ) (w : Setting) (class name : Named) (f : Makes kernel.Statement) → Yields f (Far b c e) → Yields (clause w class name f) (ClauseFar b c e)
unfolding clause
clause_far b c e w class name f h =
    within_block _ (ClauseFar b c e)
    (behind (expressed (caught_class w.judgement w.table class name.token)) _ (ClauseFar b c e) (λ k.
    behind (declaring name (class_type k) false) _ (ClauseFar b c e) (λ l.
    behind (must_be_throwable w k name.token) _ (ClauseFar b c e) (λ throwable.
    and_then f _ (Far b c e) (ClauseFar b c e) h (λ x i. given (ClauseFar b c e) (record { class = k; local = l; block = x }) i)))))

abbrev has_source : Catches → Bool
has_source uncaught = false
has_source (catch is_final class name block rest) = true

-- clauses of a `try`, and whether there are some
abbrev ClausesFar : ℕ → ℕ → List ℕ → Bool → kernel.Catches → Type 0
ClausesFar b c e some k = CatchesReachAsFar b c e k × (has_clause k ≡ some)

-- the first block of a `try` by whether it has a clause
try_far : (b c n : ℕ) (e : List ℕ) (some : Bool) (x : kernel.Statement) (k : kernel.Catches) (y : kernel.Other) → Far b (if some then n else c) (e ++ n ∷ []) x → ClausesFar b c (e ++ n ∷ []) some k → OtherReachesAsFar b c (e ++ n ∷ []) y → ActReachesAsFar b c e n NONE (kernel.Try x k y)
try_far b c n e some x k y h i j =
    let P : Bool → Type 0 = λ z. Far b (if z then n else c) (e ++ n ∷ []) x in
    (refl, subst P (sym i.1) h, i.0, j)

-- what is made in the first block of a `try` is made by what stands around it there
try_block_far : (w : Setting) (a : Around) (n : ℕ) (catches : Catches) (main : Braced) → ((z : Around) → Yields (block w z main) (Far z.body z.catcher z.enclosing)) → Yields (block w (in_first_block a n catches) main) (Far a.body (if has_source catches then n else a.catcher) (a.enclosing ++ n ∷ []))
try_block_far w a n uncaught main h = h (in_first_block a n uncaught)
try_block_far w a n (catch is_final class name b rest) main h = h (in_first_block a n (catch is_final class name b rest))

mutual
  unfolding statement other_statement block statements last_block clauses

  pub statement_far : (w : Setting) (a : Around) (s : Statement) → Yields (statement w a s) (Far a.body a.catcher a.enclosing)
  statement_far w a (Block b) = block_far w a b
  statement_far w a (Empty token) = given (Far a.body a.catcher a.enclosing) (plain w token true (kernel.Block kernel.done)) (refl, tt)
  statement_far w a (Declare is_final ty all) = refused_at (Far a.body a.catcher a.enclosing) BadOperand 0
  statement_far w a (Perform e) = effect_far a.body a.catcher a.enclosing w e
  statement_far w a (If test main other token) =
      behind (expressed (condition w.judgement w.table test token)) _ (Far a.body a.catcher a.enclosing) (λ c.
      and_then (statement w (inside a (number w token)) main) _ (Far a.body a.catcher (a.enclosing ++ number w token ∷ [])) (Far a.body a.catcher a.enclosing) (statement_far w (inside a (number w token)) main) (λ x h.
      and_then (other_statement w (inside a (number w token)) other) _ (OtherReachesAsFar a.body a.catcher (a.enclosing ++ number w token ∷ [])) (Far a.body a.catcher a.enclosing) (other_far w (inside a (number w token)) other) (λ y i.
      given (Far a.body a.catcher a.enclosing) (testing w a token (targets_in a x ++ other_targets_in a y) (kernel.If c x y)) (reach_is a (number w token) (targets_in a x ++ other_targets_in a y), h, i))))
  statement_far w a (While test body token) =
      behind (expressed (condition w.judgement w.table test token)) _ (Far a.body a.catcher a.enclosing) (λ c.
      and_then (statement w (in_loop a (number w token) (number w (site_of body))) body) _ (Far a.body a.catcher (a.enclosing ++ number w token ∷ [])) (Far a.body a.catcher a.enclosing) (statement_far w (in_loop a (number w token) (number w (site_of body))) body) (λ x h.
      given (Far a.body a.catcher a.enclosing) (testing w a token (targets_in a x) (kernel.While c x)) (reach_is a (number w token) (targets_in a x), h)))
  statement_far w a (Do body test token) =
      and_then (statement w (in_loop a (number w token) (number w (site_of body))) body) _ (Far a.body a.catcher (a.enclosing ++ number w token ∷ [])) (Far a.body a.catcher a.enclosing) (statement_far w (in_loop a (number w token) (number w (site_of body))) body) (λ x h.
      behind (expressed (condition w.judgement w.table test token)) _ (Far a.body a.catcher a.enclosing) (λ c.
      given (Far a.body a.catcher a.enclosing) (testing w a token (targets_in a x) (kernel.Do x c)) (reach_is a (number w token) (targets_in a x), h)))
  statement_far w a (For init test updates body token) =
      within_block _ (Far a.body a.catcher a.enclosing)
      (and_then (for_init w init) _ (ListFar a.body a.catcher (a.enclosing ++ number w token ∷ [])) (Far a.body a.catcher a.enclosing) (init_far a.body a.catcher (a.enclosing ++ number w token ∷ []) w init) (λ is hi.
      behind (tested w test token) _ (Far a.body a.catcher a.enclosing) (λ c.
      and_then (effects w updates) _ (ListFar a.body a.catcher (a.enclosing ++ number w token ∷ [])) (Far a.body a.catcher a.enclosing) (effects_far a.body a.catcher (a.enclosing ++ number w token ∷ []) w updates) (λ us hu.
      and_then (statement w (in_loop a (number w token) (number w (site_of body))) body) _ (Far a.body a.catcher (a.enclosing ++ number w token ∷ [])) (Far a.body a.catcher a.enclosing) (statement_far w (in_loop a (number w token) (number w (site_of body))) body) (λ x h.
      given (Far a.body a.catcher a.enclosing) (looping w a token c (targets_in a x) (kernel.For (row_of is) c (row_of us) x))
      (looping_far w a token c (row_of is) (row_of us) x (row_far a.body a.catcher (a.enclosing ++ number w token ∷ []) is hi) (row_far a.body a.catcher (a.enclosing ++ number w token ∷ []) us hu) h))))))
  statement_far w a (Labelled name body) =
      of_choice (is_label a name.name) (refuse Duplicate name.token) _ (Far a.body a.catcher a.enclosing) (refused_at (Far a.body a.catcher a.enclosing) Duplicate name.token)
      (and_then (statement w (under_label a name.name (number w name.token) (number_of_body w (body_of_loop body))) body) _ (Far a.body a.catcher (a.enclosing ++ number w name.token ∷ [])) (Far a.body a.catcher a.enclosing)
      (statement_far w (under_label a name.name (number w name.token) (number_of_body w (body_of_loop body))) body) (λ x h.
      given (Far a.body a.catcher a.enclosing) (plain w name.token true (kernel.Labelled x)) (refl, h)))
  statement_far w a (Break label token) = jumping_far a.body a.catcher a.enclosing w (break_target a label) token
  statement_far w a (Continue label token) = jumping_far a.body a.catcher a.enclosing w (continue_target a label) token
  statement_far w a (Return value token) = returning_far a.body a.catcher a.enclosing w a value token
  statement_far w a (Throw value token) =
      behind (expressed (thrown w.judgement w.table value token)) _ (Far a.body a.catcher a.enclosing) (λ v. given (Far a.body a.catcher a.enclosing) (plain w token true (kernel.Throw v)) refl)
  statement_far w a (Try main catches last token) =
      and_then (block w (in_first_block a (number w token) catches) main) _ (Far a.body (if has_source catches then number w token else a.catcher) (a.enclosing ++ number w token ∷ [])) (Far a.body a.catcher a.enclosing)
      (try_block_far w a (number w token) catches main (λ z. block_far w z main)) (λ x h.
      and_then (clauses w (inside a (number w token)) catches) _ (ClausesFar a.body a.catcher (a.enclosing ++ number w token ∷ []) (has_source catches)) (Far a.body a.catcher a.enclosing) (clauses_far w (inside a (number w token)) catches) (λ cs i.
      and_then (last_block w (inside a (number w token)) last) _ (OtherReachesAsFar a.body a.catcher (a.enclosing ++ number w token ∷ [])) (Far a.body a.catcher a.enclosing) (last_far w (inside a (number w token)) last) (λ y j.
      given (Far a.body a.catcher a.enclosing) (plain w token true (kernel.Try x cs y)) (try_far a.body a.catcher (number w token) a.enclosing (has_source catches) x cs y h i j))))
  statement_far w a Unknown = refused_at (Far a.body a.catcher a.enclosing) BadOperand 0

  other_far : (w : Setting) (a : Around) (s : Other) → Yields (other_statement w a s) (OtherReachesAsFar a.body a.catcher a.enclosing)
  other_far w a absent = given (OtherReachesAsFar a.body a.catcher a.enclosing) kernel.nothing tt
  other_far w a (present s) = and_then (statement w a s) _ (Far a.body a.catcher a.enclosing) (OtherReachesAsFar a.body a.catcher a.enclosing) (statement_far w a s) (λ x h. given (OtherReachesAsFar a.body a.catcher a.enclosing) (kernel.this x) h)

  pub block_far : (w : Setting) (a : Around) (b : Braced) → Yields (block w a b) (Far a.body a.catcher a.enclosing)
  block_far w a (braced brace parts end) =
      within_block _ (Far a.body a.catcher a.enclosing)
      (and_then (statements w (inside a (number w brace)) parts) _ (AllReachAsFar a.body a.catcher (a.enclosing ++ number w brace ∷ [])) (Far a.body a.catcher a.enclosing) (statements_far w (inside a (number w brace)) parts) (λ xs h.
      given (Far a.body a.catcher a.enclosing) (plain w brace false (kernel.Block xs)) (refl, h)))

  pub statements_far : (w : Setting) (a : Around) (s : Statements) → Yields (statements w a s) (AllReachAsFar a.body a.catcher a.enclosing)
  statements_far w a done = given (AllReachAsFar a.body a.catcher a.enclosing) kernel.done tt
  statements_far w a (first s rest) =
      and_then (several w s (statement w a s)) _ (ListFar a.body a.catcher a.enclosing) (AllReachAsFar a.body a.catcher a.enclosing) (several_far a.body a.catcher a.enclosing w s (statement w a s) (statement_far w a s)) (λ xs h.
      and_then (statements w a rest) _ (AllReachAsFar a.body a.catcher a.enclosing) (AllReachAsFar a.body a.catcher a.enclosing) (statements_far w a rest) (λ ys i.
      given (AllReachAsFar a.body a.catcher a.enclosing) (joined xs ys) (joined_far a.body a.catcher a.enclosing xs ys h i)))

  last_far : (w : Setting) (a : Around) (s : Last) → Yields (last_block w a s) (OtherReachesAsFar a.body a.catcher a.enclosing)
  last_far w a nowhere = given (OtherReachesAsFar a.body a.catcher a.enclosing) kernel.nothing tt
  last_far w a (finally b) = and_then (block w a b) _ (Far a.body a.catcher a.enclosing) (OtherReachesAsFar a.body a.catcher a.enclosing) (block_far w a b) (λ x h. given (OtherReachesAsFar a.body a.catcher a.enclosing) (kernel.this x) h)

  clauses_far : (w : Setting) (a : Around) (s : Catches) → Yields (clauses w a s) (ClausesFar a.body a.catcher a.enclosing (has_source s))
  clauses_far w a uncaught = given (ClausesFar a.body a.catcher a.enclosing false) kernel.uncaught (tt, refl)
  clauses_far w a (catch is_final class name b rest) =
      and_then (clause w class name (block w a b)) _ (ClauseFar a.body a.catcher a.enclosing) (ClausesFar a.body a.catcher a.enclosing true) (clause_far a.body a.catcher a.enclosing w class name (block w a b) (block_far w a b)) (λ c h.
      and_then (clauses w a rest) _ (ClausesFar a.body a.catcher a.enclosing (has_source rest)) (ClausesFar a.body a.catcher a.enclosing true) (clauses_far w a rest) (λ cs i.
      given (ClausesFar a.body a.catcher a.enclosing true) (kernel.catch c.class c.local name.token c.block cs) ((h, i.0), refl)))
