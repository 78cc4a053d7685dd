-- The sites of the statement that is made of each written statement are tokens of what is written, and so are those of its locals.
use Rattle.std.proofs.Common.{ℕ, Bool, true, false, List, [], ◌∷◌, ◌++◌}
use Rattle.std.specs.Prelude.{Option, Some, None}
use Rattle.std.specs.List.{AllByRecursion}
use Rattle.wy_kernel.specs.declared.types.Ty.{Ty}
use Rattle.wy_kernel.specs.Form as kernel
use Rattle.wy_kernel.specs.Statements.{statements as statements_in, statements_within, statements_of_other, statements_of_all, statements_of_catches}
use Rattle.wy_kernel.specs.Subtyping.{class_type}
use Rattle.wy_syntax.specs.Syntax.{Expression, Initial, Named, WrittenType, Declarator, Effect, ForInit, Statement, Block, Empty, Declare, Perform, If, While, Do, For, Labelled, Break, Continue, Return, Throw, Try, Unknown, Braced, braced, Statements, done, first, Other, absent, present, Last, nowhere, finally, Catches, uncaught, catch}
use Rattle.wy_syntax.specs.Syntax as source
use Rattle.wy_constant.specs.declared.rule.Rule.TheVariants.{Duplicate, BadOperand, BadJump, BadReturn}
use Rattle.wy_elab_expr.specs.Elaboration.{type_written, with_brackets, initialized}
use Rattle.wy_elab_body.specs.Making.{Makes, give, refuse, ◌>>=◌, expressed, changed, declaring, each}
use Rattle.wy_elab_body.specs.Parts.{condition, performed, returned, returns_nothing, thrown, caught_class}
use Rattle.wy_elab_body.specs.Jumps.{Around, inside, in_loop, under_label, break_target, continue_target}
use Rattle.wy_elab_body.specs.Statements.{Setting, number, plain, testing, targets_in, other_targets_in, site_of, body_of_loop, number_of_body, constant_if, given_first, declarator, declarations, effect, effects, for_init, jumping, returning, row_of, joined, tested, looping, is_label, in_first_block, must_be_throwable, Clause, clause, is_declaration, declared, several, statement, other_statement, block, statements, last_block, clauses}
use Rattle.wy_typing.specs.Sites.{Sited, PartSited, StatementSited, ActSited, AllSited, CatchesSited}
use Rattle.wy_typing.proofs.Listed.{joined as both}
use Rattle.law_sites.proofs.Tokens.{Tokens, OptionTokens, FirstTokens, DeclaratorTokens, EffectTokens, InitTokens, StatementTokens, BlockTokens, AllTokens, OtherTokens, LastTokens, CatchTokens}
use Rattle.law_sites.proofs.Expressions.{initialized_sited}
use Rattle.law_sites.proofs.Keeping.{Keeps, given, refused_at, and_then, behind, of_choice, of_expressed, of_any, of_changed, within_block, of_declaring, of_each}
use Rattle.law_sites.proofs.SitedParts.{WholeActSited, condition_sited, performed_sited, returned_sited, thrown_sited}

-- ---- statements with those within them

abbrev pub WholeSited : (ℕ → Type 0) → kernel.Statement → Type 0
WholeSited P s = AllSited P (statements_in s)

abbrev pub ListSited : (ℕ → Type 0) → List kernel.Statement → Type 0
ListSited P xs = AllByRecursion (WholeSited P) xs

abbrev pub PartsSited : (ℕ → Type 0) → kernel.Statements → Type 0
PartsSited P x = AllSited P (statements_of_all x)

abbrev OtherSited : (ℕ → Type 0) → kernel.Other → Type 0
OtherSited P x = AllSited P (statements_of_other x)

abbrev ClausesSited : (ℕ → Type 0) → kernel.Catches → Type 0
ClausesSited P x = CatchesSited P x × AllSited P (statements_of_catches x)

-- ---- expressions that are statements

effect_sited : (P : ℕ → Type 0) (w : Setting) (e : Effect) → P e.token × Tokens P e.value → Keeps P (effect w e) (WholeSited P)
unfolding effect
effect_sited P w e h =
    and_then (expressed (performed w.judgement w.table e.value)) (λ act. give (plain w e.token true act)) (WholeActSited P) (WholeSited P)
    (of_expressed (performed w.judgement w.table e.value) (WholeActSited P) (performed_sited P w.judgement w.table e.value h.1))
    (λ act i. given (WholeSited P) (plain w e.token true act) ((h.0, i.0), i.1))

effects_sited : (P : ℕ → Type 0) (w : Setting) (all : List Effect) → EffectTokens P all → Keeps P (effects w all) (ListSited P)
effects_sited P w all h = of_each (effect w) (λ (e : Effect). P e.token × Tokens P e.value) (WholeSited P) (effect_sited P w) all h

-- ---- declarations

first_sited : (P : ℕ → Type 0) (w : Setting) (is_final : Bool) (ty : Ty) (k : ℕ) (n : Named) (i : Option Initial) → P n.token → FirstTokens P i → Keeps P (given_first w is_final ty k n i) (WholeSited P)
first_sited P w is_final ty k n None h x = given (WholeSited P) (plain w n.token true (kernel.Declare k)) ((h, tt), tt)
first_sited P w is_final ty k n (Some i) h x =
    and_then (expressed (λ s. initialized w.judgement w.table s ty i n.token)) (λ e. changed (constant_if is_final w.table ty i) >>= λ fixed. give (plain w n.token true (kernel.Eval (kernel.Set (kernel.Local k) e n.token)))) (Sited P) (WholeSited P)
    (of_expressed (λ s. initialized w.judgement w.table s ty i n.token) (Sited P) (λ s. initialized_sited P w.judgement w.table s ty i n.token x))
    (λ e y. behind (changed (constant_if is_final w.table ty i)) (λ fixed. give (plain w n.token true (kernel.Eval (kernel.Set (kernel.Local k) e n.token)))) (WholeSited P) (of_changed (constant_if is_final w.table ty i))
    (λ fixed. given (WholeSited P) (plain w n.token true (kernel.Eval (kernel.Set (kernel.Local k) e n.token))) ((h, (h, tt, y)), tt)))

declarator_sited : (P : ℕ → Type 0) (w : Setting) (is_final : Bool) (ty : Ty) (d : Declarator) → P d.name.token × FirstTokens P d.initial → Keeps P (declarator w is_final ty d) (WholeSited P)
unfolding declarator
declarator_sited P w is_final ty d h =
    behind (declaring d.name (with_brackets ty d.brackets) _) (λ k. given_first w is_final (with_brackets ty d.brackets) k d.name d.initial) (WholeSited P) (of_declaring d.name (with_brackets ty d.brackets) _ h.0)
    (λ k. first_sited P w is_final (with_brackets ty d.brackets) k d.name d.initial h.0 h.1)

pub declarations_sited : (P : ℕ → Type 0) (w : Setting) (is_final : Bool) (ty : WrittenType) (all : List Declarator) → DeclaratorTokens P all → Keeps P (declarations w is_final ty all) (ListSited P)
unfolding declarations
declarations_sited P w is_final ty all h =
    behind (expressed (λ s. type_written w.table ty)) (λ t. each (declarator w is_final t) all) (ListSited P) (of_any (λ s. type_written w.table ty))
    (λ t. of_each (declarator w is_final t) (λ (d : Declarator). P d.name.token × FirstTokens P d.initial) (WholeSited P) (declarator_sited P w is_final t) all h)

for_init_sited : (P : ℕ → Type 0) (w : Setting) (i : ForInit) → InitTokens P i → Keeps P (for_init w i) (ListSited P)
unfolding for_init
for_init_sited P w source.ForInit.Nothing h = given (ListSited P) [] tt
for_init_sited P w (source.ForInit.Declared is_final ty all) h = declarations_sited P w is_final ty all h
for_init_sited P w (source.ForInit.Effects all) h = effects_sited P w all h

-- ---- rows

pub row_sited : (P : ℕ → Type 0) (xs : List kernel.Statement) → ListSited P xs → PartsSited P (row_of xs)
row_sited P [] h = tt
row_sited P (x ∷ rest) h = both (StatementSited P) (statements_in x) (statements_of_all (row_of rest)) h.0 (row_sited P rest h.1)

pub joined_sited : (P : ℕ → Type 0) (xs : List kernel.Statement) (rest : kernel.Statements) → ListSited P xs → PartsSited P rest → PartsSited P (joined xs rest)
joined_sited P [] rest h i = i
joined_sited P (x ∷ more) rest h i = both (StatementSited P) (statements_in x) (statements_of_all (joined more rest)) h.0 (joined_sited P more rest h.1 i)

pub alone_sited : (P : ℕ → Type 0) (made : Makes kernel.Statement) → Keeps P made (WholeSited P) → Keeps P (made >>= λ x. give (x ∷ [])) (ListSited P)
alone_sited P made h = and_then made (λ x. give (x ∷ [])) (WholeSited P) (ListSited P) h (λ x i. given (ListSited P) (x ∷ []) (i, tt))

declared_sited : (P : ℕ → Type 0) (w : Setting) (s : Statement) → StatementTokens P s → Keeps P (declared w s) (ListSited P)
unfolding declared
declared_sited P w (Declare is_final ty all) h = declarations_sited P w is_final ty all h
declared_sited P w _ h = given (ListSited P) [] tt

several_sited : (P : ℕ → Type 0) (w : Setting) (s : Statement) (made : Makes kernel.Statement) → StatementTokens P s → Keeps P made (WholeSited P) → Keeps P (several w s made) (ListSited P)
several_sited P w s made h i = of_choice (is_declaration s) (declared w s) (made >>= λ x. give (x ∷ [])) (ListSited P) (declared_sited P w s h) (alone_sited P made i)

-- ---- jumps and tests

jumping_sited : (P : ℕ → Type 0) (w : Setting) (target : Option ℕ) (token : ℕ) → P token → Keeps P (jumping w target token) (WholeSited P)
jumping_sited P w None token h = refused_at (WholeSited P) BadJump token
jumping_sited P w (Some n) token h = given (WholeSited P) (plain w token true (kernel.Jump n)) ((h, tt), tt)

returning_sited : (P : ℕ → Type 0) (w : Setting) (a : Around) (value : Option Expression) (token : ℕ) → P token → OptionTokens P value → Keeps P (returning w a value token) (WholeSited P)
returning_sited P w a None token h x =
    of_choice (returns_nothing a.outcome) (give (plain w token true (kernel.Return kernel.absent))) (refuse BadReturn token) (WholeSited P)
    (given (WholeSited P) (plain w token true (kernel.Return kernel.absent)) ((h, tt), tt)) (refused_at (WholeSited P) BadReturn token)
returning_sited P w a (Some e) token h x =
    and_then (expressed (returned w.judgement w.table a.outcome e token)) (λ v. give (plain w token true (kernel.Return (kernel.the v)))) (Sited P) (WholeSited P)
    (of_expressed (returned w.judgement w.table a.outcome e token) (Sited P) (returned_sited P w.judgement w.table a.outcome e token x))
    (λ v i. given (WholeSited P) (plain w token true (kernel.Return (kernel.the v))) ((h, i), tt))

tested_sited : (P : ℕ → Type 0) (w : Setting) (test : Option Expression) (site : ℕ) → OptionTokens P test → Keeps P (tested w test site) (PartSited P)
tested_sited P w None site h = given (PartSited P) kernel.absent tt
tested_sited P w (Some e) site h =
    and_then (expressed (condition w.judgement w.table e site)) (λ c. give (kernel.the c)) (Sited P) (PartSited P)
    (of_expressed (condition w.judgement w.table e site) (Sited P) (condition_sited P w.judgement w.table e site h)) (λ c i. given (PartSited P) (kernel.the c) i)

looping_sited : (P : ℕ → Type 0) (w : Setting) (a : Around) (site : ℕ) (test : kernel.Part) (guarded : List ℕ) (act : kernel.Act) → (P site × ActSited P act) × AllSited P (statements_within act) → WholeSited P (looping w a site test guarded act)
looping_sited P w a site kernel.absent guarded act h = h
looping_sited P w a site (kernel.the c) guarded act h = h

asked : (P : ℕ → Type 0) (w : Setting) (test : Expression) (token : ℕ) (g : kernel.Expression → Makes kernel.Statement) → Tokens P test → ((c : kernel.Expression) → Sited P c → Keeps P (g c) (WholeSited P)) → Keeps P (expressed (condition w.judgement w.table test token) >>= g) (WholeSited P)
asked P w test token g h i =
    and_then (expressed (condition w.judgement w.table test token)) g (Sited P) (WholeSited P) (of_expressed (condition w.judgement w.table test token) (Sited P) (condition_sited P w.judgement w.table test token h)) i

-- ---- the table

throwable_kept : (P : ℕ → Type 0) (w : Setting) (class site : ℕ) → Keeps P (must_be_throwable w class site) (λ x. Unit {0})
throwable_kept P w class site = of_choice _ (give tt) (refuse BadOperand site) (λ x. Unit {0}) (given (λ x. Unit {0}) tt tt) (refused_at (λ x. Unit {0}) BadOperand site)

abbrev ClauseSited : (ℕ → Type 0) → Clause → Type 0
ClauseSited P c = WholeSited P c.block

clause_sited : (P : ℕ → Type 0) (w : Setting) (class name : Named) (b : Makes kernel.Statement) → P name.token → Keeps P b (WholeSited P) → Keeps P (clause w class name b) (ClauseSited P)
unfolding clause
clause_sited P w class name b h i =
    within_block _ (ClauseSited P)
    (behind (expressed (caught_class w.judgement w.table class name.token)) _ (ClauseSited P) (of_any (caught_class w.judgement w.table class name.token)) (λ c.
    behind (declaring name (class_type c) false) _ (ClauseSited P) (of_declaring name (class_type c) false h) (λ k.
    behind (must_be_throwable w c name.token) _ (ClauseSited P) (throwable_kept P w c name.token) (λ throwable.
    and_then b _ (WholeSited P) (ClauseSited P) i (λ x y. given (ClauseSited P) (record { class = c; local = k; block = x }) y)))))

mutual
  unfolding statement other_statement block statements last_block clauses

  pub statement_sited : (P : ℕ → Type 0) (w : Setting) (a : Around) (s : Statement) → StatementTokens P s → Keeps P (statement w a s) (WholeSited P)
  statement_sited P w a (Block b) h = block_sited P w a b h
  statement_sited P w a (Empty token) h = given (WholeSited P) (plain w token true (kernel.Block kernel.done)) ((h, tt), tt)
  statement_sited P w a (Declare is_final ty all) h = refused_at (WholeSited P) BadOperand 0
  statement_sited P w a (Perform e) h = effect_sited P w e h
  statement_sited P w a (If test main other token) h =
      asked P w test token _ h.1 (λ c hc.
      and_then (statement w (inside a (number w token)) main) _ (WholeSited P) (WholeSited P) (statement_sited P w (inside a (number w token)) main h.2) (λ x hx.
      and_then (other_statement w (inside a (number w token)) other) _ (OtherSited P) (WholeSited P) (other_sited P w (inside a (number w token)) other h.3) (λ y hy.
      given (WholeSited P) (testing w a token (targets_in a x ++ other_targets_in a y) (kernel.If c x y)) ((h.0, hc), both (StatementSited P) (statements_in x) (statements_of_other y) hx hy))))
  statement_sited P w a (While test body token) h =
      asked P w test token _ h.1 (λ c hc.
      and_then (statement w (in_loop a (number w token) (number w (site_of body))) body) _ (WholeSited P) (WholeSited P) (statement_sited P w (in_loop a (number w token) (number w (site_of body))) body h.2) (λ x hx.
      given (WholeSited P) (testing w a token (targets_in a x) (kernel.While c x)) ((h.0, hc), hx)))
  statement_sited P w a (Do body test token) h =
      and_then (statement w (in_loop a (number w token) (number w (site_of body))) body) _ (WholeSited P) (WholeSited P) (statement_sited P w (in_loop a (number w token) (number w (site_of body))) body h.1) (λ x hx.
      asked P w test token _ h.2 (λ c hc. given (WholeSited P) (testing w a token (targets_in a x) (kernel.Do x c)) ((h.0, hc), hx)))
  statement_sited P w a (For init test updates body token) h =
      within_block _ (WholeSited P)
      (and_then (for_init w init) _ (ListSited P) (WholeSited P) (for_init_sited P w init h.1) (λ is hi.
      and_then (tested w test token) _ (PartSited P) (WholeSited P) (tested_sited P w test token h.2) (λ c hc.
      and_then (effects w updates) _ (ListSited P) (WholeSited P) (effects_sited P w updates h.3) (λ us hu.
      and_then (statement w (in_loop a (number w token) (number w (site_of body))) body) _ (WholeSited P) (WholeSited P) (statement_sited P w (in_loop a (number w token) (number w (site_of body))) body h.4) (λ x hx.
      given (WholeSited P) (looping w a token c (targets_in a x) (kernel.For (row_of is) c (row_of us) x))
      (looping_sited P w a token c (targets_in a x) (kernel.For (row_of is) c (row_of us) x) ((h.0, hc), both (StatementSited P) (statements_of_all (row_of is)) (statements_of_all (row_of us) ++ statements_in x) (row_sited P is hi) (both (StatementSited P) (statements_of_all (row_of us)) (statements_in x) (row_sited P us hu) hx))))))))
  statement_sited P w a (Labelled name body) h =
      of_choice (is_label a name.name) (refuse Duplicate name.token) _ (WholeSited P) (refused_at (WholeSited P) Duplicate name.token)
      (and_then (statement w (under_label a name.name (number w name.token) (number_of_body w (body_of_loop body))) body) _ (WholeSited P) (WholeSited P)
      (statement_sited P w (under_label a name.name (number w name.token) (number_of_body w (body_of_loop body))) body h.1) (λ x hx.
      given (WholeSited P) (plain w name.token true (kernel.Labelled x)) ((h.0, tt), hx)))
  statement_sited P w a (Break label token) h = jumping_sited P w (break_target a label) token h
  statement_sited P w a (Continue label token) h = jumping_sited P w (continue_target a label) token h
  statement_sited P w a (Return value token) h = returning_sited P w a value token h.0 h.1
  statement_sited P w a (Throw value token) h =
      and_then (expressed (thrown w.judgement w.table value token)) _ (Sited P) (WholeSited P)
      (of_expressed (thrown w.judgement w.table value token) (Sited P) (thrown_sited P w.judgement w.table value token h.1)) (λ v i. given (WholeSited P) (plain w token true (kernel.Throw v)) ((h.0, i), tt))
  statement_sited P w a (Try main catches last token) h =
      and_then (block w (in_first_block a (number w token) catches) main) _ (WholeSited P) (WholeSited P) (block_sited P w (in_first_block a (number w token) catches) main h.1) (λ x hx.
      and_then (clauses w (inside a (number w token)) catches) _ (ClausesSited P) (WholeSited P) (clauses_sited P w (inside a (number w token)) catches h.2) (λ cs hc.
      and_then (last_block w (inside a (number w token)) last) _ (OtherSited P) (WholeSited P) (last_sited P w (inside a (number w token)) last h.3) (λ y hy.
      given (WholeSited P) (plain w token true (kernel.Try x cs y)) ((h.0, hc.0), both (StatementSited P) (statements_in x) (statements_of_catches cs ++ statements_of_other y) hx (both (StatementSited P) (statements_of_catches cs) (statements_of_other y) hc.1 hy)))))
  statement_sited P w a Unknown h = refused_at (WholeSited P) BadOperand 0

  other_sited : (P : ℕ → Type 0) (w : Setting) (a : Around) (s : Other) → OtherTokens P s → Keeps P (other_statement w a s) (OtherSited P)
  other_sited P w a absent h = given (OtherSited P) kernel.nothing tt
  other_sited P w a (present s) h = and_then (statement w a s) _ (WholeSited P) (OtherSited P) (statement_sited P w a s h) (λ x i. given (OtherSited P) (kernel.this x) i)

  pub block_sited : (P : ℕ → Type 0) (w : Setting) (a : Around) (b : Braced) → BlockTokens P b → Keeps P (block w a b) (WholeSited P)
  block_sited P w a (braced brace parts end) h =
      within_block _ (WholeSited P)
      (and_then (statements w (inside a (number w brace)) parts) _ (PartsSited P) (WholeSited P) (statements_sited P w (inside a (number w brace)) parts h.1) (λ xs i.
      given (WholeSited P) (plain w brace false (kernel.Block xs)) ((h.0, tt), i)))

  pub statements_sited : (P : ℕ → Type 0) (w : Setting) (a : Around) (s : Statements) → AllTokens P s → Keeps P (statements w a s) (PartsSited P)
  statements_sited P w a done h = given (PartsSited P) kernel.done tt
  statements_sited P w a (first s rest) h =
      and_then (several w s (statement w a s)) _ (ListSited P) (PartsSited P) (several_sited P w s (statement w a s) h.0 (statement_sited P w a s h.0)) (λ xs i.
      and_then (statements w a rest) _ (PartsSited P) (PartsSited P) (statements_sited P w a rest h.1) (λ ys k. given (PartsSited P) (joined xs ys) (joined_sited P xs ys i k)))

  last_sited : (P : ℕ → Type 0) (w : Setting) (a : Around) (s : Last) → LastTokens P s → Keeps P (last_block w a s) (OtherSited P)
  last_sited P w a nowhere h = given (OtherSited P) kernel.nothing tt
  last_sited P w a (finally b) h = and_then (block w a b) _ (WholeSited P) (OtherSited P) (block_sited P w a b h) (λ x i. given (OtherSited P) (kernel.this x) i)

  clauses_sited : (P : ℕ → Type 0) (w : Setting) (a : Around) (s : Catches) → CatchTokens P s → Keeps P (clauses w a s) (ClausesSited P)
  clauses_sited P w a uncaught h = given (ClausesSited P) kernel.uncaught (tt, tt)
  clauses_sited P w a (catch is_final class name b rest) h =
      and_then (clause w class name (block w a b)) _ (ClauseSited P) (ClausesSited P) (clause_sited P w class name (block w a b) h.0 (block_sited P w a b h.1)) (λ c i.
      and_then (clauses w a rest) _ (ClausesSited P) (ClausesSited P) (clauses_sited P w a rest h.2) (λ cs k. given (ClausesSited P) (kernel.catch c.class c.local name.token c.block cs) ((h.0, k.0), both (StatementSited P) (statements_in c.block) (statements_of_catches cs) i k.1)))
