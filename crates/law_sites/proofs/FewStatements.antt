-- Each statement becomes one that has no more `&&`, `||` and `?:` of a site than what is written has signs there.
use Rattle.std.proofs.Common.{◌≡◌, ◌∙◌, refl, ap, subst, ℕ, Bool, true, false, List, [], ◌∷◌, ◌++◌, append_assoc}
use Rattle.std.specs.Prelude.{Option, Some, None}
use Rattle.wy_kernel.specs.declared.types.Ty.{Ty}
use Rattle.wy_kernel.specs.Form as kernel
use Rattle.wy_kernel.specs.Subtyping.{class_type}
use Rattle.wy_kernel.specs.Table.{Table}
use Rattle.wy_syntax.specs.Syntax.{Expression, Initial, Value, Listed, WrittenType, Named, Declarator, Effect, ForInit, Statement, Block, Empty, Declare, Perform, If, While, Do, For, Labelled, Break, Continue, Return, Throw, Try, Unknown, Braced, braced, Statements, done, first, Other, absent, present, Last, nowhere, finally, Catches, uncaught, catch}
use Rattle.wy_syntax.specs.Syntax as source
use Rattle.wy_constant.specs.declared.rule.Rule.TheVariants.{Duplicate, BadOperand, BadJump, BadReturn}
use Rattle.wy_constant.specs.Scope.{Scope}
use Rattle.wy_elab_expr.specs.Meaning.{Meaning, type_of, Gets, formed, brought}
use Rattle.wy_elab_expr.specs.Meaning as found
use Rattle.wy_elab_expr.specs.Operators.{Judgement, is_boolean, boolean_type, is_void, is_assignable}
use Rattle.wy_elab_expr.specs.Elaboration.{type_written, with_brackets, initialized, Printed, print_operand, elaborated, elaborated_all}
use Rattle.wy_elab_body.specs.Making.{Makes, give, refuse, ◌>>=◌, expressed, changed, declaring, each}
use Rattle.wy_elab_body.specs.Parts.{Outcome, NoValue, ValueOf, NoReturn, condition, performed, printing, evaluated, is_output_call, print_of, returned_as, returned, returns_nothing, thrown, caught_class}
use Rattle.wy_elab_body.specs.Jumps.{Around, inside, in_loop, under_label, break_target, continue_target}
use Rattle.wy_elab_body.specs.Statements.{Setting, number, plain, testing, targets_in, other_targets_in, site_of, body_of_loop, number_of_body, constant_if, given_first, declarator, declarations, effect, effects, for_init, jumping, returning, row_of, joined, tested, looping, is_label, in_first_block, must_be_throwable, Clause, clause, is_declaration, declared, several, statement, other_statement, block, statements, last_block, clauses}
use Rattle.law_structure.proofs.Yields.{Yields, given, refused_at, refused_found, and_then, behind, then_found, within_block, of_expressed, of_choice}
use Rattle.law_structure.specs.Sites.{deciding, deciding_in_part}
use Rattle.law_sites.proofs.Fewer.{Fewer, few_none, few_both, few_crossed, few_behind, few_right, few_rotated}
use Rattle.law_sites.proofs.FewForms.{Few, FewPart, FewMeaning, brought_few, formed_few, of_form}
use Rattle.law_sites.proofs.FewExpressions.{signs, row_signs, initial_signs, FewPrinted, FewSigns, AllSigns, operand_few, expression_few, all_few, initial_few}

abbrev mutual
  -- the sites of the forms `&&`, `||` and `?:` in a statement and in those within it
  pub choices : kernel.Statement → List ℕ
  choices (kernel.Stmt number site askable reach act) = choices_in act

  pub choices_in : kernel.Act → List ℕ
  choices_in (kernel.Block parts) = choices_of_all parts
  choices_in (kernel.Eval value) = deciding value
  choices_in (kernel.Declare local) = []
  choices_in (kernel.If test x y) = deciding test ++ (choices x ++ choices_of_other y)
  choices_in (kernel.While test x) = deciding test ++ choices x
  choices_in (kernel.Do x test) = deciding test ++ choices x
  choices_in (kernel.For inits test updates x) = deciding_in_part test ++ (choices_of_all inits ++ (choices_of_all updates ++ choices x))
  choices_in (kernel.Labelled x) = choices x
  choices_in (kernel.Jump target) = []
  choices_in (kernel.Return value) = deciding_in_part value
  choices_in (kernel.Throw value) = deciding value
  choices_in (kernel.Try x catches y) = choices x ++ (choices_of_catches catches ++ choices_of_other y)
  choices_in (kernel.Print operand ty ends_line at) = deciding_in_part operand

  pub choices_of_other : kernel.Other → List ℕ
  choices_of_other kernel.nothing = []
  choices_of_other (kernel.this s) = choices s

  pub choices_of_all : kernel.Statements → List ℕ
  choices_of_all kernel.done = []
  choices_of_all (kernel.first s rest) = choices s ++ choices_of_all rest

  pub choices_of_catches : kernel.Catches → List ℕ
  choices_of_catches kernel.uncaught = []
  choices_of_catches (kernel.catch class local site block rest) = choices block ++ choices_of_catches rest

abbrev pub choices_of_list : List kernel.Statement → List ℕ
choices_of_list [] = []
choices_of_list (s ∷ rest) = choices s ++ choices_of_list rest

-- no more than the list has
abbrev pub FewIn : List ℕ → kernel.Statement → Type 0
FewIn ks s = Fewer (choices s) ks

abbrev pub FewOther : List ℕ → kernel.Other → Type 0
FewOther ks x = Fewer (choices_of_other x) ks

abbrev pub FewAll : List ℕ → kernel.Statements → Type 0
FewAll ks x = Fewer (choices_of_all x) ks

abbrev pub FewCatches : List ℕ → kernel.Catches → Type 0
FewCatches ks x = Fewer (choices_of_catches x) ks

abbrev pub FewList : List ℕ → List kernel.Statement → Type 0
FewList ks xs = Fewer (choices_of_list xs) ks

-- ---- the signs that are written, in the order of the text

abbrev pub maybe_signs : Option Expression → List ℕ
maybe_signs None = []
maybe_signs (Some e) = signs e

abbrev pub first_signs : Option Initial → List ℕ
first_signs None = []
first_signs (Some i) = initial_signs i

abbrev pub declarator_signs : List Declarator → List ℕ
declarator_signs [] = []
declarator_signs (d ∷ rest) = first_signs d.initial ++ declarator_signs rest

abbrev pub effect_signs : List Effect → List ℕ
effect_signs [] = []
effect_signs (e ∷ rest) = signs e.value ++ effect_signs rest

abbrev pub head_signs : ForInit → List ℕ
head_signs source.ForInit.Nothing = []
head_signs (source.ForInit.Declared is_final ty all) = declarator_signs all
head_signs (source.ForInit.Effects all) = effect_signs all

abbrev mutual
  pub signs_in : Statement → List ℕ
  signs_in (Block b) = signs_in_block b
  signs_in (Empty token) = []
  signs_in (Declare is_final ty all) = declarator_signs all
  signs_in (Perform e) = signs e.value
  signs_in (If test main other token) = signs test ++ (signs_in main ++ signs_in_other other)
  signs_in (While test body token) = signs test ++ signs_in body
  signs_in (Do body test token) = signs_in body ++ signs test
  signs_in (For init test updates body token) = head_signs init ++ (maybe_signs test ++ (effect_signs updates ++ signs_in body))
  signs_in (Labelled name body) = signs_in body
  signs_in (Break label token) = []
  signs_in (Continue label token) = []
  signs_in (Return value token) = maybe_signs value
  signs_in (Throw value token) = signs value
  signs_in (Try main catches last token) = signs_in_block main ++ (signs_in_catches catches ++ signs_in_last last)
  signs_in Unknown = []

  pub signs_in_block : Braced → List ℕ
  signs_in_block (braced brace parts end) = signs_in_all parts

  pub signs_in_all : Statements → List ℕ
  signs_in_all done = []
  signs_in_all (first s rest) = signs_in s ++ signs_in_all rest

  pub signs_in_other : Other → List ℕ
  signs_in_other absent = []
  signs_in_other (present s) = signs_in s

  pub signs_in_last : Last → List ℕ
  signs_in_last nowhere = []
  signs_in_last (finally b) = signs_in_block b

  pub signs_in_catches : Catches → List ℕ
  signs_in_catches uncaught = []
  signs_in_catches (catch is_final class name block rest) = signs_in_block block ++ signs_in_catches rest

-- ---- expressions that are statements

abbrev FewAct : List ℕ → kernel.Act → Type 0
FewAct ks act = Fewer (choices_in act) ks

print_few : (ks name : List ℕ) (token : ℕ) (p : Option Printed) → FewPrinted ks p → FewAct ks (print_of name token p)
print_few ks name token None h = few_none ks
print_few ks name token (Some p) h = h

printing_few : (j : Judgement) (t : Table) (s : Scope) (e : Expression) → Yields (printing j t s e) (FewAct (signs e))
unfolding printing
printing_few j t s (source.InvokeOn object name args token) =
    let ks = signs object in
    let ls = row_signs args in
    then_found (elaborated_all j t s args) _ (AllSigns args) (FewAct (ks ++ ls)) (all_few j t s args) (λ ms i.
    then_found (print_operand name ms token) _ (FewPrinted (ks ++ ls)) (FewAct (ks ++ ls)) (operand_few (ks ++ ls) name ms token (few_right ks i)) (λ p k. given (FewAct (ks ++ ls)) (print_of name token p) (print_few (ks ++ ls) name token p k)))
printing_few j t s e = refused_found (FewAct (signs e)) BadOperand 0

performed_few : (j : Judgement) (t : Table) (e : Expression) (s : Scope) → Yields (performed j t e s) (FewAct (signs e))
unfolding performed
performed_few j t e s =
    let ks = signs e in
    of_choice (is_output_call t s e) (printing j t s e) (evaluated j t s e) (FewAct ks) (printing_few j t s e)
    (then_found (elaborated j t s e) _ (FewMeaning ks) (FewAct ks) (expression_few j t s e) (λ m i.
    of_form ks (formed m) _ (FewAct ks) (formed_few ks m i) (λ form k. given (FewAct ks) (kernel.Eval form) k)))

condition_few : (j : Judgement) (t : Table) (e : Expression) (site : ℕ) (s : Scope) → Yields (condition j t e site s) (Few (signs e))
unfolding condition
condition_few j t e site s =
    let ks = signs e in
    then_found (elaborated j t s e) _ (FewMeaning ks) (Few ks) (expression_few j t s e) (λ m i.
    of_choice (is_boolean (type_of m)) (brought boolean_type m) (found.refuse BadOperand site) (Few ks) (brought_few ks boolean_type m i) (refused_found (Few ks) BadOperand site))

returned_as_few : (ks : List ℕ) (j : Judgement) (o : Outcome) (m : Meaning) (token : ℕ) → FewMeaning ks m → Yields (returned_as j o m token) (Few ks)
returned_as_few ks j (ValueOf ty) m token h =
    of_choice (is_void (type_of m)) (found.refuse BadOperand token) _ (Few ks) (refused_found (Few ks) BadOperand token)
    (of_choice (is_assignable j ty m) (brought ty m) (found.refuse BadReturn token) (Few ks) (brought_few ks ty m h) (refused_found (Few ks) BadReturn token))
returned_as_few ks j NoValue m token h = refused_found (Few ks) BadReturn token
returned_as_few ks j NoReturn m token h = refused_found (Few ks) BadReturn token

returned_few : (j : Judgement) (t : Table) (o : Outcome) (e : Expression) (token : ℕ) (s : Scope) → Yields (returned j t o e token s) (Few (signs e))
unfolding returned
returned_few j t o e token s = then_found (elaborated j t s e) _ (FewSigns e) (Few (signs e)) (expression_few j t s e) (λ m i. returned_as_few (signs e) j o m token i)

thrown_few : (j : Judgement) (t : Table) (e : Expression) (token : ℕ) (s : Scope) → Yields (thrown j t e token s) (Few (signs e))
unfolding thrown
thrown_few j t e token s =
    let ks = signs e in
    then_found (elaborated j t s e) _ (FewMeaning ks) (Few ks) (expression_few j t s e) (λ m i.
    of_choice (j.below (type_of m) _) (formed m) (found.refuse BadOperand token) (Few ks) (formed_few ks m i) (refused_found (Few ks) BadOperand token))

effect_few : (w : Setting) (e : Effect) → Yields (effect w e) (FewIn (signs e.value))
unfolding effect
effect_few w e =
    let ks = signs e.value in
    and_then (expressed (performed w.judgement w.table e.value)) (λ act. give (plain w e.token true act)) (FewAct ks) (FewIn ks)
    (of_expressed (performed w.judgement w.table e.value) (FewAct ks) (performed_few w.judgement w.table e.value))
    (λ act i. given (FewIn ks) (plain w e.token true act) i)

effects_few : (w : Setting) (all : List Effect) → Yields (effects w all) (FewList (effect_signs all))
unfolding each
effects_few w [] = given (FewList []) [] (few_none [])
effects_few w (e ∷ rest) =
    let P : List kernel.Statement → Type 0 = FewList (signs e.value ++ effect_signs rest) in
    and_then (effect w e) _ (FewIn (signs e.value)) P (effect_few w e) (λ x i.
    and_then (effects w rest) _ (FewList (effect_signs rest)) P (effects_few w rest) (λ xs k. given P (x ∷ xs) (few_both i k)))

-- ---- declarations

first_few : (w : Setting) (is_final : Bool) (ty : Ty) (k : ℕ) (n : Named) (i : Option Initial) → Yields (given_first w is_final ty k n i) (FewIn (first_signs i))
first_few w is_final ty k n None = given (FewIn []) (plain w n.token true (kernel.Declare k)) (few_none [])
first_few w is_final ty k n (Some i) =
    let P : kernel.Statement → Type 0 = FewIn (initial_signs i) in
    and_then (expressed (λ s. initialized w.judgement w.table s ty i n.token)) (λ e. changed (constant_if is_final w.table ty i) >>= λ fixed. give (plain w n.token true (kernel.Eval (kernel.Set (kernel.Local k) e n.token)))) (Few (initial_signs i)) P
    (of_expressed (λ s. initialized w.judgement w.table s ty i n.token) (Few (initial_signs i)) (λ s. initial_few w.judgement w.table s ty i n.token))
    (λ e x. behind (changed (constant_if is_final w.table ty i)) (λ fixed. give (plain w n.token true (kernel.Eval (kernel.Set (kernel.Local k) e n.token)))) P
    (λ fixed. given P (plain w n.token true (kernel.Eval (kernel.Set (kernel.Local k) e n.token))) x))

declarator_few : (w : Setting) (is_final : Bool) (ty : Ty) (d : Declarator) → Yields (declarator w is_final ty d) (FewIn (first_signs d.initial))
unfolding declarator
declarator_few w is_final ty d =
    behind (declaring d.name (with_brackets ty d.brackets) _) (λ k. given_first w is_final (with_brackets ty d.brackets) k d.name d.initial) (FewIn (first_signs d.initial)) (λ k. first_few w is_final (with_brackets ty d.brackets) k d.name d.initial)

declarators_few : (w : Setting) (is_final : Bool) (ty : Ty) (all : List Declarator) → Yields (each (declarator w is_final ty) all) (FewList (declarator_signs all))
unfolding each
declarators_few w is_final ty [] = given (FewList []) [] (few_none [])
declarators_few w is_final ty (d ∷ rest) =
    let P : List kernel.Statement → Type 0 = FewList (first_signs d.initial ++ declarator_signs rest) in
    and_then (declarator w is_final ty d) _ (FewIn (first_signs d.initial)) P (declarator_few w is_final ty d) (λ x i.
    and_then (each (declarator w is_final ty) rest) _ (FewList (declarator_signs rest)) P (declarators_few w is_final ty rest) (λ xs k. given P (x ∷ xs) (few_both i k)))

declarations_few : (w : Setting) (is_final : Bool) (ty : WrittenType) (all : List Declarator) → Yields (declarations w is_final ty all) (FewList (declarator_signs all))
unfolding declarations
declarations_few w is_final ty all = behind (expressed (λ s. type_written w.table ty)) (λ t. each (declarator w is_final t) all) (FewList (declarator_signs all)) (λ t. declarators_few w is_final t all)

init_few : (w : Setting) (i : ForInit) → Yields (for_init w i) (FewList (head_signs i))
unfolding for_init
init_few w source.ForInit.Nothing = given (FewList []) [] (few_none [])
init_few w (source.ForInit.Declared is_final ty all) = declarations_few w is_final ty all
init_few w (source.ForInit.Effects all) = effects_few w all

-- ---- rows

pub row_few : (ks : List ℕ) (xs : List kernel.Statement) → FewList ks xs → FewAll ks (row_of xs)
row_few ks xs h = let P : List ℕ → Type 0 = λ ys. Fewer ys ks in subst P (same xs) h
  where
    same : (xs : List kernel.Statement) → choices_of_list xs ≡ choices_of_all (row_of xs)
    same [] = refl
    same (x ∷ rest) = ap (λ ys. choices x ++ ys) (same rest)

pub joined_few : (ks ls : List ℕ) (xs : List kernel.Statement) (rest : kernel.Statements) → FewList ks xs → FewAll ls rest → FewAll (ks ++ ls) (joined xs rest)
joined_few ks ls xs rest h i = let P : List ℕ → Type 0 = λ ys. Fewer ys (ks ++ ls) in subst P (same xs) (few_both h i)
  where
    same : (xs : List kernel.Statement) → choices_of_list xs ++ choices_of_all rest ≡ choices_of_all (joined xs rest)
    same [] = refl
    same (x ∷ more) = append_assoc (choices x) (choices_of_list more) (choices_of_all rest) ∙ ap (λ ys. choices x ++ ys) (same more)

pub alone_few : (ks : List ℕ) (made : Makes kernel.Statement) → Yields made (FewIn ks) → Yields (made >>= λ x. give (x ∷ [])) (FewList ks)
alone_few ks made h = and_then made (λ x. give (x ∷ [])) (FewIn ks) (FewList ks) h (λ x i. given (FewList ks) (x ∷ []) (few_behind i))

declared_few : (w : Setting) (s : Statement) → Yields (declared w s) (FewList (signs_in s))
unfolding declared
declared_few w (Declare is_final ty all) = declarations_few w is_final ty all
declared_few w s = given (FewList (signs_in s)) [] (few_none (signs_in s))

several_few : (w : Setting) (s : Statement) (made : Makes kernel.Statement) → Yields made (FewIn (signs_in s)) → Yields (several w s made) (FewList (signs_in s))
several_few w s made h = of_choice (is_declaration s) (declared w s) (made >>= λ x. give (x ∷ [])) (FewList (signs_in s)) (declared_few w s) (alone_few (signs_in s) made h)

-- ---- jumps and tests

jumping_few : (w : Setting) (target : Option ℕ) (token : ℕ) → Yields (jumping w target token) (FewIn [])
jumping_few w None token = refused_at (FewIn []) BadJump token
jumping_few w (Some n) token = given (FewIn []) (plain w token true (kernel.Jump n)) (few_none [])

returning_few : (w : Setting) (a : Around) (value : Option Expression) (token : ℕ) → Yields (returning w a value token) (FewIn (maybe_signs value))
returning_few w a None token =
    of_choice (returns_nothing a.outcome) (give (plain w token true (kernel.Return kernel.absent))) (refuse BadReturn token) (FewIn [])
    (given (FewIn []) (plain w token true (kernel.Return kernel.absent)) (few_none [])) (refused_at (FewIn []) BadReturn token)
returning_few w a (Some e) token =
    and_then (expressed (returned w.judgement w.table a.outcome e token)) (λ v. give (plain w token true (kernel.Return (kernel.the v)))) (Few (signs e)) (FewIn (signs e))
    (of_expressed (returned w.judgement w.table a.outcome e token) (Few (signs e)) (returned_few w.judgement w.table a.outcome e token))
    (λ v i. given (FewIn (signs e)) (plain w token true (kernel.Return (kernel.the v))) i)

tested_few : (w : Setting) (test : Option Expression) (site : ℕ) → Yields (tested w test site) (FewPart (maybe_signs test))
tested_few w None site = given (FewPart []) kernel.absent (few_none [])
tested_few w (Some e) site =
    and_then (expressed (condition w.judgement w.table e site)) (λ c. give (kernel.the c)) (Few (signs e)) (FewPart (signs e))
    (of_expressed (condition w.judgement w.table e site) (Few (signs e)) (condition_few w.judgement w.table e site)) (λ c i. given (FewPart (signs e)) (kernel.the c) i)

looping_few : (ks : List ℕ) (w : Setting) (a : Around) (site : ℕ) (test : kernel.Part) (guarded : List ℕ) (act : kernel.Act) → FewAct ks act → FewIn ks (looping w a site test guarded act)
looping_few ks w a site kernel.absent guarded act h = h
looping_few ks w a site (kernel.the c) guarded act h = h

asked : (P : kernel.Statement → Type 0) (w : Setting) (test : Expression) (token : ℕ) (g : kernel.Expression → Makes kernel.Statement) → ((c : kernel.Expression) → Few (signs test) c → Yields (g c) P) → Yields (expressed (condition w.judgement w.table test token) >>= g) P
asked P w test token g i = and_then (expressed (condition w.judgement w.table test token)) g (Few (signs test)) P (of_expressed (condition w.judgement w.table test token) (Few (signs test)) (condition_few w.judgement w.table test token)) i

-- ---- the table

abbrev FewClause : List ℕ → Clause → Type 0
FewClause ks c = FewIn ks c.block

clause_few : (ks : List ℕ) (w : Setting) (class name : Named) (b : Makes kernel.Statement) → Yields b (FewIn ks) → Yields (clause w class name b) (FewClause ks)
unfolding clause
clause_few ks w class name b h =
    within_block _ (FewClause ks)
    (behind (expressed (caught_class w.judgement w.table class name.token)) _ (FewClause ks) (λ c.
    behind (declaring name (class_type c) false) _ (FewClause ks) (λ k.
    behind (must_be_throwable w c name.token) _ (FewClause ks) (λ throwable.
    and_then b _ (FewIn ks) (FewClause ks) h (λ x i. given (FewClause ks) (record { class = c; local = k; block = x }) i)))))

mutual
  unfolding statement other_statement block statements last_block clauses

  pub statement_few : (w : Setting) (a : Around) (s : Statement) → Yields (statement w a s) (FewIn (signs_in s))
  statement_few w a (Block b) = block_few w a b
  statement_few w a (Empty token) = given (FewIn []) (plain w token true (kernel.Block kernel.done)) (few_none [])
  statement_few w a (Declare is_final ty all) = refused_at (FewIn (declarator_signs all)) BadOperand 0
  statement_few w a (Perform e) = effect_few w e
  statement_few w a (If test main other token) =
      let P : kernel.Statement → Type 0 = FewIn (signs test ++ (signs_in main ++ signs_in_other other)) in
      asked P w test token _ (λ c hc.
      and_then (statement w (inside a (number w token)) main) _ (FewIn (signs_in main)) P (statement_few w (inside a (number w token)) main) (λ x hx.
      and_then (other_statement w (inside a (number w token)) other) _ (FewOther (signs_in_other other)) P (other_few w (inside a (number w token)) other) (λ y hy.
      given P (testing w a token (targets_in a x ++ other_targets_in a y) (kernel.If c x y)) (few_both hc (few_both hx hy)))))
  statement_few w a (While test body token) =
      let P : kernel.Statement → Type 0 = FewIn (signs test ++ signs_in body) in
      asked P w test token _ (λ c hc.
      and_then (statement w (in_loop a (number w token) (number w (site_of body))) body) _ (FewIn (signs_in body)) P (statement_few w (in_loop a (number w token) (number w (site_of body))) body) (λ x hx.
      given P (testing w a token (targets_in a x) (kernel.While c x)) (few_both hc hx)))
  statement_few w a (Do body test token) =
      let P : kernel.Statement → Type 0 = FewIn (signs_in body ++ signs test) in
      and_then (statement w (in_loop a (number w token) (number w (site_of body))) body) _ (FewIn (signs_in body)) P (statement_few w (in_loop a (number w token) (number w (site_of body))) body) (λ x hx.
      asked P w test token _ (λ c hc. given P (testing w a token (targets_in a x) (kernel.Do x c)) (few_crossed hc hx)))
  statement_few w a (For init test updates body token) =
      let ks = head_signs init ++ (maybe_signs test ++ (effect_signs updates ++ signs_in body)) in
      let P : kernel.Statement → Type 0 = FewIn ks in
      within_block _ P
      (and_then (for_init w init) _ (FewList (head_signs init)) P (init_few w init) (λ is hi.
      and_then (tested w test token) _ (FewPart (maybe_signs test)) P (tested_few w test token) (λ c hc.
      and_then (effects w updates) _ (FewList (effect_signs updates)) P (effects_few w updates) (λ us hu.
      and_then (statement w (in_loop a (number w token) (number w (site_of body))) body) _ (FewIn (signs_in body)) P (statement_few w (in_loop a (number w token) (number w (site_of body))) body) (λ x hx.
      given P (looping w a token c (targets_in a x) (kernel.For (row_of is) c (row_of us) x))
      (looping_few ks w a token c (targets_in a x) (kernel.For (row_of is) c (row_of us) x)
      (few_rotated hc (row_few (head_signs init) is hi) (few_both (row_few (effect_signs updates) us hu) hx))))))))
  statement_few w a (Labelled name body) =
      let P : kernel.Statement → Type 0 = FewIn (signs_in body) in
      of_choice (is_label a name.name) (refuse Duplicate name.token) _ P (refused_at P Duplicate name.token)
      (and_then (statement w (under_label a name.name (number w name.token) (number_of_body w (body_of_loop body))) body) _ P P
      (statement_few w (under_label a name.name (number w name.token) (number_of_body w (body_of_loop body))) body) (λ x hx.
      given P (plain w name.token true (kernel.Labelled x)) hx))
  statement_few w a (Break label token) = jumping_few w (break_target a label) token
  statement_few w a (Continue label token) = jumping_few w (continue_target a label) token
  statement_few w a (Return value token) = returning_few w a value token
  statement_few w a (Throw value token) =
      and_then (expressed (thrown w.judgement w.table value token)) _ (Few (signs value)) (FewIn (signs value))
      (of_expressed (thrown w.judgement w.table value token) (Few (signs value)) (thrown_few w.judgement w.table value token)) (λ v i. given (FewIn (signs value)) (plain w token true (kernel.Throw v)) i)
  statement_few w a (Try main catches last token) =
      let P : kernel.Statement → Type 0 = FewIn (signs_in_block main ++ (signs_in_catches catches ++ signs_in_last last)) in
      and_then (block w (in_first_block a (number w token) catches) main) _ (FewIn (signs_in_block main)) P (block_few w (in_first_block a (number w token) catches) main) (λ x hx.
      and_then (clauses w (inside a (number w token)) catches) _ (FewCatches (signs_in_catches catches)) P (clauses_few w (inside a (number w token)) catches) (λ cs hc.
      and_then (last_block w (inside a (number w token)) last) _ (FewOther (signs_in_last last)) P (last_few w (inside a (number w token)) last) (λ y hy.
      given P (plain w token true (kernel.Try x cs y)) (few_both hx (few_both hc hy)))))
  statement_few w a Unknown = refused_at (FewIn []) BadOperand 0

  other_few : (w : Setting) (a : Around) (s : Other) → Yields (other_statement w a s) (FewOther (signs_in_other s))
  other_few w a absent = given (FewOther []) kernel.nothing (few_none [])
  other_few w a (present s) = and_then (statement w a s) _ (FewIn (signs_in s)) (FewOther (signs_in s)) (statement_few w a s) (λ x i. given (FewOther (signs_in s)) (kernel.this x) i)

  pub block_few : (w : Setting) (a : Around) (b : Braced) → Yields (block w a b) (FewIn (signs_in_block b))
  block_few w a (braced brace parts end) =
      let P : kernel.Statement → Type 0 = FewIn (signs_in_all parts) in
      within_block _ P
      (and_then (statements w (inside a (number w brace)) parts) _ (FewAll (signs_in_all parts)) P (statements_few w (inside a (number w brace)) parts) (λ xs i.
      given P (plain w brace false (kernel.Block xs)) i))

  pub statements_few : (w : Setting) (a : Around) (s : Statements) → Yields (statements w a s) (FewAll (signs_in_all s))
  statements_few w a done = given (FewAll []) kernel.done (few_none [])
  statements_few w a (first s rest) =
      let P : kernel.Statements → Type 0 = FewAll (signs_in s ++ signs_in_all rest) in
      and_then (several w s (statement w a s)) _ (FewList (signs_in s)) P (several_few w s (statement w a s) (statement_few w a s)) (λ xs i.
      and_then (statements w a rest) _ (FewAll (signs_in_all rest)) P (statements_few w a rest) (λ ys k. given P (joined xs ys) (joined_few (signs_in s) (signs_in_all rest) xs ys i k)))

  last_few : (w : Setting) (a : Around) (s : Last) → Yields (last_block w a s) (FewOther (signs_in_last s))
  last_few w a nowhere = given (FewOther []) kernel.nothing (few_none [])
  last_few w a (finally b) = and_then (block w a b) _ (FewIn (signs_in_block b)) (FewOther (signs_in_block b)) (block_few w a b) (λ x i. given (FewOther (signs_in_block b)) (kernel.this x) i)

  clauses_few : (w : Setting) (a : Around) (s : Catches) → Yields (clauses w a s) (FewCatches (signs_in_catches s))
  clauses_few w a uncaught = given (FewCatches []) kernel.uncaught (few_none [])
  clauses_few w a (catch is_final class name b rest) =
      let P : kernel.Catches → Type 0 = FewCatches (signs_in_block b ++ signs_in_catches rest) in
      and_then (clause w class name (block w a b)) _ (FewClause (signs_in_block b)) P (clause_few (signs_in_block b) w class name (block w a b) (block_few w a b)) (λ c i.
      and_then (clauses w a rest) _ (FewCatches (signs_in_catches rest)) P (clauses_few w a rest) (λ cs k. given P (kernel.catch c.class c.local name.token c.block cs) (few_both i k)))
