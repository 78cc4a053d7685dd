-- Where a statement is refused, something in it breaks the rule: by recursion on the statement, its blocks and its clauses.
use Rattle.std.proofs.Common.{◌≡◌, ◌∙◌, subst, refl, ℕ, Bool, true, false, List, [], ◌∷◌, ◌++◌, Option, Some, Ok}
use Rattle.std.specs.Prelude.{is_some}
use Rattle.std.specs.Prelude.{None as Absent}
use Rattle.wy_kernel.specs.Form as kernel
use Rattle.wy_kernel.specs.Subtyping.{class_type}
use Rattle.wy_syntax.specs.Syntax.{Expression, WrittenType, Named, Declarator, Effect, ForInit, Effects, Statement, Block, Empty, Declare, Perform, If, While, Do, For, Labelled, Break, Continue, Return, Throw, Try, Unknown, Braced, braced, Statements, done, first, Other, absent, present, Last, nowhere, finally, Catches, uncaught, catch}
use Rattle.wy_syntax.specs.Syntax as source
use Rattle.wy_constant.specs.declared.rule.Rule.TheVariants.{Duplicate, BadJump, BadReturn}
use Rattle.wy_constant.specs.Refusal.{Refusal, refused}
use Rattle.wy_constant.specs.Scope.{Scope, opened}
use Rattle.wy_constant.specs.Fields.{class_named}
use Rattle.wy_elab_expr.specs.Operators.{Settles}
use Rattle.wy_elab_body.specs.Making.{Making, Makes, give, refuse, ◌>>=◌, expressed, declaring}
use Rattle.wy_elab_body.specs.Parts.{Outcome, NoValue, ValueOf, NoReturn, condition, returned, returns_nothing, thrown}
use Rattle.wy_elab_body.specs.Jumps.{Around, Label, inside, in_loop, under_label, label_named, break_target, continue_target}
use Rattle.wy_elab_body.specs.Statements.{Setting, number, plain, testing, targets_in, other_targets_in, site_of, body_of_loop, number_of_body, effects, for_init, jumping, row_of, joined, tested, looping, is_label, in_first_block, clause, is_declaration, declared, several, statement, other_statement, block, statements, last_block, clauses}
use Rattle.law_refusals.proofs.Walk.{Only}
use Rattle.law_well_formed.specs.Complete.{IsComplete, IsCompleteOption, IsCompleteInit, IsCompleteStatement, IsCompleteBlock, AreCompleteStatements, IsCompleteOther, IsCompleteLast, AreCompleteCatches}
use Rattle.law_refusals.specs.Surroundings.{Leads, InRow, InBlock, within, InClause, HasPart, InClauses, HasClause, Lists, Evaluates, Tests}
use Rattle.law_refusals.specs.Surroundings as standing
use Rattle.law_refusals.specs.Missteps.{Missteps, IsBrokenIn}
use Rattle.law_refusals.specs.Missteps as misstep
use Rattle.law_refusals.specs.BodyLaws.{StatementRefusalsAreDue, BlockRefusalsAreDue}
use Rattle.law_refusals.proofs.Steps.{OnlyFrom, from_give, from_refuse, from_if, from_bind, from_weaker, from_block, bind_expressed, in_opened, leading}
use Rattle.law_refusals.proofs.Expressed.{condition_only, returned_only, thrown_only}
use Rattle.law_refusals.proofs.Variables.{Blames, declarations_only}
use Rattle.law_refusals.proofs.BodyParts.{effect_only, effects_only, effects_keep, tested_keeps, BadClause, unknown, again, not_throwable, clause_only}

-- what leads on from a scope that is known
pub leading_from : {A : Type 0} (f : Makes A) (s : Scope) (b : Making) (x : A) (c : Making) → b.scope ≡ s → f b ≡ Ok (x, c) → Leads f s c.scope
leading_from f s b x c same e = record { before = b; after = c; result = x; made = e; begins = same; ends = refl }

-- ---- what is said of refusals in parts

module _ (w : Setting) where
  pub record BlockBroken (a : Around) (s : Scope) (b : Braced) (r : Refusal) : Type 0 where
    pub around : Around
    pub there : Scope
    pub part : Statement
    pub stands : InBlock w a s b around there part
    pub broken : Blames w around there part r

  pub record RowBroken (a : Around) (s : Scope) (rest : Statements) (r : Refusal) : Type 0 where
    pub there : Scope
    pub part : Statement
    pub stands : InRow w a s rest there part
    pub broken : Blames w a there part r

  pub data OtherBroken (a : Around) (s : Scope) : Other → Refusal → Type 0 where
    of_present : {x : Statement} {r : Refusal} → Blames w a s x r → OtherBroken a s (present x) r

  pub data LastBroken (a : Around) (s : Scope) : Last → Refusal → Type 0 where
    of_finally : {b : Braced} {r : Refusal} → BlockBroken a s b r → LastBroken a s (finally b) r

  pub data ClausesBroken (a : Around) (s : Scope) (catches : Catches) (r : Refusal) : Type 0 where
    in_part : {around : Around} {there : Scope} {part : Statement} → InClause w a s catches around there part → Blames w around there part r → ClausesBroken a s catches r
    of_clause : {there : Scope} {class name : Named} → InClauses w a s catches there class name → BadClause w there class name r → ClausesBroken a s catches r

  moved : (a : Around) (s t : Scope) (x : Statement) (r : Refusal) → s ≡ t → Blames w a s x r → Blames w a t x r
  moved a s t x r e h = let Q : Scope → Type 0 = λ z. Blames w a z x r in subst Q e h

module _ (w : Setting) (g : Settles w.table w.judgement) where
  abbrev pub Explains : Statement → Type 0
  Explains x = (a : Around) (b : Making) → IsCompleteStatement false x → OnlyFrom (Blames w a b.scope x) (statement w a x) b

  -- the same where a declaration may stand
  abbrev pub ExplainsLocal : Statement → Type 0
  ExplainsLocal x = (a : Around) (b : Making) → IsCompleteStatement true x → OnlyFrom (Blames w a b.scope x) (several w x (statement w a x)) b

  abbrev pub ExplainsBlock : Braced → Type 0
  ExplainsBlock x = (a : Around) (b : Making) → IsCompleteBlock x → OnlyFrom (BlockBroken w a b.scope x) (block w a x) b

  abbrev pub ExplainsRow : Statements → Type 0
  ExplainsRow x = (a : Around) (b : Making) → AreCompleteStatements x → OnlyFrom (RowBroken w a b.scope x) (statements w a x) b

  abbrev pub ExplainsOther : Other → Type 0
  ExplainsOther x = (a : Around) (b : Making) → IsCompleteOther x → OnlyFrom (OtherBroken w a b.scope x) (other_statement w a x) b

  abbrev pub ExplainsLast : Last → Type 0
  ExplainsLast x = (a : Around) (b : Making) → IsCompleteLast x → OnlyFrom (LastBroken w a b.scope x) (last_block w a x) b

  abbrev pub ExplainsCatches : Catches → Type 0
  ExplainsCatches x = (a : Around) (b : Making) → AreCompleteCatches x → OnlyFrom (ClausesBroken w a b.scope x) (clauses w a x) b

  -- ---- blocks

  block_case : (brace : ℕ) (parts : Statements) (end : ℕ) → ExplainsRow parts → ExplainsBlock (braced brace parts end)
  unfolding statement
  block_case brace parts end f a b h =
      from_block (statements w (inside a (number w brace)) parts >>= λ xs. give (plain w brace false (kernel.Block xs))) b
      (from_bind {f = statements w (inside a (number w brace)) parts} {g = λ xs. give (plain w brace false (kernel.Block xs))}
      (from_weaker (λ r k. record { around = inside a (number w brace); there = k.there; part = k.part; stands = within k.stands; broken = k.broken }) (f (inside a (number w brace)) (in_opened b) h))
      (λ xs c is. from_give))

  done_case : ExplainsRow done
  unfolding statement
  done_case a b h = from_give

  first_case : (x : Statement) (rest : Statements) → ExplainsLocal x → ExplainsRow rest → ExplainsRow (first x rest)
  unfolding statement
  first_case x rest f k a b h =
      from_bind {f = several w x (statement w a x)} {g = λ xs. statements w a rest >>= λ ys. give (joined xs ys)}
      (from_weaker (λ r z. record { there = b.scope; part = x; stands = standing.InRow.here; broken = z }) (f a b h.0))
      (λ xs c is. from_bind {f = statements w a rest} {g = λ ys. give (joined xs ys)}
      (from_weaker (λ r z. record { there = z.there; part = z.part; stands = standing.InRow.later (leading (several w x (statement w a x)) b xs c is) z.stands; broken = z.broken }) (k a c h.1))
      (λ ys d it. from_give))

  no_declaration : (x : Statement) → IsCompleteStatement false x → is_declaration x ≡ false
  unfolding is_declaration
  no_declaration (Declare is_final ty all) h = absurd (let n : false ≡ true = h.0 in cc)
  no_declaration _ h = refl

  -- a statement that is no declaration
  local_by : (x : Statement) → (IsCompleteStatement true x → IsCompleteStatement false x) → Explains x → ExplainsLocal x
  local_by x same f a b h =
      from_if {c = is_declaration x} {f = declared w x} {g = statement w a x >>= λ y. give (y ∷ [])} (λ declares. absurd (let n : is_declaration x ≡ false = no_declaration x (same h) in cc))
      (λ z. from_bind {f = statement w a x} {g = λ y. give (y ∷ [])} (f a b (same h)) (λ y c is. from_give))

  declare_case : (is_final : Bool) (ty : WrittenType) (all : List Declarator) → ExplainsLocal (Declare is_final ty all)
  unfolding is_declaration declared
  declare_case is_final ty all a b h = declarations_only w a g b.scope (Declare is_final ty all) is_final ty all b standing.local refl h.1

  -- ---- statements with statements

  of_block_case : (x : Braced) → ExplainsBlock x → Explains (Block x)
  unfolding statement
  of_block_case x f a b h = from_weaker (λ r k. misstep.part (standing.of_block k.stands) k.broken) (f a b h)

  empty_case : (token : ℕ) → Explains (Empty token)
  unfolding statement
  empty_case token a b h = from_give

  perform_case : (e : Effect) → Explains (Perform e)
  unfolding statement
  perform_case e a b h = effect_only w g e b h (λ r k. misstep.expression standing.effect k)

  -- a test of a statement
  test_only : (a : Around) (s : Scope) (x : Statement) (there : Scope) (e : Expression) (token : ℕ) → IsComplete e → Evaluates w a s x there e → Tests w a s x there e token → Only (Blames w a s x) (condition w.judgement w.table e token there)
  test_only a s x there e token h evaluates tests =
      condition_only w.judgement w.table g there e token h (λ r k. misstep.expression evaluates k) (λ m f n. misstep.itself (misstep.IsBadOperand.condition tests f n))

  of_other : (a : Around) (s there : Scope) (test : Expression) (main : Statement) (other : Other) (token : ℕ) (r : Refusal) → Leads (statement w (inside a (number w token)) main) s there → OtherBroken w (inside a (number w token)) there other r →
      Blames w a s (If test main other token) r
  of_other a s there test main _ token r leads (of_present k) = misstep.part (standing.if_false leads) k

  if_case : (test : Expression) (main : Statement) (other : Other) (token : ℕ) → Explains main → ExplainsOther other → Explains (If test main other token)
  unfolding statement
  if_case test main other token f k a b h =
      let x : Statement = If test main other token in
      let n : ℕ = number w token in
      let made : kernel.Expression → kernel.Statement → kernel.Other → Makes kernel.Statement = λ c y z. give (testing w a token (targets_in a y ++ other_targets_in a z) (kernel.If c y z)) in
      bind_expressed (condition w.judgement w.table test token) (λ c. statement w (inside a n) main >>= λ y. other_statement w (inside a n) other >>= λ z. made c y z) b
      (test_only a b.scope x b.scope test token h.0 standing.test_if standing.of_if)
      (λ c b1 ex. from_bind {f = statement w (inside a n) main} {g = λ y. other_statement w (inside a n) other >>= λ z. made c y z}
      (from_weaker (λ r q. misstep.part standing.if_true (moved w (inside a n) b1.scope b.scope main r ex.same q)) (f (inside a n) b1 h.1))
      (λ y b2 is. from_bind {f = other_statement w (inside a n) other} {g = λ z. made c y z}
      (from_weaker (λ r q. of_other a b.scope b2.scope test main other token r (leading_from (statement w (inside a n) main) b.scope b1 y b2 ex.same is) q) (k (inside a n) b2 h.2)) (λ z b3 it. from_give)))

  while_case : (test : Expression) (body : Statement) (token : ℕ) → Explains body → Explains (While test body token)
  unfolding statement
  while_case test body token f a b h =
      let x : Statement = While test body token in
      let around : Around = in_loop a (number w token) (number w (site_of body)) in
      let made : kernel.Expression → kernel.Statement → Makes kernel.Statement = λ c y. give (testing w a token (targets_in a y) (kernel.While c y)) in
      bind_expressed (condition w.judgement w.table test token) (λ c. statement w around body >>= λ y. made c y) b
      (test_only a b.scope x b.scope test token h.0 standing.test_while standing.of_while)
      (λ c b1 ex. from_bind {f = statement w around body} {g = λ y. made c y} (from_weaker (λ r q. misstep.part standing.of_while (moved w around b1.scope b.scope body r ex.same q)) (f around b1 h.1)) (λ y b2 is. from_give))

  do_case : (body : Statement) (test : Expression) (token : ℕ) → Explains body → Explains (Do body test token)
  unfolding statement
  do_case body test token f a b h =
      let x : Statement = Do body test token in
      let around : Around = in_loop a (number w token) (number w (site_of body)) in
      let made : kernel.Statement → kernel.Expression → Makes kernel.Statement = λ y c. give (testing w a token (targets_in a y) (kernel.Do y c)) in
      from_bind {f = statement w around body} {g = λ y. expressed (condition w.judgement w.table test token) >>= λ c. made y c} (from_weaker (λ r q. misstep.part standing.of_do q) (f around b h.0))
      (λ y b1 is. bind_expressed (condition w.judgement w.table test token) (λ c. made y c) b1
      (test_only a b.scope x b1.scope test token h.1 (standing.test_do (leading (statement w around body) b y b1 is)) (standing.of_do (leading (statement w around body) b y b1 is)))
      (λ c b2 ex. from_give))

  -- ---- `for`

  init_only : (init : ForInit) (test : Option Expression) (updates : List Effect) (body : Statement) (token : ℕ) (a : Around) (s : Scope) (b : Making) → b.scope ≡ opened s → IsCompleteInit init →
      OnlyFrom (Blames w a s (For init test updates body token)) (for_init w init) b
  unfolding for_init
  init_only source.ForInit.Nothing test updates body token a s b same h = from_give
  init_only (source.ForInit.Declared is_final ty all) test updates body token a s b same h =
      declarations_only w a g s (For (source.ForInit.Declared is_final ty all) test updates body token) is_final ty all b standing.Lists.of_for same h
  init_only (Effects all) test updates body token a s b same h = effects_only w g all (opened s) b same h (λ e c r k. misstep.expression (standing.begin_for c) k)

  for_test : (init : ForInit) (test : Option Expression) (updates : List Effect) (body : Statement) (token : ℕ) (a : Around) (s : Scope) (b : Making) → Leads (for_init w init) (opened s) b.scope → IsCompleteOption test →
      OnlyFrom (Blames w a s (For init test updates body token)) (tested w test token) b
  for_test init Absent updates body token a s b leads h = from_give
  for_test init (Some e) updates body token a s b leads h =
      bind_expressed (condition w.judgement w.table e token) (λ c. give (kernel.the c)) b (test_only a s (For init (Some e) updates body token) b.scope e token h (standing.test_for leads) (standing.Tests.of_for leads)) (λ c b1 ex. from_give)

  for_case : (init : ForInit) (test : Option Expression) (updates : List Effect) (body : Statement) (token : ℕ) → Explains body → Explains (For init test updates body token)
  unfolding statement
  for_case init test updates body token f a b h =
      let x : Statement = For init test updates body token in
      let around : Around = in_loop a (number w token) (number w (site_of body)) in
      let made : List kernel.Statement → kernel.Part → List kernel.Statement → kernel.Statement → Makes kernel.Statement = λ is c us y. give (looping w a token c (targets_in a y) (kernel.For (row_of is) c (row_of us) y)) in
      from_block (for_init w init >>= λ is. tested w test token >>= λ c. effects w updates >>= λ us. statement w around body >>= λ y. made is c us y) b
      (from_bind {f = for_init w init} {g = λ is. tested w test token >>= λ c. effects w updates >>= λ us. statement w around body >>= λ y. made is c us y}
      (init_only init test updates body token a b.scope (in_opened b) refl h.0)
      (λ is b1 e1. let leads : Leads (for_init w init) (opened b.scope) b1.scope = leading (for_init w init) (in_opened b) is b1 e1 in
      from_bind {f = tested w test token} {g = λ c. effects w updates >>= λ us. statement w around body >>= λ y. made is c us y} (for_test init test updates body token a b.scope b1 leads h.1)
      (λ c b2 e2. let same2 : b2.scope ≡ b1.scope = tested_keeps w test token b1 c b2 e2 in
      from_bind {f = effects w updates} {g = λ us. statement w around body >>= λ y. made is c us y}
      (effects_only w g updates b1.scope b2 same2 h.2 (λ e k r q. misstep.expression (standing.update_for leads k) q))
      (λ us b3 e3. let same3 : b3.scope ≡ b1.scope = effects_keep w updates b2 us b3 e3 ∙ same2 in
      from_bind {f = statement w around body} {g = λ y. made is c us y}
      (from_weaker (λ r q. misstep.part (standing.HasPart.of_for leads) (moved w around b3.scope b1.scope body r same3 q)) (f around b3 h.3)) (λ y b4 e4. from_give)))))

  -- ---- labels and jumps

  label_is : (o : Option Label) → is_some o ≡ true → (l : Label) × (o ≡ Some l)
  label_is (Some l) e = (l, refl)
  label_is Absent e = absurd (cc)

  label_case : (name : Named) (body : Statement) → Explains body → Explains (Labelled name body)
  unfolding statement
  label_case name body f a b h =
      let around : Around = under_label a name.name (number w name.token) (number_of_body w (body_of_loop body)) in
      let made : kernel.Statement → Makes kernel.Statement = λ y. give (plain w name.token true (kernel.Labelled y)) in
      from_if {c = is_label a name.name} {f = refuse Duplicate name.token} {g = statement w around body >>= λ y. made y}
      (λ e. let l = label_is (label_named a name.name) e in from_refuse (misstep.itself (misstep.again_label l.1)))
      (λ e. from_bind {f = statement w around body} {g = λ y. made y} (from_weaker (λ r q. misstep.part standing.of_label q) (f around b h)) (λ y c is. from_give))

  jump_by : {P : Refusal → Type 0} (o : Option ℕ) (token : ℕ) (b : Making) → (o ≡ Absent → P (refused BadJump token)) → OnlyFrom P (jumping w o token) b
  jump_by (Some n) token b f = from_give
  jump_by Absent token b f = from_refuse (f refl)

  break_case : (label : Option Named) (token : ℕ) → Explains (Break label token)
  unfolding statement
  break_case label token a b h = jump_by (break_target a label) token b (λ e. misstep.itself (misstep.no_break e))

  continue_case : (label : Option Named) (token : ℕ) → Explains (Continue label token)
  unfolding statement
  continue_case label token a b h = jump_by (continue_target a label) token b (λ e. misstep.itself (misstep.no_continue e))

  -- ---- `return` and `throw`

  nothing_by : (token : ℕ) (a : Around) (s : Scope) → (o : Outcome) → a.outcome ≡ o → returns_nothing o ≡ false → Blames w a s (Return Absent token) (refused BadReturn token)
  nothing_by token a s NoValue e h = absurd (cc)
  nothing_by token a s (ValueOf ty) e h = misstep.itself (misstep.no_value e)
  nothing_by token a s NoReturn e h = misstep.itself (misstep.in_initializer e)

  return_case : (value : Option Expression) (token : ℕ) → Explains (Return value token)
  unfolding statement
  return_case Absent token a b h =
      from_if {c = returns_nothing a.outcome} {f = give (plain w token true (kernel.Return kernel.absent))} {g = refuse BadReturn token} (λ e. from_give) (λ e. from_refuse (nothing_by token a b.scope a.outcome refl e))
  return_case (Some e) token a b h =
      bind_expressed (returned w.judgement w.table a.outcome e token) (λ v. give (plain w token true (kernel.Return (kernel.the v)))) b
      (returned_only w.judgement w.table g b.scope e token a.outcome h (λ r q. misstep.expression standing.returned q) (λ o. misstep.itself (misstep.a_value o)) (λ o. misstep.itself (misstep.in_initializer o))
      (λ ty m o f v. misstep.itself (misstep.void_returned o f v)) (λ ty m o f n u. misstep.itself (misstep.unfit o f n u)))
      (λ v c ex. from_give)

  throw_case : (value : Expression) (token : ℕ) → Explains (Throw value token)
  unfolding statement
  throw_case value token a b h =
      bind_expressed (thrown w.judgement w.table value token) (λ v. give (plain w token true (kernel.Throw v))) b
      (thrown_only w.judgement w.table g b.scope value token h (λ r q. misstep.expression standing.Evaluates.thrown q) (λ m f n. misstep.itself (misstep.IsBadOperand.thrown f n))) (λ v c ex. from_give)

  -- ---- `try`

  uncaught_case : ExplainsCatches uncaught
  unfolding statement
  uncaught_case a b h = from_give

  catch_case : (is_final : Bool) (class name : Named) (x : Braced) (rest : Catches) → ExplainsBlock x → ExplainsCatches rest → ExplainsCatches (catch is_final class name x rest)
  unfolding statement
  catch_case is_final class name x rest f k a b h =
      from_bind {f = clause w class name (block w a x)} {g = λ c. clauses w a rest >>= λ cs. give (kernel.catch c.class c.local name.token c.block cs)}
      (clause_only w g class name (block w a x) b (λ r bad. ClausesBroken.of_clause standing.InClauses.here bad)
      (λ c inner is leads d same. from_weaker (λ r q. in_clause is_final class name x rest a b.scope inner.scope d.scope c r is leads same q) (f a d h.0)))
      (λ c b1 e1. from_bind {f = clauses w a rest} {g = λ cs. give (kernel.catch c.class c.local name.token c.block cs)}
      (from_weaker (λ r q. further is_final class name x rest a b.scope b1.scope r (leading (clause w class name (block w a x)) b c b1 e1) q) (k a b1 h.1)) (λ cs b2 e2. from_give))
    where
      in_clause : (is_final : Bool) (class name : Named) (x : Braced) (rest : Catches) (a : Around) (s inner there : Scope) (c : ℕ) (r : Refusal) → class_named w.table.classes class.name ≡ Some c →
          Leads (declaring name (class_type c) false) (opened s) inner → there ≡ inner → BlockBroken w a there x r → ClausesBroken w a s (catch is_final class name x rest) r
      in_clause is_final class name x rest a s inner there c r is leads same q =
          let Q : Scope → Type 0 = λ z. InBlock w a z x q.around q.there q.part in
          ClausesBroken.in_part (standing.InClause.here is leads (subst Q same q.stands)) q.broken

      further : (is_final : Bool) (class name : Named) (x : Braced) (rest : Catches) (a : Around) (s between : Scope) (r : Refusal) → Leads (clause w class name (block w a x)) s between → ClausesBroken w a between rest r →
          ClausesBroken w a s (catch is_final class name x rest) r
      further is_final class name x rest a s between r leads (ClausesBroken.in_part stands q) = ClausesBroken.in_part (standing.InClause.later leads stands) q
      further is_final class name x rest a s between r leads (ClausesBroken.of_clause stands bad) = ClausesBroken.of_clause (standing.InClauses.later leads stands) bad

  nowhere_case : ExplainsLast nowhere
  unfolding statement
  nowhere_case a b h = from_give

  finally_case : (x : Braced) → ExplainsBlock x → ExplainsLast (finally x)
  unfolding statement
  finally_case x f a b h = from_bind {f = block w a x} {g = λ y. give (kernel.this y)} (from_weaker (λ r q. of_finally q) (f a b h)) (λ y c is. from_give)

  bad_clause : (a : Around) (s there : Scope) (x : Statement) (class name : Named) (r : Refusal) → HasClause w a s x there class name → BadClause w there class name r → Missteps w a s x r.rule r.token
  bad_clause a s there x class name _ has (unknown e) = misstep.of_clause has e
  bad_clause a s there x class name _ has (again e) = misstep.again_caught has e
  bad_clause a s there x class name _ has (not_throwable e n) = misstep.caught has e n

  of_catches : (main : Braced) (catches : Catches) (last : Last) (token : ℕ) (a : Around) (s between : Scope) (r : Refusal) → Leads (block w (in_first_block a (number w token) catches) main) s between →
      ClausesBroken w (inside a (number w token)) between catches r → Blames w a s (Try main catches last token) r
  of_catches main catches last token a s between r leads (ClausesBroken.in_part stands q) = misstep.part (standing.HasPart.of_clause leads stands) q
  of_catches main catches last token a s between r leads (ClausesBroken.of_clause stands bad) = misstep.itself (bad_clause a s _ (Try main catches last token) _ _ r (standing.HasClause.of_try leads stands) bad)

  of_last : (main : Braced) (catches : Catches) (last : Last) (token : ℕ) (a : Around) (s between end : Scope) (r : Refusal) → Leads (block w (in_first_block a (number w token) catches) main) s between →
      Leads (clauses w (inside a (number w token)) catches) between end → LastBroken w (inside a (number w token)) end last r → Blames w a s (Try main catches last token) r
  of_last main catches _ token a s between end r leads on (of_finally q) = misstep.part (standing.HasPart.of_finally leads on q.stands) q.broken

  try_case : (main : Braced) (catches : Catches) (last : Last) (token : ℕ) → ExplainsBlock main → ExplainsCatches catches → ExplainsLast last → Explains (Try main catches last token)
  unfolding statement
  try_case main catches last token f k l a b h =
      let n : ℕ = number w token in
      let made : kernel.Statement → kernel.Catches → kernel.Other → Makes kernel.Statement = λ y cs z. give (plain w token true (kernel.Try y cs z)) in
      let first_block : Makes kernel.Statement = block w (in_first_block a n catches) main in
      from_bind {f = first_block} {g = λ y. clauses w (inside a n) catches >>= λ cs. last_block w (inside a n) last >>= λ z. made y cs z}
      (from_weaker (λ r q. misstep.part (standing.HasPart.of_try q.stands) q.broken) (f (in_first_block a n catches) b h.0))
      (λ y b1 e1. from_bind {f = clauses w (inside a n) catches} {g = λ cs. last_block w (inside a n) last >>= λ z. made y cs z}
      (from_weaker (λ r q. of_catches main catches last token a b.scope b1.scope r (leading first_block b y b1 e1) q) (k (inside a n) b1 h.1))
      (λ cs b2 e2. from_bind {f = last_block w (inside a n) last} {g = λ z. made y cs z}
      (from_weaker (λ r q. of_last main catches last token a b.scope b1.scope b2.scope r (leading first_block b y b1 e1) (leading (clauses w (inside a n) catches) b1 cs b2 e2) q) (l (inside a n) b2 h.2)) (λ z b3 e3. from_give)))

  -- ---- what is none

  misplaced_case : (is_final : Bool) (ty : WrittenType) (all : List Declarator) → Explains (Declare is_final ty all)
  misplaced_case is_final ty all a b h = absurd (let n : false ≡ true = h.0 in cc)

  unknown_case : Explains Unknown
  unknown_case a b h = absurd h

  absent_case : ExplainsOther absent
  unfolding statement
  absent_case a b h = from_give

  present_case : (x : Statement) → Explains x → ExplainsOther (present x)
  unfolding statement
  present_case x f a b h = from_bind {f = statement w a x} {g = λ y. give (kernel.this y)} (from_weaker (λ r q. of_present q) (f a b h)) (λ y c is. from_give)

  -- ---- all statements

  mutual
    pub explained : (x : Statement) → Explains x
    explained (Block b) = of_block_case b (block_explained b)
    explained (Empty token) = empty_case token
    explained (Declare is_final ty all) = misplaced_case is_final ty all
    explained (Perform e) = perform_case e
    explained (If test main other token) = if_case test main other token (explained main) (other_explained other)
    explained (While test body token) = while_case test body token (explained body)
    explained (Do body test token) = do_case body test token (explained body)
    explained (For init test updates body token) = for_case init test updates body token (explained body)
    explained (Labelled name body) = label_case name body (explained body)
    explained (Break label token) = break_case label token
    explained (Continue label token) = continue_case label token
    explained (Return value token) = return_case value token
    explained (Throw value token) = throw_case value token
    explained (Try main catches last token) = try_case main catches last token (block_explained main) (catches_explained catches) (last_explained last)
    explained Unknown = unknown_case

    local_explained : (x : Statement) → ExplainsLocal x
    local_explained (Declare is_final ty all) = declare_case is_final ty all
    local_explained (Block b) = local_by (Block b) (λ h. h) (of_block_case b (block_explained b))
    local_explained (Empty token) = local_by (Empty token) (λ h. h) (empty_case token)
    local_explained (Perform e) = local_by (Perform e) (λ h. h) (perform_case e)
    local_explained (If test main other token) = local_by (If test main other token) (λ h. h) (if_case test main other token (explained main) (other_explained other))
    local_explained (While test body token) = local_by (While test body token) (λ h. h) (while_case test body token (explained body))
    local_explained (Do body test token) = local_by (Do body test token) (λ h. h) (do_case body test token (explained body))
    local_explained (For init test updates body token) = local_by (For init test updates body token) (λ h. h) (for_case init test updates body token (explained body))
    local_explained (Labelled name body) = local_by (Labelled name body) (λ h. h) (label_case name body (explained body))
    local_explained (Break label token) = local_by (Break label token) (λ h. h) (break_case label token)
    local_explained (Continue label token) = local_by (Continue label token) (λ h. h) (continue_case label token)
    local_explained (Return value token) = local_by (Return value token) (λ h. h) (return_case value token)
    local_explained (Throw value token) = local_by (Throw value token) (λ h. h) (throw_case value token)
    local_explained (Try main catches last token) = local_by (Try main catches last token) (λ h. h) (try_case main catches last token (block_explained main) (catches_explained catches) (last_explained last))
    local_explained Unknown = local_by Unknown (λ h. h) unknown_case

    pub block_explained : (b : Braced) → ExplainsBlock b
    block_explained (braced brace parts end) = block_case brace parts end (row_explained parts)

    pub row_explained : (x : Statements) → ExplainsRow x
    row_explained done = done_case
    row_explained (first x rest) = first_case x rest (local_explained x) (row_explained rest)

    other_explained : (x : Other) → ExplainsOther x
    other_explained absent = absent_case
    other_explained (present x) = present_case x (explained x)

    last_explained : (x : Last) → ExplainsLast x
    last_explained nowhere = nowhere_case
    last_explained (finally b) = finally_case b (block_explained b)

    catches_explained : (x : Catches) → ExplainsCatches x
    catches_explained uncaught = uncaught_case
    catches_explained (catch is_final class name b rest) = catch_case is_final class name b rest (block_explained b) (catches_explained rest)

pub due : StatementRefusalsAreDue
due w g a x m rule token written h = (explained w g x a m written).at (refused rule token) h

pub block_due : BlockRefusalsAreDue
block_due w g a b m rule token written h =
    let k = (block_explained w g b a m written).at (refused rule token) h in
    record { around = k.around; there = k.there; part = k.part; stands = k.stands; broken = k.broken }
