-- The statements that are made of each written statement have the numbers and the sites of its places, in their order.
use Rattle.std.proofs.Common.{◌≡◌, ◌∙◌, refl, sym, ap, ℕ, Bool, true, false, List, [], ◌∷◌, ◌++◌}
use Rattle.std.specs.Prelude.{Option, Some, None, map, flat_map}
use Rattle.std.proofs.lemmas.List.{map-append, append-nil, append_assoc}
use Rattle.wy_kernel.specs.declared.types.Ty.{Ty}
use Rattle.wy_kernel.specs.Form as kernel
use Rattle.wy_kernel.specs.Subtyping.{class_type}
use Rattle.wy_kernel.specs.Statements as inner
use Rattle.wy_syntax.specs.Syntax.{Expression, Initial, Value, Listed, WrittenType, Named, Declarator, Effect, ForInit, Statement, Block, Empty, Declare, Perform, If, While, Do, For, Labelled, Break, Continue, Return, Throw, Try, Unknown, Braced, braced, Statements, done, first, Other, absent, present, Last, nowhere, finally, Catches, uncaught, catch}
use Rattle.wy_syntax.specs.Syntax as source
use Rattle.wy_constant.specs.declared.rule.Rule.TheVariants.{Duplicate, BadOperand, BadJump, BadReturn}
use Rattle.wy_elab_expr.specs.Elaboration.{type_written, with_brackets, initialized}
use Rattle.wy_elab_body.specs.declared.place.Place.{Place}
use Rattle.wy_elab_body.specs.Places.{written, number_at, declarator_places, effect_places, init_places, places, block_places, all_places, other_places, last_places, catch_places}
use Rattle.wy_elab_body.specs.Making.{Makes, give, refuse, ◌>>=◌, expressed, changed, declaring, each}
use Rattle.wy_elab_body.specs.Parts.{condition, performed, returned, returns_nothing, thrown, caught_class}
use Rattle.wy_elab_body.specs.Jumps.{Around, inside, in_loop, under_label, break_target, continue_target}
use Rattle.wy_elab_body.specs.Statements.{Setting, number, plain, testing, targets_in, other_targets_in, site_of, body_of_loop, number_of_body, constant_if, given_first, declarator, declarations, effect, effects, for_init, jumping, returning, row_of, joined, tested, looping, is_label, in_first_block, must_be_throwable, Clause, clause, is_declaration, declared, several, statement, other_statement, block, statements, last_block, clauses}
use Rattle.law_structure.proofs.Yields.{Yields, given, refused_at, and_then, behind, within_block, of_expressed, of_choice}
use Rattle.law_structure.proofs.Made.{Calm, performed_calm}

-- a statement by its number and its site
abbrev pub Mark : Type 0
Mark = ℕ × ℕ

abbrev pub mark_of : kernel.Statement → Mark
mark_of (kernel.Stmt number site askable reach act) = (number, site)

abbrev pub mark_at : Setting → Place → Mark
mark_at w q = (number_at w.places q, q.site)

-- these statements stand at these places
abbrev pub Marked : Setting → List Place → List kernel.Statement → Type 0
Marked w qs xs = map mark_of xs ≡ map (mark_at w) qs

pub both_marked : (w : Setting) (qs rs : List Place) (xs ys : List kernel.Statement) → Marked w qs xs → Marked w rs ys → Marked w (qs ++ rs) (xs ++ ys)
both_marked w qs rs xs ys h k = map-append mark_of xs ys ∙ (λ i. h i ++ k i) ∙ sym (map-append (mark_at w) qs rs)

pub three_marked : (w : Setting) (qs rs ss : List Place) (xs ys zs : List kernel.Statement) → Marked w qs xs → Marked w rs ys → Marked w ss zs → Marked w (qs ++ rs ++ ss) (xs ++ (ys ++ zs))
three_marked w qs rs ss xs ys zs h i j = both_marked w qs (rs ++ ss) xs (ys ++ zs) h (both_marked w rs ss ys zs i j) ∙ ap (map (mark_at w)) (sym (append_assoc qs rs ss))

pub head_marked : (w : Setting) (q : Place) (qs : List Place) (act : kernel.Act) → Marked w qs (inner.statements_within act) → mark_at w q ∷ map mark_of (inner.statements_within act) ≡ map (mark_at w) (q ∷ qs)
head_marked w q qs act h = ap (λ ms. mark_at w q ∷ ms) h

-- a statement and those within it stand at these places
abbrev pub Stands : Setting → List Place → kernel.Statement → Type 0
Stands w qs k = Marked w qs (inner.statements k)

abbrev pub AllStand : Setting → List Place → List kernel.Statement → Type 0
AllStand w qs ks = Marked w qs (flat_map inner.statements ks)

-- ---- what holds no other statement

calm_within : (act : kernel.Act) → Calm act → inner.statements_within act ≡ []
calm_within (kernel.Eval value) h = refl
calm_within (kernel.Print operand ty ends_line site) h = refl
calm_within (kernel.Block parts) h = absurd h
calm_within (kernel.Declare local) h = absurd h
calm_within (kernel.If test x y) h = absurd h
calm_within (kernel.While test x) h = absurd h
calm_within (kernel.Do x test) h = absurd h
calm_within (kernel.For inits test updates x) h = absurd h
calm_within (kernel.Labelled x) h = absurd h
calm_within (kernel.Jump target) h = absurd h
calm_within (kernel.Return value) h = absurd h
calm_within (kernel.Throw value) h = absurd h
calm_within (kernel.Try x catches y) h = absurd h

pub effect_stands : (w : Setting) (e : Effect) → Yields (effect w e) (Stands w (written e.token ∷ []))
unfolding effect
effect_stands w e =
    and_then (expressed (performed w.judgement w.table e.value)) (λ act. give (plain w e.token true act)) Calm (Stands w (written e.token ∷ []))
    (of_expressed (performed w.judgement w.table e.value) Calm (performed_calm w.judgement w.table e.value))
    (λ act h. given (Stands w (written e.token ∷ [])) (plain w e.token true act) (ap (λ xs. mark_at w (written e.token) ∷ map mark_of xs) (calm_within act h)))

each_stands : {D : Type 0} (w : Setting) (f : D → Makes kernel.Statement) (q : D → Place) → ((d : D) → Yields (f d) (Stands w (q d ∷ []))) → (ds : List D) → Yields (each f ds) (AllStand w (map q ds))
unfolding each
each_stands w f q h [] = given (AllStand w []) [] refl
each_stands w f q h (d ∷ rest) =
    and_then (f d) _ (Stands w (q d ∷ [])) (AllStand w (q d ∷ map q rest)) (h d) (λ x i.
    and_then (each f rest) _ (AllStand w (map q rest)) (AllStand w (q d ∷ map q rest)) (each_stands w f q h rest) (λ xs j.
    given (AllStand w (q d ∷ map q rest)) (x ∷ xs) (both_marked w (q d ∷ []) (map q rest) (inner.statements x) (flat_map inner.statements xs) i j)))

effects_stand : (w : Setting) (all : List Effect) → Yields (effects w all) (AllStand w (effect_places all))
effects_stand w all = each_stands w (effect w) (λ (e : Effect). written e.token) (effect_stands w) all

-- ---- declarations

given_first_stands : (w : Setting) (is_final : Bool) (ty : Ty) (k : ℕ) (n : Named) (i : Option Initial) → Yields (given_first w is_final ty k n i) (Stands w (written n.token ∷ []))
given_first_stands w is_final ty k n None = given (Stands w (written n.token ∷ [])) (plain w n.token true (kernel.Declare k)) refl
given_first_stands w is_final ty k n (Some i) =
    behind (expressed (λ s. initialized w.judgement w.table s ty i n.token)) (λ e. changed (constant_if is_final w.table ty i) >>= λ fixed. give (plain w n.token true (kernel.Eval (kernel.Set (kernel.Local k) e n.token)))) (Stands w (written n.token ∷ []))
    (λ e. behind (changed (constant_if is_final w.table ty i)) (λ fixed. give (plain w n.token true (kernel.Eval (kernel.Set (kernel.Local k) e n.token)))) (Stands w (written n.token ∷ []))
    (λ fixed. given (Stands w (written n.token ∷ [])) (plain w n.token true (kernel.Eval (kernel.Set (kernel.Local k) e n.token))) refl))

declarator_stands : (w : Setting) (is_final : Bool) (ty : Ty) (d : Declarator) → Yields (declarator w is_final ty d) (Stands w (written d.name.token ∷ []))
unfolding declarator
declarator_stands w is_final ty d = behind (declaring d.name (with_brackets ty d.brackets) _) (λ k. given_first w is_final (with_brackets ty d.brackets) k d.name d.initial) (Stands w (written d.name.token ∷ [])) (λ k. given_first_stands w is_final (with_brackets ty d.brackets) k d.name d.initial)

declarations_stand : (w : Setting) (is_final : Bool) (ty : WrittenType) (all : List Declarator) → Yields (declarations w is_final ty all) (AllStand w (declarator_places all))
unfolding declarations
declarations_stand w is_final ty all =
    behind (expressed (λ s. type_written w.table ty)) (λ t. each (declarator w is_final t) all) (AllStand w (declarator_places all)) (λ t.
    each_stands w (declarator w is_final t) (λ (d : Declarator). written d.name.token) (declarator_stands w is_final t) all)

init_stands : (w : Setting) (i : ForInit) → Yields (for_init w i) (AllStand w (init_places i))
unfolding for_init
init_stands w source.ForInit.Nothing = given (AllStand w []) [] refl
init_stands w (source.ForInit.Declared is_final ty all) = declarations_stand w is_final ty all
init_stands w (source.ForInit.Effects all) = effects_stand w all

-- ---- rows

row_is : (xs : List kernel.Statement) → inner.statements_of_all (row_of xs) ≡ flat_map inner.statements xs
row_is [] = refl
row_is (x ∷ rest) = ap (λ ys. inner.statements x ++ ys) (row_is rest)

joined_is : (xs : List kernel.Statement) (rest : kernel.Statements) → inner.statements_of_all (joined xs rest) ≡ flat_map inner.statements xs ++ inner.statements_of_all rest
joined_is [] rest = refl
joined_is (x ∷ more) rest = ap (λ ys. inner.statements x ++ ys) (joined_is more rest) ∙ sym (append_assoc (inner.statements x) (flat_map inner.statements more) (inner.statements_of_all rest))

pub row_stands : (w : Setting) (qs : List Place) (xs : List kernel.Statement) → AllStand w qs xs → Marked w qs (inner.statements_of_all (row_of xs))
row_stands w qs xs h = ap (map mark_of) (row_is xs) ∙ h

pub joined_stands : (w : Setting) (qs rs : List Place) (xs : List kernel.Statement) (rest : kernel.Statements) → AllStand w qs xs → Marked w rs (inner.statements_of_all rest) → Marked w (qs ++ rs) (inner.statements_of_all (joined xs rest))
joined_stands w qs rs xs rest h i = ap (map mark_of) (joined_is xs rest) ∙ both_marked w qs rs (flat_map inner.statements xs) (inner.statements_of_all rest) h i

pub one_stands : (w : Setting) (qs : List Place) (x : kernel.Statement) → Stands w qs x → AllStand w qs (x ∷ [])
one_stands w qs x h = ap (map mark_of) (append-nil (inner.statements x)) ∙ h

pub alone_stands : (w : Setting) (qs : List Place) (made : Makes kernel.Statement) → Yields made (Stands w qs) → Yields (made >>= λ x. give (x ∷ [])) (AllStand w qs)
alone_stands w qs made h = and_then made (λ x. give (x ∷ [])) (Stands w qs) (AllStand w qs) h (λ x i. given (AllStand w qs) (x ∷ []) (one_stands w qs x i))

several_stand : (w : Setting) (s : Statement) (made : Makes kernel.Statement) → Yields made (Stands w (places s)) → Yields (several w s made) (AllStand w (places s))
unfolding is_declaration declared places
several_stand w (Declare is_final ty all) made h = declarations_stand w is_final ty all
several_stand w (Block b) made h = alone_stands w (places (Block b)) made h
several_stand w (Empty token) made h = alone_stands w (places (Empty token)) made h
several_stand w (Perform e) made h = alone_stands w (places (Perform e)) made h
several_stand w (If test main other token) made h = alone_stands w (places (If test main other token)) made h
several_stand w (While test body token) made h = alone_stands w (places (While test body token)) made h
several_stand w (Do body test token) made h = alone_stands w (places (Do body test token)) made h
several_stand w (For init test updates body token) made h = alone_stands w (places (For init test updates body token)) made h
several_stand w (Labelled name body) made h = alone_stands w (places (Labelled name body)) made h
several_stand w (Break label token) made h = alone_stands w (places (Break label token)) made h
several_stand w (Continue label token) made h = alone_stands w (places (Continue label token)) made h
several_stand w (Return value token) made h = alone_stands w (places (Return value token)) made h
several_stand w (Throw value token) made h = alone_stands w (places (Throw value token)) made h
several_stand w (Try main catches last token) made h = alone_stands w (places (Try main catches last token)) made h
several_stand w Unknown made h = alone_stands w (places Unknown) made h

-- ---- jumps and tests

jumping_stands : (w : Setting) (target : Option ℕ) (token : ℕ) → Yields (jumping w target token) (Stands w (written token ∷ []))
jumping_stands w None token = refused_at (Stands w (written token ∷ [])) BadJump token
jumping_stands w (Some n) token = given (Stands w (written token ∷ [])) (plain w token true (kernel.Jump n)) refl

returning_stands : (w : Setting) (a : Around) (value : Option Expression) (token : ℕ) → Yields (returning w a value token) (Stands w (written token ∷ []))
returning_stands w a None token =
    of_choice (returns_nothing a.outcome) (give (plain w token true (kernel.Return kernel.absent))) (refuse BadReturn token) (Stands w (written token ∷ []))
    (given (Stands w (written token ∷ [])) (plain w token true (kernel.Return kernel.absent)) refl) (refused_at (Stands w (written token ∷ [])) BadReturn token)
returning_stands w a (Some e) token =
    behind (expressed (returned w.judgement w.table a.outcome e token)) (λ v. give (plain w token true (kernel.Return (kernel.the v)))) (Stands w (written token ∷ []))
    (λ v. given (Stands w (written token ∷ [])) (plain w token true (kernel.Return (kernel.the v))) refl)

looping_stands : (w : Setting) (a : Around) (site : ℕ) (test : kernel.Part) (guarded : List ℕ) (act : kernel.Act) (qs : List Place) → Marked w qs (inner.statements_within act) → Stands w (written site ∷ qs) (looping w a site test guarded act)
looping_stands w a site kernel.absent guarded act qs h = ap (λ ms. mark_at w (written site) ∷ ms) h
looping_stands w a site (kernel.the c) guarded act qs h = ap (λ ms. mark_at w (written site) ∷ ms) h

-- ---- the table

abbrev ClauseStands : Setting → List Place → Clause → Type 0
ClauseStands w qs c = Stands w qs c.block

clause_stands : (w : Setting) (qs : List Place) (class name : Named) (b : Makes kernel.Statement) → Yields b (Stands w qs) → Yields (clause w class name b) (ClauseStands w qs)
unfolding clause
clause_stands w qs class name b h =
    within_block _ (ClauseStands w qs)
    (behind (expressed (caught_class w.judgement w.table class name.token)) _ (ClauseStands w qs) (λ c.
    behind (declaring name (class_type c) false) _ (ClauseStands w qs) (λ k.
    behind (must_be_throwable w c name.token) _ (ClauseStands w qs) (λ throwable.
    and_then b _ (Stands w qs) (ClauseStands w qs) h (λ x i. given (ClauseStands w qs) (record { class = c; local = k; block = x }) i)))))

abbrev OtherStands : Setting → List Place → kernel.Other → Type 0
OtherStands w qs x = Marked w qs (inner.statements_of_other x)

abbrev pub RowStands : Setting → List Place → kernel.Statements → Type 0
RowStands w qs x = Marked w qs (inner.statements_of_all x)

abbrev CatchesStand : Setting → List Place → kernel.Catches → Type 0
CatchesStand w qs x = Marked w qs (inner.statements_of_catches x)

mutual
  unfolding statement other_statement block statements last_block clauses places block_places all_places other_places last_places catch_places

  pub statement_stands : (w : Setting) (a : Around) (s : Statement) → Yields (statement w a s) (Stands w (places s))
  statement_stands w a (Block b) = block_stands w a b
  statement_stands w a (Empty token) = given (Stands w (written token ∷ [])) (plain w token true (kernel.Block kernel.done)) refl
  statement_stands w a (Declare is_final ty all) = refused_at (Stands w (declarator_places all)) BadOperand 0
  statement_stands w a (Perform e) = effect_stands w e
  statement_stands w a (If test main other token) =
      behind (expressed (condition w.judgement w.table test token)) _ (Stands w (places (If test main other token))) (λ c.
      and_then (statement w (inside a (number w token)) main) _ (Stands w (places main)) (Stands w (places (If test main other token))) (statement_stands w (inside a (number w token)) main) (λ x h.
      and_then (other_statement w (inside a (number w token)) other) _ (OtherStands w (other_places other)) (Stands w (places (If test main other token))) (other_stands w (inside a (number w token)) other) (λ y i.
      given (Stands w (places (If test main other token))) (testing w a token (targets_in a x ++ other_targets_in a y) (kernel.If c x y))
      (head_marked w (written token) (places main ++ other_places other) (kernel.If c x y) (both_marked w (places main) (other_places other) (inner.statements x) (inner.statements_of_other y) h i)))))
  statement_stands w a (While test body token) =
      behind (expressed (condition w.judgement w.table test token)) _ (Stands w (written token ∷ places body)) (λ c.
      and_then (statement w (in_loop a (number w token) (number w (site_of body))) body) _ (Stands w (places body)) (Stands w (written token ∷ places body)) (statement_stands w (in_loop a (number w token) (number w (site_of body))) body) (λ x h.
      given (Stands w (written token ∷ places body)) (testing w a token (targets_in a x) (kernel.While c x)) (head_marked w (written token) (places body) (kernel.While c x) h)))
  statement_stands w a (Do body test token) =
      and_then (statement w (in_loop a (number w token) (number w (site_of body))) body) _ (Stands w (places body)) (Stands w (written token ∷ places body)) (statement_stands w (in_loop a (number w token) (number w (site_of body))) body) (λ x h.
      behind (expressed (condition w.judgement w.table test token)) _ (Stands w (written token ∷ places body)) (λ c.
      given (Stands w (written token ∷ places body)) (testing w a token (targets_in a x) (kernel.Do x c)) (head_marked w (written token) (places body) (kernel.Do x c) h)))
  statement_stands w a (For init test updates body token) =
      within_block _ (Stands w (places (For init test updates body token)))
      (and_then (for_init w init) _ (AllStand w (init_places init)) (Stands w (places (For init test updates body token))) (init_stands w init) (λ is hi.
      behind (tested w test token) _ (Stands w (places (For init test updates body token))) (λ c.
      and_then (effects w updates) _ (AllStand w (effect_places updates)) (Stands w (places (For init test updates body token))) (effects_stand w updates) (λ us hu.
      and_then (statement w (in_loop a (number w token) (number w (site_of body))) body) _ (Stands w (places body)) (Stands w (places (For init test updates body token))) (statement_stands w (in_loop a (number w token) (number w (site_of body))) body) (λ x h.
      given (Stands w (places (For init test updates body token))) (looping w a token c (targets_in a x) (kernel.For (row_of is) c (row_of us) x))
      (looping_stands w a token c (targets_in a x) (kernel.For (row_of is) c (row_of us) x) (init_places init ++ effect_places updates ++ places body)
      (three_marked w (init_places init) (effect_places updates) (places body) (inner.statements_of_all (row_of is)) (inner.statements_of_all (row_of us)) (inner.statements x)
      (row_stands w (init_places init) is hi) (row_stands w (effect_places updates) us hu) h)))))))
  statement_stands w a (Labelled name body) =
      of_choice (is_label a name.name) (refuse Duplicate name.token) _ (Stands w (written name.token ∷ places body)) (refused_at (Stands w (written name.token ∷ places body)) Duplicate name.token)
      (and_then (statement w (under_label a name.name (number w name.token) (number_of_body w (body_of_loop body))) body) _ (Stands w (places body)) (Stands w (written name.token ∷ places body))
      (statement_stands w (under_label a name.name (number w name.token) (number_of_body w (body_of_loop body))) body) (λ x h.
      given (Stands w (written name.token ∷ places body)) (plain w name.token true (kernel.Labelled x)) (head_marked w (written name.token) (places body) (kernel.Labelled x) h)))
  statement_stands w a (Break label token) = jumping_stands w (break_target a label) token
  statement_stands w a (Continue label token) = jumping_stands w (continue_target a label) token
  statement_stands w a (Return value token) = returning_stands w a value token
  statement_stands w a (Throw value token) =
      behind (expressed (thrown w.judgement w.table value token)) _ (Stands w (written token ∷ [])) (λ v. given (Stands w (written token ∷ [])) (plain w token true (kernel.Throw v)) refl)
  statement_stands w a (Try main catches last token) =
      and_then (block w (in_first_block a (number w token) catches) main) _ (Stands w (block_places main)) (Stands w (places (Try main catches last token))) (block_stands w (in_first_block a (number w token) catches) main) (λ x h.
      and_then (clauses w (inside a (number w token)) catches) _ (CatchesStand w (catch_places catches)) (Stands w (places (Try main catches last token))) (clauses_stand w (inside a (number w token)) catches) (λ cs i.
      and_then (last_block w (inside a (number w token)) last) _ (OtherStands w (last_places last)) (Stands w (places (Try main catches last token))) (last_stands w (inside a (number w token)) last) (λ y j.
      given (Stands w (places (Try main catches last token))) (plain w token true (kernel.Try x cs y))
      (head_marked w (written token) (block_places main ++ catch_places catches ++ last_places last) (kernel.Try x cs y)
      (three_marked w (block_places main) (catch_places catches) (last_places last) (inner.statements x) (inner.statements_of_catches cs) (inner.statements_of_other y) h i j)))))
  statement_stands w a Unknown = refused_at (Stands w []) BadOperand 0

  other_stands : (w : Setting) (a : Around) (s : Other) → Yields (other_statement w a s) (OtherStands w (other_places s))
  other_stands w a absent = given (OtherStands w []) kernel.nothing refl
  other_stands w a (present s) = and_then (statement w a s) _ (Stands w (places s)) (OtherStands w (places s)) (statement_stands w a s) (λ x h. given (OtherStands w (places s)) (kernel.this x) h)

  pub block_stands : (w : Setting) (a : Around) (b : Braced) → Yields (block w a b) (Stands w (block_places b))
  block_stands w a (braced brace parts end) =
      within_block _ (Stands w (written brace ∷ all_places parts))
      (and_then (statements w (inside a (number w brace)) parts) _ (RowStands w (all_places parts)) (Stands w (written brace ∷ all_places parts)) (statements_stand w (inside a (number w brace)) parts) (λ xs h.
      given (Stands w (written brace ∷ all_places parts)) (plain w brace false (kernel.Block xs)) (head_marked w (written brace) (all_places parts) (kernel.Block xs) h)))

  pub statements_stand : (w : Setting) (a : Around) (s : Statements) → Yields (statements w a s) (RowStands w (all_places s))
  statements_stand w a done = given (RowStands w []) kernel.done refl
  statements_stand w a (first s rest) =
      and_then (several w s (statement w a s)) _ (AllStand w (places s)) (RowStands w (places s ++ all_places rest)) (several_stand w s (statement w a s) (statement_stands w a s)) (λ xs h.
      and_then (statements w a rest) _ (RowStands w (all_places rest)) (RowStands w (places s ++ all_places rest)) (statements_stand w a rest) (λ ys i.
      given (RowStands w (places s ++ all_places rest)) (joined xs ys) (joined_stands w (places s) (all_places rest) xs ys h i)))

  last_stands : (w : Setting) (a : Around) (s : Last) → Yields (last_block w a s) (OtherStands w (last_places s))
  last_stands w a nowhere = given (OtherStands w []) kernel.nothing refl
  last_stands w a (finally b) = and_then (block w a b) _ (Stands w (block_places b)) (OtherStands w (block_places b)) (block_stands w a b) (λ x h. given (OtherStands w (block_places b)) (kernel.this x) h)

  clauses_stand : (w : Setting) (a : Around) (s : Catches) → Yields (clauses w a s) (CatchesStand w (catch_places s))
  clauses_stand w a uncaught = given (CatchesStand w []) kernel.uncaught refl
  clauses_stand w a (catch is_final class name b rest) =
      and_then (clause w class name (block w a b)) _ (ClauseStands w (block_places b)) (CatchesStand w (block_places b ++ catch_places rest)) (clause_stands w (block_places b) class name (block w a b) (block_stands w a b)) (λ c h.
      and_then (clauses w a rest) _ (CatchesStand w (catch_places rest)) (CatchesStand w (block_places b ++ catch_places rest)) (clauses_stand w a rest) (λ cs i.
      given (CatchesStand w (block_places b ++ catch_places rest)) (kernel.catch c.class c.local name.token c.block cs) (both_marked w (block_places b) (catch_places rest) (inner.statements c.block) (inner.statements_of_catches cs) h i)))
