-- Each statement becomes one whose forms fit the types of the body.
use Rattle.std.proofs.Common.{◌≡◌, ℕ, ◌<◌, Bool, true, false, refl, sym, ◌∙◌, ap, subst, List, [], ◌∷◌, ◌++◌, length, map, find, cond, Option, Some, None, Result, Ok, Err, arith, inl, inr, if◌then◌else◌, ◌&&◌}
use Rattle.std.specs.Prelude.{slice_get, option_map, option_and_then, is_some}
use Rattle.std.specs.List.{AllByRecursion, Contains}
use Rattle.std.proofs.lemmas.Option.{slice_get_within}
use Rattle.std.proofs.lemmas.List.Elements.{All-contains, All-from_recursion}
use Rattle.wy_kernel.specs.declared.types.Base.TheVariants.{Primitive as Basic, Class as Named_class}
use Rattle.wy_kernel.specs.declared.types.Ty.{Ty}
use Rattle.wy_kernel.specs.declared.types.Ty.TheVariants.{Void, Null, Of}
use Rattle.wy_kernel.specs.Form as kernel
use Rattle.wy_kernel.specs.Builtin.{throwable_class}
use Rattle.wy_kernel.specs.Program.{Program}
use Rattle.wy_kernel.specs.Subtyping.{Below, class_type}
use Rattle.wy_kernel.specs.Table.{Table, ConstantValue}
use Rattle.wy_syntax.specs.Syntax.{Expression, Initial, Value, Listed, WrittenType, Named, Declarator, Effect, ForInit, Statement, Block, Empty, Declare, Perform, If, While, Do, For, Labelled, Break, Continue, Return, Throw, Try, Unknown, Braced, braced, Statements, done, first, Other, absent, present, Last, nowhere, finally, Catches, uncaught, catch}
use Rattle.wy_syntax.specs.Syntax as source
use Rattle.wy_constant.specs.declared.rule.Rule.TheVariants.{Duplicate, BadOperand, BadJump, BadReturn, UnknownName}
use Rattle.wy_constant.specs.Refusal.{Refusal}
use Rattle.wy_constant.specs.Scope.{Scope, FixedText}
use Rattle.wy_constant.specs.Fields.{class_named}
use Rattle.wy_elab_expr.specs.Meaning.{Gets}
use Rattle.wy_elab_expr.specs.Operators.{Judgement, boolean_type}
use Rattle.wy_elab_expr.specs.Elaboration.{class_for_new, type_written, type_with, named_type, with_brackets, initialized}
use Rattle.wy_elab_body.specs.declared.place.Place.{Place}
use Rattle.wy_elab_body.specs.Places.{written, places, block_places, all_places, other_places, last_places, catch_places, init_places, declarator_places, effect_places}
use Rattle.wy_elab_body.specs.Making.{Making, Makes, give, ◌>>=◌, expressed, changed, declaring, each}
use Rattle.wy_elab_body.specs.Parts.{condition, performed, returned, returns_nothing, thrown, caught_class, is_throwable, Outcome, NoValue, ValueOf, NoReturn}
use Rattle.wy_elab_body.specs.Jumps.{Around, alone, Loop, Label, inside, in_loop, under_label, in_try, is_labelled, label_named, break_target, continue_target}
use Rattle.wy_elab_body.specs.Statements.{Setting, number, plain, testing, targets_in, other_targets_in, site_of, body_of_loop, number_of_body, value_of_initial, constant_if, given_first, declarator, declarations, effect, effects, for_init, jumping, returning, row_of, joined, tested, looping, is_label, in_first_block, must_be_throwable, Clause, clause, is_declaration, declared, several, statement, other_statement, block, statements, last_block, clauses}
use Rattle.wy_typing.specs.Expressions as typing
use Rattle.wy_typing.specs.Expressions.{HasType, Gives}
use Rattle.wy_typing.specs.Statements.{Within, IsOf, IsNumbered, IsTest, IsResult, MayCatch, IsTyped, Acts, OtherTyped, AllTyped, CatchesTyped}
use Rattle.wy_typing.specs.Programs.{IsTypeIn}
use Rattle.law_typed.specs.ExpressionsWritten.{IsWritten}
use Rattle.law_typed.specs.ExpressionsTyped.{table_of, Stands}
use Rattle.law_typed.proofs.Bringing.{the_same, nothing_there, none_of}
use Rattle.law_typed.proofs.Finding.{class_within}
use Rattle.law_typed.proofs.Operations.{below}
use Rattle.law_typed.proofs.Inducting.{initial}
use Rattle.law_typed.proofs.Sequence.{Sound}
use Rattle.law_typed.proofs.Sequence as found
use Rattle.law_typed.specs.StatementsWritten.{PartWritten, OptionWritten, DeclaratorsWritten, EffectsWritten, InitsWritten, IsNoDeclaration, StatementWritten, BlockWritten, AllWritten, OtherWritten, LastWritten, CatchesWritten}
use Rattle.law_typed.specs.StatementsTyped.{setting, Makes as MakesProgram, result_of, OutcomeFits, AreAmong}
use Rattle.law_typed.proofs.Steps as steps
use Rattle.law_typed.proofs.Steps.{Sure, all_behind}
use Rattle.law_typed.proofs.Numbers.{number_below, reach_among}
use Rattle.law_typed.proofs.Parting as parts

pub of_contained : {X : Type 0} (P : X → Type 0) (xs : List X) (x : X) → AllByRecursion P xs → Contains xs x → P x
of_contained P xs x h c = All-contains P xs x (All-from_recursion P xs h) c

of_map : {X Y : Type 0} (P : Y → Type 0) (f : X → Y) (xs : List X) → AllByRecursion P (map f xs) → AllByRecursion (λ x. P (f x)) xs
of_map P f [] h = tt
of_map P f (x ∷ xs) h = (h.0, of_map P f xs h.1)

pub of_front : {X : Type 0} (P : X → Type 0) (xs ys : List X) → AllByRecursion P (xs ++ ys) → AllByRecursion P xs
of_front P [] ys h = tt
of_front P (x ∷ xs) ys h = (h.0, of_front P xs ys h.1)

pub of_back : {X : Type 0} (P : X → Type 0) (xs ys : List X) → AllByRecursion P (xs ++ ys) → AllByRecursion P ys
of_back P [] ys h = h
of_back P (x ∷ xs) ys h = of_back P xs ys h.1

pub with_more : (p : Program) (ty : Ty) (k : ℕ) → IsTypeIn p ty → IsTypeIn p (with_brackets ty k)
with_more p Void k h = h
with_more p Null k h = h
with_more p (Of (Named_class c) m) k h = record { variable = tt; known = h.known }
with_more p (Of (Basic q) m) k h = record { variable = tt; known = tt }

module _ (p : Program) (constants : List (Option ConstantValue)) (j : Judgement) (all : List Place) (L : List Ty) (class : ℕ) (has_this : Bool) (outcome : Outcome) (made : MakesProgram p constants j all) (fitting : OutcomeFits outcome) where
  abbrev T : Table
  T = table_of p constants

  abbrev w : Setting
  w = setting p constants j all

  -- where the statements stand
  abbrev pub W : Within
  W = record { program = p; locals = L; result = result_of outcome }

  abbrev pub TypedIn : kernel.Statement → Type 0
  TypedIn = IsTyped W

  -- where K and R speak of what is known of what is made before the whole body is
  abbrev Surely : {A : Type 0} → Type 0 → (A → Type 0) → Type 0 → (A → Type 0) → Makes A → Type 0
  Surely K R H Q f = Sure p constants j L class has_this K R H Q f

  abbrev Nothing_known : {A : Type 0} → A → Type 0
  Nothing_known x = Unit {0}

  -- ---- numbers

  pub numbered : (site : ℕ) → Contains all (written site) → IsNumbered W (number w site)
  numbered site h = let lt = number_below all (written site) h in omega (arith, lt, made.statements)

  pub plain_typed : (site : ℕ) (askable : Bool) (act : kernel.Act) → Contains all (written site) → Acts W act → IsTyped W (plain w site askable act)
  plain_typed site askable act h k = (numbered site h, inl refl, k)

  abbrev LoopFits : Option Loop → Type 0
  LoopFits None = Unit {0}
  LoopFits (Some l) = IsNumbered W l.number × IsNumbered W l.body

  abbrev IfNumbered : Option ℕ → Type 0
  IfNumbered None = Unit {0}
  IfNumbered (Some k) = IsNumbered W k

  abbrev LabelFits : Label → Type 0
  LabelFits l = IsNumbered W l.number × IfNumbered l.loop_body

  -- what stands around a statement has numbers of statements
  pub record AroundFits (a : Around) : Type 0 where
    pub enclosing : AllByRecursion (IsNumbered W) a.enclosing
    pub loop : LoopFits a.innermost_loop
    pub labels : AllByRecursion LabelFits a.labels
    pub same_outcome : a.outcome ≡ outcome

  pub alone_fits : (k : ℕ) → AroundFits (alone k outcome)
  alone_fits k = record { enclosing = tt; loop = tt; labels = tt; same_outcome = refl }

  pub inside_fits : (a : Around) (k : ℕ) → AroundFits a → IsNumbered W k → AroundFits (inside a k)
  inside_fits a k h lt = record { enclosing = all_behind (IsNumbered W) a.enclosing k h.enclosing lt; loop = h.loop; labels = h.labels; same_outcome = h.same_outcome }

  loop_fits : (a : Around) (k b : ℕ) → AroundFits a → IsNumbered W k → IsNumbered W b → AroundFits (in_loop a k b)
  loop_fits a k b h lt le = record { enclosing = all_behind (IsNumbered W) a.enclosing k h.enclosing lt; loop = (lt, le); labels = h.labels; same_outcome = h.same_outcome }

  label_fits : (a : Around) (name : List ℕ) (k : ℕ) (b : Option ℕ) → AroundFits a → IsNumbered W k → IfNumbered b → AroundFits (under_label a name k b)
  label_fits a name k b h lt le = record { enclosing = all_behind (IsNumbered W) a.enclosing k h.enclosing lt; loop = h.loop; labels = all_behind LabelFits a.labels (record { name = name; number = k; loop_body = b }) h.labels (lt, le); same_outcome = h.same_outcome }

  try_fits : (a : Around) (k : ℕ) → AroundFits a → IsNumbered W k → AroundFits (in_try a k)
  try_fits a k h lt = record { enclosing = all_behind (IsNumbered W) a.enclosing k h.enclosing lt; loop = h.loop; labels = h.labels; same_outcome = h.same_outcome }

  first_fits : (a : Around) (k : ℕ) (cs : Catches) → AroundFits a → IsNumbered W k → AroundFits (in_first_block a k cs)
  first_fits a k uncaught h lt = inside_fits a k h lt
  first_fits a k (catch is_final c name b rest) h lt = try_fits a k h lt

  testing_typed : (a : Around) (site : ℕ) (guarded : List ℕ) (act : kernel.Act) → AroundFits a → Contains all (written site) → Acts W act → IsTyped W (testing w a site guarded act)
  testing_typed a site guarded act h c k = (numbered site c, inr (reach_among (IsNumbered W) a (number w site) guarded h.enclosing (numbered site c)), k)

  looping_typed : (a : Around) (site : ℕ) (test : kernel.Part) (guarded : List ℕ) (act : kernel.Act) → AroundFits a → Contains all (written site) → Acts W act → IsTyped W (looping w a site test guarded act)
  looping_typed a site kernel.absent guarded act h c k = plain_typed site true act c k
  looping_typed a site (kernel.the e) guarded act h c k = testing_typed a site guarded act h c k

  -- ---- sites

  site_among : (s : Statement) → IsNoDeclaration s → AreAmong all (places s) → Contains all (written (site_of s))
  unfolding places site_of
  site_among (Block (braced brace parts end)) h c = c.0
  site_among (Empty token) h c = c.0
  site_among (Declare is_final ty ds) h c = absurd h
  site_among (Perform e) h c = c.0
  site_among (If test main other token) h c = c.0
  site_among (While test body token) h c = c.0
  site_among (Do body test token) h c = c.0
  site_among (For init test updates body token) h c = c.0
  site_among (Labelled name body) h c = c.0
  site_among (Break label token) h c = c.0
  site_among (Continue label token) h c = c.0
  site_among (Return value token) h c = c.0
  site_among (Throw value token) h c = c.0
  site_among (Try main catches last token) h c = c.0
  site_among Unknown h c = absurd h

  body_numbered : (s : Statement) → StatementWritten s → AreAmong all (places s) → IfNumbered (number_of_body w (body_of_loop s))
  unfolding places body_of_loop
  body_numbered (While test body token) h c = numbered (site_of body) (site_among body h.1 c.1)
  body_numbered (Do body test token) h c = numbered (site_of body) (site_among body h.0 c.1)
  body_numbered (For init test updates body token) h c = numbered (site_of body) (site_among body h.3 (of_back (Contains all) (init_places init ++ effect_places updates) (places body) c.1))
  body_numbered _ h c = tt

  -- ---- targets

  found_label : (f : Label → Bool) (ls : List Label) (l : Label) → AllByRecursion LabelFits ls → find f ls ≡ Some l → LabelFits l
  found_label f [] l h e = nothing_there e
  found_label f (x ∷ xs) l h e = found_one x l (f x) (find f xs) h.0 e (found_label f xs l h.1)
    where
      found_one : (x l : Label) (b : Bool) (rest : Option Label) → LabelFits x → cond b (Some x) rest ≡ Some l → (rest ≡ Some l → LabelFits l) → LabelFits l
      found_one x l true rest h e k = subst LabelFits (the_same e) h
      found_one x l false rest h e k = k e

  in_label : (o : Option Label) (k : ℕ) → ((l : Label) → o ≡ Some l → LabelFits l) → option_map (λ (l : Label). l.number) o ≡ Some k → IsNumbered W k
  in_label (Some l) k h e = subst (IsNumbered W) (the_same e) (h l refl).0
  in_label None k h e = nothing_there e

  in_label_body : (o : Option Label) (k : ℕ) → ((l : Label) → o ≡ Some l → LabelFits l) → option_and_then (λ (l : Label). l.loop_body) o ≡ Some k → IsNumbered W k
  in_label_body (Some l) k h e = subst IfNumbered e (h l refl).1
  in_label_body None k h e = nothing_there e

  in_loop_number : (o : Option Loop) (k : ℕ) → LoopFits o → option_map (λ (l : Loop). l.number) o ≡ Some k → IsNumbered W k
  in_loop_number (Some l) k h e = subst (IsNumbered W) (the_same e) h.0
  in_loop_number None k h e = nothing_there e

  in_loop_body : (o : Option Loop) (k : ℕ) → LoopFits o → option_map (λ (l : Loop). l.body) o ≡ Some k → IsNumbered W k
  in_loop_body (Some l) k h e = subst (IsNumbered W) (the_same e) h.1
  in_loop_body None k h e = nothing_there e

  break_numbered : (a : Around) (label : Option Named) (k : ℕ) → AroundFits a → break_target a label ≡ Some k → IsNumbered W k
  unfolding break_target label_named
  break_numbered a None k h e = in_loop_number a.innermost_loop k h.loop e
  break_numbered a (Some n) k h e = in_label (find (is_labelled n.name) a.labels) k (λ l is. found_label (is_labelled n.name) a.labels l h.labels is) e

  continue_numbered : (a : Around) (label : Option Named) (k : ℕ) → AroundFits a → continue_target a label ≡ Some k → IsNumbered W k
  unfolding continue_target label_named
  continue_numbered a None k h e = in_loop_body a.innermost_loop k h.loop e
  continue_numbered a (Some n) k h e = in_label_body (find (is_labelled n.name) a.labels) k (λ l is. found_label (is_labelled n.name) a.labels l h.labels is) e

  jump_sure : {H : Type 0} (o : Option ℕ) (token : ℕ) → Contains all (written token) → ((k : ℕ) → o ≡ Some k → IsNumbered W k) → Surely Unit Nothing_known H (IsTyped W) (jumping w o token)
  jump_sure (Some k) token c h = steps.given p constants j L class has_this (plain w token true (kernel.Jump k)) (λ y. tt) (λ y u. plain_typed token true (kernel.Jump k) c (h k refl))
  jump_sure None token c h = steps.none_made p constants j L class has_this BadJump token

  -- ---- written types and variables

  type_given : (name : List ℕ) (o : Option ℕ) (brackets token : ℕ) (texts : List FixedText) → class_named p.classes name ≡ o → steps.IsGiven p constants j L class has_this (IsTypeIn p) (named_type o brackets token texts)
  type_given name (Some c) brackets token texts e = record { variable = tt; known = class_within p.classes name c e }
  type_given name None brackets token texts e = tt

  base_given : (base : source.Base) (brackets token : ℕ) (texts : List FixedText) → steps.IsGiven p constants j L class has_this (IsTypeIn p) (type_with T base brackets token texts)
  base_given (source.Basic q) brackets token texts = record { variable = tt; known = tt }
  base_given (source.Class name) brackets token texts = type_given name (class_named p.classes name) brackets token texts refl

  written_given : (ty : WrittenType) (texts : List FixedText) → steps.IsGiven p constants j L class has_this (IsTypeIn p) (type_written T ty texts)
  unfolding type_written
  written_given ty texts = base_given ty.base ty.brackets ty.token texts

  class_grows : {H : Type 0} (n : ℕ) (o : Option ℕ) (brackets token : ℕ) → Sound n H (λ ty. Unit {0}) (named_type o brackets token)
  class_grows n (Some c) brackets token = found.given (λ ty. Unit {0}) (Of (Named_class c) brackets) (λ h. tt)
  class_grows n None brackets token = found.none_found (λ ty. Unit {0}) UnknownName token

  base_grows : {H : Type 0} (n : ℕ) (base : source.Base) (brackets token : ℕ) → Sound n H (λ ty. Unit {0}) (type_with T base brackets token)
  base_grows n (source.Basic q) brackets token = found.given (λ ty. Unit {0}) (Of (Basic q) brackets) (λ h. tt)
  base_grows n (source.Class name) brackets token = class_grows n (class_named p.classes name) brackets token

  pub type_sure : {K H : Type 0} (ty : WrittenType) → Surely K (IsTypeIn p) H Nothing_known (expressed (λ s. type_written T ty))
  unfolding type_written
  type_sure ty = steps.expressed_sure p constants j L class has_this made.table made.settled made.methods (IsTypeIn p) (λ x. Unit {0}) (λ s. type_written T ty) (λ s texts. written_given ty texts) (λ s g c b. base_grows (length p.fixed_texts) ty.base ty.brackets ty.token)

  -- what an expression in a statement is made into
  pub part_sure : {A : Type 0} {K H : Type 0} (Q : A → Type 0) (f : Scope → Gets A) → ((s : Scope) → Stands p constants j L s → s.class ≡ class → s.has_this ≡ has_this → Sound (length p.fixed_texts) (K × H) Q (f s)) → Surely K Nothing_known H Q (expressed f)
  part_sure Q f h = steps.expressed_sure p constants j L class has_this made.table made.settled made.methods Nothing_known Q f (λ s texts. nothing (f s texts)) h
    where
      nothing : {B : Type 0} (r : Result (B × List FixedText) Refusal) → steps.IsGiven p constants j L class has_this Nothing_known r
      nothing (Ok q) = tt
      nothing (Err e) = tt

  -- what is known of each says nothing
  forget : {A : Type 0} (R : A → Type 0) (m : Making) (r : Result (A × Making) Refusal) → steps.After p constants j L class has_this R m r → steps.After p constants j L class has_this Nothing_known m r
  forget R m (Ok q) h = (h.0, h.1, tt)
  forget R m (Err e) h = tt

  none_known : {A : Type 0} {K H : Type 0} {R : A → Type 0} {Q : A → Type 0} (f : Makes A) → Surely K R H Q f → Surely K Nothing_known H Q f
  none_known {R = R} f h = record { keeps = λ y m i. forget R m (f m) (h.keeps y m i); grows = h.grows; finds = h.finds }

  pub no_finding : {A : Type 0} {K H : Type 0} {R : A → Type 0} {Q : A → Type 0} (f : Makes A) → Surely K R H Q f → Surely K R H Nothing_known f
  no_finding {Q = Q} f h = record { keeps = h.keeps; grows = h.grows; finds = λ y v m i. unfound Q (f m) (h.finds y v m i) }
    where
      unfound : {B : Type 0} (Q : B → Type 0) (r : Result (B × Making) Refusal) → steps.HasAt p constants j L class has_this Q r → steps.HasAt p constants j L class has_this Nothing_known r
      unfound Q (Ok q) h = λ e lt. tt
      unfound Q (Err e) h = tt

  -- ---- declarations

  constant_kept : (is_final : Bool) (ty : Ty) (i : Initial) → steps.KeepsScope p constants j L class has_this (constant_if is_final T ty i)
  constant_kept is_final ty i m inv = steps.valued_kept p constants j L class has_this (if is_final then value_of_initial T ty i m.scope else None) m inv

  given_sure : {K H : Type 0} (is_final : Bool) (ty : Ty) (k : ℕ) (name : Named) (i : Option Initial) → Contains all (written name.token) → OptionWritten i → (K → IsTypeIn p ty) → (H → slice_get L k ≡ Some ty) → Surely K Nothing_known H (IsTyped W) (given_first w is_final ty k name i)
  given_sure is_final ty k name None c ok t v =
      steps.given p constants j L class has_this (plain w name.token true (kernel.Declare k)) (λ y. tt) (λ y h. plain_typed name.token true (kernel.Declare k) c (in_range (v h)))
    where
      in_range : slice_get L k ≡ Some ty → k < length L
      in_range e = slice_get_within L k ty e
  given_sure is_final ty k name (Some i) c ok t v =
      steps.next p constants j L class has_this Nothing_known (λ e. Gives p L e ty) (expressed (λ s. initialized j T s ty i name.token)) (λ e. changed (constant_if is_final T ty i) >>= λ fixed. give (plain w name.token true (kernel.Eval (kernel.Set (kernel.Local k) e name.token))))
      (part_sure (λ e. Gives p L e ty) (λ s. initialized j T s ty i name.token) (λ s g x y. found.under (λ e. Gives p L e ty) (initialized j T s ty i name.token) (λ h. t h.0) (initial p constants j L s g ty i name.token ok)))
      (λ e. steps.next p constants j L class has_this Nothing_known Nothing_known (changed (constant_if is_final T ty i)) (λ fixed. give (plain w name.token true (kernel.Eval (kernel.Set (kernel.Local k) e name.token))))
      (steps.changed_sure p constants j L class has_this (constant_if is_final T ty i) (constant_kept is_final ty i))
      (λ fixed. steps.given p constants j L class has_this (plain w name.token true (kernel.Eval (kernel.Set (kernel.Local k) e name.token))) (λ y. tt)
      (λ y h. plain_typed name.token true (kernel.Eval (kernel.Set (kernel.Local k) e name.token)) c (ty, typing.assigned (typing.local (v h.0.0)) h.0.1))))

  declarator_sure : {K H : Type 0} (is_final : Bool) (ty : Ty) (d : Declarator) → Contains all (written d.name.token) → OptionWritten d.initial → (K → IsTypeIn p ty) → Surely K Nothing_known H (IsTyped W) (declarator w is_final ty d)
  unfolding declarator
  declarator_sure is_final ty d c ok t =
      steps.next p constants j L class has_this Nothing_known (λ k. slice_get L k ≡ Some (with_brackets ty d.brackets)) (declaring d.name (with_brackets ty d.brackets) (is_final && is_some d.initial)) (λ k. given_first w is_final (with_brackets ty d.brackets) k d.name d.initial)
      (steps.declaring_sure p constants j L class has_this d.name (with_brackets ty d.brackets) (is_final && is_some d.initial) (λ y. with_more p ty d.brackets (t y)))
      (λ k. given_sure is_final (with_brackets ty d.brackets) k d.name d.initial c ok (λ y. with_more p ty d.brackets (t y.0)) (λ h. h.1))

  pub declarations_sure : {K H : Type 0} (is_final : Bool) (ty : WrittenType) (ds : List Declarator) → AreAmong all (declarator_places ds) → DeclaratorsWritten ds → Surely K Nothing_known H (λ xs. AllByRecursion (IsTyped W) xs) (declarations w is_final ty ds)
  unfolding declarations
  declarations_sure is_final ty ds c ok =
      steps.next p constants j L class has_this (IsTypeIn p) Nothing_known (expressed (λ s. type_written T ty)) (λ t. each (declarator w is_final t) ds) (type_sure ty)
      (λ t. none_known (each (declarator w is_final t) ds) (steps.each_sure p constants j L class has_this Nothing_known (IsTyped W) (declarator w is_final t) ds
      (λ d here. declarator_sure is_final t d (of_contained (λ (x : Declarator). Contains all (written x.name.token)) ds d (of_map (Contains all) (λ (x : Declarator). written x.name.token) ds c) here) (of_contained (λ (x : Declarator). OptionWritten x.initial) ds d ok here) (λ y. y.1))))

  -- ---- expressions that are statements

  effect_sure : {K H : Type 0} (e : Effect) → Contains all (written e.token) → IsWritten e.value → Surely K Nothing_known H (IsTyped W) (effect w e)
  unfolding effect
  effect_sure e c ok =
      steps.next p constants j L class has_this Nothing_known (Acts W) (expressed (performed j T e.value)) (λ act. give (plain w e.token true act))
      (part_sure (Acts W) (performed j T e.value) (λ s g x y. parts.performed_sound p constants j L s g (result_of outcome) e.value ok))
      (λ act. steps.given p constants j L class has_this (plain w e.token true act) (λ y. tt) (λ y h. plain_typed e.token true act c h.1))

  effects_sure : {K H : Type 0} (es : List Effect) → AreAmong all (effect_places es) → EffectsWritten es → Surely K Nothing_known H (λ xs. AllByRecursion (IsTyped W) xs) (effects w es)
  effects_sure es c ok =
      none_known (effects w es) (steps.each_sure p constants j L class has_this Nothing_known (IsTyped W) (effect w) es
      (λ e here. effect_sure e (of_contained (λ (x : Effect). Contains all (written x.token)) es e (of_map (Contains all) (λ (x : Effect). written x.token) es c) here) (of_contained (λ (x : Effect). IsWritten x.value) es e ok here)))

  inits_sure : {K H : Type 0} (i : ForInit) → AreAmong all (init_places i) → InitsWritten i → Surely K Nothing_known H (λ xs. AllByRecursion (IsTyped W) xs) (for_init w i)
  unfolding for_init
  inits_sure source.ForInit.Nothing c ok = steps.given p constants j L class has_this [] (λ y. tt) (λ y h. tt)
  inits_sure (source.ForInit.Declared is_final ty ds) c ok = declarations_sure is_final ty ds c ok
  inits_sure (source.ForInit.Effects es) c ok = effects_sure es c ok

  -- ---- conditions, `return` and `throw`

  condition_sure : {K H : Type 0} (e : Expression) (site : ℕ) → IsWritten e → Surely K Nothing_known H (λ x. IsOf W x boolean_type) (expressed (condition j T e site))
  condition_sure e site ok = part_sure (λ x. IsOf W x boolean_type) (condition j T e site) (λ s g x y. parts.condition_sound p constants j L s g e site ok)

  tested_sure : {K H : Type 0} (test : Option Expression) (site : ℕ) → PartWritten test → Surely K Nothing_known H (IsTest W) (tested w test site)
  tested_sure None site ok = steps.given p constants j L class has_this kernel.absent (λ y. tt) (λ y h. tt)
  tested_sure (Some e) site ok =
      steps.next p constants j L class has_this Nothing_known (λ x. IsOf W x boolean_type) (expressed (condition j T e site)) (λ c. give (kernel.the c)) (condition_sure e site ok)
      (λ c. steps.given p constants j L class has_this (kernel.the c) (λ y. tt) (λ y h. h.1))

  returns_none : (o : Outcome) → returns_nothing o ≡ true → result_of o ≡ Some Void
  returns_none NoValue e = refl
  returns_none (ValueOf ty) e = none_of e
  returns_none NoReturn e = none_of e

  given_back : {H : Type 0} (a : Around) (e : Expression) (token : ℕ) → a.outcome ≡ outcome → IsWritten e → (s : Scope) → Stands p constants j L s → Sound (length p.fixed_texts) H (λ x. IsResult W (kernel.the x)) (returned j T a.outcome e token s)
  given_back {H} a e token is ok s g =
      let P : Outcome → Type 0 = λ o. Sound (length p.fixed_texts) H (λ x. IsResult W (kernel.the x)) (returned j T o e token s) in
      subst P (sym is) (parts.returned_sound p constants j L s g outcome e token fitting ok)

  returning_sure : {K H : Type 0} (a : Around) (value : Option Expression) (token : ℕ) → AroundFits a → Contains all (written token) → PartWritten value → Surely K Nothing_known H (IsTyped W) (returning w a value token)
  returning_sure a None token h c ok =
      steps.if_either p constants j L class has_this (returns_nothing a.outcome) _ _
      (λ e. steps.given p constants j L class has_this (plain w token true (kernel.Return kernel.absent)) (λ y. tt) (λ y u. plain_typed token true (kernel.Return kernel.absent) c (ap result_of (sym h.same_outcome) ∙ returns_none a.outcome e)))
      (λ e. steps.none_made p constants j L class has_this BadReturn token)
  returning_sure a (Some e) token h c ok =
      steps.next p constants j L class has_this Nothing_known (λ x. IsResult W (kernel.the x)) (expressed (returned j T a.outcome e token)) (λ v. give (plain w token true (kernel.Return (kernel.the v))))
      (part_sure (λ x. IsResult W (kernel.the x)) (returned j T a.outcome e token) (λ s g x y. given_back a e token h.same_outcome ok s g))
      (λ v. steps.given p constants j L class has_this (plain w token true (kernel.Return (kernel.the v))) (λ y. tt) (λ y u. plain_typed token true (kernel.Return (kernel.the v)) c u.1))

  -- ---- rows

  row_typed : (xs : List kernel.Statement) → AllByRecursion (IsTyped W) xs → AllTyped W (row_of xs)
  row_typed [] h = tt
  row_typed (x ∷ xs) h = (h.0, row_typed xs h.1)

  pub joined_typed : (xs : List kernel.Statement) (ys : kernel.Statements) → AllByRecursion (IsTyped W) xs → AllTyped W ys → AllTyped W (joined xs ys)
  joined_typed [] ys h k = k
  joined_typed (x ∷ xs) ys h k = (h.0, joined_typed xs ys h.1 k)

  -- what a statement in a block is
  declared_sure : (s : Statement) → AreAmong all (places s) → StatementWritten s → Surely Unit Nothing_known Unit (λ xs. AllByRecursion (IsTyped W) xs) (declared w s)
  unfolding declared places
  declared_sure (Declare is_final ty ds) c ok = declarations_sure is_final ty ds c ok
  declared_sure _ c ok = steps.given p constants j L class has_this [] (λ y. tt) (λ y h. tt)

  several_sure : (s : Statement) (f : Makes kernel.Statement) → AreAmong all (places s) → StatementWritten s → Surely Unit Nothing_known Unit (IsTyped W) f → Surely Unit Nothing_known Unit (λ xs. AllByRecursion (IsTyped W) xs) (several w s f)
  several_sure s f c ok h =
      steps.if_either p constants j L class has_this (is_declaration s) _ _ (λ e. declared_sure s c ok)
      (λ e. steps.next p constants j L class has_this Nothing_known (IsTyped W) f (λ x. give (x ∷ [])) h (λ x. steps.given p constants j L class has_this (x ∷ []) (λ y. tt) (λ y u. (u.1, tt))))

  -- ---- clauses

  class_given : (name : List ℕ) (o : Option ℕ) (token : ℕ) (texts : List FixedText) → class_named p.classes name ≡ o → steps.IsGiven p constants j L class has_this (λ c. c < length p.classes) (class_for_new o token texts)
  class_given name (Some c) token texts e = class_within p.classes name c e
  class_given name None token texts e = tt

  caught_given : (name : Named) (site : ℕ) (s : Scope) (texts : List FixedText) → steps.IsGiven p constants j L class has_this (λ c. c < length p.classes) (caught_class j T name site s texts)
  unfolding caught_class
  caught_given name site s texts = class_given name.name (class_named p.classes name.name) name.token texts refl

  caught_grows : {H : Type 0} (n : ℕ) (o : Option ℕ) (token : ℕ) → Sound n H (λ c. Unit {0}) (class_for_new o token)
  caught_grows n (Some c) token = found.given (λ c. Unit {0}) c (λ h. tt)
  caught_grows n None token = found.none_found (λ c. Unit {0}) UnknownName token

  caught_sure : {K H : Type 0} (name : Named) (site : ℕ) → Surely K (λ c. c < length p.classes) H Nothing_known (expressed (caught_class j T name site))
  unfolding caught_class
  caught_sure name site = steps.expressed_sure p constants j L class has_this made.table made.settled made.methods (λ c. c < length p.classes) Nothing_known (caught_class j T name site) (caught_given name site) (λ s g x y. caught_grows (length p.fixed_texts) (class_named p.classes name.name) name.token)

  throwable_sure : {K H : Type 0} (c site : ℕ) → Surely K Nothing_known H (λ u. Below p.classes (class_type c) (class_type throwable_class)) (must_be_throwable w c site)
  throwable_sure c site =
      steps.if_either p constants j L class has_this (is_throwable j c) _ _
      (λ e. steps.given p constants j L class has_this tt (λ y. tt) (λ y h. below T j made.settled (class_type c) (class_type throwable_class) e))
      (λ e. steps.none_made p constants j L class has_this BadOperand site)

  abbrev ClauseTyped : Clause → Type 0
  ClauseTyped c = MayCatch W c.class c.local × IsTyped W c.block

  clause_sure : (name local : Named) (f : Makes kernel.Statement) → Surely Unit Nothing_known Unit (IsTyped W) f → Surely Unit Nothing_known Unit ClauseTyped (clause w name local f)
  unfolding clause
  clause_sure name local f h =
      steps.block_sure p constants j L class has_this _
      (steps.next p constants j L class has_this (λ c. c < length p.classes) Nothing_known (expressed (caught_class j T name local.token))
      (λ c. declaring local (class_type c) false >>= λ k. must_be_throwable w c local.token >>= λ u. f >>= λ x. give (record { class = c; local = k; block = x }))
      (caught_sure name local.token)
      (λ c. steps.next p constants j L class has_this Nothing_known (λ k. slice_get L k ≡ Some (class_type c)) (declaring local (class_type c) false) (λ k. must_be_throwable w c local.token >>= λ u. f >>= λ x. give (record { class = c; local = k; block = x }))
      (steps.declaring_sure p constants j L class has_this local (class_type c) false (λ y. record { variable = tt; known = y.1 }))
      (λ k. steps.next p constants j L class has_this Nothing_known (λ u. Below p.classes (class_type c) (class_type throwable_class)) (must_be_throwable w c local.token) (λ u. f >>= λ x. give (record { class = c; local = k; block = x }))
      (throwable_sure c local.token)
      (λ u. steps.next p constants j L class has_this Nothing_known (IsTyped W) f (λ x. give (record { class = c; local = k; block = x }))
      (steps.under p constants j L class has_this f (λ y. tt) (λ y v. tt) h)
      (λ x. steps.given p constants j L class has_this (record { class = c; local = k; block = x }) (λ y. tt)
      (λ y v. (record { known = y.0.0.0.1; throwable = v.0.1; bound = v.0.0.1 }, v.1)))))))

  -- ---- statements

  abbrev Typed_so : {A : Type 0} → (A → Type 0) → Makes A → Type 0
  Typed_so Q f = Surely Unit Nothing_known Unit Q f

  -- the same, whatever is known of what was made before
  again : {A : Type 0} {K H : Type 0} {Q : A → Type 0} (f : Makes A) → Typed_so Q f → Surely K Nothing_known H Q f
  again f h = steps.under p constants j L class has_this f (λ y. tt) (λ y v. tt) h

  mutual
    unfolding statement other_statement block statements last_block clauses places block_places all_places other_places last_places catch_places

    stated : (a : Around) (s : Statement) → AroundFits a → AreAmong all (places s) → StatementWritten s → Typed_so (IsTyped W) (statement w a s)
    stated a (Block b) h c ok = blocked a b h c ok
    stated a (Empty token) h c ok = steps.given p constants j L class has_this (plain w token true (kernel.Block kernel.done)) (λ y. tt) (λ y v. plain_typed token true (kernel.Block kernel.done) c.0 tt)
    stated a (Declare is_final ty ds) h c ok = steps.none_made p constants j L class has_this BadOperand 0
    stated a (Perform e) h c ok = effect_sure e c.0 ok
    stated a (If test main other token) h c ok =
        let i = inside_fits a (number w token) h (numbered token c.0) in
        steps.next p constants j L class has_this Nothing_known (λ x. IsOf W x boolean_type) (expressed (condition j T test token))
        (λ e. statement w (inside a (number w token)) main >>= λ x. other_statement w (inside a (number w token)) other >>= λ y. give (testing w a token (targets_in a x ++ other_targets_in a y) (kernel.If e x y)))
        (condition_sure test token ok.0)
        (λ e. steps.next p constants j L class has_this Nothing_known (IsTyped W) (statement w (inside a (number w token)) main)
        (λ x. other_statement w (inside a (number w token)) other >>= λ y. give (testing w a token (targets_in a x ++ other_targets_in a y) (kernel.If e x y)))
        (again (statement w (inside a (number w token)) main) (stated (inside a (number w token)) main i (of_front (Contains all) (places main) (other_places other) c.1) ok.1))
        (λ x. steps.next p constants j L class has_this Nothing_known (OtherTyped W) (other_statement w (inside a (number w token)) other)
        (λ y. give (testing w a token (targets_in a x ++ other_targets_in a y) (kernel.If e x y)))
        (again (other_statement w (inside a (number w token)) other) (other_stated (inside a (number w token)) other i (of_back (Contains all) (places main) (other_places other) c.1) ok.2))
        (λ y. steps.given p constants j L class has_this (testing w a token (targets_in a x ++ other_targets_in a y) (kernel.If e x y)) (λ z. tt)
        (λ z v. testing_typed a token (targets_in a x ++ other_targets_in a y) (kernel.If e x y) h c.0 (v.0.0.1, v.0.1, v.1)))))
    stated a (While test body token) h c ok =
        let b = in_loop a (number w token) (number w (site_of body)) in
        let i = loop_fits a (number w token) (number w (site_of body)) h (numbered token c.0) (numbered (site_of body) (site_among body ok.1 c.1)) in
        steps.next p constants j L class has_this Nothing_known (λ x. IsOf W x boolean_type) (expressed (condition j T test token))
        (λ e. statement w b body >>= λ x. give (testing w a token (targets_in a x) (kernel.While e x)))
        (condition_sure test token ok.0)
        (λ e. steps.next p constants j L class has_this Nothing_known (IsTyped W) (statement w b body) (λ x. give (testing w a token (targets_in a x) (kernel.While e x)))
        (again (statement w b body) (stated b body i c.1 ok.2))
        (λ x. steps.given p constants j L class has_this (testing w a token (targets_in a x) (kernel.While e x)) (λ z. tt)
        (λ z v. testing_typed a token (targets_in a x) (kernel.While e x) h c.0 (v.0.1, v.1))))
    stated a (Do body test token) h c ok =
        let b = in_loop a (number w token) (number w (site_of body)) in
        let i = loop_fits a (number w token) (number w (site_of body)) h (numbered token c.0) (numbered (site_of body) (site_among body ok.0 c.1)) in
        steps.next p constants j L class has_this Nothing_known (IsTyped W) (statement w b body)
        (λ x. expressed (condition j T test token) >>= λ e. give (testing w a token (targets_in a x) (kernel.Do x e)))
        (stated b body i c.1 ok.1)
        (λ x. steps.next p constants j L class has_this Nothing_known (λ e. IsOf W e boolean_type) (expressed (condition j T test token)) (λ e. give (testing w a token (targets_in a x) (kernel.Do x e)))
        (condition_sure test token ok.2)
        (λ e. steps.given p constants j L class has_this (testing w a token (targets_in a x) (kernel.Do x e)) (λ z. tt)
        (λ z v. testing_typed a token (targets_in a x) (kernel.Do x e) h c.0 (v.0.1, v.1))))
    stated a (For init test updates body token) h c ok =
        let few = of_front (Contains all) (init_places init ++ effect_places updates) (places body) c.1 in
        let here = of_back (Contains all) (init_places init ++ effect_places updates) (places body) c.1 in
        let b = in_loop a (number w token) (number w (site_of body)) in
        let i = loop_fits a (number w token) (number w (site_of body)) h (numbered token c.0) (numbered (site_of body) (site_among body ok.3 here)) in
        steps.block_sure p constants j L class has_this _
        (steps.next p constants j L class has_this Nothing_known (λ xs. AllByRecursion (IsTyped W) xs) (for_init w init)
        (λ is. tested w test token >>= λ e. effects w updates >>= λ us. statement w b body >>= λ x. give (looping w a token e (targets_in a x) (kernel.For (row_of is) e (row_of us) x)))
        (inits_sure init (of_front (Contains all) (init_places init) (effect_places updates) few) ok.0)
        (λ is. steps.next p constants j L class has_this Nothing_known (IsTest W) (tested w test token)
        (λ e. effects w updates >>= λ us. statement w b body >>= λ x. give (looping w a token e (targets_in a x) (kernel.For (row_of is) e (row_of us) x)))
        (tested_sure test token ok.1)
        (λ e. steps.next p constants j L class has_this Nothing_known (λ xs. AllByRecursion (IsTyped W) xs) (effects w updates)
        (λ us. statement w b body >>= λ x. give (looping w a token e (targets_in a x) (kernel.For (row_of is) e (row_of us) x)))
        (effects_sure updates (of_back (Contains all) (init_places init) (effect_places updates) few) ok.2)
        (λ us. steps.next p constants j L class has_this Nothing_known (IsTyped W) (statement w b body)
        (λ x. give (looping w a token e (targets_in a x) (kernel.For (row_of is) e (row_of us) x)))
        (again (statement w b body) (stated b body i here ok.4))
        (λ x. steps.given p constants j L class has_this (looping w a token e (targets_in a x) (kernel.For (row_of is) e (row_of us) x)) (λ z. tt)
        (λ z v. looping_typed a token e (targets_in a x) (kernel.For (row_of is) e (row_of us) x) h c.0 (row_typed is v.0.0.0.1, v.0.0.1, row_typed us v.0.1, v.1)))))))
    stated a (Labelled name body) h c ok =
        let b = under_label a name.name (number w name.token) (number_of_body w (body_of_loop body)) in
        let i = label_fits a name.name (number w name.token) (number_of_body w (body_of_loop body)) h (numbered name.token c.0) (body_numbered body ok c.1) in
        steps.if_either p constants j L class has_this (is_label a name.name) _ _ (λ e. steps.none_made p constants j L class has_this Duplicate name.token)
        (λ e. steps.next p constants j L class has_this Nothing_known (IsTyped W) (statement w b body) (λ x. give (plain w name.token true (kernel.Labelled x))) (stated b body i c.1 ok)
        (λ x. steps.given p constants j L class has_this (plain w name.token true (kernel.Labelled x)) (λ z. tt) (λ z v. plain_typed name.token true (kernel.Labelled x) c.0 v.1)))
    stated a (Break label token) h c ok = jump_sure (break_target a label) token c.0 (λ k e. break_numbered a label k h e)
    stated a (Continue label token) h c ok = jump_sure (continue_target a label) token c.0 (λ k e. continue_numbered a label k h e)
    stated a (Return value token) h c ok = returning_sure a value token h c.0 ok
    stated a (Throw value token) h c ok =
        steps.next p constants j L class has_this Nothing_known (λ x. Gives p L x (class_type throwable_class)) (expressed (thrown j T value token)) (λ v. give (plain w token true (kernel.Throw v)))
        (part_sure (λ x. Gives p L x (class_type throwable_class)) (thrown j T value token) (λ s g x y. parts.thrown_sound p constants j L s g value token ok))
        (λ v. steps.given p constants j L class has_this (plain w token true (kernel.Throw v)) (λ z. tt) (λ z u. plain_typed token true (kernel.Throw v) c.0 u.1))
    stated a (Try main catches last token) h c ok =
        let few = of_front (Contains all) (block_places main ++ catch_places catches) (last_places last) c.1 in
        let i = inside_fits a (number w token) h (numbered token c.0) in
        let b = in_first_block a (number w token) catches in
        steps.next p constants j L class has_this Nothing_known (IsTyped W) (block w b main)
        (λ x. clauses w (inside a (number w token)) catches >>= λ cs. last_block w (inside a (number w token)) last >>= λ y. give (plain w token true (kernel.Try x cs y)))
        (blocked b main (first_fits a (number w token) catches h (numbered token c.0)) (of_front (Contains all) (block_places main) (catch_places catches) few) ok.0)
        (λ x. steps.next p constants j L class has_this Nothing_known (CatchesTyped W) (clauses w (inside a (number w token)) catches)
        (λ cs. last_block w (inside a (number w token)) last >>= λ y. give (plain w token true (kernel.Try x cs y)))
        (again (clauses w (inside a (number w token)) catches) (caught (inside a (number w token)) catches i (of_back (Contains all) (block_places main) (catch_places catches) few) ok.1))
        (λ cs. steps.next p constants j L class has_this Nothing_known (OtherTyped W) (last_block w (inside a (number w token)) last) (λ y. give (plain w token true (kernel.Try x cs y)))
        (again (last_block w (inside a (number w token)) last) (last_stated (inside a (number w token)) last i (of_back (Contains all) (block_places main ++ catch_places catches) (last_places last) c.1) ok.2))
        (λ y. steps.given p constants j L class has_this (plain w token true (kernel.Try x cs y)) (λ z. tt) (λ z v. plain_typed token true (kernel.Try x cs y) c.0 (v.0.0.1, v.0.1, v.1)))))
    stated a Unknown h c ok = steps.none_made p constants j L class has_this BadOperand 0

    other_stated : (a : Around) (o : Other) → AroundFits a → AreAmong all (other_places o) → OtherWritten o → Typed_so (OtherTyped W) (other_statement w a o)
    other_stated a absent h c ok = steps.given p constants j L class has_this kernel.nothing (λ y. tt) (λ y v. tt)
    other_stated a (present s) h c ok =
        steps.next p constants j L class has_this Nothing_known (IsTyped W) (statement w a s) (λ x. give (kernel.this x)) (stated a s h c ok) (λ x. steps.given p constants j L class has_this (kernel.this x) (λ y. tt) (λ y v. v.1))

    pub blocked : (a : Around) (b : Braced) → AroundFits a → AreAmong all (block_places b) → BlockWritten b → Typed_so (IsTyped W) (block w a b)
    blocked a (braced brace parts end) h c ok =
        steps.block_sure p constants j L class has_this _
        (steps.next p constants j L class has_this Nothing_known (AllTyped W) (statements w (inside a (number w brace)) parts) (λ xs. give (plain w brace false (kernel.Block xs)))
        (all_stated (inside a (number w brace)) parts (inside_fits a (number w brace) h (numbered brace c.0)) c.1 ok)
        (λ xs. steps.given p constants j L class has_this (plain w brace false (kernel.Block xs)) (λ y. tt) (λ y v. plain_typed brace false (kernel.Block xs) c.0 v.1)))

    pub all_stated : (a : Around) (ss : Statements) → AroundFits a → AreAmong all (all_places ss) → AllWritten ss → Typed_so (AllTyped W) (statements w a ss)
    all_stated a done h c ok = steps.given p constants j L class has_this kernel.done (λ y. tt) (λ y v. tt)
    all_stated a (first s rest) h c ok =
        steps.next p constants j L class has_this Nothing_known (λ xs. AllByRecursion (IsTyped W) xs) (several w s (statement w a s)) (λ xs. statements w a rest >>= λ ys. give (joined xs ys))
        (several_sure s (statement w a s) (of_front (Contains all) (places s) (all_places rest) c) ok.0 (stated a s h (of_front (Contains all) (places s) (all_places rest) c) ok.0))
        (λ xs. steps.next p constants j L class has_this Nothing_known (AllTyped W) (statements w a rest) (λ ys. give (joined xs ys))
        (again (statements w a rest) (all_stated a rest h (of_back (Contains all) (places s) (all_places rest) c) ok.1))
        (λ ys. steps.given p constants j L class has_this (joined xs ys) (λ y. tt) (λ y v. joined_typed xs ys v.0.1 v.1)))

    last_stated : (a : Around) (l : Last) → AroundFits a → AreAmong all (last_places l) → LastWritten l → Typed_so (OtherTyped W) (last_block w a l)
    last_stated a nowhere h c ok = steps.given p constants j L class has_this kernel.nothing (λ y. tt) (λ y v. tt)
    last_stated a (finally b) h c ok =
        steps.next p constants j L class has_this Nothing_known (IsTyped W) (block w a b) (λ x. give (kernel.this x)) (blocked a b h c ok) (λ x. steps.given p constants j L class has_this (kernel.this x) (λ y. tt) (λ y v. v.1))

    caught : (a : Around) (cs : Catches) → AroundFits a → AreAmong all (catch_places cs) → CatchesWritten cs → Typed_so (CatchesTyped W) (clauses w a cs)
    caught a uncaught h c ok = steps.given p constants j L class has_this kernel.uncaught (λ y. tt) (λ y v. tt)
    caught a (catch is_final name local b rest) h c ok =
        steps.next p constants j L class has_this Nothing_known ClauseTyped (clause w name local (block w a b)) (λ x. clauses w a rest >>= λ cs. give (kernel.catch x.class x.local local.token x.block cs))
        (clause_sure name local (block w a b) (blocked a b h (of_front (Contains all) (block_places b) (catch_places rest) c) ok.0))
        (λ x. steps.next p constants j L class has_this Nothing_known (CatchesTyped W) (clauses w a rest) (λ cs. give (kernel.catch x.class x.local local.token x.block cs))
        (again (clauses w a rest) (caught a rest h (of_back (Contains all) (block_places b) (catch_places rest) c) ok.1))
        (λ cs. steps.given p constants j L class has_this (kernel.catch x.class x.local local.token x.block cs) (λ y. tt) (λ y v. (v.0.1.0, v.0.1.1, v.1))))
