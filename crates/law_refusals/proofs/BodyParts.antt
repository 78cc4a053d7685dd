-- Effects, jumps and clauses of `try`: where they are refused, and that effects and tests leave the scope as it is.
use Rattle.std.proofs.Common.{◌≡◌, ◌∙◌, ap, sym, subst, refl, ℕ, Bool, true, false, List, [], ◌∷◌, Option, Some, Result, Ok, Err}
use Rattle.std.specs.Prelude.{if◌then◌else◌}
use Rattle.std.specs.Prelude.{None as Absent}
use Rattle.std.specs.List.{All, Contains}
use Rattle.std.proofs.lemmas.List.Elements.{All-head, All-tail}
use Rattle.wy_kernel.specs.Form as kernel
use Rattle.wy_kernel.specs.Builtin.{throwable_class}
use Rattle.wy_kernel.specs.Subtyping.{Below, class_type}
use Rattle.wy_syntax.specs.Syntax.{Expression, Named, Effect}
use Rattle.wy_constant.specs.declared.rule.Rule.TheVariants.{Duplicate, UnknownName, BadOperand}
use Rattle.wy_constant.specs.Refusal.{Refusal, refused}
use Rattle.wy_constant.specs.Scope.{Scope, Variable, FixedText, denoted, opened}
use Rattle.wy_constant.specs.Fields.{class_named}
use Rattle.wy_elab_expr.specs.Operators.{Settles}
use Rattle.wy_elab_expr.specs.Elaboration.{class_for_new}
use Rattle.wy_elab_expr.specs.Meaning.{Gets}
use Rattle.wy_elab_body.specs.Making.{Making, Makes, give, refuse, onward, ◌>>=◌, each, expressed, declaring}
use Rattle.wy_elab_body.specs.Parts.{condition, performed, caught_class, is_throwable}
use Rattle.wy_elab_body.specs.Statements.{Setting, plain, effect, effects, tested, must_be_throwable, clause}
use Rattle.law_refusals.specs.ExpressionLaws.{IsBroken}
use Rattle.law_refusals.proofs.Walk.{Only, only_give, only_refuse, only_weaker}
use Rattle.law_refusals.proofs.Contained.{contains_here, contains_later}
use Rattle.law_well_formed.specs.Complete.{IsCompleteEffect}
use Rattle.law_refusals.specs.Surroundings.{Leads}
use Rattle.law_refusals.proofs.Steps.{OnlyFrom, from_give, from_refuse, from_if, from_bind, from_declaring, from_block, bind_expressed, was_expressed, in_opened}
use Rattle.law_refusals.proofs.Expressed.{performed_only}

-- ---- what is made, and what was made before it

pub record Made {A B : Type 0} (f : Makes A) (k : A → Makes B) (b : Making) (y : B) (d : Making) : Type 0 where
  pub value : A
  pub between : Making
  pub first : f b ≡ Ok (value, between)
  pub second : k value between ≡ Ok (y, d)

made_by : {A B : Type 0} (f : Makes A) (k : A → Makes B) (b : Making) (y : B) (d : Making) (r : Result (A × Making) Refusal) → f b ≡ r → onward k r ≡ Ok (y, d) → Made f k b y d
made_by f k b y d (Ok p) e h = record { value = p.0; between = p.1; first = e; second = h }
made_by f k b y d (Err x) e h = absurd (cc)

pub made : {A B : Type 0} (f : Makes A) (k : A → Makes B) (b : Making) (y : B) (d : Making) → (f >>= k) b ≡ Ok (y, d) → Made f k b y d
made f k b y d h = made_by f k b y d (f b) refl h

pub after_give : {A : Type 0} (x y : A) (b d : Making) → give x b ≡ Ok (y, d) → d.scope ≡ b.scope
after_give {A} x y b d h =
    let pair : (x, b) ≡ (y, d) = cc in
    sym (ap (λ (z : A × Making). z.1.scope) pair)

pub after_expressed : {A B : Type 0} (f : Scope → Gets A) (k : A → B) (b : Making) (y : B) (d : Making) → (expressed f >>= λ x. give (k x)) b ≡ Ok (y, d) → d.scope ≡ b.scope
after_expressed f k b y d h =
    let m = made (expressed f) (λ x. give (k x)) b y d h in
    after_give (k m.value) y m.between d m.second ∙ (was_expressed f b m.value m.between m.first).same

-- ---- effects

effect_keeps : (w : Setting) (e : Effect) (b : Making) (x : kernel.Statement) (c : Making) → effect w e b ≡ Ok (x, c) → c.scope ≡ b.scope
unfolding effect
effect_keeps w e b x c h = after_expressed (performed w.judgement w.table e.value) (λ act. plain w e.token true act) b x c h

pub effects_keep : (w : Setting) (all : List Effect) (b : Making) (xs : List kernel.Statement) (c : Making) → effects w all b ≡ Ok (xs, c) → c.scope ≡ b.scope
unfolding each
effects_keep w [] b xs c h = after_give [] xs b c h
effects_keep w (e ∷ rest) b xs c h =
    let m = made (effect w e) (λ y. each (effect w) rest >>= λ ys. give (y ∷ ys)) b xs c h in
    let n = made (each (effect w) rest) (λ ys. give (m.value ∷ ys)) m.between xs c m.second in
    after_give (m.value ∷ n.value) xs n.between c n.second ∙ effects_keep w rest m.between n.value n.between n.first ∙ effect_keeps w e b m.value m.between m.first

pub tested_keeps : (w : Setting) (test : Option Expression) (site : ℕ) (b : Making) (c : kernel.Part) (d : Making) → tested w test site b ≡ Ok (c, d) → d.scope ≡ b.scope
tested_keeps w Absent site b c d h = after_give kernel.absent c b d h
tested_keeps w (Some e) site b c d h = after_expressed (condition w.judgement w.table e site) (λ x. kernel.the x) b c d h

module _ (w : Setting) where
  -- a clause itself breaks a rule
  pub data BadClause (s : Scope) (class name : Named) : Refusal → Type 0 where
    unknown : class_named w.table.classes class.name ≡ Absent → BadClause s class name (refused UnknownName class.token)
    again : {v : Variable} → denoted s name.name ≡ Some v → BadClause s class name (refused Duplicate name.token)
    not_throwable : {c : ℕ} → class_named w.table.classes class.name ≡ Some c → (Below w.table.classes (class_type c) (class_type throwable_class) → ⊥) → BadClause s class name (refused BadOperand name.token)

module _ (w : Setting) (g : Settles w.table w.judgement) where
  pub effect_only : {P : Refusal → Type 0} (e : Effect) (b : Making) → IsCompleteEffect e → ((r : Refusal) → IsBroken w.judgement w.table b.scope e.value r.rule r.token → P r) → OnlyFrom P (effect w e) b
  unfolding effect
  effect_only e b h f =
      bind_expressed (performed w.judgement w.table e.value) (λ act. give (plain w e.token true act)) b (only_weaker f (performed_only w.judgement w.table g b.scope e.value h)) (λ act c ex. from_give)

  pub effects_only : {P : Refusal → Type 0} (all : List Effect) (s : Scope) (b : Making) → b.scope ≡ s → All IsCompleteEffect all →
      ((e : Effect) → Contains all e → (r : Refusal) → IsBroken w.judgement w.table s e.value r.rule r.token → P r) → OnlyFrom P (effects w all) b
  unfolding each
  effects_only [] s b same h f = from_give
  effects_only (e ∷ rest) s b same h f =
      from_bind {f = effect w e} {g = λ y. each (effect w) rest >>= λ ys. give (y ∷ ys)}
      (effect_only e b (All-head IsCompleteEffect e rest h)
      (λ r k. let Q : Scope → Type 0 = λ z. IsBroken w.judgement w.table z e.value r.rule r.token in f e (contains_here rest refl) r (subst Q same k)))
      (λ y c is. from_bind {f = each (effect w) rest} {g = λ ys. give (y ∷ ys)}
      (effects_only rest s c (effect_keeps w e b y c is ∙ same) (All-tail IsCompleteEffect e rest h) (λ d k. f d (contains_later e d rest k))) (λ ys d is2. from_give))

  -- ---- clauses

  class_only : {P : Refusal → Type 0} (class : Named) → (class_named w.table.classes class.name ≡ Absent → P (refused UnknownName class.token)) → (o : Option ℕ) → class_named w.table.classes class.name ≡ o → Only P (class_for_new o class.token)
  class_only class f (Some c) e = only_give
  class_only class f Absent e = only_refuse (f e)

  class_found : (o : Option ℕ) (token c : ℕ) (u v : List FixedText) → class_for_new o token u ≡ Ok (c, v) → o ≡ Some c
  class_found (Some k) token c u v h =
      let pair : (k, u) ≡ (c, v) = cc in
      ap (λ (z : ℕ × List FixedText). Some z.0) pair
  class_found Absent token c u v h = absurd (cc)

  throwable_keeps : (c : Bool) (site : ℕ) (u : Unit {0}) (b d : Making) → (if c then give tt else refuse BadOperand site) b ≡ Ok (u, d) → d.scope ≡ b.scope
  throwable_keeps true site u b d h = after_give tt u b d h
  throwable_keeps false site u b d h = absurd (cc)

  pub clause_only : {P : Refusal → Type 0} (class name : Named) (made_block : Makes kernel.Statement) (b : Making) → ((r : Refusal) → BadClause w b.scope class name r → P r) →
      ((c : ℕ) (inner : Making) → class_named w.table.classes class.name ≡ Some c → Leads (declaring name (class_type c) false) (opened b.scope) inner.scope → (d : Making) → d.scope ≡ inner.scope → OnlyFrom P made_block d) →
      OnlyFrom P (clause w class name made_block) b
  unfolding clause caught_class
  clause_only class name made_block b f k =
      from_block
      (expressed (caught_class w.judgement w.table class name.token) >>= λ c. declaring name (class_type c) false >>= λ n. must_be_throwable w c name.token >>= λ throwable. made_block >>= λ x. give (record { class = c; local = n; block = x })) b
      (bind_expressed (caught_class w.judgement w.table class name.token) (λ c. declaring name (class_type c) false >>= λ n. must_be_throwable w c name.token >>= λ throwable. made_block >>= λ x. give (record { class = c; local = n; block = x })) (in_opened b)
      (class_only class (λ e. f (refused UnknownName class.token) (unknown e)) (class_named w.table.classes class.name) refl)
      (λ c b1 ex. let is_class = class_found (class_named w.table.classes class.name) class.token c (in_opened b).texts ex.later ex.found in
      from_bind {f = declaring name (class_type c) false} {g = λ n. must_be_throwable w c name.token >>= λ throwable. made_block >>= λ x. give (record { class = c; local = n; block = x })}
      (from_declaring name (class_type c) false b1 (λ v e. f (refused Duplicate name.token) (again (ap (λ (z : Scope). denoted z name.name) (sym ex.same) ∙ e))))
      (λ n b2 is. let leads : Leads (declaring name (class_type c) false) (opened b.scope) b2.scope = record { before = b1; after = b2; result = n; made = is; begins = ex.same; ends = refl } in
      from_bind {f = must_be_throwable w c name.token} {g = λ throwable. made_block >>= λ x. give (record { class = c; local = n; block = x })}
      (from_if {c = is_throwable w.judgement c} {f = give tt} {g = refuse BadOperand name.token} (λ e. from_give)
      (λ e. from_refuse (f (refused BadOperand name.token) (not_throwable is_class (λ below. let yes_it : is_throwable w.judgement c ≡ true = (g.below (class_type c) (class_type throwable_class)).1 below in cc)))))
      (λ u b3 it. from_bind {f = made_block} {g = λ x. give (record { class = c; local = n; block = x })} (k c b2 is_class leads b3 (throwable_keeps (is_throwable w.judgement c) name.token u b2 b3 it)) (λ x b4 done. from_give)))))
