-- What statements lead to depends on the scope before them alone.
use Rattle.std.proofs.Common.{◌≡◌, ◌∙◌, sym, subst, ℕ, Bool, true, false, List, Ok, Option, Some}
use Rattle.std.specs.Prelude.{◌&&◌, is_some}
use Rattle.std.specs.Prelude.{None as Absent}
use Rattle.wy_kernel.specs.Form as kernel
use Rattle.wy_kernel.specs.declared.types.Ty.{Ty}
use Rattle.wy_kernel.specs.Subtyping.{class_type}
use Rattle.wy_kernel.specs.Table.{Table}
use Rattle.wy_syntax.specs.Syntax.{Expression, Initial, Named, WrittenType, Declarator, Effect, ForInit, Effects, Statement, Block, Empty, Declare, Perform, If, While, Do, For, Labelled, Break, Continue, Return, Throw, Try, Unknown, Braced, braced, Statements, done, first, Other, absent, present, Last, nowhere, finally, Catches, uncaught, catch}
use Rattle.wy_syntax.specs.Syntax as source
use Rattle.wy_constant.specs.Scope.{FixedText}
use Rattle.wy_constant.specs.Fields.{class_named}
use Rattle.wy_elab_expr.specs.Elaboration.{type_written, with_brackets, class_for_new}
use Rattle.wy_elab_body.specs.Making.{Makes, give, ◌>>=◌, expressed, declaring, each}
use Rattle.wy_elab_body.specs.Parts.{returns_nothing, caught_class, is_throwable}
use Rattle.wy_elab_body.specs.Jumps.{Around, inside, in_loop, under_label, break_target, continue_target}
use Rattle.wy_elab_body.specs.Statements.{Setting, Clause, number, plain, constant_if, site_of, body_of_loop, number_of_body, in_first_block, given_first, declarator, declarations, effect, for_init, jumping, returning, tested, is_label, must_be_throwable, clause, is_declaration, declared, several, statement, other_statement, block, statements, last_block, clauses}
use Rattle.law_refusals.specs.Found.{IsType}
use Rattle.law_refusals.proofs.ExpressionParts.{type_found}
use Rattle.law_refusals.proofs.Steps.{was_expressed}
use Rattle.law_refusals.proofs.AcceptedSteps.{type_once, class_found}
use Rattle.law_refusals.proofs.Makes.{Steady, Any, any, steady_bind, steady_give, steady_refuse, steady_if, steady_expressed, steady_past, steady_block, steady_each, steady_declaring}

-- the two are one
pub record Same {A : Type 0} (a b : A) : Type 0 where
  pub same : a ≡ b

one_written : (t : Table) (ty : WrittenType) (a b : Ty) (u v x y : List FixedText) → type_written t ty u ≡ Ok (a, v) → type_written t ty x ≡ Ok (b, y) → a ≡ b
unfolding type_written
one_written t ty a b u v x y e h = type_once t (type_found t ty.base ty.brackets ty.token u v a e) (type_found t ty.base ty.brackets ty.token x y b h)

pub one_as_written : (t : Table) (ty : WrittenType) (a b : Ty) (u v : List FixedText) → IsType t ty.base ty.brackets a → type_written t ty u ≡ Ok (b, v) → a ≡ b
unfolding type_written
one_as_written t ty a b u v is e = type_once t is (type_found t ty.base ty.brackets ty.token u v b e)

pub steady_type : (t : Table) (ty : WrittenType) → Steady Same (expressed (λ s. type_written t ty)) (expressed (λ s. type_written t ty))
steady_type t ty = record {
  at = λ m n a b c d same e o. (
      let x = was_expressed (λ s. type_written t ty) m a c e in
      let y = was_expressed (λ s. type_written t ty) n b d o in
      (record { same = one_written t ty a b m.texts x.later n.texts y.later x.found y.found }, x.same ∙ same ∙ sym y.same));
}

one_class : (o : Option ℕ) (token a b : ℕ) (u v x y : List FixedText) → class_for_new o token u ≡ Ok (a, v) → class_for_new o token x ≡ Ok (b, y) → a ≡ b
one_class o token a b u v x y e h =
    let p : o ≡ Some a = class_found o token a u v e in
    let q : o ≡ Some b = class_found o token b x y h in
    cc

steady_class : (w : Setting) (class : Named) (site : ℕ) → Steady Same (expressed (caught_class w.judgement w.table class site)) (expressed (caught_class w.judgement w.table class site))
unfolding caught_class
steady_class w class site = record {
  at = λ m n a b c d same e o. (
      let x = was_expressed (caught_class w.judgement w.table class site) m a c e in
      let y = was_expressed (caught_class w.judgement w.table class site) n b d o in
      (record { same = one_class (class_named w.table.classes class.name) class.token a b m.texts x.later n.texts y.later x.found y.found }, x.same ∙ same ∙ sym y.same));
}

module _ (w : Setting) where
  -- a variable is given this value first
  abbrev given_statement : ℕ → Named → kernel.Expression → kernel.Statement
  given_statement k n e = plain w n.token true (kernel.Eval (kernel.Set (kernel.Local k) e n.token))

  steady_given : (is_final : Bool) (ty : Ty) (k l : ℕ) (n : Named) (i : Option Initial) → Steady Any (given_first w is_final ty k n i) (given_first w is_final ty l n i)
  steady_given is_final ty k l n Absent = steady_give _ _ any
  steady_given is_final ty k l n (Some i) = steady_bind (steady_expressed _ _) (λ a b r. steady_past (constant_if is_final w.table ty i) (give (given_statement k n a)) (give (given_statement l n b)) (steady_give _ _ any))

  pub steady_declarator : (is_final : Bool) (ty : Ty) (d : Declarator) → Steady Any (declarator w is_final ty d) (declarator w is_final ty d)
  unfolding declarator
  steady_declarator is_final ty d = steady_bind (steady_declaring d.name (with_brackets ty d.brackets) (is_final && is_some d.initial)) (λ k l r. steady_given is_final (with_brackets ty d.brackets) k l d.name d.initial)

  steady_all : (is_final : Bool) (a b : Ty) (all : List Declarator) → a ≡ b → Steady Any (each (declarator w is_final a) all) (each (declarator w is_final b) all)
  steady_all is_final a b all e =
      let P : Ty → Type 0 = λ z. Steady Any (each (declarator w is_final a) all) (each (declarator w is_final z) all) in
      subst P e (steady_each (declarator w is_final a) (steady_declarator is_final a) all)

  pub steady_declarations : (is_final : Bool) (ty : WrittenType) (all : List Declarator) → Steady Any (declarations w is_final ty all) (declarations w is_final ty all)
  unfolding declarations
  steady_declarations is_final ty all = steady_bind (steady_type w.table ty) (λ a b r. steady_all is_final a b all r.same)

  steady_effect : (e : Effect) → Steady Any (effect w e) (effect w e)
  unfolding effect
  steady_effect e = steady_bind (steady_expressed _ _) (λ a b r. steady_give _ _ any)

  pub steady_init : (i : ForInit) → Steady Any (for_init w i) (for_init w i)
  unfolding for_init
  steady_init source.ForInit.Nothing = steady_give _ _ any
  steady_init (source.ForInit.Declared is_final ty all) = steady_declarations is_final ty all
  steady_init (Effects all) = steady_each (effect w) steady_effect all

  steady_throwable : (c site : ℕ) → Steady Any (must_be_throwable w c site) (must_be_throwable w c site)
  steady_throwable c site = steady_if (is_throwable w.judgement c) (steady_give tt tt any) steady_refuse

  unfoldable pub clause_from : (name : Named) (f : Makes kernel.Statement) → ℕ → Makes Clause
  clause_from name f c = declaring name (class_type c) false >>= λ k. must_be_throwable w c name.token >>= λ t. f >>= λ x. give (record { class = c; local = k; block = x })

  steady_clause_from : (name : Named) (f : Makes kernel.Statement) (c : ℕ) → Steady Any f f → Steady Any (clause_from name f c) (clause_from name f c)
  unfolding clause_from
  steady_clause_from name f c h =
      steady_bind (steady_declaring name (class_type c) false)
      (λ k l r. steady_bind (steady_throwable c name.token) (λ x y q. steady_bind h (λ a b s. steady_give _ _ any)))

  steady_from : (name : Named) (f : Makes kernel.Statement) (c d : ℕ) → c ≡ d → Steady Any f f → Steady Any (clause_from name f c) (clause_from name f d)
  steady_from name f c d e h = let P : ℕ → Type 0 = λ z. Steady Any (clause_from name f c) (clause_from name f z) in subst P e (steady_clause_from name f c h)

  pub steady_clause : (class name : Named) (f : Makes kernel.Statement) → Steady Any f f → Steady Any (clause w class name f) (clause w class name f)
  unfolding clause clause_from
  steady_clause class name f h = steady_block (steady_bind {k = clause_from name f} {l = clause_from name f} (steady_class w class name.token) (λ c d r. steady_from name f c d r.same h))

  steady_jumping : (o : Option ℕ) (token : ℕ) → Steady Any (jumping w o token) (jumping w o token)
  steady_jumping (Some n) token = steady_give _ _ any
  steady_jumping Absent token = steady_refuse

  steady_returning : (a : Around) (value : Option Expression) (token : ℕ) → Steady Any (returning w a value token) (returning w a value token)
  steady_returning a Absent token = steady_if (returns_nothing a.outcome) (steady_give _ _ any) steady_refuse
  steady_returning a (Some e) token = steady_bind (steady_expressed _ _) (λ x y r. steady_give _ _ any)

  steady_tested : (test : Option Expression) (site : ℕ) → Steady Any (tested w test site) (tested w test site)
  steady_tested Absent site = steady_give _ _ any
  steady_tested (Some e) site = steady_bind (steady_expressed _ _) (λ x y r. steady_give _ _ any)

  steady_declared : (x : Statement) → Steady Any (declared w x) (declared w x)
  unfolding declared
  steady_declared (Declare is_final ty all) = steady_declarations is_final ty all
  steady_declared _ = steady_give _ _ any

  pub steady_several : (x : Statement) (f : Makes kernel.Statement) → Steady Any f f → Steady Any (several w x f) (several w x f)
  steady_several x f h = steady_if (is_declaration x) (steady_declared x) (steady_bind h (λ a b r. steady_give _ _ any))

  mutual
    unfolding statement other_statement block statements last_block clauses

    pub steady_statement : (a : Around) (x : Statement) → Steady Any (statement w a x) (statement w a x)
    steady_statement a (Block b) = steady_of_block a b
    steady_statement a (Empty token) = steady_give _ _ any
    steady_statement a (Declare is_final ty all) = steady_refuse
    steady_statement a (Perform e) = steady_effect e
    steady_statement a (If test main other token) =
        steady_bind (steady_expressed _ _) (λ c d r. steady_bind (steady_statement (inside a (number w token)) main) (λ x y q. steady_bind (steady_other (inside a (number w token)) other) (λ u v s. steady_give _ _ any)))
    steady_statement a (While test body token) =
        steady_bind (steady_expressed _ _) (λ c d r. steady_bind (steady_statement (in_loop a (number w token) (number w (site_of body))) body) (λ x y q. steady_give _ _ any))
    steady_statement a (Do body test token) =
        steady_bind (steady_statement (in_loop a (number w token) (number w (site_of body))) body) (λ x y q. steady_bind (steady_expressed _ _) (λ c d r. steady_give _ _ any))
    steady_statement a (For init test updates body token) =
        steady_block (steady_bind (steady_init init) (λ i k r. steady_bind (steady_tested test token) (λ c d q. steady_bind (steady_each (effect w) steady_effect updates)
        (λ u v s. steady_bind (steady_statement (in_loop a (number w token) (number w (site_of body))) body) (λ x y p. steady_give _ _ any)))))
    steady_statement a (Labelled name body) =
        steady_if (is_label a name.name) steady_refuse (steady_bind (steady_statement (under_label a name.name (number w name.token) (number_of_body w (body_of_loop body))) body) (λ x y r. steady_give _ _ any))
    steady_statement a (Break label token) = steady_jumping (break_target a label) token
    steady_statement a (Continue label token) = steady_jumping (continue_target a label) token
    steady_statement a (Return value token) = steady_returning a value token
    steady_statement a (Throw value token) = steady_bind (steady_expressed _ _) (λ x y r. steady_give _ _ any)
    steady_statement a (Try main catches last token) =
        steady_bind (steady_of_block (in_first_block a (number w token) catches) main)
        (λ x y r. steady_bind (steady_clauses (inside a (number w token)) catches) (λ u v q. steady_bind (steady_last (inside a (number w token)) last) (λ c d s. steady_give _ _ any)))
    steady_statement a Unknown = steady_refuse

    steady_other : (a : Around) (x : Other) → Steady Any (other_statement w a x) (other_statement w a x)
    steady_other a absent = steady_give _ _ any
    steady_other a (present x) = steady_bind (steady_statement a x) (λ u v r. steady_give _ _ any)

    pub steady_of_block : (a : Around) (b : Braced) → Steady Any (block w a b) (block w a b)
    steady_of_block a (braced brace parts end) = steady_block (steady_bind (steady_row (inside a (number w brace)) parts) (λ x y r. steady_give _ _ any))

    pub steady_row : (a : Around) (parts : Statements) → Steady Any (statements w a parts) (statements w a parts)
    steady_row a done = steady_give _ _ any
    steady_row a (first x rest) = steady_bind (steady_several x (statement w a x) (steady_statement a x)) (λ u v r. steady_bind (steady_row a rest) (λ y z q. steady_give _ _ any))

    steady_last : (a : Around) (x : Last) → Steady Any (last_block w a x) (last_block w a x)
    steady_last a nowhere = steady_give _ _ any
    steady_last a (finally b) = steady_bind (steady_of_block a b) (λ x y r. steady_give _ _ any)

    pub steady_clauses : (a : Around) (all : Catches) → Steady Any (clauses w a all) (clauses w a all)
    steady_clauses a uncaught = steady_give _ _ any
    steady_clauses a (catch is_final class name b rest) = steady_bind (steady_clause class name (block w a b) (steady_of_block a b)) (λ c d r. steady_bind (steady_clauses a rest) (λ x y q. steady_give _ _ any))
