-- A statement is refused where an expression, a declaration or a clause in it is.
use Rattle.std.proofs.Common.{◌≡◌, ◌∙◌, sym, subst, refl, ℕ, true, false, List, [], ◌∷◌, Ok, Option, Some, inl, inr}
use Rattle.std.specs.List.{Contains}
use Rattle.wy_kernel.specs.Form as kernel
use Rattle.wy_syntax.specs.Syntax.{Expression, Effect, ForInit, Statement, Block, Empty, Declare, Perform, If, While, Do, For, Labelled, Break, Continue, Return, Throw, Try, Unknown}
use Rattle.wy_constant.specs.Scope.{Scope, opened}
use Rattle.wy_elab_expr.specs.Elaboration.{elaborated}
use Rattle.wy_elab_body.specs.Making.{Making, Makes, give, ◌>>=◌, each}
use Rattle.wy_elab_body.specs.Parts.{condition, performed}
use Rattle.wy_elab_body.specs.Jumps.{Around, in_loop}
use Rattle.wy_elab_body.specs.Statements.{Setting, plain, targets_in, looping, row_of, number, site_of, effect, effects, for_init, tested, is_declaration, several, statement}
use Rattle.law_refusals.proofs.Contained.{contains_none, contains_cases}
use Rattle.law_refusals.proofs.BodyParts.{after_expressed, effects_keep, tested_keeps}
use Rattle.law_refusals.specs.Surroundings.{Leads, Lists, InDeclarators, declaring_scope, Declares, Begins, Evaluates, Tests}
use Rattle.law_refusals.specs.Surroundings as standing
use Rattle.law_refusals.proofs.Never.{Never}
use Rattle.law_refusals.proofs.Makes.{made, NeverIn, in_refuse, in_if, in_first, in_bind, in_expressed, in_opened, in_unbuilt}
use Rattle.law_refusals.proofs.Printing.{in_effect}
use Rattle.law_refusals.proofs.Steadies as steady

-- what leaves the scope as it is
pub in_kept : {A B : Type 0} {s : Scope} (f : Makes A) (k : A → Makes B) → ((m : Making) (a : A) (n : Making) → f m ≡ Ok (a, n) → n.scope ≡ m.scope) → ((a : A) → NeverIn s (k a)) → NeverIn s (f >>= k)
in_kept f k keeps h = record {
  at = λ m same b n e. (
      let x = made f k m b n e in
      (h x.value).at x.between (keeps m x.value x.between x.first ∙ same) b n x.second);
}

module _ (w : Setting) where
  effect_keeps : (e : Effect) (m : Making) (x : kernel.Statement) (n : Making) → effect w e m ≡ Ok (x, n) → n.scope ≡ m.scope
  unfolding effect
  effect_keeps e m x n h = after_expressed (performed w.judgement w.table e.value) (λ act. plain w e.token true act) m x n h

  pub in_effects : (s : Scope) (all : List Effect) (e : Effect) → Contains all e → Never (elaborated w.judgement w.table s e.value) → NeverIn s (effects w all)
  unfolding each
  in_effects s [] e h n = absurd (contains_none h)
  in_effects s (d ∷ rest) e h n =
      elim (contains_cases d e rest h) [
        | inl same ↦ in_first (λ x. effects w rest >>= λ xs. give (x ∷ xs)) (in_effect w s d (subst (λ (z : Effect). Never (elaborated w.judgement w.table s z.value)) (sym same) n))
        | inr k ↦ in_kept (effect w d) (λ x. effects w rest >>= λ xs. give (x ∷ xs)) (effect_keeps d) (λ x. in_first (λ xs. give (x ∷ xs)) (in_effects s rest e k n))
      ]

  module _ (a : Around) (s : Scope) where
    -- the statement is refused, in a block where it is a declaration
    abbrev pub Refused : Statement → Type 0
    Refused x = NeverIn s (several w x (statement w a x))

    pub as_statement : (x : Statement) → is_declaration x ≡ false → NeverIn s (statement w a x) → Refused x
    as_statement x e n = in_if {x = is_declaration x} (λ h. absurd (cc)) (λ h. in_first (λ y. give (y ∷ [])) n)

    -- outside a block a declaration is refused anyway
    pub statement_of : (x : Statement) → Refused x → NeverIn s (statement w a x)
    unfolding is_declaration statement
    statement_of (Declare is_final ty all) n = in_refuse
    statement_of (Block b) n = in_unbuilt (statement w a (Block b)) (λ y. y ∷ []) n
    statement_of (Empty token) n = in_unbuilt (statement w a (Empty token)) (λ y. y ∷ []) n
    statement_of (Perform e) n = in_unbuilt (statement w a (Perform e)) (λ y. y ∷ []) n
    statement_of (If test main other token) n = in_unbuilt (statement w a (If test main other token)) (λ y. y ∷ []) n
    statement_of (While test body token) n = in_unbuilt (statement w a (While test body token)) (λ y. y ∷ []) n
    statement_of (Do body test token) n = in_unbuilt (statement w a (Do body test token)) (λ y. y ∷ []) n
    statement_of (For init test updates body token) n = in_unbuilt (statement w a (For init test updates body token)) (λ y. y ∷ []) n
    statement_of (Labelled name body) n = in_unbuilt (statement w a (Labelled name body)) (λ y. y ∷ []) n
    statement_of (Break label token) n = in_unbuilt (statement w a (Break label token)) (λ y. y ∷ []) n
    statement_of (Continue label token) n = in_unbuilt (statement w a (Continue label token)) (λ y. y ∷ []) n
    statement_of (Return value token) n = in_unbuilt (statement w a (Return value token)) (λ y. y ∷ []) n
    statement_of (Throw value token) n = in_unbuilt (statement w a (Throw value token)) (λ y. y ∷ []) n
    statement_of (Try main catches last token) n = in_unbuilt (statement w a (Try main catches last token)) (λ y. y ∷ []) n
    statement_of Unknown n = in_refuse

    -- ---- loops

    pub for_rest : Option Expression → List Effect → Statement → ℕ → List kernel.Statement → Makes kernel.Statement
    for_rest test updates body token is =
        tested w test token >>= λ c. effects w updates >>= λ us. statement w (in_loop a (number w token) (number w (site_of body))) body
        >>= λ x. give (looping w a token c (targets_in a x) (kernel.For (row_of is) c (row_of us) x))

    pub in_for : (init : ForInit) (test : Option Expression) (updates : List Effect) (body : Statement) (token : ℕ) (there : Scope) → Leads (for_init w init) (opened s) there →
        ((is : List kernel.Statement) → NeverIn there (for_rest test updates body token is)) → Refused (For init test updates body token)
    unfolding is_declaration statement for_rest
    in_for init test updates body token there leads n =
        as_statement (For init test updates body token) refl (in_opened (for_init w init >>= for_rest test updates body token) (in_bind (for_init w init) (for_rest test updates body token) leads (steady.steady_init w init) n))

    pub in_for_body : (init : ForInit) (test : Option Expression) (updates : List Effect) (body : Statement) (token : ℕ) (there : Scope) → Leads (for_init w init) (opened s) there →
        NeverIn there (statement w (in_loop a (number w token) (number w (site_of body))) body) → Refused (For init test updates body token)
    unfolding for_rest
    in_for_body init test updates body token there leads n =
        in_for init test updates body token there leads
        (λ is. in_kept (tested w test token) _ (tested_keeps w test token) (λ c. in_kept (effects w updates) _ (effects_keep w updates) (λ us. in_first _ n)))

    pub in_for_update : (init : ForInit) (test : Option Expression) (updates : List Effect) (body : Statement) (token : ℕ) (there : Scope) (e : Effect) → Leads (for_init w init) (opened s) there → Contains updates e →
        Never (elaborated w.judgement w.table there e.value) → Refused (For init test updates body token)
    unfolding for_rest
    in_for_update init test updates body token there e leads h n =
        in_for init test updates body token there leads (λ is. in_kept (tested w test token) _ (tested_keeps w test token) (λ c. in_first _ (in_effects there updates e h n)))

    -- ---- tests

    pub at_test : {x : Statement} {there : Scope} {e : Expression} {token : ℕ} → Tests w a s x there e token → Never (condition w.judgement w.table e token there) → Refused x
    unfolding is_declaration statement for_rest
    at_test (standing.of_if {test = test} {main = main} {other = other} {token = token}) n = as_statement (If test main other token) refl (in_first _ (in_expressed (condition w.judgement w.table test token) n))
    at_test (standing.Tests.of_while {test = test} {body = body} {token = token}) n = as_statement (While test body token) refl (in_first _ (in_expressed (condition w.judgement w.table test token) n))
    at_test (standing.Tests.of_do {test = test} {body = body} {token = token} leads) n =
        as_statement (Do body test token) refl
        (in_bind (statement w (in_loop a (number w token) (number w (site_of body))) body) _ leads (steady.steady_statement w (in_loop a (number w token) (number w (site_of body))) body)
        (λ x. in_first _ (in_expressed (condition w.judgement w.table test token) n)))
    at_test (standing.Tests.of_for {init = init} {test = test} {updates = updates} {body = body} {token = token} {there = there} leads) n =
        in_for init (Some test) updates body token there leads (λ is. in_first _ (in_first _ (in_expressed (condition w.judgement w.table test token) n)))
