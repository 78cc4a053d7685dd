-- A statement is refused where a declaration, a clause or a statement in it is.
use Rattle.std.proofs.Common.{◌≡◌, sym, subst, refl, ℕ, Bool, true, false, List, ◌∷◌, Ok, Option, Some}
use Rattle.std.specs.Prelude.{◌&&◌, is_some, if◌then◌else◌}
use Rattle.std.specs.Prelude.{None as Absent}
use Rattle.wy_kernel.specs.Form as kernel
use Rattle.wy_kernel.specs.declared.types.Ty.{Ty}
use Rattle.wy_kernel.specs.Subtyping.{class_type}
use Rattle.wy_syntax.specs.Syntax.{Expression, InvokeOn, Row, Initial, Value, Listed, Elements, Named, WrittenType, Declarator, Effect, ForInit, Effects, Statement, Block, Empty, Declare, Perform, If, While, Do, For, Labelled, Break, Continue, Return, Throw, Try, Unknown, Braced, braced, Statements, done, first, Other, absent, present, Last, nowhere, finally, Catches, uncaught, catch}
use Rattle.wy_syntax.specs.Syntax as source
use Rattle.wy_constant.specs.declared.rule.Rule.TheVariants.{BadOperand}
use Rattle.wy_constant.specs.Scope.{Scope, Variable, denoted, opened}
use Rattle.wy_constant.specs.Fields.{class_named}
use Rattle.wy_elab_expr.specs.Meaning.{give as given}
use Rattle.wy_elab_expr.specs.Elaboration.{type_written, with_brackets, initialized}
use Rattle.wy_elab_body.specs.Making.{Making, Makes, give, refuse, ◌>>=◌, declaring, each}
use Rattle.wy_elab_body.specs.Parts.{caught_class, is_throwable, condition}
use Rattle.wy_elab_body.specs.Jumps.{Around, inside, in_loop, under_label}
use Rattle.wy_elab_body.specs.Statements.{Setting, number, site_of, in_first_block, given_first, declarator, declarations, for_init, clause, is_declaration, declared, must_be_throwable, is_label, body_of_loop, number_of_body, several, statement, other_statement, block, statements, last_block, clauses}
use Rattle.law_refusals.specs.Found.{IsType, IsNoType}
use Rattle.law_refusals.proofs.BodyParts.{after_give}
use Rattle.law_refusals.specs.Surroundings.{InRow, InBlock, within, InClause, HasPart, InClauses, HasClause, Leads, Lists, InDeclarators, declaring_scope, Declares, Begins, Evaluates, Tests}
use Rattle.law_refusals.specs.Surroundings as standing
use Rattle.law_refusals.proofs.Never.{Never}
use Rattle.law_refusals.proofs.AcceptedSteps.{class_found, never_written}
use Rattle.law_refusals.proofs.Makes.{NeverIn, in_refuse, in_if, in_first, in_bind, in_expressed, past_expressed, in_opened, in_declared, steady_declaring}
use Rattle.law_refusals.proofs.Placed.{Refused, in_kept, as_statement, statement_of, in_for_body}
use Rattle.law_refusals.proofs.Steadies.{clause_from}
use Rattle.law_refusals.proofs.Steadies as steady

module _ (w : Setting) where
  -- ---- declarations

  in_each : {is_final : Bool} {ty : Ty} {s : Scope} {all : List Declarator} {there : Scope} {d : Declarator} → InDeclarators w is_final ty s all there d → NeverIn there (declarator w is_final ty d) → NeverIn s (each (declarator w is_final ty) all)
  unfolding each
  in_each {is_final = is_final} {ty = ty} (standing.InDeclarators.here {rest = rest}) n = in_first (λ x. each (declarator w is_final ty) rest >>= λ xs. give (x ∷ xs)) n
  in_each {is_final = is_final} {ty = ty} (standing.InDeclarators.later {other = other} {rest = rest} leads among) n =
      in_bind (declarator w is_final ty other) (λ x. each (declarator w is_final ty) rest >>= λ xs. give (x ∷ xs)) leads (steady.steady_declarator w is_final ty other) (λ x. in_first (λ xs. give (x ∷ xs)) (in_each among n))

  in_declarations : {is_final : Bool} (written : WrittenType) {base : Ty} {s : Scope} {all : List Declarator} {there : Scope} {d : Declarator} → IsType w.table written.base written.brackets base →
      InDeclarators w is_final base s all there d → NeverIn there (declarator w is_final base d) → NeverIn s (declarations w is_final written all)
  unfolding declarations
  in_declarations {is_final = is_final} written {base = base} {s = s} {all = all} is among n =
      past_expressed (λ z. type_written w.table written) (λ ty. each (declarator w is_final ty) all)
      (λ ty u v e. (
      let same : base ≡ ty = steady.one_as_written w.table written base ty u v is e in
      let P : Ty → Type 0 = λ z. NeverIn s (each (declarator w is_final z) all) in
      subst P same (in_each among n)))

  never_declared_type : {s : Scope} (is_final : Bool) (written : WrittenType) (all : List Declarator) → IsNoType w.table written.base → NeverIn s (declarations w is_final written all)
  unfolding declarations
  never_declared_type {s} is_final written all none = in_first (λ ty. each (declarator w is_final ty) all) (in_expressed (λ z. type_written w.table written) (never_written w.judgement w.table s written none))

  module _ (a : Around) (s : Scope) where
    by_lists : {x : Statement} {is_final : Bool} {written : WrittenType} {all : List Declarator} → Lists x is_final written all → NeverIn (declaring_scope x s) (declarations w is_final written all) → Refused w a s x
    unfolding is_declaration statement declared for_init
    by_lists (standing.local {is_final = is_final} {ty = ty} {all = all}) n = n
    by_lists (standing.Lists.of_for {is_final = is_final} {ty = ty} {all = all} {test = test} {updates = updates} {body = body} {token = token}) n =
        as_statement w a s (For (source.ForInit.Declared is_final ty all) test updates body token) refl (in_opened _ (in_first _ n))

    pub at_type : {x : Statement} {is_final : Bool} {written : WrittenType} {all : List Declarator} → Lists x is_final written all → IsNoType w.table written.base → Refused w a s x
    at_type {is_final = is_final} {written = written} {all = all} lists none = by_lists lists (never_declared_type is_final written all none)

    at_declarator : {x : Statement} {is_final : Bool} {ty : Ty} {there : Scope} {d : Declarator} (h : Declares w s x is_final ty there d) → NeverIn there (declarator w is_final h.base d) → Refused w a s x
    at_declarator h n = by_lists h.lists (in_declarations h.written h.is_type h.among n)

    pub at_again : {x : Statement} {is_final : Bool} {ty : Ty} {there : Scope} {d : Declarator} {v : Variable} → Declares w s x is_final ty there d → denoted there d.name.name ≡ Some v → Refused w a s x
    unfolding declarator
    at_again {is_final = is_final} {d = d} {v = v} h e =
        at_declarator h (in_first (λ k. given_first w is_final (with_brackets h.base d.brackets) k d.name d.initial) (in_declared d.name (with_brackets h.base d.brackets) (is_final && is_some d.initial) v e))

    in_given : {there : Scope} (is_final : Bool) (ty : Ty) (k : ℕ) (n : Named) (o : Option Initial) (i : Initial) → o ≡ Some i → Never (initialized w.judgement w.table there ty i n.token) → NeverIn there (given_first w is_final ty k n o)
    in_given {there} is_final ty k n (Some j) i e h =
        let same : i ≡ j = cc in
        let P : Initial → Type 0 = λ z. Never (initialized w.judgement w.table there ty z n.token) in
        in_first _ (in_expressed (λ z. initialized w.judgement w.table z ty j n.token) (subst P same h))
    in_given is_final ty k n Absent i e h = absurd (cc)

    in_declarator : {between there : Scope} (is_final : Bool) (base : Ty) (ty : Ty) (d : Declarator) (i : Initial) → with_brackets base d.brackets ≡ ty → Leads (declaring d.name ty (is_final && is_some d.initial)) between there → d.initial ≡ Some i →
        Never (initialized w.judgement w.table there ty i d.name.token) → NeverIn between (declarator w is_final base d)
    unfolding declarator
    in_declarator {between} {there} is_final base ty d i e leads given n =
        let P : Ty → Type 0 = λ z. NeverIn between (declaring d.name z (is_final && is_some d.initial) >>= λ k. given_first w is_final z k d.name d.initial) in
        subst P (sym e) (in_bind (declaring d.name ty (is_final && is_some d.initial)) (λ k. given_first w is_final ty k d.name d.initial) leads (steady_declaring d.name ty (is_final && is_some d.initial)) (λ k. in_given is_final ty k d.name d.initial i given n))

    pub at_initial : {x : Statement} {is_final : Bool} {ty : Ty} {there : Scope} {d : Declarator} {i : Initial} → Begins w s x is_final ty there d i → Never (initialized w.judgement w.table there ty i d.name.token) → Refused w a s x
    at_initial {is_final = is_final} {ty = ty} {d = d} {i = i} h n = at_declarator h.declares (in_declarator is_final h.declares.base ty d i h.declares.same h.leads h.given n)

    -- ---- clauses

    in_clauses : {around : Around} {begin there : Scope} {all : Catches} {class name : Named} → InClauses w around begin all there class name → ((f : Makes kernel.Statement) → NeverIn there (clause w class name f)) → NeverIn begin (clauses w around all)
    unfolding clauses
    in_clauses {around = around} (standing.InClauses.here {b = b}) n = in_first _ (n (block w around b))
    in_clauses {around = around} (standing.InClauses.later {own_class = own_class} {own_name = own_name} {b = b} leads rest) n =
        in_bind (clause w own_class own_name (block w around b)) _ leads (steady.steady_clause w own_class own_name (block w around b) (steady.steady_of_block w around b)) (λ c. in_first _ (in_clauses rest n))

    pub at_clause : {x : Statement} {there : Scope} {class name : Named} → HasClause w a s x there class name → ((f : Makes kernel.Statement) → NeverIn there (clause w class name f)) → Refused w a s x
    unfolding is_declaration statement
    at_clause (standing.HasClause.of_try {main = main} {catches = catches} {last = last} {token = token} leads among) n =
        as_statement w a s (Try main catches last token) refl
        (in_bind (block w (in_first_block a (number w token) catches) main) _ leads (steady.steady_of_block w (in_first_block a (number w token) catches) main) (λ x. in_first _ (in_clauses among n)))

    -- ---- statements in statements

    pub in_row : {around : Around} {begin there : Scope} {all : Statements} {part : Statement} → InRow w around begin all there part → Refused w around there part → NeverIn begin (statements w around all)
    unfolding statements
    in_row {around = around} (standing.InRow.here {x = x}) n = in_first _ n
    in_row {around = around} (standing.InRow.later {x = x} leads rest) n =
        in_bind (several w x (statement w around x)) _ leads (steady.steady_several w x (statement w around x) (steady.steady_statement w around x)) (λ u. in_first _ (in_row rest n))

    pub in_block_part : {outer around : Around} {begin there : Scope} {b : Braced} {part : Statement} → InBlock w outer begin b around there part → Refused w around there part → NeverIn begin (block w outer b)
    unfolding block
    in_block_part (standing.within row) n = in_opened _ (in_first _ (in_row row n))

    pub class_known : {begin : Scope} (class name : Named) (c : ℕ) (f : Makes kernel.Statement) → class_named w.table.classes class.name ≡ Some c → NeverIn (opened begin) (clause_from w name f c) → NeverIn begin (clause w class name f)
    unfolding clause caught_class clause_from
    class_known {begin} class name c f e n =
        in_opened _ (past_expressed (caught_class w.judgement w.table class name.token) (clause_from w name f) (λ d u v is. (
        let other : class_named w.table.classes class.name ≡ Some d = class_found (class_named w.table.classes class.name) class.token d u v is in
        let same : c ≡ d = cc in
        let P : ℕ → Type 0 = λ z. NeverIn (opened begin) (clause_from w name f z) in
        subst P same n)))

    throwable_keeps : (c site : ℕ) (m : Making) (x : Unit {0}) (n : Making) → must_be_throwable w c site m ≡ Ok (x, n) → n.scope ≡ m.scope
    throwable_keeps c site m x n e = kept_if (is_throwable w.judgement c) e
      where
        kept_if : (b : Bool) → (if b then give tt else refuse BadOperand site) m ≡ Ok (x, n) → n.scope ≡ m.scope
        kept_if true h = after_give tt x m n h
        kept_if false h = absurd (cc)

    in_clause : {outer around : Around} {begin there : Scope} {all : Catches} {part : Statement} → InClause w outer begin all around there part → Refused w around there part → NeverIn begin (clauses w outer all)
    unfolding clauses clause_from
    in_clause {outer = outer} (standing.InClause.here {class = class} {name = name} {b = b} {c = c} e leads h) n =
        in_first _ (class_known class name c (block w outer b) e
        (in_bind (declaring name (class_type c) false) _ leads (steady_declaring name (class_type c) false)
        (λ k. in_kept (must_be_throwable w c name.token) _ (throwable_keeps c name.token) (λ t. in_first _ (in_block_part h n)))))
    in_clause {outer = outer} (standing.InClause.later {class = class} {name = name} {b = b} leads rest) n =
        in_bind (clause w class name (block w outer b)) _ leads (steady.steady_clause w class name (block w outer b) (steady.steady_of_block w outer b)) (λ c. in_first _ (in_clause rest n))

    pub at_part : {x y : Statement} {around : Around} {there : Scope} → HasPart w a s x around there y → Refused w around there y → Refused w a s x
    unfolding is_declaration statement other_statement last_block
    at_part (standing.of_block {b = b} h) n = as_statement w a s (Block b) refl (in_block_part h n)
    at_part (standing.if_true {test = test} {main = main} {other = other} {token = token}) n =
        as_statement w a s (If test main other token) refl
        (past_expressed (condition w.judgement w.table test token) _ (λ c u v is. in_first _ (statement_of w (inside a (number w token)) s main n)))
    at_part (standing.if_false {test = test} {main = main} {other = other} {token = token} {there = there} leads) n =
        as_statement w a s (If test main (present other) token) refl
        (past_expressed (condition w.judgement w.table test token) _ (λ c u v is.
        in_bind (statement w (inside a (number w token)) main) _ leads (steady.steady_statement w (inside a (number w token)) main) (λ x. in_first _ (in_first _ (statement_of w (inside a (number w token)) there other n)))))
    at_part (standing.HasPart.of_while {test = test} {body = body} {token = token}) n =
        as_statement w a s (While test body token) refl
        (past_expressed (condition w.judgement w.table test token) _ (λ c u v is. in_first _ (statement_of w (in_loop a (number w token) (number w (site_of body))) s body n)))
    at_part (standing.HasPart.of_do {test = test} {body = body} {token = token}) n =
        as_statement w a s (Do body test token) refl (in_first _ (statement_of w (in_loop a (number w token) (number w (site_of body))) s body n))
    at_part (standing.HasPart.of_for {init = init} {test = test} {updates = updates} {body = body} {token = token} {there = there} leads) n =
        in_for_body w a s init test updates body token there leads (statement_of w (in_loop a (number w token) (number w (site_of body))) there body n)
    at_part (standing.of_label {name = name} {body = body}) n =
        as_statement w a s (Labelled name body) refl
        (in_if {x = is_label a name.name} (λ e. in_refuse) (λ e. in_first _ (statement_of w (under_label a name.name (number w name.token) (number_of_body w (body_of_loop body))) s body n)))
    at_part (standing.HasPart.of_try {main = main} {catches = catches} {last = last} {token = token} h) n = as_statement w a s (Try main catches last token) refl (in_first _ (in_block_part h n))
    at_part (standing.HasPart.of_clause {main = main} {catches = catches} {last = last} {token = token} leads h) n =
        as_statement w a s (Try main catches last token) refl
        (in_bind (block w (in_first_block a (number w token) catches) main) _ leads (steady.steady_of_block w (in_first_block a (number w token) catches) main) (λ x. in_first _ (in_clause h n)))
    at_part (standing.of_finally {main = main} {b = b} {catches = catches} {token = token} leads more h) n =
        as_statement w a s (Try main catches (finally b) token) refl
        (in_bind (block w (in_first_block a (number w token) catches) main) _ leads (steady.steady_of_block w (in_first_block a (number w token) catches) main)
        (λ x. in_bind (clauses w (inside a (number w token)) catches) _ more (steady.steady_clauses w (inside a (number w token)) catches) (λ cs. in_first _ (in_first _ (in_block_part h n)))))
