-- Expressions and elements one after another, element by element.
use Rattle.std.proofs.Common.{◌≡◌, ◌∙◌, ap, sym, ℕ, suc, ◌+◌, ◌<◌, ◌≤◌, List, [], ◌∷◌, ◌++◌, length, map, drop, get_or, refl, Result, Ok, Err, add-one, drop-cons, append_assoc, append-nil}
use Rattle.std.proofs.Math.ListN.{drop_of_length-le}
use Rattle.std.proofs.lemmas.List.{map-append}
use Rattle.wy_kernel.specs.Table.{Table}
use Rattle.wy_syntax.specs.declared.expression.Expression.{Expression}
use Rattle.wy_kernel.specs.declared.form.Expr.{Expr}
use Rattle.wy_kernel.specs.declared.types.Ty.{Ty}
use Rattle.wy_kernel.specs.Form as kernel
use Rattle.wy_kernel.specs.View.{expression}
use Rattle.wy_kernel.specs.View.{row_of as kernel_row}
use Rattle.wy_syntax.specs.declared.expression.Element.{Element}
use Rattle.wy_syntax.specs.View.{expression_of, initial_of, row_of}
use Rattle.wy_syntax.specs.View.{element_of as element_seen, elements_of as elements_seen}
use Rattle.wy_syntax.proofs.ExpressionViews.{view_element_at}
use Rattle.wy_constant.specs.declared.rule.TypeError.{TypeError}
use Rattle.wy_constant.specs.declared.rule.TypeError.TheVariants as error
use Rattle.wy_constant.specs.Refusal.{Refusal, Fails}
use Rattle.wy_constant.specs.Scope.{Scope, FixedText}
use Rattle.wy_elab_expr.specs.declared.meaning.Meaning as memory
use Rattle.wy_elab_expr.specs.Meaning.{Meaning, onward}
use Rattle.wy_elab_expr.specs.Operators.{Judgement}
use Rattle.wy_elab_expr.specs.Elaboration.{Listing, listing, elaborated, elaborated_all, elements_of, initialized}
use Rattle.wy_elab_expr.proofs.Rows.{one_more, row_in_front}
use Rattle.wy_elab_expr.specs.Views.{after, behind_elements, in_front, meaning_of}

along : (front : List Meaning) (m : Meaning) (r : Result (List Meaning × List FixedText) Refusal) →
    after front (onward (λ ms texts. Ok (m ∷ ms, texts)) r) ≡ after (front ++ m ∷ []) r
along front m (Ok p) = ap (λ z. Ok (z, p.1)) (sym (append_assoc front (m ∷ []) p.0))
along front m (Err e) = refl

from_here : (args : List Expression) (i : ℕ) (arg : Expression) → i < length args → arg ≡ get_or args i arg → drop i args ≡ arg ∷ drop (i + 1) args
from_here args i arg less is = drop-cons args i arg less ∙ ap (λ z. z ∷ drop (suc i) args) (sym is) ∙ ap (λ k. arg ∷ drop k args) (sym (add-one i))

one : (j : Judgement) (t : Table) (s : Scope) (arg : Expression) (rest : List Expression) (texts : List FixedText) →
    elaborated_all j t s (row_of (map expression_of (arg ∷ rest))) texts
    ≡ onward (λ m later. onward (λ ms u. Ok (m ∷ ms, u)) (elaborated_all j t s (row_of (map expression_of rest)) later)) (elaborated j t s (expression_of arg) texts)
unfolding elaborated elaborated_all
one j t s arg rest texts = refl

pub goes_on : (j : Judgement) (t : Table) (s : Scope) (args : List Expression) (i : ℕ) (arg : Expression) (all new : List memory.Meaning) (m : memory.Meaning) (texts later : List FixedText)
    (r : Result (List Meaning × List FixedText) Refusal) → i < length args → arg ≡ get_or args i arg → elaborated j t s (expression_of arg) texts ≡ Ok (meaning_of m, later) →
    new ≡ all ++ m ∷ [] → after (map meaning_of all) (elaborated_all j t s (row_of (map expression_of (drop i args))) texts) ≡ r →
    after (map meaning_of new) (elaborated_all j t s (row_of (map expression_of (drop (i + 1) args))) later) ≡ r
goes_on j t s args i arg all new m texts later r less here is pushes known =
    ap (λ z. after (map meaning_of z) (elaborated_all j t s (row_of (map expression_of (drop (i + 1) args))) later)) pushes
    ∙ ap (λ z. after z (elaborated_all j t s (row_of (map expression_of (drop (i + 1) args))) later)) (map-append meaning_of all (m ∷ []))
    ∙ sym (along (map meaning_of all) (meaning_of m) (elaborated_all j t s (row_of (map expression_of (drop (i + 1) args))) later))
    ∙ sym (ap (λ z. after (map meaning_of all) (onward (λ x u. onward (λ ms v. Ok (x ∷ ms, v)) (elaborated_all j t s (row_of (map expression_of (drop (i + 1) args))) u)) z)) is)
    ∙ sym (ap (after (map meaning_of all)) (one j t s arg (drop (i + 1) args) texts))
    ∙ sym (ap (λ z. after (map meaning_of all) (elaborated_all j t s (row_of (map expression_of z)) texts)) (from_here args i arg less here))
    ∙ known

pub stops : (j : Judgement) (t : Table) (s : Scope) (args : List Expression) (i : ℕ) (arg : Expression) (all : List memory.Meaning) (texts : List FixedText) (e : TypeError)
    (r : Result (List Meaning × List FixedText) Refusal) → i < length args → arg ≡ get_or args i arg → Fails e (elaborated j t s (expression_of arg) texts) →
    after (map meaning_of all) (elaborated_all j t s (row_of (map expression_of (drop i args))) texts) ≡ r → Fails e r
stops j t s args i arg all texts error.NoMemory r less here is known = tt
stops j t s args i arg all texts (error.Broken rule token) r less here is known =
    sym known
    ∙ ap (λ z. after (map meaning_of all) (elaborated_all j t s (row_of (map expression_of z)) texts)) (from_here args i arg less here)
    ∙ ap (after (map meaning_of all)) (one j t s arg (drop (i + 1) args) texts)
    ∙ ap (λ z. after (map meaning_of all) (onward (λ x u. onward (λ ms v. Ok (x ∷ ms, v)) (elaborated_all j t s (row_of (map expression_of (drop (i + 1) args))) u)) z)) is

pub ends : (j : Judgement) (t : Table) (s : Scope) (args : List Expression) (i : ℕ) (all : List memory.Meaning) (texts : List FixedText)
    (r : Result (List Meaning × List FixedText) Refusal) → length args ≤ i →
    after (map meaning_of all) (elaborated_all j t s (row_of (map expression_of (drop i args))) texts) ≡ r → r ≡ Ok (map meaning_of all, texts)
unfolding elaborated elaborated_all
ends j t s args i all texts r beyond known =
    sym known
    ∙ ap (λ z. after (map meaning_of all) (elaborated_all j t s (row_of (map expression_of z)) texts)) (drop_of_length-le args beyond)
    ∙ ap (λ z. Ok (z, texts)) (append-nil (map meaning_of all))

-- ---- the elements of an array initializer

along_elements : (front : List kernel.Expression) (sites : List ℕ) (e : kernel.Expression) (before : ℕ) (r : Result (Listing × List FixedText) Refusal) →
    behind_elements front sites (onward (λ all texts. Ok (listing (kernel.more e all.forms) (before ∷ all.sites), texts)) r) ≡ behind_elements (front ++ e ∷ []) (sites ++ before ∷ []) r
along_elements front sites e before (Ok p) =
    ap (λ z. Ok (listing z (sites ++ before ∷ p.0.sites), p.1)) (one_more front e p.0.forms)
    ∙ ap (λ z. Ok (listing (in_front (front ++ e ∷ []) p.0.forms) z, p.1)) (sym (append_assoc sites (before ∷ []) p.0.sites))
along_elements front sites e before (Err f) = refl

element_here : (elements : List Element) (i : ℕ) (el : Element) → i < length elements → el ≡ get_or elements i el → drop i elements ≡ el ∷ drop (i + 1) elements
element_here elements i el less is = drop-cons elements i el less ∙ ap (λ z. z ∷ drop (suc i) elements) (sym is) ∙ ap (λ k. el ∷ drop k elements) (sym (add-one i))

one_element : (j : Judgement) (t : Table) (s : Scope) (ty : Ty) (el : Element) (rest : List Element) (texts : List FixedText) →
    elements_of j t s ty (elements_seen (map element_seen (el ∷ rest))) texts
    ≡ onward (λ e later. onward (λ all u. Ok (listing (kernel.more e all.forms) (el.before ∷ all.sites), u)) (elements_of j t s ty (elements_seen (map element_seen rest)) later)) (initialized j t s ty (initial_of el.initial) el.before texts)
unfolding elaborated elements_of initialized
one_element j t s ty el rest texts = ap (λ z. elements_of j t s ty z texts) (view_element_at el (elements_seen (map element_seen rest)))

pub elements_go : (j : Judgement) (t : Table) (s : Scope) (ty : Ty) (elements : List Element) (i : ℕ) (el : Element) (forms new : List Expr) (sites more_sites : List ℕ) (e : Expr)
    (texts later : List FixedText) (r : Result (Listing × List FixedText) Refusal) → i < length elements → el ≡ get_or elements i el →
    initialized j t s ty (initial_of el.initial) el.before texts ≡ Ok (expression e, later) → new ≡ forms ++ e ∷ [] → more_sites ≡ sites ++ el.before ∷ [] →
    behind_elements (map expression forms) sites (elements_of j t s ty (elements_seen (map element_seen (drop i elements))) texts) ≡ r →
    behind_elements (map expression new) more_sites (elements_of j t s ty (elements_seen (map element_seen (drop (i + 1) elements))) later) ≡ r
elements_go j t s ty elements i el forms new sites more_sites e texts later r less here is pushes stays known =
    let rest : List FixedText → Result (Listing × List FixedText) Refusal = λ u. elements_of j t s ty (elements_seen (map element_seen (drop (i + 1) elements))) u in
    ap (λ z. behind_elements (map expression z) more_sites (rest later)) pushes
    ∙ ap (λ z. behind_elements z more_sites (rest later)) (map-append expression forms (e ∷ []))
    ∙ ap (λ z. behind_elements (map expression forms ++ expression e ∷ []) z (rest later)) stays
    ∙ sym (along_elements (map expression forms) sites (expression e) el.before (rest later))
    ∙ sym (ap (λ z. behind_elements (map expression forms) sites (onward (λ x u. onward (λ all v. Ok (listing (kernel.more x all.forms) (el.before ∷ all.sites), v)) (rest u)) z)) is)
    ∙ sym (ap (behind_elements (map expression forms) sites) (one_element j t s ty el (drop (i + 1) elements) texts))
    ∙ sym (ap (λ z. behind_elements (map expression forms) sites (elements_of j t s ty (elements_seen (map element_seen z)) texts)) (element_here elements i el less here))
    ∙ known

pub elements_stop : (j : Judgement) (t : Table) (s : Scope) (ty : Ty) (elements : List Element) (i : ℕ) (el : Element) (forms : List Expr) (sites : List ℕ)
    (texts : List FixedText) (e : TypeError) (r : Result (Listing × List FixedText) Refusal) → i < length elements → el ≡ get_or elements i el →
    Fails e (initialized j t s ty (initial_of el.initial) el.before texts) →
    behind_elements (map expression forms) sites (elements_of j t s ty (elements_seen (map element_seen (drop i elements))) texts) ≡ r → Fails e r
elements_stop j t s ty elements i el forms sites texts error.NoMemory r less here is known = tt
elements_stop j t s ty elements i el forms sites texts (error.Broken rule token) r less here is known =
    let rest : List FixedText → Result (Listing × List FixedText) Refusal = λ u. elements_of j t s ty (elements_seen (map element_seen (drop (i + 1) elements))) u in
    sym known
    ∙ ap (λ z. behind_elements (map expression forms) sites (elements_of j t s ty (elements_seen (map element_seen z)) texts)) (element_here elements i el less here)
    ∙ ap (behind_elements (map expression forms) sites) (one_element j t s ty el (drop (i + 1) elements) texts)
    ∙ ap (λ z. behind_elements (map expression forms) sites (onward (λ x u. onward (λ all v. Ok (listing (kernel.more x all.forms) (el.before ∷ all.sites), v)) (rest u)) z)) is

pub elements_end : (j : Judgement) (t : Table) (s : Scope) (ty : Ty) (elements : List Element) (i : ℕ) (forms : List Expr) (sites : List ℕ) (texts : List FixedText)
    (r : Result (Listing × List FixedText) Refusal) → length elements ≤ i →
    behind_elements (map expression forms) sites (elements_of j t s ty (elements_seen (map element_seen (drop i elements))) texts) ≡ r →
    r ≡ Ok (listing (kernel_row (map expression forms)) sites, texts)
unfolding elaborated elements_of initialized
elements_end j t s ty elements i forms sites texts r beyond known =
    sym known
    ∙ ap (λ z. behind_elements (map expression forms) sites (elements_of j t s ty (elements_seen (map element_seen z)) texts)) (drop_of_length-le elements beyond)
    ∙ ap (λ z. Ok (listing z (sites ++ []), texts)) (row_in_front (map expression forms))
    ∙ ap (λ z. Ok (listing (kernel_row (map expression forms)) z, texts)) (append-nil sites)
