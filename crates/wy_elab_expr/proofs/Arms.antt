-- What an expression becomes, at each of its forms in memory.
use Rattle.std.proofs.Common.{◌≡◌, ap, ℕ, List, map, if◌then◌else◌}
use Rattle.std.specs.Prelude.{string_bytes}
use Rattle.std.specs.declared.alloc.Global.{Global}
use Rattle.std.specs.declared.boxed.Box.{Box}
use Rattle.std.specs.declared.string.String.{String}
use Rattle.std.specs.declared.vec.Vec.{Vec}
use Rattle.wy_kernel.specs.declared.types.Ty.{Ty}
use Rattle.wy_kernel.specs.Form as kernel
use Rattle.wy_kernel.specs.Subtyping.{class_type}
use Rattle.wy_kernel.specs.Table.{Table}
use Rattle.wy_tree.specs.declared.token.Token.{Token}
use Rattle.wy_tree.specs.Seen.{seen}
use Rattle.wy_syntax.specs.declared.expression.Expression.{Expression}
use Rattle.wy_syntax.specs.declared.expression.Element.{Element}
use Rattle.wy_syntax.specs.declared.expression.Expression.TheVariants as form
use Rattle.wy_syntax.specs.declared.expression.Initial.TheVariants as initials
use Rattle.wy_syntax.specs.View.{expression_of, initial_of}
use Rattle.wy_syntax.specs.View.{element_of as element_seen, elements_of as elements_seen}
use Rattle.wy_syntax.proofs.ExpressionViews.{view_literal, view_name, view_this, view_group, view_super_field, view_wrong, view_value, view_listed}
use Rattle.wy_constant.specs.declared.rule.Rule.TheVariants.{BadOperand, NotInStatic}
use Rattle.wy_constant.specs.Scope.{Scope, FixedText}
use Rattle.wy_elab_expr.specs.Meaning.{Formed, give, refuse, ◌>>=◌}
use Rattle.wy_elab_expr.specs.Operators.{Judgement}
use Rattle.wy_elab_expr.specs.Members.{this_form, named, named_spot}
use Rattle.wy_elab_expr.specs.Elaboration.{literal_meaning, or_type, super_spot, read, assigned_value, just, elaborated, elaborated_all, target, elements_of, initialized}
use Rattle.wy_elab_expr.specs.Elaboration.{element_of as element_type}

pub of_literal : (j : Judgement) (t : Table) (s : Scope) (texts : List FixedText) (value : Token) (token : ℕ) → elaborated j t s (expression_of (form.Literal value token)) texts ≡ (literal_meaning (seen value) token) texts
unfolding elaborated target elements_of initialized elaborated_all
of_literal j t s texts value token = ap (λ z. elaborated j t s z texts) (view_literal value token)

pub of_name : (j : Judgement) (t : Table) (s : Scope) (texts : List FixedText) (name : String Global) (token : ℕ) → elaborated j t s (expression_of (form.Name name token)) texts ≡ (named t s (string_bytes name) token) texts
unfolding elaborated target elements_of initialized elaborated_all
of_name j t s texts name token = ap (λ z. elaborated j t s z texts) (view_name name token)

pub of_this : (j : Judgement) (t : Table) (s : Scope) (texts : List FixedText) (token : ℕ) → elaborated j t s (expression_of (form.This token)) texts ≡ (if s.has_this then give (Formed this_form (class_type s.class)) else refuse NotInStatic token) texts
unfolding elaborated target elements_of initialized elaborated_all
of_this j t s texts token = ap (λ z. elaborated j t s z texts) (view_this token)

pub of_group : (j : Judgement) (t : Table) (s : Scope) (texts : List FixedText) (inner : Box Expression Global) (token : ℕ) → elaborated j t s (expression_of (form.Group inner token)) texts ≡ (elaborated j t s (expression_of inner.value)) texts
unfolding elaborated target elements_of initialized elaborated_all
of_group j t s texts inner token = ap (λ z. elaborated j t s z texts) (view_group inner token)

pub of_super_field : (j : Judgement) (t : Table) (s : Scope) (texts : List FixedText) (name : String Global) (token : ℕ) → elaborated j t s (expression_of (form.SuperField name token)) texts ≡ (super_spot t s (string_bytes name) token >>= λ p. give (read p)) texts
unfolding elaborated target elements_of initialized elaborated_all
of_super_field j t s texts name token = ap (λ z. elaborated j t s z texts) (view_super_field name token)

pub of_wrong : (j : Judgement) (t : Table) (s : Scope) (texts : List FixedText) → elaborated j t s (expression_of form.Wrong) texts ≡ (refuse BadOperand 0) texts
unfolding elaborated target elements_of initialized elaborated_all
of_wrong j t s texts = ap (λ z. elaborated j t s z texts) view_wrong

pub at_name : (j : Judgement) (t : Table) (s : Scope) (texts : List FixedText) (name : String Global) (token : ℕ) → target j t s (expression_of (form.Name name token)) texts ≡ (just (named_spot t s (string_bytes name) token)) texts
unfolding elaborated target elements_of initialized elaborated_all
at_name j t s texts name token = ap (λ z. target j t s z texts) (view_name name token)

pub at_group : (j : Judgement) (t : Table) (s : Scope) (texts : List FixedText) (inner : Box Expression Global) (token : ℕ) → target j t s (expression_of (form.Group inner token)) texts ≡ (target j t s (expression_of inner.value)) texts
unfolding elaborated target elements_of initialized elaborated_all
at_group j t s texts inner token = ap (λ z. target j t s z texts) (view_group inner token)

pub at_super_field : (j : Judgement) (t : Table) (s : Scope) (texts : List FixedText) (name : String Global) (token : ℕ) → target j t s (expression_of (form.SuperField name token)) texts ≡ (just (super_spot t s (string_bytes name) token)) texts
unfolding elaborated target elements_of initialized elaborated_all
at_super_field j t s texts name token = ap (λ z. target j t s z texts) (view_super_field name token)

pub first_value : (j : Judgement) (t : Table) (s : Scope) (texts : List FixedText) (ty : Ty) (value : Expression) (token : ℕ) →
    initialized j t s ty (initial_of (initials.Value value)) token texts ≡ (elaborated j t s (expression_of value) >>= λ m. assigned_value j ty m token) texts
unfolding elaborated target elements_of initialized elaborated_all
first_value j t s texts ty value token = ap (λ z. initialized j t s ty z token texts) (view_value value)

pub first_listed : (j : Judgement) (t : Table) (s : Scope) (texts : List FixedText) (ty : Ty) (elements : Vec Element Global) (brace token : ℕ) →
    initialized j t s ty (initial_of (initials.Listed elements brace)) token texts
    ≡ (or_type (element_type ty) brace >>= λ inner. elements_of j t s inner (elements_seen (map element_seen elements.items)) >>= λ all. give (kernel.NewArray ty kernel.none all.forms all.sites brace)) texts
unfolding elaborated target elements_of initialized elaborated_all
first_listed j t s texts ty elements brace token = ap (λ z. initialized j t s ty z token texts) (view_listed elements brace)
