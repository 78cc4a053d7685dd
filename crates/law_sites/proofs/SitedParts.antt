-- What statements make of the expressions in them has its sites at the tokens of what is written.
use Rattle.std.proofs.Common.{ℕ, List}
use Rattle.std.specs.Prelude.{Option, Some, None, slice_get}
use Rattle.wy_kernel.specs.Form as kernel
use Rattle.wy_kernel.specs.Program.{Method}
use Rattle.wy_kernel.specs.Statements.{statements_within}
use Rattle.wy_kernel.specs.Table.{Table}
use Rattle.wy_syntax.specs.Syntax.{Expression, Row}
use Rattle.wy_syntax.specs.Syntax as source
use Rattle.wy_constant.specs.declared.rule.Rule.TheVariants.{BadOperand, BadReturn, NoMethod, Private}
use Rattle.wy_constant.specs.Scope.{Scope}
use Rattle.wy_elab_expr.specs.Meaning.{Meaning, type_of, formed, brought}
use Rattle.wy_elab_expr.specs.Meaning as found
use Rattle.wy_elab_expr.specs.Operators.{Judgement, is_boolean, boolean_type, is_void, is_assignable}
use Rattle.wy_elab_expr.specs.Members.{is_outside, brought_all, method_for}
use Rattle.wy_elab_expr.specs.Elaboration.{Printed, print_operand, elaborated, elaborated_all}
use Rattle.wy_elab_body.specs.Parts.{Outcome, NoValue, ValueOf, NoReturn, condition, performed, printing, evaluated, is_output_call, print_of, returned_as, returned, thrown, constructor_form, constructed_by, constructor_called, constructor_call}
use Rattle.law_structure.proofs.Yields.{Yields, given, refused_found, anything, then_found, of_choice}
use Rattle.wy_typing.specs.Sites.{Sited, RowSited, ActSited, AllSited}
use Rattle.law_sites.proofs.Tokens.{Tokens, RowTokens}
use Rattle.law_sites.proofs.Forms.{MeaningSited, MeaningsSited, brought_sited, formed_sited}
use Rattle.law_sites.proofs.Members.{brought_all_sited}
use Rattle.law_sites.proofs.Expressions.{PrintedSited, elaborated_sited, elaborated_all_sited, operand_sited}

-- a form, and the statements within it
abbrev pub WholeActSited : (ℕ → Type 0) → kernel.Act → Type 0
WholeActSited P act = ActSited P act × AllSited P (statements_within act)

-- ---- conditions

pub condition_sited : (P : ℕ → Type 0) (j : Judgement) (t : Table) (e : Expression) (site : ℕ) → Tokens P e → (s : Scope) → Yields (condition j t e site s) (Sited P)
unfolding condition
condition_sited P j t e site h s =
    then_found (elaborated j t s e) _ (MeaningSited P) (Sited P) (elaborated_sited P j t s e h) (λ m i.
    of_choice (is_boolean (type_of m)) (brought boolean_type m) (found.refuse BadOperand site) (Sited P) (brought_sited P boolean_type m i) (refused_found (Sited P) BadOperand site))

-- ---- expressions that are statements

print_sited : (P : ℕ → Type 0) (name : List ℕ) (token : ℕ) (p : Option Printed) → P token → PrintedSited P p → WholeActSited P (print_of name token p)
print_sited P name token None h i = ((h, tt), tt)
print_sited P name token (Some p) h i = ((h, i), tt)

printing_sited : (P : ℕ → Type 0) (j : Judgement) (t : Table) (s : Scope) (e : Expression) → Tokens P e → Yields (printing j t s e) (WholeActSited P)
unfolding printing
printing_sited P j t s (source.InvokeOn object name args token) h =
    then_found (elaborated_all j t s args) _ (MeaningsSited P) (WholeActSited P) (elaborated_all_sited P j t s args h.2) (λ ms i.
    then_found (print_operand name ms token) _ (PrintedSited P) (WholeActSited P) (operand_sited P name ms token i) (λ p k. given (WholeActSited P) (print_of name token p) (print_sited P name token p h.0 k)))
printing_sited P j t s _ h = refused_found (WholeActSited P) BadOperand 0

evaluated_sited : (P : ℕ → Type 0) (j : Judgement) (t : Table) (s : Scope) (e : Expression) → Tokens P e → Yields (evaluated j t s e) (WholeActSited P)
evaluated_sited P j t s e h =
    then_found (elaborated j t s e) _ (MeaningSited P) (WholeActSited P) (elaborated_sited P j t s e h) (λ m i.
    then_found (formed m) _ (Sited P) (WholeActSited P) (formed_sited P m i) (λ form k. given (WholeActSited P) (kernel.Eval form) (k, tt)))

pub performed_sited : (P : ℕ → Type 0) (j : Judgement) (t : Table) (e : Expression) → Tokens P e → (s : Scope) → Yields (performed j t e s) (WholeActSited P)
unfolding performed
performed_sited P j t e h s = of_choice (is_output_call t s e) (printing j t s e) (evaluated j t s e) (WholeActSited P) (printing_sited P j t s e h) (evaluated_sited P j t s e h)

-- ---- `return` and `throw`

returned_as_sited : (P : ℕ → Type 0) (j : Judgement) (o : Outcome) (m : Meaning) (token : ℕ) → MeaningSited P m → Yields (returned_as j o m token) (Sited P)
returned_as_sited P j (ValueOf ty) m token h =
    of_choice (is_void (type_of m)) (found.refuse BadOperand token) _ (Sited P) (refused_found (Sited P) BadOperand token)
    (of_choice (is_assignable j ty m) (brought ty m) (found.refuse BadReturn token) (Sited P) (brought_sited P ty m h) (refused_found (Sited P) BadReturn token))
returned_as_sited P j NoValue m token h = refused_found (Sited P) BadReturn token
returned_as_sited P j NoReturn m token h = refused_found (Sited P) BadReturn token

pub returned_sited : (P : ℕ → Type 0) (j : Judgement) (t : Table) (o : Outcome) (e : Expression) (token : ℕ) → Tokens P e → (s : Scope) → Yields (returned j t o e token s) (Sited P)
unfolding returned
returned_sited P j t o e token h s = then_found (elaborated j t s e) _ (MeaningSited P) (Sited P) (elaborated_sited P j t s e h) (λ m i. returned_as_sited P j o m token i)

pub thrown_sited : (P : ℕ → Type 0) (j : Judgement) (t : Table) (e : Expression) (token : ℕ) → Tokens P e → (s : Scope) → Yields (thrown j t e token s) (Sited P)
unfolding thrown
thrown_sited P j t e token h s =
    then_found (elaborated j t s e) _ (MeaningSited P) (Sited P) (elaborated_sited P j t s e h) (λ m i.
    of_choice (j.below (type_of m) _) (formed m) (found.refuse BadOperand token) (Sited P) (formed_sited P m i) (refused_found (Sited P) BadOperand token))

-- ---- calls of constructors by constructors

constructed_by_sited : (P : ℕ → Type 0) (s : Scope) (class k : ℕ) (m : Option Method) (ms : List Meaning) (token : ℕ) → P token → MeaningsSited P ms → Yields (constructed_by s class k m ms token) (Sited P)
constructed_by_sited P s class k None ms token h i = refused_found (Sited P) NoMethod token
constructed_by_sited P s class k (Some m) ms token h i =
    of_choice (is_outside s m.is_private m.class) (found.refuse Private token) _ (Sited P) (refused_found (Sited P) Private token)
    (then_found (brought_all m.params ms) _ (RowSited P) (Sited P) (brought_all_sited P m.params ms i) (λ es x. given (Sited P) (constructor_form class k es token) (h, tt, x)))

pub constructor_called_sited : (P : ℕ → Type 0) (j : Judgement) (t : Table) (class : ℕ) (ms : List Meaning) (token : ℕ) → P token → MeaningsSited P ms → (s : Scope) → Yields (constructor_called j t class ms token s) (Sited P)
unfolding constructor_called
constructor_called_sited P j t class ms token h i s =
    then_found (method_for j _ _ ms token) _ (λ k. Unit {0}) (Sited P) (anything _) (λ k x. constructed_by_sited P s class k (slice_get t.methods k) ms token h i)

pub constructor_call_sited : (P : ℕ → Type 0) (j : Judgement) (t : Table) (class : ℕ) (args : Row) (token : ℕ) → P token → RowTokens P args → (s : Scope) → Yields (constructor_call j t class args token s) (Sited P)
unfolding constructor_call
constructor_call_sited P j t class args token h i s =
    then_found (elaborated_all j t s args) _ (MeaningsSited P) (Sited P) (elaborated_all_sited P j t s args i) (λ ms x. constructor_called_sited P j t class ms token h x s)
