-- What a refusal of an expression says: the named rule is broken at the named token, by an expression that stands in it.
use Rattle.std.specs.Prelude.{◌≡◌, ◌⊎◌, ◌↔◌, ℕ, true, false, List, Option, Some, Ok, Err}
use Rattle.wy_kernel.specs.declared.operator.UnOp.{UnOp}
use Rattle.wy_kernel.specs.declared.operator.BinOp.{BinOp}
use Rattle.wy_kernel.specs.declared.types.Ty.{Ty}
use Rattle.wy_kernel.specs.declared.types.Ty.TheVariants.{Void}
use Rattle.wy_kernel.specs.Table.{Table}
use Rattle.wy_value.specs.Operator.{is_equality}
use Rattle.wy_syntax.specs.Syntax.{Expression, Wrong}
use Rattle.wy_constant.specs.declared.rule.Rule.{Rule}
use Rattle.wy_constant.specs.Refusal.{refused}
use Rattle.wy_constant.specs.Scope.{Scope, FixedText}
use Rattle.wy_elab_expr.specs.Meaning.{Meaning, type_of}
use Rattle.wy_elab_expr.specs.Operators.{Judgement, Settles, can_cast, is_assignable, unary_type, joins, operand_types, primitive_in, choice_result}
use Rattle.wy_elab_expr.specs.Elaboration.{elaborated, adds_text, left_primitive}
use Rattle.law_refusals.specs.Operands.{CastsTo, MayAssign, TakesOne, Takes, TakesInto, Chooses}
use Rattle.law_refusals.specs.Found.{Within}
use Rattle.law_refusals.specs.Breaches.{ExpressionBreaks}

-- a part of the expression breaks the rule at the token
pub record IsBroken (j : Judgement) (t : Table) (s : Scope) (e : Expression) (rule : Rule) (token : ℕ) : Type 0 where
  pub part : Expression
  pub within : Within t s part e
  pub breaks : ExpressionBreaks j t s part rule token

-- each part is an expression, as it is where the expression is read from a tree of the grammar
abbrev pub IsWhole : Table → Scope → Expression → Type 0
IsWhole t s e = Within t s Wrong e → ⊥

abbrev pub RefusalsAreDue : Type 0
RefusalsAreDue = (t : Table) (j : Judgement) → Settles t j → (s : Scope) (e : Expression) (texts : List FixedText) (rule : Rule) (token : ℕ) →
    IsWhole t s e → elaborated j t s e texts ≡ Err (refused rule token) → IsBroken j t s e rule token

-- no part breaks a rule
abbrev pub ExpressionKeepsRules : Judgement → Table → Scope → Expression → Type 0
ExpressionKeepsRules j t s e = (rule : Rule) (token : ℕ) → IsBroken j t s e rule token → ⊥

abbrev pub RulesAreEnough : Type 0
RulesAreEnough = (t : Table) (j : Judgement) → Settles t j → (s : Scope) (e : Expression) (texts : List FixedText) →
    IsWhole t s e → ExpressionKeepsRules j t s e → (m : Meaning) × (after : List FixedText) × (elaborated j t s e texts ≡ Ok (m, after))

-- ---- what operators take is what they are given a form for

-- there is something
abbrev pub Given : {X : Type 0} → Option X → Type 0
Given {X} o = (x : X) × (o ≡ Some x)

abbrev pub CastsAreExact : Type 0
CastsAreExact = (t : Table) (j : Judgement) → Settles t j → (a b : Ty) → (can_cast j t a b ≡ true) ↔ CastsTo t a b

abbrev pub AssignmentsAreExact : Type 0
AssignmentsAreExact = (t : Table) (j : Judgement) → Settles t j → (ty : Ty) (m : Meaning) → (type_of m ≡ Void → ⊥) → (is_assignable j ty m ≡ true) ↔ MayAssign t ty m

abbrev pub UnaryIsExact : Type 0
UnaryIsExact = (op : UnOp) (ty : Ty) → Given (unary_type op ty) ↔ TakesOne op ty

abbrev pub BinaryIsExact : Type 0
BinaryIsExact = (t : Table) (j : Judgement) → Settles t j → (op : BinOp) (a b : Ty) → (joins op a b ≡ true) ⊎ Given (operand_types j t op a b) ↔ Takes t op a b

-- no compound assignment has `==` or `!=`
abbrev pub UpdatesAreExact : Type 0
UpdatesAreExact = (t : Table) (j : Judgement) (op : BinOp) (a b : Ty) → is_equality op ≡ false → (b ≡ Void → ⊥) → (adds_text op a b ≡ true) ⊎ Given (left_primitive j t op a b) ↔ TakesInto op a b

abbrev pub ChoicesAreExact : Type 0
ChoicesAreExact = (t : Table) (j : Judgement) (a b : Meaning) → Given (choice_result j t a (primitive_in (type_of a)) b (primitive_in (type_of b))) ↔ Chooses (type_of a) (type_of b)
