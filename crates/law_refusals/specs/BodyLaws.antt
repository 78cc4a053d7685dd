-- What a refusal of a statement says: something in it breaks the named rule at the named token.
use Rattle.std.specs.Prelude.{◌≡◌, ℕ, Bool, false, List, Option, None, Err}
use Rattle.std.specs.List.{All}
use Rattle.wy_syntax.specs.Syntax.{Expression, Statement, Statements, Braced, WrittenType, Declarator, OwnCall, Header, ClassSyntax}
use Rattle.wy_constant.specs.declared.rule.Rule.{Rule}
use Rattle.wy_constant.specs.Refusal.{refused}
use Rattle.wy_constant.specs.Scope.{Scope}
use Rattle.wy_kernel.specs.Table.{Table}
use Rattle.wy_elab_expr.specs.Operators.{Settles}
use Rattle.wy_elab_body.specs.Making.{Making}
use Rattle.wy_elab_body.specs.Jumps.{Around}
use Rattle.wy_elab_body.specs.Statements.{Setting, statement, block}
use Rattle.wy_elab_body.specs.Bodies.{method_block, constructor_block, implied_constructor_block, field_initials}
use Rattle.law_refusals.specs.ExpressionLaws.{IsWhole}
use Rattle.law_well_formed.specs.Complete.{IsComplete, IsCompleteDeclarator, IsCompleteStatement, IsCompleteBlock, AreCompleteStatements, HasCompleteCall}
use Rattle.law_refusals.specs.Missteps.{IsBrokenIn}
use Rattle.law_refusals.specs.Members.{IsBrokenMethod, IsBrokenConstructor, HasBadStart, HasBadField, IsBrokenBlock}

-- an expression with nothing missing is whole in each scope
abbrev pub WrittenIsWhole : Type 0
WrittenIsWhole = (t : Table) (s : Scope) (e : Expression) → IsComplete e → IsWhole t s e

abbrev pub StatementRefusalsAreDue : Type 0
StatementRefusalsAreDue = (w : Setting) → Settles w.table w.judgement → (a : Around) (x : Statement) (m : Making) (rule : Rule) (token : ℕ) → IsCompleteStatement false x →
    statement w a x m ≡ Err (refused rule token) → IsBrokenIn w a m.scope x rule token

abbrev pub BlockRefusalsAreDue : Type 0
BlockRefusalsAreDue = (w : Setting) → Settles w.table w.judgement → (a : Around) (b : Braced) (m : Making) (rule : Rule) (token : ℕ) → IsCompleteBlock b →
    block w a b m ≡ Err (refused rule token) → IsBrokenBlock w a m.scope b rule token

abbrev pub MethodRefusalsAreDue : Type 0
MethodRefusalsAreDue = (w : Setting) → Settles w.table w.judgement → (h : Header) (result : Option WrittenType) (b : Braced) (m : Making) (rule : Rule) (token : ℕ) → IsCompleteBlock b →
    method_block w h result b m ≡ Err (refused rule token) → IsBrokenMethod w m.scope h result b rule token

abbrev pub ConstructorRefusalsAreDue : Type 0
ConstructorRefusalsAreDue = (w : Setting) → Settles w.table w.judgement → (c : ℕ) (k : ClassSyntax) (h : Header) (own : Option OwnCall) (brace : ℕ) (parts : Statements) (m : Making) (rule : Rule) (token : ℕ) →
    HasCompleteCall own → AreCompleteStatements parts → constructor_block w c k h own brace parts m ≡ Err (refused rule token) → IsBrokenConstructor w m.scope c k h own brace parts rule token

-- the constructor of a class that declares none
abbrev pub ImpliedRefusalsAreDue : Type 0
ImpliedRefusalsAreDue = (w : Setting) → Settles w.table w.judgement → (c : ℕ) (k : ClassSyntax) (m : Making) (rule : Rule) (token : ℕ) →
    implied_constructor_block w c k m ≡ Err (refused rule token) → HasBadStart w m.scope c k.name.token None rule token

abbrev pub FieldRefusalsAreDue : Type 0
FieldRefusalsAreDue = (w : Setting) → Settles w.table w.judgement → (c : ℕ) (is_static : Bool) (ty : WrittenType) (all : List Declarator) (m : Making) (rule : Rule) (token : ℕ) → All IsCompleteDeclarator all →
    field_initials w c is_static ty all m ≡ Err (refused rule token) → HasBadField w c is_static ty m.scope all rule token

-- where no field is given anything first, nothing in their initializers breaks a rule, also where their type names no class
abbrev pub FieldsGivenNothingBreakNothing : Type 0
FieldsGivenNothingBreakNothing = (w : Setting) (c : ℕ) (is_static : Bool) (ty : WrittenType) (s : Scope) (all : List Declarator) → All (λ d. d.initial ≡ None) all →
    (rule : Rule) (token : ℕ) → HasBadField w c is_static ty s all rule token → ⊥
