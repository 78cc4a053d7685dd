-- What is accepted breaks no rule.
use Rattle.std.specs.Prelude.{◌≡◌, ℕ, Bool, true, false, List, Option, Some, None, Ok, slice_get}
use Rattle.wy_kernel.specs.Form as kernel
use Rattle.wy_kernel.specs.Program.{Program, Class, object_class}
use Rattle.wy_kernel.specs.Table.{Table}
use Rattle.wy_syntax.specs.Syntax.{Expression, Statement, Statements, Braced, WrittenType, Declarator, OwnCall, Header, ClassSyntax}
use Rattle.wy_constant.specs.declared.rule.Rule.{Rule}
use Rattle.wy_constant.specs.Scope.{Scope}
use Rattle.wy_constant.specs.Fields.{class_named}
use Rattle.wy_members.specs.Declarations.{CompilationUnit}
use Rattle.wy_members.specs.Refusal.{KeepsRules}
use Rattle.wy_members.specs.Constants.{IsTableOf}
use Rattle.wy_elab_expr.specs.Meaning.{Meaning}
use Rattle.wy_elab_expr.specs.Operators.{Judgement, Settles}
use Rattle.wy_elab_expr.specs.Members.{is_library_name}
use Rattle.law_refusals.specs.Found.{IsFound}
use Rattle.wy_elab_body.specs.Making.{Making}
use Rattle.wy_elab_body.specs.Jumps.{Around}
use Rattle.wy_elab_body.specs.Statements.{Setting, statement}
use Rattle.wy_elab_body.specs.Bodies.{method_block, constructor_block, implied_constructor_block, field_initials}
use Rattle.wy_elab_stmt.specs.Elaborates.{Elaborates}
use Rattle.law_refusals.specs.ExpressionLaws as expression
use Rattle.law_refusals.specs.Missteps.{IsBrokenIn}
use Rattle.law_refusals.specs.Members.{IsBrokenMethod, IsBrokenConstructor, HasBadStart, HasBadField}
use Rattle.law_refusals.specs.ProgramLaws.{IsUnbroken}

-- Object is a class that isn't abstract, and no class has the name of one whose static members the library offers (JLS 4.3.2, 7.6)
pub record KnowsLibrary (t : Table) : Type 0 where
  pub no_interface : (k : Class) → slice_get t.classes object_class ≡ Some k → k.is_interface ≡ false
  pub not_abstract : (k : Class) → slice_get t.classes object_class ≡ Some k → k.is_abstract ≡ false
  pub reserved : (name : List ℕ) → is_library_name name ≡ true → class_named t.classes name ≡ None

-- an expression that has a meaning breaks no rule, and no part of it does
abbrev pub AcceptedExpressionsAreUnbroken : Type 0
AcceptedExpressionsAreUnbroken = (t : Table) (j : Judgement) → Settles t j → KnowsLibrary t → (s : Scope) (e : Expression) (m : Meaning) → IsFound j t s e m → expression.ExpressionKeepsRules j t s e

-- so it is in each program whose declarations keep the rules
abbrev pub TablesKnowTheLibrary : Type 0
TablesKnowTheLibrary = (unit : CompilationUnit) (t : Table) → KeepsRules unit → IsTableOf unit t → KnowsLibrary t

-- nothing in a statement that is accepted breaks a rule
abbrev pub AcceptedStatementsAreUnbroken : Type 0
AcceptedStatementsAreUnbroken = (w : Setting) → Settles w.table w.judgement → KnowsLibrary w.table → (a : Around) (x : Statement) (m n : Making) (s : kernel.Statement) → statement w a x m ≡ Ok (s, n) →
    (rule : Rule) (token : ℕ) → IsBrokenIn w a m.scope x rule token → ⊥

-- nothing in a method whose body is accepted breaks a rule: not its result, not a parameter, nothing in its block
abbrev pub AcceptedMethodsAreUnbroken : Type 0
AcceptedMethodsAreUnbroken = (w : Setting) → Settles w.table w.judgement → KnowsLibrary w.table → (h : Header) (result : Option WrittenType) (b : Braced) (m n : Making) (s : kernel.Statement) →
    method_block w h result b m ≡ Ok (s, n) → (rule : Rule) (token : ℕ) → IsBrokenMethod w m.scope h result b rule token → ⊥

-- so it is in a constructor: not a parameter, not what it begins with, no statement of it
abbrev pub AcceptedConstructorsAreUnbroken : Type 0
AcceptedConstructorsAreUnbroken = (w : Setting) → Settles w.table w.judgement → KnowsLibrary w.table → (c : ℕ) (k : ClassSyntax) (h : Header) (own : Option OwnCall) (brace : ℕ) (parts : Statements) (m n : Making) (s : kernel.Statement) →
    constructor_block w c k h own brace parts m ≡ Ok (s, n) → (rule : Rule) (token : ℕ) → IsBrokenConstructor w m.scope c k h own brace parts rule token → ⊥

-- and in that of a class that declares none, whose call of the superclass's constructor is implied: it takes nothing, so it asks nothing of the library
abbrev pub AcceptedImpliedAreUnbroken : Type 0
AcceptedImpliedAreUnbroken = (w : Setting) → Settles w.table w.judgement → (c : ℕ) (k : ClassSyntax) (m n : Making) (s : kernel.Statement) →
    implied_constructor_block w c k m ≡ Ok (s, n) → (rule : Rule) (token : ℕ) → HasBadStart w m.scope c k.name.token None rule token → ⊥

-- nothing in the initializers of fields that are accepted breaks a rule
abbrev pub AcceptedFieldsAreUnbroken : Type 0
AcceptedFieldsAreUnbroken = (w : Setting) → Settles w.table w.judgement → KnowsLibrary w.table → (c : ℕ) (is_static : Bool) (ty : WrittenType) (all : List Declarator) (m n : Making) (xs : List kernel.Statement) →
    field_initials w c is_static ty all m ≡ Ok (xs, n) → (rule : Rule) (token : ℕ) → HasBadField w c is_static ty m.scope all rule token → ⊥

-- nothing in a program that is accepted breaks a rule
abbrev pub AcceptedProgramsAreUnbroken : Type 0
AcceptedProgramsAreUnbroken = (unit : CompilationUnit) (tokens : ℕ) (p : Program) → Elaborates unit tokens (Ok p) → IsUnbroken unit tokens
