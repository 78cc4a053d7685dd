-- The ways in which a method, a constructor or an initializer breaks a rule outside its statements, and that something in one breaks a rule
-- (JLS 8.3.2, 8.4, 8.6 to 8.8).
use Rattle.std.specs.Prelude.{◌≡◌, ℕ, Bool, true, false, List, ◌∷◌, Option, Some, None, codes}
use Rattle.std.specs.List.{Contains}
use Rattle.wy_kernel.specs.declared.types.Ty.{Ty}
use Rattle.wy_kernel.specs.declared.types.Ty.TheVariants.{Void}
use Rattle.wy_kernel.specs.Program.{Method}
use Rattle.wy_kernel.specs.Subtyping.{class_type}
use Rattle.wy_kernel.specs.Table.{Table}
use Rattle.wy_syntax.specs.Syntax.{Expression, Row, Initial, Value, Listed, Elements, Named, WrittenType, Declarator, Statement, Statements, Braced, Parameter, OwnCall, Header, ClassSyntax}
use Rattle.wy_syntax.specs.Syntax as source
use Rattle.wy_constant.specs.declared.rule.Rule.{Rule}
use Rattle.wy_constant.specs.declared.rule.Rule.TheVariants as rule
use Rattle.wy_constant.specs.Scope.{Scope, Variable, denoted}
use Rattle.wy_overloads.specs.Choice.{Chosen, Refused, IsMethod}
use Rattle.wy_elab_expr.specs.Meaning.{Meaning, type_of}
use Rattle.wy_elab_expr.specs.Members.{types_of}
use Rattle.wy_elab_expr.specs.Elaboration.{with_brackets, element_of}
use Rattle.wy_elab_body.specs.Parts.{Outcome, NoValue, ValueOf}
use Rattle.wy_elab_body.specs.Jumps.{Around, alone, inside}
use Rattle.wy_elab_body.specs.Places.{calls_superclass}
use Rattle.wy_elab_body.specs.Statements.{Setting, number}
use Rattle.wy_elab_body.specs.Bodies.{parameter, parameters, first_calls, superclass_of, brace_of, field_initial}
use Rattle.law_refusals.specs.Operands.{MayAssign}
use Rattle.law_refusals.specs.Found.{AreFound, IsType, IsNoType, Fills, listed, values_of}
use Rattle.law_refusals.specs.Calls.{HaveValues, IsHidden}
use Rattle.law_refusals.specs.ExpressionLaws.{IsBroken}
use Rattle.law_refusals.specs.Surroundings.{Leads, InRow, InBlock}
use Rattle.law_refusals.specs.Missteps.{IsFoundIn, IsBrokenIn}

-- ---- parameters

-- one of the parameters, behind what leads to its scope
pub data InParameters (w : Setting) : Scope → List Parameter → Scope → Parameter → Type 0 where
  here : {s : Scope} {p : Parameter} {rest : List Parameter} → InParameters w s (p ∷ rest) s p
  later : {s between there : Scope} {other p : Parameter} {rest : List Parameter} → Leads (parameter w other) s between → InParameters w between rest there p → InParameters w s (other ∷ rest) there p

pub data HasBadParameter (w : Setting) (s : Scope) (params : List Parameter) : Rule → ℕ → Type 0 where
  -- its type names no class
  no_type : {there : Scope} {p : Parameter} → InParameters w s params there p → IsNoType w.table p.ty.base → HasBadParameter w s params rule.UnknownName p.ty.token
  -- it has the name of an earlier one (JLS 8.4.1)
  again : {there : Scope} {p : Parameter} {v : Variable} → InParameters w s params there p → denoted there p.name.name ≡ Some v → HasBadParameter w s params rule.Duplicate p.name.token

-- ---- methods

-- what a method gives back, by its written result
pub data Gives (t : Table) : Option WrittenType → Outcome → Type 0 where
  nothing : Gives t None NoValue
  a_value : {ty : WrittenType} {base : Ty} → IsType t ty.base ty.brackets base → Gives t (Some ty) (ValueOf (with_brackets base 0))

-- something in a method with this header and this body breaks the rule at the token
pub data IsBrokenMethod (w : Setting) (s : Scope) (h : Header) : Option WrittenType → Braced → Rule → ℕ → Type 0 where
  result : {ty : WrittenType} {b : Braced} → IsNoType w.table ty.base → IsBrokenMethod w s h (Some ty) b rule.UnknownName ty.token
  of_parameter : {ty : Option WrittenType} {b : Braced} {r : Rule} {token : ℕ} → HasBadParameter w s h.params r token → IsBrokenMethod w s h ty b r token
  of_block : {ty : Option WrittenType} {b : Braced} {outcome : Outcome} {inner there : Scope} {around : Around} {part : Statement} {r : Rule} {token : ℕ} → Gives w.table ty outcome → Leads (parameters w h.params) s inner →
      InBlock w (alone (number w (brace_of b)) outcome) inner b around there part → IsBrokenIn w around there part r token → IsBrokenMethod w s h ty b r token

-- ---- calls of constructors (JLS 8.8.7.1)

-- a call of a constructor of the class, with these arguments and at this token, breaks the rule at the other token
pub data IsBadConstruction (w : Setting) (s : Scope) (class : ℕ) (args : Row) (at : ℕ) : Rule → ℕ → Type 0 where
  argument : {e : Expression} {r : Rule} {token : ℕ} → Contains (listed args) e → IsBroken w.judgement w.table s e r token → IsBadConstruction w s class args at r token
  void_argument : {ms : List Meaning} → AreFound w.judgement w.table s args ms → Contains (types_of ms) Void → IsBadConstruction w s class args at rule.BadOperand at
  -- no constructor is applicable, or none is most specific
  unchosen : {ms : List Meaning} {r : Rule} → AreFound w.judgement w.table s args ms → HaveValues ms → Refused w.table (class_type class) (codes "new") (types_of ms) r → IsBadConstruction w s class args at r at
  -- it is a private one of another class
  hidden : {ms : List Meaning} {k : ℕ} {m : Method} → AreFound w.judgement w.table s args ms → HaveValues ms → Chosen w.table (class_type class) (codes "new") (types_of ms) k → IsMethod w.table k m →
      IsHidden s m.is_private m.class → IsBadConstruction w s class args at rule.Private at

-- Object's constructor takes nothing
pub data IsBadObjectCall (w : Setting) (s : Scope) (args : Row) (at : ℕ) : Rule → ℕ → Type 0 where
  argument : {e : Expression} {r : Rule} {token : ℕ} → Contains (listed args) e → IsBroken w.judgement w.table s e r token → IsBadObjectCall w s args at r token
  void_argument : {ms : List Meaning} → AreFound w.judgement w.table s args ms → Contains (types_of ms) Void → IsBadObjectCall w s args at rule.BadOperand at
  some_argument : (args ≡ source.none → ⊥) → IsBadObjectCall w s args at rule.NoMethod at

-- what a constructor of class c begins with, by the site of its name
pub data HasBadStart (w : Setting) (s : Scope) (c site : ℕ) : Option OwnCall → Rule → ℕ → Type 0 where
  -- the superclass's constructor without arguments is implied
  implied : {r : Rule} {token : ℕ} → calls_superclass w.table c ≡ true → IsBadConstruction w s (superclass_of w c) source.none site r token → HasBadStart w s c site None r token
  of_super : {call : OwnCall} {r : Rule} {token : ℕ} → call.is_super ≡ true → calls_superclass w.table c ≡ true → IsBadConstruction w s (superclass_of w c) call.args call.paren r token → HasBadStart w s c site (Some call) r token
  of_object : {call : OwnCall} {r : Rule} {token : ℕ} → call.is_super ≡ true → calls_superclass w.table c ≡ false → IsBadObjectCall w s call.args call.paren r token → HasBadStart w s c site (Some call) r token
  of_this : {call : OwnCall} {r : Rule} {token : ℕ} → call.is_super ≡ false → IsBadConstruction w s c call.args call.paren r token → HasBadStart w s c site (Some call) r token

-- something in a constructor breaks the rule at the token
pub data IsBrokenConstructor (w : Setting) (s : Scope) (c : ℕ) (k : ClassSyntax) (h : Header) (own : Option OwnCall) (brace : ℕ) (parts : Statements) : Rule → ℕ → Type 0 where
  of_parameter : {r : Rule} {token : ℕ} → HasBadParameter w s h.params r token → IsBrokenConstructor w s c k h own brace parts r token
  of_start : {inner : Scope} {r : Rule} {token : ℕ} → Leads (parameters w h.params) s inner → HasBadStart w inner c h.name.token own r token → IsBrokenConstructor w s c k h own brace parts r token
  of_block : {inner begun there : Scope} {part : Statement} {r : Rule} {token : ℕ} → Leads (parameters w h.params) s inner → Leads (first_calls w c k h.name.token own) inner begun →
      InRow w (inside (alone (number w brace) NoValue) (number w brace)) begun parts there part → IsBrokenIn w (inside (alone (number w brace) NoValue) (number w brace)) there part r token →
      IsBrokenConstructor w s c k h own brace parts r token

-- ---- initializers of fields (JLS 8.3.2)

-- one of the declarators of fields, behind what leads to its scope
pub data InFields (w : Setting) (c : ℕ) (is_static : Bool) (ty : WrittenType) : Scope → List Declarator → Scope → Declarator → Type 0 where
  here : {s : Scope} {d : Declarator} {rest : List Declarator} → InFields w c is_static ty s (d ∷ rest) s d
  later : {s between there : Scope} {other d : Declarator} {rest : List Declarator} → Leads (field_initial w c is_static ty other other.initial) s between → InFields w c is_static ty between rest there d →
      InFields w c is_static ty s (other ∷ rest) there d

-- a field is given this first
pub record IsFieldGiven (w : Setting) (c : ℕ) (is_static : Bool) (ty : WrittenType) (s : Scope) (all : List Declarator) (there : Scope) (d : Declarator) (i : Initial) : Type 0 where
  pub among : InFields w c is_static ty s all there d
  pub given : d.initial ≡ Some i

-- it, or what stands in its braces, is for a variable of this type and behind this token
pub data IsFieldFilled (w : Setting) (c : ℕ) (is_static : Bool) (ty : WrittenType) (s : Scope) (all : List Declarator) (there : Scope) (inner_type : Ty) (inner : Initial) (at : ℕ) : Type 0 where
  fills : {d : Declarator} {i : Initial} {base : Ty} → IsFieldGiven w c is_static ty s all there d i → IsType w.table ty.base ty.brackets base → Fills inner_type inner at (with_brackets base d.brackets) i d.name.token →
      IsFieldFilled w c is_static ty s all there inner_type inner at

-- something in the initializers of fields breaks the rule at the token
pub data HasBadField (w : Setting) (c : ℕ) (is_static : Bool) (ty : WrittenType) (s : Scope) (all : List Declarator) : Rule → ℕ → Type 0 where
  -- their type names no class, and one of them is given something; where none is, only the declaration breaks the rule
  no_type : {there : Scope} {d : Declarator} {i : Initial} → IsFieldGiven w c is_static ty s all there d i → IsNoType w.table ty.base → HasBadField w c is_static ty s all rule.UnknownName ty.token
  expression : {there : Scope} {d : Declarator} {i : Initial} {e : Expression} {r : Rule} {token : ℕ} → IsFieldGiven w c is_static ty s all there d i → Contains (values_of i) e → IsBroken w.judgement w.table there e r token →
      HasBadField w c is_static ty s all r token
  void_given : {there : Scope} {inner : Ty} {e : Expression} {m : Meaning} {at : ℕ} → IsFieldFilled w c is_static ty s all there inner (Value e) at → IsFoundIn w there e m → type_of m ≡ Void → HasBadField w c is_static ty s all rule.BadOperand at
  unfit : {there : Scope} {inner : Ty} {e : Expression} {m : Meaning} {at : ℕ} → IsFieldFilled w c is_static ty s all there inner (Value e) at → IsFoundIn w there e m → (type_of m ≡ Void → ⊥) → (MayAssign w.table inner m → ⊥) →
      HasBadField w c is_static ty s all rule.BadAssign at
  braces : {there : Scope} {inner : Ty} {elements : Elements} {brace at : ℕ} → IsFieldFilled w c is_static ty s all there inner (Listed elements brace) at → element_of inner ≡ None → HasBadField w c is_static ty s all rule.BadAssign brace

-- ---- a block of a class

-- something in the block breaks the rule at the token
pub record IsBrokenBlock (w : Setting) (a : Around) (s : Scope) (b : Braced) (r : Rule) (token : ℕ) : Type 0 where
  pub around : Around
  pub there : Scope
  pub part : Statement
  pub stands : InBlock w a s b around there part
  pub broken : IsBrokenIn w around there part r token
