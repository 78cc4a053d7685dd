-- The ways in which a statement itself breaks a rule, each at its token, and that something in a statement breaks one (JLS 14).
use Rattle.std.specs.Prelude.{◌≡◌, ℕ, Bool, List, Option, Some, None}
use Rattle.wy_kernel.specs.declared.types.Ty.{Ty}
use Rattle.wy_kernel.specs.declared.types.Ty.TheVariants.{Void}
use Rattle.wy_kernel.specs.Builtin.{throwable_class}
use Rattle.wy_kernel.specs.Subtyping.{Below, class_type}
use Rattle.wy_syntax.specs.Syntax.{Expression, Initial, Value, Listed, Elements, Named, WrittenType, Declarator, Statement, Labelled, Break, Continue, Return, Throw}
use Rattle.wy_constant.specs.declared.rule.Rule.{Rule}
use Rattle.wy_constant.specs.declared.rule.Rule.TheVariants as rule
use Rattle.wy_constant.specs.Scope.{Scope, Variable, denoted}
use Rattle.wy_constant.specs.Fields.{class_named}
use Rattle.wy_elab_expr.specs.Meaning.{Meaning, type_of}
use Rattle.wy_elab_expr.specs.Operators.{boolean_type}
use Rattle.wy_elab_expr.specs.Elaboration.{element_of}
use Rattle.wy_elab_body.specs.Parts.{NoValue, ValueOf, NoReturn}
use Rattle.wy_elab_body.specs.Jumps.{Around, Label, label_named, break_target, continue_target}
use Rattle.wy_elab_body.specs.Statements.{Setting}
use Rattle.law_refusals.specs.Operands.{MayAssign}
use Rattle.law_refusals.specs.Found.{IsFound, IsNoType, Fills}
use Rattle.law_refusals.specs.ExpressionLaws.{IsBroken}
use Rattle.law_refusals.specs.Surroundings.{HasPart, HasClause, Lists, Declares, Begins, Evaluates, Tests}

-- the expression is found to be this, in a scope
abbrev pub IsFoundIn : Setting → Scope → Expression → Meaning → Type 0
IsFoundIn w s e m = IsFound w.judgement w.table s e m

-- a value or braces, for a variable of the type and behind the token, is given first to a variable of the statement, or stands in what is
pub data IsGiven (w : Setting) (s : Scope) (x : Statement) (there : Scope) (ty : Ty) (i : Initial) (token : ℕ) : Type 0 where
  first : {is_final : Bool} {declared_type : Ty} {d : Declarator} {whole : Initial} → Begins w s x is_final declared_type there d whole → Fills ty i token declared_type whole d.name.token → IsGiven w s x there ty i token

-- ---- Duplicate

pub data IsDuplicate (w : Setting) (a : Around) (s : Scope) : Statement → ℕ → Type 0 where
  -- a local variable has the name of one in scope (JLS 6.4, 14.4.2)
  again_local : {x : Statement} {is_final : Bool} {ty : Ty} {there : Scope} {d : Declarator} {v : Variable} → Declares w s x is_final ty there d → denoted there d.name.name ≡ Some v → IsDuplicate w a s x d.name.token
  -- so has the parameter of a clause (JLS 14.20)
  again_caught : {x : Statement} {there : Scope} {class name : Named} {v : Variable} → HasClause w a s x there class name → denoted there name.name ≡ Some v → IsDuplicate w a s x name.token
  -- a label stands inside a statement with the same label (JLS 14.7)
  again_label : {name : Named} {body : Statement} {l : Label} → label_named a name.name ≡ Some l → IsDuplicate w a s (Labelled name body) name.token

-- ---- UnknownName

pub data IsUnknownName (w : Setting) (a : Around) (s : Scope) : Statement → ℕ → Type 0 where
  -- a type names no class (JLS 6.5.5.1)
  of_type : {x : Statement} {is_final : Bool} {ty : WrittenType} {all : List Declarator} → Lists x is_final ty all → IsNoType w.table ty.base → IsUnknownName w a s x ty.token
  of_clause : {x : Statement} {there : Scope} {class name : Named} → HasClause w a s x there class name → class_named w.table.classes class.name ≡ None → IsUnknownName w a s x class.token

-- ---- BadOperand

pub data IsBadOperand (w : Setting) (a : Around) (s : Scope) : Statement → ℕ → Type 0 where
  -- a condition isn't boolean (JLS 14.9, 14.12 to 14.14)
  condition : {x : Statement} {there : Scope} {e : Expression} {m : Meaning} {token : ℕ} → Tests w a s x there e token → IsFoundIn w there e m → (type_of m ≡ boolean_type → ⊥) → IsBadOperand w a s x token
  -- a void value is given to a variable, or returned
  void_given : {x : Statement} {there : Scope} {ty : Ty} {e : Expression} {m : Meaning} {token : ℕ} → IsGiven w s x there ty (Value e) token → IsFoundIn w there e m → type_of m ≡ Void → IsBadOperand w a s x token
  void_returned : {ty : Ty} {e : Expression} {m : Meaning} {token : ℕ} → a.outcome ≡ ValueOf ty → IsFoundIn w s e m → type_of m ≡ Void → IsBadOperand w a s (Return (Some e) token) token
  -- what is thrown or caught is no Throwable (JLS 14.18, 14.20)
  thrown : {e : Expression} {m : Meaning} {token : ℕ} → IsFoundIn w s e m → (Below w.table.classes (type_of m) (class_type throwable_class) → ⊥) → IsBadOperand w a s (Throw e token) token
  caught : {x : Statement} {there : Scope} {class name : Named} {c : ℕ} → HasClause w a s x there class name → class_named w.table.classes class.name ≡ Some c →
      (Below w.table.classes (class_type c) (class_type throwable_class) → ⊥) → IsBadOperand w a s x name.token

-- ---- BadAssign

pub data IsBadAssign (w : Setting) (a : Around) (s : Scope) : Statement → ℕ → Type 0 where
  -- a value may not be assigned to the variable that it is given to first (JLS 5.2)
  value : {x : Statement} {there : Scope} {ty : Ty} {e : Expression} {m : Meaning} {token : ℕ} → IsGiven w s x there ty (Value e) token → IsFoundIn w there e m → (type_of m ≡ Void → ⊥) → (MayAssign w.table ty m → ⊥) →
      IsBadAssign w a s x token
  -- braces stand for what is no array (JLS 10.6)
  braces : {x : Statement} {there : Scope} {ty : Ty} {elements : Elements} {brace token : ℕ} → IsGiven w s x there ty (Listed elements brace) token → element_of ty ≡ None → IsBadAssign w a s x brace

-- ---- BadJump

pub data IsBadJump (a : Around) : Statement → ℕ → Type 0 where
  -- a `break` outside a loop, or with a label that no statement around it has (JLS 14.15)
  no_break : {label : Option Named} {token : ℕ} → break_target a label ≡ None → IsBadJump a (Break label token) token
  -- a `continue` outside a loop, or with a label that no loop around it has (JLS 14.16)
  no_continue : {label : Option Named} {token : ℕ} → continue_target a label ≡ None → IsBadJump a (Continue label token) token

-- ---- BadReturn

pub data IsBadReturn (w : Setting) (a : Around) (s : Scope) : Statement → ℕ → Type 0 where
  -- a `return` in an initializer (JLS 14.17)
  in_initializer : {value : Option Expression} {token : ℕ} → a.outcome ≡ NoReturn → IsBadReturn w a s (Return value token) token
  -- one without a value where the method has a result, and one with a value where it has none
  no_value : {ty : Ty} {token : ℕ} → a.outcome ≡ ValueOf ty → IsBadReturn w a s (Return None token) token
  a_value : {e : Expression} {token : ℕ} → a.outcome ≡ NoValue → IsBadReturn w a s (Return (Some e) token) token
  -- a value that may not be assigned to the result
  unfit : {ty : Ty} {e : Expression} {m : Meaning} {token : ℕ} → a.outcome ≡ ValueOf ty → IsFoundIn w s e m → (type_of m ≡ Void → ⊥) → (MayAssign w.table ty m → ⊥) → IsBadReturn w a s (Return (Some e) token) token

-- ---- all rules on statements

-- the statement itself breaks the rule at the token
abbrev pub Missteps : Setting → Around → Scope → Statement → Rule → ℕ → Type 0
Missteps w a s x rule.Duplicate token = IsDuplicate w a s x token
Missteps w a s x rule.UnknownName token = IsUnknownName w a s x token
Missteps w a s x rule.BadOperand token = IsBadOperand w a s x token
Missteps w a s x rule.BadAssign token = IsBadAssign w a s x token
Missteps w a s x rule.BadJump token = IsBadJump a x token
Missteps w a s x rule.BadReturn token = IsBadReturn w a s x token
Missteps w a s x _ token = ⊥

-- something in the statement breaks the rule at the token: the statement itself, an expression in it, or a statement in it
pub data IsBrokenIn (w : Setting) : Around → Scope → Statement → Rule → ℕ → Type 0 where
  itself : {a : Around} {s : Scope} {x : Statement} {r : Rule} {token : ℕ} → Missteps w a s x r token → IsBrokenIn w a s x r token
  expression : {a : Around} {s there : Scope} {x : Statement} {e : Expression} {r : Rule} {token : ℕ} → Evaluates w a s x there e → IsBroken w.judgement w.table there e r token → IsBrokenIn w a s x r token
  part : {a around : Around} {s there : Scope} {x y : Statement} {r : Rule} {token : ℕ} → HasPart w a s x around there y → IsBrokenIn w around there y r token → IsBrokenIn w a s x r token
