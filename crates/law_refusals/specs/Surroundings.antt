-- Where statements, expressions and variables stand in a body: with what around them, and in which scope (JLS 6.3, 14).
use Rattle.std.specs.Prelude.{◌≡◌, ℕ, Bool, List, ◌∷◌, Option, Some, is_some, ◌&&◌, Ok}
use Rattle.std.specs.List.{Contains}
use Rattle.wy_kernel.specs.declared.types.Ty.{Ty}
use Rattle.wy_kernel.specs.Subtyping.{class_type}
use Rattle.wy_syntax.specs.Syntax.{Expression, Initial, Named, WrittenType, Declarator, Effect, ForInit, Effects, Statement, Block, Empty, Declare, Perform, If, While, Do, For, Labelled, Break, Continue, Return, Throw, Try, Unknown, Braced, braced, Statements, done, first, Other, absent, present, Last, nowhere, finally, Catches, uncaught, catch}
use Rattle.wy_syntax.specs.Syntax as source
use Rattle.wy_constant.specs.Scope.{Scope, opened}
use Rattle.wy_constant.specs.Fields.{class_named}
use Rattle.wy_elab_expr.specs.Elaboration.{with_brackets}
use Rattle.wy_elab_body.specs.Making.{Making, Makes, declaring}
use Rattle.wy_elab_body.specs.Jumps.{Around, inside, in_loop, under_label}
use Rattle.wy_elab_body.specs.Statements.{Setting, number, site_of, body_of_loop, number_of_body, in_first_block, declarator, for_init, several, statement, block, clauses, clause}
use Rattle.law_refusals.specs.Found.{IsType, values_of}

-- what is made leads from the one scope to the other
pub record Leads {A : Type 0} (f : Makes A) (s later : Scope) : Type 0 where
  pub before : Making
  pub after : Making
  pub result : A
  pub made : f before ≡ Ok (result, after)
  pub begins : before.scope ≡ s
  pub ends : after.scope ≡ later

-- ---- statements in statements

-- the statement stands in a row, behind what leads to its scope
pub data InRow (w : Setting) (a : Around) : Scope → Statements → Scope → Statement → Type 0 where
  here : {s : Scope} {x : Statement} {rest : Statements} → InRow w a s (first x rest) s x
  later : {s between there : Scope} {x part : Statement} {rest : Statements} → Leads (several w x (statement w a x)) s between → InRow w a between rest there part → InRow w a s (first x rest) there part

-- it stands in a block
pub data InBlock (w : Setting) (a : Around) (s : Scope) : Braced → Around → Scope → Statement → Type 0 where
  within : {brace end : ℕ} {parts : Statements} {there : Scope} {part : Statement} → InRow w (inside a (number w brace)) (opened s) parts there part →
      InBlock w a s (braced brace parts end) (inside a (number w brace)) there part

-- it stands in the block of a clause
pub data InClause (w : Setting) (a : Around) : Scope → Catches → Around → Scope → Statement → Type 0 where
  here : {s inner there : Scope} {is_final : Bool} {class name : Named} {b : Braced} {rest : Catches} {c : ℕ} {around : Around} {part : Statement} → class_named w.table.classes class.name ≡ Some c →
      Leads (declaring name (class_type c) Bool.false) (opened s) inner → InBlock w a inner b around there part → InClause w a s (catch is_final class name b rest) around there part
  later : {s between there : Scope} {is_final : Bool} {class name : Named} {b : Braced} {rest : Catches} {around : Around} {part : Statement} → Leads (clause w class name (block w a b)) s between →
      InClause w a between rest around there part → InClause w a s (catch is_final class name b rest) around there part

-- the second statement is a part of the first, with its own surroundings and its own scope
pub data HasPart (w : Setting) (a : Around) (s : Scope) : Statement → Around → Scope → Statement → Type 0 where
  of_block : {b : Braced} {around : Around} {there : Scope} {part : Statement} → InBlock w a s b around there part → HasPart w a s (Block b) around there part
  if_true : {test : Expression} {main : Statement} {other : Other} {token : ℕ} → HasPart w a s (If test main other token) (inside a (number w token)) s main
  if_false : {test : Expression} {main other : Statement} {token : ℕ} {there : Scope} → Leads (statement w (inside a (number w token)) main) s there →
      HasPart w a s (If test main (present other) token) (inside a (number w token)) there other
  of_while : {test : Expression} {body : Statement} {token : ℕ} → HasPart w a s (While test body token) (in_loop a (number w token) (number w (site_of body))) s body
  of_do : {test : Expression} {body : Statement} {token : ℕ} → HasPart w a s (Do body test token) (in_loop a (number w token) (number w (site_of body))) s body
  of_for : {init : ForInit} {test : Option Expression} {updates : List Effect} {body : Statement} {token : ℕ} {there : Scope} → Leads (for_init w init) (opened s) there →
      HasPart w a s (For init test updates body token) (in_loop a (number w token) (number w (site_of body))) there body
  of_label : {name : Named} {body : Statement} → HasPart w a s (Labelled name body) (under_label a name.name (number w name.token) (number_of_body w (body_of_loop body))) s body
  of_try : {main : Braced} {catches : Catches} {last : Last} {token : ℕ} {around : Around} {there : Scope} {part : Statement} → InBlock w (in_first_block a (number w token) catches) s main around there part →
      HasPart w a s (Try main catches last token) around there part
  of_clause : {main : Braced} {catches : Catches} {last : Last} {token : ℕ} {around : Around} {between there : Scope} {part : Statement} → Leads (block w (in_first_block a (number w token) catches) main) s between →
      InClause w (inside a (number w token)) between catches around there part → HasPart w a s (Try main catches last token) around there part
  of_finally : {main b : Braced} {catches : Catches} {token : ℕ} {around : Around} {between end there : Scope} {part : Statement} → Leads (block w (in_first_block a (number w token) catches) main) s between →
      Leads (clauses w (inside a (number w token)) catches) between end → InBlock w (inside a (number w token)) end b around there part → HasPart w a s (Try main catches (finally b) token) around there part

-- the clause with this class and this parameter belongs to the statement, and begins in this scope
pub data InClauses (w : Setting) (a : Around) : Scope → Catches → Scope → Named → Named → Type 0 where
  here : {s : Scope} {is_final : Bool} {class name : Named} {b : Braced} {rest : Catches} → InClauses w a s (catch is_final class name b rest) s class name
  later : {s between there : Scope} {is_final : Bool} {class name own_class own_name : Named} {b : Braced} {rest : Catches} → Leads (clause w own_class own_name (block w a b)) s between →
      InClauses w a between rest there class name → InClauses w a s (catch is_final own_class own_name b rest) there class name

pub data HasClause (w : Setting) (a : Around) (s : Scope) : Statement → Scope → Named → Named → Type 0 where
  of_try : {main : Braced} {catches : Catches} {last : Last} {token : ℕ} {between there : Scope} {class name : Named} → Leads (block w (in_first_block a (number w token) catches) main) s between →
      InClauses w (inside a (number w token)) between catches there class name → HasClause w a s (Try main catches last token) there class name

-- ---- variables in statements

-- one of several declarators, behind what leads to its scope
pub data InDeclarators (w : Setting) (is_final : Bool) (ty : Ty) : Scope → List Declarator → Scope → Declarator → Type 0 where
  here : {s : Scope} {d : Declarator} {rest : List Declarator} → InDeclarators w is_final ty s (d ∷ rest) s d
  later : {s between there : Scope} {other d : Declarator} {rest : List Declarator} → Leads (declarator w is_final ty other) s between → InDeclarators w is_final ty between rest there d →
      InDeclarators w is_final ty s (other ∷ rest) there d

-- a written type with these declarators
pub data Lists : Statement → Bool → WrittenType → List Declarator → Type 0 where
  local : {is_final : Bool} {ty : WrittenType} {all : List Declarator} → Lists (Declare is_final ty all) is_final ty all
  of_for : {is_final : Bool} {ty : WrittenType} {all : List Declarator} {test : Option Expression} {updates : List Effect} {body : Statement} {token : ℕ} →
      Lists (For (source.ForInit.Declared is_final ty all) test updates body token) is_final ty all

-- the scope of a statement's declarations: a `for` is a block of its own
abbrev pub declaring_scope : Statement → Scope → Scope
declaring_scope (For init test updates body token) s = opened s
declaring_scope _ s = s

-- the statement declares the variable, of the type, in this scope
pub record Declares (w : Setting) (s : Scope) (x : Statement) (is_final : Bool) (ty : Ty) (there : Scope) (d : Declarator) : Type 0 where
  pub written : WrittenType
  pub all : List Declarator
  pub base : Ty
  pub lists : Lists x is_final written all
  pub is_type : IsType w.table written.base written.brackets base
  pub among : InDeclarators w is_final base (declaring_scope x s) all there d
  pub same : with_brackets base d.brackets ≡ ty

-- a variable is given this first, in the scope in which it is declared already (JLS 6.3)
pub record Begins (w : Setting) (s : Scope) (x : Statement) (is_final : Bool) (ty : Ty) (there : Scope) (d : Declarator) (i : Initial) : Type 0 where
  pub declared_in : Scope
  pub declares : Declares w s x is_final ty declared_in d
  pub leads : Leads (declaring d.name ty (is_final && is_some d.initial)) declared_in there
  pub given : d.initial ≡ Some i

-- ---- expressions in statements

-- the expression stands directly in the statement, in this scope
pub data Evaluates (w : Setting) (a : Around) (s : Scope) : Statement → Scope → Expression → Type 0 where
  test_if : {test : Expression} {main : Statement} {other : Other} {token : ℕ} → Evaluates w a s (If test main other token) s test
  test_while : {test : Expression} {body : Statement} {token : ℕ} → Evaluates w a s (While test body token) s test
  test_do : {test : Expression} {body : Statement} {token : ℕ} {there : Scope} → Leads (statement w (in_loop a (number w token) (number w (site_of body))) body) s there → Evaluates w a s (Do body test token) there test
  test_for : {init : ForInit} {test : Expression} {updates : List Effect} {body : Statement} {token : ℕ} {there : Scope} → Leads (for_init w init) (opened s) there → Evaluates w a s (For init (Some test) updates body token) there test
  begin_for : {all : List Effect} {test : Option Expression} {updates : List Effect} {body : Statement} {token : ℕ} {e : Effect} → Contains all e → Evaluates w a s (For (Effects all) test updates body token) (opened s) e.value
  update_for : {init : ForInit} {test : Option Expression} {updates : List Effect} {body : Statement} {token : ℕ} {there : Scope} {e : Effect} → Leads (for_init w init) (opened s) there → Contains updates e →
      Evaluates w a s (For init test updates body token) there e.value
  effect : {e : Effect} → Evaluates w a s (Perform e) s e.value
  returned : {value : Expression} {token : ℕ} → Evaluates w a s (Return (Some value) token) s value
  thrown : {value : Expression} {token : ℕ} → Evaluates w a s (Throw value token) s value
  initial : {x : Statement} {is_final : Bool} {ty : Ty} {there : Scope} {d : Declarator} {i : Initial} {e : Expression} → Begins w s x is_final ty there d i → Contains (values_of i) e → Evaluates w a s x there e

-- the test of a statement, whose site is this token
pub data Tests (w : Setting) (a : Around) (s : Scope) : Statement → Scope → Expression → ℕ → Type 0 where
  of_if : {test : Expression} {main : Statement} {other : Other} {token : ℕ} → Tests w a s (If test main other token) s test token
  of_while : {test : Expression} {body : Statement} {token : ℕ} → Tests w a s (While test body token) s test token
  of_do : {test : Expression} {body : Statement} {token : ℕ} {there : Scope} → Leads (statement w (in_loop a (number w token) (number w (site_of body))) body) s there → Tests w a s (Do body test token) there test token
  of_for : {init : ForInit} {test : Expression} {updates : List Effect} {body : Statement} {token : ℕ} {there : Scope} → Leads (for_init w init) (opened s) there → Tests w a s (For init (Some test) updates body token) there test token
