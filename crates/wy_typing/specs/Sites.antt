-- The sites of a program: the number of a token that a form, a statement or a declaration carries. Something holds of each site in a part.
use Rattle.std.specs.Prelude.{◌≡◌, ℕ, ◌<◌, ◌≤◌, List, length, Some, slice_get}
use Rattle.std.specs.List.{All, AllByRecursion}
use Rattle.wy_kernel.specs.Form.{Expression, Const, Str, Read, Set, Upd, Un, Bin, Conv, Cast, InstanceOf, Cond, New, NewArray, Call, Cat, Lib, Place, Local, Static, Field, Elem, Part, absent, the, Row, none, more, Statement, Stmt, Act, Eval, If, While, Do, For, Return, Throw, Try, Print, Catches, uncaught, catch}
use Rattle.wy_kernel.specs.Program as part
use Rattle.wy_kernel.specs.Program.{Program, Body, Class, Method}
use Rattle.wy_kernel.specs.Statements.{statements}
use Rattle.wy_kernel.specs.Builtin.{method_site}
use Rattle.wy_kernel.specs.Builtin as builtin

-- ---- forms

abbrev mutual
  pub Sited : (ℕ → Type 0) → Expression → Type 0
  Sited P (Const value) = Unit {0}
  Sited P (Str text) = Unit {0}
  Sited P (Read place) = PlaceSited P place
  Sited P (Set place value site) = P site × PlaceSited P place × Sited P value
  Sited P (Upd place op value value_ty ty wide gives_old site) = P site × PlaceSited P place × PartSited P value
  Sited P (Un op operand) = Sited P operand
  Sited P (Bin op left right site) = P site × Sited P left × Sited P right
  Sited P (Conv to operand) = Sited P operand
  Sited P (Cast ty operand site) = P site × Sited P operand
  Sited P (InstanceOf ty operand) = Sited P operand
  Sited P (Cond form test if_true if_false site) = P site × Sited P test × PartSited P if_true × PartSited P if_false
  Sited P (New class constructor args site) = P site × RowSited P args
  Sited P (NewArray ty dims elements element_sites site) = P site × RowSited P dims × RowSited P elements × AllByRecursion P element_sites
  Sited P (Call form method receiver ty args site) = P site × PartSited P receiver × RowSited P args
  Sited P (Cat left right left_ty right_ty site) = P site × Sited P left × Sited P right
  Sited P (Lib op args site) = P site × RowSited P args

  pub PlaceSited : (ℕ → Type 0) → Place → Type 0
  PlaceSited P (Local index) = Unit {0}
  PlaceSited P (Static field site) = P site
  PlaceSited P (Field object field site) = P site × Sited P object
  PlaceSited P (Elem array index site) = P site × Sited P array × Sited P index

  pub PartSited : (ℕ → Type 0) → Part → Type 0
  PartSited P absent = Unit {0}
  PartSited P (the e) = Sited P e

  pub RowSited : (ℕ → Type 0) → Row → Type 0
  RowSited P none = Unit {0}
  RowSited P (more e rest) = Sited P e × RowSited P rest

-- ---- statements

-- the clauses of a `try`, without their blocks
abbrev pub CatchesSited : (ℕ → Type 0) → Catches → Type 0
CatchesSited P uncaught = Unit {0}
CatchesSited P (catch class local site block rest) = P site × CatchesSited P rest

-- what stands in a statement itself, and in none of those within it
abbrev pub ActSited : (ℕ → Type 0) → Act → Type 0
ActSited P (Eval value) = Sited P value
ActSited P (If test if_true if_false) = Sited P test
ActSited P (While test body) = Sited P test
ActSited P (Do body test) = Sited P test
ActSited P (For inits test updates body) = PartSited P test
ActSited P (Return value) = PartSited P value
ActSited P (Throw value) = Sited P value
ActSited P (Try main catches last) = CatchesSited P catches
ActSited P (Print operand ty ends_line site) = P site × PartSited P operand
ActSited P _ = Unit {0}

abbrev pub StatementSited : (ℕ → Type 0) → Statement → Type 0
StatementSited P (Stmt number site askable reach act) = P site × ActSited P act

-- so it is at each of these
abbrev pub AllSited : (ℕ → Type 0) → List Statement → Type 0
AllSited P all = AllByRecursion (StatementSited P) all

-- ---- bodies, with their locals and the token at their end

abbrev pub LocalsSited : (ℕ → Type 0) → List part.Local → Type 0
LocalsSited P locals = All (λ (l : part.Local). P l.site) locals

pub record BodySited (P : ℕ → Type 0) (b : Body) : Type 0 where
  pub block : AllSited P (statements b.block)
  pub locals : LocalsSited P b.locals
  pub end : P b.end

-- ---- programs

-- one of so many tokens
abbrev pub IsToken : ℕ → ℕ → Type 0
IsToken tokens site = site < tokens

-- what the text declares stands at its tokens, and so does all that stands in its bodies; in the body of a method of the library, which has the
-- first numbers, each site is that of the method
pub record HasSites (tokens : ℕ) (p : Program) : Type 0 where
  pub classes : (c : ℕ) (k : Class) → length builtin.classes ≤ c → slice_get p.classes c ≡ Some k → IsToken tokens k.site
  pub methods : (k : ℕ) (m : Method) → length builtin.methods ≤ k → slice_get p.methods k ≡ Some m → IsToken tokens m.site
  pub fields : (k : ℕ) (f : part.Field) → length builtin.fields ≤ k → slice_get p.fields k ≡ Some f → IsToken tokens f.site
  pub bodies : (k : ℕ) (b : Body) → length builtin.methods ≤ k → slice_get p.bodies k ≡ Some (Some b) → BodySited (IsToken tokens) b
  pub initializers : (c : ℕ) (b : Body) → slice_get p.init_bodies c ≡ Some (Some b) → BodySited (IsToken tokens) b
  pub library : (k : ℕ) (b : Body) → k < length builtin.methods → slice_get p.bodies k ≡ Some (Some b) → BodySited (λ site. site ≡ method_site k) b
