-- Kernel forms as contracts see them: without where they lie in memory.
use Rattle.std.specs.Prelude.{ℕ, List, [], ◌∷◌, map, Option, Some, ◌==◌, if◌then◌else◌, string_bytes}
use Rattle.std.specs.Prelude.{None as Absent}
use Rattle.std.specs.declared.boxed.Box.{Box}
use Rattle.std.specs.declared.alloc.Global.{Global}
use Rattle.wy_kernel.specs.declared.form.Const.{Const}
use Rattle.wy_kernel.specs.declared.form.Const.TheVariants as constant
use Rattle.wy_kernel.specs.declared.form.Expr.{Expr}
use Rattle.wy_kernel.specs.declared.form.Place.{Place}
use Rattle.wy_kernel.specs.declared.form.Expr.TheOpen.{Expr-F, Place-F}
use Rattle.wy_kernel.specs.declared.form.Expr.TheOpen as layer
use Rattle.wy_kernel.specs.declared.form.Expr.TheFolds.{fold-Expr, fold-Place}
use Rattle.wy_kernel.specs.declared.form.Stmt.{Stmt}
use Rattle.wy_kernel.specs.declared.form.StmtForm.{StmtForm}
use Rattle.wy_kernel.specs.declared.form.Catch.{Catch}
use Rattle.wy_kernel.specs.declared.form.StmtForm.TheOpen as act_layer
use Rattle.wy_kernel.specs.declared.form.StmtForm.TheFolds.{fold-Stmt, fold-StmtForm, fold-Catch}
use Rattle.wy_kernel.specs.declared.form.StmtForm.TheOpen.{StmtForm-F, Catch-F, Stmt-F}
use Rattle.wy_kernel.specs.declared.form.Body.{Body}
use Rattle.wy_kernel.specs.declared.types.Class.{Class}
use Rattle.wy_kernel.specs.declared.types.Method.{Method}
use Rattle.wy_kernel.specs.declared.types.Field.{Field}
use Rattle.wy_kernel.specs.declared.types.Local.{Local}
use Rattle.wy_kernel.specs.Program as parts
use Rattle.wy_kernel.specs.Form as plain

-- a text stands in no form
abbrev pub constant_of : Const → plain.Constant
constant_of constant.Null = plain.Null
constant_of (constant.Bool b) = plain.Truth b
constant_of (constant.Byte z) = plain.Byte z
constant_of (constant.Short z) = plain.Short z
constant_of (constant.Char n) = plain.Char n
constant_of (constant.Int z) = plain.Int z
constant_of (constant.Long z) = plain.Long z
constant_of (constant.Text units) = plain.Null

-- the number that stands where there is none
abbrev pub NONE : ℕ
NONE = 4294967295

unfoldable pub present : ℕ → Option ℕ
present n = if n == NONE then Absent else Some n

abbrev pub part_of : Option (Box plain.Expression Global) → plain.Part
part_of Absent = plain.absent
part_of (Some e) = plain.the e.value

abbrev pub row_of : List plain.Expression → plain.Row
row_of [] = plain.none
row_of (e ∷ rest) = plain.more e (row_of rest)

abbrev pub expression_step : Expr-F plain.Expression plain.Place → plain.Expression
expression_step (layer.Const value) = plain.Const (constant_of value)
expression_step (layer.Str text) = plain.Str text
expression_step (layer.Read place) = plain.Read place
expression_step (layer.Set place value site) = plain.Set place value.value site
expression_step (layer.Upd place op value value_ty ty wide gives_old site) = plain.Upd place op (part_of value) value_ty ty wide gives_old site
expression_step (layer.Un op operand) = plain.Un op operand.value
expression_step (layer.Bin op left right site) = plain.Bin op left.value right.value site
expression_step (layer.Conv to operand) = plain.Conv to operand.value
expression_step (layer.Cast ty operand site) = plain.Cast ty operand.value site
expression_step (layer.InstanceOf ty operand) = plain.InstanceOf ty operand.value
expression_step (layer.Cond form test main other site) = plain.Cond form test.value (part_of main) (part_of other) site
expression_step (layer.New class constructor args site) = plain.New class (present constructor) (row_of args.items) site
expression_step (layer.NewArray ty dims elements sites site) = plain.NewArray ty (row_of dims.items) (row_of elements.items) sites.items site
expression_step (layer.Call form method receiver ty args site) = plain.Call form method (part_of receiver) ty (row_of args.items) site
expression_step (layer.Cat left right left_ty right_ty site) = plain.Cat left.value right.value left_ty right_ty site
expression_step (layer.Lib op args site) = plain.Lib op (row_of args.items) site

abbrev pub place_step : Place-F plain.Expression plain.Place → plain.Place
place_step (layer.Local index) = plain.Local index
place_step (layer.Static field site) = plain.Static field site
place_step (layer.Field object field site) = plain.Field object.value field site
place_step (layer.Elem array index site) = plain.Elem array.value index.value site

-- what an expression says, and a place
unfoldable pub expression : Expr → plain.Expression
expression = fold-Expr plain.Expression plain.Place expression_step place_step

unfoldable pub place : Place → plain.Place
place = fold-Place plain.Expression plain.Place expression_step place_step

-- a part that may be absent
abbrev pub part_seen : Option (Box Expr Global) → plain.Part
part_seen Absent = plain.absent
part_seen (Some e) = plain.the (expression e.value)

abbrev pub test_of : Option Expr → plain.Part
test_of Absent = plain.absent
test_of (Some e) = plain.the (expression e)

abbrev pub other_of : Option (Box plain.Statement Global) → plain.Other
other_of Absent = plain.nothing
other_of (Some s) = plain.this s.value

abbrev pub statements_of : List plain.Statement → plain.Statements
statements_of [] = plain.done
statements_of (s ∷ rest) = plain.first s (statements_of rest)

-- a clause of a `try`, before those after it are known
abbrev pub Clause : Type 0
Clause = plain.Catches → plain.Catches

abbrev pub clauses_of : List Clause → plain.Catches
clauses_of [] = plain.uncaught
clauses_of (c ∷ rest) = c (clauses_of rest)

abbrev pub act_step : StmtForm-F plain.Act Clause plain.Statement → plain.Act
act_step (act_layer.Block parts) = plain.Block (statements_of parts.items)
act_step (act_layer.Eval value) = plain.Eval (expression value)
act_step (act_layer.Declare local) = plain.Declare local
act_step (act_layer.If test main other) = plain.If (expression test) main.value (other_of other)
act_step (act_layer.While test body) = plain.While (expression test) body.value
act_step (act_layer.Do body test) = plain.Do body.value (expression test)
act_step (act_layer.For inits test updates body) = plain.For (statements_of inits.items) (test_of test) (statements_of updates.items) body.value
act_step (act_layer.Labelled body) = plain.Labelled body.value
act_step (act_layer.Jump target) = plain.Jump target
act_step (act_layer.Return value) = plain.Return (test_of value)
act_step (act_layer.Throw value) = plain.Throw (expression value)
act_step (act_layer.Try main catches last) = plain.Try main.value (clauses_of catches.items) (other_of last)
act_step (act_layer.Print operand ty ends_line site) = plain.Print (test_of operand) ty ends_line site

abbrev pub catch_step : Catch-F plain.Act Clause plain.Statement → Clause
catch_step c rest = plain.catch c.class c.local c.site c.block rest

abbrev pub statement_step : Stmt-F plain.Act Clause plain.Statement → plain.Statement
statement_step s = plain.Stmt s.number s.site s.askable s.reach s.form

-- what a statement says
unfoldable pub statement : Stmt → plain.Statement
statement = fold-Stmt plain.Act Clause plain.Statement act_step catch_step statement_step

-- what it does, and what a clause of a `try` says
unfoldable pub act : StmtForm → plain.Act
act = fold-StmtForm plain.Act Clause plain.Statement act_step catch_step statement_step

unfoldable pub clause : Catch → Clause
clause = fold-Catch plain.Act Clause plain.Statement act_step catch_step statement_step

abbrev pub other : Option (Box Stmt Global) → plain.Other
other Absent = plain.nothing
other (Some s) = plain.this (statement s.value)

-- ---- declarations, bodies and programs

abbrev pub class_of : Class → parts.Class
class_of c = record {
  name = string_bytes c.name;
  site = c.site;
  is_interface = c.is_interface;
  is_abstract = c.is_abstract;
  is_final = c.is_final;
  above = present c.above;
  interfaces = c.interfaces.items;
}

abbrev pub method_of : Method → parts.Method
method_of m = record {
  name = string_bytes m.name;
  site = m.site;
  class = m.class;
  params = m.params.items;
  result = m.result;
  form = m.form;
  is_private = m.is_private;
  is_abstract = m.is_abstract;
  is_final = m.is_final;
}

abbrev pub field_of : Field → parts.Field
field_of f = record {
  name = string_bytes f.name;
  site = f.site;
  class = f.class;
  ty = f.ty;
  is_static = f.is_static;
  is_final = f.is_final;
  is_fixed = f.is_fixed;
  is_private = f.is_private;
}

abbrev pub local_of : Local → parts.Local
local_of l = record { name = string_bytes l.name; site = l.site; ty = l.ty }

abbrev pub body_of : Body → parts.Body
body_of b = record { block = statement b.block; locals = map local_of b.locals.items; end = b.end }
