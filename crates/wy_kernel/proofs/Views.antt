-- What a statement in memory says, at each of its forms.
use Rattle.std.proofs.Common.{◌≡◌, ap, sym, ◌∙◌, map, Option, Some, ℕ, Bool}
use Rattle.std.specs.Prelude.{None as Absent}
use Rattle.std.specs.declared.alloc.Global.{Global}
use Rattle.std.specs.declared.boxed.Box.{Box}
use Rattle.std.specs.declared.vec.Vec.{Vec}
use Rattle.wy_kernel.specs.declared.types.Ty.{Ty}
use Rattle.wy_kernel.specs.declared.form.Expr.{Expr}
use Rattle.wy_kernel.specs.declared.form.Stmt.{Stmt}
use Rattle.wy_kernel.specs.declared.form.Catch.{Catch}
use Rattle.wy_kernel.specs.declared.form.StmtForm.TheOpen as layer
use Rattle.wy_kernel.specs.declared.form.StmtForm.TheVariants as form
use Rattle.wy_kernel.specs.declared.form.StmtForm.TheFolds.{fold-roll-StmtForm, fold_out-Stmt, fold_out-Catch}
use Rattle.wy_kernel.specs.Form as plain
use Rattle.wy_kernel.specs.View.{Clause, act, act_step, catch_step, statement_step, statement, clause, statements_of, clauses_of, other, expression, test_of}

pub view_statement : (s : Stmt) → statement s ≡ plain.Stmt s.number s.site s.askable s.reach (act s.form)
unfolding statement act
view_statement s = fold_out-Stmt plain.Act Clause plain.Statement act_step catch_step statement_step s

pub view_block : (parts : Vec Stmt Global) → act (form.Block parts) ≡ plain.Block (statements_of (map statement parts.items))
unfolding act statement
view_block parts = ap act (sym (form.rolls-Block parts)) ∙ fold-roll-StmtForm plain.Act Clause plain.Statement act_step catch_step statement_step (layer.Block parts)

pub view_eval : (value : Expr) → act (form.Eval value) ≡ plain.Eval (expression value)
unfolding act statement
view_eval value = ap act (sym (form.rolls-Eval value)) ∙ fold-roll-StmtForm plain.Act Clause plain.Statement act_step catch_step statement_step (layer.Eval value)

pub view_declare : (local : ℕ) → act (form.Declare local) ≡ plain.Declare local
unfolding act statement
view_declare local = ap act (sym (form.rolls-Declare local)) ∙ fold-roll-StmtForm plain.Act Clause plain.Statement act_step catch_step statement_step (layer.Declare local)

pub view_while : (test : Expr) (body : Box Stmt Global) → act (form.While test body) ≡ plain.While (expression test) (statement body.value)
unfolding act statement
view_while test body = ap act (sym (form.rolls-While test body)) ∙ fold-roll-StmtForm plain.Act Clause plain.Statement act_step catch_step statement_step (layer.While test body)

pub view_do : (body : Box Stmt Global) (test : Expr) → act (form.Do body test) ≡ plain.Do (statement body.value) (expression test)
unfolding act statement
view_do body test = ap act (sym (form.rolls-Do body test)) ∙ fold-roll-StmtForm plain.Act Clause plain.Statement act_step catch_step statement_step (layer.Do body test)

pub view_for : (inits : Vec Stmt Global) (test : Option Expr) (updates : Vec Stmt Global) (body : Box Stmt Global) → act (form.For inits test updates body) ≡ plain.For (statements_of (map statement inits.items)) (test_of test) (statements_of (map statement updates.items)) (statement body.value)
unfolding act statement
view_for inits test updates body = ap act (sym (form.rolls-For inits test updates body)) ∙ fold-roll-StmtForm plain.Act Clause plain.Statement act_step catch_step statement_step (layer.For inits test updates body)

pub view_labelled : (body : Box Stmt Global) → act (form.Labelled body) ≡ plain.Labelled (statement body.value)
unfolding act statement
view_labelled body = ap act (sym (form.rolls-Labelled body)) ∙ fold-roll-StmtForm plain.Act Clause plain.Statement act_step catch_step statement_step (layer.Labelled body)

pub view_jump : (target : ℕ) → act (form.Jump target) ≡ plain.Jump target
unfolding act statement
view_jump target = ap act (sym (form.rolls-Jump target)) ∙ fold-roll-StmtForm plain.Act Clause plain.Statement act_step catch_step statement_step (layer.Jump target)

pub view_return : (value : Option Expr) → act (form.Return value) ≡ plain.Return (test_of value)
unfolding act statement
view_return value = ap act (sym (form.rolls-Return value)) ∙ fold-roll-StmtForm plain.Act Clause plain.Statement act_step catch_step statement_step (layer.Return value)

pub view_throw : (value : Expr) → act (form.Throw value) ≡ plain.Throw (expression value)
unfolding act statement
view_throw value = ap act (sym (form.rolls-Throw value)) ∙ fold-roll-StmtForm plain.Act Clause plain.Statement act_step catch_step statement_step (layer.Throw value)

pub view_print : (operand : Option Expr) (ty : Ty) (ends_line : Bool) (site : ℕ) → act (form.Print operand ty ends_line site) ≡ plain.Print (test_of operand) ty ends_line site
unfolding act statement
view_print operand ty ends_line site = ap act (sym (form.rolls-Print operand ty ends_line site)) ∙ fold-roll-StmtForm plain.Act Clause plain.Statement act_step catch_step statement_step (layer.Print operand ty ends_line site)

pub view_if : (test : Expr) (main : Box Stmt Global) (last : Option (Box Stmt Global)) → act (form.If test main last) ≡ plain.If (expression test) (statement main.value) (other last)
unfolding act statement
view_if test main Absent = ap act (sym (form.rolls-If test main Absent)) ∙ fold-roll-StmtForm plain.Act Clause plain.Statement act_step catch_step statement_step (layer.If test main Absent)
view_if test main (Some last) = ap act (sym (form.rolls-If test main (Some last))) ∙ fold-roll-StmtForm plain.Act Clause plain.Statement act_step catch_step statement_step (layer.If test main (Some last))

pub view_try : (main : Box Stmt Global) (catches : Vec Catch Global) (last : Option (Box Stmt Global)) → act (form.Try main catches last) ≡ plain.Try (statement main.value) (clauses_of (map clause catches.items)) (other last)
unfolding act statement clause
view_try main catches Absent = ap act (sym (form.rolls-Try main catches Absent)) ∙ fold-roll-StmtForm plain.Act Clause plain.Statement act_step catch_step statement_step (layer.Try main catches Absent)
view_try main catches (Some last) = ap act (sym (form.rolls-Try main catches (Some last))) ∙ fold-roll-StmtForm plain.Act Clause plain.Statement act_step catch_step statement_step (layer.Try main catches (Some last))

pub view_clause : (c : Catch) (rest : plain.Catches) → clause c rest ≡ plain.catch c.class c.local c.site (statement c.block) rest
unfolding clause statement
view_clause c rest = ap (λ f. f rest) (fold_out-Catch plain.Act Clause plain.Statement act_step catch_step statement_step c)
