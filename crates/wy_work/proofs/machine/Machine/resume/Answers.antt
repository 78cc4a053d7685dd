use Rattle.wy_kernel.specs.Parts.{program_of}
use Rattle.wy_work.specs.Machines.{standing}
use Rattle.wy_work.proofs.Passing.{close_ends}
use Rattle.wy_work.proofs.Resuming.{expr_resumed, row_resumed, stmts_resumed}
use Rattle.wy_work.proofs.machine.Machine.resume.Goals as goal

pub returns-in-Expr : goal.returns-in-Expr
returns-in-Expr g c = record { goes = expr_resumed (program_of c.args.on.now.program.now) (standing g.R.Register.keeps g.R.Register.kept c.args.self.now) c.resume_expr.result (standing g.R.Register.keeps g.R.Register.kept c.resume_expr.new.self) c.args.task _ _ c.in-Expr.is c.resume_expr.ensures.goes }

pub returns-in-Row : goal.returns-in-Row
returns-in-Row g c = record { goes = row_resumed (program_of c.args.on.now.program.now) (standing g.R.Register.keeps g.R.Register.kept c.args.self.now) c.find_all.result (standing g.R.Register.keeps g.R.Register.kept c.find_all.new.self) c.args.task _ c.in-Row.is c.find_all.ensures.goes }

pub returns-in-Stmts : goal.returns-in-Stmts
returns-in-Stmts g c = record { goes = stmts_resumed (program_of c.args.on.now.program.now) (standing g.R.Register.keeps g.R.Register.kept c.args.self.now) c.begin_all.result (standing g.R.Register.keeps g.R.Register.kept c.begin_all.new.self) c.args.task _ c.in-Stmts.is (c.begin_all.ensures.goes (program_of c.args.on.now.program.now)) }

pub returns-in_ok-close_scope-in-Close : goal.returns-in_ok-close_scope-in-Close
returns-in_ok-close_scope-in-Close g c = record { goes = close_ends (program_of c.args.on.now.program.now) (standing g.R.Register.keeps g.R.Register.kept c.args.self.now) _ c.args.task _ c.in-Close.is c.in_ok-close_scope-in-Close.ensures.calls (c.in_ok-close_scope-in-Close.ensures.step (program_of c.args.on.now.program.now)) }
