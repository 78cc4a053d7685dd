use Rattle.std.proofs.Common.{ap, ◌∙◌}
use Rattle.wy_kernel.specs.View.{act}
use Rattle.wy_kernel.proofs.Views.{view_try}
use Rattle.wy_static.specs.Standings.{try_standings}
use Rattle.wy_static.proofs.Behind.{at}
use Rattle.wy_static.proofs.Stands.{no_clause}
use Rattle.wy_static.proofs.standing.put_try.Goals as goal

pub returns-in-Try : goal.returns-in-Try
returns-in-Try c = at (try_standings c.args.method) c.put_catches.result c.args.out.now.items c.put_catches.new.out.items (act c.args.form.now) _ (ap act c.in-Try.is ∙ view_try _ _ _) (rw (← c.deref.ensures.value) c.put_catches.ensures)

pub returns-in-Block : goal.returns-in-Block
returns-in-Block c = no_clause c.args.method c.args.out.now.items c.args.form.now c.in-Block.is

pub returns-in-Block-2 : goal.returns-in-Block-2
returns-in-Block-2 c = no_clause c.args.method c.args.out.now.items c.args.form.now c.in-Block.is

pub returns-in-Block-3 : goal.returns-in-Block-3
returns-in-Block-3 c = no_clause c.args.method c.args.out.now.items c.args.form.now c.in-Block.is

pub returns-in-Block-4 : goal.returns-in-Block-4
returns-in-Block-4 c = no_clause c.args.method c.args.out.now.items c.args.form.now c.in-Block.is

pub returns-in-Block-5 : goal.returns-in-Block-5
returns-in-Block-5 c = no_clause c.args.method c.args.out.now.items c.args.form.now c.in-Block.is

pub returns-in-Block-6 : goal.returns-in-Block-6
returns-in-Block-6 c = no_clause c.args.method c.args.out.now.items c.args.form.now c.in-Block.is

pub returns-in-Block-7 : goal.returns-in-Block-7
returns-in-Block-7 c = no_clause c.args.method c.args.out.now.items c.args.form.now c.in-Block.is

pub returns-in-Block-8 : goal.returns-in-Block-8
returns-in-Block-8 c = no_clause c.args.method c.args.out.now.items c.args.form.now c.in-Block.is

pub returns-in-Block-9 : goal.returns-in-Block-9
returns-in-Block-9 c = no_clause c.args.method c.args.out.now.items c.args.form.now c.in-Block.is

pub returns-in-Block-10 : goal.returns-in-Block-10
returns-in-Block-10 c = no_clause c.args.method c.args.out.now.items c.args.form.now c.in-Block.is

pub returns-in-Block-11 : goal.returns-in-Block-11
returns-in-Block-11 c = no_clause c.args.method c.args.out.now.items c.args.form.now c.in-Block.is

pub returns-in-Block-12 : goal.returns-in-Block-12
returns-in-Block-12 c = no_clause c.args.method c.args.out.now.items c.args.form.now c.in-Block.is
