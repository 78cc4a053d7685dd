use Rattle.wy_telling.proofs.Clauses.{no_clause, try_clauses}
use Rattle.wy_telling.proofs.caught.put_statement.Goals as goal

pub returns-in-Try : goal.returns-in-Try
returns-in-Try c = try_clauses c.put_clauses.result c.args.out.now.items c.put_clauses.new.out.items c.args.s.now c.in-Try.first c.in-Try.catches c.in-Try.last c.in-Try.is (rw (← c.deref.ensures.value) c.put_clauses.ensures)

pub returns-in-Block : goal.returns-in-Block
returns-in-Block c = no_clause c.args.out.now.items c.args.s.now c.in-Block.is

pub returns-in-Block-2 : goal.returns-in-Block-2
returns-in-Block-2 c = no_clause c.args.out.now.items c.args.s.now c.in-Block.is

pub returns-in-Block-3 : goal.returns-in-Block-3
returns-in-Block-3 c = no_clause c.args.out.now.items c.args.s.now c.in-Block.is

pub returns-in-Block-4 : goal.returns-in-Block-4
returns-in-Block-4 c = no_clause c.args.out.now.items c.args.s.now c.in-Block.is

pub returns-in-Block-5 : goal.returns-in-Block-5
returns-in-Block-5 c = no_clause c.args.out.now.items c.args.s.now c.in-Block.is

pub returns-in-Block-6 : goal.returns-in-Block-6
returns-in-Block-6 c = no_clause c.args.out.now.items c.args.s.now c.in-Block.is

pub returns-in-Block-7 : goal.returns-in-Block-7
returns-in-Block-7 c = no_clause c.args.out.now.items c.args.s.now c.in-Block.is

pub returns-in-Block-8 : goal.returns-in-Block-8
returns-in-Block-8 c = no_clause c.args.out.now.items c.args.s.now c.in-Block.is

pub returns-in-Block-9 : goal.returns-in-Block-9
returns-in-Block-9 c = no_clause c.args.out.now.items c.args.s.now c.in-Block.is

pub returns-in-Block-10 : goal.returns-in-Block-10
returns-in-Block-10 c = no_clause c.args.out.now.items c.args.s.now c.in-Block.is

pub returns-in-Block-11 : goal.returns-in-Block-11
returns-in-Block-11 c = no_clause c.args.out.now.items c.args.s.now c.in-Block.is

pub returns-in-Block-12 : goal.returns-in-Block-12
returns-in-Block-12 c = no_clause c.args.out.now.items c.args.s.now c.in-Block.is
