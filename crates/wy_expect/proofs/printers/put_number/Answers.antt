use Rattle.std.proofs.Common.{ap, ◌∙◌}
use Rattle.wy_kernel.specs.View.{act}
use Rattle.wy_kernel.proofs.Views.{view_print}
use Rattle.wy_expect.proofs.Prints.{own, other_has_none}
use Rattle.wy_expect.proofs.printers.put_number.Goals as goal

pub returns-in-Print : goal.returns-in-Print
returns-in-Print c =
    own c.put.result c.args.numbers.now.items c.put.new.numbers.items c.args.s.now _ _ c.in-Print.ends_line c.in-Print.site (ap act c.in-Print.is ∙ view_print _ _ _ _) c.put.ensures

pub returns-in-Block : goal.returns-in-Block
returns-in-Block c = other_has_none c.args.numbers.now.items c.args.s.now c.in-Block.is

pub returns-in-Block-2 : goal.returns-in-Block-2
returns-in-Block-2 c = other_has_none c.args.numbers.now.items c.args.s.now c.in-Block.is

pub returns-in-Block-3 : goal.returns-in-Block-3
returns-in-Block-3 c = other_has_none c.args.numbers.now.items c.args.s.now c.in-Block.is

pub returns-in-Block-4 : goal.returns-in-Block-4
returns-in-Block-4 c = other_has_none c.args.numbers.now.items c.args.s.now c.in-Block.is

pub returns-in-Block-5 : goal.returns-in-Block-5
returns-in-Block-5 c = other_has_none c.args.numbers.now.items c.args.s.now c.in-Block.is

pub returns-in-Block-6 : goal.returns-in-Block-6
returns-in-Block-6 c = other_has_none c.args.numbers.now.items c.args.s.now c.in-Block.is

pub returns-in-Block-7 : goal.returns-in-Block-7
returns-in-Block-7 c = other_has_none c.args.numbers.now.items c.args.s.now c.in-Block.is

pub returns-in-Block-8 : goal.returns-in-Block-8
returns-in-Block-8 c = other_has_none c.args.numbers.now.items c.args.s.now c.in-Block.is

pub returns-in-Block-9 : goal.returns-in-Block-9
returns-in-Block-9 c = other_has_none c.args.numbers.now.items c.args.s.now c.in-Block.is

pub returns-in-Block-10 : goal.returns-in-Block-10
returns-in-Block-10 c = other_has_none c.args.numbers.now.items c.args.s.now c.in-Block.is

pub returns-in-Block-11 : goal.returns-in-Block-11
returns-in-Block-11 c = other_has_none c.args.numbers.now.items c.args.s.now c.in-Block.is

pub returns-in-Block-12 : goal.returns-in-Block-12
returns-in-Block-12 c = other_has_none c.args.numbers.now.items c.args.s.now c.in-Block.is
