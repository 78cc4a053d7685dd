use Rattle.std.proofs.Common.{ap, ◌∙◌}
use Rattle.wy_kernel.specs.View.{act}
use Rattle.wy_kernel.proofs.Views.{view_print}
use Rattle.wy_static.specs.Seen.{seen_by}
use Rattle.wy_static.specs.Ways.{printing}
use Rattle.wy_static.proofs.Behind.{at}
use Rattle.wy_static.proofs.Rules.{prints_none}
use Rattle.wy_static.proofs.rule.put_printing.Goals as goal

pub returns-in-Print : goal.returns-in-Print
returns-in-Print c = at (printing (seen_by c.args.dispatcher.now) c.args.owner) c.put_converting.result c.args.out.now.items c.put_converting.new.out.items (act c.args.form.now) _ (ap act c.in-Print.is ∙ view_print _ _ _ _) c.put_converting.ensures

pub returns-in-Block : goal.returns-in-Block
returns-in-Block c = prints_none (seen_by c.args.dispatcher.now) c.args.out.now.items c.args.owner c.args.form.now c.in-Block.is

pub returns-in-Block-2 : goal.returns-in-Block-2
returns-in-Block-2 c = prints_none (seen_by c.args.dispatcher.now) c.args.out.now.items c.args.owner c.args.form.now c.in-Block.is

pub returns-in-Block-3 : goal.returns-in-Block-3
returns-in-Block-3 c = prints_none (seen_by c.args.dispatcher.now) c.args.out.now.items c.args.owner c.args.form.now c.in-Block.is

pub returns-in-Block-4 : goal.returns-in-Block-4
returns-in-Block-4 c = prints_none (seen_by c.args.dispatcher.now) c.args.out.now.items c.args.owner c.args.form.now c.in-Block.is

pub returns-in-Block-5 : goal.returns-in-Block-5
returns-in-Block-5 c = prints_none (seen_by c.args.dispatcher.now) c.args.out.now.items c.args.owner c.args.form.now c.in-Block.is

pub returns-in-Block-6 : goal.returns-in-Block-6
returns-in-Block-6 c = prints_none (seen_by c.args.dispatcher.now) c.args.out.now.items c.args.owner c.args.form.now c.in-Block.is

pub returns-in-Block-7 : goal.returns-in-Block-7
returns-in-Block-7 c = prints_none (seen_by c.args.dispatcher.now) c.args.out.now.items c.args.owner c.args.form.now c.in-Block.is

pub returns-in-Block-8 : goal.returns-in-Block-8
returns-in-Block-8 c = prints_none (seen_by c.args.dispatcher.now) c.args.out.now.items c.args.owner c.args.form.now c.in-Block.is

pub returns-in-Block-9 : goal.returns-in-Block-9
returns-in-Block-9 c = prints_none (seen_by c.args.dispatcher.now) c.args.out.now.items c.args.owner c.args.form.now c.in-Block.is

pub returns-in-Block-10 : goal.returns-in-Block-10
returns-in-Block-10 c = prints_none (seen_by c.args.dispatcher.now) c.args.out.now.items c.args.owner c.args.form.now c.in-Block.is

pub returns-in-Block-11 : goal.returns-in-Block-11
returns-in-Block-11 c = prints_none (seen_by c.args.dispatcher.now) c.args.out.now.items c.args.owner c.args.form.now c.in-Block.is

pub returns-in-Block-12 : goal.returns-in-Block-12
returns-in-Block-12 c = prints_none (seen_by c.args.dispatcher.now) c.args.out.now.items c.args.owner c.args.form.now c.in-Block.is
