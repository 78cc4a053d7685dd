use Rattle.std.proofs.Common.{◌∙◌, ap}
use Rattle.wy_kernel.specs.View.{expression}
use Rattle.wy_work.specs.Machines.{standing}
use Rattle.wy_work.proofs.Seen.{cat_by, library_by, row_length}
use Rattle.wy_kernel.proofs.ExpressionViews.{view_cat, view_lib}
use Rattle.wy_work.proofs.machine.Machine.operate_texts.Goals as goal

pub returns-in-Cat : goal.returns-in-Cat
returns-in-Cat g c = record { goes = cat_by _ (standing g.R.Register.keeps g.R.Register.kept c.args.self.now) (standing g.R.Register.keeps g.R.Register.kept c.concatenate.new.self) c.concatenate.result (expression c.args.expr.now) _ _ _ _ _ (ap expression c.in-Cat.is ∙ view_cat _ _ _ _ _) c.concatenate.ensures.goes }

pub returns-in-Lib : goal.returns-in-Lib
returns-in-Lib g c = record { goes = library_by _ (standing g.R.Register.keeps g.R.Register.kept c.args.self.now) (standing g.R.Register.keeps g.R.Register.kept c.library.new.self) c.library.result (expression c.args.expr.now) _ _ _ _ (ap expression c.in-Lib.is ∙ view_lib _ _ _) (row_length c.in-Lib.args.items _ (c.len.ensures ∙ c.in-Lib.args.ok.0)) c.library.ensures.goes }
