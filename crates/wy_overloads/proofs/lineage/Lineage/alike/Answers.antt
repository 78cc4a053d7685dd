use Rattle.wy_kernel.specs.View.{method_of}
use Rattle.wy_overloads.specs.LineageView.{lineage_of}
use Rattle.wy_overloads.proofs.Listed.{lists_both, equivalent_so}
use Rattle.wy_overloads.proofs.lineage.Lineage.alike.Goals as goal

pub returns : goal.returns
returns c =
    let t = lineage_of c.args.self.now in
    lists_both t.methods _ _ _ c.alike_by_name.result.now c.constructors_of.result.now (λ j other h. equivalent_so t.classes c.args.ty.now (method_of c.args.m.now) other h) c.alike_by_name.ensures c.constructors_of.ensures
