use Rattle.std.specs.Prelude.{map}
use Rattle.wy_kernel.specs.View.{class_of}
use Rattle.wy_table.specs.Hierarchy.{rows_of}
use Rattle.wy_overloads.specs.LineageView.{lineage_of}
use Rattle.wy_overloads.proofs.Climbing.{listed_exact}
use Rattle.wy_overloads.proofs.lineage.Lineage.is_above.Goals as goal

pub returns : goal.returns
unfolding lineage_of
returns c =
    let l = c.args.self.now in
    let exact = listed_exact (map class_of l.classes.now) (rows_of l.hierarchy.now) l.keeps_supertypes c.args.c c.args.d c.requires in
    (λ t. exact.0 (c.is_above.ensures.0 t), λ s. c.is_above.ensures.1 (exact.1 s))
