use Rattle.std.proofs.Common.{◌++◌, ap, ◌∙◌}
use Rattle.wy_kernel.specs.Parts.{program_of}
use Rattle.wy_static.specs.declared.point.Point.TheVariants as point
use Rattle.wy_static.proofs.Behind.{one_more_number}
use Rattle.wy_scope.specs.Regions.{method_regions, regions_of_body}
use Rattle.wy_scope.proofs.region.put_methods.Goals as goal

pub loop-n-preserved : goal.loop-n-preserved
loop-n-preserved c = one_more_number (method_regions (program_of c.args.program.now)) c.args.out.now.items c.loop-n.out.items c.put_in_body.new.out.items c.loop-n.n c.loop-n.invariant
    (c.in_ok-put_in_body.ensures ∙ ap (λ b. c.loop-n.out.items ++ regions_of_body (point.Entry c.loop-n.n) b) c.body.ensures)
