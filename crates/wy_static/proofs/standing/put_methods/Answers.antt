use Rattle.std.proofs.Common.{◌++◌, ap, ◌∙◌}
use Rattle.wy_kernel.specs.Parts.{program_of}
use Rattle.wy_static.specs.Standings.{body_standings, method_standings}
use Rattle.wy_static.proofs.Behind.{one_more_number}
use Rattle.wy_static.proofs.standing.put_methods.Goals as goal

pub loop-n-preserved : goal.loop-n-preserved
loop-n-preserved c = one_more_number (method_standings (program_of c.args.program.now)) c.args.out.now.items c.loop-n.out.items c.put_in_body.new.out.items c.loop-n.n c.loop-n.invariant
    (c.in_ok-put_in_body.ensures ∙ ap (λ b. c.loop-n.out.items ++ body_standings c.loop-n.n b) c.body.ensures)
