use Rattle.std.proofs.Common.{◌++◌, ap, ◌∙◌}
use Rattle.std.specs.Prelude.{option_map}
use Rattle.wy_kernel.specs.View.{body_of}
use Rattle.wy_kernel.specs.Parts.{program_of}
use Rattle.wy_static.specs.Standings.{body_standings, initializer_number, initializer_standings}
use Rattle.wy_static.proofs.Behind.{one_more_number}
use Rattle.wy_static.proofs.standing.put_initializers.Goals as goal

pub loop-n-preserved : goal.loop-n-preserved
loop-n-preserved c = one_more_number (initializer_standings (program_of c.args.program.now)) c.args.out.now.items c.loop-n.out.items c.put_in_body.new.out.items c.loop-n.n c.loop-n.invariant
    (c.in_ok-put_in_body.ensures ∙ ap (λ m. c.loop-n.out.items ++ body_standings m (option_map (λ b. body_of b.now) c.init_body.result)) c.initializer_number.ensures ∙ ap (λ b. c.loop-n.out.items ++ body_standings (initializer_number c.loop-n.n) b) c.init_body.ensures)
