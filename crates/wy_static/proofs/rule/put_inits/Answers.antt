use Rattle.wy_kernel.specs.Parts.{program_of}
use Rattle.wy_static.specs.Ways.{init_ways}
use Rattle.wy_static.proofs.Behind.{one_more_number}
use Rattle.wy_static.proofs.rule.put_inits.Goals as goal

pub loop-n-preserved : goal.loop-n-preserved
loop-n-preserved c = one_more_number (init_ways (program_of c.args.program.now)) c.args.out.now.items c.loop-n.out.items c.put_init.new.out.items c.loop-n.n c.loop-n.invariant c.in_ok-put_init.ensures
