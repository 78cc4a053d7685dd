use Rattle.std.proofs.Common.{◌≡◌, true, sym}
use Rattle.wy_kernel.specs.Parts.{program_of}
use Rattle.wy_state.proofs.Lying.{object_is_above}
use Rattle.wy_state.proofs.below.is_subclass.Goals as goal

pub returns-then-above-eq-OBJECT : goal.returns-then-above-eq-OBJECT
returns-then-above-eq-OBJECT c = sym (object_is_above (program_of c.args.program.now) c.args.class c.args.above c.if-above-eq-OBJECT.true)
