use Rattle.std.proofs.Common.{arith}
use Rattle.wy_frames.proofs.Openings.{numbers_are_few}
use Rattle.wy_frames.proofs.open.payload_length.Goals as goal

pub overflow_add-result-2 : goal.overflow_add-result-2
overflow_add-result-2 c = rw (c.as_slice.ensures, c.as_slice-2.ensures) (omega (arith, numbers_are_few c.args.head.now c.requires))

pub overflow_cast-result : goal.overflow_cast-result
overflow_cast-result c = rw (c.as_slice.ensures, c.as_slice-2.ensures) (omega (arith, numbers_are_few c.args.head.now c.requires))
