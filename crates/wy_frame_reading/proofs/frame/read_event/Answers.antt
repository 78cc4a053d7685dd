use Rattle.wy_frame_reading.proofs.Frames.{fails_is, found_is}
use Rattle.wy_frame_reading.proofs.frame.read_event.Goals as goal

pub returns-in-Ok : goal.returns-in-Ok
returns-in-Ok c = found_is c.args.version c.args.n c.args.bytes.now c.in-Ok.found (λ i. (c.type_inv.bytes i).fits) c.in-Ok.ensures

pub returns-in-Err-Broken : goal.returns-in-Err-Broken
returns-in-Err-Broken c = fails_is c.args.version c.args.n c.args.bytes.now c.in-Err-Broken.field-0 c.in-Err-Broken.field-0-0 c.in-Err-Broken.field-0-is c.in-Err-Broken.ensures
