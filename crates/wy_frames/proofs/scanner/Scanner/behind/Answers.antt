use Rattle.std.proofs.Common.{refl}
use Rattle.wy_payload.specs.Ranges.{ranges_of}
use Rattle.wy_frames.specs.Scan.{nothing}
use Rattle.wy_frames.proofs.Pieces.{nothing_waits}
use Rattle.wy_frames.proofs.scanner.Scanner.behind.Goals as goal

pub returns : goal.returns
returns c = record {
  version = refl;
  program = refl;
  steps = refl;
  knows = tt;
  sound = refl;
  holds = c.start.ensures;
  leaves = rw c.new.ensures.items nothing;
  waits = rw c.new.ensures.items (nothing_waits (ranges_of c.args.version c.args.program.now) c.args.head.now.steps c.args.version c.args.head.now);
}
