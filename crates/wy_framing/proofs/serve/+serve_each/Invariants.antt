-- fewer mirrors are left
use Rattle.std.proofs.Common.{length}
use Rattle.wy_framing.proofs.serve.+serve_each.Given as goal

abbrev pub decreases-serve_each : goal.decreases-serve_each
decreases-serve_each g l = length l.sinks.now
