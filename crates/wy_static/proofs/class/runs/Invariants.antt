use Rattle.std.proofs.Common.{◌≡◌, map, take}
use Rattle.wy_kernel.specs.Program.{dispatch}
use Rattle.wy_static.specs.Seen.{seen_by}
use Rattle.wy_static.proofs.class.runs.Given as goal

abbrev pub invariant-loop-receiver : goal.invariant-loop-receiver
invariant-loop-receiver l = l.methods.items ≡ map (dispatch (seen_by l.dispatcher) l.method) (take l.receiver-index l.receivers)
