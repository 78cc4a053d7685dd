use Rattle.std.proofs.Common.{take}
use Rattle.wy_check.specs.Asking.{AreAsked, AsksMore}
use Rattle.wy_check.proofs.asking.ask_uses.Given as goal

abbrev pub invariant-loop-used : goal.invariant-loop-used
invariant-loop-used l = record {
  asked : AreAsked l.history (take l.used-index l.uses);
  more : AsksMore l.initial.history l.history;
}
