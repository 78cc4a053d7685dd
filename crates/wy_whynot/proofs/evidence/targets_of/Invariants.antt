use Rattle.std.proofs.Common.{◌≡◌, take}
use Rattle.std.specs.Prelude.{filter}
use Rattle.wy_whynot.specs.Evidence.{is_call_from, targets_of}
use Rattle.wy_whynot.specs.Targets.{KnowsTargets}
use Rattle.wy_whynot.proofs.evidence.targets_of.Given as goal

abbrev pub invariant-loop-hit : goal.invariant-loop-hit
invariant-loop-hit l = record {
  known : KnowsTargets l.methods l.made.items;
  made : l.made.items ≡ targets_of (filter (is_call_from l.body) (take l.hit-index l.hits));
}
