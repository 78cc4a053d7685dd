use Rattle.std.proofs.Common.{◌≡◌, drop, map}
use Rattle.wy_explain.specs.Rows.{says_in}
use Rattle.wy_explain.specs.Views.{saying_of}
use Rattle.wy_explain.proofs.feature.says_in.Given as goal

abbrev pub invariant-loop-saying : goal.invariant-loop-saying
invariant-loop-saying l = says_in (map saying_of l.sayings) l.rule ≡ says_in (map saying_of (drop l.saying-index l.sayings)) l.rule
