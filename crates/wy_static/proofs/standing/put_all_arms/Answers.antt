use Rattle.std.proofs.Common.{ap, sym, ◌∙◌, ◌++◌, List}
use Rattle.std.proofs.lemmas.List.Folds.{flat_map-map}
use Rattle.wy_static.specs.declared.standing.Standing.{Standing}
use Rattle.wy_static.specs.Seen.{form_seen}
use Rattle.wy_static.specs.Standings.{arm_standings}
use Rattle.wy_static.proofs.Behind.{all_of}
use Rattle.wy_static.proofs.standing.put_all_arms.Goals as goal

pub returns : goal.returns
returns c = c.loop-owned.invariant ∙ ap (λ (l : List Standing). c.args.out.now.items ++ l) (all_of (λ x. arm_standings c.args.method c.args.around (form_seen x)) c.args.forms.now c.loop-owned.owned-index c.loop-owned-test.false ∙ sym (flat_map-map (arm_standings c.args.method c.args.around) form_seen c.args.forms.now))
