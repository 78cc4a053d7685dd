use Rattle.std.proofs.Common.{ap, sym, ◌∙◌, ◌++◌, List}
use Rattle.std.proofs.lemmas.List.Folds.{flat_map-map}
use Rattle.wy_static.specs.declared.way.Way.{Way}
use Rattle.wy_static.specs.Seen.{form_seen, seen_by}
use Rattle.wy_static.specs.Ways.{owned_ways}
use Rattle.wy_static.proofs.Behind.{all_of}
use Rattle.wy_static.proofs.rule.put_owned.Goals as goal

pub returns : goal.returns
returns c =
    let p = seen_by c.args.dispatcher.now in
    c.loop-owned.invariant ∙ ap (λ (l : List Way). c.args.out.now.items ++ l) (all_of (λ x. owned_ways p (form_seen x)) c.args.forms.now c.loop-owned.owned-index c.loop-owned-test.false ∙ sym (flat_map-map (owned_ways p) form_seen c.args.forms.now))
