use Rattle.std.proofs.Common.{ap, sym, ◌∙◌, ◌++◌, List}
use Rattle.std.proofs.lemmas.List.Folds.{flat_map-map}
use Rattle.wy_static.specs.declared.way.Way.{Way}
use Rattle.wy_kernel.specs.Substatements.{statement_seen}
use Rattle.wy_static.specs.Seen.{seen_by}
use Rattle.wy_static.specs.Ways.{statement_ways}
use Rattle.wy_static.proofs.Behind.{all_of}
use Rattle.wy_static.proofs.rule.put_statements.Goals as goal

pub returns : goal.returns
returns c =
    let p = seen_by c.args.dispatcher.now in
    c.loop-s.invariant ∙ ap (λ (l : List Way). c.args.out.now.items ++ l) (all_of (λ x. statement_ways p (statement_seen x)) c.args.statements.now c.loop-s.s-index c.loop-s-test.false ∙ sym (flat_map-map (statement_ways p) statement_seen c.args.statements.now))
