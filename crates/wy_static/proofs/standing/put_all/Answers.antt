use Rattle.std.proofs.Common.{ap, sym, ◌∙◌, ◌++◌, List}
use Rattle.std.proofs.lemmas.List.Folds.{flat_map-map}
use Rattle.wy_static.specs.declared.standing.Standing.{Standing}
use Rattle.wy_kernel.specs.Substatements.{statement_seen}
use Rattle.wy_static.specs.Standings.{standings_in}
use Rattle.wy_static.proofs.Behind.{all_of}
use Rattle.wy_static.proofs.standing.put_all.Goals as goal

pub returns : goal.returns
returns c = c.loop-s.invariant ∙ ap (λ (l : List Standing). c.args.out.now.items ++ l) (all_of (λ x. standings_in c.args.method (statement_seen x)) c.args.statements.now c.loop-s.s-index c.loop-s-test.false ∙ sym (flat_map-map (standings_in c.args.method) statement_seen c.args.statements.now))
