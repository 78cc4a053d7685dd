use Rattle.law_carried.proofs.Theorem.{uses_determine_sets}
use Rattle.law_carried.proofs.Values.{values_are_by_uses, equal_uses_equal_sets}
use Rattle.law_carried.proofs.backward.uses_determine_sets.Goals as goal

pub returns-clause-events : goal.returns-clause-events
returns-clause-events c = uses_determine_sets

pub returns-clause-values : goal.returns-clause-values
returns-clause-values c = values_are_by_uses

pub returns-clause-equal_uses : goal.returns-clause-equal_uses
returns-clause-equal_uses c = equal_uses_equal_sets
