use Rattle.law_carried.proofs.Closures.{closure_by_sources, data_closure_by_sources}
use Rattle.law_carried.proofs.backward.closures_are_of_sources.Goals as goal

pub returns-clause-all : goal.returns-clause-all
returns-clause-all c = closure_by_sources

pub returns-clause-data : goal.returns-clause-data
returns-clause-data c = data_closure_by_sources
