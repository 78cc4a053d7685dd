use Rattle.law_carried.proofs.Theorem.{ends_agree}
use Rattle.law_carried.proofs.Values.{starts_agree, expressions_lead, places_lead, arguments_lead, statements_lead, initializations_lead}
use Rattle.law_carried.proofs.backward.states_agree_with_records.Goals as goal

pub returns-clause-starts : goal.returns-clause-starts
returns-clause-starts c = starts_agree

pub returns-clause-expressions : goal.returns-clause-expressions
returns-clause-expressions c = expressions_lead

pub returns-clause-places : goal.returns-clause-places
returns-clause-places c = places_lead

pub returns-clause-arguments : goal.returns-clause-arguments
returns-clause-arguments c = arguments_lead

pub returns-clause-initializations : goal.returns-clause-initializations
returns-clause-initializations c = initializations_lead

pub returns-clause-statements : goal.returns-clause-statements
returns-clause-statements c = statements_lead

pub returns-clause-ends : goal.returns-clause-ends
returns-clause-ends c = ends_agree
