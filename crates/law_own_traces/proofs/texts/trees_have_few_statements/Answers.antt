use Rattle.law_own_traces.proofs.FewStatements.{few_statements}
use Rattle.law_own_traces.proofs.texts.trees_have_few_statements.Goals as goal

pub returns : goal.returns
returns c = few_statements
