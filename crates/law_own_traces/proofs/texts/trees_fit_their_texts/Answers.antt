use Rattle.law_own_traces.proofs.TextWhole.{all_fit}
use Rattle.law_own_traces.proofs.texts.trees_fit_their_texts.Goals as goal

pub returns : goal.returns
returns c = all_fit c.sites_are_tokens.ensures
