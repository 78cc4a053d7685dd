use Rattle.law_sites.proofs.Programs.{sites_are_tokens}
use Rattle.law_sites.proofs.sites.sites_are_tokens.Goals as goal

pub returns : goal.returns
returns c = sites_are_tokens
