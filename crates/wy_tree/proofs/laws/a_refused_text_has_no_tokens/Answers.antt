use Rattle.wy_tree.proofs.Once.{tokens_or_refusal, one_refusal, not_utf8_alone}
use Rattle.wy_tree.proofs.laws.a_refused_text_has_no_tokens.Goals as goal

pub returns : goal.returns
returns c = record { tokens = tokens_or_refusal; one = one_refusal; utf8 = not_utf8_alone }
