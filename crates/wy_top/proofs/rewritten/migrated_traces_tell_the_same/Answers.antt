use Rattle.wy_top.proofs.AnewTellings.{told_alike}
use Rattle.wy_top.proofs.rewritten.migrated_traces_tell_the_same.Goals as goal

pub returns : goal.returns
returns c = told_alike (record {
  lists = c.a_text_has_one_token_list.ensures;
  tokens = c.a_refused_text_has_no_tokens.ensures.tokens;
  one = c.a_refused_text_has_no_tokens.ensures.one;
  utf8 = c.a_refused_text_has_no_tokens.ensures.utf8;
  trees = c.a_token_list_has_one_tree.ensures;
  programs = c.a_text_has_one_program.ensures;
}) c.bytes_are_read_in_one_way.ensures c.migrated_traces_are_read.ensures
