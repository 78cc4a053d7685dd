use Rattle.wy_kernel.specs.Parts.{program_of}
use Rattle.wy_top.proofs.OneText.{program_or_cause}
use Rattle.wy_top.proofs.laws.programs_are_not_refused.Goals as goal

pub returns : goal.returns
returns c = λ source line p is none.
    program_or_cause (record {
      lists = c.a_text_has_one_token_list.ensures;
      tokens = c.a_refused_text_has_no_tokens.ensures.tokens;
      one = c.a_refused_text_has_no_tokens.ensures.one;
      utf8 = c.a_refused_text_has_no_tokens.ensures.utf8;
      trees = c.a_token_list_has_one_tree.ensures;
      programs = c.a_text_has_one_program.ensures;
    }) source is.spans (program_of p) line is.read is.becomes none
