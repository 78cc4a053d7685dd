use Rattle.wy_reply.specs.Tellings as wanted
use Rattle.wy_top.proofs.Sound.{trace_well}
use Rattle.wy_top.proofs.rewritten.sealed_traces_are_migrated.Goals as goal

pub returns : goal.returns
returns c = λ files name p t status text opened due.
    trace_well (record {
      lists = c.a_text_has_one_token_list.ensures;
      tokens = c.a_refused_text_has_no_tokens.ensures.tokens;
      one = c.a_refused_text_has_no_tokens.ensures.one;
      utf8 = c.a_refused_text_has_no_tokens.ensures.utf8;
      trees = c.a_token_list_has_one_tree.ensures;
      programs = c.a_text_has_one_program.ensures;
    }) (record { reading = c.bytes_are_read_in_one_way.ensures; answers = c.one_answer_to_questions.ensures; statements = c.one_answer_to_whynot.ensures; scopes = c.one_answer_to_scope.ensures; audits = c.one_audit_is_due.ensures; certificates = c.one_certificate_is_made.ensures; verdicts = c.one_verdict_is_due.ensures; sessions = c.one_talk.ensures })
    files name wanted.Migrate status text (record { program = p; trace = t; opened = opened; names = tt }) due
