use Rattle.wy_top.proofs.OwnTraces.{outputs_told}
use Rattle.wy_top.proofs.laws.recorded_outputs_are_reports.Goals as goal

pub returns : goal.returns
returns c = outputs_told (record { ordered = c.tokens_stand_in_order.ensures; programs = c.texts_are_programs.ensures; few = c.trees_declare_few.ensures; library = c.programs_keep_the_library.ensures; texts = c.trees_fit_their_texts.ensures; statements = c.trees_have_few_statements.ensures }) c.own_traces_are_short.ensures c.own_events_are_told.ensures.events c.own_traces_are_read.ensures.read c.bytes_are_read_in_one_way.ensures c.output_is_what_the_run_wrote.ensures.text
