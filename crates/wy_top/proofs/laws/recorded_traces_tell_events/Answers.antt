use Rattle.wy_top.proofs.OwnTraces.{traces_tell}
use Rattle.wy_top.proofs.laws.recorded_traces_tell_events.Goals as goal

pub returns : goal.returns
returns c = traces_tell (record { ordered = c.tokens_stand_in_order.ensures; programs = c.texts_are_programs.ensures; few = c.trees_declare_few.ensures; library = c.programs_keep_the_library.ensures; texts = c.trees_fit_their_texts.ensures; statements = c.trees_have_few_statements.ensures }) c.own_events_are_told.ensures.bytes
