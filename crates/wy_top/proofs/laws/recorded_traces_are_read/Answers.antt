use Rattle.wy_top.proofs.OwnTraces.{traces_short, traces_read, traces_not_refused}
use Rattle.wy_top.proofs.laws.recorded_traces_are_read.Goals as goal

pub returns-clause-short : goal.returns-clause-short
returns-clause-short c = traces_short (record { ordered = c.tokens_stand_in_order.ensures; programs = c.texts_are_programs.ensures; few = c.trees_declare_few.ensures; library = c.programs_keep_the_library.ensures; texts = c.trees_fit_their_texts.ensures; statements = c.trees_have_few_statements.ensures }) c.own_traces_are_short.ensures

pub returns-clause-read : goal.returns-clause-read
returns-clause-read c = traces_read (record { ordered = c.tokens_stand_in_order.ensures; programs = c.texts_are_programs.ensures; few = c.trees_declare_few.ensures; library = c.programs_keep_the_library.ensures; texts = c.trees_fit_their_texts.ensures; statements = c.trees_have_few_statements.ensures }) c.own_traces_are_short.ensures c.own_events_are_told.ensures.events c.own_traces_are_read.ensures.read

pub returns-clause-not_refused : goal.returns-clause-not_refused
returns-clause-not_refused c = traces_not_refused (record { ordered = c.tokens_stand_in_order.ensures; programs = c.texts_are_programs.ensures; few = c.trees_declare_few.ensures; library = c.programs_keep_the_library.ensures; texts = c.trees_fit_their_texts.ensures; statements = c.trees_have_few_statements.ensures }) c.own_traces_are_short.ensures c.own_traces_are_read.ensures.not_refused
