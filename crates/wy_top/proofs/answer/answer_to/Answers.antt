use Rattle.std.proofs.Common.{inl, inr, refl}
use Rattle.wy_words.specs.Views.{asked_of}
use Rattle.wy_words.specs.Words.{Run, Record, Output, Questions, Why, Affects, Certify, Check, Scope, WhyNot, Audit, Migrate, Gen}
use Rattle.wy_top.proofs.RunAnswers.{affects_carries, no_command_carries, no_command_cuts, other_command_carries, other_command_cuts, why_carries, whynot_cuts}
use Rattle.wy_top.proofs.AnswerLemmas.{usage_due, command_due, fault_named, generated_due, generated_settled, traces_due, traces_none, traces_other}
use Rattle.wy_top.proofs.LeftLemmas.{any_untouched, finishes, finishes_none, finishes_other, leaves, leaves_none, unstarted_untouched}
use Rattle.wy_top.proofs.answer.answer_to.Goals as goal

pub returns-in_default-clause-due : goal.returns-in_default-clause-due
returns-in_default-clause-due g c = λ words keys asked. usage_due words _ keys _ _ (rw (c.in_default.is) at asked) c.refused.ensures

pub returns-in-Run-clause-due : goal.returns-in-Run-clause-due
returns-in-Run-clause-due g c = λ words keys asked.
    command_due c.words_ask_one_command.ensures words _ keys (Run (asked_of c.in-Run.asked)) _ _ c.answer_to_run.result (rw (c.in-Some.is, c.in-Run.is) at asked) (λ n e. cc) (c.answer_to_run.ensures.due _)

pub returns-in-Run-clause-fault : goal.returns-in-Run-clause-fault
returns-in-Run-clause-fault g c = fault_named _ (Run (asked_of c.in-Run.asked)) _ _ c.answer_to_run.result (c.answer_to_run.ensures.due _)

pub returns-in-Record-clause-due : goal.returns-in-Record-clause-due
returns-in-Record-clause-due g c = λ words keys asked.
    command_due c.words_ask_one_command.ensures words _ keys (Record (asked_of c.in-Record.asked) c.in-Record.trace.now) _ _ c.answer_to_record.result (rw (c.in-Some.is, c.in-Record.is) at asked) (λ n e. cc) c.answer_to_record.ensures.due

pub returns-in-Record-clause-traces : goal.returns-in-Record-clause-traces
returns-in-Record-clause-traces g c = λ words asked.
    traces_due c.words_ask_one_command.ensures _ words _ (Record (asked_of c.in-Record.asked) c.in-Record.trace.now) _ _ c.answer_to_record.result (rw (c.in-Some.is, c.in-Record.is) at asked)
    c.answer_to_record.ensures.traced

pub returns-in-Record-clause-left : goal.returns-in-Record-clause-left
returns-in-Record-clause-left g c = λ words asked.
    leaves c.words_ask_one_command.ensures _ words _ (Record (asked_of c.in-Record.asked) c.in-Record.trace.now) _ _ _ (rw (c.in-Some.is, c.in-Record.is) at asked) c.answer_to_record.ensures.left

pub returns-in-Record-clause-fault : goal.returns-in-Record-clause-fault
returns-in-Record-clause-fault g c = fault_named _ (Record (asked_of c.in-Record.asked) c.in-Record.trace.now) _ _ c.answer_to_record.result c.answer_to_record.ensures.due

pub returns-in-Output-clause-due : goal.returns-in-Output-clause-due
returns-in-Output-clause-due g c = λ words keys asked.
    command_due c.words_ask_one_command.ensures words _ keys (Output c.in-Output.trace.now) _ _ c.answer_from.result (rw (c.in-Some.is, c.in-Output.is) at asked) (λ n e. cc) (c.answer_from.ensures.due _)

pub returns-in-Output-clause-fault : goal.returns-in-Output-clause-fault
returns-in-Output-clause-fault g c = fault_named _ (Output c.in-Output.trace.now) _ _ c.answer_from.result (c.answer_from.ensures.due _)

pub returns-in-Why-clause-due : goal.returns-in-Why-clause-due
returns-in-Why-clause-due g c = λ words keys asked.
    command_due c.words_ask_one_command.ensures words _ keys (Why c.in-Why.trace.now c.in-Why.question.now) _ _ c.answer_from-in-Why.result (rw (c.in-Some.is, c.in-Why.is) at asked) (λ n e. cc) (c.answer_from-in-Why.ensures.due _)

pub returns-in-Affects-clause-due : goal.returns-in-Affects-clause-due
returns-in-Affects-clause-due g c = λ words keys asked.
    command_due c.words_ask_one_command.ensures words _ keys (Affects c.in-Affects.trace.now c.in-Affects.question.now) _ _ c.answer_from-in-Affects.result (rw (c.in-Some.is, c.in-Affects.is) at asked) (λ n e. cc) (c.answer_from-in-Affects.ensures.due _)

pub returns-in-Why-clause-fault : goal.returns-in-Why-clause-fault
returns-in-Why-clause-fault g c = fault_named _ (Why c.in-Why.trace.now c.in-Why.question.now) _ _ c.answer_from-in-Why.result (c.answer_from-in-Why.ensures.due _)

pub returns-in-Affects-clause-fault : goal.returns-in-Affects-clause-fault
returns-in-Affects-clause-fault g c = fault_named _ (Affects c.in-Affects.trace.now c.in-Affects.question.now) _ _ c.answer_from-in-Affects.result (c.answer_from-in-Affects.ensures.due _)

pub returns-in-Questions-clause-due : goal.returns-in-Questions-clause-due
returns-in-Questions-clause-due g c = λ words keys asked.
    command_due c.words_ask_one_command.ensures words _ keys (Questions c.in-Questions.trace.now) _ _ c.answer_from-in-Questions.result (rw (c.in-Some.is, c.in-Questions.is) at asked) (λ n e. cc) (c.answer_from-in-Questions.ensures.due _)

pub returns-in-Questions-clause-fault : goal.returns-in-Questions-clause-fault
returns-in-Questions-clause-fault g c = fault_named _ (Questions c.in-Questions.trace.now) _ _ c.answer_from-in-Questions.result (c.answer_from-in-Questions.ensures.due _)

pub returns-in-WhyNot-clause-due : goal.returns-in-WhyNot-clause-due
returns-in-WhyNot-clause-due g c = λ words keys asked.
    command_due c.words_ask_one_command.ensures words _ keys (WhyNot c.in-WhyNot.trace.now c.in-WhyNot.statement.now) _ _ c.answer_from-in-WhyNot.result (rw (c.in-Some.is, c.in-WhyNot.is) at asked) (λ n e. cc) (c.answer_from-in-WhyNot.ensures.due _)

pub returns-in-WhyNot-clause-fault : goal.returns-in-WhyNot-clause-fault
returns-in-WhyNot-clause-fault g c = fault_named _ (WhyNot c.in-WhyNot.trace.now c.in-WhyNot.statement.now) _ _ c.answer_from-in-WhyNot.result (c.answer_from-in-WhyNot.ensures.due _)

pub returns-in-Audit-clause-due : goal.returns-in-Audit-clause-due
returns-in-Audit-clause-due g c = λ words keys asked.
    command_due c.words_ask_one_command.ensures words _ keys (Audit c.in-Audit.trace.now) _ _ c.answer_from-in-Audit.result (rw (c.in-Some.is, c.in-Audit.is) at asked) (λ n e. cc) (c.answer_from-in-Audit.ensures.due _)

pub returns-in-Audit-clause-fault : goal.returns-in-Audit-clause-fault
returns-in-Audit-clause-fault g c = fault_named _ (Audit c.in-Audit.trace.now) _ _ c.answer_from-in-Audit.result (c.answer_from-in-Audit.ensures.due _)

pub returns-in_default-clause-carried : goal.returns-in_default-clause-carried
returns-in_default-clause-carried g c = λ words asked. no_command_carries words _ c.refused.result (rw (c.in_default.is) at asked)

pub returns-in-Run-clause-carried : goal.returns-in-Run-clause-carried
returns-in-Run-clause-carried g c = λ words asked. other_command_carries c.words_ask_one_command.ensures words _ (Run (asked_of c.in-Run.asked)) c.answer_to_run.result (rw (c.in-Some.is, c.in-Run.is) at asked) (λ trace word e. cc) (λ trace word e. cc)

pub returns-in-Record-clause-carried : goal.returns-in-Record-clause-carried
returns-in-Record-clause-carried g c = λ words asked. other_command_carries c.words_ask_one_command.ensures words _ (Record (asked_of c.in-Record.asked) c.in-Record.trace.now) c.answer_to_record.result (rw (c.in-Some.is, c.in-Record.is) at asked) (λ trace word e. cc) (λ trace word e. cc)

pub returns-in-Output-clause-carried : goal.returns-in-Output-clause-carried
returns-in-Output-clause-carried g c = λ words asked. other_command_carries c.words_ask_one_command.ensures words _ (Output c.in-Output.trace.now) c.answer_from.result (rw (c.in-Some.is, c.in-Output.is) at asked) (λ trace word e. cc) (λ trace word e. cc)

pub returns-in-Questions-clause-carried : goal.returns-in-Questions-clause-carried
returns-in-Questions-clause-carried g c = λ words asked. other_command_carries c.words_ask_one_command.ensures words _ (Questions c.in-Questions.trace.now) c.answer_from-in-Questions.result (rw (c.in-Some.is, c.in-Questions.is) at asked) (λ trace word e. cc) (λ trace word e. cc)

pub returns-in-WhyNot-clause-carried : goal.returns-in-WhyNot-clause-carried
returns-in-WhyNot-clause-carried g c = λ words asked. other_command_carries c.words_ask_one_command.ensures words _ (WhyNot c.in-WhyNot.trace.now c.in-WhyNot.statement.now) c.answer_from-in-WhyNot.result (rw (c.in-Some.is, c.in-WhyNot.is) at asked) (λ trace word e. cc) (λ trace word e. cc)

pub returns-in-Audit-clause-carried : goal.returns-in-Audit-clause-carried
returns-in-Audit-clause-carried g c = λ words asked. other_command_carries c.words_ask_one_command.ensures words _ (Audit c.in-Audit.trace.now) c.answer_from-in-Audit.result (rw (c.in-Some.is, c.in-Audit.is) at asked) (λ trace word e. cc) (λ trace word e. cc)

pub returns-in-Why-clause-carried : goal.returns-in-Why-clause-carried
returns-in-Why-clause-carried g c = λ words asked.
    why_carries c.words_ask_one_command.ensures words _ c.in-Why.trace.now c.in-Why.question.now c.answer_from-in-Why.result (rw (c.in-Some.is, c.in-Why.is) at asked) c.answer_from-in-Why.ensures.by_run

pub returns-in-Affects-clause-carried : goal.returns-in-Affects-clause-carried
returns-in-Affects-clause-carried g c = λ words asked.
    affects_carries c.words_ask_one_command.ensures words _ c.in-Affects.trace.now c.in-Affects.question.now c.answer_from-in-Affects.result (rw (c.in-Some.is, c.in-Affects.is) at asked) c.answer_from-in-Affects.ensures.by_run

pub returns-in-Gen-clause-due : goal.returns-in-Gen-clause-due
returns-in-Gen-clause-due g c = λ words keys asked. generated_due words _ keys c.in-Gen.number _ c.run_generated.result (rw (c.in-Some.is, c.in-Gen.is) at asked) c.run_generated.ensures.due

pub returns-in-Gen-clause-fault : goal.returns-in-Gen-clause-fault
returns-in-Gen-clause-fault g c = generated_settled _ c.run_generated.result c.run_generated.ensures.settled

pub returns-in-Gen-clause-carried : goal.returns-in-Gen-clause-carried
returns-in-Gen-clause-carried g c = λ words asked. other_command_carries c.words_ask_one_command.ensures words _ (Gen c.in-Gen.number) c.run_generated.result (rw (c.in-Some.is, c.in-Gen.is) at asked) (λ trace word e. cc) (λ trace word e. cc)

pub run_generated-requires-clause-some : goal.run_generated-requires-clause-some
run_generated-requires-clause-some g c = (c.requires.methods c.in-Gen.number (rw (c.in-Some.is, c.in-Gen.is) refl)).0

pub run_generated-requires-clause-few : goal.run_generated-requires-clause-few
run_generated-requires-clause-few g c = (c.requires.methods c.in-Gen.number (rw (c.in-Some.is, c.in-Gen.is) refl)).1

pub returns-in_default-clause-cut : goal.returns-in_default-clause-cut
returns-in_default-clause-cut g c = λ words asked. no_command_cuts words _ c.refused.result (rw (c.in_default.is) at asked)

pub returns-in-Run-clause-cut : goal.returns-in-Run-clause-cut
returns-in-Run-clause-cut g c = λ words asked. other_command_cuts c.words_ask_one_command.ensures words _ (Run (asked_of c.in-Run.asked)) c.answer_to_run.result (rw (c.in-Some.is, c.in-Run.is) at asked) (λ trace word e. cc)

pub returns-in-Record-clause-cut : goal.returns-in-Record-clause-cut
returns-in-Record-clause-cut g c = λ words asked. other_command_cuts c.words_ask_one_command.ensures words _ (Record (asked_of c.in-Record.asked) c.in-Record.trace.now) c.answer_to_record.result (rw (c.in-Some.is, c.in-Record.is) at asked) (λ trace word e. cc)

pub returns-in-Output-clause-cut : goal.returns-in-Output-clause-cut
returns-in-Output-clause-cut g c = λ words asked. other_command_cuts c.words_ask_one_command.ensures words _ (Output c.in-Output.trace.now) c.answer_from.result (rw (c.in-Some.is, c.in-Output.is) at asked) (λ trace word e. cc)

pub returns-in-Questions-clause-cut : goal.returns-in-Questions-clause-cut
returns-in-Questions-clause-cut g c = λ words asked. other_command_cuts c.words_ask_one_command.ensures words _ (Questions c.in-Questions.trace.now) c.answer_from-in-Questions.result (rw (c.in-Some.is, c.in-Questions.is) at asked) (λ trace word e. cc)

pub returns-in-Why-clause-cut : goal.returns-in-Why-clause-cut
returns-in-Why-clause-cut g c = λ words asked. other_command_cuts c.words_ask_one_command.ensures words _ (Why c.in-Why.trace.now c.in-Why.question.now) c.answer_from-in-Why.result (rw (c.in-Some.is, c.in-Why.is) at asked) (λ trace word e. cc)

pub returns-in-Affects-clause-cut : goal.returns-in-Affects-clause-cut
returns-in-Affects-clause-cut g c = λ words asked. other_command_cuts c.words_ask_one_command.ensures words _ (Affects c.in-Affects.trace.now c.in-Affects.question.now) c.answer_from-in-Affects.result (rw (c.in-Some.is, c.in-Affects.is) at asked) (λ trace word e. cc)

pub returns-in-Audit-clause-cut : goal.returns-in-Audit-clause-cut
returns-in-Audit-clause-cut g c = λ words asked. other_command_cuts c.words_ask_one_command.ensures words _ (Audit c.in-Audit.trace.now) c.answer_from-in-Audit.result (rw (c.in-Some.is, c.in-Audit.is) at asked) (λ trace word e. cc)

pub returns-in-Gen-clause-cut : goal.returns-in-Gen-clause-cut
returns-in-Gen-clause-cut g c = λ words asked. other_command_cuts c.words_ask_one_command.ensures words _ (Gen c.in-Gen.number) c.run_generated.result (rw (c.in-Some.is, c.in-Gen.is) at asked) (λ trace word e. cc)

pub returns-in-WhyNot-clause-cut : goal.returns-in-WhyNot-clause-cut
returns-in-WhyNot-clause-cut g c = λ words asked.
    whynot_cuts c.words_ask_one_command.ensures words _ c.in-WhyNot.trace.now c.in-WhyNot.statement.now c.answer_from-in-WhyNot.result (rw (c.in-Some.is, c.in-WhyNot.is) at asked) c.answer_from-in-WhyNot.ensures.by_run

pub returns-in_default-clause-traces : goal.returns-in_default-clause-traces
returns-in_default-clause-traces g c = λ words asked. traces_none _ words _ _ _ c.refused.result (rw (c.in_default.is) at asked)

pub returns-in_default-clause-left : goal.returns-in_default-clause-left
returns-in_default-clause-left g c = λ words asked. leaves_none _ words _ _ _ _ (rw (c.in_default.is) at asked)

pub returns-in-Run-clause-traces : goal.returns-in-Run-clause-traces
returns-in-Run-clause-traces g c = λ words asked. traces_other c.words_ask_one_command.ensures _ words _ (Run (asked_of c.in-Run.asked)) _ _ c.answer_to_run.result (rw (c.in-Some.is, c.in-Run.is) at asked) (λ files. tt)

pub returns-in-Run-clause-left : goal.returns-in-Run-clause-left
returns-in-Run-clause-left g c = λ words asked. leaves c.words_ask_one_command.ensures _ words _ (Run (asked_of c.in-Run.asked)) _ _ _ (rw (c.in-Some.is, c.in-Run.is) at asked) (λ files told. tt)

pub returns-in-Output-clause-traces : goal.returns-in-Output-clause-traces
returns-in-Output-clause-traces g c = λ words asked. traces_other c.words_ask_one_command.ensures _ words _ (Output c.in-Output.trace.now) _ _ c.answer_from.result (rw (c.in-Some.is, c.in-Output.is) at asked) (λ files. tt)

pub returns-in-Output-clause-left : goal.returns-in-Output-clause-left
returns-in-Output-clause-left g c = λ words asked. leaves c.words_ask_one_command.ensures _ words _ (Output c.in-Output.trace.now) _ _ _ (rw (c.in-Some.is, c.in-Output.is) at asked) (λ files told. tt)

pub returns-in-Why-clause-traces : goal.returns-in-Why-clause-traces
returns-in-Why-clause-traces g c = λ words asked. traces_other c.words_ask_one_command.ensures _ words _ (Why c.in-Why.trace.now c.in-Why.question.now) _ _ c.answer_from-in-Why.result (rw (c.in-Some.is, c.in-Why.is) at asked) (λ files. tt)

pub returns-in-Affects-clause-traces : goal.returns-in-Affects-clause-traces
returns-in-Affects-clause-traces g c = λ words asked. traces_other c.words_ask_one_command.ensures _ words _ (Affects c.in-Affects.trace.now c.in-Affects.question.now) _ _ c.answer_from-in-Affects.result (rw (c.in-Some.is, c.in-Affects.is) at asked) (λ files. tt)

pub returns-in-Why-clause-left : goal.returns-in-Why-clause-left
returns-in-Why-clause-left g c = λ words asked. leaves c.words_ask_one_command.ensures _ words _ (Why c.in-Why.trace.now c.in-Why.question.now) _ _ _ (rw (c.in-Some.is, c.in-Why.is) at asked) (λ files told. tt)

pub returns-in-Affects-clause-left : goal.returns-in-Affects-clause-left
returns-in-Affects-clause-left g c = λ words asked. leaves c.words_ask_one_command.ensures _ words _ (Affects c.in-Affects.trace.now c.in-Affects.question.now) _ _ _ (rw (c.in-Some.is, c.in-Affects.is) at asked) (λ files told. tt)

pub returns-in-Questions-clause-traces : goal.returns-in-Questions-clause-traces
returns-in-Questions-clause-traces g c = λ words asked. traces_other c.words_ask_one_command.ensures _ words _ (Questions c.in-Questions.trace.now) _ _ c.answer_from-in-Questions.result (rw (c.in-Some.is, c.in-Questions.is) at asked) (λ files. tt)

pub returns-in-Questions-clause-left : goal.returns-in-Questions-clause-left
returns-in-Questions-clause-left g c = λ words asked. leaves c.words_ask_one_command.ensures _ words _ (Questions c.in-Questions.trace.now) _ _ _ (rw (c.in-Some.is, c.in-Questions.is) at asked) (λ files told. tt)

pub returns-in-WhyNot-clause-traces : goal.returns-in-WhyNot-clause-traces
returns-in-WhyNot-clause-traces g c = λ words asked. traces_other c.words_ask_one_command.ensures _ words _ (WhyNot c.in-WhyNot.trace.now c.in-WhyNot.statement.now) _ _ c.answer_from-in-WhyNot.result (rw (c.in-Some.is, c.in-WhyNot.is) at asked) (λ files. tt)

pub returns-in-WhyNot-clause-left : goal.returns-in-WhyNot-clause-left
returns-in-WhyNot-clause-left g c = λ words asked. leaves c.words_ask_one_command.ensures _ words _ (WhyNot c.in-WhyNot.trace.now c.in-WhyNot.statement.now) _ _ _ (rw (c.in-Some.is, c.in-WhyNot.is) at asked) (λ files told. tt)

pub returns-in-Audit-clause-traces : goal.returns-in-Audit-clause-traces
returns-in-Audit-clause-traces g c = λ words asked. traces_other c.words_ask_one_command.ensures _ words _ (Audit c.in-Audit.trace.now) _ _ c.answer_from-in-Audit.result (rw (c.in-Some.is, c.in-Audit.is) at asked) (λ files. tt)

pub returns-in-Audit-clause-left : goal.returns-in-Audit-clause-left
returns-in-Audit-clause-left g c = λ words asked. leaves c.words_ask_one_command.ensures _ words _ (Audit c.in-Audit.trace.now) _ _ _ (rw (c.in-Some.is, c.in-Audit.is) at asked) (λ files told. tt)

pub returns-in-Gen-clause-traces : goal.returns-in-Gen-clause-traces
returns-in-Gen-clause-traces g c = λ words asked. traces_other c.words_ask_one_command.ensures _ words _ (Gen c.in-Gen.number) _ _ c.run_generated.result (rw (c.in-Some.is, c.in-Gen.is) at asked) (λ files. tt)

pub returns-in-Gen-clause-left : goal.returns-in-Gen-clause-left
returns-in-Gen-clause-left g c = λ words asked. leaves c.words_ask_one_command.ensures _ words _ (Gen c.in-Gen.number) _ _ _ (rw (c.in-Some.is, c.in-Gen.is) at asked) (λ files told. tt)

pub returns-in-Record-clause-records_nothing : goal.returns-in-Record-clause-records_nothing
returns-in-Record-clause-records_nothing g c = λ nothing. absurd (nothing (Record (asked_of c.in-Record.asked) c.in-Record.trace.now) (rw (c.in-Some.is, c.in-Record.is) refl) tt)

pub returns-in-Record-clause-left_some : goal.returns-in-Record-clause-left_some
returns-in-Record-clause-left_some g c = λ words asked. inl c.answer_to_record.ensures.left_some

-- ---- a trace that is migrated

pub returns-in-Migrate-clause-due : goal.returns-in-Migrate-clause-due
returns-in-Migrate-clause-due g c = λ words keys asked.
    command_due c.words_ask_one_command.ensures words _ keys (Migrate c.in-Migrate.trace.now c.in-Migrate.name.now) _ _ c.answer_to_migrate.result (rw (c.in-Some.is, c.in-Migrate.is) at asked) (λ n e. cc) c.answer_to_migrate.ensures.due

pub returns-in-Migrate-clause-fault : goal.returns-in-Migrate-clause-fault
returns-in-Migrate-clause-fault g c = fault_named _ (Migrate c.in-Migrate.trace.now c.in-Migrate.name.now) _ _ c.answer_to_migrate.result c.answer_to_migrate.ensures.due

pub returns-in-Migrate-clause-carried : goal.returns-in-Migrate-clause-carried
returns-in-Migrate-clause-carried g c = λ words asked. other_command_carries c.words_ask_one_command.ensures words _ (Migrate c.in-Migrate.trace.now c.in-Migrate.name.now) c.answer_to_migrate.result (rw (c.in-Some.is, c.in-Migrate.is) at asked) (λ trace word e. cc) (λ trace word e. cc)

pub returns-in-Migrate-clause-cut : goal.returns-in-Migrate-clause-cut
returns-in-Migrate-clause-cut g c = λ words asked. other_command_cuts c.words_ask_one_command.ensures words _ (Migrate c.in-Migrate.trace.now c.in-Migrate.name.now) c.answer_to_migrate.result (rw (c.in-Some.is, c.in-Migrate.is) at asked) (λ trace word e. cc)

pub returns-in-Migrate-clause-traces : goal.returns-in-Migrate-clause-traces
returns-in-Migrate-clause-traces g c = λ words asked.
    traces_due c.words_ask_one_command.ensures _ words _ (Migrate c.in-Migrate.trace.now c.in-Migrate.name.now) _ _ c.answer_to_migrate.result (rw (c.in-Some.is, c.in-Migrate.is) at asked) c.answer_to_migrate.ensures.traced

pub returns-in-Migrate-clause-left : goal.returns-in-Migrate-clause-left
returns-in-Migrate-clause-left g c = λ words asked.
    leaves c.words_ask_one_command.ensures _ words _ (Migrate c.in-Migrate.trace.now c.in-Migrate.name.now) _ _ _ (rw (c.in-Some.is, c.in-Migrate.is) at asked) c.answer_to_migrate.ensures.left

pub returns-in-Migrate-clause-left_some : goal.returns-in-Migrate-clause-left_some
returns-in-Migrate-clause-left_some g c = λ words asked. inr ((c.in-Migrate.trace.now, c.in-Migrate.name.now, rw (c.in-Some.is, c.in-Migrate.is) at asked), c.answer_to_migrate.ensures.left_some)

pub returns-in-Migrate-clause-finishes : goal.returns-in-Migrate-clause-finishes
returns-in-Migrate-clause-finishes g c = λ words asked.
    finishes c.words_ask_one_command.ensures words _ (Migrate c.in-Migrate.trace.now c.in-Migrate.name.now) _ _ _ _ _ c.answer_to_migrate.result (rw (c.in-Some.is, c.in-Migrate.is) at asked) c.answer_to_migrate.ensures.finishes

pub returns-in-Migrate-clause-records_nothing : goal.returns-in-Migrate-clause-records_nothing
returns-in-Migrate-clause-records_nothing g c = λ nothing. absurd (nothing (Migrate c.in-Migrate.trace.now c.in-Migrate.name.now) (rw (c.in-Some.is, c.in-Migrate.is) refl) tt)

pub returns-in_default-clause-left_some : goal.returns-in_default-clause-left_some
returns-in_default-clause-left_some g c = λ words asked. any_untouched _ _ _ c.requires.ready words

pub returns-in_default-clause-unstarted : goal.returns-in_default-clause-unstarted
returns-in_default-clause-unstarted g c = unstarted_untouched _ c.refused.result

pub returns-in_default-clause-finishes : goal.returns-in_default-clause-finishes
returns-in_default-clause-finishes g c = λ words asked. finishes_none words _ _ _ _ _ _ c.refused.result (rw (c.in_default.is) at asked)

pub returns-in-Run-clause-left_some : goal.returns-in-Run-clause-left_some
returns-in-Run-clause-left_some g c = λ words asked. any_untouched _ _ _ c.requires.ready words

pub returns-in-Run-clause-unstarted : goal.returns-in-Run-clause-unstarted
returns-in-Run-clause-unstarted g c = unstarted_untouched _ c.answer_to_run.result

pub returns-in-Run-clause-finishes : goal.returns-in-Run-clause-finishes
returns-in-Run-clause-finishes g c = λ words asked. finishes_other c.words_ask_one_command.ensures words _ (Run (asked_of c.in-Run.asked)) _ _ _ _ _ c.answer_to_run.result (rw (c.in-Some.is, c.in-Run.is) at asked) tt

pub returns-in-Output-clause-left_some : goal.returns-in-Output-clause-left_some
returns-in-Output-clause-left_some g c = λ words asked. any_untouched _ _ _ c.requires.ready words

pub returns-in-Output-clause-unstarted : goal.returns-in-Output-clause-unstarted
returns-in-Output-clause-unstarted g c = unstarted_untouched _ c.answer_from.result

pub returns-in-Output-clause-finishes : goal.returns-in-Output-clause-finishes
returns-in-Output-clause-finishes g c = λ words asked. finishes_other c.words_ask_one_command.ensures words _ (Output c.in-Output.trace.now) _ _ _ _ _ c.answer_from.result (rw (c.in-Some.is, c.in-Output.is) at asked) tt

pub returns-in-Why-clause-left_some : goal.returns-in-Why-clause-left_some
returns-in-Why-clause-left_some g c = λ words asked. any_untouched _ _ _ c.requires.ready words

pub returns-in-Why-clause-unstarted : goal.returns-in-Why-clause-unstarted
returns-in-Why-clause-unstarted g c = unstarted_untouched _ c.answer_from-in-Why.result

pub returns-in-Why-clause-finishes : goal.returns-in-Why-clause-finishes
returns-in-Why-clause-finishes g c = λ words asked. finishes_other c.words_ask_one_command.ensures words _ (Why c.in-Why.trace.now c.in-Why.question.now) _ _ _ _ _ c.answer_from-in-Why.result (rw (c.in-Some.is, c.in-Why.is) at asked) tt

pub returns-in-Affects-clause-left_some : goal.returns-in-Affects-clause-left_some
returns-in-Affects-clause-left_some g c = λ words asked. any_untouched _ _ _ c.requires.ready words

pub returns-in-Affects-clause-unstarted : goal.returns-in-Affects-clause-unstarted
returns-in-Affects-clause-unstarted g c = unstarted_untouched _ c.answer_from-in-Affects.result

pub returns-in-Affects-clause-finishes : goal.returns-in-Affects-clause-finishes
returns-in-Affects-clause-finishes g c = λ words asked. finishes_other c.words_ask_one_command.ensures words _ (Affects c.in-Affects.trace.now c.in-Affects.question.now) _ _ _ _ _ c.answer_from-in-Affects.result (rw (c.in-Some.is, c.in-Affects.is) at asked) tt

pub returns-in-Questions-clause-left_some : goal.returns-in-Questions-clause-left_some
returns-in-Questions-clause-left_some g c = λ words asked. any_untouched _ _ _ c.requires.ready words

pub returns-in-Questions-clause-unstarted : goal.returns-in-Questions-clause-unstarted
returns-in-Questions-clause-unstarted g c = unstarted_untouched _ c.answer_from-in-Questions.result

pub returns-in-Questions-clause-finishes : goal.returns-in-Questions-clause-finishes
returns-in-Questions-clause-finishes g c = λ words asked. finishes_other c.words_ask_one_command.ensures words _ (Questions c.in-Questions.trace.now) _ _ _ _ _ c.answer_from-in-Questions.result (rw (c.in-Some.is, c.in-Questions.is) at asked) tt

pub returns-in-WhyNot-clause-left_some : goal.returns-in-WhyNot-clause-left_some
returns-in-WhyNot-clause-left_some g c = λ words asked. any_untouched _ _ _ c.requires.ready words

pub returns-in-WhyNot-clause-unstarted : goal.returns-in-WhyNot-clause-unstarted
returns-in-WhyNot-clause-unstarted g c = unstarted_untouched _ c.answer_from-in-WhyNot.result

pub returns-in-WhyNot-clause-finishes : goal.returns-in-WhyNot-clause-finishes
returns-in-WhyNot-clause-finishes g c = λ words asked. finishes_other c.words_ask_one_command.ensures words _ (WhyNot c.in-WhyNot.trace.now c.in-WhyNot.statement.now) _ _ _ _ _ c.answer_from-in-WhyNot.result (rw (c.in-Some.is, c.in-WhyNot.is) at asked) tt

pub returns-in-Audit-clause-left_some : goal.returns-in-Audit-clause-left_some
returns-in-Audit-clause-left_some g c = λ words asked. any_untouched _ _ _ c.requires.ready words

pub returns-in-Audit-clause-unstarted : goal.returns-in-Audit-clause-unstarted
returns-in-Audit-clause-unstarted g c = unstarted_untouched _ c.answer_from-in-Audit.result

pub returns-in-Audit-clause-finishes : goal.returns-in-Audit-clause-finishes
returns-in-Audit-clause-finishes g c = λ words asked. finishes_other c.words_ask_one_command.ensures words _ (Audit c.in-Audit.trace.now) _ _ _ _ _ c.answer_from-in-Audit.result (rw (c.in-Some.is, c.in-Audit.is) at asked) tt

pub returns-in-Gen-clause-left_some : goal.returns-in-Gen-clause-left_some
returns-in-Gen-clause-left_some g c = λ words asked. any_untouched _ _ _ c.requires.ready words

pub returns-in-Gen-clause-unstarted : goal.returns-in-Gen-clause-unstarted
returns-in-Gen-clause-unstarted g c = unstarted_untouched _ c.run_generated.result

pub returns-in-Gen-clause-finishes : goal.returns-in-Gen-clause-finishes
returns-in-Gen-clause-finishes g c = λ words asked. finishes_other c.words_ask_one_command.ensures words _ (Gen c.in-Gen.number) _ _ _ _ _ c.run_generated.result (rw (c.in-Some.is, c.in-Gen.is) at asked) tt

pub returns-in-Record-clause-finishes : goal.returns-in-Record-clause-finishes
returns-in-Record-clause-finishes g c = λ words asked.
    finishes c.words_ask_one_command.ensures words _ (Record (asked_of c.in-Record.asked) c.in-Record.trace.now) _ _ _ _ _ c.answer_to_record.result (rw (c.in-Some.is, c.in-Record.is) at asked) c.answer_to_record.ensures.finishes

pub returns-in-Certify-clause-due : goal.returns-in-Certify-clause-due
returns-in-Certify-clause-due g c = λ words keys asked.
    command_due c.words_ask_one_command.ensures words _ keys (Certify c.in-Certify.trace.now c.in-Certify.question.now) _ _ c.answer_from-in-Certify.result (rw (c.in-Some.is, c.in-Certify.is) at asked) (λ n e. cc) (c.answer_from-in-Certify.ensures.due _)

pub returns-in-Scope-clause-due : goal.returns-in-Scope-clause-due
returns-in-Scope-clause-due g c = λ words keys asked.
    command_due c.words_ask_one_command.ensures words _ keys (Scope c.in-Scope.trace.now c.in-Scope.statement.now c.in-Scope.call) _ _ c.answer_from-in-Scope.result (rw (c.in-Some.is, c.in-Scope.is) at asked) (λ n e. cc) (c.answer_from-in-Scope.ensures.due _)

pub returns-in-Check-clause-due : goal.returns-in-Check-clause-due
returns-in-Check-clause-due g c = λ words keys asked.
    command_due c.words_ask_one_command.ensures words _ keys (Check c.in-Check.trace.now c.in-Check.certificate.now) _ _ c.answer_to_check.result (rw (c.in-Some.is, c.in-Check.is) at asked) (λ n e. cc) (c.answer_to_check.ensures.due _)

pub returns-in-Certify-clause-fault : goal.returns-in-Certify-clause-fault
returns-in-Certify-clause-fault g c = fault_named _ (Certify c.in-Certify.trace.now c.in-Certify.question.now) _ _ c.answer_from-in-Certify.result (c.answer_from-in-Certify.ensures.due _)

pub returns-in-Scope-clause-fault : goal.returns-in-Scope-clause-fault
returns-in-Scope-clause-fault g c = fault_named _ (Scope c.in-Scope.trace.now c.in-Scope.statement.now c.in-Scope.call) _ _ c.answer_from-in-Scope.result (c.answer_from-in-Scope.ensures.due _)

pub returns-in-Check-clause-fault : goal.returns-in-Check-clause-fault
returns-in-Check-clause-fault g c = fault_named _ (Check c.in-Check.trace.now c.in-Check.certificate.now) _ _ c.answer_to_check.result (c.answer_to_check.ensures.due _)

pub returns-in-Certify-clause-carried : goal.returns-in-Certify-clause-carried
returns-in-Certify-clause-carried g c = λ words asked. other_command_carries c.words_ask_one_command.ensures words _ (Certify c.in-Certify.trace.now c.in-Certify.question.now) c.answer_from-in-Certify.result (rw (c.in-Some.is, c.in-Certify.is) at asked) (λ trace word e. cc) (λ trace word e. cc)

pub returns-in-Scope-clause-carried : goal.returns-in-Scope-clause-carried
returns-in-Scope-clause-carried g c = λ words asked. other_command_carries c.words_ask_one_command.ensures words _ (Scope c.in-Scope.trace.now c.in-Scope.statement.now c.in-Scope.call) c.answer_from-in-Scope.result (rw (c.in-Some.is, c.in-Scope.is) at asked) (λ trace word e. cc) (λ trace word e. cc)

pub returns-in-Check-clause-carried : goal.returns-in-Check-clause-carried
returns-in-Check-clause-carried g c = λ words asked. other_command_carries c.words_ask_one_command.ensures words _ (Check c.in-Check.trace.now c.in-Check.certificate.now) c.answer_to_check.result (rw (c.in-Some.is, c.in-Check.is) at asked) (λ trace word e. cc) (λ trace word e. cc)

pub returns-in-Certify-clause-cut : goal.returns-in-Certify-clause-cut
returns-in-Certify-clause-cut g c = λ words asked. other_command_cuts c.words_ask_one_command.ensures words _ (Certify c.in-Certify.trace.now c.in-Certify.question.now) c.answer_from-in-Certify.result (rw (c.in-Some.is, c.in-Certify.is) at asked) (λ trace word e. cc)

pub returns-in-Scope-clause-cut : goal.returns-in-Scope-clause-cut
returns-in-Scope-clause-cut g c = λ words asked. other_command_cuts c.words_ask_one_command.ensures words _ (Scope c.in-Scope.trace.now c.in-Scope.statement.now c.in-Scope.call) c.answer_from-in-Scope.result (rw (c.in-Some.is, c.in-Scope.is) at asked) (λ trace word e. cc)

pub returns-in-Check-clause-cut : goal.returns-in-Check-clause-cut
returns-in-Check-clause-cut g c = λ words asked. other_command_cuts c.words_ask_one_command.ensures words _ (Check c.in-Check.trace.now c.in-Check.certificate.now) c.answer_to_check.result (rw (c.in-Some.is, c.in-Check.is) at asked) (λ trace word e. cc)

pub returns-in-Certify-clause-traces : goal.returns-in-Certify-clause-traces
returns-in-Certify-clause-traces g c = λ words asked. traces_other c.words_ask_one_command.ensures _ words _ (Certify c.in-Certify.trace.now c.in-Certify.question.now) _ _ c.answer_from-in-Certify.result (rw (c.in-Some.is, c.in-Certify.is) at asked) (λ files. tt)

pub returns-in-Scope-clause-traces : goal.returns-in-Scope-clause-traces
returns-in-Scope-clause-traces g c = λ words asked. traces_other c.words_ask_one_command.ensures _ words _ (Scope c.in-Scope.trace.now c.in-Scope.statement.now c.in-Scope.call) _ _ c.answer_from-in-Scope.result (rw (c.in-Some.is, c.in-Scope.is) at asked) (λ files. tt)

pub returns-in-Check-clause-traces : goal.returns-in-Check-clause-traces
returns-in-Check-clause-traces g c = λ words asked. traces_other c.words_ask_one_command.ensures _ words _ (Check c.in-Check.trace.now c.in-Check.certificate.now) _ _ c.answer_to_check.result (rw (c.in-Some.is, c.in-Check.is) at asked) (λ files. tt)

pub returns-in-Certify-clause-left : goal.returns-in-Certify-clause-left
returns-in-Certify-clause-left g c = λ words asked. leaves c.words_ask_one_command.ensures _ words _ (Certify c.in-Certify.trace.now c.in-Certify.question.now) _ _ _ (rw (c.in-Some.is, c.in-Certify.is) at asked) (λ files told. tt)

pub returns-in-Scope-clause-left : goal.returns-in-Scope-clause-left
returns-in-Scope-clause-left g c = λ words asked. leaves c.words_ask_one_command.ensures _ words _ (Scope c.in-Scope.trace.now c.in-Scope.statement.now c.in-Scope.call) _ _ _ (rw (c.in-Some.is, c.in-Scope.is) at asked) (λ files told. tt)

pub returns-in-Check-clause-left : goal.returns-in-Check-clause-left
returns-in-Check-clause-left g c = λ words asked. leaves c.words_ask_one_command.ensures _ words _ (Check c.in-Check.trace.now c.in-Check.certificate.now) _ _ _ (rw (c.in-Some.is, c.in-Check.is) at asked) (λ files told. tt)

pub returns-in-Certify-clause-left_some : goal.returns-in-Certify-clause-left_some
returns-in-Certify-clause-left_some g c = λ words asked. any_untouched _ _ _ c.requires.ready words

pub returns-in-Scope-clause-left_some : goal.returns-in-Scope-clause-left_some
returns-in-Scope-clause-left_some g c = λ words asked. any_untouched _ _ _ c.requires.ready words

pub returns-in-Check-clause-left_some : goal.returns-in-Check-clause-left_some
returns-in-Check-clause-left_some g c = λ words asked. any_untouched _ _ _ c.requires.ready words

pub returns-in-Certify-clause-unstarted : goal.returns-in-Certify-clause-unstarted
returns-in-Certify-clause-unstarted g c = unstarted_untouched _ c.answer_from-in-Certify.result

pub returns-in-Scope-clause-unstarted : goal.returns-in-Scope-clause-unstarted
returns-in-Scope-clause-unstarted g c = unstarted_untouched _ c.answer_from-in-Scope.result

pub returns-in-Check-clause-unstarted : goal.returns-in-Check-clause-unstarted
returns-in-Check-clause-unstarted g c = unstarted_untouched _ c.answer_to_check.result

pub returns-in-Certify-clause-finishes : goal.returns-in-Certify-clause-finishes
returns-in-Certify-clause-finishes g c = λ words asked. finishes_other c.words_ask_one_command.ensures words _ (Certify c.in-Certify.trace.now c.in-Certify.question.now) _ _ _ _ _ c.answer_from-in-Certify.result (rw (c.in-Some.is, c.in-Certify.is) at asked) tt

pub returns-in-Scope-clause-finishes : goal.returns-in-Scope-clause-finishes
returns-in-Scope-clause-finishes g c = λ words asked. finishes_other c.words_ask_one_command.ensures words _ (Scope c.in-Scope.trace.now c.in-Scope.statement.now c.in-Scope.call) _ _ _ _ _ c.answer_from-in-Scope.result (rw (c.in-Some.is, c.in-Scope.is) at asked) tt

pub returns-in-Check-clause-finishes : goal.returns-in-Check-clause-finishes
returns-in-Check-clause-finishes g c = λ words asked. finishes_other c.words_ask_one_command.ensures words _ (Check c.in-Check.trace.now c.in-Check.certificate.now) _ _ _ _ _ c.answer_to_check.result (rw (c.in-Some.is, c.in-Check.is) at asked) tt
