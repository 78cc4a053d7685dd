use Rattle.wy_top.proofs.Migrated.{migration_due, migration_finishes, migration_left, migration_settled, migration_some, migration_started, migration_traced, none_anew, refused_migration}
use Rattle.wy_top.proofs.migrating.answer_to_migrate.Goals as goal

-- ---- the trace is open

pub returns-in-Open-clause-due : goal.returns-in-Open-clause-due
returns-in-Open-clause-due g c =
    let opens = rw (c.in-Open.is) at c.in_ok-trace.ensures.opens in
    migration_due _ _ _ _ c.in-Open.trace opens.2 _ _ _ _ _ _ c.answer_to_migration.result opens.1 c.answer_to_migration.ensures.migrates

pub returns-in-Open-clause-traced : goal.returns-in-Open-clause-traced
returns-in-Open-clause-traced g c =
    let opens = rw (c.in-Open.is) at c.in_ok-trace.ensures.opens in
    migration_traced _ _ _ _ c.in-Open.trace opens.2 _ _ _ _ c.answer_to_migration.result c.answer_to_migration.ensures.migrates

pub returns-in-Open-clause-left : goal.returns-in-Open-clause-left
returns-in-Open-clause-left g c =
    let opens = rw (c.in-Open.is) at c.in_ok-trace.ensures.opens in
    migration_left _ _ _ _ c.in-Open.trace opens.2 _ _ _ c.answer_to_migration.ensures.held

pub returns-in-Open-clause-left_some : goal.returns-in-Open-clause-left_some
returns-in-Open-clause-left_some g c = migration_some _ _ c.in-Open.trace _ _ _ (rw (c.in-Open.is) at c.in_ok-trace.ensures.some) c.answer_to_migration.ensures.held

pub returns-in-Open-clause-settled : goal.returns-in-Open-clause-settled
returns-in-Open-clause-settled g c = migration_settled _ c.in-Open.trace _ _ _ _ _ c.answer_to_migration.result c.answer_to_migration.ensures.migrates c.answer_to_migration.ensures.finished

pub returns-in-Open-clause-finishes : goal.returns-in-Open-clause-finishes
returns-in-Open-clause-finishes g c = migration_finishes _ _ _ c.in-Open.trace _ _ _ _ _ _ _ c.answer_to_migration.result c.answer_to_migration.ensures.migrates c.answer_to_migration.ensures.finished

pub returns-in-Open-clause-unstarted : goal.returns-in-Open-clause-unstarted
returns-in-Open-clause-unstarted g c = migration_started _ _ c.in-Open.trace _ _ _ _ c.answer_to_migration.result c.answer_to_migration.ensures.migrates

-- ---- it was refused, or memory ran out

pub returns-in_err-trace-clause-left_some : goal.returns-in_err-trace-clause-left_some
returns-in_err-trace-clause-left_some g c = none_anew _ _ _ c.requires.ready

pub returns-clause-left_some : goal.returns-clause-left_some
returns-clause-left_some g c = none_anew _ _ _ c.requires.ready

pub returns-clause-finishes : goal.returns-clause-finishes
returns-clause-finishes g c = λ shelf recorder.
    refused_migration c.sealed_traces_are_migrated.ensures _ _ _ _ _ c.in-Refused.answer (rw (c.in-Refused.is) at c.in_ok-trace.ensures.some) (rw (c.in-Refused.is) at c.in_ok-trace.ensures.opens).1 shelf
