use Rattle.law_own_traces.proofs.traces.own_traces_are_read.Goals as goal

pub returns-clause-read : goal.returns-clause-read
returns-clause-read c = λ p fits library text v head rs end bytes own few is.
    c.traces_within_rules_are_read.ensures v p head rs end bytes few is (c.own_traces_keep_rules.ensures p fits library text v head rs end own)

pub returns-clause-not_refused : goal.returns-clause-not_refused
returns-clause-not_refused c = λ p fits library text v head rs end bytes own few is.
    c.traces_within_rules_are_not_refused.ensures v p head rs end bytes few is (c.own_traces_keep_rules.ensures p fits library text v head rs end own)
