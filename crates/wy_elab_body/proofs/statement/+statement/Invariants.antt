use Rattle.std.proofs.Common.{◌≡◌, ◌+◌, ◌*◌, drop, map}
use Rattle.wy_kernel.specs.View.{clause, statement}
use Rattle.wy_syntax.specs.View.{block_of, clause_of, clauses_of, other_body_of, statement_of, statements_of}
use Rattle.wy_elab_body.specs.Statements.{Setting as PlainSetting, clauses, statements}
use Rattle.wy_elab_body.specs.Views.{IsSetting, around_of, behind_clauses, behind_row, last_seen, making_of}
use Rattle.wy_elab_body.proofs.Sizes.{size, size_all, size_braced, size_catches, size_last, size_other}
use Rattle.wy_elab_body.proofs.statement.+statement.Given as goal

abbrev pub invariant-statements-loop-part : goal.invariant-statements-loop-part
invariant-statements-loop-part l = (w : PlainSetting) → IsSetting l.setting w →
    behind_row (map statement l.made.items) (statements w (around_of l.around) (statements_of (map statement_of (drop l.part-index l.parts))) (making_of l.making l.texts))
    ≡ statements w (around_of l.around) (statements_of (map statement_of l.parts)) (making_of l.initial.making l.initial.texts)

-- two for each statement, and one more for what takes a statement apart
abbrev pub decreases-statement : goal.decreases-statement
decreases-statement l = 2 * size (statement_of l.s.now)

abbrev pub decreases-if_statement : goal.decreases-if_statement
decreases-if_statement l = 2 * (size (statement_of l.main.now) + size_other (other_body_of l.other.now)) + 1

abbrev pub decreases-while_statement : goal.decreases-while_statement
decreases-while_statement l = 2 * size (statement_of l.body.now) + 1

abbrev pub decreases-do_statement : goal.decreases-do_statement
decreases-do_statement l = 2 * size (statement_of l.body.now) + 1

abbrev pub decreases-labelled : goal.decreases-labelled
decreases-labelled l = 2 * size (statement_of l.body.now) + 1

abbrev pub decreases-other_statement : goal.decreases-other_statement
decreases-other_statement l = 2 * size_other (other_body_of l.s.now)

abbrev pub decreases-block : goal.decreases-block
decreases-block l = 2 * size_braced (block_of l.b.now) + 1

abbrev pub decreases-several : goal.decreases-several
decreases-several l = 2 * size (statement_of l.s.now) + 1

abbrev pub decreases-statements : goal.decreases-statements
decreases-statements l = 2 * size_all (statements_of (map statement_of l.parts.now)) + 1

abbrev pub decreases-for_statement : goal.decreases-for_statement
decreases-for_statement l = 2 * size (statement_of l.body.now) + 1

abbrev pub decreases-tried : goal.decreases-tried
decreases-tried l = 2 * (size_braced (block_of l.main.now) + size_catches (clauses_of (map clause_of l.catches.now)) + size_last (last_seen l.last.now)) + 2

abbrev pub decreases-last_block : goal.decreases-last_block
decreases-last_block l = 2 * size_last (last_seen l.b.now)

abbrev pub decreases-caught : goal.decreases-caught
decreases-caught l = 2 * size_braced (block_of l.c.now.block) + 2

abbrev pub decreases-clauses : goal.decreases-clauses
decreases-clauses l = 2 * size_catches (clauses_of (map clause_of l.catches.now)) + 1

abbrev pub invariant-clauses-loop-catch : goal.invariant-clauses-loop-catch
invariant-clauses-loop-catch l = (w : PlainSetting) → IsSetting l.setting w →
    behind_clauses (map clause l.all.items) (clauses w (around_of l.around) (clauses_of (map clause_of (drop l.catch-index l.catches))) (making_of l.making l.texts))
    ≡ clauses w (around_of l.around) (clauses_of (map clause_of l.catches)) (making_of l.initial.making l.initial.texts)
