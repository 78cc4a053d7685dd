-- One line more, and no rest behind the last.
use Rattle.std.proofs.Common.{◌≡◌, ◌+◌, ◌∷◌, ◌++◌, [], List, ℕ, length, sym, ap, ◌∙◌, subst, eqb-true, arith}
use Rattle.std.specs.List.{flat_map}
use Rattle.std.proofs.lemmas.Bool.{eqb-false}
use Rattle.std.proofs.lemmas.Result.{err_from_is_err_and}
use Rattle.wy_cert.specs.Spelling.{line_text}
use Rattle.wy_cert.proofs.Lines.{HasLines, begins_lines, ends_lines, next_line, nothing_left, one_line, only_lines}
use Rattle.wy_cert.proofs.reader.read_lines.Goals as goal

pub lines-init : goal.lines-init
lines-init c = begins_lines c.args.count c.args.bytes.now c.new-listed.result.items c.new-listed.ensures.items

pub lines-preserved : goal.lines-preserved
lines-preserved c =
    let found = c.in_ok-event.ensures.found in
    subst (λ n. HasLines (c.lines.counter + 1) c.args.count c.args.bytes.now c.in_ok-event.behind.now c.read_line.new.listed.items n) (ap (λ n. n + 1) (sym c.from-least.ensures))
    (one_line c.lines.counter c.args.count c.args.bytes.now c.lines.rest.now c.lines.listed.items c.lines.least c.lines.invariant found.0 c.in_ok-event.event c.in_ok-event.behind.now c.read_line.new.listed.items c.lines-test.true found.1 found.2
    (λ k behind adds. c.in_ok-event.ensures.only behind (c.lines.listed.items ++ k ∷ []) k adds))

pub returns-in_err-event-clause-only : goal.returns-in_err-event-clause-only
returns-in_err-event-clause-only c = λ ls are.
    let next = next_line c.lines.counter c.args.count c.args.bytes.now c.lines.rest.now c.lines.listed.items c.lines.least c.lines.invariant ls c.lines-test.true are in
    let memory = c.in_err-event.ensures.only (flat_map line_text next.later) (c.lines.listed.items ++ next.line ∷ []) next.line next.adds in
    let p = err_from_is_err_and c.from_residual.result c.from_residual.ensures.1 in
    rw (p.1, p.2) memory

pub returns-then-is_empty-clause-found : goal.returns-then-is_empty-clause-found
returns-then-is_empty-clause-found c =
    let none = nothing_left c.lines.rest.now (eqb-true (length c.lines.rest.now) 0 (sym c.is_empty.ensures ∙ c.if-is_empty.true)) in
    ends_lines c.lines.counter c.args.count c.args.bytes.now c.lines.rest.now c.lines.listed.items c.lines.least c.lines.invariant none (omega arith)

pub returns-then-is_empty-clause-only : goal.returns-then-is_empty-clause-only
returns-then-is_empty-clause-only c = λ ls are.
    sym (only_lines c.lines.counter c.args.count c.args.bytes.now c.lines.rest.now c.lines.listed.items c.lines.least c.lines.invariant ls (omega arith) are).0

pub returns-else-is_empty-clause-only : goal.returns-else-is_empty-clause-only
returns-else-is_empty-clause-only c = λ ls are.
    let none = (only_lines c.lines.counter c.args.count c.args.bytes.now c.lines.rest.now c.lines.listed.items c.lines.least c.lines.invariant ls (omega arith) are).1 in
    absurd (eqb-false (length c.lines.rest.now) 0 (sym c.is_empty.ensures ∙ c.if-is_empty.false) (ap length none))
