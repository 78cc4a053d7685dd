-- The targets in a `try`: those in its first block, in its clauses and in its last block.
use Rattle.std.proofs.Common.{ap, sym, ◌∙◌, ℕ, List, ◌++◌, map, if◌then◌else◌}
use Rattle.wy_kernel.specs.declared.form.Catch.{Catch}
use Rattle.wy_kernel.specs.View.{act, clause, clauses_of, other, statement}
use Rattle.wy_elab_body.specs.Jumps.{has_clause, targets, targets_within, targets_of_catches, targets_of_other}
use Rattle.wy_elab_body.proofs.PlaceArms.{on_ok}
use Rattle.wy_elab_body.proofs.TargetArms.{three_more, of_try}
use Rattle.wy_elab_body.proofs.targets.+targets.Goals as goal

pub put_within-returns-in_ok-put_catches-in-Try : goal.put_within-returns-in_ok-put_catches-in-Try
put_within-returns-in_ok-put_catches-in-Try n c =
    let old = c.args.all.now.items in
    let body = c.args.body in
    let catcher = c.args.catcher in
    let first = statement c.in-Try.first.value in
    let last = targets_of_other body catcher (other c.in-Try.last) in
    let clauses : List Catch → List ℕ = λ cs. targets_of_catches body catcher (clauses_of (map clause cs)) in
    on_ok c.put_other-in-Try.result _ _ (λ k.
    three_more old _ _ _ (targets body c.catcher_in-inner.result first) (clauses c.as_slice-in-Try-2.result.now) last (c.in_ok-put_targets-in-Try.ensures ∙ ap (λ f. old ++ targets body c.catcher_in-inner.result (statement f)) c.deref-in-Try.ensures) c.in_ok-put_catches-in-Try.ensures k
    ∙ ap (λ cs. old ++ (targets body c.catcher_in-inner.result first ++ clauses cs ++ last)) c.as_slice-in-Try-2.ensures.value
    ∙ ap (λ m. old ++ (targets body m first ++ clauses c.in-Try.catches.items ++ last)) (c.catcher_in-inner.ensures ∙ ap (λ cs. if has_clause (clauses_of (map clause cs)) then c.args.number else catcher) c.as_slice-in-Try.ensures.value)
    ∙ ap (λ z. old ++ z) (sym (of_try body catcher c.args.number c.in-Try.first c.in-Try.catches c.in-Try.last))
    ∙ ap (λ f. old ++ targets_within body catcher c.args.number (act f)) (sym c.in-Try.is)) c.put_other-in-Try.ensures
