use Rattle.std.proofs.Common.{◌≤◌, ◌+◌, arith, refl, sym, ◌∙◌}
use Rattle.std.proofs.lemmas.Bool.{leb-false, leb-true}
use Rattle.std.proofs.lemmas.Result.{err_from_is_err_and}
use Rattle.wy_kernel.specs.Limits.{element_limit}
use Rattle.wy_heap.specs.Heap.{element_count}
use Rattle.wy_heap.proofs.heap.Heap.make_array.Goals as goal

pub returns-then-not-has_room_for_elements-clause-limit : goal.returns-then-not-has_room_for_elements-clause-limit
returns-then-not-has_room_for_elements-clause-limit c =
    (λ _. leb-false _ _ (sym c.has_room_for_elements.ensures ∙ c.if-not-has_room_for_elements.true), λ _. refl)

pub add_array-requires : goal.add_array-requires
add_array-requires c = leb-true _ _ (sym c.has_room_for_elements.ensures ∙ c.if-not-has_room_for_elements.false)

pub returns-in_err-add_array-clause-limit : goal.returns-in_err-add_array-clause-limit
returns-in_err-add_array-clause-limit c =
    let p = err_from_is_err_and c.from_residual.result c.from_residual.ensures.1 in
    let within : element_count c.args.self.now + c.args.length ≤ element_limit = leb-true _ _ (sym c.has_room_for_elements.ensures ∙ c.if-not-has_room_for_elements.false) in
    rw p.1 (λ e. absurd (cc (e, p.2)), λ past. absurd (omega arith))

pub returns-clause-limit : goal.returns-clause-limit
returns-clause-limit c =
    let within : element_count c.args.self.now + c.args.length ≤ element_limit = leb-true _ _ (sym c.has_room_for_elements.ensures ∙ c.if-not-has_room_for_elements.false) in
    (λ e. absurd (cc e), λ past. absurd (omega arith))
