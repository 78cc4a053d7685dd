use Rattle.std.proofs.Common.{◌≤◌, ◌+◌, length, arith, refl, sym, ◌∙◌}
use Rattle.std.proofs.lemmas.Bool.{leb-false, leb-true}
use Rattle.std.proofs.lemmas.Result.{err_from_is_err_and}
use Rattle.wy_kernel.specs.Limits.{unit_limit}
use Rattle.wy_heap.specs.Heap.{unit_count}
use Rattle.wy_heap.proofs.heap.Heap.make_text.Goals as goal

pub returns-then-not-has_room_for_units-clause-limit : goal.returns-then-not-has_room_for_units-clause-limit
returns-then-not-has_room_for_units-clause-limit c =
    (λ _. leb-false _ _ (sym c.has_room_for_units.ensures ∙ c.if-not-has_room_for_units.true), λ _. refl)

pub add_text-requires : goal.add_text-requires
add_text-requires c = leb-true _ _ (sym c.has_room_for_units.ensures ∙ c.if-not-has_room_for_units.false)

pub returns-in_err-add_text-clause-limit : goal.returns-in_err-add_text-clause-limit
returns-in_err-add_text-clause-limit c =
    let p = err_from_is_err_and c.from_residual.result c.from_residual.ensures.1 in
    let within : unit_count c.args.self.now + length c.args.units.now ≤ unit_limit = leb-true _ _ (sym c.has_room_for_units.ensures ∙ c.if-not-has_room_for_units.false) in
    rw p.1 (λ e. absurd (cc (e, p.2)), λ past. absurd (omega arith))

pub returns-clause-limit : goal.returns-clause-limit
returns-clause-limit c =
    let within : unit_count c.args.self.now + length c.args.units.now ≤ unit_limit = leb-true _ _ (sym c.has_room_for_units.ensures ∙ c.if-not-has_room_for_units.false) in
    (λ e. absurd (cc e), λ past. absurd (omega arith))
