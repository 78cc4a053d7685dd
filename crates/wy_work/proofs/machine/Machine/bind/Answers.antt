use Rattle.std.proofs.Common.{ap, sym, ◌∙◌, map, reverse}
use Rattle.wy_calls.specs.Calls.{first_of}
use Rattle.wy_operands.specs.Layout.{values_of}
use Rattle.wy_operands.specs.Values.{last_many}
use Rattle.wy_operation.specs.Operands.{carried}
use Rattle.wy_work.specs.Machines.{standing}
use Rattle.wy_work.proofs.Bodies.{turned_by}
use Rattle.wy_work.proofs.Rows.{first_reversed}
use Rattle.wy_work.proofs.machine.Machine.bind.Goals as goal

pub returns-clause-goes : goal.returns-clause-goes
returns-clause-goes g c p next =
    let row = ap (λ xs. last_many c.args.count (first_of (reverse (map values_of xs)))) (sym c.deref.ensures.value) ∙ ap (last_many c.args.count) (first_reversed values_of c.deref.result.now c.in-Some.waiting.now (sym c.in-Some.ensures.value)) ∙ sym c.in_ok-values.ensures ∙ ap (map carried) (sym c.as_slice.ensures.value) in
    rw row (turned_by p (standing g.R.Register.keeps g.R.Register.kept c.args.self.now) _ _ c.bind_all.result next (c.bind_all.ensures.step p) c.bind_all.ensures.around)
