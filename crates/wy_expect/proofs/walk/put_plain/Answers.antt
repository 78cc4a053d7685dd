use Rattle.std.proofs.Common.{◌∙◌, ◌++◌, ap, map, refl}
use Rattle.wy_event.specs.Record.{recorded}
use Rattle.wy_kernel.specs.Parts.{program_of}
use Rattle.wy_telling.specs.Printed.{printed_by}
use Rattle.wy_expect.specs.Expected.{without_returns}
use Rattle.wy_expect.proofs.walk.put_plain.Goals as goal

pub returns-clause-printed : goal.returns-clause-printed
returns-clause-printed g c = λ e at ends.
    let rs = map recorded c.args.view.now.events.items in
    let own = c.in_ok-put_printed.ensures.bytes rs e refl at ends ∙ ap (λ xs. xs ++ printed_by (program_of c.args.program.now) rs e) c.new-own.ensures.items in
    c.in_ok-extend_from_slice.ensures.items
    ∙ ap (λ xs. c.args.printed.now.items ++ xs) (c.as_slice-2.ensures.value ∙ c.in_ok-plain.ensures ∙ ap without_returns (c.as_slice.ensures.value ∙ own))
