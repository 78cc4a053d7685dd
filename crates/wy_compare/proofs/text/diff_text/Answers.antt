use Rattle.std.proofs.Common.{◌∙◌, ap, map, subst}
use Rattle.wy_event.specs.Record.{recorded}
use Rattle.wy_kernel.specs.Parts.{program_of}
use Rattle.wy_compare.specs.Compared.{ArePartings, parted_text}
use Rattle.wy_compare.proofs.text.diff_text.Goals as goal

pub returns-in-Ok : goal.returns-in-Ok
returns-in-Ok c =
    let found = c.parted_at-found.result in
    let rs = map recorded c.args.good.now.events.items in
    let qs = map recorded c.args.bad.now.events.items in
    let are = subst (λ x. ArePartings (map recorded x) qs found) c.as_slice.ensures.value
    (subst (λ y. ArePartings (map recorded c.as_slice.result.now) (map recorded y) found) c.as_slice-2.ensures.value c.parted_at-found.ensures) in
    (found, are, c.in-Ok.ensures ∙ ap (λ x. parted_text (program_of c.args.program.now) c.args.program.now.lines.items rs qs c.args.alike x found.values found.paths) c.as_bytes.ensures.value)
