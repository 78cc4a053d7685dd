use Rattle.std.proofs.Common.{◌∙◌, ◌++◌, ap, map, refl}
use Rattle.wy_event.specs.Record.{recorded}
use Rattle.wy_kernel.specs.Parts.{program_of}
use Rattle.wy_compare.specs.Compared.{parted_text}
use Rattle.wy_compare.proofs.text.diff_by.Goals as goal

pub returns : goal.returns
returns g c =
    let rs = map recorded c.args.good.now.events.items in
    let qs = map recorded c.args.bad.now.events.items in
    let text = parted_text (program_of c.args.program.now) c.args.program.now.lines.items rs qs c.args.alike c.args.name.now c.args.partings.values c.args.partings.paths in
    c.in_ok-put_partings.ensures rs qs refl refl ∙ ap (λ l. l ++ text) c.new-out.ensures.items
