use Rattle.std.proofs.Common.{◌∙◌, ◌++◌, ap, refl}
use Rattle.std.specs.Prelude.{map}
use Rattle.wy_kernel.specs.Parts.{program_of}
use Rattle.wy_whynot.specs.Evidence.{evidence_in}
use Rattle.wy_ask.proofs.Opening.{index_of}
use Rattle.wy_telling.specs.Items.{items_text}
use Rattle.wy_telling.proofs.whynot.whynot_lines.Goals as goal

pub returns-in_ok-put_items-in-Ok : goal.returns-in_ok-put_items-in-Ok
returns-in_ok-put_items-in-Ok g c = λ rs is.
    let o = c.args.opened.now in
    let p = program_of o.program.now in
    let lines = o.program.now.lines.items in
    let found = c.in-Ok.ensures p rs c.requires.links (index_of o.index (g.V.EventView.tells o.view) rs is c.requires.opened.index) in
    let written = c.in_ok-put_items-in-Ok.ensures
    ∙ ap (λ front. front ++ items_text p lines (map evidence_in c.deref.result.now)) c.new-text.ensures.items
    ∙ ap (λ items. items_text p lines (map evidence_in items)) c.deref.ensures.value in
    (found.0, (map evidence_in c.in-Ok.items.items, found.1, written))

pub returns-in-Err-Ran : goal.returns-in-Err-Ran
returns-in-Err-Ran g c = λ rs is.
    let o = c.args.opened.now in
    let is_index = index_of o.index (g.V.EventView.tells o.view) rs is c.requires.opened.index in
    rw (c.in-Err-Ran.field-0-is) (refl, refl, (rw (c.in-Err-Ran.field-0-is) at (c.in-Err-Ran.ensures (program_of o.program.now) rs c.requires.links is_index)))
