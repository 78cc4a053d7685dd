use Rattle.std.proofs.Common.{◌∙◌, ◌++◌, ap}
use Rattle.wy_kernel.specs.Parts.{program_of}
use Rattle.wy_kernel.specs.View.{present}
use Rattle.wy_text.specs.EventLines.{deed}
use Rattle.wy_text.specs.Places.{slot_text}
use Rattle.wy_text.specs.Values.{value_text}
use Rattle.wy_text.proofs.Leading.{whole_line}
use Rattle.wy_text.proofs.event.put_event_line.Goals as goal

pub returns-clause-line : goal.returns-clause-line
returns-clause-line g c = λ rs is.
    let p = program_of c.args.program.now in
    let lines = c.args.program.now.lines.items in
    let f = c.in_ok-facts.facts in
    let text = deed p f.kind (present f.entity) (slot_text p rs f.slot) (value_text p rs f.value) in
    whole_line lines c.args.event f.site text c.args.marked c.args.out.now.items c.put_front.new.out.items c.put_deed.new.out.items c.put_end.new.out.items
    c.in_ok-put_front.ensures (c.in_ok-put_deed.ensures.deed rs (c.facts_at.ensures.keeps.records ∙ is)) c.in_ok-put_end.ensures
    ∙ ap (λ l. c.args.out.now.items ++ l) (c.in_ok-facts.ensures.line rs is p lines c.args.marked)
