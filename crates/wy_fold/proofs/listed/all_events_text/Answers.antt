use Rattle.std.proofs.Common.{◌∙◌, ap, length, map, subst, sym}
use Rattle.wy_event.specs.Numbers.{none}
use Rattle.wy_event.specs.Record.{recorded}
use Rattle.wy_kernel.specs.Parts.{program_of}
use Rattle.wy_telling.specs.Answers.{marked_lines}
use Rattle.wy_why.specs.Answer.{Rises}
use Rattle.wy_fold.specs.Shown.{all_events_text, numbers_of}
use Rattle.wy_fold.proofs.Listing.{numbers_rise}
use Rattle.wy_fold.proofs.listed.all_events_text.Goals as goal

pub lines_by-requires-clause-there : goal.lines_by-requires-clause-there
lines_by-requires-clause-there c =
    let events = c.args.opened.now.view.events.items in
    subst (Rises 0 (length events)) (sym (c.in_ok-all.ensures ∙ ap (λ es. numbers_of (map recorded es)) c.as_slice.ensures.value)) (numbers_rise events)

pub returns-in-Ok : goal.returns-in-Ok
unfolding all_events_text
returns-in-Ok c =
    let o = c.args.opened.now in
    c.in-Ok.ensures.lines ∙ ap (marked_lines (program_of o.program.now) o.program.now.lines.items (map recorded o.view.events.items) none)
    (c.in_ok-all.ensures ∙ ap (λ es. numbers_of (map recorded es)) c.as_slice.ensures.value)
