use Rattle.std.proofs.Common.{◌≡◌, ◌∙◌, ap, eq-eqb, length, true, map, nat_eq, subst, sym}
use Rattle.std.proofs.lemmas.Bool.{false≢true}
use Rattle.wy_event.specs.Numbers.{none}
use Rattle.wy_event.specs.Record.{recorded}
use Rattle.wy_kernel.specs.Parts.{program_of}
use Rattle.wy_telling.specs.Answers.{marked_lines}
use Rattle.wy_why.specs.Answer.{Rises}
use Rattle.wy_fold.specs.Places.{line_at}
use Rattle.wy_fold.specs.Shown.{events_on, line_events_text, numbers_of}
use Rattle.wy_fold.proofs.Folding.{rises_still}
use Rattle.wy_fold.proofs.Listing.{numbers_rise}
use Rattle.wy_fold.proofs.listed.line_events_text.Goals as goal

pub lines_by-requires-clause-there : goal.lines_by-requires-clause-there
lines_by-requires-clause-there c =
    let o = c.args.opened.now in
    let events = o.view.events.items in
    let lines = o.program.now.lines.items in
    subst (Rises 0 (length events)) (sym (c.in_ok-here.ensures ∙ ap (λ es. events_on lines (map recorded es) c.args.line) c.as_slice.ensures.value))
    (rises_still (λ n. nat_eq (line_at lines (map recorded events) n) c.args.line) 0 (length events) (numbers_of (map recorded events)) (numbers_rise events))

pub returns-in-Ok : goal.returns-in-Ok
unfolding line_events_text
returns-in-Ok c =
    let o = c.args.opened.now in
    let lines = o.program.now.lines.items in
    let here = c.in_ok-here.ensures ∙ ap (λ es. events_on lines (map recorded es) c.args.line) c.as_slice.ensures.value in (
      (λ empty_line. (let empty : c.is_empty.result ≡ true = c.is_empty.ensures ∙ eq-eqb c.in_ok-here.here.len 0 (c.in_ok-here.here.ok.0 ∙ ap length (here ∙ empty_line)) in absurd (false≢true (sym c.if-is_empty.false ∙ empty)))),
      c.in-Ok.ensures.lines ∙ ap (marked_lines (program_of o.program.now) lines (map recorded o.view.events.items) none) here,
    )
