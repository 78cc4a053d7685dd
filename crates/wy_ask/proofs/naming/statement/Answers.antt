use Rattle.std.proofs.Common.{◌∙◌, ◌-◌, sym, ap}
use Rattle.std.specs.Prelude.{slice_get}
use Rattle.wy_kernel.specs.Parts.{program_of}
use Rattle.wy_kernel.specs.Statements.{statements_of}
use Rattle.wy_ask.proofs.Named.{unread, found, none_there}
use Rattle.wy_ask.proofs.naming.statement.Goals as goal

pub returns-in_default : goal.returns-in_default
returns-in_default c = unread c.args.text.now (sym c.word.ensures ∙ c.in_default.is)

pub returns-in-Some-at_place : goal.returns-in-Some-at_place
returns-in-Some-at_place c =
    found c.args.program.now.lines.items (statements_of (program_of c.args.program.now)) c.args.text.now c.in-Some.line c.in-Some.place c.in_ok-numbers.numbers.items c.in-Some-at_place.number
    (sym c.word.ensures ∙ c.in-Some.is) c.in_ok-numbers.ensures (ap (λ l. slice_get l (c.in-Some.place - 1)) (sym c.as_slice.ensures.value) ∙ sym c.at_place.ensures ∙ c.in-Some-at_place.is)

pub returns : goal.returns
returns c =
    none_there c.args.program.now.lines.items (statements_of (program_of c.args.program.now)) c.args.text.now c.in-Some.line c.in-Some.place c.in_ok-numbers.numbers.items
    (sym c.word.ensures ∙ c.in-Some.is) c.in_ok-numbers.ensures (ap (λ l. slice_get l (c.in-Some.place - 1)) (sym c.as_slice.ensures.value) ∙ sym c.at_place.ensures ∙ c.in-None.is)
