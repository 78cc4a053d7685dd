-- What the text declares has an initializer, which has a value; or one of these is missing.
use Rattle.std.proofs.Common.{◌∙◌, ap, map, sym}
use Rattle.wy_kernel.specs.Parts.{program_of}
use Rattle.wy_syntax.specs.View.{declaration_of, expression_of}
use Rattle.wy_watch.specs.Watched.{of_class}
use Rattle.wy_watch.proofs.Watching.{has_value, no_expression, no_value_there, not_declared}
use Rattle.wy_watch.proofs.moment.watch.Goals as goal

pub returns-in_default-clause-none : goal.returns-in_default-clause-none
returns-in_default-clause-none g c = λ rs told.
    not_declared (program_of c.args.program.now) rs c.args.event c.args.text.now (rw c.in_default.is at c.in_ok-all.ensures)

pub returns-in_default-of_class-clause-none : goal.returns-in_default-of_class-clause-none
returns-in_default-of_class-clause-none g c = λ rs told.
    let found = rw c.in-Some.is at c.in_ok-all.ensures in
    let lacks = c.in_default-of_class.ensures ∙ ap (λ l. of_class (map declaration_of l)) c.deref.ensures.value in
    no_expression (program_of c.args.program.now) rs c.args.event c.args.text.now (map declaration_of c.in-Some.all.items) found.1 lacks

pub returns-in-Some-2-clause-value : goal.returns-in-Some-2-clause-value
returns-in-Some-2-clause-value g c = λ rs told.
    let found = rw c.in-Some.is at c.in_ok-all.ensures in
    let is = c.in-Some-of_class.ensures ∙ ap (λ l. of_class (map declaration_of l)) c.deref.ensures.value in
    has_value (program_of c.args.program.now) rs c.args.event c.args.text.now (map declaration_of c.in-Some.all.items) found.1 (expression_of c.in-Some-of_class.e.now) is found.0
    c.in-Some-2.value (sym c.in-Some-2.is ∙ c.in_ok-value.ensures.looks.is rs told)

pub returns-clause-none : goal.returns-clause-none
returns-clause-none g c = λ rs told.
    let found = rw c.in-Some.is at c.in_ok-all.ensures in
    let is = c.in-Some-of_class.ensures ∙ ap (λ l. of_class (map declaration_of l)) c.deref.ensures.value in
    no_value_there (program_of c.args.program.now) rs c.args.event c.args.text.now (map declaration_of c.in-Some.all.items) found.1 (expression_of c.in-Some-of_class.e.now) is
    (sym c.in-None.is ∙ c.in_ok-value.ensures.looks.is rs told)
