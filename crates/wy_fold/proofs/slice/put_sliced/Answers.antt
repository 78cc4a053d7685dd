use Rattle.std.proofs.Common.{◌∙◌, ◌++◌, [], ap, sym}
use Rattle.std.specs.Prelude.{if◌then◌else◌}
use Rattle.std.proofs.lemmas.List.{append-nil}
use Rattle.wy_fold.specs.Places.{stands_on}
use Rattle.wy_fold.specs.Rows.{numbered_text}
use Rattle.wy_fold.proofs.slice.put_sliced.Goals as goal

pub returns-then-not-stands_on : goal.returns-then-not-stands_on
returns-then-not-stands_on c = λ at a f.
    let out = c.args.out.now.items in
    sym (append-nil out) ∙ ap (λ b. out ++ (if b then numbered_text c.args.number (stands_on at c.args.number c.args.flow.now.events.now) c.args.line.now else [])) (sym c.if-not-stands_on.true ∙ c.stands_on.ensures at a)

pub returns : goal.returns
returns c = λ at a f.
    let out = c.args.out.now.items in
    c.in_ok-put_numbered.ensures ∙ ap (λ b. out ++ numbered_text c.args.number b c.args.line.now) (c.stands_on-2.ensures at f)
    ∙ ap (λ b. out ++ (if b then numbered_text c.args.number (stands_on at c.args.number c.args.flow.now.events.now) c.args.line.now else [])) (sym c.if-not-stands_on.false ∙ c.stands_on.ensures at a)
