use Rattle.std.proofs.Common.{◌≡◌, ◌<◌, ◌≤◌, ◌∙◌, ap, get_or, length, subst, sym}
use Rattle.std.specs.Prelude.{◌==◌, not}
use Rattle.std.proofs.lemmas.Bool.{ltb-false, ltb-true}
use Rattle.wy_fold.proofs.Slicing.{stands_nowhere, stands_there}
use Rattle.wy_fold.proofs.slice.stands_on.Goals as goal

pub returns-in-Some : goal.returns-in-Some
returns-in-Some c = λ at is.
    let line = c.args.line in
    let row = c.in-Some.row.now in
    let same = c.deref.ensures.value in
    ap not (c.is_empty.ensures ∙ ap (λ n. n == 0) row.ok.0)
    ∙ stands_there at c.args.table.now line row is (subst (λ xs. line < length xs) same (ltb-true _ _ (sym c.in-Some.ensures.lookup.0))) (subst (λ xs. row ≡ get_or xs line row) same c.in-Some.ensures.lookup.1)

pub returns-in-None : goal.returns-in-None
returns-in-None c = λ at is.
    stands_nowhere at c.args.table.now c.args.line is (subst (λ xs. length xs ≤ c.args.line) c.deref.ensures.value (ltb-false _ _ (sym c.in-None.ensures.lookup.0)))
