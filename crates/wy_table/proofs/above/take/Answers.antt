use Rattle.std.proofs.Common.{◌≡◌, ℕ, ◌<◌, Bool, false, List, length, get_or, nat_eq, refl, sym, ◌∙◌, arith}
use Rattle.std.specs.List.{list_any}
use Rattle.std.proofs.lemmas.List.{get_or_default}
use Rattle.wy_kernel.proofs.Taking.{takes_new, takes_known}
use Rattle.wy_table.specs.Above.{AreMarked}
use Rattle.wy_table.specs.Numbering.{IsNumbering}
use Rattle.wy_table.proofs.Marks.{flipped}
use Rattle.wy_table.proofs.above.take.Goals as goal

-- the mark that was read says whether the class was found
read : (numbers found : List ℕ) (marks : List Bool) (d : ℕ) (mark : Bool) → IsNumbering (length numbers) numbers → AreMarked numbers found marks → d < length numbers → mark ≡ get_or marks (get_or numbers d 0) mark → list_any (λ y. nat_eq y d) found ≡ mark
read numbers found marks d mark numbered marked lt is =
    let less : get_or numbers d 0 < length marks = (let within = numbered.within d lt in let long = marked.long in omega arith) in
    flipped d found ∙ sym (marked.each d lt) ∙ get_or_default marks (get_or numbers d 0) false mark less ∙ sym is

pub returns-in_ok-push-clause-takes : goal.returns-in_ok-push-clause-takes
returns-in_ok-push-clause-takes c =
    let found = c.args.found.now.items in
    takes_new found _ _ (read c.args.numbers.now found c.args.marks.now.items c.args.other c.index.result.now c.requires.numbered c.requires.marked c.requires.here c.index.ensures ∙ c.if-not-index.true) c.in_ok-push.ensures.items

pub returns-else-not-index-clause-takes : goal.returns-else-not-index-clause-takes
returns-else-not-index-clause-takes c =
    let found = c.args.found.now.items in
    takes_known found _ _ (read c.args.numbers.now found c.args.marks.now.items c.args.other c.index.result.now c.requires.numbered c.requires.marked c.requires.here c.index.ensures ∙ c.if-not-index.false) refl
