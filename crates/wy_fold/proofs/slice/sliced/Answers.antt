use Rattle.std.proofs.Common.{◌++◌, List, ℕ, [], ap, arith, map, sym}
use Rattle.std.specs.Borrow.{Bor}
use Rattle.std.proofs.lemmas.List.{get_or-map, length-map}
use Rattle.wy_fold.specs.Shown.{sliced}
use Rattle.wy_fold.proofs.Slicing.{all_lines, one_more_line}
use Rattle.wy_fold.proofs.slice.sliced.Goals as goal

pub loop-i-init : goal.loop-i-init
loop-i-init c = λ at a f. ap (λ t. t ++ sliced at c.args.all.now.events.now c.args.flow.now.events.now 1 (map (λ l. l.now) c.args.lines.now)) c.new-text.ensures.items

pub loop-i-preserved : goal.loop-i-preserved
loop-i-preserved c = λ at a f.
    let lines = c.args.lines.now in
    let texts = map {A = Bor (List ℕ)} {B = List ℕ} (λ l. l.now) lines in
    let inside = c.loop-i-test.true in
    one_more_line at c.args.all.now.events.now c.args.flow.now.events.now texts c.loop-i.i _ c.loop-i.text.items c.put_sliced.new.out.items
    (omega (arith, inside, length-map lines (λ (l : Bor (List ℕ)). l.now))) (sym (get_or-map {X = Bor (List ℕ)} {Y = List ℕ} (λ l. l.now) lines c.loop-i.i _ [] inside)) (c.in_ok-put_sliced.ensures at a f) (c.loop-i.invariant at a f)

pub returns : goal.returns
returns c = λ at a f.
    let lines = c.args.lines.now in
    all_lines at c.args.all.now.events.now c.args.flow.now.events.now (map (λ l. l.now) lines) c.loop-i.i c.loop-i.text.items
    (omega (arith, c.loop-i-test.false, length-map lines (λ (l : Bor (List ℕ)). l.now))) (c.loop-i.invariant at a f)
