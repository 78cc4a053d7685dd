use Rattle.std.proofs.Common.{◌∙◌, List, ℕ, [], ap₂, arith, map, refl, sym}
use Rattle.std.specs.Borrow.{Bor}
use Rattle.std.proofs.lemmas.List.{get_or-map, length-map}
use Rattle.wy_report.specs.Page.{mark_of}
use Rattle.wy_report.proofs.Lines.{all_lines, one_more_line}
use Rattle.wy_report.proofs.line.put_line_rows.Goals as goal

pub loop-i-init : goal.loop-i-init
loop-i-init c = λ at a f. refl

pub loop-i-preserved : goal.loop-i-preserved
loop-i-preserved c = λ at a f.
    let lines = c.args.lines.now in
    let texts = map {A = Bor (List ℕ)} {B = List ℕ} (λ l. l.now) lines in
    let i = c.loop-i.i in
    let inside = c.loop-i-test.true in
    let mark = c.mark_of-mark.ensures ∙ ap₂ mark_of (c.stands_on.ensures at a) (c.stands_on-in-loop-i.ensures at f) in
    one_more_line at c.args.all.now.events.now c.args.flow.now.events.now texts c.args.out.now.items i c.mark_of-mark.result _ c.loop-i.out.items c.put_line_row.new.out.items
    (omega (arith, inside, length-map lines (λ (l : Bor (List ℕ)). l.now))) mark (sym (get_or-map {X = Bor (List ℕ)} {Y = List ℕ} (λ l. l.now) lines i _ [] inside))
    c.in_ok-put_line_row.ensures (c.loop-i.invariant at a f)

pub returns : goal.returns
returns c = λ at a f.
    let lines = c.args.lines.now in
    all_lines at c.args.all.now.events.now c.args.flow.now.events.now (map (λ l. l.now) lines) c.args.out.now.items c.loop-i.i c.loop-i.out.items
    (omega (arith, c.loop-i-test.false, length-map lines (λ (l : Bor (List ℕ)). l.now))) (c.loop-i.invariant at a f)
