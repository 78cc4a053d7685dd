use Rattle.std.proofs.Common.{◌∙◌, ◌++◌, List, [], ℕ, ap, arith, length, map, refl, sym}
use Rattle.std.specs.Borrow.{Bor}
use Rattle.std.proofs.lemmas.List.{append-nil}
use Rattle.wy_fold.specs.SourceLines.{lines_on, source_lines}
use Rattle.wy_fold.proofs.SourceWalk.{ends_here, goes_along, goes_on, last_line, one_more, part}
use Rattle.wy_fold.proofs.lines.source_lines.Goals as goal
use Rattle.wy_fold.proofs.lines.source_lines.Goals.{then-goes_with, else-goes_with+then-is_line_end+in_ok-push, else-goes_with+else-is_line_end}

abbrev texts : List (Bor (List ℕ)) → List (List ℕ)
texts lines = map (λ l. l.now) lines

pub loop-i-init : goal.loop-i-init
unfolding source_lines
loop-i-init c = record {
  begun = omega arith;
  lines = ap (λ ls. texts ls ++ lines_on 0 [] c.args.source.now) c.new-lines.ensures.items;
}

pub loop-i-preserved : goal.loop-i-preserved
loop-i-preserved c =
    let s = c.args.source.now in
    let start = c.loop-i.start in
    let i = c.loop-i.i in
    let so_far = c.loop-i.invariant.lines in
    elim c.if-goes_with.branch [
      | then-goes_with w ↦ record {
        begun = omega arith;
        lines = rw (w.lines-is, w.start-is, w.last-is) (ap (λ ls. texts c.loop-i.lines.items ++ ls) (sym (goes_along s start i c.loop-i.last c.loop-i-test.true (sym c.goes_with.ensures ∙ w.if-goes_with.true))) ∙ so_far);
      }
      | else-goes_with+then-is_line_end+in_ok-push w ↦ record {
        begun = omega arith;
        lines = rw (w.lines-is, w.start-is, w.last-is) (one_more c.loop-i.lines.items w.push.new.self.items _ (part s start i) _ w.in_ok-push.ensures.items refl
            ∙ ap (λ ls. texts c.loop-i.lines.items ++ ls) (sym (ends_here s start i c.loop-i.last c.loop-i-test.true (sym c.goes_with.ensures ∙ w.if-goes_with.false) (sym w.is_line_end.ensures ∙ w.if-is_line_end.true))) ∙ so_far);
      }
      | else-goes_with+else-is_line_end w ↦ record {
        begun = omega arith;
        lines = rw (w.lines-is, w.start-is, w.last-is) (ap (λ ls. texts c.loop-i.lines.items ++ ls) (sym (goes_on s start i c.loop-i.last c.loop-i.invariant.begun c.loop-i-test.true (sym c.goes_with.ensures ∙ w.if-goes_with.false) (sym w.is_line_end.ensures ∙ w.if-is_line_end.false))) ∙ so_far);
      }
    ]

pub returns : goal.returns
returns c =
    let s = c.args.source.now in
    let start = c.loop-i.start in
    let i = c.loop-i.i in
    sym (append-nil (texts c.push-2.new.self.items))
    ∙ one_more c.loop-i.lines.items c.push-2.new.self.items _ (part s start (length s)) [] c.in_ok-push-2.ensures.items refl
    ∙ ap (λ ls. texts c.loop-i.lines.items ++ ls) (sym (last_line s start i c.loop-i.last c.loop-i-test.false c.loop-i.auto.i-end)) ∙ c.loop-i.invariant.lines
