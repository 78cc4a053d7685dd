-- One event more is noted.
use Rattle.std.proofs.Common.{ℕ, ◌+◌, List, ◌++◌, length, take, drop, sym, subst, arith}
use Rattle.std.proofs.lemmas.List.{take_all}
use Rattle.wy_page.specs.Places.{AreMarked, RiseTo}
use Rattle.wy_page.proofs.Marked.{next_rises, one_taken}
use Rattle.wy_page.proofs.marks.Marks.note_all.Goals as goal

pub loop-end-preserved : goal.loop-end-preserved
loop-end-preserved c =
    let v = c.loop-end.invariant in
    let i = c.loop-end.end-index in
    let ends = c.args.ends.now in
    let next = next_rises (c.args.base + length c.args.bytes.now) c.loop-end.self.end ends i c.loop-end-test.true v.rise in
    record {
      from = c.note.ensures.from;
      within = omega (arith, c.note.ensures.end, next.1);
      rise = subst (λ (n : ℕ). RiseTo (c.args.base + length c.args.bytes.now) n (drop (i + 1) ends)) (sym c.note.ensures.end) next.2;
      marked = λ places all here a. subst (λ (l : List ℕ). AreMarked c.note.new.self l all) (one_taken places ends i c.loop-end-test.true) (c.in_ok-note.ensures.marked (places ++ take i ends) all here (v.marked places all here a));
    }

pub returns-clause-marked : goal.returns-clause-marked
returns-clause-marked c = λ places all here a. subst (λ (l : List ℕ). AreMarked c.loop-end.self (places ++ l) all) (take_all c.loop-end.end-index c.args.ends.now c.loop-end-test.false) (c.loop-end.invariant.marked places all here a)
