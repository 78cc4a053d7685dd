-- Each piece is the next of the file, and the last reaches to its end.
use Rattle.std.proofs.Common.{◌≡◌, ◌+◌, ◌-◌, ◌<◌, min, ℕ, List, [], ◌++◌, length, length-append, Ok, Option, refl, sym, ap, ◌∙◌, subst, arith}
use Rattle.wy_kernel.specs.Limits.{trace_limit}
use Rattle.wy_spelling.specs.Spelling.{opening}
use Rattle.wy_frames.specs.Progress.{start}
use Rattle.wy_outside.specs.Shelf.{Files, ReadsPart}
use Rattle.wy_page.specs.Reads.{AreNext, AreOthers}
use Rattle.wy_page.proofs.Shelved.{next_on, none_next, others_are, trace_refused}
use Rattle.wy_page.proofs.Numbering.{none_noted}
use Rattle.wy_page.proofs.opening.read_whole.Goals as goal

pub returns-in-Err-take-clause-refused : goal.returns-in-Err-take-clause-refused
returns-in-Err-take-clause-refused g c =
    let v = c.pieces.invariant in
    let held = g.S.Shelf.held c.args.shelf.now in
    let name = c.args.name.now in
    let head = c.args.head.now in
    let at = c.pieces.reading.at in
    let version = c.args.version in
    let from = length (opening version head) in
    let place : at ≡ from + length v.fed = v.reads.at ∙ length-append (opening version head) v.fed in
    let read = subst (λ (h : Option Files). ReadsPart h name at c.min-wanted.result (Ok c.in-Ok.piece)) v.held c.in-Ok.ensures.content in
    let next = next_on held name from at c.min-wanted.result v.fed c.in-Ok.piece v.next place read in
    trace_refused held name version c.args.program.now head (v.fed ++ c.as_slice.result.now) c.in-Err-take.error (subst (λ (l : List ℕ). AreNext held name from (v.fed ++ l)) (sym c.as_slice.ensures.value) next) (c.in-Err-take.ensures.read version c.args.program.now head v.fed v.standing v.reads v.noted)

pub returns-then-len-clause-read : goal.returns-then-len-clause-read
returns-then-len-clause-read g c =
    let v = c.pieces.invariant in
    let held = g.S.Shelf.held c.args.shelf.now in
    let name = c.args.name.now in
    let head = c.args.head.now in
    let at = c.pieces.reading.at in
    let version = c.args.version in
    let from = length (opening version head) in
    let place : at ≡ from + length v.fed = v.reads.at ∙ length-append (opening version head) v.fed in
    let read = subst (λ (h : Option Files). ReadsPart h name at c.min-wanted.result (Ok c.in-Ok.piece)) v.held c.in-Ok.ensures.content in
    let wanted : c.min-wanted.result ≡ min 1048576 (trace_limit - at) = omega (arith, c.min-wanted.ensures) in
    let less : length c.in-Ok.piece.items < 1048576 = omega (arith, c.if-len.true, c.len.ensures, c.in-Ok.piece.ok.0) in
    let others = others_are held name version head at c.min-wanted.result 1048576 v.fed c.in-Ok.piece c.requires.file v.next place v.short wanted less read in
    let on = c.in_default.ensures.read version c.args.program.now head v.fed v.standing v.reads v.noted in
    (v.fed ++ c.as_slice.result.now, on.0, on.1, on.2, subst (λ (l : List ℕ). AreOthers held name from (v.fed ++ l)) (sym c.as_slice.ensures.value) others)

pub pieces-init : goal.pieces-init
pieces-init g c =
    let head = c.args.head.now in
    let version = c.args.version in
    let begun = c.begin-reading.ensures in
    record {
      fed = [];
      standing = start version head;
      reads = begun;
      noted = none_noted c.args.found.now version head c.requires.nothing;
      next = none_next (g.S.Shelf.held c.args.shelf.now) c.args.name.now (length (opening version head));
      short = omega (arith, begun.at, length-append (opening version head) [], c.requires.short);
      held = refl;
      faults = refl;
      misses = refl;
      fulls = refl;
    }

pub pieces-preserved : goal.pieces-preserved
pieces-preserved g c =
    let v = c.pieces.invariant in
    let held = g.S.Shelf.held c.args.shelf.now in
    let name = c.args.name.now in
    let head = c.args.head.now in
    let at = c.pieces.reading.at in
    let version = c.args.version in
    let from = length (opening version head) in
    let place : at ≡ from + length v.fed = v.reads.at ∙ length-append (opening version head) v.fed in
    let read = subst (λ (h : Option Files). ReadsPart h name at c.min-wanted.result (Ok c.in-Ok.piece)) v.held c.in-Ok.ensures.content in
    let next = next_on held name from at c.min-wanted.result v.fed c.in-Ok.piece v.next place read in
    let on = c.in_default.ensures.read version c.args.program.now head v.fed v.standing v.reads v.noted in
    record {
      fed = v.fed ++ c.as_slice.result.now;
      standing = on.0;
      reads = on.1;
      noted = on.2;
      next = subst (λ (l : List ℕ). AreNext held name from (v.fed ++ l)) (sym c.as_slice.ensures.value) next;
      short = omega (arith, c.in_default.ensures.at, ap length c.as_slice.ensures.value, c.in-Ok.ensures.bound, c.in-Ok.piece.ok.0, c.min-wanted.ensures, v.short);
      held = c.read_at.ensures.files_stay ∙ v.held;
      faults = c.in-Ok.ensures.failed ∙ v.faults;
      misses = c.in-Ok.ensures.absent ∙ v.misses;
      fulls = c.read_at.ensures.full ∙ v.fulls;
    }
