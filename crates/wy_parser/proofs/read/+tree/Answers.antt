use Rattle.std.proofs.Common.{arith, sym, reverse}
use Rattle.std.proofs.lemmas.Result.{err_from_is_err_and}
use Rattle.wy_tree.specs.Ast.{view}
use Rattle.wy_parser.specs.Symbols.{symbols_seen, symbol_seen}
use Rattle.wy_parser.proofs.Loops.{passes, passes_grown, passes_looks, passes_grown_looks, way_stays, way_stays_looks, way_fails, way_fails_looks, way_grew, shortens, whole_same, whole_looked}
use Rattle.wy_parser.proofs.Looks.{sign_stops, element_stops, grow_goes, grow_looks}
use Rattle.wy_parser.proofs.Runs.{reads_end, reads_out, reads_token, reads_no_token, reads_part, reads_no_part, reads_row, looks_end, looks_out, looks_token, looks_no_token, looks_part, looks_no_part, looks_row, popped, emptied, no_less}
use Rattle.wy_parser.proofs.read.+tree.Goals as goal

pub grown-returns-in_err-tree-clause-read : goal.grown-returns-in_err-tree-clause-read
grown-returns-in_err-tree-clause-read t c =
    let p = err_from_is_err_and c.from_residual.result c.from_residual.ensures.1 in
    rw p.1 (passes_grown _ _ _ _ p.2 c.in_err-tree.ensures.grown (λ e. way_fails _ _ _ _ _ _ _ _ _ c.loop-tree.invariant.1 e))

pub grown-returns-in-Stayed-clause-read : goal.grown-returns-in-Stayed-clause-read
grown-returns-in-Stayed-clause-read t c = way_stays _ _ _ _ _ _ _ _ _ _ c.in-Stayed.tree c.loop-tree.invariant.1 c.in-Stayed.is c.in_ok-tree.ensures.grown

pub grown-loop-tree-preserved : goal.grown-loop-tree-preserved
grown-loop-tree-preserved t c = (
  shortens _ c.in-Grew.tree c.in-Grew.after _ _ c.in-Grew.is c.in_ok-tree.ensures.fewer c.loop-tree.invariant.0,
  way_grew _ _ _ _ _ _ _ _ _ _ c.in-Grew.tree c.in-Grew.after _ c.loop-tree.invariant.1 c.in-Grew.is c.in_ok-tree.ensures.grown c.in_ok-tree.ensures.deeper c.in_ok-tree.ensures.looks,
)

pub parts-returns-in_default-clause-read : goal.parts-returns-in_default-clause-read
parts-returns-in_default-clause-read t c = whole_same _ _ _ c.args.symbols.now _ (reads_end _ _ _ _ _ _ _ c.loop-left.invariant.6 c.loop-left-test.true (emptied c.loop-left.pending.items (omega (arith, c.loop-left.pending.ok, no_less _ c.in_default.ensures.variant.1))))

pub parts-returns-in_default-take-clause-read : goal.parts-returns-in_default-take-clause-read
parts-returns-in_default-take-clause-read t c =
    whole_same _ _ _ c.args.symbols.now _ (reads_no_token _ _ _ _ _ _ _ c.in-One.class (reverse c.pop.new.self.items) c.loop-left.invariant.6 c.loop-left-test.true (popped _ _ _ _ c.in-Some.ensures.items c.in-One.is) (sym c.in_default-take.ensures.value))

pub parts-returns-in_err-part-in-Part-clause-read : goal.parts-returns-in_err-part-in-Part-clause-read
parts-returns-in_err-part-in-Part-clause-read t c =
    let p = err_from_is_err_and c.from_residual-in_err-part-in-Part.result c.from_residual-in_err-part-in-Part.ensures.1 in
    rw p.1 (passes _ _ _ _ p.2 c.in_err-part-in-Part.ensures.read
    (λ e. whole_same _ _ _ c.args.symbols.now _ (reads_no_part _ _ _ _ _ _ _ c.in-Part.sort (reverse c.pop.new.self.items) c.loop-left.invariant.6 c.loop-left-test.true (popped _ _ _ _ c.in-Some.ensures.items c.in-Part.is) e)))

pub parts-loop-left-preserved-in-One : goal.parts-loop-left-preserved-in-One
parts-loop-left-preserved-in-One t c = (
  omega (arith, c.in_ok-push-in-One.ensures.depth, c.in_ok-tip-in-One.ensures.depth, c.loop-left.invariant.0),
  omega (arith, c.requires.falls),
  omega (arith, c.requires.below_bound),
  omega arith,
  omega arith,
  omega (arith, c.in-Some-take.ensures.shorter, c.loop-left.invariant.5),
  reads_token _ _ _ _ _ _ _ c.in-One.class (reverse c.pop.new.self.items) (symbol_seen c.in-Some-take.symbol.now, symbols_seen c.in-Some-take.after.now) _ _
      c.loop-left.invariant.6 c.loop-left-test.true (popped _ _ _ _ c.in-Some.ensures.items c.in-One.is) (sym c.in-Some-take.ensures.value) c.in_ok-tip-in-One.ensures.tree c.in_ok-push-in-One.ensures.items,
  looks_token _ _ _ _ _ _ _ _ _ c.in-One.class (reverse c.pop.new.self.items) (symbol_seen c.in-Some-take.symbol.now, symbols_seen c.in-Some-take.after.now) _
      c.loop-left.invariant.7 c.loop-left-test.true (popped _ _ _ _ c.in-Some.ensures.items c.in-One.is) (sym c.in-Some-take.ensures.value) c.look.ensures,
)

pub parts-loop-left-preserved-in-Part : goal.parts-loop-left-preserved-in-Part
parts-loop-left-preserved-in-Part t c = (
  omega (arith, c.in_ok-push-in-Part.ensures.depth, c.in_ok-part-in-Part.ensures.short, c.loop-left.invariant.0, c.loop-left.invariant.4),
  omega (arith, c.requires.falls),
  omega (arith, c.requires.below_bound),
  omega arith,
  omega arith,
  omega (arith, c.in_ok-part-in-Part.ensures.fewer, c.loop-left.invariant.5),
  reads_part _ _ _ _ _ _ _ c.in-Part.sort (reverse c.pop.new.self.items) (view c.in_ok-part-in-Part.part.tree) (symbols_seen c.in_ok-part-in-Part.after.now) _
      c.loop-left.invariant.6 c.loop-left-test.true (popped _ _ _ _ c.in-Some.ensures.items c.in-Part.is) c.in_ok-part-in-Part.ensures.read c.in_ok-push-in-Part.ensures.items,
  looks_part _ _ _ _ _ _ _ _ _ c.in-Part.sort (reverse c.pop.new.self.items) (view c.in_ok-part-in-Part.part.tree) (symbols_seen c.in_ok-part-in-Part.after.now) _
      c.loop-left.invariant.7 c.loop-left-test.true (popped _ _ _ _ c.in-Some.ensures.items c.in-Part.is) c.in_ok-part-in-Part.ensures.read c.in_ok-part-in-Part.ensures.looks,
)

pub parts-loop-left-preserved : goal.parts-loop-left-preserved
parts-loop-left-preserved t c = (
  c.loop-left.invariant.0,
  c.loop-left.invariant.1,
  c.loop-left.invariant.2,
  c.loop-left.invariant.3,
  c.loop-left.invariant.4,
  c.loop-left.invariant.5,
  reads_row _ _ _ _ _ _ _ c.in-Parts.row (reverse c.pop.new.self.items) _ c.loop-left.invariant.6 c.loop-left-test.true (popped _ _ _ _ c.in-Some.ensures.items c.in-Parts.is) c.in_ok-predict-in-Parts.ensures,
  looks_row _ _ _ _ _ _ _ _ _ c.in-Parts.row (reverse c.pop.new.self.items) _ _ c.loop-left.invariant.7 c.loop-left-test.true (popped _ _ _ _ c.in-Some.ensures.items c.in-Parts.is) c.in_ok-predict-in-Parts.ensures c.look_ahead.ensures,
)

pub parts-returns-clause-read : goal.parts-returns-clause-read
parts-returns-clause-read t c = whole_same _ _ _ c.args.symbols.now _ (reads_out _ _ _ _ _ _ _ c.loop-left.invariant.6 (omega (arith, c.loop-left-test.false)))

pub grown-returns-in_err-tree-clause-looks : goal.grown-returns-in_err-tree-clause-looks
grown-returns-in_err-tree-clause-looks t c =
    let p = err_from_is_err_and c.from_residual.result c.from_residual.ensures.1 in
    rw p.1 (passes_grown_looks _ _ _ _ _ _ p.2 c.in_err-tree.ensures.grown c.in_err-tree.ensures.looks (λ e. way_fails_looks _ _ _ _ _ _ _ _ _ c.loop-tree.invariant.1 e))

pub grown-returns-in-Stayed-clause-looks : goal.grown-returns-in-Stayed-clause-looks
grown-returns-in-Stayed-clause-looks t c = way_stays_looks _ _ _ _ _ _ _ _ _ _ c.in-Stayed.tree c.loop-tree.invariant.1 c.in-Stayed.is c.in_ok-tree.ensures.grown _ c.in_ok-tree.ensures.looks

pub parts-returns-in_default-clause-looks : goal.parts-returns-in_default-clause-looks
parts-returns-in_default-clause-looks t c =
    whole_looked _ _ _ _ _ c.args.symbols.now _ _ (looks_end _ _ _ _ _ _ _ _ _ c.loop-left.invariant.7 c.loop-left-test.true (emptied c.loop-left.pending.items (omega (arith, c.loop-left.pending.ok, no_less _ c.in_default.ensures.variant.1))))

pub parts-returns-in_default-take-clause-looks : goal.parts-returns-in_default-take-clause-looks
parts-returns-in_default-take-clause-looks t c =
    whole_looked _ _ _ _ _ c.args.symbols.now _ _
    (looks_no_token _ _ _ _ _ _ _ _ _ c.in-One.class (reverse c.pop.new.self.items) _ c.loop-left.invariant.7 c.loop-left-test.true (popped _ _ _ _ c.in-Some.ensures.items c.in-One.is) (sym c.in_default-take.ensures.value) c.look.ensures)

pub parts-returns-in_err-part-in-Part-clause-looks : goal.parts-returns-in_err-part-in-Part-clause-looks
parts-returns-in_err-part-in-Part-clause-looks t c =
    let p = err_from_is_err_and c.from_residual-in_err-part-in-Part.result c.from_residual-in_err-part-in-Part.ensures.1 in
    rw p.1 (passes_looks _ _ _ _ _ _ p.2 c.in_err-part-in-Part.ensures.read c.in_err-part-in-Part.ensures.looks
    (λ e. whole_looked _ _ _ _ _ c.args.symbols.now _ _
    (looks_no_part _ _ _ _ _ _ _ _ _ c.in-Part.sort (reverse c.pop.new.self.items) c.loop-left.invariant.7 c.loop-left-test.true (popped _ _ _ _ c.in-Some.ensures.items c.in-Part.is) e)))

pub parts-returns-clause-looks : goal.parts-returns-clause-looks
parts-returns-clause-looks t c = whole_looked _ _ _ _ _ c.args.symbols.now _ _ (looks_out _ _ _ _ _ _ _ _ _ c.loop-left.invariant.7 (omega (arith, c.loop-left-test.false)))

pub base-returns-then-refuses_sign-clause-read : goal.base-returns-then-refuses_sign-clause-read
base-returns-then-refuses_sign-clause-read t c = sign_stops _ _ _ _ _ _ c.first_kind.ensures c.refuses_sign.ensures c.if-refuses_sign.true

pub grow-returns-then-refuses_element-clause-grown : goal.grow-returns-then-refuses_element-clause-grown
grow-returns-then-refuses_element-clause-grown t c =
    element_stops _ _ _ _ _ _ _ c.first_kind-first.ensures c.in_ok-continue_with.ensures.told c.if-not-branch.false c.refuses_element.ensures c.if-refuses_element.true

pub grow-returns-clause-grown : goal.grow-returns-clause-grown
grow-returns-clause-grown t c =
    grow_goes c.around.result _ _ _ _ _ _ _ c.new-pending.result.items _ _ c.first_kind-first.ensures c.in_ok-continue_with.ensures.told c.if-not-branch.false c.in_ok-continue_with.ensures.put c.new-pending.ensures.items c.in_ok-found.ensures.read
    c.around.ensures.grown

pub grow-returns-clause-looks : goal.grow-returns-clause-looks
grow-returns-clause-looks t c =
    grow_looks c.around.result _ _ _ _ _ _ _ _ c.new-pending.result.items _ _ _ c.first_kind-first.ensures c.in_ok-continue_with.ensures.told c.if-not-branch.false c.in_ok-continue_with.ensures.put c.new-pending.ensures.items
    c.refuses_element.ensures c.if-refuses_element.false c.look.ensures c.in_ok-found.ensures.looks
