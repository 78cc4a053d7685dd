use Rattle.std.proofs.Common.{◌≡◌, ◌<◌, ◌≤◌, ℕ, Bool, List, [], ◌∷◌, length, get_or, true, false, sym, subst, ◌∙◌, rules}
use Rattle.std.specs.Prelude.{map}
use Rattle.std.proofs.Math.ListN.{set, replicate}
use Rattle.std.proofs.lemmas.List.{length-map}
use Rattle.std.proofs.lemmas.Result.{IfOk-weaker}
use Rattle.wy_kernel.specs.Rows.{TakesEach}
use Rattle.wy_kernel.specs.Subtyping.{direct_supertypes}
use Rattle.wy_kernel.specs.View.{class_of}
use Rattle.wy_kernel.proofs.Closing.{begun, gone_on, found_among, left_to_do}
use Rattle.wy_table.specs.Above.{AreMarked, IsRow}
use Rattle.wy_table.proofs.Marks.{marked_first, walked}
use Rattle.wy_table.proofs.Rows.{named_at, all_among, numbered_as}
use Rattle.wy_table.proofs.above.walk.Goals as goal

pub loop-done-init : goal.loop-done-init
loop-done-init c =
    let numbers = c.args.numbers.now in
    let none : c.in_ok-marks.marks.items ≡ replicate (length c.args.classes.now) false = search rules in
    let P : List ℕ → List Bool → Type 0 = λ xs ms. AreMarked numbers xs (set ms (get_or numbers c.args.c 0) true) in
    record {
      found = begun _ _ _ c.in_ok-found.ensures.items;
      marked = subst (λ (xs : List ℕ). P xs c.in_ok-marks.marks.items) (sym c.in_ok-found.ensures.items)
          (subst (λ (ms : List Bool). P (c.args.c ∷ []) ms) (sym none) (marked_first numbers (length c.args.classes.now) c.args.c c.requires.numbered c.requires.here));
    }

pub bounds-classes-class : goal.bounds-classes-class
bounds-classes-class c =
    let less : c.loop-done.done < length c.loop-done.found.items = search rules in
    found_among class_of c.args.classes.now c.args.c c.loop-done.done _ c.loop-done.found.items c.requires.among c.requires.here c.loop-done.invariant.found less c.index-class.ensures

pub take_each-requires-clause-among : goal.take_each-requires-clause-among
take_each-requires-clause-among c =
    let less : c.loop-done.done < length c.loop-done.found.items = search rules in
    let at = found_among class_of c.args.classes.now c.args.c c.loop-done.done _ c.loop-done.found.items c.requires.among c.requires.here c.loop-done.invariant.found less c.index-class.ensures in
    all_among (map class_of c.args.classes.now) c.index-class.result.now (length c.args.numbers.now) c.as_slice.result.now c.requires.among
    (named_at class_of c.args.classes.now c.index-class.result.now _ _ at c.index-classes-class.is (c.as_slice.ensures.value ∙ c.in_ok-above.ensures))
    (length-map c.args.classes.now class_of ∙ sym c.requires.numbered.long)

pub loop-done-smaller : goal.loop-done-smaller
loop-done-smaller c =
    let less : c.loop-done.done < length c.loop-done.found.items = search rules in
    left_to_do class_of c.args.classes.now c.args.c c.loop-done.done c.loop-done.found.items c.requires.among c.requires.here c.loop-done.invariant.found less

pub loop-done-preserved : goal.loop-done-preserved
loop-done-preserved c =
    let classes = map class_of c.args.classes.now in
    let less : c.loop-done.done < length c.loop-done.found.items = search rules in
    let at = found_among class_of c.args.classes.now c.args.c c.loop-done.done _ c.loop-done.found.items c.requires.among c.requires.here c.loop-done.invariant.found less c.index-class.ensures in
    let named : c.as_slice.result.now ≡ direct_supertypes classes c.index-class.result.now =
    named_at class_of c.args.classes.now c.index-class.result.now _ _ at c.index-classes-class.is (c.as_slice.ensures.value ∙ c.in_ok-above.ensures) in
    let P : List ℕ → Type 0 = λ w. TakesEach c.loop-done.found.items w c.take_each.new.found.items in
    record {
      found = gone_on classes c.args.c c.loop-done.done _ _ _ c.loop-done.invariant.found less c.index-class.ensures (subst P named c.in_ok-take_each.ensures.takes);
      marked = c.in_ok-take_each.ensures.marked;
    }

pub returns : goal.returns
returns c =
    let classes = map class_of c.args.classes.now in
    let numbers = c.args.numbers.now in
    let all : length c.loop-done.found.items ≤ c.loop-done.done = search rules in
    let P : List Bool → Type 0 = λ ms. AreMarked numbers c.loop-done.found.items ms in
    IfOk-weaker c.marked.result _ (λ row. IsRow classes numbers c.args.c row.items)
    (λ row covers. walked classes numbers c.args.c c.loop-done.done c.loop-done.found.items c.as_slice-2.result.now row.items (numbered_as class_of c.args.classes.now numbers c.requires.numbered) c.loop-done.invariant.found all (subst P (sym c.as_slice-2.ensures.value) c.loop-done.invariant.marked) covers)
    c.marked.ensures
