use Rattle.std.proofs.Common.{◌≡◌, ◌<◌, ◌≤◌, length, List, ℕ, Some, sym, subst, arith, rules}
use Rattle.std.specs.Prelude.{map}
use Rattle.wy_kernel.specs.Rows.{TakesEach}
use Rattle.wy_kernel.specs.View.{class_of}
use Rattle.wy_kernel.proofs.Closing.{begun, gone_on, finished, named_by, found_among, left_to_do}
use Rattle.wy_kernel.proofs.Indexed.{mapped}
use Rattle.wy_kernel.proofs.closure.supertypes_of.Goals as goal

pub loop-done-init : goal.loop-done-init
loop-done-init c = begun _ _ _ c.in_ok-row.ensures.items

pub bounds-classes-class : goal.bounds-classes-class
bounds-classes-class c =
    let less : c.loop-done.done < length c.loop-done.row.items = search rules in
    found_among class_of c.args.classes.now c.args.c c.loop-done.done _ c.loop-done.row.items c.requires.among c.requires.here c.loop-done.invariant less c.index-class.ensures

pub loop-done-preserved : goal.loop-done-preserved
loop-done-preserved c =
    let classes = map class_of c.args.classes.now in
    let less : c.loop-done.done < length c.loop-done.row.items = search rules in
    let at = found_among class_of c.args.classes.now c.args.c c.loop-done.done _ c.loop-done.row.items c.requires.among c.requires.here c.loop-done.invariant less c.index-class.ensures in
    let P : List ℕ → Type 0 = λ w. TakesEach c.loop-done.row.items w c.take_above.new.row.items in
    gone_on classes c.args.c c.loop-done.done _ _ _ c.loop-done.invariant less c.index-class.ensures
    (subst P (sym (named_by classes _ _ (mapped class_of c.args.classes.now _ _ at c.index-classes-class.is))) c.in_ok-take_above.ensures)

pub loop-done-smaller : goal.loop-done-smaller
loop-done-smaller c =
    let less : c.loop-done.done < length c.loop-done.row.items = search rules in
    left_to_do class_of c.args.classes.now c.args.c c.loop-done.done c.loop-done.row.items c.requires.among c.requires.here c.loop-done.invariant less

pub returns : goal.returns
returns c =
    let all : length c.loop-done.row.items ≤ c.loop-done.done = search rules in
    finished _ _ _ _ c.loop-done.invariant all
