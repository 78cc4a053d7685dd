use Rattle.std.proofs.Common.{◌≤◌, Bool, false, length, map, sym, ◌∙◌, ap, arith}
use Rattle.std.specs.Prelude.{Option, unwrap_or}
use Rattle.std.proofs.lemmas.List.{length-map}
use Rattle.std.proofs.lemmas.Option.{get_or_from_slice_get, slice_get_past, unwrap_or-slice_get}
use Rattle.wy_kernel.specs.declared.types.Class as memory
use Rattle.wy_kernel.specs.Program.{Class}
use Rattle.wy_kernel.specs.View.{class_of}
use Rattle.wy_members.proofs.Leasts.{at_place, seen_at}
use Rattle.wy_members.proofs.broken.fitting.is_interface_in.Goals as goal

pub returns-then-place-classes : goal.returns-then-place-classes
returns-then-place-classes c =
    let x = c.index-classes-place.result in
    let rows = map class_of c.args.classes.now in
    ap (λ (k : memory.Class). k.is_interface) (sym c.index-classes-place.is)
    ∙ sym (get_or_from_slice_get (map (λ (k : Class). k.is_interface) rows) c.args.c x.is_interface false
    (seen_at (λ (k : Class). k.is_interface) rows c.args.c (class_of x) (at_place class_of c.args.classes.now c.args.c x c.if-place-classes.true c.index-classes-place.is)))

pub returns-else-place-classes : goal.returns-else-place-classes
returns-else-place-classes c =
    let xs = map (λ (k : Class). k.is_interface) (map class_of c.args.classes.now) in
    let many = length-map (map class_of c.args.classes.now) (λ (k : Class). k.is_interface) in
    let more = length-map c.args.classes.now class_of in
    let past : length xs ≤ c.args.c = omega arith in
    sym (sym (unwrap_or-slice_get xs c.args.c false) ∙ ap (λ (o : Option Bool). unwrap_or o false) (slice_get_past xs c.args.c past))
