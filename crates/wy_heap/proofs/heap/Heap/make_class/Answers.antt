use Rattle.std.proofs.Common.{◌<◌, length, arith, refl}
use Rattle.wy_heap.proofs.Classes.{makes-class}
use Rattle.wy_heap.proofs.heap.Heap.make_class.Goals as goal

pub returns-clause-made : goal.returns-clause-made
returns-clause-made c =
    let inside : c.args.class < length c.args.self.now.begun.items = omega arith in
    makes-class c.args.self.now _ _ _ c.args.class inside refl
