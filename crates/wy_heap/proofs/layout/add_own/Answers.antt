use Rattle.std.proofs.Common.{◌<◌, arith, length}
use Rattle.wy_heap.proofs.Owns.{adds}
use Rattle.wy_heap.proofs.layout.add_own.Goals as goal

pub returns-clause-added : goal.returns-clause-added
returns-clause-added c =
    let inside : c.args.class < length c.args.own.now.items = omega (arith, c.if-class-len.false, c.len.ensures, c.args.own.now.ok) in
    adds c.args.own.now.items c.args.class c.args.field c.index_mut.result.now c.push.new.self inside c.in_ok-push.ensures.items c.index_mut.ensures.value
