-- None from a place on comes before what the posting there doesn't come before.
use Rattle.std.proofs.Common.{arith}
use Rattle.wy_index.proofs.Orders.{later_behind}
use Rattle.wy_index.proofs.posting.Postings.look.Goals as goal

pub returns-else-is_lt-clause-gap : goal.returns-else-is_lt-clause-gap
returns-else-is_lt-clause-gap g c =
    let v = c.requires.gap in
    record {
      in_order = v.in_order;
      rises = omega (arith, c.requires.from);
      within = omega (arith, v.within, c.requires.below);
      front = v.front;
      behind = λ i p le at. later_behind c.args.self.now c.args.target c.at-posting.result p c.args.place i v.in_order le c.at-posting.ensures.posting at cc;
    }
