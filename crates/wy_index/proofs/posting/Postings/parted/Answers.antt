-- Where nothing was found, all is left.
use Rattle.std.proofs.Common.{◌≡◌, length, subst, arith, rules}
use Rattle.std.proofs.lemmas.Option.{slice_get_within}
use Rattle.wy_index.specs.Order.{IsInOrder}
use Rattle.wy_index.proofs.posting.Postings.parted.Goals as goal

pub returns-in-None : goal.returns-in-None
returns-in-None c =
    let size : c.len.result ≡ length c.args.self.now = search rules in
    record {
      in_order = subst IsInOrder c.self.view_is c.self.invariant.1;
      rises = omega arith;
      within = omega (arith, size);
      front = λ some. absurd (omega (arith, some));
      behind = λ i p le at. absurd (omega (arith, size, slice_get_within c.args.self.now i p at));
    }
