-- What was found cuts the postings in two, since they are in order.
use Rattle.std.proofs.Common.{◌≡◌, ◌+◌, ◌-◌, Some, length, sym, subst, arith, rules}
use Rattle.std.specs.Prelude.{slice_get}
use Rattle.std.proofs.lemmas.Option.{slice_get_within}
use Rattle.wy_index.specs.Order.{IsInOrder}
use Rattle.wy_index.proofs.Orders.{later_behind}
use Rattle.wy_index.proofs.posting.Postings.cut.Goals as goal

pub overflow_add-result : goal.overflow_add-result
overflow_add-result c =
    let size : c.len-high.result ≡ length c.args.self.now = search rules in
    omega (arith, size, slice_get_within c.args.self.now c.args.find.place c.args.find.posting c.requires.found)

pub returns-then-is_lt : goal.returns-then-is_lt
returns-then-is_lt c =
    let size : c.len-high.result ≡ length c.args.self.now = search rules in
    let place : (c.args.find.place + 1) - 1 ≡ c.args.find.place = omega arith in
    let there = slice_get_within c.args.self.now c.args.find.place c.args.find.posting c.requires.found in
    record {
      in_order = subst IsInOrder c.self.view_is c.self.invariant.1;
      rises = omega (arith, size, there);
      within = omega (arith, size);
      front = λ some. (subst (λ k. slice_get c.args.self.now k ≡ Some c.args.find.posting) (sym place) c.requires.found, cc);
      behind = λ i p le at. absurd (omega (arith, size, le, slice_get_within c.args.self.now i p at));
    }

pub returns-else-is_lt : goal.returns-else-is_lt
returns-else-is_lt c =
    let up = subst IsInOrder c.self.view_is c.self.invariant.1 in
    record {
      in_order = up;
      rises = omega arith;
      within = omega (arith, slice_get_within c.args.self.now c.args.find.place c.args.find.posting c.requires.found);
      front = λ some. absurd (omega (arith, some));
      behind = λ i p le at. later_behind c.args.self.now c.args.target c.args.find.posting p c.args.find.place i up le c.requires.found at cc;
    }
