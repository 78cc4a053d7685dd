use Rattle.std.proofs.Common.{◌≡◌, cond, not, Some, None, slice_get, ap, ◌∙◌, rules}
use Rattle.std.specs.HashSet.{contains}
use Rattle.wy_members.specs.contracts.broken.key.KeyPartialEq.TheImpl.{eq-value}
use Rattle.wy_members.specs.Keys.{key_of}
use Rattle.wy_members.specs.Least.{RepeatsEarlier, Here}
use Rattle.wy_members.proofs.Keyed.{none_before, one_key_more, is_again}
use Rattle.wy_members.proofs.Leasts.{none_yet, one_more, all_gone, where_it_holds, again_of_each, at_self}
use Rattle.wy_members.proofs.broken.again.least_again.Goals as goal

pub loop-item-init : goal.loop-item-init
loop-item-init g c = (none_yet _ c.args.items.now, λ k. none_before g.T.Repeats.shared c.args.items.now (contains eq-value.it c.new-seen.result k) (key_of k) (search rules))

pub loop-item-preserved : goal.loop-item-preserved
loop-item-preserved g c =
    let xs = c.args.items.now in
    let i = c.loop-item.item-index in
    let x = c.item-item.result in
    let same = g.T.Repeats.same in
    let place = g.T.Repeats.place in
    let shared = g.T.Repeats.shared in
    let key = c.key.result in
    let is_new = c.in_ok-is_new.is_new in
    let at : slice_get xs i ≡ Some x = at_self xs i x c.loop-item-test.true c.item-item.is in
    let token : c.token_where.result ≡ cond (not is_new) (Some (place x)) None = c.token_where.ensures ∙ ap (λ n. cond (not is_new) (Some n) None) c.token.ensures in
    let again = is_again shared xs i x key at c.key.ensures same g.met.T.Repeats.same_by_key (contains eq-value.it c.loop-item.seen key) is_new c.in_ok-is_new.ensures.added (c.loop-item.invariant.1 key) in (
      one_more (λ j item. Here (RepeatsEarlier same xs j item) (place item)) xs i x _ _ _ at c.loop-item.invariant.0
          (where_it_holds (RepeatsEarlier same xs i x) (place x) (not is_new) c.token_where.result again token) c.lesser-least.ensures,
      λ q. one_key_more shared xs i x key at c.key.ensures q (contains eq-value.it c.loop-item.seen q) (contains eq-value.it c.insert.new.self q) (c.in_ok-is_new.ensures.updates.0 q) (c.loop-item.invariant.1 q),
    )

pub returns : goal.returns
returns g c =
    again_of_each g.T.Repeats.same g.T.Repeats.place c.args.items.now c.loop-item.least
    (all_gone (λ j item. Here (RepeatsEarlier g.T.Repeats.same c.args.items.now j item) (g.T.Repeats.place item)) c.args.items.now c.loop-item.item-index _ c.loop-item-test.false c.loop-item.invariant.0)
