use Rattle.std.proofs.Common.{◌∙◌, ◌++◌, length, map, take, ap, subst, ◌≤◌}
use Rattle.wy_ask.proofs.Storing.{all_stored, push_below, push_stored, stored_at}
use Rattle.wy_ask.proofs.stored.Stores.put.Goals as goal

pub loop-key-preserved : goal.loop-key-preserved
loop-key-preserved c =
    let values = c.args.self.now.values in
    let keys = c.as_slice-keys.result.now in
    let v = c.loop-key.invariant in
    record {
      listed = push_stored values c.args.moment keys c.loop-key.key-index _ c.args.listed.now.items c.loop-key.listed.items c.push.new.self.items c.slot_of.result c.value.result c.loop-key-test.true c.slot_of.ensures c.value.ensures v.listed c.in_ok-push.ensures.items;
      below = λ n below all. push_below n values c.args.moment _ c.loop-key.listed.items c.push.new.self.items c.slot_of.result c.value.result below c.value.ensures (v.below n below all) c.in_ok-push.ensures.items;
    }

pub returns-clause-listed : goal.returns-clause-listed
returns-clause-listed c = λ sets stored.
    let values = c.args.self.now.values in
    let keys = c.args.self.now.keys.items in
    let all : length keys ≤ c.loop-key.key-index = subst (λ l. length l ≤ c.loop-key.key-index) c.as_slice-keys.ensures.value c.loop-key-test.false in
    c.loop-key.invariant.listed ∙ ap (λ l. c.args.listed.now.items ++ map (stored_at values c.args.moment) (take c.loop-key.key-index l)) c.as_slice-keys.ensures.value
    ∙ ap (λ l. c.args.listed.now.items ++ l) (all_stored values sets c.args.moment c.loop-key.key-index keys all stored.values stored.slots)
