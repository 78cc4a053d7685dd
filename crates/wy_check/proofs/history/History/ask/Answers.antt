use Rattle.std.proofs.Common.{◌≡◌, Some, cond, subst}
use Rattle.std.specs.BTreeMap.{get}
use Rattle.std.specs.Ordering.{is_eq}
use Rattle.wy_index.specs.Order.{slot_cmp}
use Rattle.wy_check.specs.Keys.{key_cmp, key_of}
use Rattle.wy_check.proofs.Histories.{put_asked, put_empty}
use Rattle.wy_check.proofs.history.History.ask.Goals as goal

pub returns-in_ok-insert-clause-keeps : goal.returns-in_ok-insert-clause-keeps
returns-in_ok-insert-clause-keeps c = λ x asked.
    let old = c.args.self.now.writes in
    let new = c.insert.new.self in
    put_asked (is_eq (slot_cmp c.args.slot x)) c.new.result (get key_cmp old (key_of x)) (get key_cmp new (key_of x))
    (subst (λ k. get key_cmp new (key_of x) ≡ cond (is_eq (key_cmp k (key_of x))) (Some c.new.result) (get key_cmp old (key_of x))) c.key_of-key.ensures (c.in_ok-insert.ensures.updates.0 (key_of x)))
    asked

pub returns-in_ok-insert-clause-seen : goal.returns-in_ok-insert-clause-seen
returns-in_ok-insert-clause-seen c = λ seen.
    let old = c.args.self.now.writes in
    let new = c.insert.new.self in
    record {
      writes = λ x. put_empty (is_eq (slot_cmp c.args.slot x)) c.new.result (get key_cmp old (key_of x)) (get key_cmp new (key_of x))
          (subst (λ k. get key_cmp new (key_of x) ≡ cond (is_eq (key_cmp k (key_of x))) (Some c.new.result) (get key_cmp old (key_of x))) c.key_of-key.ensures (c.in_ok-insert.ensures.updates.0 (key_of x)))
          c.new.ensures.items (seen.writes x);
      made = seen.made;
      inits = seen.inits;
    }
