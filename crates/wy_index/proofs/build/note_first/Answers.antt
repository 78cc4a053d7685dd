-- What is kept under a number is the first that came.
use Rattle.std.proofs.Common.{inl, inr}
use Rattle.std.specs.BTreeMap.{get}
use Rattle.std.specs.Ordering.{nat_cmp}
use Rattle.wy_index.proofs.Firsts.{first_put, first_kept}
use Rattle.wy_index.proofs.build.note_first.Goals.{else-key-via-then-key+else-not-contains_key, else-key-via-else-key}
use Rattle.wy_index.proofs.build.note_first.Goals as goal

pub returns-in_ok-insert : goal.returns-in_ok-insert
returns-in_ok-insert c = λ q. first_put (get nat_cmp c.args.firsts.now) (get nat_cmp c.insert.new.self) c.args.key c.args.n q c.if-key.true (cc) (c.in_ok-insert.ensures.updates.0 q)

pub returns-else-key : goal.returns-else-key
returns-else-key c = λ q. first_kept (get nat_cmp c.args.firsts.now) c.args.key c.args.n q (elim c.else-key.branch [
  | else-key-via-then-key+else-not-contains_key w ↦ inr (w.if-key.true, cc)
  | else-key-via-else-key w ↦ inl w.if-key.false
])
