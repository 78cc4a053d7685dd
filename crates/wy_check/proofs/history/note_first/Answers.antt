-- What is kept under a class is the first that came.
use Rattle.std.proofs.Common.{inl, inr}
use Rattle.wy_index.proofs.Firsts.{first_put, first_kept}
use Rattle.wy_check.specs.Writes.{first_of}
use Rattle.wy_check.proofs.history.note_first.Goals.{else-class-via-then-class+else-not-contains_key, else-class-via-else-class}
use Rattle.wy_check.proofs.history.note_first.Goals as goal

pub returns-in_ok-insert : goal.returns-in_ok-insert
returns-in_ok-insert c = λ q. first_put (first_of c.args.firsts.now) (first_of c.insert.new.self) c.args.class c.args.n q c.if-class.true (cc) (c.in_ok-insert.ensures.updates.0 q)

pub returns-else-class : goal.returns-else-class
returns-else-class c = λ q. first_kept (first_of c.args.firsts.now) c.args.class c.args.n q (elim c.else-class.branch [
  | else-class-via-then-class+else-not-contains_key w ↦ inr (w.if-class.true, cc)
  | else-class-via-else-class w ↦ inl w.if-class.false
])
