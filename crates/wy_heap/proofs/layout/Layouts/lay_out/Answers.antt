use Rattle.std.proofs.Common.{sym, ◌∙◌}
use Rattle.wy_heap.proofs.Rows.{known_code}
use Rattle.wy_heap.proofs.layout.Layouts.lay_out.Goals as goal
use Rattle.wy_heap.proofs.layout.Layouts.lay_out.Goals.{then-not-is_known+in_ok-work_out, else-not-is_known}

pub returns-clause-code : goal.returns-clause-code
returns-clause-code c = elim c.if-not-is_known.branch [
  | then-not-is_known+in_ok-work_out w ↦ known_code w.work_out.new.self c.args.class w.in_ok-work_out.ensures.known
  | else-not-is_known w ↦ known_code c.args.self.now c.args.class (sym c.is_known.ensures ∙ w.if-not-is_known.false)
]
