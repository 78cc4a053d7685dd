-- The last block is marked, where it has fewer events than the others.
use Rattle.wy_page.proofs.Marked.{on_one, others_marked, whole_marked}
use Rattle.wy_page.proofs.marks.Marks.end.Goals as goal

pub returns-then-self-eq0 : goal.returns-then-self-eq0
returns-then-self-eq0 c = record { marked = on_one c.bound.result (λ starts places all here a. whole_marked c.args.self.now c.bound.new.self places all c.if-self-eq0.true a starts c.bound.ensures.digests c.bound.ensures.count) c.bound.ensures.starts }

pub returns : goal.returns
returns c = record {
  marked = on_one c.bound-2.result (λ starts places all here a.
      others_marked c.args.self.now c.close.new.self c.bound-2.new.self places all c.args.bytes.now c.if-self-eq0.false a here c.in_ok-close.ensures.starts c.in_ok-close.ensures.digests c.in_ok-close.ensures.moved c.close.ensures.count starts c.bound-2.ensures.digests c.bound-2.ensures.count) c.bound-2.ensures.starts;
}
