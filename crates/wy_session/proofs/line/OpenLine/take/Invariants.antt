-- what was read so far, with the rest of the piece still to come
use Rattle.std.proofs.Common.{◌≡◌, ℕ, List, ◌++◌, length}
use Rattle.wy_outside.specs.Sink.{appended}
use Rattle.wy_view.specs.View.{Keeps}
use Rattle.wy_session.specs.Line.{IsOpen, ReadsOn}
use Rattle.wy_session.proofs.line.OpenLine.take.Given as goal

abbrev pub invariant-loop-front : goal.invariant-loop-front
invariant-loop-front g l = record {
  is_open : IsOpen l.self;
  ready : g.R.Respond.ready l.responder;
  keeps : Keeps (g.R.Respond.tells l.initial.responder) (g.R.Respond.tells l.responder);
  counts : (g.R.Respond.tells l.responder).faults ≡ (g.R.Respond.tells l.initial.responder).faults;
  said : List ℕ;
  reads : ReadsOn (g.R.Respond.stands l.initial.responder) (g.R.Respond.stands l.responder) l.initial.self.before (l.initial.self.bytes.items ++ l.initial.rest) l.self l.rest said;
  written : g.O.Sink.written l.out ≡ appended (g.O.Sink.written l.initial.out) said;
  faults : g.O.Sink.faults l.out ≡ g.O.Sink.faults l.initial.out;
}

abbrev pub decreases-loop-front : goal.decreases-loop-front
decreases-loop-front g l = length l.rest
