-- what was read so far, and what was answered to its lines
use Rattle.std.proofs.Common.{◌≡◌, ◌≤◌, ◌+◌, ◌-◌, ℕ, List, [], ◌++◌, length, option_map}
use Rattle.wy_outside.specs.Counts.{count_after}
use Rattle.wy_outside.specs.Sink.{appended}
use Rattle.wy_view.specs.View.{Keeps}
use Rattle.wy_session.specs.Line.{IsOpen, ReadsOn}
use Rattle.wy_session.specs.Talk.{most_in_all, most_in_line}
use Rattle.wy_session.proofs.session.talk.Given as goal

abbrev pub invariant-loop-piece : goal.invariant-loop-piece
invariant-loop-piece g l = record {
  is_open : IsOpen l.line;
  ready : g.R.Respond.ready l.responder;
  keeps : Keeps (g.R.Respond.tells l.initial.responder) (g.R.Respond.tells l.responder);
  counts : (g.R.Respond.tells l.responder).faults ≡ (g.R.Respond.tells l.initial.responder).faults;
  read : List ℕ;
  said : List ℕ;
  reads : ReadsOn (g.R.Respond.stands l.initial.responder) (g.R.Respond.stands l.responder) 0 read l.line [] said;
  told : g.K.Source.left l.initial.keys ≡ option_map (λ left. read ++ left) (g.K.Source.left l.keys);
  taken : count_after (g.K.Source.taken l.initial.keys) (length read) ≤ g.K.Source.taken l.keys;
  keys_faults : g.K.Source.faults l.keys ≡ g.K.Source.faults l.initial.keys;
  written : g.O.Sink.written l.out ≡ appended (g.O.Sink.written l.initial.out) said;
  faults : g.O.Sink.faults l.out ≡ g.O.Sink.faults l.initial.out;
}

abbrev pub decreases-loop-piece : goal.decreases-loop-piece
decreases-loop-piece g l = most_in_all + most_in_line + 1 - (l.line.before + length l.line.bytes.items)
