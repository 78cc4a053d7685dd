use Rattle.std.proofs.Common.{◌∙◌, [], sym, ap, refl, subst, arith, length, length-append, ◌∷◌, Err}
use Rattle.std.proofs.lemmas.Result.{err_from_is_err_and}
use Rattle.std.specs.List.{Contains}
use Rattle.wy_session.proofs.Parts.{appended_nothing}
use Rattle.wy_session.proofs.Stopping.{limit_long, long_result, longer}
use Rattle.wy_session.proofs.Reading.{end_reads, long_stops, memory_reads, nothing_read, still_unended, whole_line}
use Rattle.wy_view.proofs.Views.{keeps_itself, keeps_on}
use Rattle.wy_session.proofs.Viewing.{counts_err, counts_since, ended_counts}
use Rattle.wy_session.proofs.line.OpenLine.take.Goals as goal

pub loop-front-init : goal.loop-front-init
loop-front-init g c = record {
  is_open = c.requires.is_open;
  ready = c.requires.ready;
  keeps = keeps_itself (g.R.Respond.tells c.args.responder.now);
  counts = refl;
  said = [];
  reads = nothing_read (g.R.Respond.stands c.args.responder.now) c.args.self.now c.args.piece.now;
  written = appended_nothing (g.O.Sink.written c.args.out.now);
  faults = refl;
}

pub returns-in_err-extend_from_slice-clause-reads : goal.returns-in_err-extend_from_slice-clause-reads
returns-in_err-extend_from_slice-clause-reads g c =
    let v = c.loop-front.invariant in
    let h = err_from_is_err_and c.from_residual.result c.from_residual.ensures.1 in
    memory_reads (g.R.Respond.stands c.args.responder.now) (g.R.Respond.stands c.loop-front.responder) _ _ c.loop-front.rest.now v.said c.loop-front.self (record { bytes = c.extend_from_slice.new.self; before = c.loop-front.self.before }) _ _ _ _ c.from_residual.result h.0 h.1 h.2 v.reads v.written v.faults

pub returns-in_err-end-clause-reads : goal.returns-in_err-end-clause-reads
returns-in_err-end-clause-reads g c =
    let v = c.loop-front.invariant in
    let h = err_from_is_err_and c.from_residual-in_err-end.result c.from_residual-in_err-end.ensures.1 in
    end_reads (g.R.Respond.stands c.args.responder.now) (g.R.Respond.stands c.loop-front.responder) (g.R.Respond.stands c.end.new.responder) _ _ c.in-Some.front.now c.in-Some.behind.now c.loop-front.rest.now v.said c.loop-front.self
    (record { bytes = c.extend_from_slice.new.self; before = c.loop-front.self.before }) c.end.new.self _ _ _ _ _ _ c.from_residual-in_err-end.result c.in_err-end.field-0.0 (h.1 ∙ ap Err h.2) c.in-Some.ensures.0
    c.in_ok-extend_from_slice.ensures.items refl v.reads v.written v.faults c.in_err-end.ensures.reads

pub loop-front-preserved : goal.loop-front-preserved
loop-front-preserved g c =
    let v = c.loop-front.invariant in
    let w = whole_line (g.R.Respond.stands c.args.responder.now) (g.R.Respond.stands c.loop-front.responder) (g.R.Respond.stands c.end.new.responder) _ _ c.in-Some.front.now c.in-Some.behind.now c.loop-front.rest.now v.said c.loop-front.self
    (record { bytes = c.extend_from_slice.new.self; before = c.loop-front.self.before }) c.end.new.self _ _ _ _ _ _ c.in-Some.ensures.0
    c.in_ok-extend_from_slice.ensures.items refl v.reads v.written v.faults c.in_ok-end.ensures.reads in
    record {
      is_open = c.in_ok-end.ensures.open;
      ready = c.end.ensures.ready;
      keeps = keeps_on (g.R.Respond.tells c.args.responder.now) (g.R.Respond.tells c.loop-front.responder) (g.R.Respond.tells c.end.new.responder) v.keeps c.end.ensures.keeps;
      counts = c.in_ok-end.ensures.counts ∙ v.counts;
      said = w.said;
      reads = w.reads;
      written = w.written;
      faults = w.faults;
    }

pub returns-in_err-extend_from_slice-2-clause-reads : goal.returns-in_err-extend_from_slice-2-clause-reads
returns-in_err-extend_from_slice-2-clause-reads g c =
    let v = c.loop-front.invariant in
    let h = err_from_is_err_and c.from_residual-in_err-extend_from_slice-2.result c.from_residual-in_err-extend_from_slice-2.ensures.1 in
    memory_reads (g.R.Respond.stands c.args.responder.now) (g.R.Respond.stands c.loop-front.responder) _ _ c.loop-front.rest.now v.said c.loop-front.self (record { bytes = c.extend_from_slice-2.new.self; before = c.loop-front.self.before }) _ _ _ _ c.from_residual-in_err-extend_from_slice-2.result h.0 h.1 h.2 v.reads v.written v.faults

pub returns-then-len-gt-MOST_IN_LINE-clause-reads : goal.returns-then-len-gt-MOST_IN_LINE-clause-reads
returns-then-len-gt-MOST_IN_LINE-clause-reads g c =
    let v = c.loop-front.invariant in
    let put = c.in_ok-extend_from_slice-2.ensures.items in
    long_stops (g.R.Respond.stands c.args.responder.now) (g.R.Respond.stands c.loop-front.responder) _ _ c.loop-front.rest.now v.said c.loop-front.self (record { bytes = c.extend_from_slice-2.new.self; before = c.loop-front.self.before }) _ _ _ _ _ _ c.end_with.result v.reads put
    (subst (λ z. ¬ Contains z 10) (sym put) (still_unended _ c.loop-front.rest.now v.is_open.unended c.in_default.ensures)) (omega (arith, c.if-len-gt-MOST_IN_LINE.true, c.len.ensures)) v.written v.faults c.end_with.ensures

pub returns-in_err-extend_from_slice-clause-long : goal.returns-in_err-extend_from_slice-clause-long
returns-in_err-extend_from_slice-clause-long g c =
    let h = err_from_is_err_and c.from_residual.result c.from_residual.ensures.1 in
    long_result c.from_residual.result _ _ (h.1 ∙ ap Err h.2) tt

pub returns-in_err-extend_from_slice-2-clause-long : goal.returns-in_err-extend_from_slice-2-clause-long
returns-in_err-extend_from_slice-2-clause-long g c =
    let h = err_from_is_err_and c.from_residual-in_err-extend_from_slice-2.result c.from_residual-in_err-extend_from_slice-2.ensures.1 in
    long_result c.from_residual-in_err-extend_from_slice-2.result _ _ (h.1 ∙ ap Err h.2) tt

pub returns-in_err-end-clause-long : goal.returns-in_err-end-clause-long
returns-in_err-end-clause-long g c =
    let h = err_from_is_err_and c.from_residual-in_err-end.result c.from_residual-in_err-end.ensures.1 in
    let put = c.in_ok-extend_from_slice.ensures.items in
    let front = c.in-Some.front.now in
    let rest = c.loop-front.rest.now in
    let held = c.loop-front.self.bytes.items in
    long_result c.from_residual-in_err-end.result c.in_err-end.field-0.0 _ (h.1 ∙ ap Err h.2)
    (longer c.in_err-end.field-0.0 _ _ (omega (arith, c.loop-front.invariant.reads.counts, ap length put, ap length c.in-Some.ensures.0, length-append held front, length-append held rest, length-append front (10 ∷ c.in-Some.behind.now))) c.in_err-end.ensures.long)

pub returns-then-len-gt-MOST_IN_LINE-clause-long : goal.returns-then-len-gt-MOST_IN_LINE-clause-long
returns-then-len-gt-MOST_IN_LINE-clause-long g c =
    limit_long _ _ c.end_with.result _ _ _ _ _ (omega (arith, c.if-len-gt-MOST_IN_LINE.true, c.len.ensures, c.loop-front.invariant.reads.counts, ap length c.in_ok-extend_from_slice-2.ensures.items)) c.end_with.ensures

pub returns-in_err-extend_from_slice-clause-counts : goal.returns-in_err-extend_from_slice-clause-counts
returns-in_err-extend_from_slice-clause-counts g c =
    let h = err_from_is_err_and c.from_residual.result c.from_residual.ensures.1 in
    counts_err c.from_residual.result _ _ _ (h.1 ∙ ap Err h.2) c.loop-front.invariant.counts

pub returns-in_err-extend_from_slice-2-clause-counts : goal.returns-in_err-extend_from_slice-2-clause-counts
returns-in_err-extend_from_slice-2-clause-counts g c =
    let h = err_from_is_err_and c.from_residual-in_err-extend_from_slice-2.result c.from_residual-in_err-extend_from_slice-2.ensures.1 in
    counts_err c.from_residual-in_err-extend_from_slice-2.result _ _ _ (h.1 ∙ ap Err h.2) c.loop-front.invariant.counts

pub returns-in_err-end-clause-counts : goal.returns-in_err-end-clause-counts
returns-in_err-end-clause-counts g c =
    let v = c.loop-front.invariant in
    let tells = g.R.Respond.tells in
    let h = err_from_is_err_and c.from_residual-in_err-end.result c.from_residual-in_err-end.ensures.1 in
    counts_err c.from_residual-in_err-end.result c.in_err-end.field-0.0 _ _ (h.1 ∙ ap Err h.2)
    (counts_since c.in_err-end.field-0.0 (tells c.args.responder.now) (tells c.loop-front.responder) (tells c.end.new.responder) v.keeps v.counts c.end.ensures.keeps c.in_err-end.ensures.counts)

pub returns-in_err-end-clause-keeps : goal.returns-in_err-end-clause-keeps
returns-in_err-end-clause-keeps g c =
    let tells = g.R.Respond.tells in
    keeps_on (tells c.args.responder.now) (tells c.loop-front.responder) (tells c.end.new.responder) c.loop-front.invariant.keeps c.end.ensures.keeps

pub returns-then-len-gt-MOST_IN_LINE-clause-counts : goal.returns-then-len-gt-MOST_IN_LINE-clause-counts
returns-then-len-gt-MOST_IN_LINE-clause-counts g c = ended_counts _ _ _ _ _ _ c.end_with.result _ _ c.end_with.ensures c.loop-front.invariant.counts c.loop-front.invariant.counts
