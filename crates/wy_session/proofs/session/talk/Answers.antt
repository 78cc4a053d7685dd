use Rattle.std.proofs.Common.{◌∙◌, [], ◌++◌, sym, ap, refl, subst, arith, option_map, eqb-true, length, length-append}
use Rattle.std.proofs.lemmas.List.{nil_from_length}
use Rattle.std.specs.Prelude.{vec_len, ◌≤◌}
use Rattle.wy_outside.specs.Counts.{count_after, last_count}
use Rattle.wy_session.specs.Line.{ReadsOn}
use Rattle.wy_session.proofs.Parts.{appended_nothing}
use Rattle.wy_session.proofs.Reading.{appended_twice, nothing_read, read_more, reads_then}
use Rattle.wy_session.proofs.Talking.{finish_closes, finish_reads, piece_closes, piece_reads, memory_closes, fault_closes, fault_reads, taken_on, nothing_in, told_nothing, told_on}
use Rattle.wy_view.proofs.Views.{keeps_itself, keeps_on}
use Rattle.wy_session.proofs.Viewing.{counts_since, ended_counts}
use Rattle.wy_session.proofs.session.talk.Goals as goal

pub returns-in-Ok-clause-closed : goal.returns-in-Ok-clause-closed
returns-in-Ok-clause-closed g c =
    let v = c.loop-piece.invariant in
    finish_closes (g.R.Respond.stands c.args.responder.now) (g.R.Respond.stands c.loop-piece.responder) _ _ _ c.in-Ok.piece v.read v.said c.loop-piece.line _ _ _ _ _ _ _ _ _ c.finish.result v.reads v.told c.in-Ok.ensures.end
    (nil_from_length c.in-Ok.piece.items (sym c.in-Ok.piece.ok.0 ∙ eqb-true _ 0 (sym c.is_empty.ensures ∙ c.if-is_empty.true))) c.in-Ok.ensures.content (record { written = v.written; keys = v.keys_faults; out = v.faults }) c.in-Ok.ensures.failed c.finish.ensures.finishes

pub returns-in-Ok-clause-read_out : goal.returns-in-Ok-clause-read_out
returns-in-Ok-clause-read_out g c =
    let v = c.loop-piece.invariant in
    finish_reads (g.R.Respond.stands c.args.responder.now) (g.R.Respond.stands c.loop-piece.responder) _ _ _ c.in-Ok.piece v.read v.said c.loop-piece.line _ _ _ _ c.finish.result v.reads v.told c.in-Ok.ensures.end
    (nil_from_length c.in-Ok.piece.items (sym c.in-Ok.piece.ok.0 ∙ eqb-true _ 0 (sym c.is_empty.ensures ∙ c.if-is_empty.true))) c.in-Ok.ensures.content c.finish.ensures.finishes

pub returns-in-Err-clause-closed : goal.returns-in-Err-clause-closed
returns-in-Err-clause-closed g c =
    let v = c.loop-piece.invariant in
    piece_closes (g.R.Respond.stands c.args.responder.now) (g.R.Respond.stands c.loop-piece.responder) (g.R.Respond.stands c.take.new.responder) _ _ _ v.read c.as_slice.result.now v.said c.loop-piece.line c.take.new.self _ _ _ _ _ _ _ _ _ c.in-Err.ending v.reads v.told
    (c.in-Ok.ensures.content ∙ ap (λ p. option_map (λ rest. p ++ rest) (g.K.Source.left c.read.new.self)) (sym c.as_slice.ensures.value)) (record { written = v.written; keys = v.keys_faults; out = v.faults }) c.in-Ok.ensures.failed c.in-Err.ensures.reads

pub returns-in-Err-clause-read_out : goal.returns-in-Err-clause-read_out
returns-in-Err-clause-read_out g c =
    let v = c.loop-piece.invariant in
    piece_reads (g.R.Respond.stands c.args.responder.now) (g.R.Respond.stands c.loop-piece.responder) (g.R.Respond.stands c.take.new.responder) _ _ _ v.read c.as_slice.result.now v.said c.loop-piece.line c.take.new.self _ _ _ _ c.in-Err.ending v.reads v.told
    (c.in-Ok.ensures.content ∙ ap (λ p. option_map (λ rest. p ++ rest) (g.K.Source.left c.read.new.self)) (sym c.as_slice.ensures.value)) c.in-Err.ensures.reads

pub returns-in-Err-Failed-clause-read_out : goal.returns-in-Err-Failed-clause-read_out
returns-in-Err-Failed-clause-read_out g c = fault_reads _ _ _ _ _ _ _ _ c.end_with.result c.end_with.ensures

pub loop-piece-init : goal.loop-piece-init
loop-piece-init g c = record {
  is_open = record { unended = λ has. nothing_in _ c.new.ensures.items has; short = omega (arith, ap length c.new.ensures.items); within = omega arith };
  ready = c.requires;
  keeps = keeps_itself (g.R.Respond.tells c.args.responder.now);
  counts = refl;
  read = [];
  said = [];
  reads = subst (λ z. ReadsOn (g.R.Respond.stands c.args.responder.now) (g.R.Respond.stands c.args.responder.now) 0 (z ++ []) (record { bytes = c.new.result; before = 0 }) [] []) c.new.ensures.items (nothing_read (g.R.Respond.stands c.args.responder.now) (record { bytes = c.new.result; before = 0 }) []);
  told = told_nothing (g.K.Source.left c.args.keys.now);
  taken = omega arith;
  keys_faults = refl;
  written = appended_nothing (g.O.Sink.written c.args.out.now);
  faults = refl;
}

pub loop-piece-preserved : goal.loop-piece-preserved
loop-piece-preserved g c =
    let v = c.loop-piece.invariant in
    let r = c.in_default.ensures.reads in
    let piece = c.as_slice.result.now in
    let same = c.as_slice.ensures.value in
    record {
      is_open = c.in_default.ensures.open;
      ready = c.take.ensures.ready;
      keeps = keeps_on (g.R.Respond.tells c.args.responder.now) (g.R.Respond.tells c.loop-piece.responder) (g.R.Respond.tells c.take.new.responder) v.keeps c.take.ensures.keeps;
      counts = c.in_default.ensures.counts ∙ v.counts;
      read = v.read ++ piece;
      said = v.said ++ r.0;
      reads = reads_then (g.R.Respond.stands c.args.responder.now) (g.R.Respond.stands c.loop-piece.responder) (g.R.Respond.stands c.take.new.responder) 0 (v.read ++ piece) piece v.said r.0 c.loop-piece.line c.take.new.self
          (read_more (g.R.Respond.stands c.args.responder.now) (g.R.Respond.stands c.loop-piece.responder) 0 v.read piece v.said c.loop-piece.line v.reads) r.1;
      told = told_on _ v.read piece _ _ v.told (c.in-Ok.ensures.content ∙ ap (λ p. option_map (λ rest. p ++ rest) (g.K.Source.left c.read.new.self)) (sym same));
      taken = subst (λ n. count_after (g.K.Source.taken c.args.keys.now) n ≤ g.K.Source.taken c.read.new.self) (omega (arith, length-append v.read piece, ap length same, c.in-Ok.piece.ok.0)) (taken_on _ _ _ (length v.read) (vec_len c.in-Ok.piece) last_count v.taken c.in-Ok.ensures.count);
      keys_faults = c.in-Ok.ensures.failed ∙ v.keys_faults;
      written = appended_twice _ _ _ v.said r.0 v.written r.2;
      faults = r.3 ∙ v.faults;
    }

pub returns-in-Err-Failed-clause-closed : goal.returns-in-Err-Failed-clause-closed
returns-in-Err-Failed-clause-closed g c =
    let v = c.loop-piece.invariant in
    fault_closes (g.R.Respond.stands c.args.responder.now) (g.R.Respond.stands c.loop-piece.responder) _ _ v.read v.said c.loop-piece.line _ _ _ _ _ _ _ _ _ c.end_with.result v.reads v.told
    (record { written = v.written; keys = v.keys_faults; out = v.faults }) (rw (c.in-Err-Failed.is, c.in-Err-Failed.field-0-is) at c.read.ensures.failed) c.end_with.ensures

pub returns-in-Err-NoMemory-clause-closed : goal.returns-in-Err-NoMemory-clause-closed
returns-in-Err-NoMemory-clause-closed g c =
    let v = c.loop-piece.invariant in
    memory_closes (g.R.Respond.stands c.args.responder.now) (g.R.Respond.stands c.loop-piece.responder) _ _ v.read v.said c.loop-piece.line _ _ _ _ _ _ _ v.reads v.told
    (record { written = v.written; keys = v.keys_faults; out = v.faults }) (rw (c.in-Err-NoMemory.is, c.in-Err-NoMemory.field-0-is) at c.read.ensures.failed)

pub returns-in-Ok-clause-keeps : goal.returns-in-Ok-clause-keeps
returns-in-Ok-clause-keeps g c =
    let tells = g.R.Respond.tells in
    keeps_on (tells c.args.responder.now) (tells c.loop-piece.responder) (tells c.finish.new.responder) c.loop-piece.invariant.keeps c.finish.ensures.keeps

pub returns-in-Ok-clause-counts : goal.returns-in-Ok-clause-counts
returns-in-Ok-clause-counts g c =
    let tells = g.R.Respond.tells in
    let v = c.loop-piece.invariant in
    counts_since c.finish.result (tells c.args.responder.now) (tells c.loop-piece.responder) (tells c.finish.new.responder) v.keeps v.counts c.finish.ensures.keeps c.finish.ensures.counts

pub returns-in-Err-clause-keeps : goal.returns-in-Err-clause-keeps
returns-in-Err-clause-keeps g c =
    let tells = g.R.Respond.tells in
    keeps_on (tells c.args.responder.now) (tells c.loop-piece.responder) (tells c.take.new.responder) c.loop-piece.invariant.keeps c.take.ensures.keeps

pub returns-in-Err-clause-counts : goal.returns-in-Err-clause-counts
returns-in-Err-clause-counts g c =
    let tells = g.R.Respond.tells in
    let v = c.loop-piece.invariant in
    counts_since c.in-Err.ending (tells c.args.responder.now) (tells c.loop-piece.responder) (tells c.take.new.responder) v.keeps v.counts c.take.ensures.keeps c.in-Err.ensures.counts

pub returns-in-Err-Failed-clause-counts : goal.returns-in-Err-Failed-clause-counts
returns-in-Err-Failed-clause-counts g c = ended_counts _ _ _ _ _ _ c.end_with.result _ _ c.end_with.ensures c.loop-piece.invariant.counts c.loop-piece.invariant.counts
