use Rattle.std.proofs.lemmas.Result.{err_from_is_err_and}
use Rattle.wy_frame_reading.specs.Fields.{use_at}
use Rattle.wy_payload.specs.Reading.{rows_from}
use Rattle.wy_payload.proofs.Rows.{goes_on, ends, is_done}
use Rattle.wy_frame_reading.proofs.event.uses_behind.Goals as goal

pub returns-in_err-used : goal.returns-in_err-used
returns-in_err-used c =
    let p = err_from_is_err_and c.from_residual.result c.from_residual.ensures.1 in
    rw (p.1, p.2) (ends (use_at c.args.n) c.in_err-used.field-0.0 c.uses.uses.items c.args.count c.uses.counter c.uses.rest.now (rows_from (use_at c.args.n) c.args.count c.args.bytes.now) c.uses-test.true c.in_err-used.ensures c.uses.invariant)

pub uses-preserved : goal.uses-preserved
uses-preserved c = rw c.in_ok-push.ensures.items (goes_on (use_at c.args.n) c.uses.uses.items c.args.count c.uses.counter c.uses.rest.now c.in_ok-used.used c.in_ok-used.after.now (rows_from (use_at c.args.n) c.args.count c.args.bytes.now) c.uses-test.true c.in_ok-used.ensures c.uses.invariant)

pub returns : goal.returns
returns c = is_done (use_at c.args.n) c.uses.uses.items c.args.count c.uses.counter c.uses.rest.now (rows_from (use_at c.args.n) c.args.count c.args.bytes.now) c.uses-test.false c.uses.invariant
