use Rattle.std.proofs.lemmas.Result.{err_from_is_err_and}
use Rattle.wy_payload.specs.Closing.{cover_at}
use Rattle.wy_payload.specs.Reading.{rows_from}
use Rattle.wy_payload.proofs.Rows.{goes_on, ends, is_done}
use Rattle.wy_payload.proofs.closing.covers_behind.Goals as goal

pub returns-in_err-one : goal.returns-in_err-one
returns-in_err-one c =
    let p = err_from_is_err_and c.from_residual.result c.from_residual.ensures.1 in
    rw (p.1, p.2) (ends (cover_at c.args.earlier.now) c.in_err-one.field-0.0 c.covers.covers.items c.args.count c.covers.counter c.covers.rest.now (rows_from (cover_at c.args.earlier.now) c.args.count c.args.bytes.now) c.covers-test.true c.in_err-one.ensures c.covers.invariant)

pub covers-preserved : goal.covers-preserved
covers-preserved c = rw c.in_ok-push.ensures.items (goes_on (cover_at c.args.earlier.now) c.covers.covers.items c.args.count c.covers.counter c.covers.rest.now c.in_ok-one.one c.in_ok-one.after.now (rows_from (cover_at c.args.earlier.now) c.args.count c.args.bytes.now) c.covers-test.true c.in_ok-one.ensures c.covers.invariant)

pub returns : goal.returns
returns c = is_done (cover_at c.args.earlier.now) c.covers.covers.items c.args.count c.covers.counter c.covers.rest.now (rows_from (cover_at c.args.earlier.now) c.args.count c.args.bytes.now) c.covers-test.false c.covers.invariant
