use Rattle.std.proofs.lemmas.Result.{err_from_is_err_and}
use Rattle.std.specs.Int.{w16}
use Rattle.wy_payload.specs.Reading.{number_at}
use Rattle.wy_payload.specs.Reading.{rows_from}
use Rattle.wy_payload.proofs.Rows.{goes_on, ends, is_done}
use Rattle.wy_payload.proofs.value.units_behind.Goals as goal

pub returns-in_err-unit : goal.returns-in_err-unit
returns-in_err-unit c =
    let p = err_from_is_err_and c.from_residual.result c.from_residual.ensures.1 in
    rw (p.1, p.2) (ends (number_at w16) c.in_err-unit.field-0.0 c.units.units.items c.args.count c.units.counter c.units.rest.now (rows_from (number_at w16) c.args.count c.args.bytes.now) c.units-test.true c.in_err-unit.ensures c.units.invariant)

pub units-preserved : goal.units-preserved
units-preserved c = rw c.in_ok-push.ensures.items (goes_on (number_at w16) c.units.units.items c.args.count c.units.counter c.units.rest.now c.in_ok-unit.unit c.in_ok-unit.after.now (rows_from (number_at w16) c.args.count c.args.bytes.now) c.units-test.true c.in_ok-unit.ensures c.units.invariant)

pub returns : goal.returns
returns c = is_done (number_at w16) c.units.units.items c.args.count c.units.counter c.units.rest.now (rows_from (number_at w16) c.args.count c.args.bytes.now) c.units-test.false c.units.invariant
