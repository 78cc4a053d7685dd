use Rattle.std.proofs.Common.{◌+◌, ◌-◌, length, sym, arith}
use Rattle.wy_lexer.specs.Reading.{units_seen}
use Rattle.wy_lexer.proofs.Units.{text_end, text_out, text_close, text_stop, text_more}
use Rattle.wy_lexer.proofs.literal.text_literal.Goals as goal

pub returns-in_default-clause-same : goal.returns-in_default-clause-same
returns-in_default-clause-same c = text_end _ _ _ _ c.loop.invariant.same c.in_default.ensures.cases

pub returns-then-first-eq34-clause-same : goal.returns-then-first-eq34-clause-same
returns-then-first-eq34-clause-same c = text_close _ _ _ (length c.args.text.now - (c.loop.counter + 1)) _ _ _ c.loop.invariant.same (omega arith) c.in-Some.ensures.cases.0 c.if-first-eq34.true

pub returns-in_default-element-clause-same : goal.returns-in_default-element-clause-same
returns-in_default-element-clause-same c =
    text_stop _ _ _ (length c.args.text.now - (c.loop.counter + 1)) _ _ _ c.loop.invariant.same (omega arith) c.in-Some.ensures.cases.0 c.if-first-eq34.false (sym c.in_default-element.ensures.same)

pub loop-preserved : goal.loop-preserved
loop-preserved c =
    record {
      same =
          text_more _ _ (units_seen c.in-Some-element.units) _ _ (length c.args.text.now - (c.loop.counter + 1)) _ _ _ _ c.loop.invariant.same (omega arith) c.in-Some.ensures.cases.0 c.if-first-eq34.false
          (sym c.in-Some-element.ensures.same) c.in_ok-push.ensures;
      within = omega (arith, c.in-Some.ensures.cases.1, c.in-Some-element.ensures.shorter, c.loop.invariant.within);
    }

pub returns-clause-same : goal.returns-clause-same
returns-clause-same c = text_out _ _ _ _ c.loop.invariant.same (omega arith)
