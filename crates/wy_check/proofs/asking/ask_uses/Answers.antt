use Rattle.std.proofs.Common.{length, take, sym, ap, ◌∙◌}
use Rattle.wy_check.proofs.Askings.{asked_all, asked_push, asks_itself, asks_on}
use Rattle.wy_check.proofs.asking.ask_uses.Goals as goal

pub loop-used-init : goal.loop-used-init
loop-used-init c = record { asked = tt; more = asks_itself c.args.history.now }

pub loop-used-preserved : goal.loop-used-preserved
loop-used-preserved c = record {
  asked = asked_push c.loop-used.history c.ask_use.new.history c.args.uses.now c.loop-used.used-index c.loop-used.invariant.asked c.in_ok-ask_use.ensures.more c.loop-used-test.true c.in_ok-ask_use.ensures.asked;
  more = asks_on c.args.history.now c.loop-used.history c.ask_use.new.history c.loop-used.invariant.more c.in_ok-ask_use.ensures.more;
}

pub returns-clause-asked : goal.returns-clause-asked
returns-clause-asked c = asked_all c.loop-used.history c.args.uses.now c.loop-used.used-index c.loop-used.invariant.asked c.loop-used-test.false
