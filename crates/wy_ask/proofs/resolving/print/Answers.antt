use Rattle.std.proofs.Common.{◌<◌, length, sym, subst}
use Rattle.std.specs.Prelude.{IfSome}
use Rattle.wy_ask.proofs.Stores.{read_print}
use Rattle.wy_ask.proofs.resolving.print.Goals as goal

pub returns-clause-below : goal.returns-clause-below
returns-clause-below c = λ rs is.
    subst (λ r. IfSome r (λ e. e < length rs)) (sym c.copied.ensures)
    (read_print rs c.prints.result.now c.args.piece c.get.result (c.prints.ensures rs is) c.get.ensures.lookup.0 c.get.ensures.lookup.1)
