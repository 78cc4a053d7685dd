use Rattle.std.proofs.Common.{◌≡◌, Some, rules}
use Rattle.wy_explore.specs.Session.{IsLeastAbove}
use Rattle.wy_explore.proofs.Leading.{leads_there}
use Rattle.wy_explore.proofs.explorer.Explorer.next_down.Goals as goal

pub returns : goal.returns
returns c =
    let x = c.args.self.now in
    let asked = c.in_ok-asked.asked.now in
    let cursor_is : x.cursor ≡ Some c.in_ok-cursor.cursor = search rules in
    let asked_is : x.question ≡ Some asked = search rules in
    leads_there IsLeastAbove x asked c.in_ok-cursor.cursor c.as_slice.result.now c.least_above.result asked_is cursor_is c.as_slice.ensures.value c.least_above.ensures
