use Rattle.std.proofs.Common.{◌≡◌, Some, rules}
use Rattle.wy_explore.specs.Session.{IsGreatestBelow}
use Rattle.wy_explore.proofs.Leading.{leads_there}
use Rattle.wy_explore.proofs.explorer.Explorer.next_up.Goals as goal

pub returns : goal.returns
returns c =
    let x = c.args.self.now in
    let asked = c.in_ok-asked.asked.now in
    let cursor_is : x.cursor ≡ Some c.in_ok-cursor.cursor = search rules in
    let asked_is : x.question ≡ Some asked = search rules in
    leads_there IsGreatestBelow x asked c.in_ok-cursor.cursor c.as_slice.result.now c.greatest_below.result asked_is cursor_is c.as_slice.ensures.value c.greatest_below.ensures
