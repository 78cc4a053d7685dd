use Rattle.wy_expect.proofs.Walking.{goes_on, went_on}
use Rattle.wy_expect.proofs.walk.goes_on.Goals as goal

pub returns : goal.returns
returns c =
    let printed = c.args.printed.now in
    let expected = c.args.expected.now in (
      λ so. goes_on printed expected c.args.before c.requires.inside c.requires.begins (c.begins.ensures.0 so),
      λ all. c.begins.ensures.1 (went_on printed expected c.args.before c.requires.inside c.requires.begins all),
    )
