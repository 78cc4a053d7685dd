use Rattle.std.proofs.Common.{◌≡◌, ◌∙◌, ◌<◌, length, slice_get, ap, arith}
use Rattle.wy_kernel.specs.Program.{class_of_type}
use Rattle.wy_kernel.specs.View.{NONE}
use Rattle.wy_meaning.specs.World.{object_in, type_in}
use Rattle.wy_telling.proofs.Prints.{all_told}
use Rattle.wy_telling.proofs.Throws.{class_read, no_class, no_site, site_read}
use Rattle.wy_telling.proofs.thrown.thrown.Goals as goal

pub returns-then-last-count-clause-class : goal.returns-then-last-count-clause-class
returns-then-last-count-clause-class g c = λ rs is.
    let told = g.V.EventView.tells c.args.view.now in
    let all : length rs ≡ told.count = all_told told.records rs told.count is c.count.ensures.told in
    no_class rs c.args.last (omega (arith, all, c.count.ensures.count))

pub returns-then-last-count-clause-site : goal.returns-then-last-count-clause-site
returns-then-last-count-clause-site g c = λ rs is.
    let told = g.V.EventView.tells c.args.view.now in
    let all : length rs ≡ told.count = all_told told.records rs told.count is c.count.ensures.told in
    no_site rs c.args.last (omega (arith, all, c.count.ensures.count))

pub returns-clause-class : goal.returns-clause-class
returns-clause-class g c = λ rs is.
    let throw = c.in_ok-throw.throw in
    let (e, at, kind, site, about, value) = c.in_ok-throw.ensures.facts rs is in
    let there : c.args.last < NONE = omega arith in
    class_read rs c.args.last c.in_ok-class.class e there c.in_ok-class.ensures.there at
    (c.in_ok-class.ensures.class rs (c.in_ok-throw.ensures.keeps.records ∙ is) ∙ ap (λ n. class_of_type (type_in (slice_get rs n))) (c.object_in.ensures ∙ ap object_in value))

pub returns-clause-site : goal.returns-clause-site
returns-clause-site g c = λ rs is.
    let throw = c.in_ok-throw.throw in
    let (e, at, kind, site, about, value) = c.in_ok-throw.ensures.facts rs is in
    let there : c.args.last < NONE = omega arith in
    site_read rs c.args.last throw.site e there at site
