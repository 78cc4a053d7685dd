use Rattle.std.proofs.Common.{◌≡◌, length, arith, refl}
use Rattle.wy_kernel.specs.View.{present}
use Rattle.wy_kernel.specs.Program.{class_of_type}
use Rattle.wy_meaning.specs.World.{type_in}
use Rattle.wy_telling.proofs.Prints.{all_told}
use Rattle.wy_telling.proofs.Throws.{made_read, no_object}
use Rattle.wy_telling.proofs.thrown.class_at.Goals as goal

pub returns-then-number-count-clause-class : goal.returns-then-number-count-clause-class
unfolding type_in class_of_type
returns-then-number-count-clause-class g c = λ rs is.
    let told = g.V.EventView.tells c.args.view.now in
    let all : length rs ≡ told.count = all_told told.records rs told.count is c.count.ensures.told in
    no_object rs c.args.number 0 (omega (arith, all, c.count.ensures.count)) refl

pub returns-clause-class : goal.returns-clause-class
returns-clause-class g c = λ rs is.
    let made = c.in_ok-made.made in
    let (e, at, kind, site, about, value) = c.in_ok-made.ensures.facts rs is in
    made_read rs c.args.number c.class_of_code.result c.code_of.result (present made.entity) e at c.class_of_code.ensures.class c.code_of.ensures about
