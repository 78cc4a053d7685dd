use Rattle.std.proofs.Common.{List, ap, ◌∙◌, subst}
use Rattle.wy_kernel.specs.Parts.{program_of}
use Rattle.wy_static.specs.Seen.{seen_by}
use Rattle.wy_static.specs.declared.point.Link.{Link}
use Rattle.wy_static.specs.declared.standing.Standing.{Standing}
use Rattle.wy_static.specs.Along.{AreCalled}
use Rattle.wy_static.specs.LookUps.{standing_at}
use Rattle.wy_static.specs.Links.{AreLinks}
use Rattle.wy_static.proofs.Whole.{all_links, all_targets}
use Rattle.wy_static.proofs.links.links.Goals as goal

pub returns : goal.returns
returns c =
    let p = program_of c.args.program.now in
    let links = c.settle.new.links.items in
    let all : AreLinks p links = all_links p (seen_by c.in_ok-dispatcher.dispatcher) c.deref.result.now c.in_ok-items.items.items links (ap program_of c.in_ok-dispatcher.ensures) (c.deref.ensures.value ∙ c.in_ok-ways.ensures) c.in_ok-items.ensures c.settle.ensures.same c.settle.ensures.in_order in
    record {
      links = all;
      targets = all_targets p links c.in_ok-targets.targets all (subst (λ (xs : List Link). AreCalled xs c.in_ok-targets.targets) c.deref-2.ensures.value c.in_ok-targets.ensures);
      standings = λ q. c.in_ok-standings.ensures q ∙ ap (λ (xs : List Standing). standing_at xs q) (c.deref-3.ensures.value ∙ c.in_ok-standings_of.ensures);
    }
