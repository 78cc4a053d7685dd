use Rattle.wy_static.specs.Seen.{seen_by}
use Rattle.wy_static.proofs.Along.{chosen, known, on_ok}
use Rattle.wy_static.proofs.links.put_way.Goals as goal

pub returns-in-Known-clause-added : goal.returns-in-Known-clause-added
returns-in-Known-clause-added c = on_ok c.put_along.result (λ grown. known (seen_by c.args.dispatcher.now) c.args.way c.in-Known.point c.args.out.now.items c.put_along.new.out.items c.in-Known.is grown) c.put_along.ensures

pub returns-in_ok-find-in-Chosen-clause-added : goal.returns-in_ok-find-in-Chosen-clause-added
returns-in_ok-find-in-Chosen-clause-added c =
    let p = seen_by c.args.dispatcher.now in
    on_ok c.put_to_each.result (λ grown. chosen p c.args.way c.in-Chosen.method c.in-Chosen.class c.of.result.now c.args.out.now.items c.put_to_each.new.out.items c.in-Chosen.is (c.of.ensures p c.in_ok-find-in-Chosen.ensures.targets) grown) c.put_to_each.ensures
