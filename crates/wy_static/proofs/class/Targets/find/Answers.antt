use Rattle.wy_static.specs.Seen.{seen_by}
use Rattle.wy_static.proofs.Receiving.{found_more, targets_from}
use Rattle.wy_static.proofs.class.Targets.find.Goals as goal

pub returns-in_ok-insert-clause-targets : goal.returns-in_ok-insert-clause-targets
returns-in_ok-insert-clause-targets c =
    let p = seen_by c.args.dispatcher.now in
    let m = c.args.method in
    let d = c.args.class in
    record {
      receivers = c.requires.receivers;
      found = found_more p m d c.args.self.now.found c.insert.new.self c.in_ok-methods.methods c.requires.found c.in_ok-insert.ensures.updates.0 (targets_from p m d c.of.result.now c.in_ok-methods.methods.items (c.of.ensures p c.requires.receivers) c.in_ok-methods.ensures);
    }
