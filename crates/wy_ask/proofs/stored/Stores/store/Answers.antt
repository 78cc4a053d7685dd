use Rattle.wy_ask.proofs.Storing.{below_more, keys_more, values_more}
use Rattle.wy_ask.proofs.stored.Stores.store.Goals as goal

pub returns-clause-stored : goal.returns-clause-stored
returns-clause-stored c = λ sets r stored at gave. record {
  slots = keys_more c.args.self.now.values c.args.self.now.keys.items c.keep_new.new.keys.items c.args.key sets r at stored.values stored.slots c.in_ok-keep_new.ensures;
  values = values_more c.args.self.now.values c.insert.new.self c.args.key c.args.value sets r at gave stored.values c.in_ok-insert.ensures.updates.0;
}

pub returns-clause-below : goal.returns-clause-below
returns-clause-below c = λ n below here. below_more n c.args.self.now.values c.insert.new.self c.args.key c.args.value below here c.in_ok-insert.ensures.updates.0
