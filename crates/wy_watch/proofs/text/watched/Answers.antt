use Rattle.wy_watch.proofs.text.watched.Goals as goal

pub returns : goal.returns
returns c = rw (c.deref.ensures.value, c.in_ok-source.ensures) at c.declared.ensures
