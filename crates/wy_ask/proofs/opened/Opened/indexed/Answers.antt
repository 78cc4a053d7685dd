use Rattle.wy_ask.proofs.opened.Opened.indexed.Goals as goal

pub returns-clause-opened : goal.returns-clause-opened
returns-clause-opened g c = record { few_fields = c.requires.fields; index = c.in_ok-index.ensures.index; owners = c.in_ok-index.ensures.owners }
