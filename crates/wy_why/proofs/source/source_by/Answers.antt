use Rattle.std.proofs.Common.{sym, ap, ◌∙◌}
use Rattle.wy_event.specs.Sources.{Data, use_source, with_role}
use Rattle.wy_index.specs.Index.{owners_of}
use Rattle.wy_why.proofs.source.source_by.Goals as goal

pub returns-in-Some-clause-source : goal.returns-in-Some-clause-source
unfolding use_source with_role
returns-in-Some-clause-source g c = λ rs is. ap (with_role Data) (c.in-Some.ensures.write rs is) ∙ sym (ap (use_source (owners_of c.args.index.now) rs) c.in-Place.is)

pub returns-in-None-clause-source : goal.returns-in-None-clause-source
unfolding use_source with_role
returns-in-None-clause-source g c = λ rs is. ap (with_role Data) (c.in-None.ensures.write rs is) ∙ sym (ap (use_source (owners_of c.args.index.now) rs) c.in-Place.is)

pub returns-in-Value-clause-source : goal.returns-in-Value-clause-source
unfolding use_source with_role
returns-in-Value-clause-source g c = λ rs is. sym (ap (use_source (owners_of c.args.index.now) rs) c.in-Value.is)

pub returns-in-Choice-clause-source : goal.returns-in-Choice-clause-source
unfolding use_source with_role
returns-in-Choice-clause-source g c = λ rs is. sym (ap (use_source (owners_of c.args.index.now) rs) c.in-Choice.is)
