use Rattle.std.proofs.Common.{sym, ap, ◌∙◌, subst}
use Rattle.wy_kernel.specs.Parts.{program_of}
use Rattle.wy_event.specs.Sources.{Data, use_source, with_role}
use Rattle.wy_check.specs.Asking.{IsUseAsked}
use Rattle.wy_check.specs.Writes.{owners}
use Rattle.wy_check.proofs.weighing.source_by.Goals as goal

pub returns-in-Some : goal.returns-in-Some
unfolding use_source with_role
returns-in-Some c = λ rs seen asked. ap (with_role Data) (c.in-Some.ensures rs seen (subst (IsUseAsked c.args.history.now) c.in-Place.is asked)) ∙ sym (ap (use_source (owners (program_of c.args.program.now)) rs) c.in-Place.is)

pub returns-in-None : goal.returns-in-None
unfolding use_source with_role
returns-in-None c = λ rs seen asked. ap (with_role Data) (c.in-None.ensures rs seen (subst (IsUseAsked c.args.history.now) c.in-Place.is asked)) ∙ sym (ap (use_source (owners (program_of c.args.program.now)) rs) c.in-Place.is)

pub returns-in-Value : goal.returns-in-Value
unfolding use_source with_role
returns-in-Value c = λ rs seen asked. sym (ap (use_source (owners (program_of c.args.program.now)) rs) c.in-Value.is)

pub returns-in-Choice : goal.returns-in-Choice
unfolding use_source with_role
returns-in-Choice c = λ rs seen asked. sym (ap (use_source (owners (program_of c.args.program.now)) rs) c.in-Choice.is)
