use Rattle.std.proofs.Common.{◌∙◌, false, ap}
use Rattle.std.specs.Prelude.{option_and_then}
use Rattle.wy_kernel.specs.Parts.{program_of}
use Rattle.wy_event.specs.declared.record.Slot.TheVariants as slot
use Rattle.wy_watch.specs.Names.{field_above}
use Rattle.wy_watch.specs.Sight.{sight_seen}
use Rattle.wy_watch.specs.Value.{stored_at}
use Rattle.wy_watch.proofs.Looking.{look_as, no_look}
use Rattle.wy_watch.proofs.value.object_member.Goals as goal

pub returns-in-Some-clause-looks : goal.returns-in-Some-clause-looks
returns-in-Some-clause-looks g c =
    let own = ap (λ k. field_above (program_of c.args.sight.now.program.now) false k c.args.name.now) c.class_of_code.ensures.class in
    look_as _ _ _ _ _ (λ rs told. ap (option_and_then (λ f. stored_at (sight_seen rs c.args.sight.now) (slot.Field c.args.object f))) (c.in-Some.ensures.field ∙ own)) c.stored_at.ensures.looks

pub returns-in-None-clause-looks : goal.returns-in-None-clause-looks
returns-in-None-clause-looks g c =
    let own = ap (λ k. field_above (program_of c.args.sight.now.program.now) false k c.args.name.now) c.class_of_code.ensures.class in
    no_look _ _ _ (λ rs told. ap (option_and_then (λ f. stored_at (sight_seen rs c.args.sight.now) (slot.Field c.args.object f))) (c.in-None.ensures.field ∙ own))
