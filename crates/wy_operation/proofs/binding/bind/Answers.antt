use Rattle.std.proofs.Common.{◌∙◌, ap}
use Rattle.wy_event.specs.declared.record.Kind.TheVariants as kind
use Rattle.wy_event.specs.declared.record.Slot.TheVariants.{Local}
use Rattle.wy_meaning.specs.World.{into}
use Rattle.wy_operation.proofs.Runs.{written_as}
use Rattle.wy_operation.proofs.binding.bind.Goals as goal

pub returns-clause-step : goal.returns-clause-step
returns-clause-step g c p =
    written_as p c.note_write.result _ _ _ _ _ _ (c.into_slot-draft.ensures.draft ∙ ap (λ n. into kind.Bind n (Local c.args.frame c.args.index) c.args.part.value) c.local_site.ensures) c.into_slot-draft.ensures.value (c.note_write.ensures.step p)
