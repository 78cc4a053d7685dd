use Rattle.std.proofs.Common.{sym, ap, ◌∙◌}
use Rattle.std.specs.Prelude.{slice_get, unwrap_or}
use Rattle.std.proofs.lemmas.Option.{unwrap_or-slice_get}
use Rattle.wy_heap.specs.Layout.{no_offset}
use Rattle.wy_heap.specs.Plan.{position_of}
use Rattle.wy_heap.proofs.Places.{by_offset-there, by_offset-other, by_offset-past}
use Rattle.wy_heap.proofs.layout.Layouts.offset.Goals as goal

pub returns-then-there-field : goal.returns-then-there-field
returns-then-there-field c =
    let offset = c.unwrap_or-offset.ensures ∙ ap (λ o. unwrap_or o no_offset) (c.number_at.ensures ∙ ap (λ xs. slice_get xs c.args.field) c.deref.ensures.value) ∙ unwrap_or-slice_get c.args.self.now.offsets.items c.args.field no_offset in
    sym (by_offset-there _ _ _ _ _ c.fields_in_row-row.ensures.placed offset (sym c.number_at-2.ensures ∙ c.in-Some.is) c.if-there-field.true) ∙ ap (λ row. position_of row c.args.field) c.fields_in_row-row.ensures.fields

pub returns-else-there-field : goal.returns-else-there-field
returns-else-there-field c =
    let offset = c.unwrap_or-offset.ensures ∙ ap (λ o. unwrap_or o no_offset) (c.number_at.ensures ∙ ap (λ xs. slice_get xs c.args.field) c.deref.ensures.value) ∙ unwrap_or-slice_get c.args.self.now.offsets.items c.args.field no_offset in
    sym (by_offset-other _ _ _ _ _ c.fields_in_row-row.ensures.placed offset (sym c.number_at-2.ensures ∙ c.in-Some.is) c.if-there-field.false) ∙ ap (λ row. position_of row c.args.field) c.fields_in_row-row.ensures.fields

pub returns-in-None : goal.returns-in-None
returns-in-None c =
    let offset = c.unwrap_or-offset.ensures ∙ ap (λ o. unwrap_or o no_offset) (c.number_at.ensures ∙ ap (λ xs. slice_get xs c.args.field) c.deref.ensures.value) ∙ unwrap_or-slice_get c.args.self.now.offsets.items c.args.field no_offset in
    sym (by_offset-past _ _ _ _ c.fields_in_row-row.ensures.placed offset (sym c.number_at-2.ensures ∙ c.in-None.is)) ∙ ap (λ row. position_of row c.args.field) c.fields_in_row-row.ensures.fields
