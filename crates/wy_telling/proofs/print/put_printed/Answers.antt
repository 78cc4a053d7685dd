use Rattle.std.proofs.Common.{◌∙◌, ap, refl, slice_get}
use Rattle.wy_index.specs.Found.{is_print}
use Rattle.wy_kernel.specs.Parts.{program_of}
use Rattle.wy_telling.proofs.Prints.{not_print, one_record, other_wrote, print_wrote}
use Rattle.wy_telling.proofs.print.put_printed.Goals as goal

pub returns-in_ok-put_end-in-Print-clause-bytes : goal.returns-in_ok-put_end-in-Print-clause-bytes
returns-in_ok-put_end-in-Print-clause-bytes g c = λ rs e is at ends.
    let event = c.in_ok-event.event in
    let (a, a_at, kind, site, about, value) = c.in_ok-event.ensures.facts rs is in
    let same = one_record (slice_get rs c.args.n) a e a_at at in
    print_wrote (program_of c.args.program.now) rs e event.kind event.site event.value c.has.result c.args.bytes.now.items c.put_units.new.bytes.items c.put_end.new.bytes.items (ap is_print c.in-Print.is)
    (kind ∙ ap (λ r. r.kind) same) (site ∙ ap (λ r. r.site) same) (value ∙ ap (λ r. r.value) same) (c.has.ensures ∙ ends event.site)
    (c.in_ok-put_units-in-Print.ensures.bytes rs (c.in_ok-event.ensures.keeps.records ∙ is)) c.in_ok-put_end-in-Print.ensures

pub returns-in_default : goal.returns-in_default
returns-in_default g c = record {
  bytes = λ rs e is at ends.
      let (a, a_at, kind, site, about, value) = c.in_ok-event.ensures.facts rs is in
      let same = one_record (slice_get rs c.args.n) a e a_at at in
      other_wrote (program_of c.args.program.now) rs e c.in_ok-event.event.kind c.args.bytes.now.items _ (not_print _ c.in_default.not-Print) (kind ∙ ap (λ r. r.kind) same) refl;
  keeps = c.in_ok-event.ensures.keeps;
  answers = c.in_ok-event.ensures.answers;
}
