use Rattle.std.proofs.Common.{◌≡◌, ◌∙◌, subst, sym}
use Rattle.std.specs.Prelude.{IfSome}
use Rattle.wy_kernel.specs.Parts.{program_of}
use Rattle.wy_index.specs.Index.{owners_of}
use Rattle.wy_report.proofs.Rows.{entry_put}
use Rattle.wy_report.proofs.entries.put_entry.Goals as goal

pub sources-requires-clause-index : goal.sources-requires-clause-index
sources-requires-clause-index g c =
    let w = c.requires.index in
    record {
      records = w.records;
      is_index = w.is_index;
      all = w.all ∙ sym (c.event_text.ensures.keeps.count ∙ c.line_of.ensures.keeps.count);
      as_told = subst (λ o. IfSome o (λ rs. rs ≡ w.records)) (sym (c.event_text.ensures.keeps.records ∙ c.line_of.ensures.keeps.records)) w.as_told;
    }

pub returns-clause-row : goal.returns-clause-row
returns-clause-row g c = λ rs is.
    let found = c.in_ok-found.ensures in
    let first = c.line_of.ensures.keeps.records ∙ is in
    let second = c.event_text.ensures.keeps.records ∙ first in
    entry_put (program_of c.args.program.now) c.args.program.now.lines.items (owners_of c.args.index.now) rs c.args.many c.args.event c.args.of_data c.args.out.now.items c.put_event_row.new.out.items c.mark_of.result
    c.in_ok-line.line c.as_slice.result.now c.in_ok-text.text.items c.as_slice-2.result.now c.in_ok-found.found.items c.in_ok-put_event_row.ensures c.mark_of.ensures (c.in_ok-line.ensures.line rs is)
    c.as_slice.ensures.value (c.in_ok-text.ensures.text rs first) c.as_slice-2.ensures.value (record { exact = λ s. found.sources rs second s; in_order = found.rises }, found.below)
