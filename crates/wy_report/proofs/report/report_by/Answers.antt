-- The parts that were put, as the page of the answer.
use Rattle.std.proofs.Common.{◌≡◌, ◌∙◌, ◌+◌, ◌≤◌, List, ℕ, [], ◌∷◌, ◌++◌, ap, length, map, refl, subst, sym, arith}
use Rattle.std.specs.Borrow.{Bor}
use Rattle.std.specs.Prelude.{IfSome, filter}
use Rattle.std.specs.List.{flat_map}
use Rattle.std.proofs.lemmas.List.{length-map}
use Rattle.std.proofs.lemmas.Option.{same_Some}
use Rattle.wy_kernel.specs.Parts.{program_of}
use Rattle.wy_event.specs.Numbers.{Numbers}
use Rattle.wy_event.specs.Record.{recorded}
use Rattle.wy_index.specs.Index.{owners_of}
use Rattle.wy_why.specs.Answer.{Rises}
use Rattle.wy_telling.proofs.Answering.{rises_up}
use Rattle.wy_fold.specs.Places.{line_at}
use Rattle.wy_report.specs.Page.{line_rows}
use Rattle.wy_report.specs.Pieces.{Markup, written}
use Rattle.wy_report.specs.Rows.{PutsRows}
use Rattle.wy_report.proofs.Reports.{page_told}
use Rattle.wy_report.proofs.report.report_by.Goals as goal

pub put_head-requires : goal.put_head-requires
put_head-requires g c = record { there = omega (arith, c.requires.there, c.why.ensures.keeps.count) }

pub put_entries-requires-clause-there : goal.put_entries-requires-clause-there
put_entries-requires-clause-there g c =
    let count = length c.put_head.new.view.events.items in
    let there : c.args.event + 1 ≤ count = omega (arith, c.requires.there, c.why.ensures.keeps.count, c.put_head.ensures.keeps.count) in
    subst (Rises 0 count) (sym c.as_slice-2.ensures.value) (rises_up 0 (c.args.event + 1) count c.in_ok-answer.answer.all.items there c.in_ok-answer.ensures.rises.0)

pub put_entries-requires-clause-index : goal.put_entries-requires-clause-index
put_entries-requires-clause-index g c =
    let w = c.requires.opened.index in
    record {
      records = w.records;
      is_index = w.is_index;
      all = w.all ∙ sym (c.put_head.ensures.keeps.count ∙ c.why.ensures.keeps.count);
      as_told = subst (λ o. IfSome o (λ rs. rs ≡ w.records)) (sym (c.put_head.ensures.keeps.records ∙ c.why.ensures.keeps.records)) w.as_told;
    }

pub returns : goal.returns
returns g c =
    let o = c.args.opened.now in
    let p = program_of o.program.now in
    let lines = o.program.now.lines.items in
    let rs = map recorded o.view.events.items in
    let owner = owners_of o.index in
    let answer = c.in_ok-answer.answer in
    let all = answer.all.items in
    let flow = answer.flow.items in
    let found = c.in_ok-answer.ensures in
    let texts = map {A = Bor (List ℕ)} {B = List ℕ} (λ l. l.now) c.as_slice.result.now in
    let many = c.len.result in
    let start = c.new-out.result.items in
    let a = c.put_head.new.out.items in
    let b = c.put_source.new.out.items in
    let d = c.put_pieces.new.out.items in
    let e = c.put_entries.new.out.items in
    let f = c.put_pieces-2.new.out.items in
    let told = c.put_head.ensures.keeps.records ∙ c.why.ensures.keeps.records in
    let seen : map recorded c.as_slice-records.result.now ≡ rs = ap (map recorded) c.as_slice-records.ensures.value ∙ same_Some _ _ told in
    let in_lines : b ≡ a ++ flat_map written (line_rows (line_at lines rs) all flow 1 texts) = c.in_ok-put_source.ensures ∙ ap (λ r. a ++ flat_map written (line_rows (line_at lines r) all flow 1 texts)) seen in
    let rows : (by_data : Numbers) → flow ≡ filter by_data all → PutsRows p lines owner rs by_data many d e all (length all) =
    λ by_data is. subst (λ l. PutsRows p lines owner rs by_data many d e l (length l)) c.as_slice-2.ensures.value
    (c.in_ok-put_entries.ensures.rows rs told by_data (c.as_slice-3.ensures.value ∙ is ∙ ap (filter by_data) (sym c.as_slice-2.ensures.value))) in
    page_told p lines c.args.source.now rs c.args.event owner all flow texts many start a b d e f c.requires.opened.owners (found.all rs refl) (found.flow rs refl)
    (ap (map (λ l. l.now)) c.as_slice.ensures.value ∙ c.in_ok-lines.ensures) (omega (arith, c.len.ensures, length-map c.as_slice.result.now (λ (l : Bor (List ℕ)). l.now), ap length c.as_slice.ensures.value)) c.new-out.ensures.items
    (c.in_ok-put_head.ensures.head rs c.why.ensures.keeps.records) in_lines
    (c.in_ok-put_pieces.ensures ∙ ap (λ t. b ++ flat_map written (Markup t ∷ [])) c.between.ensures) rows
    (c.in_ok-put_pieces-2.ensures ∙ ap (λ t. e ++ flat_map written (Markup t ∷ [])) c.closing.ensures)
