-- The places of a page.
use Rattle.std.proofs.Common.{◌≡◌, ◌∙◌, ◌+◌, ℕ, Bool, true, false, List, [], ◌∷◌, ◌++◌, length, map, refl, ap, ap₂, append-nil}
use Rattle.std.specs.Prelude.{◌==◌, ◌||◌, nat_lt, if◌then◌else◌}
use Rattle.std.specs.List.{flat_map, range_with_len}
use Rattle.wy_kernel.specs.Program.{Program}
use Rattle.wy_event.specs.Numbers.{Numbers}
use Rattle.wy_event.specs.Record.{Recorded}
use Rattle.wy_event.specs.Sources.{closure, data_closure}
use Rattle.wy_ask.specs.Asked.{owners}
use Rattle.wy_why.specs.Answer.{up_to}
use Rattle.wy_why.specs.declared.source.Source.{Source}
use Rattle.wy_fold.specs.Places.{Places, line_at}
use Rattle.wy_fold.specs.SourceLines.{source_lines}
use Rattle.wy_report.specs.declared.line.Mark.{Mark}
use Rattle.wy_report.specs.declared.piece.Target.TheVariants.{Line, Event}
use Rattle.wy_report.specs.Page.{AreEntries, Entry, answer_part, entry_row, event_row, event_text, line_link, line_row, line_rows, mark_of, page, row_end, source_link, source_links, source_part}
use Rattle.wy_report.specs.Pieces.{Piece, Markup, Number, Shown, Anchor, Link, anchors}
use Rattle.wy_report.specs.Template.{between, closing}

pub anchors_append : (xs ys : List Piece) → anchors (xs ++ ys) ≡ anchors xs ++ anchors ys
anchors_append [] ys = refl
anchors_append (Anchor place ∷ xs) ys = ap (λ l. place ∷ l) (anchors_append xs ys)
anchors_append (Markup text ∷ xs) ys = anchors_append xs ys
anchors_append (Number n ∷ xs) ys = anchors_append xs ys
anchors_append (Shown text ∷ xs) ys = anchors_append xs ys
anchors_append (Link place ∷ xs) ys = anchors_append xs ys

pub line_anchors : (at : Places) (all flow : List ℕ) (k : ℕ) (lines : List (List ℕ)) → anchors (line_rows at all flow k lines) ≡ map Line (range_with_len k (length lines))
unfolding line_row
line_anchors at all flow k [] = refl
line_anchors at all flow k (text ∷ lines) = ap (λ l. Line k ∷ l) (line_anchors at all flow (k + 1) lines)

no_line_anchors : (b : Bool) (k : ℕ) → anchors (if b then [] else Link (Line k) ∷ []) ≡ []
no_line_anchors true k = refl
no_line_anchors false k = refl

source_anchors : (sources : List Source) → anchors (source_links sources) ≡ []
unfolding source_link
source_anchors [] = refl
source_anchors (s ∷ sources) = source_anchors sources

-- the row of an event is one place
row_anchors : (many n : ℕ) (mark : Mark) (k : ℕ) (text : List ℕ) (sources : List Source) → anchors (event_row many n mark k text sources) ≡ Event n ∷ []
unfolding event_row
row_anchors many n mark k text sources =
    let end : List Piece = Markup row_end ∷ [] in
    let behind : anchors (source_links sources ++ end) ≡ [] = anchors_append (source_links sources) end ∙ ap (λ l. l ++ []) (source_anchors sources) in
    ap (λ l. Event n ∷ l) (anchors_append (line_link many k) _ ∙ ap₂ (λ a b. a ++ b) (no_line_anchors (k == 0 || nat_lt many k) k) behind)

pub entry_anchors : (p : Program) (lines : List ℕ) (rs : List Recorded) (by_data : Numbers) (many : ℕ) (entries : List Entry)
    → anchors (flat_map (entry_row p lines rs by_data many) entries) ≡ map Event (map (λ (e : Entry). e.event) entries)
entry_anchors p lines rs by_data many [] = refl
entry_anchors p lines rs by_data many (e ∷ entries) =
    anchors_append (entry_row p lines rs by_data many e) (flat_map (entry_row p lines rs by_data many) entries)
    ∙ ap₂ (λ a b. a ++ b) (row_anchors many e.event (mark_of true (by_data e.event)) (line_at lines rs e.event) (event_text p lines rs e.event (by_data e.event)) e.sources) (entry_anchors p lines rs by_data many entries)

-- the places of a page
pub the_anchors : (p : Program) (lines source : List ℕ) (rs : List Recorded) (event : ℕ) (entries : List Entry) → AreEntries (owners p) rs event entries
    → anchors (page p lines source rs event entries) ≡ map Line (range_with_len 1 (length (source_lines source))) ++ map Event (up_to event (closure (owners p) rs event))
the_anchors p lines source rs event entries are =
    let rows = source_part p lines source rs event in
    let answer = answer_part p lines source rs event entries in
    let end : List Piece = Markup closing ∷ [] in
    anchors_append rows (Markup between ∷ (answer ++ end))
    ∙ ap₂ (λ a b. a ++ b)
    (line_anchors (line_at lines rs) (up_to event (closure (owners p) rs event)) (up_to event (data_closure (owners p) rs event)) 1 (source_lines source))
    (anchors_append answer end ∙ append-nil (anchors answer) ∙ entry_anchors p lines rs (data_closure (owners p) rs event) (length (source_lines source)) entries ∙ ap (map Event) are.events)
