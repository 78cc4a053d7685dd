-- The tags of a page.
use Rattle.std.proofs.Common.{◌≡◌, ◌∙◌, ◌+◌, ℕ, Bool, true, false, List, [], ◌∷◌, ◌++◌, Option, Some, length, get_or, refl, sym, ap, subst, append_assoc, append-nil, ltb-true, arith}
use Rattle.std.specs.Prelude.{None as Absent}
use Rattle.std.specs.Prelude.{◌==◌, ◌||◌, codes, if◌then◌else◌, nat_lt}
use Rattle.std.specs.List.{AllByRecursion, flat_map}
use Rattle.std.proofs.lemmas.List.Concat.{flat_map-append}
use Rattle.wy_kernel.specs.Program.{Program}
use Rattle.wy_event.specs.Numbers.{Numbers}
use Rattle.wy_event.specs.Record.{Recorded}
use Rattle.wy_event.specs.Sources.{closure, data_closure}
use Rattle.wy_ask.specs.Asked.{owners}
use Rattle.wy_why.specs.Answer.{up_to}
use Rattle.wy_why.specs.declared.source.Role.{Role}
use Rattle.wy_why.specs.declared.source.Role.TheVariants as role
use Rattle.wy_why.specs.declared.source.Source.{Source}
use Rattle.wy_fold.specs.Places.{Places, line_at, stands_on}
use Rattle.wy_fold.specs.SourceLines.{source_lines}
use Rattle.wy_report.specs.declared.line.Mark.{Mark}
use Rattle.wy_report.specs.declared.line.Mark.TheVariants.{Nothing, Other, Data}
use Rattle.wy_report.specs.declared.piece.Target.{Target}
use Rattle.wy_report.specs.declared.piece.Target.TheVariants.{Line, Event}
use Rattle.wy_report.specs.Escapes.{escaped}
use Rattle.wy_report.specs.Laws.{TagsAreTheTemplates}
use Rattle.wy_report.specs.Page.{Entry, answer_part, class_text, entry_row, event_row, event_text, head_part, line_link, line_row, line_rows, mark_of, page, role_text, row_end, source_link, source_links, source_part, star_text, text_cell}
use Rattle.wy_report.specs.Pieces.{Piece, Markup, Number, Shown, Anchor, Link, target_text, written}
use Rattle.wy_report.specs.Reading.{enclosed_from, tags}
use Rattle.wy_report.specs.Tags.{IsTag, fixed, fixed_tags, link, row}
use Rattle.wy_report.specs.Template.{between, closing, middle, opening, styles}
use Rattle.wy_report.proofs.Signs.{inside, lacks, lacks_both, name_text, no_greater, no_less, number_text, outside}
use Rattle.wy_report.proofs.Texts.{shown_is_text}

-- where a reader is: outside of tags, or in one of which this was read
abbrev Place : Type 0
Place = Option (List ℕ)

abbrev AreTags : Place → List ℕ → Type 0
AreTags at bytes = AllByRecursion IsTag (enclosed_from 60 62 at bytes)

-- the tags that end in these pieces are tags of a page, and a reader goes on from the second place
record Reads (at : Place) (pieces : List Piece) (then_at : Place) : Type 0 where
  on : (rest : List ℕ) → AreTags then_at rest → AreTags at (flat_map written pieces ++ rest)

none : {at : Place} → Reads at [] at
none = record { on = λ rest is. is }

one : {at end : Place} (next : Place) {piece : Piece} {pieces : List Piece} → ((rest : List ℕ) → AreTags next rest → AreTags at (written piece ++ rest)) → Reads next pieces end → Reads at (piece ∷ pieces) end
one {at = at} next {piece = piece} {pieces = pieces} first others = record {
  on = λ rest is. subst (AreTags at) (sym (append_assoc (written piece) (flat_map written pieces) rest)) (first (flat_map written pieces ++ rest) (others.on rest is));
}

then_all : {at next end : Place} (xs ys : List Piece) → Reads at xs next → Reads next ys end → Reads at (xs ++ ys) end
then_all {at = at} xs ys first others = record {
  on = λ rest is. subst (AreTags at) (sym (ap (λ b. b ++ rest) (flat_map-append written xs ys) ∙ append_assoc (flat_map written xs) (flat_map written ys) rest)) (first.on (flat_map written ys ++ rest) (others.on rest is));
}

-- ---- each kind of piece

known : {tag : List ℕ} (k : ℕ) → nat_lt k (length fixed_tags) ≡ true → get_or fixed_tags k tag ≡ tag → IsTag tag
known {tag = tag} k lt is = fixed tag (k, ltb-true k (length fixed_tags) lt, is)

begins_cell : IsTag (codes "td")
begins_cell = known 23 refl refl

ends_cell : IsTag (codes "/td")
ends_cell = known 24 refl refl

over : (x rest : List ℕ) → lacks 60 x ≡ true → AreTags Absent rest → AreTags Absent (x ++ rest)
over x rest is more = subst (AllByRecursion IsTag) (sym (outside 60 62 x rest is)) more

number : (n : ℕ) (rest : List ℕ) → AreTags Absent rest → AreTags Absent (written (Number n) ++ rest)
number n rest = over (written (Number n)) rest (no_less (written (Number n)) (number_text n))

shown : (text rest : List ℕ) → AreTags Absent rest → AreTags Absent (written (Shown text) ++ rest)
shown text rest = over (escaped text) rest (no_less (escaped text) (shown_is_text text))

in_tag : (held x rest : List ℕ) → lacks 62 x ≡ true → AreTags (Some (held ++ x)) rest → AreTags (Some held) (x ++ rest)
in_tag held x rest is more = subst (AllByRecursion IsTag) (sym (inside 60 62 held x rest is)) more

named : (place : Target) → lacks 62 (target_text place ++ 34 ∷ []) ≡ true
named place = lacks_both 62 (target_text place) (34 ∷ []) (no_greater (target_text place) (name_text place)) refl

anchor : (held : List ℕ) (place : Target) (rest : List ℕ) → AreTags (Some (held ++ written (Anchor place))) rest → AreTags (Some held) (written (Anchor place) ++ rest)
anchor held place rest = in_tag held (written (Anchor place)) rest (named place)

leads : (held : List ℕ) (place : Target) (rest : List ℕ) → AreTags (Some (held ++ written (Link place))) rest → AreTags (Some held) (written (Link place) ++ rest)
leads held place rest = in_tag held (written (Link place)) rest (named place)

-- ---- rows

of_class : (mark : Mark) (place : Target) (rest : List ℕ) → AreTags Absent rest → AreTags (Some (codes "tr" ++ written (Anchor place))) (class_text mark ++ rest)
of_class Nothing place rest is = (subst IsTag (append-nil (codes "tr" ++ written (Anchor place))) (row place [] (0, omega arith, refl)), (begins_cell, is))
of_class Other place rest is = in_tag (codes "tr" ++ written (Anchor place)) (codes " class='other'") (codes "><td>" ++ rest) refl (row place (codes " class='other'") (1, omega arith, refl), (begins_cell, is))
of_class Data place rest is = in_tag (codes "tr" ++ written (Anchor place)) (codes " class='data'") (codes "><td>" ++ rest) refl (row place (codes " class='data'") (2, omega arith, refl), (begins_cell, is))

star : (mark : Mark) (rest : List ℕ) → AreTags Absent rest → AreTags Absent (star_text mark ++ rest)
star Nothing rest is = (ends_cell, (begins_cell, (ends_cell, (begins_cell, is))))
star Other rest is = (ends_cell, (begins_cell, (ends_cell, (begins_cell, is))))
star Data rest is = (ends_cell, (begins_cell, (ends_cell, (begins_cell, is))))

ended : (rest : List ℕ) → AreTags Absent rest → AreTags Absent (row_end ++ rest)
ended rest is = (ends_cell, (known 25 refl refl, is))

line_tags : (mark : Mark) (k : ℕ) (text : List ℕ) → Reads Absent (line_row mark k text) Absent
unfolding line_row
line_tags mark k text =
    one (Some (codes "tr")) (λ rest is. is) (one (Some (codes "tr" ++ written (Anchor (Line k)))) (anchor (codes "tr") (Line k)) (one Absent (of_class mark (Line k))
    (one Absent (number k) (one Absent (star mark) (one Absent (shown text) (one Absent ended none))))))

of_role : (r : Role) (place : Target) (rest : List ℕ) → AreTags Absent rest → AreTags (Some (codes "a" ++ written (Link place))) (role_text r ++ rest)
of_role role.Data place rest is = (link place, is)
of_role role.Choice place rest is = (link place, is)
of_role role.Control place rest is = (link place, is)

source_tags : (s : Source) → Reads Absent (source_link s) Absent
unfolding source_link
source_tags s =
    one (Some (codes "a")) (λ rest is. is) (one (Some (codes "a" ++ written (Link (Event s.event)))) (leads (codes "a") (Event s.event)) (one Absent (of_role s.role (Event s.event))
    (one Absent (number s.event) (one Absent (λ rest is. (known 27 refl refl, is)) none))))

all_sources : (sources : List Source) → Reads Absent (source_links sources) Absent
all_sources [] = none
all_sources (s ∷ sources) = then_all (source_link s) (source_links sources) (source_tags s) (all_sources sources)

cell : (held : List ℕ) → IsTag held → (text : List ℕ) → Reads (Some held) (text_cell text) Absent
cell held tag text = one Absent (λ rest is. (tag, is)) (one Absent (shown text) (one Absent (λ rest is. (known 27 refl refl, (ends_cell, (begins_cell, is)))) none))

event_tags : (many n : ℕ) (mark : Mark) (k : ℕ) (text : List ℕ) (sources : List Source) → Reads Absent (event_row many n mark k text sources) Absent
unfolding event_row
event_tags many n mark k text sources =
    then_all (Markup (codes "<tr") ∷ Anchor (Event n) ∷ Markup (class_text mark) ∷ Markup (codes "<a") ∷ []) (line_link many k ++ tail)
    (one (Some (codes "tr")) (λ rest is. is) (one (Some (codes "tr" ++ written (Anchor (Event n)))) (anchor (codes "tr") (Event n)) (one Absent (of_class mark (Event n)) (one (Some (codes "a")) (λ rest is. is) none))))
    (go (k == 0 || nat_lt many k))
  where
    tail : List Piece
    tail = text_cell text ++ (source_links sources ++ Markup row_end ∷ [])

    behind : Reads Absent (source_links sources ++ Markup row_end ∷ []) Absent
    behind = then_all (source_links sources) (Markup row_end ∷ []) (all_sources sources) (one Absent ended none)

    go : (b : Bool) → Reads (Some (codes "a")) ((if b then [] else Link (Line k) ∷ []) ++ tail) Absent
    go true = then_all (text_cell text) (source_links sources ++ Markup row_end ∷ []) (cell (codes "a") (known 26 refl refl) text) behind
    go false =
        one (Some (codes "a" ++ written (Link (Line k)))) (leads (codes "a") (Line k))
        (then_all (text_cell text) (source_links sources ++ Markup row_end ∷ []) (cell (codes "a" ++ written (Link (Line k))) (link (Line k)) text) behind)

head_tags : (text : List ℕ) → Reads Absent (head_part text) Absent
unfolding opening styles middle
head_tags text =
    one Absent (λ rest is. (known 0 refl refl, (known 1 refl refl, (known 2 refl refl, (known 3 refl refl, (known 4 refl refl, (known 5 refl refl, (known 6 refl refl, is)))))))) (one Absent (shown text)
    (one Absent (λ rest is. (known 7 refl refl, (known 8 refl refl, (known 9 refl refl, (known 10 refl refl, (known 11 refl refl, (known 12 refl refl, is))))))) (one Absent (shown text)
    (one Absent (λ rest is. (known 13 refl refl, (known 14 refl refl, (known 15 refl refl, (known 16 refl refl, (known 17 refl refl, (known 16 refl refl, (known 18 refl refl, (known 19 refl refl, (known 20 refl refl, (known 21 refl refl, is))))))))))) none))))

-- ---- the page

all_lines : (at : Places) (all flow : List ℕ) (k : ℕ) (lines : List (List ℕ)) → Reads Absent (line_rows at all flow k lines) Absent
all_lines at all flow k [] = none
all_lines at all flow k (text ∷ lines) =
    let mark = mark_of (stands_on at k all) (stands_on at k flow) in
    then_all (line_row mark k text) (line_rows at all flow (k + 1) lines) (line_tags mark k text) (all_lines at all flow (k + 1) lines)

all_entries : (p : Program) (lines : List ℕ) (rs : List Recorded) (by_data : Numbers) (many : ℕ) (entries : List Entry) → Reads Absent (flat_map (entry_row p lines rs by_data many) entries) Absent
all_entries p lines rs by_data many [] = none
all_entries p lines rs by_data many (e ∷ entries) =
    then_all (entry_row p lines rs by_data many e) (flat_map (entry_row p lines rs by_data many) entries)
    (event_tags many e.event (mark_of true (by_data e.event)) (line_at lines rs e.event) (event_text p lines rs e.event (by_data e.event)) e.sources) (all_entries p lines rs by_data many entries)

page_tags : (p : Program) (lines source : List ℕ) (rs : List Recorded) (event : ℕ) (entries : List Entry) → Reads Absent (page p lines source rs event entries) Absent
unfolding between closing
page_tags p lines source rs event entries =
    let rows = source_part p lines source rs event in
    let answer = answer_part p lines source rs event entries in
    let behind : Reads Absent (Markup closing ∷ []) Absent = one Absent (λ rest is. (known 28 refl refl, (known 29 refl refl, (known 30 refl refl, is)))) none in
    then_all (head_part (event_text p lines rs event false)) (rows ++ (Markup between ∷ (answer ++ Markup closing ∷ []))) (head_tags (event_text p lines rs event false))
    (then_all rows (Markup between ∷ (answer ++ Markup closing ∷ []))
    (all_lines (line_at lines rs) (up_to event (closure (owners p) rs event)) (up_to event (data_closure (owners p) rs event)) 1 (source_lines source))
    (one Absent (λ rest is. (known 28 refl refl, (known 19 refl refl, (known 20 refl refl, (known 22 refl refl, is)))))
    (then_all answer (Markup closing ∷ []) (all_entries p lines rs (data_closure (owners p) rs event) (length (source_lines source)) entries) behind)))

pub the_tags : TagsAreTheTemplates
the_tags p lines source rs event text (entries, are, is) =
    let all = flat_map written (page p lines source rs event entries) in
    subst (λ t. AllByRecursion IsTag (tags t)) (sym is) (subst (AreTags Absent) (append-nil all) ((page_tags p lines source rs event entries).on [] tt))
