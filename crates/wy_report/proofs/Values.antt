-- The values of a page's attributes.
use Rattle.std.proofs.Common.{◌≡◌, ◌∙◌, ◌+◌, ℕ, zero, suc, Bool, true, false, List, [], ◌∷◌, ◌++◌, Some, length, get_or, drop, map, refl, sym, ap, subst, append_assoc, arith}
use Rattle.std.specs.Prelude.{◌==◌, ◌||◌, Contains, filter, if◌then◌else◌, nat_lt}
use Rattle.std.specs.List.{AllByRecursion, flat_map}
use Rattle.wy_kernel.specs.Program.{Program}
use Rattle.wy_event.specs.Numbers.{Numbers}
use Rattle.wy_event.specs.Record.{Recorded}
use Rattle.wy_event.specs.Sources.{closure, data_closure}
use Rattle.wy_ask.specs.Asked.{owners}
use Rattle.wy_why.specs.Answer.{up_to}
use Rattle.wy_why.specs.declared.source.Role.{Role}
use Rattle.wy_why.specs.declared.source.Role.TheVariants as role
use Rattle.wy_why.specs.declared.source.Source.{Source}
use Rattle.wy_fold.specs.Places.{Places, line_at, stands_on}
use Rattle.wy_fold.specs.SourceLines.{source_lines}
use Rattle.wy_report.specs.declared.line.Mark.{Mark}
use Rattle.wy_report.specs.declared.line.Mark.TheVariants.{Nothing, Other, Data}
use Rattle.wy_report.specs.declared.piece.Target.{Target}
use Rattle.wy_report.specs.declared.piece.Target.TheVariants.{Line, Event}
use Rattle.wy_report.specs.Escapes.{escaped}
use Rattle.wy_report.specs.Laws.{AnchorsAreTheAnswer, LinksLeadToAnchors}
use Rattle.wy_report.specs.Page.{Entry, answer_part, class_text, entry_row, event_row, event_text, head_part, line_link, line_row, line_rows, mark_of, page, role_text, row_end, source_link, source_links, source_part, star_text, text_cell}
use Rattle.wy_report.specs.Pieces.{Piece, Markup, Number, Shown, Anchor, Link, anchors, links, target_text, written}
use Rattle.wy_report.specs.Reading.{enclosed_from, is_name, values}
use Rattle.wy_report.specs.Template.{between, closing, middle, opening, styles}
use Rattle.wy_report.proofs.Anchors.{the_anchors}
use Rattle.wy_report.proofs.Links.{links_lead}
use Rattle.wy_report.proofs.Signs.{inside, lacks, name_text, no_quote, number_text, outside}
use Rattle.wy_report.proofs.Texts.{shown_is_text}

-- ---- what each piece has

abbrev value_of : Piece → List (List ℕ)
value_of (Markup text) = []
value_of (Number n) = []
value_of (Shown text) = []
value_of (Anchor place) = target_text place ∷ []
value_of (Link place) = (35 ∷ target_text place) ∷ []

-- a part of the template has no quotation mark
abbrev IsPlain : Piece → Type 0
IsPlain (Markup text) = lacks 34 text ≡ true
IsPlain (Number n) = Unit {0}
IsPlain (Shown text) = Unit {0}
IsPlain (Anchor place) = Unit {0}
IsPlain (Link place) = Unit {0}

marked : (held x rest : List ℕ) → lacks 34 x ≡ true → enclosed_from 34 34 (Some held) ((x ++ 34 ∷ []) ++ rest) ≡ (held ++ x) ∷ values rest
marked held x rest is = ap (enclosed_from 34 34 (Some held)) (append_assoc x (34 ∷ []) rest) ∙ inside 34 34 held x (34 ∷ rest) is

of_piece : (piece : Piece) (rest : List ℕ) → IsPlain piece → values (written piece ++ rest) ≡ value_of piece ++ values rest
of_piece (Markup text) rest is = outside 34 34 text rest is
of_piece (Number n) rest is = outside 34 34 (written (Number n)) rest (no_quote (written (Number n)) (number_text n))
of_piece (Shown text) rest is = outside 34 34 (escaped text) rest (no_quote (escaped text) (shown_is_text text))
of_piece (Anchor place) rest is = marked [] (target_text place) rest (no_quote (target_text place) (name_text place))
of_piece (Link place) rest is = marked (35 ∷ []) (target_text place) rest (no_quote (target_text place) (name_text place))

the_values : (pieces : List Piece) → AllByRecursion IsPlain pieces → values (flat_map written pieces) ≡ flat_map value_of pieces
the_values [] all = refl
the_values (piece ∷ pieces) all = of_piece piece (flat_map written pieces) all.0 ∙ ap (λ l. value_of piece ++ l) (the_values pieces all.1)

-- ---- names, and what leads to them

the_names : (pieces : List Piece) → filter is_name (flat_map value_of pieces) ≡ map target_text (anchors pieces)
the_names [] = refl
the_names (Markup text ∷ pieces) = the_names pieces
the_names (Number n ∷ pieces) = the_names pieces
the_names (Shown text ∷ pieces) = the_names pieces
the_names (Anchor (Line k) ∷ pieces) = ap (λ l. target_text (Line k) ∷ l) (the_names pieces)
the_names (Anchor (Event n) ∷ pieces) = ap (λ l. target_text (Event n) ∷ l) (the_names pieces)
the_names (Link place ∷ pieces) = the_names pieces

no_sign : (place : Target) (name : List ℕ) → target_text place ≡ 35 ∷ name → ⊥
no_sign (Line k) name is = absurd (omega (arith, ap (λ (l : List ℕ). get_or l 0 0) is))
no_sign (Event n) name is = absurd (omega (arith, ap (λ (l : List ℕ). get_or l 0 0) is))

the_link : (pieces : List Piece) (name : List ℕ) → Contains (flat_map value_of pieces) (35 ∷ name) → (place : Target) × Contains (links pieces) place × (target_text place ≡ name)
the_link [] name has = absurd (omega (arith, has.1))
the_link (Markup text ∷ pieces) name has = the_link pieces name has
the_link (Number n ∷ pieces) name has = the_link pieces name has
the_link (Shown text ∷ pieces) name has = the_link pieces name has
the_link (Anchor place ∷ pieces) name (zero, lt, is) = absurd (no_sign place name is)
the_link (Anchor place ∷ pieces) name (suc k, lt, is) = the_link pieces name (k, omega (arith, lt), is)
the_link (Link place ∷ pieces) name (zero, lt, is) = (place, (0, omega arith, refl), ap (drop 1) is)
the_link (Link place ∷ pieces) name (suc k, lt, is) =
    let more = the_link pieces name (k, omega (arith, lt), is) in
    (more.0, (suc more.1.0, omega (arith, more.1.1), more.1.2), more.2)

named : (places : List Target) (place : Target) → Contains places place → Contains (map target_text places) (target_text place)
named [] place has = absurd (omega (arith, has.1))
named (x ∷ places) place (zero, lt, is) = (0, omega arith, ap target_text is)
named (x ∷ places) place (suc k, lt, is) = let more = named places place (k, omega (arith, lt), is) in (suc more.0, omega (arith, more.1), more.2)

-- ---- the parts of a page are plain

plain_both : (xs ys : List Piece) → AllByRecursion IsPlain xs → AllByRecursion IsPlain ys → AllByRecursion IsPlain (xs ++ ys)
plain_both [] ys first second = second
plain_both (x ∷ xs) ys first second = (first.0, plain_both xs ys first.1 second)

of_class : (mark : Mark) → lacks 34 (class_text mark) ≡ true
of_class Nothing = refl
of_class Other = refl
of_class Data = refl

of_star : (mark : Mark) → lacks 34 (star_text mark) ≡ true
of_star Nothing = refl
of_star Other = refl
of_star Data = refl

of_role : (r : Role) → lacks 34 (role_text r) ≡ true
of_role role.Data = refl
of_role role.Choice = refl
of_role role.Control = refl

plain_line : (mark : Mark) (k : ℕ) (text : List ℕ) → AllByRecursion IsPlain (line_row mark k text)
unfolding line_row
plain_line mark k text = (refl, (tt, (of_class mark, (tt, (of_star mark, (tt, (refl, tt)))))))

plain_link : (b : Bool) (k : ℕ) → AllByRecursion IsPlain (if b then [] else Link (Line k) ∷ [])
plain_link true k = tt
plain_link false k = (tt, tt)

plain_sources : (sources : List Source) → AllByRecursion IsPlain (source_links sources)
unfolding source_link
plain_sources [] = tt
plain_sources (s ∷ sources) = (refl, (tt, (of_role s.role, (tt, (refl, plain_sources sources)))))

plain_event : (many n : ℕ) (mark : Mark) (k : ℕ) (text : List ℕ) (sources : List Source) → AllByRecursion IsPlain (event_row many n mark k text sources)
unfolding event_row
plain_event many n mark k text sources = (
  refl,
  (
    tt,
    (
      of_class mark,
      (
        refl,
        plain_both (line_link many k) (text_cell text ++ (source_links sources ++ Markup row_end ∷ [])) (plain_link (k == 0 || nat_lt many k) k)
            (refl, (tt, (refl, plain_both (source_links sources) (Markup row_end ∷ []) (plain_sources sources) (refl, tt)))),
      ),
    ),
  ),
)

plain_head : (text : List ℕ) → AllByRecursion IsPlain (head_part text)
unfolding opening styles middle
plain_head text = (refl, (tt, (refl, (tt, (refl, tt)))))

-- ---- the page

plain_lines : (at : Places) (all flow : List ℕ) (k : ℕ) (lines : List (List ℕ)) → AllByRecursion IsPlain (line_rows at all flow k lines)
plain_lines at all flow k [] = tt
plain_lines at all flow k (text ∷ lines) =
    let mark = mark_of (stands_on at k all) (stands_on at k flow) in
    plain_both (line_row mark k text) (line_rows at all flow (k + 1) lines) (plain_line mark k text) (plain_lines at all flow (k + 1) lines)

plain_entries : (p : Program) (lines : List ℕ) (rs : List Recorded) (by_data : Numbers) (many : ℕ) (entries : List Entry) → AllByRecursion IsPlain (flat_map (entry_row p lines rs by_data many) entries)
plain_entries p lines rs by_data many [] = tt
plain_entries p lines rs by_data many (e ∷ entries) =
    plain_both (entry_row p lines rs by_data many e) (flat_map (entry_row p lines rs by_data many) entries)
    (plain_event many e.event (mark_of true (by_data e.event)) (line_at lines rs e.event) (event_text p lines rs e.event (by_data e.event)) e.sources) (plain_entries p lines rs by_data many entries)

plain_page : (p : Program) (lines source : List ℕ) (rs : List Recorded) (event : ℕ) (entries : List Entry) → AllByRecursion IsPlain (page p lines source rs event entries)
unfolding between closing
plain_page p lines source rs event entries =
    let text = event_text p lines rs event false in
    let rows = source_part p lines source rs event in
    let answer = answer_part p lines source rs event entries in
    let end : List Piece = Markup closing ∷ [] in
    plain_both (head_part text) (rows ++ (Markup between ∷ (answer ++ end))) (plain_head text)
    (plain_both rows (Markup between ∷ (answer ++ end))
    (plain_lines (line_at lines rs) (up_to event (closure (owners p) rs event)) (up_to event (data_closure (owners p) rs event)) 1 (source_lines source))
    (refl, plain_both answer end (plain_entries p lines rs (data_closure (owners p) rs event) (length (source_lines source)) entries) (refl, tt)))

-- the names that are read in a page are those of its places
page_names : (p : Program) (lines source : List ℕ) (rs : List Recorded) (event : ℕ) (entries : List Entry) (text : List ℕ) → text ≡ flat_map written (page p lines source rs event entries)
    → (values text ≡ flat_map value_of (page p lines source rs event entries)) × (filter is_name (values text) ≡ map target_text (anchors (page p lines source rs event entries)))
page_names p lines source rs event entries text is =
    let pieces = page p lines source rs event entries in
    let read : values text ≡ flat_map value_of pieces = ap values is ∙ the_values pieces (plain_page p lines source rs event entries) in
    (read, ap (filter is_name) read ∙ the_names pieces)

pub names_are : AnchorsAreTheAnswer
names_are p lines source rs event text (entries, are, is) =
    (page_names p lines source rs event entries text is).1 ∙ ap (map target_text) (the_anchors p lines source rs event entries are)

pub links_are : LinksLeadToAnchors
links_are p lines source rs event text (entries, are, is) name has =
    let pieces = page p lines source rs event entries in
    let read = page_names p lines source rs event entries text is in
    let found = the_link pieces name (subst (λ vs. Contains vs (35 ∷ name)) read.0 has) in
    let there : Contains (anchors pieces) found.0 = links_lead p lines source rs event entries are found.0 found.1 in
    subst (λ ns. Contains ns name) (sym read.1) (subst (Contains (map target_text (anchors pieces))) found.2 (named (anchors pieces) found.0 there))
