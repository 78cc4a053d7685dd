-- Where the links of a page lead.
use Rattle.std.proofs.Common.{◌≡◌, ◌≢◌, ◌∙◌, ◌+◌, ◌<◌, ◌≤◌, ℕ, zero, suc, Bool, true, false, List, [], ◌∷◌, ◌++◌, length, map, refl, sym, ap, subst, eq-eqb, nat_lt, eqb-true, arith}
use Rattle.std.specs.Prelude.{◌==◌, ◌||◌, Contains, if◌then◌else◌}
use Rattle.std.specs.List.{AllByRecursion, flat_map, range_with_len}
use Rattle.std.proofs.lemmas.Bool.{false≢true, ltb-false}
use Rattle.std.proofs.lemmas.List.Elements.{Contains-append_left, Contains-append_right}
use Rattle.wy_kernel.specs.Program.{Program}
use Rattle.wy_event.specs.Numbers.{Numbers}
use Rattle.wy_event.specs.Record.{Recorded}
use Rattle.wy_event.specs.Sources.{Owners, closure, data_closure, sources}
use Rattle.wy_ask.specs.Asked.{owners}
use Rattle.wy_cert.proofs.Chains.{closure_through, without_role}
use Rattle.wy_cert.proofs.Members.{among_of, in_up_to, of_among, of_up_to}
use Rattle.wy_why.proofs.Closures.{Among}
use Rattle.wy_why.proofs.Listing.{member_listed}
use Rattle.wy_why.specs.Answer.{up_to}
use Rattle.wy_why.specs.Sources.{source_of}
use Rattle.wy_why.specs.declared.source.Source.{Source}
use Rattle.wy_fold.specs.Places.{Places, line_at}
use Rattle.wy_fold.specs.SourceLines.{source_lines}
use Rattle.wy_report.specs.declared.line.Mark.{Mark}
use Rattle.wy_report.specs.declared.piece.Target.{Target}
use Rattle.wy_report.specs.declared.piece.Target.TheVariants.{Line, Event}
use Rattle.wy_report.specs.Page.{AreEntries, Entry, HasSources, answer_part, entry_row, event_row, event_text, line_link, line_row, line_rows, mark_of, page, row_end, source_link, source_links, source_part}
use Rattle.wy_report.specs.Pieces.{Piece, Markup, Number, Shown, Anchor, Link, anchors, links}
use Rattle.wy_report.specs.Template.{between, closing}
use Rattle.wy_report.proofs.Anchors.{the_anchors}

links_append : (xs ys : List Piece) → links (xs ++ ys) ≡ links xs ++ links ys
links_append [] ys = refl
links_append (Link place ∷ xs) ys = ap (λ l. place ∷ l) (links_append xs ys)
links_append (Markup text ∷ xs) ys = links_append xs ys
links_append (Number n ∷ xs) ys = links_append xs ys
links_append (Shown text ∷ xs) ys = links_append xs ys
links_append (Anchor place ∷ xs) ys = links_append xs ys

-- ---- each of some links

module _ (P : Target → Type 0) where
  each_of_both : (xs ys : List Target) → AllByRecursion P xs → AllByRecursion P ys → AllByRecursion P (xs ++ ys)
  each_of_both [] ys first second = second
  each_of_both (x ∷ xs) ys first second = (first.0, each_of_both xs ys first.1 second)

  both : (xs ys : List Piece) → AllByRecursion P (links xs) → AllByRecursion P (links ys) → AllByRecursion P (links (xs ++ ys))
  both xs ys first second = subst (AllByRecursion P) (sym (links_append xs ys)) (each_of_both (links xs) (links ys) first second)

  at_one : (xs : List Target) (x : Target) → AllByRecursion P xs → Contains xs x → P x
  at_one [] x all has = absurd (omega (arith, has.1))
  at_one (y ∷ xs) x all (zero, lt, is) = subst P is all.0
  at_one (y ∷ xs) x all (suc k, lt, is) = at_one xs x all.1 (k, omega (arith, lt), is)

  -- the lines of the source have none
  line_links : (at : Places) (all flow : List ℕ) (k : ℕ) (lines : List (List ℕ)) → AllByRecursion P (links (line_rows at all flow k lines))
  unfolding line_row
  line_links at all flow k [] = tt
  line_links at all flow k (text ∷ lines) = line_links at all flow (k + 1) lines

  not_either : (a b : Bool) → (a || b) ≡ false → (a ≡ false) × (b ≡ false)
  not_either true b is = absurd (false≢true (sym is))
  not_either false b is = (refl, is)

  module _ (many : ℕ) (to_line : (k : ℕ) → k ≢ 0 → k ≤ many → P (Line k)) where
    to_its_line : (k : ℕ) → AllByRecursion P (links (line_link many k))
    to_its_line k = go (k == 0 || nat_lt many k) refl
      where
        go : (b : Bool) → (k == 0 || nat_lt many k) ≡ b → AllByRecursion P (links (if b then [] else Link (Line k) ∷ []))
        go true is = tt
        go false is =
            let neither = not_either (k == 0) (nat_lt many k) is in
            (to_line k (λ same. false≢true (sym neither.0 ∙ eq-eqb k 0 same)) (ltb-false many k neither.1), tt)

    to_sources : (sources : List Source) → ((s : Source) → Contains sources s → P (Event s.event)) → AllByRecursion P (links (source_links sources))
    unfolding source_link
    to_sources [] each = tt
    to_sources (s ∷ sources) each = (each s (0, omega arith, refl), to_sources sources (λ t has. each t (suc has.0, omega (arith, has.1), has.2)))

    row_links : (n : ℕ) (mark : Mark) (k : ℕ) (text : List ℕ) (sources : List Source) → ((s : Source) → Contains sources s → P (Event s.event)) → AllByRecursion P (links (event_row many n mark k text sources))
    unfolding event_row
    row_links n mark k text sources each =
        let end : List Piece = Markup row_end ∷ [] in
        both (line_link many k) _ (to_its_line k) (both (source_links sources) end (to_sources sources each) tt)

    entry_links : (p : Program) (lines : List ℕ) (rs : List Recorded) (by_data : Numbers) (entries : List Entry) → ((e : Entry) → Contains entries e → (s : Source) → Contains e.sources s → P (Event s.event))
        → AllByRecursion P (links (flat_map (entry_row p lines rs by_data many) entries))
    entry_links p lines rs by_data [] each = tt
    entry_links p lines rs by_data (e ∷ entries) each =
        both (entry_row p lines rs by_data many e) (flat_map (entry_row p lines rs by_data many) entries)
        (row_links e.event (mark_of true (by_data e.event)) (line_at lines rs e.event) (event_text p lines rs e.event (by_data e.event)) e.sources (each e (0, omega arith, refl)))
        (entry_links p lines rs by_data entries (λ f has. each f (suc has.0, omega (arith, has.1), has.2)))

-- ---- places

line_there : (low many k : ℕ) → low ≤ k → k < low + many → Contains (map Line (range_with_len low many)) (Line k)
line_there low zero k le lt = absurd (omega (arith, le, lt))
line_there low (suc many) k le lt = go (low == k) refl (λ later. line_there (low + 1) many k later (omega (arith, lt)))
  where
    go : (b : Bool) → (low == k) ≡ b → (low + 1 ≤ k → Contains (map Line (range_with_len (low + 1) many)) (Line k)) → Contains (Line low ∷ map Line (range_with_len (low + 1) many)) (Line k)
    go true is more = (0, omega arith, ap Line (eqb-true low k is))
    go false is more =
        let other : low ≡ k → ⊥ = λ same. false≢true (sym is ∙ eq-eqb low k same) in
        let rest = more (omega (arith, le, other)) in
        (suc rest.0, omega (arith, rest.1), rest.2)

event_there : (ns : List ℕ) (w : ℕ) → Contains ns w → Contains (map Event ns) (Event w)
event_there [] w has = absurd (omega (arith, has.1))
event_there (n ∷ ns) w (zero, lt, is) = (0, omega arith, ap Event is)
event_there (n ∷ ns) w (suc k, lt, is) = let rest = event_there ns w (k, omega (arith, lt), is) in (suc rest.0, omega (arith, rest.1), rest.2)

has_sources : (owner : Owners) (rs : List Recorded) (entries : List Entry) (e : Entry) → AllByRecursion (HasSources owner rs) entries → Contains entries e → HasSources owner rs e
has_sources owner rs [] e all has = absurd (omega (arith, has.1))
has_sources owner rs (f ∷ entries) e all (zero, lt, is) = subst (HasSources owner rs) is all.0
has_sources owner rs (f ∷ entries) e all (suc k, lt, is) = has_sources owner rs entries e all.1 (k, omega (arith, lt), is)

-- what an event of the answer comes from is of the answer
source_there : (owner : Owners) (rs : List Recorded) (event : ℕ) (entries : List Entry) → AreEntries owner rs event entries → (e : Entry) → Contains entries e → (s : Source) → Contains e.sources s
    → Contains (up_to event (closure owner rs event)) s.event
unfolding closure
source_there owner rs event entries are e has s of =
    let all = closure owner rs event in
    let its = has_sources owner rs entries e are.sources has in
    let below = its.1 s of in
    let listed : Among e.event (up_to event all) = subst (Among e.event) are.events (among_of (map (λ (f : Entry). f.event) entries) e.event (member_listed (λ (f : Entry). f.event) entries (map (λ (f : Entry). f.event) entries) e refl has)) in
    let it = of_up_to all event e.event listed in
    let at = without_role (sources owner rs e.event) (source_of s) ((its.0.exact (source_of s)).0 (member_listed source_of e.sources (map source_of e.sources) s refl of)) in
    of_among (up_to event all) s.event (in_up_to all event s.event (omega (arith, it.0, below)) (closure_through owner true rs event e.event s.event it.1 at below))

-- each link of a page leads to one of its places
pub links_lead : (p : Program) (lines source : List ℕ) (rs : List Recorded) (event : ℕ) (entries : List Entry) → AreEntries (owners p) rs event entries
    → (place : Target) → Contains (links (page p lines source rs event entries)) place → Contains (anchors (page p lines source rs event entries)) place
links_lead p lines source rs event entries are place has =
    let owner = owners p in
    let many = length (source_lines source) in
    let ups = up_to event (closure owner rs event) in
    let rows = source_part p lines source rs event in
    let answer = answer_part p lines source rs event entries in
    let end : List Piece = Markup closing ∷ [] in
    let places : List Target = map Line (range_with_len 1 many) ++ map Event ups in
    let to_line : (k : ℕ) → k ≢ 0 → k ≤ many → Contains places (Line k) = λ k some le. Contains-append_left (map Line (range_with_len 1 many)) (map Event ups) (Line k) (line_there 1 many k (omega (arith, some)) (omega (arith, le))) in
    let to_source : (e : Entry) → Contains entries e → (s : Source) → Contains e.sources s → Contains places (Event s.event) =
    λ e in_entries s of. Contains-append_right (map Line (range_with_len 1 many)) (map Event ups) (Event s.event) (event_there ups s.event (source_there owner rs event entries are e in_entries s of)) in
    let lead : AllByRecursion (Contains places) (links (rows ++ (Markup between ∷ (answer ++ end)))) =
    both (Contains places) rows (Markup between ∷ (answer ++ end))
    (line_links (Contains places) (line_at lines rs) ups (up_to event (data_closure owner rs event)) 1 (source_lines source))
    (both (Contains places) answer end (entry_links (Contains places) many to_line p lines rs (data_closure owner rs event) entries to_source) tt) in
    subst (λ ps. Contains ps place) (sym (the_anchors p lines source rs event entries are)) (at_one (Contains places) _ place lead has)
