-- From an answer to its groups, and to what is shown of them.
use Rattle.std.proofs.Common.{◌≡◌, ◌∙◌, ◌<◌, ◌≤◌, ◌+◌, ℕ, suc, Bool, true, false, List, [], ◌∷◌, ◌++◌, length, get_or, map, refl, sym, ap, nat_eq, subst, take, arith}
use Rattle.std.proofs.Math.Path.{fun_ext}
use Rattle.std.specs.Prelude.{filter, if◌then◌else◌, All}
use Rattle.std.specs.List.{flat_map, range_with_len}
use Rattle.std.proofs.lemmas.Bool.{false≢true}
use Rattle.std.proofs.lemmas.List.{get_or-map, length-map}
use Rattle.wy_kernel.specs.Program.{Program}
use Rattle.wy_event.specs.Numbers.{Numbers}
use Rattle.wy_event.specs.Record.{Recorded}
use Rattle.wy_event.specs.Sources.{closure, data_closure}
use Rattle.wy_index.specs.declared.index.Index.{Index}
use Rattle.wy_index.specs.Index.{owners_of}
use Rattle.wy_ask.specs.Asked.{owners}
use Rattle.wy_why.specs.Answer.{Rises, up_to}
use Rattle.wy_telling.proofs.Answering.{data_within, rises_up}
use Rattle.wy_telling.proofs.Asked.{one_line}
use Rattle.wy_telling.proofs.Merging.{below_end}
use Rattle.wy_fold.specs.declared.fold.Fold.{Fold}
use Rattle.wy_fold.specs.declared.fold.Showing.{Showing}
use Rattle.wy_fold.specs.declared.group.Group.{Group}
use Rattle.wy_fold.specs.Groups.{AreOfData, CanBeShown, IsFold, group_of, groups, row_of}
use Rattle.wy_fold.specs.Places.{Places, is_last, last_ones, line_at, on_line}
use Rattle.wy_fold.specs.Rows.{count_line, row_text}
use Rattle.wy_fold.specs.Shown.{group_text, opened_text, show_text, shown_events}
use Rattle.wy_fold.specs.SourceLines.{source_lines}
use Rattle.wy_fold.proofs.Texts.{joined}

-- ---- lists that rise

rises_lower : (low to high : ℕ) (xs : List ℕ) → to ≤ low → Rises low high xs → Rises to high xs
rises_lower low to high [] le rises = tt
rises_lower low to high (x ∷ xs) le (at, below, more) = (omega (arith, le, at), below, more)

pub rises_still : (p : ℕ → Bool) (low high : ℕ) (xs : List ℕ) → Rises low high xs → Rises low high (filter p xs)
rises_still p low high [] rises = tt
rises_still p low high (x ∷ xs) (at, below, more) = go (p x) (rises_still p (suc x) high xs more)
  where
    go : (b : Bool) → Rises (suc x) high (filter p xs) → Rises low high (if b then x ∷ filter p xs else filter p xs)
    go true rest = (at, below, rest)
    go false rest = rises_lower (suc x) low high (filter p xs) (omega (arith, at)) rest

pub shown_rises : (event count : ℕ) (by_data : Bool) (all flow : List ℕ) → event < count → Rises 0 (event + 1) all → Rises 0 (event + 1) flow → Rises 0 count (if by_data then flow else all)
shown_rises event count true all flow lt a f = rises_up 0 (event + 1) count flow (omega (arith, lt)) f
shown_rises event count false all flow lt a f = rises_up 0 (event + 1) count all (omega (arith, lt)) a

-- ---- those of the data

-- to take those of a smaller set on a line is to take them from those of a greater one on it
same_among : (p a b : ℕ → Bool) → ((j : ℕ) → b j ≡ true → a j ≡ true) → (xs : List ℕ) → filter p (filter b xs) ≡ filter b (filter p (filter a xs))
same_among p a b within [] = refl
same_among p a b within (x ∷ xs) = go (b x) (a x) (p x) refl refl refl (same_among p a b within xs)
  where
    rest : List ℕ
    rest = filter p (filter a xs)

    go : (u v w : Bool) → b x ≡ u → a x ≡ v → p x ≡ w → filter p (filter b xs) ≡ filter b rest
        → filter p (if u then x ∷ filter b xs else filter b xs) ≡ filter b (filter p (if v then x ∷ filter a xs else filter a xs))
    go true true true is there here more =
        ap (λ c. if c then x ∷ filter p (filter b xs) else filter p (filter b xs)) here ∙ ap (λ l. x ∷ l) more
        ∙ sym (ap (λ c. filter b (if c then x ∷ rest else rest)) here ∙ ap (λ c. if c then x ∷ filter b rest else filter b rest) is)
    go true true false is there here more =
        ap (λ c. if c then x ∷ filter p (filter b xs) else filter p (filter b xs)) here ∙ more
        ∙ sym (ap (λ c. filter b (if c then x ∷ rest else rest)) here)
    go true false w is there here more = absurd (false≢true (sym there ∙ within x is))
    go false true true is there here more =
        more ∙ sym (ap (λ c. filter b (if c then x ∷ rest else rest)) here ∙ ap (λ c. if c then x ∷ filter b rest else filter b rest) is)
    go false true false is there here more = more ∙ sym (ap (λ c. filter b (if c then x ∷ rest else rest)) here)
    go false false w is there here more = more

of_data : (p : Program) (rs : List Recorded) (event : ℕ) (by_data : Bool) (on : ℕ → Bool)
    → filter on (up_to event (data_closure (owners p) rs event))
    ≡ filter (data_closure (owners p) rs event) (filter on (if by_data then up_to event (data_closure (owners p) rs event) else up_to event (closure (owners p) rs event)))
of_data p rs event true on = let d = data_closure (owners p) rs event in same_among on d d (λ j is. is) (range_with_len 0 (suc event))
of_data p rs event false on = same_among on (closure (owners p) rs event) (data_closure (owners p) rs event) (data_within (owners p) rs event) (range_with_len 0 (suc event))

-- ---- groups

group_below : (at : Places) (all flow : List ℕ) (count : ℕ) → Rises 0 count all → All (λ g. g.last < count) (groups at all flow)
group_below at all flow count rises = λ k d lt.
    let ends = last_ones at all in
    let inside : k < length ends = omega (arith, lt, length-map ends (group_of at all flow)) in
    let is = ap (λ (g : Group). g.last) (get_or-map (group_of at all flow) ends k 0 d inside) in
    omega (arith, is, below_end k 0 count ends 0 (rises_still (λ n. is_last (on_line at (at n) all) n) 0 count all rises) inside)

group_inside : (at : Places) (all flow : List ℕ) (many : ℕ) → ((n : ℕ) → at n < many) → All (λ g. g.line < many) (groups at all flow)
group_inside at all flow many inside = λ k d lt.
    let ends = last_ones at all in
    let there : k < length ends = omega (arith, lt, length-map ends (group_of at all flow)) in
    let is = ap (λ (g : Group). g.line) (get_or-map (group_of at all flow) ends k 0 d there) in
    omega (arith, is, inside (get_or ends k 0))

pub can_be_shown : (lines : List ℕ) (rs : List Recorded) (source all flow : List ℕ) (fold : Fold) (count : ℕ) → IsFold lines rs source all flow fold → Rises 0 count all → CanBeShown count fold
can_be_shown lines rs source all flow fold count is rises =
    let at = line_at lines rs in
    record {
      there = subst (All (λ g. g.last < count)) (sym is.found) (group_below at all flow count rises);
      in_all = subst (All (λ g. g.line < length fold.all.rows.items)) (sym is.found) (group_inside at all flow (length fold.all.rows.items) is.tabled.inside);
      in_flow = subst (All (λ g. g.line < length fold.flow.rows.items)) (sym is.found) (group_inside at all flow (length fold.flow.rows.items) is.data_tabled.inside);
      rises = λ k. subst (Rises 0 count) (sym (is.tabled.each k ∙ ap (on_line at k) is.events)) (rises_still (λ n. nat_eq (at n) k) 0 count all rises);
    }

-- ---- what is shown

abbrev pub no_group : Group
no_group = record { line = 0; last = 0; count = 0; of_data = false }

-- the groups so far, and the row of the next with the lines of its events
pub one_more_told : (p : Program) (lines : List ℕ) (rs : List Recorded) (by_data : Numbers) (here : ℕ → List ℕ) (is_open : Bool) (texts now : List (List ℕ)) (items found : List Group) (i : ℕ) (before row after : List ℕ)
    → items ≡ found → now ≡ texts → i < length items → row ≡ before ++ row_text p lines now rs (get_or items i no_group)
    → after ≡ row ++ opened_text p lines rs by_data is_open (here (get_or items i no_group).line)
    → before ≡ flat_map (group_text p lines texts rs by_data here is_open) (take i found)
    → after ≡ flat_map (group_text p lines texts rs by_data here is_open) (take (i + 1) found)
one_more_told p lines rs by_data here is_open texts now items found i before row after same shown lt put opened so =
    let g = get_or items i no_group in
    let row_is : row ≡ before ++ row_text p lines texts rs g = put ∙ ap (λ ts. before ++ row_text p lines ts rs g) shown in
    let all = joined before row after (row_text p lines texts rs g) (opened_text p lines rs by_data is_open (here g.line)) row_is opened in
    one_line (group_text p lines texts rs by_data here is_open) found i no_group before after (subst (λ gs. i < length gs) same lt) so
    (all ∙ ap (λ gs. before ++ group_text p lines texts rs by_data here is_open (get_or gs i no_group)) same)

-- the groups, by the lists that the definition has
pub folded_told : (p : Program) (lines source : List ℕ) (rs : List Recorded) (event : ℕ) (showing : Showing) (fold : Fold) (text out : List ℕ)
    → IsFold lines rs source (shown_events p rs event showing) (up_to event (data_closure (owners p) rs event)) fold
    → ((by_data : Numbers) → AreOfData by_data fold → text ≡ flat_map (group_text p lines (map (λ l. l.now) fold.lines.items) rs by_data (row_of fold.all) showing.is_open) fold.groups.items)
    → out ≡ text ++ count_line showing (length fold.all.events.now) (length fold.groups.items)
    → out ≡ show_text p lines source rs event showing
unfolding show_text
folded_told p lines source rs event showing fold text out is told out_is =
    let at = line_at lines rs in
    let d = data_closure (owners p) rs event in
    let all = shown_events p rs event showing in
    let flow = up_to event d in
    let rows : (k : ℕ) → row_of fold.all k ≡ on_line at k all = λ k. is.tabled.each k ∙ ap (on_line at k) is.events in
    let ours : AreOfData d fold = λ k. is.data_tabled.each k ∙ ap (on_line at k) is.data_events ∙ of_data p rs event showing.by_data (λ n. nat_eq (at n) k) ∙ ap (filter d) (sym (rows k)) in
    let lines_is = is.texts in
    let groups_is = is.found in
    let opening = showing.is_open in
    let texts : text ≡ flat_map (group_text p lines (source_lines source) rs d (λ k. on_line at k all) opening) (groups at all flow) =
    told d ours
    ∙ ap (λ ls. flat_map (group_text p lines ls rs d (row_of fold.all) opening) fold.groups.items) lines_is
    ∙ ap (λ h. flat_map (group_text p lines (source_lines source) rs d h opening) fold.groups.items) (fun_ext rows)
    ∙ ap (flat_map (group_text p lines (source_lines source) rs d (λ k. on_line at k all) opening)) groups_is in
    out_is
    ∙ ap (λ t. t ++ count_line showing (length fold.all.events.now) (length fold.groups.items)) texts
    ∙ ap (λ l. flat_map (group_text p lines (source_lines source) rs d (λ k. on_line at k all) opening) (groups at all flow) ++ count_line showing (length l) (length fold.groups.items)) is.events
    ∙ ap (λ gs. flat_map (group_text p lines (source_lines source) rs d (λ k. on_line at k all) opening) (groups at all flow) ++ count_line showing (length all) (length gs)) groups_is

-- the lists of an answer are those
pub answer_folded : (p : Program) (lines source : List ℕ) (rs : List Recorded) (event : ℕ) (showing : Showing) (index : Index) (all flow : List ℕ) (fold : Fold) → ((f : ℕ) → owners_of index f ≡ owners p f)
    → all ≡ up_to event (closure (owners_of index) rs event) → flow ≡ up_to event (data_closure (owners_of index) rs event)
    → IsFold lines rs source (if showing.by_data then flow else all) flow fold
    → IsFold lines rs source (shown_events p rs event showing) (up_to event (data_closure (owners p) rs event)) fold
answer_folded p lines source rs event showing index all flow fold same all_is flow_is is =
    let owned = fun_ext same in
    let of_all : all ≡ up_to event (closure (owners p) rs event) = all_is ∙ ap (λ o. up_to event (closure o rs event)) owned in
    let of_flow : flow ≡ up_to event (data_closure (owners p) rs event) = flow_is ∙ ap (λ o. up_to event (data_closure o rs event)) owned in
    let picked : (if showing.by_data then flow else all) ≡ shown_events p rs event showing =
    ap (λ l. if showing.by_data then l else all) of_flow ∙ ap (λ l. if showing.by_data then up_to event (data_closure (owners p) rs event) else l) of_all in
    subst (λ l. IsFold lines rs source (shown_events p rs event showing) l fold) of_flow (subst (λ l. IsFold lines rs source l flow fold) picked is)
