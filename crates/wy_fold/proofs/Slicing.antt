-- From an answer to the lines of the source on which it stands.
use Rattle.std.proofs.Common.{◌≡◌, ◌∙◌, ◌<◌, ◌≤◌, ◌+◌, ℕ, false, List, [], ◌∷◌, ◌++◌, length, get_or, drop, sym, ap, refl, append_assoc, arith}
use Rattle.std.proofs.Math.Path.{fun_ext}
use Rattle.std.specs.Prelude.{◌==◌, not}
use Rattle.std.proofs.lemmas.List.{append-nil, drop_all, drop_more, get_or_past, length-map}
use Rattle.std.specs.declared.vec.Vec.{Vec}
use Rattle.std.specs.declared.alloc.Global.{Global}
use Rattle.wy_kernel.specs.Program.{Program}
use Rattle.wy_event.specs.Record.{Recorded}
use Rattle.wy_event.specs.Sources.{closure, data_closure}
use Rattle.wy_index.specs.declared.index.Index.{Index}
use Rattle.wy_index.specs.Index.{owners_of}
use Rattle.wy_ask.specs.Asked.{owners}
use Rattle.wy_why.specs.Answer.{up_to}
use Rattle.wy_fold.specs.declared.table.Table.{Table}
use Rattle.wy_fold.specs.Groups.{IsTable, lists_of, row_of}
use Rattle.wy_fold.specs.Places.{Places, line_at, stands_on}
use Rattle.wy_fold.specs.Shown.{or_nothing, slice_text, sliced, sliced_line}
use Rattle.wy_fold.specs.SourceLines.{source_lines}
use Rattle.wy_fold.proofs.Grouping.{some_pass}
use Rattle.wy_fold.proofs.Tables.{row_read}

-- ---- whether one stands on a line

pub stands_there : (at : Places) (t : Table) (k : ℕ) (v : Vec ℕ Global) → IsTable at t → k < length t.rows.items → v ≡ get_or t.rows.items k v → not (length v.items == 0) ≡ stands_on at k t.events.now
stands_there at t k v is inside was =
    ap (λ xs. not (length xs == 0)) (row_read t k v inside was ∙ is.each k) ∙ sym (some_pass (λ n. at n == k) t.events.now)

pub stands_nowhere : (at : Places) (t : Table) (k : ℕ) → IsTable at t → length t.rows.items ≤ k → false ≡ stands_on at k t.events.now
stands_nowhere at t k is past =
    let none : row_of t k ≡ [] = get_or_past (lists_of t.rows.items) k [] (omega (arith, past, length-map t.rows.items (λ (v : Vec ℕ Global). v.items))) in
    ap (λ xs. not (length xs == 0)) (sym none ∙ is.each k) ∙ sym (some_pass (λ n. at n == k) t.events.now)

-- ---- line by line

pub one_more_line : (at : Places) (all flow : List ℕ) (lines : List (List ℕ)) (i : ℕ) (x text more : List ℕ) → i < length lines → x ≡ get_or lines i [] → more ≡ text ++ sliced_line at all flow (i + 1) x
    → text ++ sliced at all flow (i + 1) (drop i lines) ≡ sliced at all flow 1 lines
    → more ++ sliced at all flow (i + 1 + 1) (drop (i + 1) lines) ≡ sliced at all flow 1 lines
one_more_line at all flow lines i x text more lt here is so =
    let rest = sliced at all flow (i + 1 + 1) (drop (i + 1) lines) in
    ap (λ m. m ++ rest) is ∙ append_assoc text (sliced_line at all flow (i + 1) x) rest
    ∙ ap (λ l. text ++ (sliced_line at all flow (i + 1) l ++ rest)) here
    ∙ ap (λ ls. text ++ sliced at all flow (i + 1) ls) (sym (drop_more lines i [] lt)) ∙ so

pub all_lines : (at : Places) (all flow : List ℕ) (lines : List (List ℕ)) (i : ℕ) (text : List ℕ) → length lines ≤ i
    → text ++ sliced at all flow (i + 1) (drop i lines) ≡ sliced at all flow 1 lines → text ≡ sliced at all flow 1 lines
all_lines at all flow lines i text end so =
    sym (append-nil text) ∙ ap (λ ls. text ++ sliced at all flow (i + 1) ls) (sym (drop_all i lines end)) ∙ so

pub is_some : (text : List ℕ) → ¬ (length text ≡ 0) → text ≡ or_nothing text
is_some [] some = absurd (some refl)
is_some (b ∷ text) some = refl

-- ---- the lists of an answer

pub sliced_told : (p : Program) (lines source : List ℕ) (rs : List Recorded) (event : ℕ) (index : Index) (all flow all_events flow_events : List ℕ) (texts : List (List ℕ)) (text out : List ℕ)
    → ((f : ℕ) → owners_of index f ≡ owners p f) → all ≡ up_to event (closure (owners_of index) rs event) → flow ≡ up_to event (data_closure (owners_of index) rs event)
    → all_events ≡ all → flow_events ≡ flow → texts ≡ source_lines source
    → text ≡ sliced (line_at lines rs) all_events flow_events 1 texts → out ≡ or_nothing text → out ≡ slice_text p lines source rs event
unfolding slice_text
sliced_told p lines source rs event index all flow all_events flow_events texts text out same all_is flow_is listed flowing split told out_is =
    let owned = fun_ext same in
    let of_all : all_events ≡ up_to event (closure (owners p) rs event) = listed ∙ all_is ∙ ap (λ o. up_to event (closure o rs event)) owned in
    let of_flow : flow_events ≡ up_to event (data_closure (owners p) rs event) = flowing ∙ flow_is ∙ ap (λ o. up_to event (data_closure o rs event)) owned in
    out_is ∙ ap or_nothing (told ∙ ap (λ a. sliced (line_at lines rs) a flow_events 1 texts) of_all
    ∙ ap (λ f. sliced (line_at lines rs) (up_to event (closure (owners p) rs event)) f 1 texts) of_flow
    ∙ ap (sliced (line_at lines rs) (up_to event (closure (owners p) rs event)) (up_to event (data_closure (owners p) rs event)) 1) split)
