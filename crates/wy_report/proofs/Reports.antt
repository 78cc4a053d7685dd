-- The page of an answer, part by part.
use Rattle.std.proofs.Common.{◌≡◌, ◌∙◌, ℕ, suc, Bool, true, false, List, [], ◌∷◌, ◌++◌, length, refl, sym, ap, subst, arith}
use Rattle.std.proofs.Math.Path.{fun_ext}
use Rattle.std.specs.Prelude.{filter, if◌then◌else◌}
use Rattle.std.specs.List.{flat_map, range_with_len}
use Rattle.std.proofs.lemmas.Bool.{false≢true}
use Rattle.std.proofs.lemmas.List.{take_all}
use Rattle.wy_kernel.specs.Program.{Program}
use Rattle.wy_event.specs.Numbers.{Numbers}
use Rattle.wy_event.specs.Record.{Recorded}
use Rattle.wy_event.specs.Sources.{Owners, closure, data_closure}
use Rattle.wy_ask.specs.Asked.{owners}
use Rattle.wy_why.specs.Answer.{up_to}
use Rattle.wy_telling.proofs.Answering.{data_within}
use Rattle.wy_fold.specs.Places.{line_at}
use Rattle.wy_fold.specs.SourceLines.{source_lines}
use Rattle.wy_report.specs.Page.{AreEntries, IsReport, answer_part, event_text, head_part, line_rows, source_part}
use Rattle.wy_report.specs.Pieces.{Piece, Markup, written}
use Rattle.wy_report.specs.Rows.{PutsRows}
use Rattle.wy_report.specs.Template.{between, closing}
use Rattle.wy_report.proofs.Written.{both_put}

-- to take those of a smaller set is to take them from those of a greater
filter_within : (a b : Numbers) → ((j : ℕ) → b j ≡ true → a j ≡ true) → (xs : List ℕ) → filter b xs ≡ filter b (filter a xs)
filter_within a b within [] = refl
filter_within a b within (x ∷ xs) = go (b x) (a x) refl refl (filter_within a b within xs)
  where
    go : (u v : Bool) → b x ≡ u → a x ≡ v → filter b xs ≡ filter b (filter a xs) → (if u then x ∷ filter b xs else filter b xs) ≡ filter b (if v then x ∷ filter a xs else filter a xs)
    go true true is there rest = ap (λ l. x ∷ l) rest ∙ sym (ap (λ c. if c then x ∷ filter b (filter a xs) else filter b (filter a xs)) is)
    go true false is there rest = absurd (false≢true (sym there ∙ within x is))
    go false true is there rest = rest ∙ sym (ap (λ c. if c then x ∷ filter b (filter a xs) else filter b (filter a xs)) is)
    go false false is there rest = rest

-- the data of an answer are some of it
of_the_data : (owner : Owners) (rs : List Recorded) (event : ℕ) (all flow : List ℕ) → all ≡ up_to event (closure owner rs event) → flow ≡ up_to event (data_closure owner rs event)
    → flow ≡ filter (data_closure owner rs event) all
of_the_data owner rs event all flow all_is flow_is =
    let by_data = data_closure owner rs event in
    flow_is ∙ filter_within (closure owner rs event) by_data (data_within owner rs event) (range_with_len 0 (suc event)) ∙ ap (filter by_data) (sym all_is)

module _ (p : Program) (lines source : List ℕ) (rs : List Recorded) (event : ℕ) where
  -- the parts, one put behind another, where the owners are those of the program
  parts_told : (start a b d e f : List ℕ) → start ≡ [] → a ≡ start ++ flat_map written (head_part (event_text p lines rs event false))
      → b ≡ a ++ flat_map written (source_part p lines source rs event) → d ≡ b ++ flat_map written (Markup between ∷ [])
      → PutsRows p lines (owners p) rs (data_closure (owners p) rs event) (length (source_lines source)) d e (up_to event (closure (owners p) rs event)) (length (up_to event (closure (owners p) rs event)))
      → f ≡ e ++ flat_map written (Markup closing ∷ []) → IsReport p lines source rs event f
  parts_told start a b d e f none in_head in_lines in_between rows in_end =
      let all = up_to event (closure (owners p) rs event) in
      let head = head_part (event_text p lines rs event false) in
      let source_rows = source_part p lines source rs event in
      let middle : List Piece = Markup between ∷ [] in
      let answer = answer_part p lines source rs event rows.entries in
      let end : List Piece = Markup closing ∷ [] in
      let are : AreEntries (owners p) rs event rows.entries = record { events = rows.listed ∙ take_all (length all) all (omega arith); sources = rows.said } in (
        rows.entries,
        are,
        both_put written start a f head (source_rows ++ (middle ++ (answer ++ end))) in_head
            (both_put written a b f source_rows (middle ++ (answer ++ end)) in_lines
            (both_put written b d f middle (answer ++ end) in_between
            (both_put written d e f answer end rows.text in_end)))
            ∙ ap (λ s. s ++ flat_map written (head ++ (source_rows ++ (middle ++ (answer ++ end))))) none,
      )

  -- the same of the owners, events and lines that were found
  pub page_told : (owner : Owners) (all flow : List ℕ) (texts : List (List ℕ)) (many : ℕ) (start a b d e f : List ℕ)
      → ((g : ℕ) → owner g ≡ owners p g) → all ≡ up_to event (closure owner rs event) → flow ≡ up_to event (data_closure owner rs event) → texts ≡ source_lines source → many ≡ length texts → start ≡ []
      → a ≡ start ++ flat_map written (head_part (event_text p lines rs event false)) → b ≡ a ++ flat_map written (line_rows (line_at lines rs) all flow 1 texts) → d ≡ b ++ flat_map written (Markup between ∷ [])
      → ((by_data : Numbers) → flow ≡ filter by_data all → PutsRows p lines owner rs by_data many d e all (length all)) → f ≡ e ++ flat_map written (Markup closing ∷ []) → IsReport p lines source rs event f
  page_told owner all flow texts many start a b d e f same all_is flow_is split count none in_head in_lines in_between rows in_end =
      let at = line_at lines rs in
      let owned : owner ≡ owners p = fun_ext same in
      let of_all : all ≡ up_to event (closure (owners p) rs event) = all_is ∙ ap (λ o. up_to event (closure o rs event)) owned in
      let of_flow : flow ≡ up_to event (data_closure (owners p) rs event) = flow_is ∙ ap (λ o. up_to event (data_closure o rs event)) owned in
      let the_source : line_rows at all flow 1 texts ≡ source_part p lines source rs event =
      ap (λ x. line_rows at x flow 1 texts) of_all ∙ ap (λ x. line_rows at (up_to event (closure (owners p) rs event)) x 1 texts) of_flow
      ∙ ap (λ x. line_rows at (up_to event (closure (owners p) rs event)) (up_to event (data_closure (owners p) rs event)) 1 x) split in
      let by_data = data_closure (owners p) rs event in
      let found : PutsRows p lines owner rs by_data many d e all (length all) = rows by_data (of_the_data (owners p) rs event all flow of_all of_flow) in
      let owned_rows : PutsRows p lines (owners p) rs by_data many d e all (length all) = subst (λ o. PutsRows p lines o rs by_data many d e all (length all)) owned found in
      let of_lines : PutsRows p lines (owners p) rs by_data (length (source_lines source)) d e all (length all) =
      subst (λ n. PutsRows p lines (owners p) rs by_data n d e all (length all)) (count ∙ ap length split) owned_rows in
      parts_told start a b d e f none in_head (in_lines ∙ ap (λ ps. a ++ flat_map written ps) the_source) in_between
      (subst (λ l. PutsRows p lines (owners p) rs by_data (length (source_lines source)) d e l (length l)) of_all of_lines) in_end
