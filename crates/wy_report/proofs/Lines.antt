-- The rows of the source, line by line.
use Rattle.std.proofs.Common.{◌≡◌, ◌∙◌, ◌<◌, ◌≤◌, ◌+◌, ℕ, List, [], ◌++◌, length, get_or, drop, sym, ap, append_assoc, append-nil}
use Rattle.std.specs.List.{flat_map}
use Rattle.std.proofs.lemmas.List.{drop_all, drop_more}
use Rattle.std.proofs.lemmas.List.Concat.{flat_map-append}
use Rattle.wy_fold.specs.Places.{Places, stands_on}
use Rattle.wy_report.specs.declared.line.Mark.{Mark}
use Rattle.wy_report.specs.Page.{line_row, line_rows, mark_of}
use Rattle.wy_report.specs.Pieces.{written}

module _ (at : Places) (all flow : List ℕ) (lines : List (List ℕ)) (first : List ℕ) where
  abbrev rest : ℕ → List ℕ
  rest i = flat_map written (line_rows at all flow (i + 1) (drop i lines))

  abbrev row : ℕ → List ℕ → List ℕ
  row k text = flat_map written (line_row (mark_of (stands_on at k all) (stands_on at k flow)) k text)

  pub one_more_line : (i : ℕ) (mark : Mark) (x out more : List ℕ) → i < length lines → mark ≡ mark_of (stands_on at (i + 1) all) (stands_on at (i + 1) flow) → x ≡ get_or lines i []
      → more ≡ out ++ flat_map written (line_row mark (i + 1) x)
      → out ++ rest i ≡ first ++ flat_map written (line_rows at all flow 1 lines) → more ++ rest (i + 1) ≡ first ++ flat_map written (line_rows at all flow 1 lines)
  one_more_line i mark x out more lt marked here is so =
      let later = line_rows at all flow (i + 1 + 1) (drop (i + 1) lines) in
      let text = get_or lines i [] in
      ap (λ m. m ++ rest (i + 1)) (is ∙ ap (λ m. out ++ flat_map written (line_row m (i + 1) x)) marked) ∙ append_assoc out (row (i + 1) x) (rest (i + 1)) ∙ ap (λ l. out ++ (row (i + 1) l ++ rest (i + 1))) here
      ∙ ap (λ l. out ++ l) (sym (flat_map-append written (line_row (mark_of (stands_on at (i + 1) all) (stands_on at (i + 1) flow)) (i + 1) text) later)
      ∙ ap (λ ls. flat_map written (line_rows at all flow (i + 1) ls)) (sym (drop_more lines i [] lt)))
      ∙ so

  pub all_lines : (i : ℕ) (out : List ℕ) → length lines ≤ i → out ++ rest i ≡ first ++ flat_map written (line_rows at all flow 1 lines)
      → out ≡ first ++ flat_map written (line_rows at all flow 1 lines)
  all_lines i out end so =
      sym (append-nil out) ∙ ap (λ ls. out ++ flat_map written (line_rows at all flow (i + 1) ls)) (sym (drop_all i lines end)) ∙ so
