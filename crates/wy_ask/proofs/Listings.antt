-- What is listed, one part behind another.
use Rattle.std.proofs.Common.{◌≡◌, ◌∙◌, ℕ, suc, ◌+◌, ◌<◌, ◌≤◌, Bool, true, false, List, [], ◌∷◌, ◌++◌, length, sym, ap, ap₂, append_assoc, length-append, arith}
use Rattle.std.specs.Prelude.{All}
use Rattle.std.specs.List.{enumerate_from}
use Rattle.std.proofs.lemmas.List.Elements.{All-append, All-cons, All-head, All-map, All-nil, All-same, All-tail}
use Rattle.wy_kernel.specs.Program.{Program}
use Rattle.wy_kernel.specs.Statements.{statements_of}
use Rattle.wy_event.specs.declared.record.Cover.{Cover}
use Rattle.wy_event.specs.Record.{Recorded}
use Rattle.wy_index.specs.Found.{gathered, is_print, one_if, print_of, prints_in}
use Rattle.wy_ask.specs.declared.asking.Listed.{Listed}
use Rattle.wy_ask.specs.declared.asking.Listed.TheVariants.{Printed, Never}
use Rattle.wy_ask.specs.declared.never.PlacedStatement.{PlacedStatement}
use Rattle.wy_ask.specs.Listing.{IsListedBelow, field_sets, listing, never, printed, stored_by, unbegun_in}

pub all_parts : (p : Program) (lines : List ℕ) (rs : List Recorded) (covers : List Cover) (first second third : List Listed) (prints : List ℕ) (count : ℕ) (unbegun : List PlacedStatement)
    → first ≡ printed prints → second ≡ first ++ stored_by (field_sets rs) count → third ≡ second ++ never unbegun → prints ≡ prints_in rs → length rs ≡ count → unbegun ≡ unbegun_in lines (statements_of p) covers
    → third ≡ listing p lines rs covers
unfolding listing
all_parts p lines rs covers first second third prints count unbegun a b c prints_is all unbegun_is =
    c ∙ ap (λ l. l ++ never unbegun) (b ∙ ap₂ (λ (l : List Listed) (n : ℕ). l ++ stored_by (field_sets rs) n) (a ∙ ap printed prints_is) (sym all))
    ∙ append_assoc (printed (prints_in rs)) (stored_by (field_sets rs) (length rs)) (never unbegun)
    ∙ ap (λ (l : List PlacedStatement). printed (prints_in rs) ++ (stored_by (field_sets rs) (length rs) ++ never l)) unbegun_is

-- ---- below the end

module _ (n : ℕ) where
  enumerated_below : (k : ℕ) (xs : List ℕ) → All (λ e. e < n) xs → All (λ (x : ℕ × ℕ). x.1 < n) (enumerate_from k xs)
  enumerated_below k [] all = All-nil (λ (x : ℕ × ℕ). x.1 < n)
  enumerated_below k (x ∷ xs) all = All-cons (λ (y : ℕ × ℕ). y.1 < n) (k, x) (enumerate_from (k + 1) xs) (All-head (λ e. e < n) x xs all) (enumerated_below (k + 1) xs (All-tail (λ e. e < n) x xs all))

  printed_below : (xs : List ℕ) → All (λ e. e < n) xs → All (IsListedBelow n) (printed xs)
  printed_below xs all = All-map (IsListedBelow n) (λ (x : ℕ × ℕ). Printed x.0 x.1) (enumerate_from 0 xs) (enumerated_below 0 xs all)

  never_below : (all : List PlacedStatement) → All (IsListedBelow n) (never all)
  never_below all = All-map (IsListedBelow n) (λ s. Never s.statement.line s.place) all (λ k d lt. tt)

  pub first_below : (listed : List Listed) (xs : List ℕ) → listed ≡ printed xs → All (λ e. e < n) xs → All (IsListedBelow n) listed
  first_below listed xs is all = All-same (IsListedBelow n) listed (printed xs) is (printed_below xs all)

  pub last_below : (listed new : List Listed) (unbegun : List PlacedStatement) → new ≡ listed ++ never unbegun → All (IsListedBelow n) listed → All (IsListedBelow n) new
  last_below listed new unbegun is all = All-same (IsListedBelow n) new (listed ++ never unbegun) is (All-append (IsListedBelow n) listed (never unbegun) all (never_below unbegun))

-- ---- prints

few_if : (b : Bool) (n : ℕ) → length (one_if b n) ≤ 1
few_if true n = omega arith
few_if false n = omega arith

few_from : (n : ℕ) (rs : List Recorded) → length (gathered print_of n rs) ≤ length rs
few_from n [] = omega arith
few_from n (r ∷ rs) = omega (arith, length-append (print_of n r) (gathered print_of (suc n) rs), few_if (is_print r.kind) n, few_from (suc n) rs)

pub few_prints : (rs : List Recorded) (prints : List ℕ) (count : ℕ) → prints ≡ prints_in rs → length rs ≡ count → length prints ≤ count
few_prints rs prints count is all = omega (arith, ap length is, few_from 0 rs, all)

below_from : (n end : ℕ) (rs : List Recorded) → n + length rs ≤ end → All (λ e. e < end) (gathered print_of n rs)
below_from n end [] le = All-nil (λ e. e < end)
below_from n end (r ∷ rs) le = go (is_print r.kind) (below_from (suc n) end rs (omega (arith, le)))
  where
    go : (b : Bool) → All (λ e. e < end) (gathered print_of (suc n) rs) → All (λ e. e < end) (one_if b n ++ gathered print_of (suc n) rs)
    go true more = All-cons (λ e. e < end) n (gathered print_of (suc n) rs) (omega (arith, le)) more
    go false more = more

pub prints_below : (rs : List Recorded) (prints : List ℕ) (count : ℕ) → prints ≡ prints_in rs → length rs ≡ count → All (λ e. e < count) prints
prints_below rs prints count is all = All-same (λ e. e < count) prints (prints_in rs) is (below_from 0 count rs (omega (arith, all)))
