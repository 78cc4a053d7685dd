-- The statements that print and never began.
use Rattle.std.proofs.Common.{◌≡◌, ℕ, Bool, true, false, List, [], ◌∷◌}
use Rattle.std.specs.Prelude.{nat_le, if◌then◌else◌}
use Rattle.std.specs.List.{All, filter}
use Rattle.std.proofs.lemmas.List.Elements.{All-cons, All-filter, All-head, All-nil, All-tail, filter_passes}
use Rattle.wy_kernel.specs.Order.{in_order, inserted}
use Rattle.wy_kernel.specs.Program.{Program}
use Rattle.wy_kernel.specs.Statements.{statements_of}
use Rattle.wy_event.specs.declared.record.Cover.{Cover}
use Rattle.wy_ask.specs.declared.never.PlacedStatement.{PlacedStatement}
use Rattle.wy_ask.specs.Listing.{never_began, places_in}
use Rattle.wy_expect.specs.Printers.{prints, unprinted}

module _ {X : Type 0} (P : X → Type 0) (key : X → ℕ) where
  all_inserted : (x : X) (ys : List X) → P x → All P ys → All P (inserted key x ys)
  all_inserted x [] one all = All-cons P x [] one (All-nil P)
  all_inserted x (y ∷ rest) one all = by_test (nat_le (key x) (key y)) (all_inserted x rest one (All-tail P y rest all))
    where
      by_test : (b : Bool) → All P (inserted key x rest) → All P (if b then x ∷ y ∷ rest else y ∷ inserted key x rest)
      by_test true later = All-cons P x (y ∷ rest) one all
      by_test false later = All-cons P y (inserted key x rest) (All-head P y rest all) later

  all_in_order : (xs : List X) → All P xs → All P (in_order key xs)
  all_in_order [] all = All-nil P
  all_in_order (x ∷ rest) all = all_inserted x (in_order key rest) (All-head P x rest all) (all_in_order rest (All-tail P x rest all))

-- each of them never began
pub never_begun : (p : Program) (lines : List ℕ) (covers : List Cover) → All (λ s. never_began covers s ≡ true) (unprinted p lines covers)
never_begun p lines covers =
    let never = λ (s : PlacedStatement). never_began covers s ≡ true in
    let found = filter (never_began covers) (places_in lines (statements_of p)) in
    All-filter (λ s. prints p s.statement.number) never (in_order (λ s. s.statement.site) found)
    (all_in_order never (λ s. s.statement.site) found (filter_passes (never_began covers) (places_in lines (statements_of p))))
