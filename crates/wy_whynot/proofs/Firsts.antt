-- A first record that passes is there exactly if one passes.
use Rattle.std.proofs.Common.{◌≡◌, ◌∙◌, ℕ, suc, Bool, true, false, not, cond, List, [], ◌∷◌, Some, refl, ap}
use Rattle.std.specs.Prelude.{◌||◌, is_some, nat_eq}
use Rattle.std.specs.Prelude.{None as Absent}
use Rattle.std.specs.List.{list_any}
use Rattle.wy_event.specs.Record.{Recorded}
use Rattle.wy_kernel.specs.View.{NONE, present}
use Rattle.wy_index.specs.Found.{first_from}

first_is_any : (test : Recorded → Bool) (n : ℕ) (rs : List Recorded) → is_some (first_from test n rs) ≡ list_any test rs
first_is_any test n [] = refl
first_is_any test n (r ∷ rs) = by_test (test r) (first_is_any test (suc n) rs)
  where
    by_test : (b : Bool) → is_some (first_from test (suc n) rs) ≡ list_any test rs
        → is_some (cond b (Some n) (first_from test (suc n) rs)) ≡ (b || list_any test rs)
    by_test true e = refl
    by_test false e = e

present_number : (m : ℕ) → not (nat_eq m NONE) ≡ is_some (present m)
unfolding present
present_number m = by_test (nat_eq m NONE)
  where
    by_test : (b : Bool) → not b ≡ is_some (cond b Absent (Some m))
    by_test true = refl
    by_test false = refl

pub found_one : (test : Recorded → Bool) (rs : List Recorded) (m : ℕ) → present m ≡ first_from test 0 rs → not (nat_eq m NONE) ≡ list_any test rs
found_one test rs m e = present_number m ∙ ap is_some e ∙ first_is_any test 0 rs
