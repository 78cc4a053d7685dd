-- What ended a run is told of its records as the run tells it.
use Rattle.std.proofs.Common.{◌≡◌, ◌∙◌, refl, sym, ap, arith, ℕ, ◌≤◌, Bool, true, false, ◌==◌, List, length, inl, inr}
use Rattle.std.specs.Prelude.{Option, Some, option_map, option_and_then, slice_get, if◌then◌else◌}
use Rattle.std.specs.Prelude.{None as Absent}
use Rattle.std.proofs.lemmas.Bool.Decides.{nat_tests}
use Rattle.wy_tree.specs.Tokens.{token_limit}
use Rattle.wy_kernel.specs.Builtin as builtin
use Rattle.wy_kernel.specs.View.{NONE, present}
use Rattle.wy_event.specs.Record.{Recorded}
use Rattle.wy_meaning.specs.Run.{Thrown, thrown_in}
use Rattle.wy_telling.specs.Thrown.{class_thrown, throw_in, thrown_class, thrown_site}
use Rattle.law_in_range.specs.InRange.{IsSite}

some_present : (n : ℕ) (b : Bool) → (n == NONE) ≡ b → b ≡ false → present n ≡ Some n
unfolding present
some_present n b is other = ap (λ (x : Bool). if x then Absent else Some n) (is ∙ other)

-- no site stands for an absent one
site_present : (tokens site : ℕ) → tokens ≤ token_limit → IsSite tokens site → present site ≡ Some site
unfolding builtin.methods builtin.first_methods
site_present tokens site few (inl less) = some_present site (site == NONE) refl (grind (arith, nat_tests))
site_present tokens site few (inr (m, less, is)) = some_present site (site == NONE) refl (grind (arith, nat_tests))

module _ (rs : List Recorded) (tokens : ℕ) (few : tokens ≤ token_limit) (sited : (n : ℕ) (e : Recorded) → slice_get rs n ≡ Some e → IsSite tokens e.site) where
  class_of : (found : Option Recorded) → option_map (class_thrown rs) found ≡ (thrown_in rs found).class
  unfolding thrown_in
  class_of Absent = refl
  class_of (Some e) = refl

  pub same_class : (last : Option ℕ) → thrown_class rs last ≡ (thrown_in rs (option_and_then (slice_get rs) last)).class
  unfolding thrown_class
  same_class last = class_of (throw_in rs last)

  site_of : (found : Option Recorded) → ((e : Recorded) → found ≡ Some e → IsSite tokens e.site) → option_and_then (λ (e : Recorded). present e.site) found ≡ (thrown_in rs found).site
  unfolding thrown_in
  site_of Absent h = refl
  site_of (Some e) h = site_present tokens e.site few (h e refl)

  found_at : (last : Option ℕ) (e : Recorded) → throw_in rs last ≡ Some e → IsSite tokens e.site
  found_at Absent e is = absurd cc
  found_at (Some n) e is = sited n e is

  pub same_site : (last : Option ℕ) → thrown_site rs last ≡ (thrown_in rs (option_and_then (slice_get rs) last)).site
  unfolding thrown_site
  same_site last = site_of (throw_in rs last) (found_at last)
