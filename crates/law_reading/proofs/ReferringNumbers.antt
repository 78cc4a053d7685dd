-- What is known of a number once it was read.
use Rattle.std.proofs.Common.{◌≡◌, ℕ, ◌<◌, ◌≤◌, Bool, true, false, cond, eqb, List, length, Option, Some, Result, Ok, Err, refl}
use Rattle.std.specs.Prelude.{None as Absent}
use Rattle.std.specs.Prelude.{IfOk, nat_lt, nat_le, slice_get}
use Rattle.std.specs.Int.{w32}
use Rattle.std.proofs.lemmas.Bool.{ltb-true, leb-true}
use Rattle.std.proofs.lemmas.Option.{slice_get_within}
use Rattle.wy_kernel.specs.View.{NONE, present}
use Rattle.wy_view.specs.References.{OptionBelow}
use Rattle.wy_payload.specs.declared.fault.DamageRule.{DamageRule}
use Rattle.wy_payload.specs.declared.known.Known.{Known}
use Rattle.wy_payload.specs.declared.known.Role.{Role}
use Rattle.wy_payload.specs.Rules.{Broken, in_range, refers_to, reference_rule, optional_rule}
use Rattle.wy_payload.specs.Reading.{◌>>=◌, Read, passed, number_at, reference_at, optional_at, below_at, at_most_at}

-- what is read, where it is read, has P
abbrev pub Has : {A : Type 0} → (A → Type 0) → Read A → Type 0
Has P read = IfOk read (λ x. P x.0)

-- a step of which nothing is asked
pub after : {A B : Type 0} (r : Result A DamageRule) (f : A → Result B DamageRule) (Q : B → Type 0) → ((x : A) → IfOk (f x) Q) → IfOk (r >>= f) Q
after (Ok x) f Q k = k x
after (Err d) f Q k = tt

pub whatever : {A : Type 0} (r : Result A DamageRule) → IfOk r (λ _. Unit {0})
whatever (Ok x) = tt
whatever (Err d) = tt

pub passed_has : {A : Type 0} (broken : Broken) (x : A) (P : A → Type 0) → (broken ≡ Absent → P x) → IfOk (passed broken x) P
passed_has Absent x P h = h refl
passed_has (Some r) x P h = tt

pub in_range_is : (b : Bool) → in_range b ≡ Absent → b ≡ true
in_range_is true e = refl
in_range_is false e = absurd cc

-- ---- numbers

within : (r : Role) (earlier : List Known) (n : ℕ) (o : Option Known) → slice_get earlier n ≡ o → refers_to r o ≡ Absent → n < length earlier
within r earlier n Absent is e = absurd cc
within r earlier n (Some k) is e = slice_get_within earlier n k is

reference_below : (r : Role) (earlier : List Known) (n : ℕ) → reference_rule r earlier n ≡ Absent → n < length earlier
unfolding reference_rule
reference_below r earlier n e = within r earlier n (slice_get earlier n) refl e

pub reference_has : (r : Role) (earlier : List Known) (bytes : List ℕ) → Has (λ n. n < length earlier) (reference_at r earlier bytes)
unfolding reference_at
reference_has r earlier bytes = after (number_at w32 bytes) _ _ (λ n. passed_has _ n _ (reference_below r earlier n.0))

optional_below : (r : Role) (earlier : List Known) (n : ℕ) → optional_rule r earlier n ≡ Absent → OptionBelow (length earlier) (present n)
unfolding optional_rule present
optional_below r earlier n e = by_test (eqb n NONE) e
  where
    by_test : (b : Bool) → cond b Absent (reference_rule r earlier n) ≡ Absent → OptionBelow (length earlier) (cond b Absent (Some n))
    by_test true e = tt
    by_test false e = reference_below r earlier n e

pub optional_has : (r : Role) (earlier : List Known) (bytes : List ℕ) → Has (λ n. OptionBelow (length earlier) (present n)) (optional_at r earlier bytes)
unfolding optional_at
optional_has r earlier bytes = after (number_at w32 bytes) _ _ (λ n. passed_has _ n _ (optional_below r earlier n.0))

pub below_has : (limit : ℕ) (bytes : List ℕ) → Has (λ n. n < limit) (below_at limit bytes)
unfolding below_at
below_has limit bytes = after (number_at w32 bytes) _ _ (λ n. passed_has _ n _ (λ ok. ltb-true n.0 limit (in_range_is (nat_lt n.0 limit) ok)))

pub at_most_has : (limit : ℕ) (bytes : List ℕ) → Has (λ n. n ≤ limit) (at_most_at limit bytes)
unfolding at_most_at
at_most_has limit bytes = after (number_at w32 bytes) _ _ (λ n. passed_has _ n _ (λ ok. leb-true n.0 limit (in_range_is (nat_le n.0 limit) ok)))
