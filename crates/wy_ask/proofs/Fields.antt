-- The first field that passes a test, and what stands at a number of a program.
use Rattle.std.proofs.Common.{◌≡◌, ℕ, zero, suc, ◌+◌, ◌-◌, ◌<◌, ◌≤◌, Bool, true, false, not, ◌||◌, nat_eq, sym, ap, ◌∙◌, List, ◌++◌, length, drop, get_or, Some, None, cond, add-one, drop-cons, arith, eq-eqb, ne_eqb}
use Rattle.std.proofs.Math.ListN.{drop_of_length-le}
use Rattle.std.specs.Prelude.{Option}
use Rattle.std.specs.List.{position_from}
use Rattle.std.specs.Str.{bytes_eq}
use Rattle.std.proofs.lemmas.Bool.{le-ltb, lt-ltb, false_from_ne_true}
use Rattle.std.proofs.lemmas.Option.{none-some}
use Rattle.std.proofs.lemmas.Slice.Eq.{bytes_eq-Decides}
use Rattle.wy_kernel.specs.Program.{Program, Field, class, field, full_name, is_source, is_above}
use Rattle.wy_ask.specs.Words.{library}
use Rattle.wy_ask.specs.Reading.{behind}
use Rattle.wy_ask.specs.Asked.{extends}
use Rattle.wy_ask.proofs.Fronts.{behind_there, behind_only}

here : {X : Type 0} (p : X → Bool) (xs : List X) (k : ℕ) (d : X) → k < length xs
    → position_from p k (drop k xs) ≡ cond (p (get_or xs k d)) (Some k) (position_from p (k + 1) (drop (k + 1) xs))
here p xs k d less =
    ap (position_from p k) (drop-cons xs k d less) ∙ ap (λ i. cond (p (get_or xs k d)) (Some k) (position_from p (k + 1) (drop i xs))) (sym (add-one k))

pub field_here : {X : Type 0} (p : X → Bool) (xs : List X) (k : ℕ) (d : X) (r : Option ℕ) → k < length xs → p (get_or xs k d) ≡ true →
    r ≡ position_from p k (drop k xs) → Some k ≡ r
field_here p xs k d r less passes e = sym (e ∙ here p xs k d less ∙ ap (λ b. cond b (Some k) (position_from p (k + 1) (drop (k + 1) xs))) passes)

pub field_further : {X : Type 0} (p : X → Bool) (xs : List X) (k : ℕ) (d : X) (r : Option ℕ) → k < length xs → p (get_or xs k d) ≡ false →
    r ≡ position_from p k (drop k xs) → r ≡ position_from p (k + 1) (drop (k + 1) xs)
field_further p xs k d r less fails e = e ∙ here p xs k d less ∙ ap (λ b. cond b (Some k) (position_from p (k + 1) (drop (k + 1) xs))) fails

pub field_nowhere : {X : Type 0} (p : X → Bool) (xs : List X) (k : ℕ) (r : Option ℕ) → length xs ≤ k → r ≡ position_from p k (drop k xs) → None ≡ r
field_nowhere p xs k r all e = sym (e ∙ ap (position_from p k) (drop_of_length-le xs all))

pub found_field : (p : Program) (test : Field → Bool) (n : ℕ) (r : Option ℕ) → n < length p.fields → test (field p n) ≡ true → r ≡ position_from test n (drop n p.fields) → Some n ≡ r
unfolding field
found_field p test n r less passes e = field_here test p.fields n _ r less passes e

pub passed_field : (p : Program) (test : Field → Bool) (n : ℕ) (r : Option ℕ) → n < length p.fields → test (field p n) ≡ false → r ≡ position_from test n (drop n p.fields)
    → r ≡ position_from test (n + 1) (drop (n + 1) p.fields)
unfolding field
passed_field p test n r less fails e = field_further test p.fields n _ r less fails e

-- ---- classes by their words

source_name : (p : Program) (n : ℕ) → 18 ≤ n → full_name p n ≡ (class p n).name
unfolding full_name is_source
source_name p n large = ap (λ b. cond (not b) (class p n).name (library ++ (class p n).name)) (le-ltb n 18 large)

library_name : (p : Program) (n : ℕ) → n < 18 → full_name p n ≡ library ++ (class p n).name
unfolding full_name is_source
library_name p n small = ap (λ b. cond (not b) (class p n).name (library ++ (class p n).name)) (lt-ltb n 18 small)

pub named_in_source : (p : Program) (n : ℕ) (name word : List ℕ) → name ≡ (class p n).name → 18 ≤ n → bytes_eq name word ≡ bytes_eq (full_name p n) word
named_in_source p n name word is large = ap (λ x. bytes_eq x word) (is ∙ sym (source_name p n large))

pub named_in_library : (p : Program) (n : ℕ) (name word rest : List ℕ) → name ≡ (class p n).name → n < 18 → behind library word ≡ Some rest
    → bytes_eq name rest ≡ bytes_eq (full_name p n) word
named_in_library p n name word rest is small e =
    sym (ap (λ x. bytes_eq x word) (library_name p n small ∙ ap (λ x. library ++ x) (sym is)) ∙ ap (bytes_eq (library ++ name)) (behind_only library word rest e))

pub not_in_library : (p : Program) (n : ℕ) (word : List ℕ) → n < 18 → behind library word ≡ None → false ≡ bytes_eq (full_name p n) word
not_in_library p n word small e =
    sym (false_from_ne_true (bytes_eq (full_name p n) word) (λ t.
    let same : library ++ (class p n).name ≡ word = sym (library_name p n small) ∙ (bytes_eq-Decides (full_name p n) word).0 t in
    none-some (class p n).name (sym e ∙ ap (behind library) (sym same) ∙ behind_there library (class p n).name)))

-- ---- a class and those above it

pub extends_here : (p : Program) (k at other : ℕ) → at ≡ other → extends p k at other ≡ true
unfolding extends
extends_here p zero at other e = eq-eqb at other e
extends_here p (suc k) at other e = ap (λ b. b || is_above (λ c. extends p k c other) (class p at).above) (eq-eqb at other e)

one_up : (p : Program) (k at other : ℕ) → (at ≡ other → ⊥) → extends p (suc k) at other ≡ is_above (λ c. extends p k c other) (class p at).above
unfolding extends
one_up p k at other apart = ap (λ b. b || is_above (λ c. extends p k c other) (class p at).above) (ne_eqb at other apart)

step : (end i : ℕ) → i < end → end - i ≡ suc (end - (i + 1))
step end i less = omega arith

pub extends_on : (p : Program) (end i at next other : ℕ) → i < end → (at ≡ other → ⊥) → (class p at).above ≡ Some next → extends p (end - i) at other ≡ extends p (end - (i + 1)) next other
unfolding is_above
extends_on p end i at next other less apart up =
    ap (λ k. extends p k at other) (step end i less) ∙ one_up p (end - (i + 1)) at other apart ∙ ap (is_above (λ c. extends p (end - (i + 1)) c other)) up

pub extends_top : (p : Program) (end i at other : ℕ) → i < end → (at ≡ other → ⊥) → (class p at).above ≡ None → extends p (end - i) at other ≡ false
unfolding is_above
extends_top p end i at other less apart up =
    ap (λ k. extends p k at other) (step end i less) ∙ one_up p (end - (i + 1)) at other apart ∙ ap (is_above (λ c. extends p (end - (i + 1)) c other)) up

pub extends_end : (p : Program) (end i at other : ℕ) → end ≤ i → extends p (end - i) at other ≡ nat_eq at other
unfolding extends
extends_end p end i at other done =
    let none : end - i ≡ zero = omega arith in
    ap (λ k. extends p k at other) none
