-- Going through two runs, one event of each after another.
use Rattle.std.proofs.Common.{◌≡◌, ◌≢◌, ◌∙◌, ◌<◌, ◌≤◌, ◌+◌, ◌↔◌, ◌⊎◌, inl, inr, ⊎_elim, ℕ, zero, suc, min, Bool, true, false, IsTrue, List, [], ◌∷◌, length, map, get_or, Option, Some, refl, sym, ap, subst, arith}
use Rattle.std.specs.Prelude.{None as Absent}
use Rattle.std.specs.Prelude.{option_map, slice_get}
use Rattle.std.proofs.lemmas.Bool.{cases_eq, cases_lt}
use Rattle.std.proofs.lemmas.Option.{slice_get-map, slice_get_past, slice_get_read}
use Rattle.wy_event.specs.declared.record.Event.{Event}
use Rattle.wy_event.specs.Record.{Recorded, recorded}
use Rattle.wy_compare.specs.declared.look.Look.{Look}
use Rattle.wy_compare.specs.Parting.{Parts, PartsAt, Same, SameAt}

abbrev pub SameBelow : Look → List Event → List Event → ℕ → Type 0
SameBelow look good bad n = (k : ℕ) → k < n → SameAt look (slice_get (map recorded good) k) (slice_get (map recorded bad) k)

there : (events : List Event) (n : ℕ) (e : Event) → n < length events → e ≡ get_or events n e → slice_get (map recorded events) n ≡ Some (recorded e)
there events n e lt is = slice_get-map recorded events n ∙ ap (option_map recorded) (slice_get_read events (length events) n e refl lt is)

gone : (events : List Event) (n : ℕ) → length events ≤ n → slice_get (map recorded events) n ≡ Absent
gone events n le = slice_get-map recorded events n ∙ ap (option_map recorded) (slice_get_past events n le)

some_there : (events : List Event) (n : ℕ) → n < length events → (e : Event) × (slice_get (map recorded events) n ≡ Some (recorded e))
some_there [] n lt = absurd (omega (arith, lt))
some_there (e ∷ events) zero lt = (e, refl)
some_there (e ∷ events) (suc n) lt = some_there events n (omega (arith, lt))

at_both : (look : Look) (o q : Option Recorded) (a b : Recorded) → o ≡ Some a → q ≡ Some b → Same look a b → SameAt look o q
at_both look o q a b is so same = subst (λ x. SameAt look x q) (sym is) (subst (λ y. SameAt look (Some a) y) (sym so) same)

of_both : (look : Look) (o q : Option Recorded) (a b : Recorded) → o ≡ Some a → q ≡ Some b → SameAt look o q → Same look a b
of_both look o q a b is so same = subst (λ y. SameAt look (Some a) y) so (subst (λ x. SameAt look x q) is same)

module _ (look : Look) (good bad : List Event) where
  pub one_more : (n : ℕ) (a b : Event) (r : Bool) → n < length good → n < length bad → a ≡ get_or good n a → b ≡ get_or bad n b → IsTrue r ↔ Same look (recorded a) (recorded b) → r ≡ true
      → SameBelow look good bad n → SameBelow look good bad (n + 1)
  one_more n a b r in_good in_bad a_is b_is tells held below k lt = ⊎_elim
      (λ (here : k ≡ n). subst (λ j. SameAt look (slice_get (map recorded good) j) (slice_get (map recorded bad) j)) (sym here)
      (at_both look _ _ (recorded a) (recorded b) (there good n a in_good a_is) (there bad n b in_bad b_is) (tells.0 held)))
      (λ (apart : k ≡ n → ⊥). below k (omega (arith, lt, apart)))
      (cases_eq k n)

  pub parts_here : (n : ℕ) (a b : Event) (r : Bool) → n < length good → n < length bad → a ≡ get_or good n a → b ≡ get_or bad n b → IsTrue r ↔ Same look (recorded a) (recorded b) → (r ≡ true → ⊥)
      → SameBelow look good bad n → PartsAt look (map recorded good) (map recorded bad) n
  parts_here n a b r in_good in_bad a_is b_is tells fails below = record {
    before = below;
    here = λ same. fails (tells.1 (of_both look _ _ (recorded a) (recorded b) (there good n a in_good a_is) (there bad n b in_bad b_is) same));
  }

  pub never_parts : (n : ℕ) → length good ≤ n → length bad ≤ n → SameBelow look good bad n → Parts look (map recorded good) (map recorded bad) Absent
  never_parts n end_good end_bad below k = ⊎_elim
      (λ (lt : k < n). below k lt)
      (λ (ge : n ≤ k). subst (λ o. SameAt look o (slice_get (map recorded bad) k)) (sym (gone good k (omega (arith, ge, end_good))))
      (subst (λ o. SameAt look Absent o) (sym (gone bad k (omega (arith, ge, end_bad)))) tt))
      (cases_lt k n)

  only_good : (o q : Option Recorded) (a : Recorded) → o ≡ Some a → q ≡ Absent → SameAt look o q → ⊥
  only_good o q a is none same = subst (λ y. SameAt look (Some a) y) none (subst (λ x. SameAt look x q) is same)

  only_bad : (o q : Option Recorded) (b : Recorded) → o ≡ Absent → q ≡ Some b → SameAt look o q → ⊥
  only_bad o q b none is same = subst (λ y. SameAt look Absent y) is (subst (λ x. SameAt look x q) none same)

  -- one has ended, and the other has not
  pub parts_at_end : (n : ℕ) → n ≡ min (length good) (length bad) → (length good ≡ length bad → ⊥) → SameBelow look good bad n → PartsAt look (map recorded good) (map recorded bad) n
  parts_at_end n is apart below = record {
    before = below;
    here = λ same. ⊎_elim
        (λ (lt : n < length good). let some = some_there good n lt in only_good _ _ (recorded some.0) some.1 (gone bad n (omega (arith, is, lt))) same)
        (λ (ge : length good ≤ n). let some = some_there bad n (omega (arith, is, ge, apart)) in only_bad _ _ (recorded some.0) (gone good n ge) some.1 same)
        (cases_lt n (length good));
  }
