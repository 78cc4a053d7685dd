-- Members of lists of numbers, and of lists that rise.
use Rattle.std.proofs.Common.{◌≡◌, ◌⊎◌, inl, inr, ◌+◌, ◌-◌, ◌<◌, ◌≤◌, ℕ, zero, suc, Bool, true, false, cond, List, [], ◌∷◌, ◌++◌, length, map, get_or, refl, sym, ap, ap₂, ◌∙◌, subst, ⊎_elim, add-one, arith}
use Rattle.std.specs.Prelude.{Contains, filter}
use Rattle.std.specs.List.{range_with_len}
use Rattle.std.proofs.lemmas.Bool.{false≢true, cases_eq}
use Rattle.wy_why.specs.Answer.{Rises, up_to}
use Rattle.wy_why.proofs.Closures.{Among}
use Rattle.wy_why.proofs.Ends.{range_rises}

pub among_of : (ws : List ℕ) (w : ℕ) → Contains ws w → Among w ws
among_of [] w has = absurd (omega (arith, has.1))
among_of (v ∷ ws) w (zero, lt, is) = inl (sym is)
among_of (v ∷ ws) w (suc k, lt, is) = inr (among_of ws w (k, omega (arith, lt), is))

pub of_among : (ws : List ℕ) (w : ℕ) → Among w ws → Contains ws w
of_among [] w at = absurd at
of_among (v ∷ ws) w (inl e) = (0, omega arith, sym e)
of_among (v ∷ ws) w (inr at) = let rest = of_among ws w at in (suc rest.0, omega (arith, rest.1), rest.2)

module _ {A B : Type 0} (f : A → B) where
  pub from_map : (xs : List A) (y : B) → Contains (map f xs) y → (x : A) × Contains xs x × (f x ≡ y)
  from_map [] y has = absurd (omega (arith, has.1))
  from_map (a ∷ xs) y (zero, lt, is) = (a, (0, omega arith, refl), is)
  from_map (a ∷ xs) y (suc k, lt, is) =
      let rest = from_map xs y (k, omega (arith, lt), is) in
      (rest.0, (suc rest.1.0, omega (arith, rest.1.1), rest.1.2), rest.2)

-- ---- lists that rise

pub risen : (low high : ℕ) (ns : List ℕ) (j : ℕ) → Rises low high ns → Among j ns → (low ≤ j) × (j < high)
risen low high [] j up at = absurd at
risen low high (n ∷ ns) j up (inl e) = (omega (arith, up.0, e), omega (arith, up.1, e))
risen low high (n ∷ ns) j up (inr at) = let rest = risen (suc n) high ns j up.2 at in (omega (arith, up.0, rest.0), rest.1)

pub few_rise : (low high : ℕ) (ns : List ℕ) → Rises low high ns → low ≤ high → low + length ns ≤ high
few_rise low high [] up le = omega (arith, le)
few_rise low high (n ∷ ns) up le = let rest = few_rise (suc n) high ns up.2 (omega (arith, up.1)) in omega (arith, rest, up.0)

pub rises_at : (low high : ℕ) (ns : List ℕ) (i d : ℕ) → Rises low high ns → i < length ns → get_or ns i d < high
rises_at low high [] i d up lt = absurd (omega (arith, lt))
rises_at low high (n ∷ ns) zero d up lt = up.1
rises_at low high (n ∷ ns) (suc i) d up lt = rises_at (suc n) high ns i d up.2 (omega (arith, lt))

-- two of them with the same members are one
pub rising_same : (low high : ℕ) (xs ys : List ℕ) → Rises low high xs → Rises low high ys → ((j : ℕ) → Among j xs → Among j ys) → ((j : ℕ) → Among j ys → Among j xs) → xs ≡ ys
rising_same low high [] [] up vp there back = refl
rising_same low high [] (y ∷ ys) up vp there back = absurd (back y (inl refl))
rising_same low high (x ∷ xs) [] up vp there back = absurd (there x (inl refl))
rising_same low high (x ∷ xs) (y ∷ ys) up vp there back = ap₂ (λ a l. a ∷ l) same (rising_same (suc x) high xs ys up.2 (subst (λ a. Rises (suc a) high ys) (sym same) vp.2) (λ j at. tail j at (there j (inr at))) (λ j at. head j at (back j (inr at))))
  where
    first : (x ≡ y) ⊎ Among x ys → (y ≡ x) ⊎ Among y xs → x ≡ y
    first (inl e) other = e
    first (inr at) (inl e) = sym e
    first (inr at) (inr other) = absurd (omega (arith, (risen (suc y) high ys x vp.2 at).0, (risen (suc x) high xs y up.2 other).0))

    same : x ≡ y
    same = first (there x (inl refl)) (back y (inl refl))

    tail : (j : ℕ) → Among j xs → (j ≡ y) ⊎ Among j ys → Among j ys
    tail j at (inl e) = absurd (omega (arith, (risen (suc x) high xs j up.2 at).0, e, same))
    tail j at (inr later) = later

    head : (j : ℕ) → Among j ys → (j ≡ x) ⊎ Among j xs → Among j xs
    head j at (inl e) = absurd (omega (arith, (risen (suc y) high ys j vp.2 at).0, e, same))
    head j at (inr later) = later

-- ---- numbers of a set

module _ (p : ℕ → Bool) where
  pub in_range : (low len j : ℕ) → low ≤ j → j < low + len → p j ≡ true → Among j (filter p (range_with_len low len))
  in_range low zero j le lt is = absurd (omega (arith, le, lt))
  in_range low (suc len) j le lt is = ⊎_elim
      (λ (e : j ≡ low). subst (λ b. Among j (cond b (low ∷ rest) rest)) (sym (ap p (sym e) ∙ is)) (inl e))
      (λ (apart : j ≡ low → ⊥). go (p low) (in_range (low + 1) len j (omega (arith, le, apart)) (omega (arith, lt)) is))
      (cases_eq j low)
    where
      rest : List ℕ
      rest = filter p (range_with_len (low + 1) len)

      go : (b : Bool) → Among j rest → Among j (cond b (low ∷ rest) rest)
      go true at = inr at
      go false at = at

  pub of_range : (low len j : ℕ) → Among j (filter p (range_with_len low len)) → (low ≤ j) × (j < low + len) × (p j ≡ true)
  of_range low zero j at = absurd at
  of_range low (suc len) j at = go (p low) refl (λ more. of_range (low + 1) len j more) at
    where
      rest : List ℕ
      rest = filter p (range_with_len (low + 1) len)

      go : (b : Bool) → p low ≡ b → (Among j rest → (low + 1 ≤ j) × (j < (low + 1) + len) × (p j ≡ true)) → Among j (cond b (low ∷ rest) rest) → (low ≤ j) × (j < low + suc len) × (p j ≡ true)
      go true is more (inl e) = (omega (arith, e), omega (arith, e), ap p e ∙ is)
      go true is more (inr later) = let h = more later in (omega (arith, h.0), omega (arith, h.1), h.2)
      go false is more later = let h = more later in (omega (arith, h.0), omega (arith, h.1), h.2)

  pub in_up_to : (n j : ℕ) → j ≤ n → p j ≡ true → Among j (up_to n p)
  in_up_to n j le is = in_range 0 (suc n) j (omega arith) (omega (arith, le)) is

  pub of_up_to : (n j : ℕ) → Among j (up_to n p) → (j ≤ n) × (p j ≡ true)
  of_up_to n j at = let h = of_range 0 (suc n) j at in (omega (arith, h.1), h.2)

  pub up_to_rises : (n high : ℕ) → n < high → Rises 0 high (up_to n p)
  up_to_rises n high lt = range_rises p 0 (suc n) high (omega (arith, lt))
