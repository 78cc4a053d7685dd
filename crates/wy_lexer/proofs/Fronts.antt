-- The longest front of a text that passes a test.
use Rattle.std.proofs.Common.{ℕ, zero, suc, ◌+◌, ◌<◌, ◌≤◌, ◌≡◌, Bool, true, false, ◌&&◌, List, [], ◌∷◌, length, take, cond, refl, ◌∙◌, ap, arith}
use Rattle.std.specs.List.{prefix_len, list_all}
use Rattle.wy_lexer.proofs.Ascii.{both_true}

pub len_on : (p : ℕ → Bool) (b : ℕ) (s : List ℕ) → p b ≡ true → prefix_len p (b ∷ s) ≡ suc (prefix_len p s)
len_on p b s e = let f : 1 + prefix_len p s ≡ suc (prefix_len p s) = omega arith in ap (λ z. cond z (1 + prefix_len p s) 0) e ∙ f

pub len_off : (p : ℕ → Bool) (b : ℕ) (s : List ℕ) → p b ≡ false → prefix_len p (b ∷ s) ≡ 0
len_off p b s e = ap (λ z. cond z (1 + prefix_len p s) 0) e

pub front_passes : (p : ℕ → Bool) (s : List ℕ) → list_all p (take (prefix_len p s) s) ≡ true
front_passes p [] = refl
front_passes p (b ∷ s) = by (p b) refl (front_passes p s)
  where
    by : (v : Bool) → p b ≡ v → list_all p (take (prefix_len p s) s) ≡ true → list_all p (take (prefix_len p (b ∷ s)) (b ∷ s)) ≡ true
    by true e more = ap (λ z. list_all p (take z (b ∷ s))) (len_on p b s e) ∙ both_true (p b) (list_all p (take (prefix_len p s) s)) e more
    by false e more = ap (λ z. list_all p (take z (b ∷ s))) (len_off p b s e)

pub longer_fails : (p : ℕ → Bool) (s : List ℕ) (m : ℕ) → prefix_len p s < m → m ≤ length s → list_all p (take m s) ≡ false
longer_fails p [] m lt le = absurd (omega arith)
longer_fails p (b ∷ s) zero lt le = absurd (omega arith)
longer_fails p (b ∷ s) (suc m) lt le = by (p b) refl (λ less. longer_fails p s m less (omega (arith, le)))
  where
    by : (v : Bool) → p b ≡ v → (prefix_len p s < m → list_all p (take m s) ≡ false) → p b && list_all p (take m s) ≡ false
    by true e more = let f = len_on p b s e in ap (λ z. z && list_all p (take m s)) e ∙ more (omega (arith, f, lt))
    by false e more = ap (λ z. z && list_all p (take m s)) e
