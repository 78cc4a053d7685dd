-- A number that is read stands as its bytes.
use Rattle.std.proofs.Common.{subst, append_assoc, ◌≡◌, ℕ, ◌+◌, ◌≤◌, Bool, true, false, cond, ltb, List, ◌++◌, length, take, drop, Some, Result, Ok, Err, refl, sym, ap, ◌∙◌, arith, inl, inr}
use Rattle.std.specs.Prelude.{None as Absent}
use Rattle.std.specs.Prelude.{nat_le}
use Rattle.std.specs.Int.{w32, from_be_bytes}
use Rattle.std.proofs.lemmas.Bool.{cases_lt, ltb-false}
use Rattle.std.proofs.lemmas.List.{take-append-drop, length-take, get_or-drop, get_or-take, get_or_past}
use Rattle.std.proofs.lemmas.Nat.{be_bytes_4}
use Rattle.wy_spelling.specs.Spelling.{number}
use Rattle.wy_payload.specs.declared.fault.DamageRule.{DamageRule}
use Rattle.wy_payload.specs.declared.fault.DamageRule.TheVariants as rule
use Rattle.wy_payload.specs.Rules.{Broken, in_range}
use Rattle.wy_payload.specs.Reading.{◌>>=◌, passed, number_at, at_most_at, block_at}
use Rattle.law_reading.specs.Spelled.{AreBytes}

pub bytes_behind : (n : ℕ) (bytes : List ℕ) → AreBytes bytes → AreBytes (drop n bytes)
bytes_behind n bytes h i = rw get_or-drop (h (n + i))

pub bytes_before : (n : ℕ) (bytes : List ℕ) → AreBytes bytes → AreBytes (take n bytes)
bytes_before n bytes h i =
    elim (cases_lt i n) [
      | inl lt ↦ rw (get_or-take n bytes i 0 lt) (h i)
      | inr le ↦ rw (get_or_past (take n bytes) i 0 (omega (arith, length-take n bytes))) (omega arith)
    ]

-- what a step read, where the whole did not fail
pub read_then : {A B : Type 0} (r : Result A DamageRule) (f : A → Result B DamageRule) (y : B) → (r >>= f) ≡ Ok y → (x : A) × (r ≡ Ok x) × (f x ≡ Ok y)
read_then (Ok x) f y e = (x, refl, e)
read_then (Err d) f y e = absurd cc

pub guarded : {A : Type 0} (b : Bool) (d : DamageRule) (x y : A) → cond b (Err d) (Ok x) ≡ Ok y → (b ≡ false) × (x ≡ y)
guarded true d x y e = absurd cc
guarded false d x y e = (refl, cc)

pub passing : {A : Type 0} (broken : Broken) (x y : A) → passed broken x ≡ Ok y → x ≡ y
passing Absent x y e = cc
passing (Some r) x y e = absurd cc

-- a field and the bytes behind it
pub record Spelled (bytes text rest : List ℕ) : Type 0 where
  pub parts : bytes ≡ text ++ rest
  pub rest_bytes : AreBytes rest

pub number_spelled : (bytes : List ℕ) (x : ℕ × List ℕ) → AreBytes bytes → number_at w32 bytes ≡ Ok x → Spelled bytes (number x.0) x.1
number_spelled bytes x are e =
    let g = guarded (ltb (length bytes) 4) rule.Length (from_be_bytes w32 (take 4 bytes), drop 4 bytes) x e in
    let long : 4 ≤ length bytes = ltb-false _ _ g.0 in
    let n-is : from_be_bytes w32 (take 4 bytes) ≡ x.0 = ap (λ (p : ℕ × List ℕ). p.0) g.1 in
    let rest-is : drop 4 bytes ≡ x.1 = ap (λ (p : ℕ × List ℕ). p.1) g.1 in
    let front : number x.0 ≡ take 4 bytes = be_bytes_4 (take 4 bytes) x.0 (omega (arith, length-take 4 bytes)) (bytes_before 4 bytes are) (sym n-is) in
    record { parts = sym (take-append-drop 4 bytes) ∙ ap (λ l. take 4 bytes ++ l) rest-is ∙ ap (λ l. l ++ x.1) (sym front); rest_bytes = subst (λ (l : List ℕ). AreBytes l) rest-is (bytes_behind 4 bytes are) }

pub at_most_spelled : (limit : ℕ) (bytes : List ℕ) (x : ℕ × List ℕ) → AreBytes bytes → at_most_at limit bytes ≡ Ok x → Spelled bytes (number x.0) x.1
unfolding at_most_at
at_most_spelled limit bytes x are e =
    let b = read_then (number_at w32 bytes) (λ n. passed (in_range (nat_le n.0 limit)) n) x e in
    let s = number_spelled bytes b.0 are b.1 in
    let same = passing (in_range (nat_le b.0.0 limit)) b.0 x b.2 in
    subst (λ (y : ℕ × List ℕ). Spelled bytes (number y.0) y.1) same s

pub block_spelled : (limit : ℕ) (bytes : List ℕ) (x : List ℕ × List ℕ) → AreBytes bytes → block_at limit bytes ≡ Ok x → Spelled bytes (number (length x.0) ++ x.0) x.1
unfolding block_at
block_spelled limit bytes x are e =
    let b = read_then (at_most_at limit bytes) (λ n. cond (ltb (length n.1) n.0) (Err rule.Length) (Ok (take n.0 n.1, drop n.0 n.1))) x e in
    let n = b.0 in
    let s = at_most_spelled limit bytes n are b.1 in
    let g = guarded (ltb (length n.1) n.0) rule.Length (take n.0 n.1, drop n.0 n.1) x b.2 in
    let long : n.0 ≤ length n.1 = ltb-false _ _ g.0 in
    let front-is : take n.0 n.1 ≡ x.0 = ap (λ (p : List ℕ × List ℕ). p.0) g.1 in
    let rest-is : drop n.0 n.1 ≡ x.1 = ap (λ (p : List ℕ × List ℕ). p.1) g.1 in
    let taken : n.0 ≡ length (take n.0 n.1) = omega (arith, length-take n.0 n.1) in
    let len : n.0 ≡ length x.0 = taken ∙ ap length front-is in
    record {
      parts = s.parts ∙ ap (λ l. number n.0 ++ l) (sym (take-append-drop n.0 n.1)) ∙ ap (λ l. number n.0 ++ (l ++ drop n.0 n.1)) front-is ∙ ap (λ l. number n.0 ++ (x.0 ++ l)) rest-is ∙ sym (append_assoc (number n.0) x.0 x.1) ∙ ap (λ k. (number k ++ x.0) ++ x.1) len;
      rest_bytes = subst (λ (l : List ℕ). AreBytes l) rest-is (bytes_behind n.0 n.1 s.rest_bytes);
    }

pub one_after : (a x b y c : List ℕ) → Spelled a x b → Spelled b y c → Spelled a (x ++ y) c
one_after a x b y c p q = record { parts = p.parts ∙ ap (λ l. x ++ l) q.parts ∙ sym (append_assoc x y c); rest_bytes = q.rest_bytes }
