-- Where each class stands behind those that it extends and implements, all are judged.
use Rattle.std.proofs.Common.{◌≡◌, ℕ, zero, suc, ◌+◌, ◌<◌, ◌≤◌, Bool, true, false, ◌&&◌, List, [], ◌∷◌, length, Some, get_or, refl, sym, ◌∙◌, ap, nat_lt, ltb-true, arith}
use Rattle.std.specs.Prelude.{slice_get}
use Rattle.std.specs.List.{Contains, list_all}
use Rattle.wy_kernel.specs.Program.{Class}
use Rattle.wy_kernel.specs.Subtyping.{direct_supertypes, named_above, Supertype, itself, further}
use Rattle.wy_members.specs.Declarations.{CompilationUnit, table}
use Rattle.wy_members.specs.Broken.{IsAboveItself, IsJudged}

-- those of the list, which begins with class n, stand behind what is above them
abbrev pub in_order : ℕ → List Class → Bool
in_order n [] = true
in_order n (k ∷ rest) = list_all (λ d. nat_lt d n) (named_above (Some k)) && in_order (suc n) rest

first : (a b : Bool) → a && b ≡ true → a ≡ true
first true b e = refl
first false b e = absurd (cc)

second : (a b : Bool) → a && b ≡ true → b ≡ true
second true b e = e
second false b e = absurd (cc)

none_named : {A : Type 0} (d : ℕ) → Contains [] d → A
none_named d (k, lt, e) = absurd (omega arith)

passes : (test : ℕ → Bool) (xs : List ℕ) (k d : ℕ) → list_all test xs ≡ true → k < length xs → get_or xs k d ≡ d → test d ≡ true
passes test [] k d all lt is = absurd (omega arith)
passes test (x ∷ xs) zero d all lt is = ap test (sym is) ∙ first (test x) (list_all test xs) all
passes test (x ∷ xs) (suc k) d all lt is = passes test xs k d (second (test x) (list_all test xs) all) (omega arith) is

behind : (n : ℕ) (classes : List Class) (c d : ℕ) → in_order n classes ≡ true → Contains (named_above (slice_get classes c)) d → d < n + c
behind n [] c d order h = none_named d h
behind n (k ∷ rest) zero d order (i, lt, is) =
    let less : d < n = ltb-true d n (passes (λ x. nat_lt x n) (named_above (Some k)) i d (first (list_all (λ x. nat_lt x n) (named_above (Some k))) (in_order (suc n) rest) order) lt is) in omega arith
behind n (k ∷ rest) (suc c) d order h = let less : d < suc n + c = behind (suc n) rest c d (second (list_all (λ x. nat_lt x n) (named_above (Some k))) (in_order (suc n) rest) order) h in omega arith

lesser : (classes : List Class) (c d : ℕ) → in_order 0 classes ≡ true → Contains (direct_supertypes classes c) d → d < c
unfolding direct_supertypes
lesser classes c d order h = let less : d < 0 + c = behind 0 classes c d order h in omega arith

pub not_above : (classes : List Class) → in_order 0 classes ≡ true → {c d : ℕ} → Supertype classes c d → d ≤ c
not_above classes order itself = omega arith
not_above classes order (further {c} {d} {e} h s) = let lt : d < c = lesser classes c d order h in let le : e ≤ d = not_above classes order s in omega arith

never_above_itself : (classes : List Class) (c : ℕ) → in_order 0 classes ≡ true → IsAboveItself classes c → ⊥
never_above_itself classes c order (d, h, s) = let lt : d < c = lesser classes c d order h in let le : c ≤ d = not_above classes order s in omega arith

pub judged : (unit : CompilationUnit) (c : ℕ) → in_order 0 (table unit).classes ≡ true → IsJudged unit c
judged unit c order d s = never_above_itself (table unit).classes d order
