-- Laws of unions. Two sets of numbers are equal if they have the same members.
use Rattle.std.proofs.Common.{◌≡◌, ℕ, Bool, true, false, ◌||◌, ◌<◌, List, [], ◌∷◌, ◌++◌, refl, sym, ap, ap₂, ◌∙◌, nat_lt, cond, ltb-true, lt-ltb, ◌≤◌, arith}
use Rattle.std.specs.Prelude.{filter}
use mathlib.Core.Path.{fun_ext}
use mathlib.Core.Bool.{or_assoc}
use Rattle.wy_event.specs.Numbers.{Numbers, none, union, union_of}
use Rattle.law_carried.specs.Agreement.{AllBelow}

or-false : (b : Bool) → (b || false) ≡ b
or-false true = refl
or-false false = refl

or_self : (b : Bool) → (b || b) ≡ b
or_self true = refl
or_self false = refl

pub union_none : (a : Numbers) → union a none ≡ a
unfolding union none
union_none a = fun_ext (λ k. or-false (a k))

pub none_union : (a : Numbers) → union none a ≡ a
unfolding union none
none_union a = refl

pub union_assoc : (a b c : Numbers) → union (union a b) c ≡ union a (union b c)
unfolding union
union_assoc a b c = fun_ext (λ k. or_assoc (a k) (b k) (c k))

pub union_self : (a : Numbers) → union a a ≡ a
unfolding union
union_self a = fun_ext (λ k. or_self (a k))

or_again : (a b c : Bool) → ((a || (b || c)) || b) ≡ (a || (b || c))
or_again true b c = refl
or_again false true c = refl
or_again false false true = refl
or_again false false false = refl

-- what is in a union already adds nothing
pub union_absorbed : (a b c : Numbers) → union (union a (union b c)) c ≡ union a (union b c)
union_absorbed a b c = rw (union_assoc a (union b c) c, union_assoc b c c, union_self c)

pub union_again : (a b c : Numbers) → union (union a (union b c)) b ≡ union a (union b c)
unfolding union
union_again a b c = fun_ext (λ k. or_again (a k) (b k) (c k))

pub union_of-append : (f : ℕ → Numbers) (a b : List ℕ) → union_of f (a ++ b) ≡ union (union_of f a) (union_of f b)
unfolding union_of
union_of-append f [] b = sym (none_union (union_of f b))
union_of-append f (n ∷ a) b = ap (union (f n)) (union_of-append f a b) ∙ sym (union_assoc (f n) (union_of f a) (union_of f b))

pub union_of_one : (f : ℕ → Numbers) (n : ℕ) → union_of f (n ∷ []) ≡ f n
unfolding union_of
union_of_one f n = union_none (f n)

pub AllBelow-append : (n : ℕ) (a b : List ℕ) → AllBelow n a → AllBelow n b → AllBelow n (a ++ b)
AllBelow-append n [] b ha hb = hb
AllBelow-append n (w ∷ a) b ha hb = (ha.0, AllBelow-append n a b ha.1 hb)

-- a filter of the numbers below n
pub union_of_below : (n : ℕ) (f g : ℕ → Numbers) (ws : List ℕ) → ((w : ℕ) → w < n → f w ≡ g w) → union_of f (filter (λ w. nat_lt w n) ws) ≡ union_of g (filter (λ w. nat_lt w n) ws)
unfolding union_of
union_of_below n f g [] same = refl
union_of_below n f g (w ∷ ws) same = go (union_of_below n f g ws same) (nat_lt w n) refl
  where
    go : union_of f (filter (λ v. nat_lt v n) ws) ≡ union_of g (filter (λ v. nat_lt v n) ws) → (b : Bool) → nat_lt w n ≡ b → union_of f (cond b (w ∷ filter (λ v. nat_lt v n) ws) (filter (λ v. nat_lt v n) ws)) ≡ union_of g (cond b (w ∷ filter (λ v. nat_lt v n) ws) (filter (λ v. nat_lt v n) ws))
    go rest true e = ap₂ union (same w (ltb-true w n e)) rest
    go rest false e = rest

pub filter_all_below : (n : ℕ) (ws : List ℕ) → AllBelow n ws → filter (λ w. nat_lt w n) ws ≡ ws
filter_all_below n [] h = refl
filter_all_below n (w ∷ ws) h =
    let e = lt-ltb w n h.0 in
    rw e (ap (λ l. w ∷ l) (filter_all_below n ws h.1))

-- each number of the list is below n, also where n is larger
pub AllBelow_up : (m n : ℕ) (ws : List ℕ) → m ≤ n → AllBelow m ws → AllBelow n ws
AllBelow_up m n [] le h = tt
AllBelow_up m n (w ∷ ws) le h = (omega (arith, h.0), AllBelow_up m n ws le h.1)
