-- The active entries as they lie in memory, the statements that have begun, and the marks of scopes.
use Rattle.std.proofs.Common.{◌≡◌, ◌≢◌, ◌<◌, ◌≤◌, ℕ, ◌+◌, Bool, true, false, List, [], ◌∷◌, ◌++◌, length, take, get_or, reverse, Some, refl, sym, ap, ◌∙◌, subst, arith, inl, inr}
use mathlib.Core.Bool.{true≢false}
use mathlib.Core.List.{reverse-cons, append-nil}
use Rattle.std.specs.Prelude.{None as Absent}
use Rattle.std.specs.Prelude.{◌&&◌, nat_eq, nat_lt, if◌then◌else◌}
use Rattle.std.specs.Option.{IsSomeAnd}
use Rattle.std.specs.List.{All, filter}
use Rattle.std.proofs.lemmas.Bool.Decides.{eqb_tells}
use Rattle.std.proofs.lemmas.List.Elements.{All-nil, All-cons, All-head, All-tail, filter-append}
use Rattle.std.proofs.lemmas.List.{get_or-take, take-take, length-append, length-take}
use Rattle.std.proofs.Math.Seq.{take-append_seam}
use Rattle.wy_calls.specs.declared.parts.Reach.{Reach}
use Rattle.wy_calls.specs.declared.parts.Reach.TheVariants.{Around, Through}
use Rattle.wy_calls.specs.declared.parts.Entry.{Entry}
use Rattle.wy_calls.specs.declared.parts.Begun.{Begun}
use Rattle.wy_calls.specs.Layout.{ends_with, is_of, is_innermost, mark_in, without, Ascends, Sits, IsAtMost, IsBelow, IsUnder, Rises, Falls, active_in, scopes_in}

-- ---- statements that have begun

abbrev pub AreOlder : List Begun → ℕ → Type 0
AreOlder [] frame = Unit {0}
AreOlder (o ∷ os) frame = o.frame < frame

older : (os : List Begun) (m n : ℕ) → m < n → IsAtMost os m → AreOlder os n
older [] m n lt h = tt
older (o ∷ os) m n lt h = omega (arith, h, lt)

other_frame : (m n : ℕ) → m < n → nat_eq m n ≡ false
other_frame m n lt = elim (eqb_tells m n) as (λ _. nat_eq m n ≡ false) [ inl a ↦ absurd (omega (arith, a.1)) | inr b ↦ b.0 ]

pub none_is_older : (os : List Begun) (frame statement : ℕ) → AreOlder os frame → Rises os → mark_in os frame statement ≡ Absent
none_is_older [] frame statement lt h = refl
none_is_older (o ∷ os) frame statement lt h = rw (other_frame o.frame frame lt) (none_is_older os frame statement (older os o.frame frame lt h.0) h.1)

pub same_both : (f s g t : ℕ) → (nat_eq f g && nat_eq s t) ≡ true → (f ≡ g) × (s ≡ t)
same_both f s g t is = elim (eqb_tells f g) as (λ _. (f ≡ g) × (s ≡ t)) [
  | inl a ↦ elim (eqb_tells s t) as (λ _. (f ≡ g) × (s ≡ t)) [
    | inl b ↦ (a.1, b.1)
    | inr b ↦ absurd (true≢false (sym is ∙ rw (a.0, b.0) refl))
  ]
  | inr a ↦ absurd (true≢false (sym is ∙ rw a.0 refl))
]

same_alike : (f s g t : ℕ) → (f ≡ g) × (s ≡ t) → (nat_eq f g && nat_eq s t) ≡ true
same_alike f s g t is = elim (eqb_tells f g) as (λ _. (nat_eq f g && nat_eq s t) ≡ true) [
  | inl a ↦ elim (eqb_tells s t) as (λ _. (nat_eq f g && nat_eq s t) ≡ true) [ inl b ↦ rw (a.0, b.0) refl | inr b ↦ absurd (b.1 is.1) ]
  | inr a ↦ absurd (a.1 is.0)
]

-- one more has begun, which none reaches through
pub sits_more : (o : Begun) (os : List Begun) (n : ℕ) (r : Reach) → mark_in os o.frame o.statement ≡ Absent → Sits os n r → Sits (o ∷ os) n r
sits_more o os n Around none h = tt
sits_more o os n (Through f s) none h = one (is_of o f s) refl
  where
    one : (b : Bool) → is_of o f s ≡ b → IsSomeAnd (if b then Some o.mark else mark_in os f s) (λ m. m ≤ n)
    one false is = h
    one true is =
        let same = same_both o.frame o.statement f s is in
        absurd (subst (λ x. IsSomeAnd x (λ m. m ≤ n)) (ap (λ g. mark_in os g s) (sym same.0) ∙ ap (λ t. mark_in os o.frame t) (sym same.1) ∙ none) h)

-- what outlasts a statement doesn't need it
pub sits_without : (os : List Begun) (f s n : ℕ) (r : Reach) → ends_with f s r ≡ false → Sits os n r → Sits (without os f s) n r
sits_without [] f s n r other h = h
sits_without (o ∷ os) f s n r other h = one (is_of o f s) refl
  where
    two : (r : Reach) → is_of o f s ≡ true → ends_with f s r ≡ false → Sits (o ∷ os) n r → Sits os n r
    two Around is other h = tt
    two (Through g t) is other h =
        let same = same_both o.frame o.statement f s is in
        let apart : is_of o g t ≡ false = ap (λ x. nat_eq x g && nat_eq o.statement t) same.0 ∙ ap (λ x. nat_eq f g && nat_eq x t) same.1 ∙ other in
        rw apart at h

    one : (b : Bool) → is_of o f s ≡ b → Sits (if b then os else o ∷ os) n r
    one false is = h
    one true is = two r is other h

-- what is below the mark of a statement outlasts it
pub outlasts_below : (os : List Begun) (f s mark n : ℕ) (r : Reach) → mark_in os f s ≡ Some mark → n < mark → Sits os n r → ends_with f s r ≡ false
outlasts_below os f s mark n Around is lt h = refl
outlasts_below os f s mark n (Through g t) is lt h = one (nat_eq f g && nat_eq s t) refl
  where
    one : (b : Bool) → (nat_eq f g && nat_eq s t) ≡ b → b ≡ false
    one false at = refl
    one true at =
        let same = same_both f s g t at in
        let le : mark ≤ n = subst (λ x. IsSomeAnd x (λ m. m ≤ n)) (ap (λ x. mark_in os x t) (sym same.0) ∙ ap (λ x. mark_in os f x) (sym same.1) ∙ is) h in
        absurd (omega (arith, le, lt))

at_most_rest : (o : Begun) (os : List Begun) (n : ℕ) → IsAtMost os o.frame → o.frame ≤ n → IsAtMost os n
at_most_rest o [] n h le = tt
at_most_rest o (p ∷ os) n h le = omega (arith, h, le)

pub rises_without : (os : List Begun) (f s : ℕ) → Rises os → Rises (without os f s)
rises_without [] f s h = tt
rises_without (o ∷ os) f s h = one (is_of o f s)
  where
    one : (b : Bool) → Rises (if b then os else o ∷ os)
    one true = h.1
    one false = h

pub popped : (os : List Begun) (o : Begun) (rest : List Begun) (f s : ℕ) → os ≡ o ∷ rest → is_innermost os f s ≡ true → rest ≡ without os f s
popped os o rest f s is at = let here : is_of o f s ≡ true = ap (λ xs. is_innermost xs f s) (sym is) ∙ at in rw (is, here) refl

pub kept_all : (os : List Begun) (f s : ℕ) → is_innermost os f s ≡ false → os ≡ without os f s
kept_all [] f s at = refl
kept_all (o ∷ os) f s at = rw at refl

-- ---- filters

pub filter_keeps : {X : Type 0} (p : X → Bool) (xs : List X) → All (λ x. p x ≡ true) xs → filter p xs ≡ xs
filter_keeps p [] h = refl
filter_keeps p (x ∷ xs) h = rw (All-head (λ x. p x ≡ true) x xs h) (ap (λ ys. x ∷ ys) (filter_keeps p xs (All-tail (λ x. p x ≡ true) x xs h)))

pub filter_passes : {X : Type 0} (p : X → Bool) (xs : List X) → All (λ x. p x ≡ true) (filter p xs)
filter_passes p [] = All-nil (λ x. p x ≡ true)
filter_passes p (x ∷ xs) = one (p x) refl (filter_passes p xs)
  where
    one : (b : Bool) → p x ≡ b → All (λ x. p x ≡ true) (filter p xs) → All (λ x. p x ≡ true) (filter p (x ∷ xs))
    one true is rest = rw is (All-cons (λ x. p x ≡ true) x (filter p xs) is rest)
    one false is rest = rw is rest

pub All-both : {X : Type 0} (P Q R : X → Type 0) → ((x : X) → P x → Q x → R x) → (xs : List X) → All P xs → All Q xs → All R xs
All-both P Q R f xs h k = λ i d lt. f _ (h i d lt) (k i d lt)

pub filter_of_reverse : {X : Type 0} (p : X → Bool) (xs : List X) → filter p (reverse xs) ≡ reverse (filter p xs)
filter_of_reverse p [] = refl
filter_of_reverse p (x ∷ xs) = rw (reverse-cons x xs, filter-append p (reverse xs) (x ∷ []), filter_of_reverse p xs) (one (p x) refl)
  where
    one : (b : Bool) → p x ≡ b → (reverse (filter p xs) ++ filter p (x ∷ [])) ≡ reverse (filter p (x ∷ xs))
    one true is = rw (is, reverse-cons x (filter p xs)) refl
    one false is = rw is (append-nil (reverse (filter p xs)))

-- ---- entries that ascend

last_of : (xs : List Entry) (x d : Entry) → get_or (xs ++ x ∷ []) (length xs) d ≡ x
last_of [] x d = refl
last_of (y ∷ ys) x d = last_of ys x d

pub all_below : (es old : List Entry) (newest : Entry) (n : ℕ) → es ≡ old ++ newest ∷ [] → Ascends es → newest.number < n → All (λ e. IsBelow e n) es
all_below es old newest n is h lt = λ k d below.
    let long : length es ≡ length old + 1 = ap length is ∙ length-append old (newest ∷ []) in
    let at : get_or es (length old) d ≡ newest = ap (λ xs. get_or xs (length old) d) is ∙ last_of old newest d in
    let top : (get_or es (length old) d).number < n = subst (λ (e : Entry). e.number < n) (sym at) lt in
    elim (eqb_tells k (length old)) as (λ _. (get_or es k d).number < n) [
      | inl a ↦ subst (λ j. (get_or es j d).number < n) (sym a.1) top
      | inr b ↦ (let ne : k ≢ length old = b.1 in let less : (get_or es k d).number < (get_or es (length old) d).number = h k (length old) d (omega arith) (omega arith) in omega (arith, less, top))
    ]

pub ascends_taken : (n : ℕ) (es : List Entry) → Ascends es → Ascends (take n es)
ascends_taken n es h = λ i j d lt inside.
    let low : j < n = omega (arith, inside, length-take n es) in
    let there : j < length es = omega (arith, inside, length-take n es) in
    rw (get_or-take n es i d (omega (arith, lt, low)), get_or-take n es j d low) (h i j d lt there)

-- the front of a list whose last element is taken away
front_is : (es old : List Entry) (newest : Entry) → es ≡ old ++ newest ∷ [] → take (length old) es ≡ old
front_is es old newest is = ap (take (length old)) is ∙ take-append_seam old (newest ∷ [])

pub front_of : (all es old : List Entry) (newest : Entry) → es ≡ old ++ newest ∷ [] → es ≡ take (length es) all → old ≡ take (length old) all
front_of all es old newest is front =
    let le : length old ≤ length es = omega (arith, length-append old (newest ∷ []), ap length is) in
    sym (front_is es old newest is) ∙ ap (take (length old)) front ∙ take-take (length old) (length es) all le

pub ascends_front : (es old : List Entry) (newest : Entry) → es ≡ old ++ newest ∷ [] → Ascends es → Ascends old
ascends_front es old newest is h = subst Ascends (front_is es old newest is) (ascends_taken (length old) es h)

pub is_less : (m n : ℕ) → nat_lt m n ≡ true → m < n
is_less m n is = grind (arith, is)

-- ---- marks of scopes

pub raised : (ns : List ℕ) (m n : ℕ) → m ≤ n → Falls ns m → Falls ns n
raised [] m n le h = tt
raised (k ∷ ns) m n le h = (omega (arith, h.0, le), h.1)

pub under : (ns : List ℕ) (m n : ℕ) → IsUnder ns m → Falls ns n → Falls ns m
under [] m n le h = tt
under (k ∷ ns) m n le h = (le, h.1)

pub scopes_stay : (es fs : List Entry) (ns : List ℕ) (bound : ℕ) → Falls ns bound → take bound es ≡ take bound fs → scopes_in es ns ≡ scopes_in fs ns
scopes_stay es fs [] bound h is = refl
scopes_stay es fs (n ∷ ns) bound h is =
    let here : take n es ≡ take n fs = sym (take-take n bound es h.0) ∙ ap (take n) is ∙ take-take n bound fs h.0 in
    (λ i. active_in (here i) ∷ scopes_stay es fs ns n h.1 here i)
