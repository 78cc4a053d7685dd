-- A block that closes.
use Rattle.std.proofs.Common.{◌≡◌, ◌∙◌, ap, sym, ℕ, ◌-◌, Bool, List, [], ◌∷◌, ◌++◌, length, take, get_or, refl, length-append, arith}
use Rattle.std.specs.Prelude.{slice_index_or}
use Rattle.std.proofs.Math.Seq.{take-append_seam, get_or-append_seam}
use Rattle.wy_constant.specs.Scope.{Scope, Variable, FixedText, closed}

plain : ℕ → Bool → List Variable → List ℕ → ℕ → List FixedText → Scope
plain class has_this variables blocks next texts = record { class = class; has_this = has_this; variables = variables; blocks = blocks; next = next; texts = texts }

before_last : (front : List ℕ) (x : ℕ) → length (front ++ x ∷ []) - 1 ≡ length front
before_last front x = ap (λ n. n - 1) (length-append front (x ∷ [])) ∙ omega arith

front_of : (all front : List ℕ) (x : ℕ) → all ≡ front ++ x ∷ [] → take (length all - 1) all ≡ front
front_of all front x e = ap (λ z. take (length z - 1) z) e ∙ ap (λ n. take n (front ++ x ∷ [])) (before_last front x) ∙ take-append_seam front (x ∷ [])

last_of : (all front : List ℕ) (x d : ℕ) → all ≡ front ++ x ∷ [] → get_or all (length all - 1) d ≡ x
last_of all front x d e = ap (λ z. get_or z (length z - 1) d) e ∙ ap (λ n. get_or (front ++ x ∷ []) n d) (before_last front x) ∙ get_or-append_seam front x [] d

pub close_goes : (class : ℕ) (has_this : Bool) (all left : List Variable) (old new : List ℕ) (x next : ℕ) (texts : List FixedText) (now : Scope) →
    old ≡ new ++ x ∷ [] → left ≡ take x all →
    record { class = class; has_this = has_this; variables = all; blocks = old; next = next; texts = texts } ≡ now →
    record { class = class; has_this = has_this; variables = left; blocks = new; next = next; texts = texts } ≡ closed now
unfolding closed plain
close_goes class has_this all left old new x next texts now e is view =
    let kept : left ≡ take (slice_index_or old (length old - 1) (length all)) all = is ∙ ap (λ n. take n all) (sym (last_of old new x (length all) e)) in
    ap (λ z. plain class has_this z new next texts) kept
    ∙ ap (λ z. plain class has_this (take (slice_index_or old (length old - 1) (length all)) all) z next texts) (sym (front_of old new x e))
    ∙ ap closed view

whole : (xs : List Variable) → take (length xs) xs ≡ xs
whole [] = refl
whole (x ∷ xs) = ap (λ z. x ∷ z) (whole xs)

pub close_stays : (class : ℕ) (has_this : Bool) (all : List Variable) (old new : List ℕ) (next : ℕ) (texts : List FixedText) (now : Scope) →
    old ≡ [] → new ≡ [] →
    record { class = class; has_this = has_this; variables = all; blocks = old; next = next; texts = texts } ≡ now →
    record { class = class; has_this = has_this; variables = all; blocks = new; next = next; texts = texts } ≡ closed now
unfolding closed plain
close_stays class has_this all old new next texts now e f view =
    ap (λ z. plain class has_this all z next texts) f
    ∙ ap (λ z. plain class has_this z [] next texts) (sym (whole all))
    ∙ sym (ap (λ z. closed (plain class has_this all z next texts)) e)
    ∙ ap closed view
