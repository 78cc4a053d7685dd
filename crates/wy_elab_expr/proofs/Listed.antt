-- A text among the texts: the texts with it, and its place there.
use Rattle.std.proofs.Common.{◌≡◌, ◌∙◌, ap, sym, ℕ, suc, ◌+◌, ◌<◌, ◌≤◌, Bool, true, false, min, List, [], ◌∷◌, ◌++◌, length, map, drop, get_or, set, cond, not, refl, eq-eqb, ◌&&◌, arith, add-one, drop-cons}
use Rattle.std.proofs.Math.ListN.{drop_of_length-le}
use Rattle.std.proofs.lemmas.List.{map-set, map-append, length-map, get_or-map}
use Rattle.std.specs.Prelude.{bytes_eq}
use Rattle.std.specs.List.{position_or_len}
use Rattle.wy_constant.specs.declared.variable.FixedText as memory
use Rattle.wy_constant.specs.Scope.{FixedText}
use Rattle.wy_constant.specs.Scopes.{text_of}
use Rattle.wy_elab_expr.specs.Meaning.{has_units, listed, text_number}

step : {X : Type 0} (p : X → Bool) (x : X) (xs : List X) (b : Bool) → p x ≡ b → position_or_len p (x ∷ xs) ≡ cond b 0 (1 + position_or_len p xs)
step p x xs true e = ap (λ b. cond (not b) (1 + position_or_len p xs) 0) e
step p x xs false e = ap (λ b. cond (not b) (1 + position_or_len p xs) 0) e

-- with its least token
lowered : FixedText → ℕ → FixedText
lowered t token = record t { token = min t.token token }

within_by : (b : Bool) (x : FixedText) (rest : List FixedText) (u : List ℕ) (t : ℕ) (d : FixedText) → has_units u x ≡ b → text_number (x ∷ rest) u < length (x ∷ rest) →
    (text_number rest u < length rest → listed rest u t ≡ set rest (text_number rest u) (lowered (get_or rest (text_number rest u) d) t)) →
    listed (x ∷ rest) u t ≡ set (x ∷ rest) (text_number (x ∷ rest) u) (lowered (get_or (x ∷ rest) (text_number (x ∷ rest) u) d) t)
unfolding lowered
within_by true x rest u t d e less more =
    ap (λ b. cond b (record x { token = min x.token t } ∷ rest) (x ∷ listed rest u t)) e
    ∙ sym (ap (λ n. set (x ∷ rest) n (lowered (get_or (x ∷ rest) n d) t)) (step (has_units u) x rest true e))
within_by false x rest u t d e less more =
    let f = step (has_units u) x rest false e in
    let g : text_number (x ∷ rest) u ≡ suc (text_number rest u) = f ∙ omega arith in
    let inside : text_number rest u < length rest = omega (arith, less, f) in
    ap (λ b. cond b (record x { token = min x.token t } ∷ rest) (x ∷ listed rest u t)) e
    ∙ ap (λ z. x ∷ z) (more inside)
    ∙ sym (ap (λ n. set (x ∷ rest) n (lowered (get_or (x ∷ rest) n d) t)) g)

listed_within : (xs : List FixedText) (u : List ℕ) (t : ℕ) (d : FixedText) → text_number xs u < length xs →
    listed xs u t ≡ set xs (text_number xs u) (lowered (get_or xs (text_number xs u) d) t)
listed_within [] u t d less = absurd (omega (arith, less))
listed_within (x ∷ rest) u t d less = within_by (has_units u x) x rest u t d refl less (listed_within rest u t d)

behind_by : (b : Bool) (x : FixedText) (rest : List FixedText) (u : List ℕ) (t : ℕ) → has_units u x ≡ b → length (x ∷ rest) ≤ text_number (x ∷ rest) u →
    (length rest ≤ text_number rest u → listed rest u t ≡ rest ++ record { units = u; token = t } ∷ []) →
    listed (x ∷ rest) u t ≡ (x ∷ rest) ++ record { units = u; token = t } ∷ []
behind_by true x rest u t e all more = let f = step (has_units u) x rest true e in absurd (omega (arith, all, f))
behind_by false x rest u t e all more =
    let f = step (has_units u) x rest false e in
    let beyond : length rest ≤ text_number rest u = omega (arith, all, f) in
    ap (λ b. cond b (record x { token = min x.token t } ∷ rest) (x ∷ listed rest u t)) e ∙ ap (λ z. x ∷ z) (more beyond)

listed_behind : (xs : List FixedText) (u : List ℕ) (t : ℕ) → length xs ≤ text_number xs u → listed xs u t ≡ xs ++ record { units = u; token = t } ∷ []
listed_behind [] u t all = refl
listed_behind (x ∷ rest) u t all = behind_by (has_units u x) x rest u t refl all (listed_behind rest u t)

same_by : (b : Bool) (x : FixedText) (rest : List FixedText) (u : List ℕ) (t : ℕ) → has_units u x ≡ b → text_number (listed rest u t) u ≡ text_number rest u →
    text_number (listed (x ∷ rest) u t) u ≡ text_number (x ∷ rest) u
same_by true x rest u t e more =
    ap (λ b. text_number (cond b (record x { token = min x.token t } ∷ rest) (x ∷ listed rest u t)) u) e
    ∙ step (has_units u) (record x { token = min x.token t }) rest true e ∙ sym (step (has_units u) x rest true e)
same_by false x rest u t e more =
    ap (λ b. text_number (cond b (record x { token = min x.token t } ∷ rest) (x ∷ listed rest u t)) u) e
    ∙ step (has_units u) x (listed rest u t) false e ∙ ap (λ n. 1 + n) more ∙ sym (step (has_units u) x rest false e)

equal_to_itself : (u : List ℕ) → bytes_eq u u ≡ true
equal_to_itself [] = refl
equal_to_itself (x ∷ u) = ap (λ b. b && bytes_eq u u) (eq-eqb x x refl) ∙ equal_to_itself u

-- a text keeps its place when it is listed again
same_place : (xs : List FixedText) (u : List ℕ) (t : ℕ) → text_number (listed xs u t) u ≡ text_number xs u
same_place [] u t = ap (λ b. cond (not b) 1 0) (equal_to_itself u)
same_place (x ∷ rest) u t = same_by (has_units u x) x rest u t refl (same_place rest u t)

-- a text with these units is among the texts, and has the lesser token now
pub lowers : (xs : List memory.FixedText) (now : List FixedText) (u : List ℕ) (t i : ℕ) (x : memory.FixedText) (least : ℕ) → map text_of xs ≡ now →
    i ≡ text_number (map text_of xs) u → i < length xs → x ≡ get_or xs i x → least ≡ min x.token t →
    map text_of (set xs i (record { units = x.units; token = least })) ≡ listed now u t
unfolding lowered
lowers xs now u t i x least view is less here lesser =
    let all : List FixedText = map text_of xs in
    let inside : text_number all u < length all = omega (arith, is, less, length-map xs text_of) in
    let value : get_or all (text_number all u) (text_of x) ≡ text_of x =
    ap (λ n. get_or all n (text_of x)) (sym is) ∙ get_or-map text_of xs i x (text_of x) less ∙ ap text_of (sym here) in
    map-set text_of xs i (record { units = x.units; token = least })
    ∙ ap (λ n. set all i (record { units = x.units.items; token = n })) lesser
    ∙ ap (λ n. set all n (lowered (text_of x) t)) is
    ∙ ap (λ z. set all (text_number all u) (lowered z t)) (sym value)
    ∙ sym (listed_within all u t (text_of x) inside)
    ∙ ap (λ z. listed z u t) view

-- none has these units
pub pushes : (xs : List memory.FixedText) (ys : List memory.FixedText) (now : List FixedText) (u : memory.FixedText) (i : ℕ) → map text_of xs ≡ now →
    i ≡ text_number (map text_of xs) u.units.items → length xs ≤ i → ys ≡ xs ++ u ∷ [] →
    map text_of ys ≡ listed now u.units.items u.token
pushes xs ys now u i view is all e =
    let plain : List FixedText = map text_of xs in
    let beyond : length plain ≤ text_number plain u.units.items = omega (arith, is, all, length-map xs text_of) in
    ap (map text_of) e ∙ map-append text_of xs (u ∷ []) ∙ sym (listed_behind plain u.units.items u.token beyond) ∙ ap (λ z. listed z u.units.items u.token) view

keeps_place : (xs : List FixedText) (now new : List FixedText) (u : List ℕ) (t i : ℕ) → xs ≡ now → i ≡ text_number xs u → new ≡ listed now u t → i ≡ text_number new u
keeps_place xs now new u t i view is e = is ∙ ap (λ z. text_number z u) view ∙ sym (ap (λ z. text_number z u) e ∙ same_place now u t)

pub lowers_place : (xs : List memory.FixedText) (now : List FixedText) (u : List ℕ) (t i : ℕ) (x : memory.FixedText) (least : ℕ) → map text_of xs ≡ now →
    i ≡ text_number (map text_of xs) u → i < length xs → x ≡ get_or xs i x → least ≡ min x.token t →
    i ≡ text_number (map text_of (set xs i (record { units = x.units; token = least }))) u
lowers_place xs now u t i x least view is less here lesser =
    keeps_place (map text_of xs) now _ u t i view is (lowers xs now u t i x least view is less here lesser)

pub pushes_place : (xs : List memory.FixedText) (ys : List memory.FixedText) (now : List FixedText) (u : memory.FixedText) (i : ℕ) → map text_of xs ≡ now →
    i ≡ text_number (map text_of xs) u.units.items → length xs ≤ i → ys ≡ xs ++ u ∷ [] →
    i ≡ text_number (map text_of ys) u.units.items
pushes_place xs ys now u i view is all e = keeps_place (map text_of xs) now _ u.units.items u.token i view is (pushes xs ys now u i view is all e)
