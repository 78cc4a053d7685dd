-- Places of names, as names come to the end of a list and go from it.
use Rattle.std.proofs.Common.{◌≡◌, ℕ, zero, suc, ◌<◌, Bool, true, false, cond, List, [], ◌∷◌, ◌++◌, length, map, Option, Some, None, refl, sym, ◌∙◌, ap, arith, ◌⊎◌, inl, inr, ◌↔◌, find, get_or, set}
use Rattle.std.specs.Prelude.{option_map, slice_get}
use Rattle.std.specs.Str.{bytes_eq}
use Rattle.std.specs.Map.{update}
use Rattle.std.proofs.lemmas.List.{length-map}
use Rattle.std.proofs.lemmas.Option.{slice_get_within, slice_get-map, same_Some, none-some}
use Rattle.std.proofs.lemmas.Slice.Eq.{bytes_eq-Decides}
use Rattle.wy_constant.specs.declared.variable.Variable as memory
use Rattle.wy_constant.specs.Places.{name_of}
use Rattle.wy_constant.specs.Scope.{is_named}
use Rattle.wy_constant.specs.Scopes.{variable_of}

-- f finds each name at exactly its places among these
abbrev pub Finds : (List ℕ → Option ℕ) → List (List ℕ) → Type 0
Finds f names = (name : List ℕ) (place : ℕ) → f name ≡ Some place ↔ slice_get names place ≡ Some name

at_end : (names : List (List ℕ)) (n : List ℕ) → slice_get (names ++ n ∷ []) (length names) ≡ Some n
at_end [] n = refl
at_end (x ∷ names) n = at_end names n

still_there : (names : List (List ℕ)) (n q : List ℕ) (i : ℕ) → slice_get names i ≡ Some q → slice_get (names ++ n ∷ []) i ≡ Some q
still_there [] n q i e = absurd (none-some _ e)
still_there (x ∷ names) n q zero e = e
still_there (x ∷ names) n q (suc i) e = still_there names n q i e

before_or_last : (names : List (List ℕ)) (n q : List ℕ) (i : ℕ) → slice_get (names ++ n ∷ []) i ≡ Some q → (slice_get names i ≡ Some q) ⊎ ((i ≡ length names) × (n ≡ q))
before_or_last [] n q zero e = inr (refl, same_Some n q e)
before_or_last [] n q (suc i) e = absurd (none-some _ e)
before_or_last (x ∷ names) n q zero e = inl e
before_or_last (x ∷ names) n q (suc i) e = elim (before_or_last names n q i e) [ inl there ↦ inl there | inr last ↦ inr (ap suc last.0, last.1) ]

pub finds_with : (f : List ℕ → Option ℕ) (names : List (List ℕ)) (n : List ℕ) → Finds f names → f n ≡ None → Finds (update bytes_eq f n (Some (length names))) (names ++ n ∷ [])
finds_with f names n finds fresh = λ q place. by_name q place (bytes_eq n q) refl
  where
    by_name : (q : List ℕ) (place : ℕ) (b : Bool) → bytes_eq n q ≡ b → cond b (Some (length names)) (f q) ≡ Some place ↔ slice_get (names ++ n ∷ []) place ≡ Some q
    by_name q place true e =
        let same : n ≡ q = (bytes_eq-Decides n q).0 e in
        let none : f q ≡ None = ap f (sym same) ∙ fresh in (
          λ is. ap (slice_get (names ++ n ∷ [])) (sym (same_Some _ _ is)) ∙ at_end names n ∙ ap Some same,
          λ there. elim (before_or_last names n q place there) [ inl before ↦ absurd (none-some _ (sym none ∙ (finds q place).1 before)) | inr last ↦ ap Some (sym last.0) ],
        )
    by_name q place false e = (
      λ is. still_there names n q place ((finds q place).0 is),
      λ there. elim (before_or_last names n q place there) [ inl before ↦ (finds q place).1 before | inr last ↦ absurd (differ (sym e ∙ (bytes_eq-Decides n q).1 last.1)) ],
    )
      where
        differ : false ≡ true → ⊥
        differ h = cc

pub finds_without : (f : List ℕ → Option ℕ) (names : List (List ℕ)) (n : List ℕ) → Finds f (names ++ n ∷ []) → Finds (update bytes_eq f n None) names
finds_without f names n finds = λ q place. by_name q place (bytes_eq n q) refl
  where
    by_name : (q : List ℕ) (place : ℕ) (b : Bool) → bytes_eq n q ≡ b → cond b None (f q) ≡ Some place ↔ slice_get names place ≡ Some q
    by_name q place true e =
        let same : n ≡ q = (bytes_eq-Decides n q).0 e in
        let last : f q ≡ Some (length names) = ap f (sym same) ∙ (finds n (length names)).1 (at_end names n) in
        (λ is. absurd (none-some _ is), λ there. absurd (once place last there))
      where
        once : (place : ℕ) → f q ≡ Some (length names) → slice_get names place ≡ Some q → ⊥
        once place last there =
            let is : place ≡ length names = same_Some _ _ (sym ((finds q place).1 (still_there names n q place there)) ∙ last) in
            let within : place < length names = slice_get_within names place q there in
            omega (arith, is, within)
    by_name q place false e = (
      λ is. elim (before_or_last names n q place ((finds q place).0 is)) [ inl before ↦ before | inr last ↦ absurd (differ (sym e ∙ (bytes_eq-Decides n q).1 last.1)) ],
      λ there. (finds q place).1 (still_there names n q place there),
    )
      where
        differ : false ≡ true → ⊥
        differ h = cc

-- the variable at the one place of a name is the one that a search finds
only_one : (xs : List memory.Variable) (q : List ℕ) (i : ℕ) → slice_get (map name_of xs) i ≡ Some q → ((j : ℕ) → slice_get (map name_of xs) j ≡ Some q → j ≡ i) →
    option_map variable_of (slice_get xs i) ≡ find (is_named q) (map variable_of xs)
only_one [] q i there only = absurd (none-some _ there)
only_one (x ∷ xs) q zero there only =
    ap (λ b. cond b (Some (variable_of x)) (find (is_named q) (map variable_of xs))) (sym ((bytes_eq-Decides (name_of x) q).1 (same_Some _ _ there)))
only_one (x ∷ xs) q (suc i) there only = by_name (only_one xs q i there (λ j has. let next : suc j ≡ suc i = only (suc j) has in omega (arith, next))) (bytes_eq (name_of x) q) refl
  where
    by_name : option_map variable_of (slice_get xs i) ≡ find (is_named q) (map variable_of xs) →
        (b : Bool) → bytes_eq (name_of x) q ≡ b → option_map variable_of (slice_get xs i) ≡ cond b (Some (variable_of x)) (find (is_named q) (map variable_of xs))
    by_name behind true e = let first : 0 ≡ suc i = only 0 (ap Some ((bytes_eq-Decides (name_of x) q).0 e)) in absurd (omega (arith, first))
    by_name behind false e = behind

pub found_at : (f : List ℕ → Option ℕ) (xs : List memory.Variable) (q : List ℕ) (i : ℕ) → Finds f (map name_of xs) → f q ≡ Some i →
    option_map variable_of (slice_get xs i) ≡ find (is_named q) (map variable_of xs)
found_at f xs q i finds is = only_one xs q i ((finds q i).0 is) (λ j has. same_Some _ _ (sym ((finds q j).1 has) ∙ is))

absent : (xs : List memory.Variable) (q : List ℕ) → ((j : ℕ) → slice_get (map name_of xs) j ≡ Some q → ⊥) → None ≡ find (is_named q) (map variable_of xs)
absent [] q none = refl
absent (x ∷ xs) q none = by_name (absent xs q (λ j has. none (suc j) has)) (bytes_eq (name_of x) q) refl
  where
    by_name : None ≡ find (is_named q) (map variable_of xs) → (b : Bool) → bytes_eq (name_of x) q ≡ b → None ≡ cond b (Some (variable_of x)) (find (is_named q) (map variable_of xs))
    by_name behind true e = absurd (none 0 (ap Some ((bytes_eq-Decides (name_of x) q).0 e)))
    by_name behind false e = behind

pub found_nowhere : (f : List ℕ → Option ℕ) (xs : List memory.Variable) (q : List ℕ) → Finds f (map name_of xs) → f q ≡ None → None ≡ find (is_named q) (map variable_of xs)
found_nowhere f xs q finds is = absent xs q (λ j has. none-some _ (sym is ∙ (finds q j).1 has))

-- a name that a search doesn't find has no place
pub unfound : (f : List ℕ → Option ℕ) (xs : List memory.Variable) (q : List ℕ) → Finds f (map name_of xs) → find (is_named q) (map variable_of xs) ≡ None → f q ≡ None
unfound f xs q finds none = by_place (f q) refl
  where
    gone : (o : Option memory.Variable) → option_map variable_of o ≡ None → option_map name_of o ≡ Some q → ⊥
    gone None a b = none-some _ b
    gone (Some x) a b = none-some _ (sym a)

    by_place : (o : Option ℕ) → f q ≡ o → f q ≡ None
    by_place None e = e
    by_place (Some i) e = absurd (gone (slice_get xs i) (found_at f xs q i finds e ∙ none) (sym (slice_get-map name_of xs i) ∙ (finds q i).0 e))

-- what finds the same finds each name there too
pub finds_as : (f g : List ℕ → Option ℕ) (names : List (List ℕ)) → ((q : List ℕ) → g q ≡ f q) → Finds f names → Finds g names
finds_as f g names same finds = λ q place. (λ is. (finds q place).0 (sym (same q) ∙ is), λ there. same q ∙ (finds q place).1 there)

pub within : (f : List ℕ → Option ℕ) (xs : List memory.Variable) (q : List ℕ) (i : ℕ) → Finds f (map name_of xs) → f q ≡ Some i → i < length xs
within f xs q i finds is =
    let inside : i < length (map name_of xs) = slice_get_within (map name_of xs) i q ((finds q i).0 is) in
    omega (arith, inside, length-map xs name_of)

-- a variable changed in its place, but not in its name
pub same_names : (xs : List memory.Variable) (i : ℕ) (v d : memory.Variable) → name_of v ≡ name_of (get_or xs i d) → map name_of (set xs i v) ≡ map name_of xs
same_names [] i v d e = refl
same_names (x ∷ xs) zero v d e = ap (λ n. n ∷ map name_of xs) e
same_names (x ∷ xs) (suc i) v d e = ap (λ names. name_of x ∷ names) (same_names xs i v d e)
