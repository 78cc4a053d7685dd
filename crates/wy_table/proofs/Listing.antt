-- Lists by keys grow by one place after another.
use Rattle.std.proofs.Common.{◌≡◌, ℕ, ◌<◌, ◌≤◌, ◌+◌, Bool, true, false, List, [], ◌∷◌, ◌++◌, length, Option, Some, None, slice_get, slice_index_or, refl, sym, ap, subst, ◌∙◌, arith, below_more, ◌⊎◌, inl, inr, if◌then◌else◌}
use Rattle.std.specs.List.{Contains}
use Rattle.std.proofs.lemmas.List.Elements.{Contains-append_left, Contains-append_cases, Contains-push}

module _ {Q : Type 0} (IsWanted : ℕ → Q → Type 0) where
  -- the lists have each place before n by what it is wanted by, and only such places
  abbrev pub ListedUpTo : ℕ → (Q → List ℕ) → Type 0
  ListedUpTo n lists = ((k : ℕ) (q : Q) → k < n → IsWanted k q → Contains (lists q) k) × ((q : Q) (k : ℕ) → Contains (lists q) k → k < n)

  pub none_listed : (lists : Q → List ℕ) → ((q : Q) → lists q ≡ []) → ListedUpTo 0 lists
  none_listed lists empty = (
    λ k q lt want. absurd (omega arith),
    λ q k has. absurd (nothing (lists q) k (empty q) has),
  )
    where
      nothing : (xs : List ℕ) (k : ℕ) → xs ≡ [] → Contains xs k → ⊥
      nothing [] k e (i, lt, is) = absurd (omega arith)
      nothing (x ∷ xs) k e has = absurd (cc)

  pub skipped : (n : ℕ) (lists : Q → List ℕ) → ListedUpTo n lists → ((q : Q) → IsWanted n q → ⊥) → ListedUpTo (n + 1) lists
  skipped n lists old none = (
    λ k q. below_more (λ i. IsWanted i q → Contains (lists q) i) n (λ i lt. old.0 i q lt) (λ want. absurd (none q want)) k,
    λ q k has. (let lt = old.1 q k has in omega arith),
  )

  pub listed_one : (n : ℕ) (old new : Q → List ℕ) (test : Q → Bool) → ListedUpTo n old → ((q : Q) → new q ≡ old q ++ (if test q then n ∷ [] else [])) → ((q : Q) → IsWanted n q → test q ≡ true) → ListedUpTo (n + 1) new
  listed_one n old new test before grows want = (
    λ k q. below_more (λ i. IsWanted i q → Contains (new q) i) n (λ i lt wanted. kept q i (before.0 i q lt wanted)) (λ wanted. here q (test q) refl (want q wanted)) k,
    λ q k has. among q k (test q) (subst (λ xs. Contains xs k) (grows q) has),
  )
    where
      kept : (q : Q) (k : ℕ) → Contains (old q) k → Contains (new q) k
      kept q k has = subst (λ xs. Contains xs k) (sym (grows q)) (Contains-append_left (old q) _ k has)

      here : (q : Q) (b : Bool) → test q ≡ b → test q ≡ true → Contains (new q) n
      here q b e t = subst (λ xs. Contains xs n) (sym (grows q ∙ ap (λ c. old q ++ (if c then n ∷ [] else [])) t)) (Contains-push (old q) n)

      among : (q : Q) (k : ℕ) (b : Bool) → Contains (old q ++ (if b then n ∷ [] else [])) k → k < n + 1
      among q k b has =
          elim (Contains-append_cases (old q) _ k has) [
            | inl h ↦ (let lt = before.1 q k h in omega arith)
            | inr h ↦ one b h
          ]
        where
          one : (b : Bool) → Contains (if b then n ∷ [] else []) k → k < n + 1
          one true (i, lt, is) = (let z : i ≡ 0 = omega arith in let e : n ≡ k = subst (λ j. slice_index_or (n ∷ []) j k ≡ k) z is in omega arith)
          one false (i, lt, is) = absurd (omega arith)
