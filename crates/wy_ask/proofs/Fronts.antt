-- What stands behind the front of a text, and on both sides of a sign.
use Rattle.std.proofs.Common.{◌≡◌, ◌∙◌, ℕ, zero, suc, ◌<◌, Bool, true, false, nat_eq, List, [], ◌∷◌, ◌++◌, length, get_or, drop, Some, None, option_map, refl, sym, ap, arith, Bor, eqb-true, eq-eqb, ne_eqb}
use Rattle.std.specs.Prelude.{Option, if◌then◌else◌}
use Rattle.std.specs.Option.{MatchOption}
use Rattle.std.specs.List.{list_all}
use Rattle.std.specs.Str.Pattern.{FindsTextPrefix, StripsPrefix}
use Rattle.std.proofs.lemmas.Bool.{and_parts, both_ways}
use Rattle.std.proofs.lemmas.Option.{none-some, same_Some, some_pair_parts}
use Rattle.std.proofs.lemmas.Str.Pattern.{IsSplitOnceResult, split_parts}
use Rattle.wy_ask.specs.Reading.{behind, cut, with_first, parts}

pub behind_there : (front rest : List ℕ) → behind front (front ++ rest) ≡ Some rest
behind_there [] rest = refl
behind_there (b ∷ front) rest = ap (λ v. if v then behind front (front ++ rest) else None) (eq-eqb b b refl) ∙ behind_there front rest

pub behind_only : (front text rest : List ℕ) → behind front text ≡ Some rest → text ≡ front ++ rest
behind_only [] text rest e = same_Some text rest e
behind_only (b ∷ front) [] rest e = absurd (none-some rest e)
behind_only (b ∷ front) (c ∷ text) rest e = go (nat_eq b c) refl e (λ f. behind_only front text rest f)
  where
    go : (v : Bool) → nat_eq b c ≡ v → (if v then behind front text else None) ≡ Some rest → (behind front text ≡ Some rest → text ≡ front ++ rest) → c ∷ text ≡ b ∷ (front ++ rest)
    go true is f more =
        let h : text ≡ front ++ rest = more f in
        let k : b ≡ c = eqb-true b c is in
        cc
    go false is f more = absurd (none-some rest f)

pub stripped : (front text : List ℕ) (r : Option (Bor (List ℕ)))
    → MatchOption r (FindsTextPrefix front text None) (λ x. StripsPrefix (FindsTextPrefix front) text x.now) → option_map (λ x. x.now) r ≡ behind front text
stripped front text None h = sym (go (behind front text) refl)
  where
    go : (o : Option (List ℕ)) → behind front text ≡ o → o ≡ None
    go None e = refl
    go (Some rest) e = absurd (h rest (behind_only front text rest e))
stripped front text (Some x) h = ap Some h.2 ∙ sym (ap (behind front) h.1.1 ∙ behind_there front (drop h.0 text))

-- no byte is this one
abbrev pub Lacks : ℕ → List ℕ → Type 0
Lacks sign xs = (i : ℕ) → i < length xs → get_or xs i 0 ≡ sign → ⊥

lacks_rest : (sign b : ℕ) (xs : List ℕ) → Lacks sign (b ∷ xs) → Lacks sign xs
lacks_rest sign b xs h i l = h (suc i) (omega arith)

pub lacks_append : (sign : ℕ) (xs ys : List ℕ) → Lacks sign xs → Lacks sign ys → Lacks sign (xs ++ ys)
lacks_append sign [] ys h k i l = k i l
lacks_append sign (b ∷ xs) ys h k zero l = h zero (omega arith)
lacks_append sign (b ∷ xs) ys h k (suc i) l = lacks_append sign xs ys (lacks_rest sign b xs h) k i (omega arith)

pub lacks_all : (test : ℕ → Bool) (sign : ℕ) (xs : List ℕ) → test sign ≡ false → list_all test xs ≡ true → Lacks sign xs
lacks_all test sign [] t e i l is = absurd (omega arith)
lacks_all test sign (b ∷ xs) t e zero l is = both_ways (test b) (ap test is ∙ t) (and_parts (test b) (list_all test xs) e).0
lacks_all test sign (b ∷ xs) t e (suc i) l is = lacks_all test sign xs t (and_parts (test b) (list_all test xs) e).1 i (omega arith) is

pub cut_there : (sign : ℕ) (xs ys : List ℕ) → Lacks sign xs → cut sign (xs ++ (sign ∷ ys)) ≡ Some (xs, ys)
cut_there sign [] ys h = ap (λ v. if v then Some ([], ys) else with_first sign (cut sign ys)) (eq-eqb sign sign refl)
cut_there sign (b ∷ xs) ys h =
    ap (λ v. if v then Some ([], xs ++ (sign ∷ ys)) else with_first b (cut sign (xs ++ (sign ∷ ys)))) (ne_eqb b sign (h zero (omega arith)))
    ∙ ap (with_first b) (cut_there sign xs ys (lacks_rest sign b xs h))

pub cut_none : (sign : ℕ) (xs : List ℕ) → Lacks sign xs → cut sign xs ≡ None
cut_none sign [] h = refl
cut_none sign (b ∷ xs) h =
    ap (λ v. if v then Some ([], xs) else with_first b (cut sign xs)) (ne_eqb b sign (h zero (omega arith))) ∙ ap (with_first b) (cut_none sign xs (lacks_rest sign b xs h))

pub cut_only : (sign : ℕ) (text before rest : List ℕ) → cut sign text ≡ Some (before, rest) → text ≡ before ++ (sign ∷ rest)
cut_only sign [] before rest e = absurd (none-some (before, rest) e)
cut_only sign (b ∷ text) before rest e = go (nat_eq b sign) refl e (λ x f. cut_only sign text x.0 x.1 f)
  where
    first : ((x : List ℕ × List ℕ) → cut sign text ≡ Some x → text ≡ x.0 ++ (sign ∷ x.1)) → (o : Option (List ℕ × List ℕ)) → cut sign text ≡ o
        → with_first b o ≡ Some (before, rest) → b ∷ text ≡ before ++ (sign ∷ rest)
    first more None is f = absurd (none-some (before, rest) f)
    first more (Some x) is f =
        let h : text ≡ x.0 ++ (sign ∷ x.1) = more x is in
        let p = some_pair_parts (b ∷ x.0) before x.1 rest f in
        rw (← p.0, ← p.1) (ap (λ t. b ∷ t) h)

    go : (v : Bool) → nat_eq b sign ≡ v → (if v then Some ([], text) else with_first b (cut sign text)) ≡ Some (before, rest)
        → ((x : List ℕ × List ℕ) → cut sign text ≡ Some x → text ≡ x.0 ++ (sign ∷ x.1)) → b ∷ text ≡ before ++ (sign ∷ rest)
    go true is f more =
        let p = some_pair_parts [] before text rest f in
        rw (← p.0, ← p.1) (ap (λ k. k ∷ text) (eqb-true b sign is))
    go false is f more = first more (cut sign text) refl f

pub splits : (sign : ℕ) (text : List ℕ) (r : Option (Bor (List ℕ) × Bor (List ℕ))) → IsSplitOnceResult sign text r → sign < 128 → option_map parts r ≡ cut sign text
splits sign text None h small = sym (cut_none sign text (split_parts sign text None h small))
splits sign text (Some x) h small =
    let k = split_parts sign text (Some x) h small in
    sym (ap (cut sign) k.0 ∙ cut_there sign x.0.now x.1.now k.1)
