-- The first "*/", looked for byte by byte.
use Rattle.std.proofs.Common.{ℕ, ◌+◌, ◌<◌, ◌≤◌, ◌≡◌, nat_eq, Bool, true, false, ◌&&◌, if◌then◌else◌, List, [], ◌∷◌, length, get_or, drop, Option, Some, None, option_map, refl, sym, ◌∙◌, ap, add-one, drop-cons, arith}
use Rattle.std.proofs.lemmas.List.{drop_all}
use Rattle.wy_tree.specs.Pieces.{close_at}

abbrev pub IsFrom : List ℕ → ℕ → ℕ → Type 0
IsFrom text before i = option_map (λ n. 1 + n) (close_at text) ≡ option_map (λ n. i + n) (close_at (before ∷ drop i text))

abbrev stepped : Bool → ℕ → List ℕ → Option ℕ
stepped closes byte rest = if closes then Some 2 else option_map (λ n. 1 + n) (close_at (byte ∷ rest))

next : (text : List ℕ) (before i : ℕ) → i < length text → close_at (before ∷ drop i text) ≡ stepped (nat_eq before 42 && nat_eq (get_or text i 0) 47) (get_or text i 0) (drop (i + 1) text)
unfolding close_at
next text before i lt =
    ap (λ z. close_at (before ∷ z)) (drop-cons text i 0 lt)
    ∙ ap (λ k. stepped (nat_eq before 42 && nat_eq (get_or text i 0) 47) (get_or text i 0) (drop k text)) (sym (add-one i))

added : (i j : ℕ) (o : Option ℕ) → option_map (λ n. i + n) (option_map (λ n. j + n) o) ≡ option_map (λ n. i + j + n) o
added i j None = refl
added i j (Some n) = let e : i + (j + n) ≡ i + j + n = omega arith in ap Some e

none_added : (o : Option ℕ) → o ≡ option_map (λ n. 0 + n) o
none_added None = refl
none_added (Some n) = let e : n ≡ 0 + n = omega arith in ap Some e

behind_nothing : (text : List ℕ) → close_at (0 ∷ text) ≡ option_map (λ n. 1 + n) (close_at text)
unfolding close_at
behind_nothing [] = refl
behind_nothing (b ∷ text) = refl

one_less : (i : ℕ) (o : Option ℕ) → option_map (λ n. 1 + n) o ≡ Some (i + 2) → o ≡ Some (i + 1)
one_less i None e = absurd (cc)
one_less i (Some n) e = let f : 1 + n ≡ i + 2 = cc in let g : n ≡ i + 1 = omega (arith, f) in ap Some g

none_left : (o : Option ℕ) → option_map (λ n. 1 + n) o ≡ None → o ≡ None
none_left None e = refl
none_left (Some n) e = absurd (cc)

pub close_begun : (text : List ℕ) → IsFrom text 0 0
close_begun text = sym (behind_nothing text) ∙ none_added (close_at (0 ∷ text))

pub close_found : (text : List ℕ) (before i : ℕ) → i < length text → nat_eq before 42 && nat_eq (get_or text i 0) 47 ≡ true → IsFrom text before i → Some (i + 1) ≡ close_at text
close_found text before i lt e f =
    sym (one_less i (close_at text) (f ∙ ap (option_map (λ n. i + n)) (next text before i lt ∙ ap (λ z. stepped z (get_or text i 0) (drop (i + 1) text)) e)))

pub close_more : (text : List ℕ) (before i : ℕ) → i < length text → nat_eq before 42 && nat_eq (get_or text i 0) 47 ≡ false → IsFrom text before i → IsFrom text (get_or text i 0) (i + 1)
close_more text before i lt e f =
    f ∙ ap (option_map (λ n. i + n)) (next text before i lt ∙ ap (λ z. stepped z (get_or text i 0) (drop (i + 1) text)) e)
    ∙ added i 1 (close_at (get_or text i 0 ∷ drop (i + 1) text))

alone : (b : ℕ) → close_at (b ∷ []) ≡ None
unfolding close_at
alone b = refl

pub close_none : (text : List ℕ) (before i : ℕ) → length text ≤ i → IsFrom text before i → None ≡ close_at text
close_none text before i le f = sym (none_left (close_at text) (f ∙ ap (λ z. option_map (λ n. i + n) (close_at (before ∷ z))) (drop_all i text le) ∙ ap (option_map (λ n. i + n)) (alone before)))
