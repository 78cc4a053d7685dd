-- Marks at the numbers of classes that a walk found.
use Rattle.std.proofs.Common.{◌≡◌, ℕ, ◌<◌, ◌≤◌, Bool, true, false, ◌||◌, List, [], ◌∷◌, length, refl, sym, ◌∙◌, ap, subst, arith, nat_eq, eq-eqb, get_or, ⊎_elim}
use Rattle.std.proofs.Math.ListN.{set, replicate, length-set, length-replicate}
use Rattle.std.proofs.Common.{get_or-set_same, get_or-set_other}
use Rattle.std.specs.List.{Contains, list_any}
use Rattle.std.proofs.lemmas.Bool.{cases_eq, ne_eqb}
use Rattle.std.proofs.lemmas.List.{get_or-replicate}
use Rattle.std.proofs.lemmas.List.Folds.{list_any_at}
use Rattle.wy_kernel.specs.Program.{Class}
use Rattle.wy_kernel.proofs.Closing.{Found, finished}
use Rattle.wy_kernel.proofs.Supertypes.{contained}
use Rattle.wy_table.specs.Above.{AreMarked, IsRow}
use Rattle.wy_table.specs.Numbering.{IsNumbering}
use Rattle.wy_table.specs.Spans.{is_covered}
use Rattle.wy_table.specs.declared.spans.Span.{Span}

pub flipped : (x : ℕ) (xs : List ℕ) → list_any (λ y. nat_eq y x) xs ≡ list_any (nat_eq x) xs
flipped x [] = refl
flipped x (y ∷ ys) =
    let e : nat_eq y x ≡ nat_eq x y = grind arith in
    ap (λ b. b || list_any (λ y. nat_eq y x) ys) e ∙ ap (λ b. nat_eq x y || b) (flipped x ys)

-- a list that has an element passes the test for it
pub tested : (x : ℕ) (xs : List ℕ) → Contains xs x → list_any (nat_eq x) xs ≡ true
tested x xs (k, lt, e) = list_any_at (nat_eq x) xs k x lt (eq-eqb x (get_or xs k x) (sym e))

none_but : (c d : ℕ) → (d ≡ c → ⊥) → list_any (nat_eq d) (c ∷ []) ≡ false
none_but c d ne = ap (λ b. b || false) (ne_eqb d c ne)

one_at : (c d : ℕ) → d ≡ c → list_any (nat_eq d) (c ∷ []) ≡ true
one_at c d e = ap (λ b. b || false) (eq-eqb d c e)

pub marked_first : (numbers : List ℕ) (n c : ℕ) → IsNumbering n numbers → c < n → AreMarked numbers (c ∷ []) (set (replicate n false) (get_or numbers c 0) true)
marked_first numbers n c m lt =
    let at = get_or numbers c 0 in
    let within : at < n = m.within c lt in
    let many : length (replicate n false) ≡ n = length-replicate n false in
    let long : length (set (replicate n false) at true) ≡ n = length-set (replicate n false) at true ∙ many in
    record {
      long = long ∙ sym m.long;
      each = λ d less. (let less_n : d < n = (let all = m.long in omega arith) in
          let there : get_or numbers d 0 < n = m.within d less_n in
          ⊎_elim
          (λ e. (let P : ℕ → Type 0 = λ x. get_or (set (replicate n false) at true) (get_or numbers x 0) false ≡ true in
          subst P (sym e) (get_or-set_same (replicate n false) at true false (omega arith)) ∙ sym (one_at c d e)))
          (λ ne. get_or-set_other (replicate n false) at (get_or numbers d 0) true false (λ same. ne (m.apart d c less_n lt same)) ∙ get_or-replicate n (get_or numbers d 0) false false there ∙ sym (none_but c d ne))
          (cases_eq d c));
    }

-- the row of what is marked once the walk is at its end
pub walked : (classes : List Class) (numbers : List ℕ) (c done : ℕ) (found : List ℕ) (marks : List Bool) (row : List Span) → IsNumbering (length classes) numbers → Found classes c found done → length found ≤ done → AreMarked numbers found marks →
    ((n : ℕ) → is_covered n row ≡ get_or marks n false) → IsRow classes numbers c row
walked classes numbers c done found marks row m f all marked covers d lt =
    let there : d < length numbers = (let long = m.long in omega arith) in
    let same : is_covered (get_or numbers d 0) row ≡ list_any (nat_eq d) found = covers (get_or numbers d 0) ∙ marked.each d there in
    let exact = (finished classes c done found f all).exact d in
    (λ t. exact.0 (contained d found (sym same ∙ t)), λ s. same ∙ tested d found (exact.1 s))
