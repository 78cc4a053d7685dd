-- Lines that are written one after another.
use Rattle.std.proofs.Common.{◌≡◌, ◌∙◌, ℕ, suc, ◌+◌, ◌-◌, ◌<◌, List, [], ◌∷◌, ◌++◌, map, codes, sym, refl, ap, arith}
use Rattle.std.specs.Fmt.{decimal}
use Rattle.std.specs.List.{range_with_len}
use Rattle.std.proofs.lemmas.List.{append_assoc}
use Rattle.wy_gen.specs.Generated.{opening, loop_head, closing, lines, ended, method, call, below, source, divisor, addend}

-- the k-th line is written, and the lines behind it are left
pub one_more : (line : ℕ → List ℕ) (before now whole : List ℕ) (k n : ℕ) → k < n → now ≡ (before ++ line k) ++ codes "\n"
    → before ++ ended (map line (range_with_len k (n - k))) ≡ whole
    → now ++ ended (map line (range_with_len (k + 1) (n - (k + 1)))) ≡ whole
one_more line before now whole k n less written kept =
    let left : n - k ≡ suc (n - (k + 1)) = omega (arith, less) in
    let rest : List ℕ = ended (map line (range_with_len (k + 1) (n - (k + 1)))) in
    ap (λ v. v ++ rest) (written ∙ append_assoc before (line k) (codes "\n"))
    ∙ append_assoc before (line k ++ codes "\n") rest
    ∙ ap (λ m. before ++ ended (map line (range_with_len k m))) (sym left)
    ∙ kept

ended_joined : (xs ys : List (List ℕ)) → ended (xs ++ ys) ≡ ended xs ++ ended ys
ended_joined [] ys = refl
ended_joined (x ∷ xs) ys = ap (λ v. (x ++ codes "\n") ++ v) (ended_joined xs ys) ∙ sym (append_assoc (x ++ codes "\n") (ended xs) (ended ys))

-- the two halves of a method
pub two_halves : (n k : ℕ) (before : List ℕ)
    → (before ++ (codes "static int f" ++ (decimal k ++ (codes "(int a) { if (a % " ++ (decimal (divisor n k) ++ codes " == 0) ")))))
    ++ (codes "{ t = t + " ++ (decimal (addend n k) ++ (codes "; } return a + t % " ++ (decimal (divisor n k) ++ codes "; }"))))
    ≡ before ++ method n k
unfolding method
two_halves n k before =
    let divided : List ℕ = decimal (divisor n k) ++ codes " == 0) " in
    let behind : List ℕ = codes "(int a) { if (a % " ++ divided in
    let half : List ℕ = codes "{ t = t + " ++ (decimal (addend n k) ++ (codes "; } return a + t % " ++ (decimal (divisor n k) ++ codes "; }"))) in
    append_assoc before (codes "static int f" ++ (decimal k ++ behind)) half
    ∙ ap (λ v. before ++ (codes "static int f" ++ v)) (append_assoc (decimal k) behind half)
    ∙ ap (λ v. before ++ (codes "static int f" ++ (decimal k ++ (codes "(int a) { if (a % " ++ v)))) (append_assoc (decimal (divisor n k)) (codes " == 0) ") half)

-- the five parts of the text, one behind another
pub five_parts : (n : ℕ)
    → (((ended opening ++ ended (map (method n) (below n))) ++ ended loop_head) ++ ended (map call (below n))) ++ ended closing ≡ source n
unfolding lines
five_parts n =
    let methods : List (List ℕ) = map (method n) (below n) in
    let calls : List (List ℕ) = map call (below n) in
    append_assoc ((ended opening ++ ended methods) ++ ended loop_head) (ended calls) (ended closing)
    ∙ append_assoc (ended opening ++ ended methods) (ended loop_head) (ended calls ++ ended closing)
    ∙ append_assoc (ended opening) (ended methods) (ended loop_head ++ (ended calls ++ ended closing))
    ∙ ap (λ v. ended opening ++ (ended methods ++ (ended loop_head ++ v))) (sym (ended_joined calls closing))
    ∙ ap (λ v. ended opening ++ (ended methods ++ v)) (sym (ended_joined loop_head (calls ++ closing)))
    ∙ ap (λ v. ended opening ++ v) (sym (ended_joined methods (loop_head ++ (calls ++ closing))))
    ∙ sym (ended_joined opening (methods ++ (loop_head ++ (calls ++ closing))))
