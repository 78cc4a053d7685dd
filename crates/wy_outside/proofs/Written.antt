-- What a writer holds after one more call of it.
use Rattle.std.proofs.Common.{◌≡◌, ℕ, ◌+◌, ◌-◌, List, ◌++◌, length, take, drop, Option, Some, None, sym, ◌∙◌, ap, append_assoc, subst, length-drop}
use Rattle.std.proofs.Math.Seq.{take-add, take-length}
use Rattle.std.specs.Io.KnownBytes.{Appends, Keeps}

-- first p and then q were appended
pub both_appended : (a b c : Option (List ℕ)) (p q : List ℕ) → Appends a b p → Appends b c q → Appends a c (p ++ q)
both_appended None b c p q first second = tt
both_appended (Some xs) None c p q first second = absurd first
both_appended (Some xs) (Some ys) None p q first second = absurd second
both_appended (Some xs) (Some ys) (Some zs) p q first second = second ∙ ap (λ t. t ++ q) first ∙ append_assoc xs p q

-- a front was appended, and nothing more
pub front_kept : (a b c : Option (List ℕ)) (p : List ℕ) → Appends a b p → Keeps b c → Appends a c p
front_kept None b c p first kept = tt
front_kept (Some xs) None c p first kept = absurd first
front_kept (Some xs) (Some ys) None p first kept = absurd kept
front_kept (Some xs) (Some ys) (Some zs) p first kept = kept ∙ first

-- a longer front was appended, where the next part follows
pub front_grown : (a b c : Option (List ℕ)) (at count longer : ℕ) (bytes : List ℕ) → Appends a b (take at bytes) → Appends b c (take count (take (length bytes - at) (drop at bytes))) → longer ≡ at + count → Appends a c (take longer bytes)
front_grown a b c at count longer bytes first second is_sum =
    let P : List ℕ → Type 0 = λ t. Appends a c t in
    let rest = ap (λ n. take n (drop at bytes)) (sym (length-drop at bytes)) ∙ take-length (drop at bytes) in
    let parts = ap (λ t. take at bytes ++ take count t) rest ∙ sym (take-add at count bytes) ∙ ap (λ n. take n bytes) (sym is_sum) in
    subst P parts (both_appended a b c (take at bytes) (take count (take (length bytes - at) (drop at bytes))) first second)
