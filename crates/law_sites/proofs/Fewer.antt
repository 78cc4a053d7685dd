-- Lists of numbers by how often each number stands in them.
use Rattle.std.proofs.Common.{◌≡◌, sym, subst, arith, ℕ, ◌+◌, ◌≤◌, ◌==◌, List, [], ◌∷◌, ◌++◌, append_assoc}
use Rattle.std.proofs.lemmas.List.{append-nil}
use Rattle.law_structure.proofs.Dense.{tally}
use Rattle.law_structure.proofs.Tallies.{tally_both}

-- how often the number stands in the list
abbrev pub times : ℕ → List ℕ → ℕ
times n xs = tally (λ x. x == n) xs

pub times_both : (n : ℕ) (xs ys : List ℕ) → times n (xs ++ ys) ≡ times n xs + times n ys
times_both n xs ys = tally_both (λ x. x == n) xs ys

-- no number stands in the first more often than in the second
pub record Fewer (xs ys : List ℕ) : Type 0 where
  pub by : (n : ℕ) → times n xs ≤ times n ys

pub few_same : (xs : List ℕ) → Fewer xs xs
few_same xs = record { by = λ n. omega arith }

pub few_none : (ys : List ℕ) → Fewer [] ys
few_none ys = record { by = λ n. omega arith }

no_more : (x y z : ℕ) → x ≤ y → y ≤ z → x ≤ z
no_more x y z h i = omega arith

pub few_then : {xs ys zs : List ℕ} → Fewer xs ys → Fewer ys zs → Fewer xs zs
few_then {xs} {ys} {zs} h i = record { by = λ n. no_more (times n xs) (times n ys) (times n zs) (h.by n) (i.by n) }

sums : (x y k l a b : ℕ) → a ≡ x + y → b ≡ k + l → x ≤ k → y ≤ l → a ≤ b
sums x y k l a b e f h i = omega arith

pub few_both : {xs ys ks ls : List ℕ} → Fewer xs ks → Fewer ys ls → Fewer (xs ++ ys) (ks ++ ls)
few_both {xs} {ys} {ks} {ls} h i = record { by = λ n. sums (times n xs) (times n ys) (times n ks) (times n ls) (times n (xs ++ ys)) (times n (ks ++ ls)) (times_both n xs ys) (times_both n ks ls) (h.by n) (i.by n) }

crossed : (x y k l a b : ℕ) → a ≡ x + y → b ≡ l + k → x ≤ k → y ≤ l → a ≤ b
crossed x y k l a b e f h i = omega arith

-- the parts in the other order
pub few_crossed : {xs ys ks ls : List ℕ} → Fewer xs ks → Fewer ys ls → Fewer (xs ++ ys) (ls ++ ks)
few_crossed {xs} {ys} {ks} {ls} h i = record { by = λ n. crossed (times n xs) (times n ys) (times n ks) (times n ls) (times n (xs ++ ys)) (times n (ls ++ ks)) (times_both n xs ys) (times_both n ls ks) (h.by n) (i.by n) }

one_part : (x k l b : ℕ) → b ≡ k + l → x ≤ k → x ≤ b
one_part x k l b e h = omega arith

pub few_left : {xs ks : List ℕ} (ls : List ℕ) → Fewer xs ks → Fewer xs (ks ++ ls)
few_left {xs} {ks} ls h = record { by = λ n. one_part (times n xs) (times n ks) (times n ls) (times n (ks ++ ls)) (times_both n ks ls) (h.by n) }

other_part : (x k l b : ℕ) → b ≡ k + l → x ≤ l → x ≤ b
other_part x k l b e h = omega arith

pub few_right : {xs ls : List ℕ} (ks : List ℕ) → Fewer xs ls → Fewer xs (ks ++ ls)
few_right {xs} {ls} ks h = record { by = λ n. other_part (times n xs) (times n ks) (times n ls) (times n (ks ++ ls)) (times_both n ks ls) (h.by n) }

between : (o x y k l a b c d : ℕ) → a ≡ o + b → b ≡ x + y → c ≡ k + d → d ≡ o + l → x ≤ k → y ≤ l → a ≤ c
between o x y k l a b c d e f g h i j = omega arith

-- a number in front of both parts, or between them
pub few_between : {xs ys ks ls : List ℕ} (m : ℕ) → Fewer xs ks → Fewer ys ls → Fewer (m ∷ (xs ++ ys)) (ks ++ m ∷ ls)
few_between {xs} {ys} {ks} {ls} m h i = record {
  by = λ n.
      between (times n (m ∷ [])) (times n xs) (times n ys) (times n ks) (times n ls) (times n (m ∷ (xs ++ ys))) (times n (xs ++ ys)) (times n (ks ++ m ∷ ls)) (times n (m ∷ ls))
      (times_both n (m ∷ []) (xs ++ ys)) (times_both n xs ys) (times_both n ks (m ∷ ls)) (times_both n (m ∷ []) ls) (h.by n) (i.by n);
}

-- with nothing behind it
pub few_behind : {xs ys : List ℕ} → Fewer xs ys → Fewer (xs ++ []) ys
few_behind {xs} {ys} h = let P : List ℕ → Type 0 = λ zs. Fewer zs ys in subst P (sym (append-nil xs)) h

pub few_alone : {xs ys : List ℕ} → Fewer (xs ++ []) ys → Fewer xs ys
few_alone {xs} {ys} h = let P : List ℕ → Type 0 = λ zs. Fewer zs ys in subst P (append-nil xs) h

rotated : (x y z k l m a b c d : ℕ) → a ≡ x + b → b ≡ y + z → c ≡ l + d → d ≡ k + m → x ≤ k → y ≤ l → z ≤ m → a ≤ c
rotated x y z k l m a b c d e f g h i j o = omega arith

-- the second part in front of the first
pub few_rotated : {xs ys zs ks ls ms : List ℕ} → Fewer xs ks → Fewer ys ls → Fewer zs ms → Fewer (xs ++ (ys ++ zs)) (ls ++ (ks ++ ms))
few_rotated {xs} {ys} {zs} {ks} {ls} {ms} h i j = record {
  by = λ n.
      rotated (times n xs) (times n ys) (times n zs) (times n ks) (times n ls) (times n ms) (times n (xs ++ (ys ++ zs))) (times n (ys ++ zs)) (times n (ls ++ (ks ++ ms))) (times n (ks ++ ms))
      (times_both n xs (ys ++ zs)) (times_both n ys zs) (times_both n ls (ks ++ ms)) (times_both n ks ms) (h.by n) (i.by n) (j.by n);
}

-- ---- lists in three parts, one of which grows

pub few_regrouped : {xs : List ℕ} (ks ls ms : List ℕ) → Fewer xs ((ks ++ ls) ++ ms) → Fewer xs (ks ++ (ls ++ ms))
few_regrouped {xs} ks ls ms h = let P : List ℕ → Type 0 = λ zs. Fewer xs zs in subst P (append_assoc ks ls ms) h

grows : (x y z k l a b c d : ℕ) → a ≡ b + z → b ≡ x + y → c ≡ x + z → d ≡ k + l → c ≤ k → y ≤ l → a ≤ d
grows x y z k l a b c d e f g h i j = omega arith

pub few_first : {ks ls : List ℕ} (xs ys zs : List ℕ) → Fewer (xs ++ zs) ks → Fewer ys ls → Fewer ((xs ++ ys) ++ zs) (ks ++ ls)
few_first {ks} {ls} xs ys zs h i = record {
  by = λ n.
      grows (times n xs) (times n ys) (times n zs) (times n ks) (times n ls) (times n ((xs ++ ys) ++ zs)) (times n (xs ++ ys)) (times n (xs ++ zs)) (times n (ks ++ ls))
      (times_both n (xs ++ ys) zs) (times_both n xs ys) (times_both n xs zs) (times_both n ks ls) (h.by n) (i.by n);
}

grows_within : (o x y z k l a b c d e f : ℕ) → a ≡ o + b → b ≡ c + z → c ≡ x + y → d ≡ o + e → e ≡ x + z → f ≡ k + l → d ≤ k → y ≤ l → a ≤ f
grows_within o x y z k l a b c d e f g h i j m n p q = omega arith

pub few_second : {ks ls : List ℕ} (os xs ys zs : List ℕ) → Fewer (os ++ (xs ++ zs)) ks → Fewer ys ls → Fewer (os ++ ((xs ++ ys) ++ zs)) (ks ++ ls)
few_second {ks} {ls} os xs ys zs h i = record {
  by = λ n.
      grows_within (times n os) (times n xs) (times n ys) (times n zs) (times n ks) (times n ls) (times n (os ++ ((xs ++ ys) ++ zs))) (times n ((xs ++ ys) ++ zs)) (times n (xs ++ ys)) (times n (os ++ (xs ++ zs))) (times n (xs ++ zs)) (times n (ks ++ ls))
      (times_both n os ((xs ++ ys) ++ zs)) (times_both n (xs ++ ys) zs) (times_both n xs ys) (times_both n os (xs ++ zs)) (times_both n xs zs) (times_both n ks ls) (h.by n) (i.by n);
}

grows_behind : (o x y z k l a b c d e f : ℕ) → a ≡ o + b → b ≡ x + c → c ≡ y + z → d ≡ o + e → e ≡ x + y → f ≡ k + l → d ≤ k → z ≤ l → a ≤ f
grows_behind o x y z k l a b c d e f g h i j m n p q = omega arith

pub few_third : {ks ls : List ℕ} (os xs ys zs : List ℕ) → Fewer (os ++ (xs ++ ys)) ks → Fewer zs ls → Fewer (os ++ (xs ++ (ys ++ zs))) (ks ++ ls)
few_third {ks} {ls} os xs ys zs h i = record {
  by = λ n.
      grows_behind (times n os) (times n xs) (times n ys) (times n zs) (times n ks) (times n ls) (times n (os ++ (xs ++ (ys ++ zs)))) (times n (xs ++ (ys ++ zs))) (times n (ys ++ zs)) (times n (os ++ (xs ++ ys))) (times n (xs ++ ys)) (times n (ks ++ ls))
      (times_both n os (xs ++ (ys ++ zs))) (times_both n xs (ys ++ zs)) (times_both n ys zs) (times_both n os (xs ++ ys)) (times_both n xs ys) (times_both n ks ls) (h.by n) (i.by n);
}

pairs : (x y z u k l a b c d e f : ℕ) → a ≡ b + c → b ≡ x + y → c ≡ z + u → d ≡ x + z → e ≡ y + u → f ≡ k + l → d ≤ k → e ≤ l → a ≤ f
pairs x y z u k l a b c d e f g h i j m n p q = omega arith

-- the prefixes of two lists, and then the others
pub few_paired : {ks ls : List ℕ} (xs ys zs us : List ℕ) → Fewer (xs ++ zs) ks → Fewer (ys ++ us) ls → Fewer ((xs ++ ys) ++ (zs ++ us)) (ks ++ ls)
few_paired {ks} {ls} xs ys zs us h i = record {
  by = λ n.
      pairs (times n xs) (times n ys) (times n zs) (times n us) (times n ks) (times n ls) (times n ((xs ++ ys) ++ (zs ++ us))) (times n (xs ++ ys)) (times n (zs ++ us)) (times n (xs ++ zs)) (times n (ys ++ us)) (times n (ks ++ ls))
      (times_both n (xs ++ ys) (zs ++ us)) (times_both n xs ys) (times_both n zs us) (times_both n xs zs) (times_both n ys us) (times_both n ks ls) (h.by n) (i.by n);
}
