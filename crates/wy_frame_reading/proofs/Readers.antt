-- What it is to read a thing that is spelled in one way, and how such readings join.
use Rattle.std.proofs.Common.{◌≡◌, ℕ, zero, suc, ◌+◌, ◌<◌, Bool, true, false, List, [], ◌∷◌, ◌++◌, length, Result, Ok, Err, refl, sym, ap, ◌∙◌, subst, append_assoc}
use Rattle.std.specs.Prelude.{IfOk, slice_index}
use Rattle.std.specs.List.{AllByRecursion, flat_map}
use Rattle.std.proofs.lemmas.List.{get_or-append-add}
use Rattle.std.proofs.lemmas.List.Concat.{flat_map-cons}
use Rattle.wy_payload.specs.declared.fault.DamageRule.{DamageRule}
use Rattle.wy_payload.specs.Rules.{in_range}
use Rattle.wy_payload.specs.Reading.{◌>>=◌, Read, passed, rows_from}
use Rattle.wy_payload.proofs.Readers.{then_has}

-- each is below 256
abbrev pub AreBytes : List ℕ → Type 0
AreBytes bytes = (i : ℕ) → slice_index bytes i < 256

pub bytes_behind : (x rest : List ℕ) → AreBytes (x ++ rest) → AreBytes rest
bytes_behind x rest are i = subst (λ (n : ℕ). n < 256) (get_or-append-add x rest i 0) (are (length x + i))

-- bytes are a text and the bytes behind it
pub record Spelled (bytes text rest : List ℕ) : Type 0 where
  pub parts : bytes ≡ text ++ rest
  pub rest_bytes : AreBytes rest

pub one_after : (a x b y c : List ℕ) → Spelled a x b → Spelled b y c → Spelled a (x ++ y) c
one_after a x b y c p q = record { parts = p.parts ∙ ap (λ l. x ++ l) q.parts ∙ sym (append_assoc x y c); rest_bytes = q.rest_bytes }

-- what is made of a good part is read from the spelling of the part; and where something is read, it is made of a good part that is spelled there
pub record Reads (A X : Type 0) (Good : A → Type 0) (spell : A → List ℕ) (make : A → X) (read : List ℕ → Read X) : Type 0 where
  pub back : (a : A) (rest : List ℕ) → Good a → read (spell a ++ rest) ≡ Ok (make a, rest)
  pub front : (bytes : List ℕ) → AreBytes bytes → IfOk (read bytes) (λ r. (a : A) × (r.0 ≡ make a) × Good a × Spelled bytes (spell a) r.1)

pub bound : {A B : Type 0} (r : Result A DamageRule) (f : A → Result B DamageRule) (x : A) (y : Result B DamageRule) → r ≡ Ok x → f x ≡ y → (r >>= f) ≡ y
bound (Ok z) f x y is same = let there : z ≡ x = cc in ap f there ∙ same
bound (Err e) f x y is same = absurd cc

-- ---- one behind another

module _ (A B X Y : Type 0) (Ga : A → Type 0) (sa : A → List ℕ) (ma : A → X) (ra : List ℕ → Read X) (Gb : A → B → Type 0) (sb : A → B → List ℕ) (mb : A → B → Y) (f : X × List ℕ → Read Y) where
  abbrev Both : A × B → Type 0
  Both p = Ga p.0 × Gb p.0 p.1

  abbrev both_spelled : A × B → List ℕ
  both_spelled p = sa p.0 ++ sb p.0 p.1

  abbrev both_made : A × B → Y
  both_made p = mb p.0 p.1

  two_back : Reads A X Ga sa ma ra → ((a : A) → Reads B Y (Gb a) (sb a) (mb a) (λ rest. f (ma a, rest))) → (p : A × B) (rest : List ℕ) → Both p → (ra (both_spelled p ++ rest) >>= f) ≡ Ok (both_made p, rest)
  two_back first second (a, b) rest (good, other) =
      bound (ra (sa a ++ sb a b ++ rest)) f (ma a, sb a b ++ rest) (Ok (mb a b, rest)) (ap ra (append_assoc (sa a) (sb a b) rest) ∙ first.back a (sb a b ++ rest) good) ((second a).back b rest other)

  pub two : Reads A X Ga sa ma ra → ((a : A) → Reads B Y (Gb a) (sb a) (mb a) (λ rest. f (ma a, rest))) → Reads (A × B) Y Both both_spelled both_made (λ bytes. ra bytes >>= f)
  two first second = record {
    back = two_back first second;
    front = λ bytes are. then_has (ra bytes) f (λ r. (a : A) × (r.0 ≡ ma a) × Ga a × Spelled bytes (sa a) r.1) (λ r. (p : A × B) × (r.0 ≡ both_made p) × Both p × Spelled bytes (both_spelled p) r.1) (first.front bytes are)
        (λ (x, rest) (a, is, good, s). subst (λ (z : X). IfOk (f (z, rest)) (λ r. (p : A × B) × (r.0 ≡ both_made p) × Both p × Spelled bytes (both_spelled p) r.1)) (sym is) (joined bytes rest a good s (f (ma a, rest)) ((second a).front rest s.rest_bytes)));
  } where
    joined : (bytes rest : List ℕ) (a : A) → Ga a → Spelled bytes (sa a) rest → (r : Read Y) → IfOk r (λ y. (b : B) × (y.0 ≡ mb a b) × Gb a b × Spelled rest (sb a b) y.1) → IfOk r (λ y. (p : A × B) × (y.0 ≡ both_made p) × Both p × Spelled bytes (both_spelled p) y.1)
    joined bytes rest a good s (Ok y) (b, is, other, t) = ((a, b), is, (good, other), one_after bytes (sa a) rest (sb a b) y.1 s t)
    joined bytes rest a good s (Err e) h = tt

-- ---- what is made of what was read

module _ (A X Y : Type 0) (Ga : A → Type 0) (sa : A → List ℕ) (ma : A → X) (ra : List ℕ → Read X) (make : X → Y) where
  pub one : Reads A X Ga sa ma ra → Reads A Y Ga sa (λ a. make (ma a)) (λ bytes. ra bytes >>= λ x. Ok (make x.0, x.1))
  one first = record {
    back = λ a rest good. bound (ra (sa a ++ rest)) (λ x. Ok (make x.0, x.1)) (ma a, rest) (Ok (make (ma a), rest)) (first.back a rest good) refl;
    front = λ bytes are. then_has (ra bytes) (λ x. Ok (make x.0, x.1)) (λ r. (a : A) × (r.0 ≡ ma a) × Ga a × Spelled bytes (sa a) r.1) (λ r. (a : A) × (r.0 ≡ make (ma a)) × Ga a × Spelled bytes (sa a) r.1) (first.front bytes are)
        (λ (x, rest) (a, is, good, s). (a, ap make is, good, s));
  }

-- ---- what passes a test

module _ (A X : Type 0) (Ga : A → Type 0) (sa : A → List ℕ) (ma : A → X) (ra : List ℕ → Read X) (test : X → Bool) where
  checked_back : (b : Bool) (x : X × List ℕ) → b ≡ true → passed (in_range b) x ≡ Ok x
  checked_back true x is = refl
  checked_back false x is = absurd cc

  checked_front : (b : Bool) (x : X × List ℕ) (P : X × List ℕ → Type 0) → (b ≡ true → P x) → IfOk (passed (in_range b) x) P
  checked_front true x P h = h refl
  checked_front false x P h = tt

  pub checked : Reads A X Ga sa ma ra → Reads A X (λ a. Ga a × (test (ma a) ≡ true)) sa ma (λ bytes. ra bytes >>= λ x. passed (in_range (test x.0)) x)
  checked first = record {
    back = λ a rest (good, passes). bound (ra (sa a ++ rest)) (λ x. passed (in_range (test x.0)) x) (ma a, rest) (Ok (ma a, rest)) (first.back a rest good) (checked_back (test (ma a)) (ma a, rest) passes);
    front = λ bytes are. then_has (ra bytes) (λ x. passed (in_range (test x.0)) x) (λ r. (a : A) × (r.0 ≡ ma a) × Ga a × Spelled bytes (sa a) r.1) (λ r. (a : A) × (r.0 ≡ ma a) × (Ga a × (test (ma a) ≡ true)) × Spelled bytes (sa a) r.1) (first.front bytes are)
        (λ (x, rest) (a, is, good, s). checked_front (test x) (x, rest) (λ r. (a : A) × (r.0 ≡ ma a) × (Ga a × (test (ma a) ≡ true)) × Spelled bytes (sa a) r.1) (λ passes. (a, is, (good, ap test (sym is) ∙ passes), s)));
  }

-- ---- so many, one behind another

module _ (X : Type 0) (Good : X → Type 0) (spell : X → List ℕ) (read : List ℕ → Read X) where
  rows_back : Reads X X Good spell (λ x. x) read → (xs : List X) (rest : List ℕ) → AllByRecursion Good xs → rows_from read (length xs) (flat_map spell xs ++ rest) ≡ Ok (xs, rest)
  unfolding rows_from
  rows_back each [] rest good = refl
  rows_back each (x ∷ xs) rest good =
      let others = flat_map spell xs ++ rest in
      let parts : flat_map spell (x ∷ xs) ++ rest ≡ spell x ++ others = ap (λ l. l ++ rest) (flat_map-cons spell x xs) ∙ append_assoc (spell x) (flat_map spell xs) rest in
      bound (read (flat_map spell (x ∷ xs) ++ rest)) (λ first. rows_from read (length xs) first.1 >>= λ more. Ok (first.0 ∷ more.0, more.1)) (x, others) (Ok (x ∷ xs, rest)) (ap read parts ∙ each.back x others good.0)
      (bound (rows_from read (length xs) others) (λ more. Ok (x ∷ more.0, more.1)) (xs, rest) (Ok (x ∷ xs, rest)) (rows_back each xs rest good.1) refl)

  abbrev AreRows : List ℕ → ℕ → List X × List ℕ → Type 0
  AreRows bytes count r = AllByRecursion Good r.0 × (length r.0 ≡ count) × Spelled bytes (flat_map spell r.0) r.1

  rows_front : Reads X X Good spell (λ x. x) read → (count : ℕ) (bytes : List ℕ) → AreBytes bytes → IfOk (rows_from read count bytes) (AreRows bytes count)
  unfolding rows_from
  rows_front each zero bytes are = (tt, refl, record { parts = refl; rest_bytes = are })
  rows_front each (suc count) bytes are =
      then_has (read bytes) (λ first. rows_from read count first.1 >>= λ more. Ok (first.0 ∷ more.0, more.1)) (λ r. (a : X) × (r.0 ≡ a) × Good a × Spelled bytes (spell a) r.1) (AreRows bytes (suc count)) (each.front bytes are)
      (λ (x, rest) (a, is, good, s). then_has (rows_from read count rest) (λ more. Ok (x ∷ more.0, more.1)) (AreRows rest count) (AreRows bytes (suc count)) (rows_front each count rest s.rest_bytes)
      (λ (xs, end) (all, long, t). (
        (subst Good (sym is) good, all),
        ap suc long,
        record {
          parts = (one_after bytes (spell a) rest (flat_map spell xs) end s t).parts ∙ ap (λ z. spell z ++ flat_map spell xs ++ end) (sym is) ∙ ap (λ l. l ++ end) (sym (flat_map-cons spell x xs));
          rest_bytes = t.rest_bytes;
        },
      )))

  -- behind their number
  module _ (count_spelled : ℕ → List ℕ) (Few : ℕ → Type 0) (count_at : List ℕ → Read ℕ) where
    abbrev counted_spelled : List X → List ℕ
    counted_spelled xs = count_spelled (length xs) ++ flat_map spell xs

    abbrev AreFew : List X → Type 0
    AreFew xs = AllByRecursion Good xs × Few (length xs)

    pub counted : Reads X X Good spell (λ x. x) read → Reads ℕ ℕ Few count_spelled (λ n. n) count_at → Reads (List X) (List X) AreFew counted_spelled (λ xs. xs) (λ bytes. count_at bytes >>= λ count. rows_from read count.0 count.1)
    counted each number = record {
      back = λ xs rest (good, few). bound (count_at (counted_spelled xs ++ rest)) (λ count. rows_from read count.0 count.1) (length xs, flat_map spell xs ++ rest) (Ok (xs, rest))
          (ap count_at (append_assoc (count_spelled (length xs)) (flat_map spell xs) rest) ∙ number.back (length xs) (flat_map spell xs ++ rest) few) (rows_back each xs rest good);
      front = λ bytes are. then_has (count_at bytes) (λ count. rows_from read count.0 count.1) (λ r. (n : ℕ) × (r.0 ≡ n) × Few n × Spelled bytes (count_spelled n) r.1) (λ r. (xs : List X) × (r.0 ≡ xs) × AreFew xs × Spelled bytes (counted_spelled xs) r.1) (number.front bytes are)
          (λ (count, rest) (n, is, few, s). of bytes count rest n is few s (rows_from read count rest) (rows_front each count rest s.rest_bytes));
    } where
      of : (bytes : List ℕ) (count : ℕ) (rest : List ℕ) (n : ℕ) → count ≡ n → Few n → Spelled bytes (count_spelled n) rest → (r : Read (List X)) → IfOk r (AreRows rest count) → IfOk r (λ y. (xs : List X) × (y.0 ≡ xs) × AreFew xs × Spelled bytes (counted_spelled xs) y.1)
      of bytes count rest n is few s (Ok (xs, end)) (all, long, t) =
          let same : n ≡ length xs = sym is ∙ sym long in
          (xs, refl, (all, subst Few same few), one_after bytes (count_spelled (length xs)) rest (flat_map spell xs) end (subst (λ (m : ℕ). Spelled bytes (count_spelled m) rest) same s) t)
      of bytes count rest n is few s (Err e) h = tt

-- ---- the same by other parts

module _ (A B X : Type 0) (Ga : A → Type 0) (sa : A → List ℕ) (ma : A → X) (Gb : B → Type 0) (sb : B → List ℕ) (mb : B → X) (read : List ℕ → Read X) (to : B → A) (from : A → B) where
  pub by_parts : Reads A X Ga sa ma read → ((b : B) → Gb b → Ga (to b) × (ma (to b) ≡ mb b) × (sa (to b) ≡ sb b)) → ((a : A) → Ga a → Gb (from a) × (ma a ≡ mb (from a)) × (sa a ≡ sb (from a))) → Reads B X Gb sb mb read
  by_parts law forth back = record {
    back = λ b rest good. let (fine, made, spelled) = forth b good in
        subst (λ (l : List ℕ). read (l ++ rest) ≡ Ok (mb b, rest)) spelled (law.back (to b) rest fine ∙ ap (λ x. Ok (x, rest)) made);
    front = λ bytes are. of bytes (read bytes) (law.front bytes are);
  } where
    of : (bytes : List ℕ) (r : Read X) → IfOk r (λ y. (a : A) × (y.0 ≡ ma a) × Ga a × Spelled bytes (sa a) y.1) → IfOk r (λ y. (b : B) × (y.0 ≡ mb b) × Gb b × Spelled bytes (sb b) y.1)
    of bytes (Ok y) (a, is, good, s) = let (fine, made, spelled) = back a good in (from a, is ∙ made, fine, subst (λ (l : List ℕ). Spelled bytes l y.1) spelled s)
    of bytes (Err e) h = tt
