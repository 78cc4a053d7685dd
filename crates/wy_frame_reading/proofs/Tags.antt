-- What stands behind a byte that names its form.
use Rattle.std.proofs.Common.{◌≡◌, ℕ, zero, suc, ◌+◌, Bool, true, false, List, [], ◌∷◌, ◌++◌, map, Option, Some, Ok, Err, refl, sym, ap, ◌∙◌, subst, arith}
use Rattle.std.specs.Prelude.{None as Absent}
use Rattle.std.specs.Prelude.{IfOk, ◌==◌, option_map, slice_get}
use Rattle.std.specs.Int.{w8}
use Rattle.std.proofs.lemmas.Bool.{eqb-true}
use Rattle.std.proofs.lemmas.Option.{slice_get-map}
use Rattle.wy_payload.specs.Rules.{in_range}
use Rattle.wy_payload.specs.Reading.{◌>>=◌, Read, passed, known_tag, number_at}
use Rattle.wy_payload.proofs.Readers.{then_has}
use Rattle.wy_frame_reading.proofs.Readers.{AreBytes, Reads, Spelled, bound, one_after}
use Rattle.wy_frame_reading.proofs.Numbers.{byte, byte_back}

-- ---- tags are their places in a list

-- so many numbers from one on
abbrev pub numbers_from : ℕ → ℕ → List ℕ
numbers_from n zero = []
numbers_from n (suc count) = n ∷ numbers_from (suc n) count

place_of : (n count i k : ℕ) → slice_get (numbers_from n count) i ≡ Some k → k ≡ n + i
place_of n zero i k is = absurd cc
place_of n (suc count) zero k is = let same : n ≡ k = cc in omega (arith, same)
place_of n (suc count) (suc i) k is = omega (arith, place_of (suc n) count i k is)

pub tag_is : {T : Type 0} (number_of : T → ℕ) (tags : List T) (n count : ℕ) → map number_of tags ≡ numbers_from n count → (i : ℕ) (tag : T) → slice_get tags i ≡ Some tag → number_of tag ≡ n + i
tag_is number_of tags n count all i tag is = place_of n count i (number_of tag) (ap (λ l. slice_get l i) (sym all) ∙ slice_get-map number_of tags i ∙ ap (option_map number_of) is)

-- ---- a sum of forms

module _ (T X : Type 0) (tag_of : ℕ → Option T) (number_of : T → ℕ) (tag : X → T) (body : X → List ℕ) (Good : X → Type 0) (read_of : T → List ℕ → Read X) where
  -- a thing of this form is read behind its tag
  abbrev pub Behind : T → List ℕ → X × List ℕ → Type 0
  Behind t bytes r = (tag r.0 ≡ t) × Good r.0 × Spelled bytes (body r.0) r.1

  pub behind_as : (A : Type 0) (Ga : A → Type 0) (sa : A → List ℕ) (ma : A → X) (t : T) → Reads A X Ga sa ma (read_of t) → ((a : A) → Ga a → (tag (ma a) ≡ t) × Good (ma a) × (body (ma a) ≡ sa a)) → (bytes : List ℕ) → AreBytes bytes → IfOk (read_of t bytes) (Behind t bytes)
  behind_as A Ga sa ma t law fine bytes are = of (read_of t bytes) (law.front bytes are) where
    of : (r : Read X) → IfOk r (λ y. (a : A) × (y.0 ≡ ma a) × Ga a × Spelled bytes (sa a) y.1) → IfOk r (Behind t bytes)
    of (Ok (x, rest)) (a, is, good, s) =
        let (form, has, spelled) = fine a good in
        (ap tag is ∙ form, subst Good (sym is) has, subst (λ (l : List ℕ). Spelled bytes l rest) (sym spelled ∙ ap body (sym is)) s)
    of (Err e) h = tt

  abbrev tagged_spelled : X → List ℕ
  tagged_spelled x = number_of (tag x) ∷ body x

  abbrev Found : List ℕ → X × List ℕ → Type 0
  Found bytes r = (x : X) × (r.0 ≡ x) × Good x × Spelled bytes (tagged_spelled x) r.1

  module _ (known : (x : X) → Good x → tag_of (number_of (tag x)) ≡ Some (tag x)) (placed : (b : ℕ) (t : T) → tag_of b ≡ Some t → number_of t ≡ b) where
    -- the tag of some byte
    abbrev pub CanBe : T → Type 0
    CanBe t = (b : ℕ) × (tag_of b ≡ Some t)

    pub tagged : ((x : X) (rest : List ℕ) → Good x → read_of (tag x) (body x ++ rest) ≡ Ok (x, rest)) → ((t : T) → CanBe t → (bytes : List ℕ) → AreBytes bytes → IfOk (read_of t bytes) (Behind t bytes))
        → Reads X X Good tagged_spelled (λ x. x) (λ bytes. number_at w8 bytes >>= λ b. known_tag (tag_of b.0) b.1 >>= λ t. read_of t.0 t.1)
    tagged forth back = record {
      back = λ x rest good. let b = number_of (tag x) in let text = body x ++ rest in
          bound (number_at w8 (b ∷ text)) (λ b. known_tag (tag_of b.0) b.1 >>= λ t. read_of t.0 t.1) (b, text) (Ok (x, rest)) (byte_back b text)
          (bound (known_tag (tag_of b) text) (λ t. read_of t.0 t.1) (tag x, text) (Ok (x, rest)) (ap (λ o. known_tag o text) (known x good)) (forth x rest good));
      front = λ bytes are. then_has (number_at w8 bytes) (λ b. known_tag (tag_of b.0) b.1 >>= λ t. read_of t.0 t.1) (λ r. (m : ℕ) × (r.0 ≡ m) × _ × Spelled bytes (m ∷ []) r.1) (Found bytes) (byte.front bytes are)
          (λ (b, rest) (m, is, small, s). of bytes rest b (tag_of b) refl (subst (λ (n : ℕ). Spelled bytes (n ∷ []) rest) (sym is) s));
    } where
      joined : (bytes rest : List ℕ) (b : ℕ) (t : T) → number_of t ≡ b → Spelled bytes (b ∷ []) rest → (r : Read X) → IfOk r (Behind t rest) → IfOk r (Found bytes)
      joined bytes rest b t numbered s (Ok (x, end)) (form, good, u) =
          (x, refl, good, subst (λ (n : ℕ). Spelled bytes (n ∷ body x) end) (sym numbered ∙ ap number_of (sym form)) (one_after bytes (b ∷ []) rest (body x) end s u))
      joined bytes rest b t numbered s (Err e) h = tt

      of : (bytes rest : List ℕ) (b : ℕ) (o : Option T) → tag_of b ≡ o → Spelled bytes (b ∷ []) rest → IfOk (known_tag o rest >>= λ t. read_of t.0 t.1) (Found bytes)
      of bytes rest b Absent is s = tt
      of bytes rest b (Some t) is s = joined bytes rest b t (placed b t is) s (read_of t rest) (back t (b, is) rest s.rest_bytes)

-- ---- one letter

module _ (A X : Type 0) (Ga : A → Type 0) (sa : A → List ℕ) (ma : A → X) (read : List ℕ → Read X) (letter : ℕ) where
  abbrev Lettered : List ℕ → X × List ℕ → Type 0
  Lettered bytes r = (a : A) × (r.0 ≡ ma a) × Ga a × Spelled bytes (letter ∷ sa a) r.1

  pub lettered : Reads A X Ga sa ma read → Reads A X Ga (λ a. letter ∷ sa a) ma (λ bytes. number_at w8 bytes >>= λ b. passed (in_range (b.0 == letter)) b.1 >>= λ rest. read rest)
  lettered law = record {
    back = λ a rest good. let text = sa a ++ rest in
        bound (number_at w8 (letter ∷ text)) (λ b. passed (in_range (b.0 == letter)) b.1 >>= λ rest. read rest) (letter, text) (Ok (ma a, rest)) (byte_back letter text)
        (bound (passed (in_range (letter == letter)) text) (λ rest. read rest) text (Ok (ma a, rest)) (ap (λ b. passed (in_range b) text) (same letter)) (law.back a rest good));
    front = λ bytes are. then_has (number_at w8 bytes) (λ b. passed (in_range (b.0 == letter)) b.1 >>= λ rest. read rest) (λ r. (m : ℕ) × (r.0 ≡ m) × _ × Spelled bytes (m ∷ []) r.1) (Lettered bytes) (byte.front bytes are)
        (λ (b, rest) (m, is, small, s). of bytes rest b (b == letter) refl (subst (λ (n : ℕ). Spelled bytes (n ∷ []) rest) (sym is) s));
  } where
    same : (n : ℕ) → (n == n) ≡ true
    same n = grind arith

    joined : (bytes rest : List ℕ) → Spelled bytes (letter ∷ []) rest → (r : Read X) → IfOk r (λ y. (a : A) × (y.0 ≡ ma a) × Ga a × Spelled rest (sa a) y.1) → IfOk r (Lettered bytes)
    joined bytes rest s (Ok (x, end)) (a, is, good, u) = (a, is, good, one_after bytes (letter ∷ []) rest (sa a) end s u)
    joined bytes rest s (Err e) h = tt

    of : (bytes rest : List ℕ) (b : ℕ) (t : Bool) → (b == letter) ≡ t → Spelled bytes (b ∷ []) rest → IfOk (passed (in_range t) rest >>= λ rest. read rest) (Lettered bytes)
    of bytes rest b true is s = let here = subst (λ (n : ℕ). Spelled bytes (n ∷ []) rest) (eqb-true b letter is) s in joined bytes rest here (read rest) (law.front rest here.rest_bytes)
    of bytes rest b false is s = tt
