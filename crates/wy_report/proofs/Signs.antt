-- Bytes that have not a sign, and how they are read over.
use Rattle.std.proofs.Common.{◌≡◌, ◌≢◌, ◌∙◌, ◌+◌, ◌<◌, ◌/◌, ◌%◌, ℕ, zero, suc, Bool, true, false, List, [], ◌∷◌, ◌++◌, Some, refl, sym, ap, append_assoc, append-nil, ne_eqb, arith}
use Rattle.std.specs.Prelude.{None as Absent}
use Rattle.std.specs.Prelude.{◌==◌, if◌then◌else◌, nat_lt}
use Rattle.std.specs.Fmt.{decimal, digit_glyph, digits, digits_onto}
use Rattle.std.proofs.Math.Nat.{mod-lt}
use Rattle.std.proofs.lemmas.Bool.{false≢true}
use Rattle.wy_report.specs.declared.piece.Target.{Target}
use Rattle.wy_report.specs.declared.piece.Target.TheVariants.{Line, Event}
use Rattle.wy_report.specs.Escapes.{IsEntity, IsText, ampersand, byte, entity, greater, less, nothing, quote}
use Rattle.wy_report.specs.Pieces.{target_text}
use Rattle.wy_report.specs.Reading.{enclosed_from}

abbrev pub lacks : ℕ → List ℕ → Bool
lacks n [] = true
lacks n (b ∷ x) = if b == n then false else lacks n x

pub lacks_both : (n : ℕ) (x y : List ℕ) → lacks n x ≡ true → lacks n y ≡ true → lacks n (x ++ y) ≡ true
lacks_both n [] y first second = second
lacks_both n (b ∷ x) y first second = go (b == n) first (λ is. lacks_both n x y is second)
  where
    go : (t : Bool) → (if t then false else lacks n x) ≡ true → (lacks n x ≡ true → lacks n (x ++ y) ≡ true) → (if t then false else lacks n (x ++ y)) ≡ true
    go true is more = is
    go false is more = more is

-- ---- reading

module _ (first last : ℕ) where
  pub outside : (x rest : List ℕ) → lacks first x ≡ true → enclosed_from first last Absent (x ++ rest) ≡ enclosed_from first last Absent rest
  outside [] rest is = refl
  outside (b ∷ x) rest is = go (b == first) is (outside x rest)
    where
      go : (t : Bool) → (if t then false else lacks first x) ≡ true → (lacks first x ≡ true → enclosed_from first last Absent (x ++ rest) ≡ enclosed_from first last Absent rest)
          → enclosed_from first last (if t then Some [] else Absent) (x ++ rest) ≡ enclosed_from first last Absent rest
      go true not_so more = absurd (false≢true not_so)
      go false so more = more so

  pub inside : (held x rest : List ℕ) → lacks last x ≡ true → enclosed_from first last (Some held) (x ++ rest) ≡ enclosed_from first last (Some (held ++ x)) rest
  inside held [] rest is = ap (λ h. enclosed_from first last (Some h) rest) (sym (append-nil held))
  inside held (b ∷ x) rest is = go (b == last) is (inside (held ++ b ∷ []) x rest)
    where
      go : (t : Bool) → (if t then false else lacks last x) ≡ true
          → (lacks last x ≡ true → enclosed_from first last (Some (held ++ b ∷ [])) (x ++ rest) ≡ enclosed_from first last (Some ((held ++ b ∷ []) ++ x)) rest)
          → (if t then held ∷ enclosed_from first last Absent (x ++ rest) else enclosed_from first last (Some (held ++ b ∷ [])) (x ++ rest)) ≡ enclosed_from first last (Some (held ++ b ∷ x)) rest
      go true not_so more = absurd (false≢true not_so)
      go false so more = more so ∙ ap (λ h. enclosed_from first last (Some h) rest) (append_assoc held (b ∷ []) x)

-- ---- text has no sign of a tag or of an attribute

module _ (n : ℕ) (apart : (b : ℕ) → b ≢ 60 → b ≢ 62 → b ≢ 34 → b ≢ n) (entities : (e rest : List ℕ) → IsEntity e → lacks n (e ++ rest) ≡ lacks n rest) where
  text_lacks : (x : List ℕ) → IsText x → lacks n x ≡ true
  text_lacks _ nothing = refl
  text_lacks _ (byte b rest a l g q is) = ap (λ t. if t then false else lacks n rest) (ne_eqb b n (apart b l g q)) ∙ text_lacks rest is
  text_lacks _ (entity e rest of is) = entities e rest of ∙ text_lacks rest is

over_entity : (e rest : List ℕ) → IsEntity e → (lacks 34 (e ++ rest) ≡ lacks 34 rest) × (lacks 60 (e ++ rest) ≡ lacks 60 rest) × (lacks 62 (e ++ rest) ≡ lacks 62 rest)
over_entity _ rest ampersand = (refl, refl, refl)
over_entity _ rest less = (refl, refl, refl)
over_entity _ rest greater = (refl, refl, refl)
over_entity _ rest quote = (refl, refl, refl)

pub no_quote : (x : List ℕ) → IsText x → lacks 34 x ≡ true
no_quote = text_lacks 34 (λ b l g q. q) (λ e rest is. (over_entity e rest is).0)

pub no_less : (x : List ℕ) → IsText x → lacks 60 x ≡ true
no_less = text_lacks 60 (λ b l g q. l) (λ e rest is. (over_entity e rest is).1)

pub no_greater : (x : List ℕ) → IsText x → lacks 62 x ≡ true
no_greater = text_lacks 62 (λ b l g q. g) (λ e rest is. (over_entity e rest is).2)

-- ---- numbers and names of places are text

glyph_is : (t : Bool) (d n : ℕ) → 48 + d ≢ n → 87 + d ≢ n → (if t then 48 + d else (if false then 55 + d else 87 + d)) ≢ n
glyph_is true d n low high = low
glyph_is false d n low high = high

digit_text : (d : ℕ) (rest : List ℕ) → d < 10 → IsText rest → IsText (digit_glyph false d ∷ rest)
digit_text d rest lt is =
    let t = nat_lt d 10 in
    byte (digit_glyph false d) rest (glyph_is t d 38 (λ e. omega (arith, e)) (λ e. omega (arith, e))) (glyph_is t d 60 (λ e. omega (arith, e, lt)) (λ e. omega (arith, e)))
    (glyph_is t d 62 (λ e. omega (arith, e, lt)) (λ e. omega (arith, e))) (glyph_is t d 34 (λ e. omega (arith, e)) (λ e. omega (arith, e))) is

onto_text : (k n : ℕ) (acc : List ℕ) → IsText acc → IsText (digits_onto k 10 false n acc)
onto_text zero n acc is = is
onto_text (suc k) n acc is =
    let more = digit_text (n % 10) acc (mod-lt n (omega arith)) is in
    either (n / 10 == 0) more (onto_text k (n / 10) (digit_glyph false (n % 10) ∷ acc) more)
  where
    either : (t : Bool) {x y : List ℕ} → IsText x → IsText y → IsText (if t then x else y)
    either true first second = first
    either false first second = second

pub number_text : (n : ℕ) → IsText (decimal n)
unfolding digits
number_text n = onto_text 64 n [] nothing

letter_text : (b : ℕ) (rest : List ℕ) → 62 < b → IsText rest → IsText (b ∷ rest)
letter_text b rest lt is = byte b rest (λ e. omega (arith, e, lt)) (λ e. omega (arith, e, lt)) (λ e. omega (arith, e, lt)) (λ e. omega (arith, e, lt)) is

pub name_text : (place : Target) → IsText (target_text place)
name_text (Line k) = letter_text 76 (decimal k) (omega arith) (number_text k)
name_text (Event n) = letter_text 101 (decimal n) (omega arith) (number_text n)
