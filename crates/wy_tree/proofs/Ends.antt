-- How the pieces of a text end: none but white space ends in a CR, and no CR stands apart from the LF behind it.
use Rattle.std.proofs.Common.{ℕ, zero, suc, ◌+◌, ◌*◌, ◌-◌, ◌≡◌, Bool, true, false, not, ◌&&◌, ◌||◌, ◌==◌, List, [], ◌∷◌, ◌++◌, length, take, drop, Option, Some, None, refl, sym, ◌∙◌, ap, arith, append_assoc}
use Rattle.std.specs.Prelude.{nat_le, option_map, if◌then◌else◌}
use Rattle.std.specs.Char.{digit_value}
use Rattle.std.specs.List.{list_all, prefix_len}
use Rattle.std.specs.Str.{continuation_len, lead_bits, bytes_eq}
use Rattle.std.proofs.lemmas.Bool.{eqb-true, eq-eqb}
use Rattle.std.proofs.lemmas.Slice.Eq.{bytes_eq-Decides}
use Rattle.std.proofs.lemmas.List.{take-append-drop}
use Rattle.wy_tree.specs.Bytes.{is_line_end, is_octal_digit, goes_on_word, goes_on_number, is_among}
use Rattle.wy_tree.specs.Pieces.{Piece, Between, Lexeme, Fault, Class, Blank, Name, Number, LineComment, BlockComment, Character, Quoted, Other, close_at, name_of, judged, closed_comment, char_piece, text_piece, piece_of_class}
use Rattle.wy_tree.specs.Seen.{Sign}
use Rattle.wy_tree.specs.Numbers.{number_of}
use Rattle.wy_tree.specs.Words.{signs, is_sign}
use Rattle.wy_tree.specs.Literals.{simple_escape, octal_digit, or_else, third_digit, second_digit, octal_escape, are_hexadecimal, is_special, unit_of_hexadecimal, four_digits, unicode_escape, escape_of, escape, continued, first_char, Element, one_unit, one_char, element, with_units, followed_by, text_from, text_literal, closed_by, closed, char_literal}

-- ---- the last byte

-- of these bytes, or the one before them
abbrev pub last_byte : ℕ → List ℕ → ℕ
last_byte before [] = before
last_byte before (b ∷ bytes) = last_byte b bytes

pub last_byte-append : (before : ℕ) (xs ys : List ℕ) → last_byte before (xs ++ ys) ≡ last_byte (last_byte before xs) ys
last_byte-append before [] ys = refl
last_byte-append before (x ∷ xs) ys = last_byte-append x xs ys

-- ---- what is left behind a literal's element

abbrev pub EndsAs : List ℕ → List ℕ → Type 0
EndsAs rest bytes = (front : List ℕ) × (bytes ≡ front ++ rest)

ends_behind : (b : ℕ) (rest bytes : List ℕ) → EndsAs rest bytes → EndsAs rest (b ∷ bytes)
ends_behind b rest bytes e = (b ∷ e.0, ap (λ l. b ∷ l) e.1)

ends_within : (rest middle bytes : List ℕ) → EndsAs rest middle → EndsAs middle bytes → EndsAs rest bytes
ends_within rest middle bytes d e = (e.0 ++ d.0, e.1 ∙ ap (λ l. e.0 ++ l) d.1 ∙ sym (append_assoc e.0 d.0 rest))

-- a number and the bytes behind it, and units and the bytes behind them
abbrev Leaves : {X : Type 0} → List ℕ → Option (X × List ℕ) → Type 0
Leaves bytes None = Unit {0}
Leaves bytes (Some x) = EndsAs x.1 bytes

leaves_within : {X : Type 0} (middle bytes : List ℕ) (o : Option (X × List ℕ)) → EndsAs middle bytes → Leaves middle o → Leaves bytes o
leaves_within middle bytes None e l = tt
leaves_within middle bytes (Some x) e l = ends_within x.1 middle bytes l e

leaves_if : {X : Type 0} (bytes : List ℕ) (c : Bool) (o p : Option (X × List ℕ)) → Leaves bytes o → Leaves bytes p → Leaves bytes (if c then o else p)
leaves_if bytes true o p l m = l
leaves_if bytes false o p l m = m

leaves_octal : (n : ℕ) (bytes : List ℕ) → Leaves bytes (octal_digit n bytes)
unfolding octal_digit
leaves_octal n [] = tt
leaves_octal n (b ∷ bytes) = leaves_if (b ∷ bytes) (is_octal_digit b) _ None (b ∷ [], refl) tt

ends_or_else : (bytes : List ℕ) (o : Option (ℕ × List ℕ)) (x : ℕ × List ℕ) → Leaves x.1 o → EndsAs x.1 bytes → EndsAs (or_else o x).1 bytes
ends_or_else bytes None x l e = e
ends_or_else bytes (Some y) x l e = ends_within y.1 x.1 bytes l e

ends_third : (bytes : List ℕ) (more : Bool) (x : ℕ × List ℕ) → EndsAs x.1 bytes → EndsAs (third_digit more x).1 bytes
ends_third bytes true x e = ends_or_else bytes (octal_digit x.0 x.1) x (leaves_octal x.0 x.1) e
ends_third bytes false x e = e

ends_second : (bytes : List ℕ) (more : Bool) (o : Option (ℕ × List ℕ)) (y : ℕ × List ℕ) → Leaves bytes o → EndsAs y.1 bytes → EndsAs (second_digit more o y).1 bytes
ends_second bytes more None y l e = e
ends_second bytes more (Some x) y l e = ends_third bytes more x l

ends_octal : (first : ℕ) (bytes : List ℕ) → EndsAs (octal_escape first bytes).1 bytes
unfolding octal_escape
ends_octal first bytes = ends_second bytes (nat_le first 51) (octal_digit (first - 48) bytes) (first - 48, bytes) (leaves_octal (first - 48) bytes) ([], refl)

leaves_hexadecimal : (u a b c d : ℕ) (bytes : List ℕ) → Leaves (a ∷ b ∷ c ∷ d ∷ bytes) (unit_of_hexadecimal u bytes)
leaves_hexadecimal u a b c d bytes = leaves_if (a ∷ b ∷ c ∷ d ∷ bytes) (is_special u) None (Some (u, bytes)) tt (a ∷ b ∷ c ∷ d ∷ [], refl)

leaves_four : (bytes : List ℕ) → Leaves bytes (four_digits bytes)
unfolding four_digits
leaves_four [] = tt
leaves_four (a ∷ []) = tt
leaves_four (a ∷ b ∷ []) = tt
leaves_four (a ∷ b ∷ c ∷ []) = tt
leaves_four (a ∷ b ∷ c ∷ d ∷ bytes) =
    leaves_if (a ∷ b ∷ c ∷ d ∷ bytes) (are_hexadecimal a b c d) _ None (leaves_hexadecimal (16 * (16 * (16 * digit_value a + digit_value b) + digit_value c) + digit_value d) a b c d bytes) tt

leaves_unicode : (bytes : List ℕ) → Leaves bytes (unicode_escape bytes)
unfolding unicode_escape
leaves_unicode bytes =
    let k = prefix_len (λ b. b == 117) bytes in
    leaves_within (drop k bytes) bytes _ (take k bytes, sym (take-append-drop k bytes)) (leaves_four (drop k bytes))

leaves_escape_of : (o : Option ℕ) (b : ℕ) (bytes : List ℕ) → Leaves bytes (escape_of o b bytes)
leaves_escape_of (Some u) b bytes = ([], refl)
leaves_escape_of None b bytes = leaves_if bytes (is_octal_digit b) _ _ (ends_octal b bytes) (leaves_if bytes (b == 117) _ None (leaves_unicode bytes) tt)

leaves_escape : (bytes : List ℕ) → Leaves bytes (escape bytes)
unfolding escape
leaves_escape [] = tt
leaves_escape (b ∷ bytes) = leaves_within bytes (b ∷ bytes) _ (b ∷ [], refl) (leaves_escape_of (simple_escape b) b bytes)

leaves_continued : (n c : ℕ) (bytes : List ℕ) → Leaves bytes (continued n c bytes)
leaves_continued zero c bytes = ([], refl)
leaves_continued (suc n) c [] = tt
leaves_continued (suc n) c (b ∷ bytes) = leaves_within bytes (b ∷ bytes) _ (b ∷ [], refl) (leaves_continued n (c * 64 + (b - 128)) bytes)

leaves_unit : (bytes : List ℕ) (o : Option (ℕ × List ℕ)) → Leaves bytes o → Leaves bytes (one_unit o)
leaves_unit bytes None l = tt
leaves_unit bytes (Some x) l = l

leaves_char : (bytes : List ℕ) (o : Option (ℕ × List ℕ)) → Leaves bytes o → Leaves bytes (one_char o)
leaves_char bytes None l = tt
leaves_char bytes (Some x) l = l

leaves_element : (b : ℕ) (bytes : List ℕ) → Leaves bytes (element b bytes)
unfolding element first_char
leaves_element b bytes =
    leaves_if bytes (b == 92) _ _ (leaves_unit bytes (escape bytes) (leaves_escape bytes))
    (leaves_if bytes (is_line_end b) None _ tt (leaves_char bytes _ (leaves_continued (continuation_len b) (lead_bits b) bytes)))

-- ---- the last byte of a literal

no_option : {X : Type 0} (x : X) → None ≡ Some x → ⊥
no_option x e = cc

rest_of : {X : Type 0} (a : X) (rest : List ℕ) (x : X × List ℕ) → Some (a, rest) ≡ Some x → rest ≡ x.1
rest_of {X = X} a rest x e = let z : X × List ℕ = (a, rest) in let p : z ≡ x = cc in ap (λ (y : X × List ℕ). y.1) p

-- a character literal ends in a quote, and so does a string literal
close_last : (e : Element) (x : ℕ × List ℕ) (bytes : List ℕ) → closed_by e.0 e.1 ≡ Some x → x.1 ≡ [] → EndsAs e.1 bytes → (y : ℕ) → last_byte y bytes ≡ 39
close_last ([], rest) x bytes e l f y = absurd (no_option x e)
close_last (u ∷ [], []) x bytes e l f y = absurd (no_option x e)
close_last (u ∷ v ∷ us, rest) x bytes e l f y = absurd (no_option x e)
close_last (u ∷ [], q ∷ rest) x bytes e l f y = go (q == 39) refl e
  where
    go : (c : Bool) → (q == 39) ≡ c → (if c then Some (u, rest) else None) ≡ Some x → last_byte y bytes ≡ 39
    go false is g = absurd (no_option x g)
    go true is g =
        let left : rest ≡ [] = rest_of u rest x g ∙ l in
        ap (last_byte y) f.1 ∙ last_byte-append y f.0 (q ∷ rest) ∙ ap (λ r. last_byte q r) left ∙ eqb-true q 39 is

closed_last : (o : Option Element) (x : ℕ × List ℕ) (bytes : List ℕ) → Leaves bytes o → closed o ≡ Some x → x.1 ≡ [] → (y : ℕ) → last_byte y bytes ≡ 39
closed_last None x bytes l e m y = absurd (no_option x e)
closed_last (Some e) x bytes l g m y = close_last e x bytes g m l y

char_last : (bytes : List ℕ) (x : ℕ × List ℕ) → char_literal bytes ≡ Some x → x.1 ≡ [] → (y : ℕ) → last_byte y bytes ≡ 39
unfolding char_literal
char_last [] x e l y = absurd (no_option x e)
char_last (b ∷ bytes) x e l y = go (b == 39) e
  where
    go : (c : Bool) → (if c then None else closed (element b bytes)) ≡ Some x → last_byte b bytes ≡ 39
    go true g = absurd (no_option x g)
    go false g = closed_last (element b bytes) x bytes (leaves_element b bytes) g l b

followed_last : (from : List ℕ → Option Element) (o : Option Element) (bytes : List ℕ) (x : Element) → Leaves bytes o
    → ((rest : List ℕ) (z : Element) → from rest ≡ Some z → z.1 ≡ [] → (w : ℕ) → last_byte w rest ≡ 34) → followed_by from o ≡ Some x → x.1 ≡ [] → (y : ℕ) → last_byte y bytes ≡ 34
followed_last from None bytes x l r g m y = absurd (no_option x g)
followed_last from (Some e) bytes x l r g m y = go (from e.1) refl g
  where
    go : (o : Option Element) → from e.1 ≡ o → with_units e.0 o ≡ Some x → last_byte y bytes ≡ 34
    go None is h = absurd (no_option x h)
    go (Some z) is h = ap (last_byte y) l.1 ∙ last_byte-append y l.0 e.1 ∙ r e.1 z is (rest_of (e.0 ++ z.0) z.1 x h ∙ m) (last_byte y l.0)

text_last : (k : ℕ) (bytes : List ℕ) (x : Element) → text_from k bytes ≡ Some x → x.1 ≡ [] → (y : ℕ) → last_byte y bytes ≡ 34
unfolding text_from
text_last zero bytes x e l y = absurd (no_option x e)
text_last (suc k) [] x e l y = absurd (no_option x e)
text_last (suc k) (b ∷ bytes) x e l y = go (b == 34) refl e (text_last k)
  where
    go : (c : Bool) → (b == 34) ≡ c → (if c then Some ([], bytes) else followed_by (text_from k) (element b bytes)) ≡ Some x
        → ((rest : List ℕ) (z : Element) → text_from k rest ≡ Some z → z.1 ≡ [] → (w : ℕ) → last_byte w rest ≡ 34) → last_byte b bytes ≡ 34
    go true is g r = let none : List ℕ = [] in ap (last_byte b) (rest_of none bytes x g ∙ l) ∙ eqb-true b 34 is
    go false is g r = followed_last (text_from k) (element b bytes) bytes x (leaves_element b bytes) r g l b

-- ---- the last byte of a piece

both_true : (x y : Bool) → (x && y) ≡ true → (x ≡ true) × (y ≡ true)
both_true true y e = (refl, e)
both_true false y e = absurd (cc)

last_passes : (p : ℕ → Bool) (b : ℕ) (bytes : List ℕ) → list_all p (b ∷ bytes) ≡ true → p (last_byte b bytes) ≡ true
last_passes p b [] e = (both_true (p b) true e).0
last_passes p b (c ∷ bytes) e = last_passes p c bytes (both_true (p b) (list_all p (c ∷ bytes)) e).1

-- up to the first "*/" and no further: the last byte is "/"
comment_last : (bytes : List ℕ) (k : ℕ) → close_at bytes ≡ Some k → k ≡ length bytes → (y : ℕ) → last_byte y bytes ≡ 47
unfolding close_at
comment_last [] k e l y = absurd (no_option k e)
comment_last (b ∷ []) k e l y = absurd (no_option k e)
comment_last (b ∷ c ∷ bytes) k e l y = go (b == 42 && c == 47) refl e (comment_last (c ∷ bytes))
  where
    shorter : (o : Option ℕ) → option_map (λ n. 1 + n) o ≡ Some k → (j : ℕ) × (o ≡ Some j) × (k ≡ 1 + j)
    shorter None g = absurd (no_option k g)
    shorter (Some j) g = (j, refl, cc)

    nothing_left : (rest : List ℕ) → 2 ≡ length (b ∷ c ∷ rest) → rest ≡ []
    nothing_left [] g = refl
    nothing_left (d ∷ rest) g = absurd (omega (arith, g))

    go : (t : Bool) → (b == 42 && c == 47) ≡ t → (if t then Some 2 else option_map (λ n. 1 + n) (close_at (c ∷ bytes))) ≡ Some k
        → ((j : ℕ) → close_at (c ∷ bytes) ≡ Some j → j ≡ length (c ∷ bytes) → (z : ℕ) → last_byte z (c ∷ bytes) ≡ 47) → last_byte c bytes ≡ 47
    go true is g r = let two : 2 ≡ k = cc in ap (last_byte c) (nothing_left bytes (two ∙ l)) ∙ eqb-true c 47 (both_true (b == 42) (c == 47) is).1
    go false is g r = let s = shorter (close_at (c ∷ bytes)) g in r s.0 s.1 (omega (arith, s.2, l)) b

among_last : (words : List (List ℕ)) (w : List ℕ) → is_among words w ≡ true → list_all (λ x. not (last_byte 0 x == 13)) words ≡ true → last_byte 0 w ≡ 13 → ⊥
among_last [] w e all last = absurd (cc)
among_last (x ∷ words) w e all last = go (bytes_eq x w) refl e (among_last words w)
  where
    go : (t : Bool) → bytes_eq x w ≡ t → (t || is_among words w) ≡ true → (is_among words w ≡ true → list_all (λ v. not (last_byte 0 v == 13)) words ≡ true → last_byte 0 w ≡ 13 → ⊥) → ⊥
    go true is g r =
        let same : x ≡ w = (bytes_eq-Decides x w).0 is in
        let f : not (last_byte 0 x == 13) ≡ true = (both_true (not (last_byte 0 x == 13)) (list_all (λ v. not (last_byte 0 v == 13)) words) all).0 in
        let t : (last_byte 0 x == 13) ≡ true = eq-eqb (last_byte 0 x) 13 (ap (last_byte 0) same ∙ last) in
        let h : not true ≡ true = ap not (sym t) ∙ f in absurd (cc)
    go false is g r = r g (both_true (not (last_byte 0 x == 13)) (list_all (λ v. not (last_byte 0 v == 13)) words) all).1 last

sign_last : (w : List ℕ) → is_sign w ≡ true → last_byte 0 w ≡ 13 → ⊥
unfolding is_sign signs
sign_last w e last = among_last signs w e refl last

the_fault : (p : Piece) → Some Fault ≡ Some p → p ≡ Fault
the_fault p e = cc

-- a piece that ends in a CR has no other byte
pub ends_in_cr : (c : Class) (b : ℕ) (bytes : List ℕ) (p : Piece) → (p ≡ Fault → ⊥) → piece_of_class c (b ∷ bytes) ≡ Some p → last_byte b bytes ≡ 13 → bytes ≡ []
ends_in_cr Blank b [] p fits e last = refl
ends_in_cr Blank b (c ∷ []) p fits e last = go (b == 13 && c == 10) refl e
  where
    go : (t : Bool) → (b == 13 && c == 10) ≡ t → (if t then Some Between else None) ≡ Some p → c ∷ [] ≡ []
    go true is g = let ten : c ≡ 10 = eqb-true c 10 (both_true (b == 13) (c == 10) is).1 in absurd (omega (arith, ten, last))
    go false is g = absurd (no_option p g)
ends_in_cr Blank b (c ∷ d ∷ bytes) p fits e last = absurd (no_option p e)
ends_in_cr Name b bytes p fits e last = go (list_all goes_on_word (b ∷ bytes)) refl e
  where
    go : (t : Bool) → list_all goes_on_word (b ∷ bytes) ≡ t → (if t then Some (Lexeme (name_of (b ∷ bytes))) else None) ≡ Some p → bytes ≡ []
    go true is g = let h = ap goes_on_word (sym last) ∙ last_passes goes_on_word b bytes is in absurd (cc)
    go false is g = absurd (no_option p g)
ends_in_cr Number b bytes p fits e last = go (list_all goes_on_number (b ∷ bytes)) refl e
  where
    go : (t : Bool) → list_all goes_on_number (b ∷ bytes) ≡ t → (if t then Some (judged (number_of (b ∷ bytes))) else None) ≡ Some p → bytes ≡ []
    go true is g = let h = ap goes_on_number (sym last) ∙ last_passes goes_on_number b bytes is in absurd (cc)
    go false is g = absurd (no_option p g)
ends_in_cr LineComment b bytes p fits e last = go (list_all (λ x. not (is_line_end x)) (b ∷ bytes)) refl e
  where
    go : (t : Bool) → list_all (λ x. not (is_line_end x)) (b ∷ bytes) ≡ t → (if t then Some Between else None) ≡ Some p → bytes ≡ []
    go true is g = let h = ap (λ x. not (is_line_end x)) (sym last) ∙ last_passes (λ x. not (is_line_end x)) b bytes is in absurd (cc)
    go false is g = absurd (no_option p g)
ends_in_cr BlockComment b [] p fits e last = refl
ends_in_cr BlockComment b (c ∷ bytes) p fits e last = go (close_at bytes) refl e
  where
    closed_here : (k : ℕ) (t : Bool) → close_at bytes ≡ Some k → (k == length bytes) ≡ t → (if t then Some Between else None) ≡ Some p → c ∷ bytes ≡ []
    closed_here k true is same g = let h = comment_last bytes k is (eqb-true k (length bytes) same) c in absurd (omega (arith, h, last))
    closed_here k false is same g = absurd (no_option p g)

    go : (o : Option ℕ) → close_at bytes ≡ o → closed_comment (length bytes) o ≡ Some p → c ∷ bytes ≡ []
    go None is g = absurd (fits (the_fault p g))
    go (Some k) is g = closed_here k (k == length bytes) is refl g
ends_in_cr Character b bytes p fits e last = go (char_literal bytes) refl e
  where
    go : (o : Option (ℕ × List ℕ)) → char_literal bytes ≡ o → char_piece o ≡ Some p → bytes ≡ []
    go None is g = absurd (no_option p g)
    go (Some (u, [])) is g = let h = char_last bytes (u, []) is refl b in absurd (omega (arith, h, last))
    go (Some (u, d ∷ rest)) is g = absurd (no_option p g)
ends_in_cr Quoted b bytes p fits e last = go (text_literal bytes) refl e
  where
    go : (o : Option Element) → text_literal bytes ≡ o → text_piece o ≡ Some p → bytes ≡ []
    go None is g = absurd (no_option p g)
    go (Some (us, [])) is g = let h = text_last (length bytes) bytes (us, []) is refl b in absurd (omega (arith, h, last))
    go (Some (us, d ∷ rest)) is g = absurd (no_option p g)
ends_in_cr Other b bytes p fits e last = go (is_sign (b ∷ bytes)) refl e
  where
    go : (t : Bool) → is_sign (b ∷ bytes) ≡ t → (if t then Some (Lexeme (Sign (b ∷ bytes))) else None) ≡ Some p → bytes ≡ []
    go true is g = absurd (sign_last (b ∷ bytes) is last)
    go false is g = absurd (no_option p g)
