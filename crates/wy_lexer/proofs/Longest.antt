-- What is found at the front of a text is its longest piece, or nothing fits there.
use Rattle.std.proofs.Common.{ℕ, zero, suc, ◌+◌, ◌-◌, ◌<◌, ◌≤◌, ◌≡◌, nat_eq, Bool, true, false, ◌&&◌, if◌then◌else◌, List, [], ◌∷◌, ◌++◌, length, take, drop, Option, Some, None, option_map, refl, sym, ◌∙◌, ap, ◌⊎◌, inl, inr, append-nil, length-append, arith}
use Rattle.std.proofs.lemmas.Bool.{eqb-true}
use Rattle.std.proofs.lemmas.List.{take_all, length-take-le, length-drop, take-append-drop}
use Rattle.std.proofs.lemmas.List.Sums.{prefix_len-le-length}
use Rattle.std.specs.List.{prefix_len, list_all}
use Rattle.wy_tree.specs.Seen.{Char, Text, Sign}
use Rattle.wy_tree.specs.Literals.{Element, text_literal, text_from, char_literal}
use Rattle.wy_tree.specs.Pieces.{Piece, Between, Lexeme, Fault, Class, Blank, BlockComment, Character, Quoted, Other, class_of, blank_piece, close_at, closed_comment, block_comment_piece, char_piece, text_piece, piece_of_class, piece_here, IsLongest, NothingFits}
use Rattle.wy_tree.proofs.Once.{one_piece}
use Rattle.wy_lexer.specs.Reading.{blank_found, closed_found, block_comment_found, unit_found, char_found, units_found, text_found, sign_length, sign_found}
use Rattle.wy_lexer.proofs.Ascii.{different}
use Rattle.wy_lexer.proofs.Fronts.{len_on, front_passes, longer_fails}
use Rattle.wy_lexer.proofs.Local.{char_local, text_local}
use Rattle.wy_lexer.proofs.Shorter.{UnitLess, UnitsLess, char_less, text_less}
use Rattle.wy_lexer.proofs.Signs.{IsSigned, sign_length_right}

abbrev pub Right : List ℕ → Piece → ℕ → Type 0
Right text Between n = IsLongest text n Between × (0 < n)
Right text (Lexeme t) n = IsLongest text n (Lexeme t) × (0 < n)
Right text Fault n = NothingFits text

pub right_of : (text : List ℕ) (p : Piece) (n : ℕ) → IsLongest text n p → 0 < n → Right text p n
right_of text Between n l lt = (l, lt)
right_of text (Lexeme t) n l lt = (l, lt)
right_of text Fault n l lt = λ m q k. one_piece text m n q Fault k l

nothing_right : (text : List ℕ) → ((m : ℕ) → m ≤ length text → piece_here text m ≡ None) → NothingFits text
nothing_right text f m q k = let e = f m k.within in let g = k.here in absurd (cc)

pub equal : (a b : ℕ) → a ≡ b → nat_eq a b ≡ true
equal a b e = search (arith, e)

nothing_here : (text : List ℕ) → piece_here text 0 ≡ None
unfolding piece_here
nothing_here text = refl

class_kept : (b k : ℕ) (rest : List ℕ) → class_of b (take (suc k) rest) ≡ class_of b rest
unfolding class_of
class_kept b k [] = refl
class_kept b k (c ∷ rest) = refl

abbrev pub Kept : Class → ℕ → List ℕ → ℕ → Type 0
Kept C b rest n = (k : ℕ) → n ≡ suc k → class_of b (take k rest) ≡ C

here_is : (C : Class) (b : ℕ) (rest : List ℕ) (n : ℕ) → 0 < n → Kept C b rest n → piece_here (b ∷ rest) n ≡ piece_of_class C (take n (b ∷ rest))
unfolding piece_here
here_is C b rest zero lt f = absurd (omega arith)
here_is C b rest (suc k) lt f = ap (λ z. piece_of_class z (b ∷ take k rest)) (f k refl)

pub kept_by_two : (C : Class) (b : ℕ) (rest : List ℕ) (n : ℕ) → class_of b rest ≡ C → 1 < n → Kept C b rest n
kept_by_two C b rest n e lt zero f = absurd (omega (arith, f, lt))
kept_by_two C b rest n e lt (suc k) f = class_kept b k rest ∙ e

longest_of : (C : Class) (b : ℕ) (rest : List ℕ) (n : ℕ) (p : Piece) → class_of b rest ≡ C → 0 < n → n ≤ length (b ∷ rest) → Kept C b rest n
    → piece_of_class C (take n (b ∷ rest)) ≡ Some p
    → ((m : ℕ) → n < m → m ≤ length (b ∷ rest) → piece_of_class C (take m (b ∷ rest)) ≡ None)
    → Right (b ∷ rest) p n
longest_of C b rest n p e lt le kept fits free =
    right_of (b ∷ rest) p n
    (record {
      within = le;
      here = here_is C b rest n lt kept ∙ fits;
      longest = λ m more within. here_is C b rest m (omega arith) (kept_by_two C b rest m e (omega arith)) ∙ free m more within;
    }) lt

-- a run of bytes that pass a test
pub run_right : (C : Class) (p : ℕ → Bool) (q : List ℕ → Piece) (b : ℕ) (rest : List ℕ)
    → ((bytes : List ℕ) → piece_of_class C bytes ≡ (if list_all p bytes then Some (q bytes) else None))
    → class_of b rest ≡ C → p b ≡ true → Kept C b rest (prefix_len p (b ∷ rest))
    → Right (b ∷ rest) (q (take (prefix_len p (b ∷ rest)) (b ∷ rest))) (prefix_len p (b ∷ rest))
run_right C p q b rest is e first kept =
    let all : List ℕ = b ∷ rest in
    let n = prefix_len p all in
    let f = len_on p b rest first in
    longest_of C b rest n (q (take n all)) e (omega (arith, f)) (prefix_len-le-length p all) kept
    (is (take n all) ∙ ap (λ z. if z then Some (q (take n all)) else None) (front_passes p all))
    (λ m lt le. is (take m all) ∙ ap (λ z. if z then Some (q (take m all)) else None) (longer_fails p all m lt le))

blank_longer : (b c : ℕ) (rest : List ℕ) (m : ℕ) → 2 < m → m ≤ length (b ∷ c ∷ rest) → blank_piece (take m (b ∷ c ∷ rest)) ≡ None
blank_longer b c rest zero lt le = absurd (omega arith)
blank_longer b c rest (suc zero) lt le = absurd (omega arith)
blank_longer b c rest (suc (suc zero)) lt le = absurd (omega arith)
blank_longer b c [] (suc (suc (suc m))) lt le = absurd (omega arith)
blank_longer b c (d ∷ rest) (suc (suc (suc m))) lt le = refl

not_crlf : (b c : ℕ) (rest : List ℕ) → nat_eq b 13 && nat_eq c 10 ≡ false → (m : ℕ) → 1 < m → m ≤ length (b ∷ c ∷ rest) → blank_piece (take m (b ∷ c ∷ rest)) ≡ None
not_crlf b c rest e zero lt le = absurd (omega arith)
not_crlf b c rest e (suc zero) lt le = absurd (omega arith)
not_crlf b c rest e (suc (suc zero)) lt le = ap (λ z. if z then Some Between else None) e
not_crlf b c rest e (suc (suc (suc m))) lt le = blank_longer b c rest (suc (suc (suc m))) (omega arith) le

pub blank_right : (b : ℕ) (rest : List ℕ) → ((bytes : List ℕ) → class_of b bytes ≡ Blank) → Right (b ∷ rest) Between (blank_found b rest).1
blank_right b [] all = by (nat_eq b 13)
  where
    one : Right (b ∷ []) Between 1
    one = longest_of Blank b [] 1 Between (all []) (omega arith) (omega arith) (λ k e. all (take k [])) refl (λ m lt le. absurd (omega arith))

    by : (v : Bool) → Right (b ∷ []) Between (if v && false then 2 else 1)
    by true = one
    by false = one
blank_right b (c ∷ rest) all = by (nat_eq b 13 && nat_eq c 10) refl
  where
    by : (v : Bool) → nat_eq b 13 && nat_eq c 10 ≡ v → Right (b ∷ c ∷ rest) Between (if v then 2 else 1)
    by true e =
        longest_of Blank b (c ∷ rest) 2 Between (all (c ∷ rest)) (omega arith) (omega arith) (λ k f. all (take k (c ∷ rest)))
        (ap (λ z. if z then Some Between else None) e) (λ m lt le. blank_longer b c rest m lt le)
    by false e =
        longest_of Blank b (c ∷ rest) 1 Between (all (c ∷ rest)) (omega arith) (omega arith) (λ k f. all (take k (c ∷ rest)))
        refl (λ m lt le. not_crlf b c rest e m lt le)

-- where a comment is closed
record Closing (s : List ℕ) (j : ℕ) : Type 0 where
  two : 2 ≤ j
  within : j ≤ length s
  again : (m : ℕ) → j ≤ m → close_at (take m s) ≡ Some j

one_more : (o : Option ℕ) (j : ℕ) → option_map (λ n. 1 + n) o ≡ Some j → (i : ℕ) × (o ≡ Some i) × (j ≡ suc i)
one_more None j e = absurd (cc)
one_more (Some i) j e = let f : 1 + i ≡ j = cc in (i, refl, omega (arith, f))

two_of : (j : ℕ) → Some 2 ≡ Some j → 2 ≡ j
two_of j e = cc

closing : (s : List ℕ) (j : ℕ) → close_at s ≡ Some j → Closing s j
unfolding close_at
closing [] j e = absurd (cc)
closing (b ∷ []) j e = absurd (cc)
closing (b ∷ c ∷ s) j e = by (nat_eq b 42 && nat_eq c 47) refl e (λ i f. closing (c ∷ s) i f)
  where
    at_once : nat_eq b 42 && nat_eq c 47 ≡ true → 2 ≡ j → (m : ℕ) → j ≤ m → close_at (take m (b ∷ c ∷ s)) ≡ Some j
    at_once f g zero le = absurd (omega (arith, g, le))
    at_once f g (suc zero) le = absurd (omega (arith, g, le))
    at_once f g (suc (suc m)) le = ap (λ z. if z then Some 2 else option_map (λ n. 1 + n) (close_at (c ∷ take m s))) f ∙ ap Some g

    later : (i : ℕ) → nat_eq b 42 && nat_eq c 47 ≡ false → j ≡ suc i → Closing (c ∷ s) i → (m : ℕ) → j ≤ m → close_at (take m (b ∷ c ∷ s)) ≡ Some j
    later i f g k zero le = absurd (omega (arith, g, le))
    later i f g k (suc zero) le = let two = k.two in absurd (omega (arith, g, le, two))
    later i f g k (suc (suc m)) le =
        let h : 1 + i ≡ j = omega (arith, g) in
        ap (λ z. if z then Some 2 else option_map (λ n. 1 + n) (close_at (c ∷ take m s))) f ∙ ap (option_map (λ n. 1 + n)) (k.again (suc m) (omega (arith, g, le))) ∙ ap Some h

    by : (v : Bool) → nat_eq b 42 && nat_eq c 47 ≡ v → (if v then Some 2 else option_map (λ n. 1 + n) (close_at (c ∷ s))) ≡ Some j → ((i : ℕ) → close_at (c ∷ s) ≡ Some i → Closing (c ∷ s) i) → Closing (b ∷ c ∷ s) j
    by true f e more = let g = two_of j e in record { two = omega (arith, g); within = omega (arith, g); again = λ m le. at_once f g m le }
    by false f e more =
        let x = one_more (close_at (c ∷ s)) j e in
        let k = more x.0 x.1 in
        let two = k.two in
        let within = k.within in
        let g = x.2 in
        record { two = omega (arith, g, two); within = omega (arith, g, within); again = λ m le. later x.0 f g k m le }

pub comment_class : (s : List ℕ) → class_of 47 (42 ∷ s) ≡ BlockComment
unfolding class_of
comment_class s = refl

not_longer : (s : List ℕ) (j : ℕ) → Closing s j → (m : ℕ) → 2 + j < m → m ≤ length (47 ∷ 42 ∷ s) → block_comment_piece (take m (47 ∷ 42 ∷ s)) ≡ None
not_longer s j k zero lt le = absurd (omega arith)
not_longer s j k (suc zero) lt le = absurd (omega arith)
not_longer s j k (suc (suc m)) lt le =
    let f = length-take-le m s (omega arith) in
    ap (closed_comment (length (take m s))) (k.again m (omega arith))
    ∙ ap (λ z. if z then Some Between else None) (different j (length (take m s)) (λ e. omega (arith, e, f, lt)))

closed_right : (s : List ℕ) (j : ℕ) → Closing s j → Right (47 ∷ 42 ∷ s) Between (2 + j)
closed_right s j k =
    let within = k.within in
    let n : 2 + j ≡ suc (suc j) = omega arith in
    let f = length-take-le j s within in
    longest_of BlockComment 47 (42 ∷ s) (2 + j) Between (comment_class s) (omega arith) (omega (arith, within)) (kept_by_two BlockComment 47 (42 ∷ s) (2 + j) (comment_class s) (omega arith))
    (ap (λ n. block_comment_piece (take n (47 ∷ 42 ∷ s))) n ∙ ap (closed_comment (length (take j s))) (k.again j (omega arith)) ∙ ap (λ z. if z then Some Between else None) (equal j (length (take j s)) (sym f)))
    (λ m lt le. not_longer s j k m lt le)

pub block_right : (s : List ℕ) → Right (47 ∷ 42 ∷ s) (block_comment_found (47 ∷ 42 ∷ s)).0 (block_comment_found (47 ∷ 42 ∷ s)).1
block_right s = by (close_at s) refl
  where
    all : List ℕ
    all = 47 ∷ 42 ∷ s

    by : (o : Option ℕ) → close_at s ≡ o → Right (47 ∷ 42 ∷ s) (closed_found (length (47 ∷ 42 ∷ s)) o).0 (closed_found (length (47 ∷ 42 ∷ s)) o).1
    by None e =
        longest_of BlockComment 47 (42 ∷ s) (length all) Fault (comment_class s) (omega arith) (omega arith) (kept_by_two BlockComment 47 (42 ∷ s) (length all) (comment_class s) (omega arith))
        (ap block_comment_piece (take_all (length all) all (omega arith)) ∙ ap (closed_comment (length s)) e) (λ m lt le. absurd (omega arith))
    by (Some j) e = closed_right s j (closing s j e)

pub char_class : (bytes : List ℕ) → class_of 39 bytes ≡ Character
unfolding class_of
char_class bytes = refl

pub text_class : (bytes : List ℕ) → class_of 34 bytes ≡ Quoted
unfolding class_of
text_class bytes = refl

take_front : (xs ys : List ℕ) → take (length xs) (xs ++ ys) ≡ xs
take_front [] ys = refl
take_front (x ∷ xs) ys = ap (λ z. x ∷ z) (take_front xs ys)

char_of : (s : List ℕ) (o : Option (ℕ × List ℕ)) → char_literal s ≡ o → (char_piece o ≡ None) ⊎ ((u : ℕ) × (char_literal s ≡ Some (u, [])))
char_of s None e = inl refl
char_of s (Some (u, [])) e = inr (u, e)
char_of s (Some (u, c ∷ r)) e = inl refl

text_of : (s : List ℕ) (o : Option Element) → text_literal s ≡ o → (text_piece o ≡ None) ⊎ ((us : List ℕ) × (text_literal s ≡ Some (us, [])))
text_of s None e = inl refl
text_of s (Some (us, [])) e = inr (us, e)
text_of s (Some (us, c ∷ r)) e = inl refl

-- what a front is as a literal is one of the whole, with the rest behind it
char_front : (rest : List ℕ) (k : ℕ) (u : ℕ) → char_literal (take k rest) ≡ Some (u, []) → char_literal rest ≡ Some (u, drop k rest)
char_front rest k u e =
    let x : ℕ × List ℕ = (u, []) in
    let c = char_local (take k rest) x e in
    ap char_literal (sym (take-append-drop k rest) ∙ ap (λ z. z ++ drop k rest) (c.whole ∙ append-nil c.bytes)) ∙ c.again (drop k rest)

text_front : (rest : List ℕ) (k : ℕ) (us : List ℕ) → text_literal (take k rest) ≡ Some (us, []) → text_literal rest ≡ Some (us, drop k rest)
text_front rest k us e =
    let x : Element = (us, []) in
    let c = text_local (length (take k rest)) (take k rest) x e in
    let bytes : List ℕ = c.first ∷ c.others in
    let same : take k rest ≡ bytes = c.whole ∙ append-nil bytes in
    let whole : rest ≡ bytes ++ drop k rest = sym (take-append-drop k rest) ∙ ap (λ z. z ++ drop k rest) same in
    let size : length rest ≡ length bytes + length (drop k rest) = ap length whole ∙ length-append bytes (drop k rest) in
    ap (text_from (length rest)) whole ∙ c.again (length rest) (drop k rest) (omega (arith, size))

-- so many bytes are a literal that leaves the others
left_over : (rest r : List ℕ) (k : ℕ) → r ≡ drop k rest → k ≤ length rest → length r + k ≡ length rest
left_over rest r k e le = let f = ap length e ∙ length-drop k rest in omega (arith, f, le)

char_whole : (rest : List ℕ) (x : ℕ × List ℕ) → char_literal rest ≡ Some x → length x.1 < length rest → char_literal (take (length rest - length x.1) rest) ≡ Some (x.0, [])
char_whole rest x e less =
    let c = char_local rest x e in
    let size : length rest ≡ length c.bytes + length x.1 = ap length c.whole ∙ length-append c.bytes x.1 in
    let n : length rest - length x.1 ≡ length c.bytes = omega (arith, size) in
    ap char_literal (ap (λ k. take k rest) n ∙ ap (take (length c.bytes)) c.whole ∙ take_front c.bytes x.1 ∙ sym (append-nil c.bytes)) ∙ c.again []

text_whole : (rest : List ℕ) (x : Element) → text_literal rest ≡ Some x → length x.1 < length rest → text_literal (take (length rest - length x.1) rest) ≡ Some (x.0, [])
text_whole rest x e less =
    let c = text_local (length rest) rest x e in
    let bytes : List ℕ = c.first ∷ c.others in
    let size : length rest ≡ length bytes + length x.1 = ap length c.whole ∙ length-append bytes x.1 in
    let n : length rest - length x.1 ≡ length bytes = omega (arith, size) in
    let front : take (length rest - length x.1) rest ≡ bytes = ap (λ k. take k rest) n ∙ ap (take (length bytes)) c.whole ∙ take_front bytes x.1 in
    ap text_literal front ∙ ap (text_from (length bytes)) (sym (append-nil bytes)) ∙ c.again (length bytes) [] (omega arith)

same_rest : (x y : ℕ × List ℕ) → Some x ≡ Some y → x.1 ≡ y.1
same_rest x y e = let p : x ≡ y = cc in ap (λ (z : ℕ × List ℕ). z.1) p

same_left : (x y : Element) → Some x ≡ Some y → x.1 ≡ y.1
same_left x y e = let p : x ≡ y = cc in ap (λ (z : Element). z.1) p

pub char_right : (rest : List ℕ) → Right (39 ∷ rest) (char_found rest).0 (char_found rest).1
char_right rest = by (char_literal rest) refl (char_less rest)
  where
    none_fits : char_literal rest ≡ None → (m : ℕ) → m ≤ length (39 ∷ rest) → piece_here (39 ∷ rest) m ≡ None
    none_fits e zero le = nothing_here (39 ∷ rest)
    none_fits e (suc k) le = here_is Character 39 rest (suc k) (omega arith) (λ j f. char_class (take j rest)) ∙ none (char_of (take k rest) (char_literal (take k rest)) refl)
      where
        none : (char_piece (char_literal (take k rest)) ≡ None) ⊎ ((u : ℕ) × (char_literal (take k rest) ≡ Some (u, []))) → char_piece (char_literal (take k rest)) ≡ None
        none (inl f) = f
        none (inr f) = let g = char_front rest k f.0 f.1 in absurd (cc)

    longer : (x : ℕ × List ℕ) → char_literal rest ≡ Some x → length x.1 < length rest → (m : ℕ) → 1 + (length rest - length x.1) < m → m ≤ length (39 ∷ rest) → char_piece (char_literal (drop 1 (take m (39 ∷ rest)))) ≡ None
    longer x e less zero lt le = absurd (omega arith)
    longer x e less (suc k) lt le = none (char_of (take k rest) (char_literal (take k rest)) refl)
      where
        none : (char_piece (char_literal (take k rest)) ≡ None) ⊎ ((u : ℕ) × (char_literal (take k rest) ≡ Some (u, []))) → char_piece (char_literal (take k rest)) ≡ None
        none (inl f) = f
        none (inr f) =
            let y : ℕ × List ℕ = (f.0, drop k rest) in
            let g = left_over rest x.1 k (same_rest x y (sym e ∙ char_front rest k f.0 f.1)) (omega arith) in
            absurd (omega (arith, g, lt, less))

    by : (o : Option (ℕ × List ℕ)) → char_literal rest ≡ o → UnitLess (length rest) o → Right (39 ∷ rest) (unit_found (length rest) o).0 (unit_found (length rest) o).1
    by None e less = nothing_right (39 ∷ rest) (none_fits e)
    by (Some x) e less =
        let n : 1 + (length rest - length x.1) ≡ suc (length rest - length x.1) = omega arith in
        longest_of Character 39 rest (1 + (length rest - length x.1)) (Lexeme (Char x.0)) (char_class rest) (omega arith) (omega arith) (λ j f. char_class (take j rest))
        (ap (λ k. char_piece (char_literal (drop 1 (take k (39 ∷ rest))))) n ∙ ap char_piece (char_whole rest x e less))
        (λ m lt le. longer x e less m lt le)

pub text_right : (rest : List ℕ) → Right (34 ∷ rest) (text_found rest).0 (text_found rest).1
text_right rest = by (text_literal rest) refl (text_less (length rest) rest)
  where
    none_fits : text_literal rest ≡ None → (m : ℕ) → m ≤ length (34 ∷ rest) → piece_here (34 ∷ rest) m ≡ None
    none_fits e zero le = nothing_here (34 ∷ rest)
    none_fits e (suc k) le = here_is Quoted 34 rest (suc k) (omega arith) (λ j f. text_class (take j rest)) ∙ none (text_of (take k rest) (text_literal (take k rest)) refl)
      where
        none : (text_piece (text_literal (take k rest)) ≡ None) ⊎ ((us : List ℕ) × (text_literal (take k rest) ≡ Some (us, []))) → text_piece (text_literal (take k rest)) ≡ None
        none (inl f) = f
        none (inr f) = let g = text_front rest k f.0 f.1 in absurd (cc)

    longer : (x : Element) → text_literal rest ≡ Some x → length x.1 < length rest → (m : ℕ) → 1 + (length rest - length x.1) < m → m ≤ length (34 ∷ rest) → text_piece (text_literal (drop 1 (take m (34 ∷ rest)))) ≡ None
    longer x e less zero lt le = absurd (omega arith)
    longer x e less (suc k) lt le = none (text_of (take k rest) (text_literal (take k rest)) refl)
      where
        none : (text_piece (text_literal (take k rest)) ≡ None) ⊎ ((us : List ℕ) × (text_literal (take k rest) ≡ Some (us, []))) → text_piece (text_literal (take k rest)) ≡ None
        none (inl f) = f
        none (inr f) =
            let y : Element = (f.0, drop k rest) in
            let g = left_over rest x.1 k (same_left x y (sym e ∙ text_front rest k f.0 f.1)) (omega arith) in
            absurd (omega (arith, g, lt, less))

    by : (o : Option Element) → text_literal rest ≡ o → UnitsLess (length rest) o → Right (34 ∷ rest) (units_found (length rest) o).0 (units_found (length rest) o).1
    by None e less = nothing_right (34 ∷ rest) (none_fits e)
    by (Some x) e less =
        let n : 1 + (length rest - length x.1) ≡ suc (length rest - length x.1) = omega arith in
        longest_of Quoted 34 rest (1 + (length rest - length x.1)) (Lexeme (Text x.0)) (text_class rest) (omega arith) (omega arith) (λ j f. text_class (take j rest))
        (ap (λ k. text_piece (text_literal (drop 1 (take k (34 ∷ rest))))) n ∙ ap text_piece (text_whole rest x e less))
        (λ m lt le. longer x e less m lt le)

abbrev signed : Bool → ℕ → List ℕ → Piece × ℕ
signed v n text = if v then (Fault, 0) else (Lexeme (Sign (take n text)), n)

pub sign_right : (b : ℕ) (rest : List ℕ) → class_of b rest ≡ Other → ((k : ℕ) → class_of b (take k rest) ≡ Other) → Right (b ∷ rest) (sign_found (b ∷ rest)).0 (sign_found (b ∷ rest)).1
sign_right b rest e all = by (nat_eq (sign_length (b ∷ rest)) 0) refl (sign_length (b ∷ rest)) refl (sign_length_right (b ∷ rest))
  where
    none_fits : (n : ℕ) → n ≡ 0 → IsSigned (b ∷ rest) n → (m : ℕ) → m ≤ length (b ∷ rest) → piece_here (b ∷ rest) m ≡ None
    none_fits n z s zero le = nothing_here (b ∷ rest)
    none_fits n z s (suc k) le =
        here_is Other b rest (suc k) (omega arith) (λ j f. all j) ∙ ap (λ v. if v then Some (Lexeme (Sign (take (suc k) (b ∷ rest)))) else None) (s.no_longer (suc k) (omega (arith, z)) le)

    by : (v : Bool) → nat_eq (sign_length (b ∷ rest)) 0 ≡ v → (n : ℕ) → sign_length (b ∷ rest) ≡ n → IsSigned (b ∷ rest) n
        → Right (b ∷ rest) (signed v n (b ∷ rest)).0 (signed v n (b ∷ rest)).1
    by true f n g s = nothing_right (b ∷ rest) (none_fits n (sym g ∙ eqb-true (sign_length (b ∷ rest)) 0 f) s)
    by false f n g s =
        let positive : 0 < n = some_of n (λ z. let h = equal (sign_length (b ∷ rest)) 0 (g ∙ z) in cc) in
        longest_of Other b rest n (Lexeme (Sign (take n (b ∷ rest)))) e positive s.within (λ j h. all j)
        (ap (λ v. if v then Some (Lexeme (Sign (take n (b ∷ rest)))) else None) (s.sign positive))
        (λ m lt le. ap (λ v. if v then Some (Lexeme (Sign (take m (b ∷ rest)))) else None) (s.no_longer m lt le))
      where
        some_of : (n : ℕ) → (n ≡ 0 → ⊥) → 0 < n
        some_of zero f = absurd (f refl)
        some_of (suc n) f = omega arith
