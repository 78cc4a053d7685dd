-- What the functions of this crate find at a place is right, whatever begins there.
use Rattle.std.proofs.Common.{ℕ, zero, suc, ◌≡◌, nat_eq, Bool, true, false, not, ◌&&◌, ◌||◌, if◌then◌else◌, List, [], ◌∷◌, take, refl, sym, ◌∙◌, ap, subst, arith}
use Rattle.std.proofs.lemmas.Bool.{eqb-true}
use Rattle.std.specs.List.{prefix_len}
use Rattle.wy_tree.specs.Bytes.{begins_with, is_line_end, is_blank, is_digit, begins_word, goes_on_word, goes_on_number}
use Rattle.wy_tree.specs.Numbers.{number_of}
use Rattle.wy_tree.specs.Pieces.{Between, Lexeme, Class, Blank, Name, Number, LineComment, BlockComment, Character, Quoted, Other, class_of, name_of, judged}
use Rattle.wy_lexer.specs.Reading.{found_of_class, found}
use Rattle.wy_lexer.proofs.Fronts.{len_on}
use Rattle.wy_lexer.proofs.Longest.{Right, kept_by_two, run_right, blank_right, block_right, char_right, text_right, sign_right, char_class, text_class, comment_class}

abbrev after_block : ℕ → Class
after_block b = if nat_eq b 39 then Character else (if nat_eq b 34 then Quoted else Other)

abbrev after_line : ℕ → List ℕ → Class
after_line b bytes = if nat_eq b 47 && begins_with (λ c. nat_eq c 42) bytes then BlockComment else after_block b

abbrev after_number : ℕ → List ℕ → Class
after_number b bytes = if nat_eq b 47 && begins_with (λ c. nat_eq c 47) bytes then LineComment else after_line b bytes

abbrev after_name : ℕ → List ℕ → Class
after_name b bytes = if is_digit b || (nat_eq b 46 && begins_with is_digit bytes) then Number else after_number b bytes

abbrev after_blank : ℕ → List ℕ → Class
after_blank b bytes = if begins_word b then Name else after_name b bytes

blank_class : (b : ℕ) (bytes : List ℕ) → is_blank b ≡ true → class_of b bytes ≡ Blank
unfolding class_of
blank_class b bytes e = ap (λ z. if z then Blank else after_blank b bytes) e

no_blank : (b : ℕ) (bytes : List ℕ) → is_blank b ≡ false → class_of b bytes ≡ after_blank b bytes
unfolding class_of
no_blank b bytes e = ap (λ z. if z then Blank else after_blank b bytes) e

name_class : (b : ℕ) (bytes : List ℕ) → is_blank b ≡ false → begins_word b ≡ true → class_of b bytes ≡ Name
name_class b bytes e f = no_blank b bytes e ∙ ap (λ z. if z then Name else after_name b bytes) f

no_name : (b : ℕ) (bytes : List ℕ) → is_blank b ≡ false → begins_word b ≡ false → class_of b bytes ≡ after_name b bytes
no_name b bytes e f = no_blank b bytes e ∙ ap (λ z. if z then Name else after_name b bytes) f

digit_class : (b : ℕ) (bytes : List ℕ) → is_blank b ≡ false → begins_word b ≡ false → is_digit b ≡ true → class_of b bytes ≡ Number
digit_class b bytes e f g = no_name b bytes e f ∙ ap (λ z. if z || (nat_eq b 46 && begins_with is_digit bytes) then Number else after_number b bytes) g

other_class : (b : ℕ) (bytes : List ℕ) → is_blank b ≡ false → begins_word b ≡ false → is_digit b ≡ false → nat_eq b 46 ≡ false → nat_eq b 47 ≡ false → nat_eq b 39 ≡ false → nat_eq b 34 ≡ false
    → class_of b bytes ≡ Other
other_class b bytes e f g h i j k =
    no_name b bytes e f ∙ ap (λ z. if z || (nat_eq b 46 && begins_with is_digit bytes) then Number else after_number b bytes) g
    ∙ ap (λ z. if z && begins_with is_digit bytes then Number else after_number b bytes) h
    ∙ ap (λ z. if z && begins_with (λ c. nat_eq c 47) bytes then LineComment else (if z && begins_with (λ c. nat_eq c 42) bytes then BlockComment else after_block b)) i
    ∙ ap (λ z. if z then Character else (if nat_eq b 34 then Quoted else Other)) j ∙ ap (λ z. if z then Quoted else Other) k

abbrev pub FoundRight : ℕ → List ℕ → Type 0
FoundRight b rest = Right (b ∷ rest) (found b rest).0 (found b rest).1

at_class : (b : ℕ) (rest : List ℕ) (C : Class) → class_of b rest ≡ C → Right (b ∷ rest) (found_of_class C b rest).0 (found_of_class C b rest).1 → FoundRight b rest
unfolding found
at_class b rest C e r = subst (λ z. Right (b ∷ rest) (found_of_class z b rest).0 (found_of_class z b rest).1) (sym e) r

letter_goes_on : (b : ℕ) → begins_word b ≡ true → goes_on_word b ≡ true
letter_goes_on b e = ap (λ z. z || is_digit b) e

digit_goes_on : (b : ℕ) → begins_word b ≡ false → is_digit b ≡ true → goes_on_number b ≡ true
digit_goes_on b f e = ap (λ z. (z || is_digit b) || nat_eq b 46) f ∙ ap (λ z. z || nat_eq b 46) e

digit_goes_on_number : (b : ℕ) → is_digit b ≡ true → goes_on_number b ≡ true
digit_goes_on_number b e = by (begins_word b)
  where
    by : (v : Bool) → (v || is_digit b) || nat_eq b 46 ≡ true
    by true = refl
    by false = ap (λ z. z || nat_eq b 46) e

name_right : (b : ℕ) (rest : List ℕ) → is_blank b ≡ false → begins_word b ≡ true → FoundRight b rest
name_right b rest e f =
    at_class b rest Name (name_class b rest e f)
    (run_right Name goes_on_word (λ bytes. Lexeme (name_of bytes)) b rest (λ bytes. refl) (name_class b rest e f) (letter_goes_on b f) (λ k g. name_class b (take k rest) e f))

digit_right : (b : ℕ) (rest : List ℕ) → is_blank b ≡ false → begins_word b ≡ false → is_digit b ≡ true → FoundRight b rest
digit_right b rest e f g =
    at_class b rest Number (digit_class b rest e f g)
    (run_right Number goes_on_number (λ bytes. judged (number_of bytes)) b rest (λ bytes. refl) (digit_class b rest e f g) (digit_goes_on b f g) (λ k h. digit_class b (take k rest) e f g))

-- what "." begins
dot_number : (c : ℕ) (rest : List ℕ) → is_digit c ≡ true → class_of 46 (c ∷ rest) ≡ Number
unfolding class_of
dot_number c rest e = ap (λ z. if z then Number else Other) e

dot_other : (c : ℕ) (rest : List ℕ) → is_digit c ≡ false → class_of 46 (c ∷ rest) ≡ Other
unfolding class_of
dot_other c rest e = ap (λ z. if z then Number else Other) e

dot_alone : class_of 46 [] ≡ Other
unfolding class_of
dot_alone = refl

dot_other_front : (c : ℕ) (rest : List ℕ) → is_digit c ≡ false → (k : ℕ) → class_of 46 (take k (c ∷ rest)) ≡ Other
dot_other_front c rest e zero = dot_alone
dot_other_front c rest e (suc k) = dot_other c (take k rest) e

none_front : (b k : ℕ) → class_of b [] ≡ Other → class_of b (take k []) ≡ Other
none_front b zero e = e
none_front b (suc k) e = e

dot_right : (rest : List ℕ) → FoundRight 46 rest
dot_right [] = at_class 46 [] Other dot_alone (sign_right 46 [] dot_alone (λ k. none_front 46 k dot_alone))
dot_right (c ∷ rest) = by (is_digit c) refl
  where
    by : (v : Bool) → is_digit c ≡ v → FoundRight 46 (c ∷ rest)
    by true e =
        let f = len_on goes_on_number 46 (c ∷ rest) refl in
        let g = len_on goes_on_number c rest (digit_goes_on_number c e) in
        at_class 46 (c ∷ rest) Number (dot_number c rest e)
        (run_right Number goes_on_number (λ bytes. judged (number_of bytes)) 46 (c ∷ rest) (λ bytes. refl) (dot_number c rest e) refl
        (kept_by_two Number 46 (c ∷ rest) (prefix_len goes_on_number (46 ∷ c ∷ rest)) (dot_number c rest e) (omega (arith, f, g))))
    by false e = at_class 46 (c ∷ rest) Other (dot_other c rest e) (sign_right 46 (c ∷ rest) (dot_other c rest e) (dot_other_front c rest e))

-- what "/" begins
line_class : (rest : List ℕ) → class_of 47 (47 ∷ rest) ≡ LineComment
unfolding class_of
line_class rest = refl

slash_alone : class_of 47 [] ≡ Other
unfolding class_of
slash_alone = refl

slash_other : (c : ℕ) (rest : List ℕ) → nat_eq c 47 ≡ false → nat_eq c 42 ≡ false → class_of 47 (c ∷ rest) ≡ Other
unfolding class_of
slash_other c rest e f = ap (λ z. if z then LineComment else (if nat_eq c 42 then BlockComment else Other)) e ∙ ap (λ z. if z then BlockComment else Other) f

slash_other_front : (c : ℕ) (rest : List ℕ) → nat_eq c 47 ≡ false → nat_eq c 42 ≡ false → (k : ℕ) → class_of 47 (take k (c ∷ rest)) ≡ Other
slash_other_front c rest e f zero = slash_alone
slash_other_front c rest e f (suc k) = slash_other c (take k rest) e f

line_right : (rest : List ℕ) → FoundRight 47 (47 ∷ rest)
line_right rest =
    let p : ℕ → Bool = λ b. not (is_line_end b) in
    let f = len_on p 47 (47 ∷ rest) refl in
    let g = len_on p 47 rest refl in
    at_class 47 (47 ∷ rest) LineComment (line_class rest)
    (run_right LineComment p (λ bytes. Between) 47 (47 ∷ rest) (λ bytes. refl) (line_class rest) refl
    (kept_by_two LineComment 47 (47 ∷ rest) (prefix_len p (47 ∷ 47 ∷ rest)) (line_class rest) (omega (arith, f, g))))

slash_right : (rest : List ℕ) → FoundRight 47 rest
slash_right [] = at_class 47 [] Other slash_alone (sign_right 47 [] slash_alone (λ k. none_front 47 k slash_alone))
slash_right (c ∷ rest) = by (nat_eq c 47) refl (nat_eq c 42) refl
  where
    by : (v : Bool) → nat_eq c 47 ≡ v → (w : Bool) → nat_eq c 42 ≡ w → FoundRight 47 (c ∷ rest)
    by true e w f = subst (λ z. FoundRight 47 (z ∷ rest)) (sym (eqb-true c 47 e)) (line_right rest)
    by false e true f = subst (λ z. FoundRight 47 (z ∷ rest)) (sym (eqb-true c 42 f)) (at_class 47 (42 ∷ rest) BlockComment (comment_class rest) (block_right rest))
    by false e false f = at_class 47 (c ∷ rest) Other (slash_other c rest e f) (sign_right 47 (c ∷ rest) (slash_other c rest e f) (slash_other_front c rest e f))

quote_right : (b : ℕ) (rest : List ℕ) → is_blank b ≡ false → begins_word b ≡ false → is_digit b ≡ false → nat_eq b 46 ≡ false → nat_eq b 47 ≡ false → FoundRight b rest
quote_right b rest e f g h i = by (nat_eq b 39) refl (nat_eq b 34) refl
  where
    by : (v : Bool) → nat_eq b 39 ≡ v → (w : Bool) → nat_eq b 34 ≡ w → FoundRight b rest
    by true j w k = subst (λ z. FoundRight z rest) (sym (eqb-true b 39 j)) (at_class 39 rest Character (char_class rest) (char_right rest))
    by false j true k = subst (λ z. FoundRight z rest) (sym (eqb-true b 34 k)) (at_class 34 rest Quoted (text_class rest) (text_right rest))
    by false j false k =
        at_class b rest Other (other_class b rest e f g h i j k) (sign_right b rest (other_class b rest e f g h i j k) (λ n. other_class b (take n rest) e f g h i j k))

mark_right : (b : ℕ) (rest : List ℕ) → is_blank b ≡ false → begins_word b ≡ false → is_digit b ≡ false → FoundRight b rest
mark_right b rest e f g = by (nat_eq b 46) refl (nat_eq b 47) refl
  where
    by : (v : Bool) → nat_eq b 46 ≡ v → (w : Bool) → nat_eq b 47 ≡ w → FoundRight b rest
    by true h w i = subst (λ z. FoundRight z rest) (sym (eqb-true b 46 h)) (dot_right rest)
    by false h true i = subst (λ z. FoundRight z rest) (sym (eqb-true b 47 i)) (slash_right rest)
    by false h false i = quote_right b rest e f g h i

pub found_right : (b : ℕ) (rest : List ℕ) → FoundRight b rest
found_right b rest = by (is_blank b) refl (begins_word b) refl (is_digit b) refl
  where
    by : (u : Bool) → is_blank b ≡ u → (v : Bool) → begins_word b ≡ v → (w : Bool) → is_digit b ≡ w → FoundRight b rest
    by true e v f w g = at_class b rest Blank (blank_class b rest e) (blank_right b rest (λ bytes. blank_class b bytes e))
    by false e true f w g = name_right b rest e f
    by false e false f true g = digit_right b rest e f g
    by false e false f false g = mark_right b rest e f g
