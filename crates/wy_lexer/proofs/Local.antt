-- What a literal is hangs on its bytes alone, and each of its elements on one byte more.
use Rattle.std.proofs.Common.{ℕ, zero, suc, ◌+◌, ◌*◌, ◌-◌, ◌≤◌, ◌≡◌, nat_eq, nat_le, Bool, true, false, if◌then◌else◌, List, [], ◌∷◌, ◌++◌, length, drop, Option, Some, None, refl, sym, ◌∙◌, ap, subst, append_assoc, length-append, arith}
use Rattle.std.specs.Str.{continuation_len, lead_bits}
use Rattle.std.specs.Char.{digit_value}
use Rattle.wy_tree.specs.Bytes.{is_octal_digit, is_line_end}
use Rattle.wy_tree.specs.Literals.{Element, simple_escape, octal_digit, octal_escape, or_else, second_digit, are_hexadecimal, is_special, unit_of_hexadecimal, four_digits, unicode_escape, escape_of, escape, continued, first_char, units, one_unit, one_char, element, with_units, followed_by, text_from, closed_by, closed, char_literal}
use Rattle.wy_lexer.proofs.Fronts.{len_on, len_off}

-- an answer that leaves r of these bytes, and is the same before other bytes that begin like r
record Local (A : Type 0) (f : List ℕ → Option (A × List ℕ)) (s : List ℕ) (a : A) (r : List ℕ) : Type 0 where
  front : List ℕ
  whole : s ≡ front ++ r
  again : (c : ℕ) (t z : List ℕ) → r ≡ c ∷ t → f (front ++ (c ∷ z)) ≡ Some (a, c ∷ z)

abbrev Number : Type 0
Number = ℕ × List ℕ

abbrev LocalNumber : (List ℕ → Option Number) → List ℕ → Number → Type 0
LocalNumber f s x = Local ℕ f s x.0 x.1

abbrev LocalUnits : (List ℕ → Option Element) → List ℕ → Element → Type 0
LocalUnits f s x = Local (List ℕ) f s x.0 x.1

same_number : (x y : Number) → Some x ≡ Some y → x ≡ y
same_number x y e = cc

same_units : (x y : Element) → Some x ≡ Some y → x ≡ y
same_units x y e = cc

-- a byte in front that only leads to another function
behind_byte : (A : Type 0) (f g : List ℕ → Option (A × List ℕ)) (b : ℕ) (s : List ℕ) (a : A) (r : List ℕ) → ((u : List ℕ) → f (b ∷ u) ≡ g u) → Local A g s a r → Local A f (b ∷ s) a r
behind_byte A f g b s a r same l = record { front = b ∷ l.front; whole = ap (λ z. b ∷ z) l.whole; again = λ c t z e. same (l.front ++ (c ∷ z)) ∙ l.again c t z e }

-- one byte, which does not look behind it
one_byte : (A : Type 0) (f : List ℕ → Option (A × List ℕ)) (b : ℕ) (s : List ℕ) (a : A) → ((u : List ℕ) → f (b ∷ u) ≡ Some (a, u)) → Local A f (b ∷ s) a s
one_byte A f b s a same = record { front = b ∷ []; whole = refl; again = λ c t z e. same (c ∷ z) }

-- no byte, since the first one does not fit
no_byte : (A : Type 0) (f : List ℕ → Option (A × List ℕ)) (b : ℕ) (s : List ℕ) (a : A) → ((u : List ℕ) → f (b ∷ u) ≡ Some (a, b ∷ u)) → Local A f (b ∷ s) a (b ∷ s)
no_byte A f b s a same = record { front = []; whole = refl; again = λ c t z e. let p : c ≡ b = cc in subst (λ d. f (d ∷ z) ≡ Some (a, d ∷ z)) (sym p) (same z) }

no_bytes_left : (A : Type 0) (f : List ℕ → Option (A × List ℕ)) (a : A) → Local A f [] a []
no_bytes_left A f a = record { front = []; whole = refl; again = λ c t z e. absurd (cc) }

digit_on : (n c : ℕ) (z : List ℕ) → is_octal_digit c ≡ true → octal_digit n (c ∷ z) ≡ Some (8 * n + (c - 48), z)
unfolding octal_digit
digit_on n c z e = ap (λ v. if v then Some (8 * n + (c - 48), z) else None) e

digit_off : (n c : ℕ) (z : List ℕ) → is_octal_digit c ≡ false → octal_digit n (c ∷ z) ≡ None
unfolding octal_digit
digit_off n c z e = ap (λ v. if v then Some (8 * n + (c - 48), z) else None) e

digit_end : (n : ℕ) → octal_digit n [] ≡ None
unfolding octal_digit
digit_end n = refl

abbrev third : ℕ → List ℕ → Option Number
third n s = Some (or_else (octal_digit n s) (n, s))

third_local : (n : ℕ) (s : List ℕ) (x : Number) → third n s ≡ Some x → LocalNumber (third n) s x
third_local n [] x e =
    let here : Number = (n, []) in
    subst (LocalNumber (third n) []) (same_number here x (ap (λ o. Some (or_else o here)) (sym (digit_end n)) ∙ e)) (no_bytes_left ℕ (third n) n)
third_local n (d ∷ s) x e = by (is_octal_digit d) refl
  where
    by : (v : Bool) → is_octal_digit d ≡ v → LocalNumber (third n) (d ∷ s) x
    by true f =
        let here : Number = (8 * n + (d - 48), s) in
        subst (LocalNumber (third n) (d ∷ s)) (same_number here x (ap (λ o. Some (or_else o (n, d ∷ s))) (sym (digit_on n d s f)) ∙ e))
        (one_byte ℕ (third n) d s (8 * n + (d - 48)) (λ u. ap (λ o. Some (or_else o (n, d ∷ u))) (digit_on n d u f)))
    by false f =
        let here : Number = (n, d ∷ s) in
        subst (LocalNumber (third n) (d ∷ s)) (same_number here x (ap (λ o. Some (or_else o (n, d ∷ s))) (sym (digit_off n d s f)) ∙ e))
        (no_byte ℕ (third n) d s n (λ u. ap (λ o. Some (or_else o (n, d ∷ u))) (digit_off n d u f)))

abbrev second : Bool → ℕ → List ℕ → Option Number
second room n s = Some (second_digit room (octal_digit n s) (n, s))

second_local : (room : Bool) (n : ℕ) (s : List ℕ) (x : Number) → second room n s ≡ Some x → LocalNumber (second room n) s x
second_local room n [] x e =
    let here : Number = (n, []) in
    subst (LocalNumber (second room n) []) (same_number here x (ap (λ o. Some (second_digit room o here)) (sym (digit_end n)) ∙ e)) (no_bytes_left ℕ (second room n) n)
second_local room n (d ∷ s) x e = by room (is_octal_digit d) refl e
  where
    by : (room v : Bool) → is_octal_digit d ≡ v → second room n (d ∷ s) ≡ Some x → LocalNumber (second room n) (d ∷ s) x
    by room false f e =
        let here : Number = (n, d ∷ s) in
        subst (LocalNumber (second room n) (d ∷ s)) (same_number here x (ap (λ o. Some (second_digit room o (n, d ∷ s))) (sym (digit_off n d s f)) ∙ e))
        (no_byte ℕ (second room n) d s n (λ u. ap (λ o. Some (second_digit room o (n, d ∷ u))) (digit_off n d u f)))
    by false true f e =
        let here : Number = (8 * n + (d - 48), s) in
        subst (LocalNumber (second false n) (d ∷ s)) (same_number here x (ap (λ o. Some (second_digit false o (n, d ∷ s))) (sym (digit_on n d s f)) ∙ e))
        (one_byte ℕ (second false n) d s (8 * n + (d - 48)) (λ u. ap (λ o. Some (second_digit false o (n, d ∷ u))) (digit_on n d u f)))
    by true true f e =
        behind_byte ℕ (second true n) (third (8 * n + (d - 48))) d s x.0 x.1 (λ u. ap (λ o. Some (second_digit true o (n, d ∷ u))) (digit_on n d u f))
        (third_local (8 * n + (d - 48)) s x (ap (λ o. Some (second_digit true o (n, d ∷ s))) (sym (digit_on n d s f)) ∙ e))

octal_is : (b : ℕ) (s : List ℕ) → Some (octal_escape b s) ≡ second (nat_le b 51) (b - 48) s
unfolding octal_escape
octal_is b s = refl

marker_on : (b : ℕ) (s : List ℕ) → nat_eq b 117 ≡ true → unicode_escape (b ∷ s) ≡ unicode_escape s
unfolding unicode_escape
marker_on b s e = ap (λ n. four_digits (drop n (b ∷ s))) (len_on (λ b. nat_eq b 117) b s e)

marker_off : (b : ℕ) (s : List ℕ) → nat_eq b 117 ≡ false → unicode_escape (b ∷ s) ≡ four_digits (b ∷ s)
unfolding unicode_escape
marker_off b s e = ap (λ n. four_digits (drop n (b ∷ s))) (len_off (λ b. nat_eq b 117) b s e)

four_local : (s : List ℕ) (x : Number) → four_digits s ≡ Some x → LocalNumber four_digits s x
unfolding four_digits
four_local [] x e = absurd (cc)
four_local (a ∷ []) x e = absurd (cc)
four_local (a ∷ b ∷ []) x e = absurd (cc)
four_local (a ∷ b ∷ c ∷ []) x e = absurd (cc)
four_local (a ∷ b ∷ c ∷ d ∷ s) x e = by (are_hexadecimal a b c d) refl (is_special value) refl e
  where
    value : ℕ
    value = 16 * (16 * (16 * digit_value a + digit_value b) + digit_value c) + digit_value d

    by : (v : Bool) → are_hexadecimal a b c d ≡ v → (w : Bool) → is_special value ≡ w → (if v then (if w then None else Some (value, s)) else None) ≡ Some x → LocalNumber four_digits (a ∷ b ∷ c ∷ d ∷ s) x
    by true f true g e = absurd (cc)
    by false f w g e = absurd (cc)
    by true f false g e =
        subst (LocalNumber four_digits (a ∷ b ∷ c ∷ d ∷ s)) (same_number (value, s) x e)
        (record {
          front = a ∷ b ∷ c ∷ d ∷ [];
          whole = refl;
          again = λ h t z p. ap (λ v. if v then unit_of_hexadecimal value (h ∷ z) else None) f ∙ ap (λ w. if w then None else Some (value, h ∷ z)) g;
        })

unicode_end : (x : Number) → unicode_escape [] ≡ Some x → ⊥
unfolding unicode_escape four_digits
unicode_end x e = cc

unicode_local : (s : List ℕ) (x : Number) → unicode_escape s ≡ Some x → LocalNumber unicode_escape s x
unicode_local [] x e = absurd (unicode_end x e)
unicode_local (b ∷ s) x e = by (nat_eq b 117) refl (λ f. unicode_local s x f)
  where
    digits : nat_eq b 117 ≡ false → LocalNumber four_digits (b ∷ s) x → LocalNumber unicode_escape (b ∷ s) x
    digits f l = front_of l.front l.whole l.again
      where
        front_of : (front : List ℕ) → b ∷ s ≡ front ++ x.1 → ((c : ℕ) (t z : List ℕ) → x.1 ≡ c ∷ t → four_digits (front ++ (c ∷ z)) ≡ Some (x.0, c ∷ z)) → LocalNumber unicode_escape (b ∷ s) x
        front_of [] whole again =
            record { front = []; whole = whole; again = λ c t z p. let q : b ≡ c = cc in marker_off c z (subst (λ d. nat_eq d 117 ≡ false) q f) ∙ again c t z p }
        front_of (d ∷ front) whole again =
            record { front = d ∷ front; whole = whole; again = λ c t z p. let q : b ≡ d = cc in marker_off d (front ++ (c ∷ z)) (subst (λ d. nat_eq d 117 ≡ false) q f) ∙ again c t z p }

    by : (v : Bool) → nat_eq b 117 ≡ v → (unicode_escape s ≡ Some x → LocalNumber unicode_escape s x) → LocalNumber unicode_escape (b ∷ s) x
    by true f more = behind_byte ℕ unicode_escape unicode_escape b s x.0 x.1 (λ u. marker_on b u f) (more (sym (marker_on b s f) ∙ e))
    by false f more = digits f (four_local (b ∷ s) x (sym (marker_off b s f) ∙ e))

escape_is : (b : ℕ) (s : List ℕ) → escape (b ∷ s) ≡ escape_of (simple_escape b) b s
unfolding escape
escape_is b s = refl

escape_end : (x : Number) → escape [] ≡ Some x → ⊥
unfolding escape
escape_end x e = cc

escape_local : (s : List ℕ) (x : Number) → escape s ≡ Some x → LocalNumber escape s x
escape_local [] x e = absurd (escape_end x e)
escape_local (b ∷ s) x e = by (simple_escape b) refl (is_octal_digit b) refl (nat_eq b 117) refl (sym (escape_is b s) ∙ e)
  where
    by : (o : Option ℕ) → simple_escape b ≡ o → (v : Bool) → is_octal_digit b ≡ v → (w : Bool) → nat_eq b 117 ≡ w → escape_of (simple_escape b) b s ≡ Some x → LocalNumber escape (b ∷ s) x
    by (Some u) f v g w h e =
        let here : Number = (u, s) in
        subst (LocalNumber escape (b ∷ s)) (same_number here x (ap (λ o. escape_of o b s) (sym f) ∙ e)) (one_byte ℕ escape b s u (λ z. escape_is b z ∙ ap (λ o. escape_of o b z) f))
    by None f true g w h e =
        let same : (z : List ℕ) → escape_of (simple_escape b) b z ≡ second (nat_le b 51) (b - 48) z =
        λ z. ap (λ o. escape_of o b z) f ∙ ap (λ v. if v then Some (octal_escape b z) else (if nat_eq b 117 then unicode_escape z else None)) g ∙ octal_is b z in
        behind_byte ℕ escape (second (nat_le b 51) (b - 48)) b s x.0 x.1 (λ z. escape_is b z ∙ same z) (second_local (nat_le b 51) (b - 48) s x (sym (same s) ∙ e))
    by None f false g true h e =
        let same : (z : List ℕ) → escape_of (simple_escape b) b z ≡ unicode_escape z =
        λ z. ap (λ o. escape_of o b z) f ∙ ap (λ v. if v then Some (octal_escape b z) else (if nat_eq b 117 then unicode_escape z else None)) g ∙ ap (λ w. if w then unicode_escape z else None) h in
        behind_byte ℕ escape unicode_escape b s x.0 x.1 (λ z. escape_is b z ∙ same z) (unicode_local s x (sym (same s) ∙ e))
    by None f false g false h e =
        let same : escape_of (simple_escape b) b s ≡ None =
        ap (λ o. escape_of o b s) f ∙ ap (λ v. if v then Some (octal_escape b s) else (if nat_eq b 117 then unicode_escape s else None)) g ∙ ap (λ w. if w then unicode_escape s else None) h in
        absurd (cc)

continued_local : (n c : ℕ) (s : List ℕ) (x : Number) → continued n c s ≡ Some x → LocalNumber (continued n c) s x
continued_local zero c s x e = subst (LocalNumber (continued zero c) s) (same_number (c, s) x e) (record { front = []; whole = refl; again = λ d t z p. refl })
continued_local (suc n) c [] x e = absurd (cc)
continued_local (suc n) c (b ∷ s) x e = behind_byte ℕ (continued (suc n) c) (continued n (c * 64 + (b - 128))) b s x.0 x.1 (λ u. refl) (continued_local n (c * 64 + (b - 128)) s x e)

first_char_local : (b : ℕ) (s : List ℕ) (x : Number) → first_char b s ≡ Some x → LocalNumber (first_char b) s x
unfolding first_char
first_char_local b s x e = continued_local (continuation_len b) (lead_bits b) s x e

abbrev chosen_element : Bool → Bool → ℕ → List ℕ → Option Element
chosen_element v w b s = if v then one_unit (escape s) else (if w then None else one_char (first_char b s))

element_is : (b : ℕ) (s : List ℕ) → element b s ≡ chosen_element (nat_eq b 92) (is_line_end b) b s
unfolding element
element_is b s = refl

-- the units of a number that is read
seen_as : (h : Option Number → Option Element) (k : ℕ → List ℕ) (f : List ℕ → Option Element) (g : List ℕ → Option Number) (s : List ℕ) (x : Element)
    → ((y : Number) → h (Some y) ≡ Some (k y.0, y.1)) → h None ≡ None → ((u : List ℕ) → f u ≡ h (g u)) → ((y : Number) → g s ≡ Some y → LocalNumber g s y) → f s ≡ Some x → LocalUnits f s x
seen_as h k f g s x some none same local e = by (g s) refl
  where
    by : (o : Option Number) → g s ≡ o → LocalUnits f s x
    by None p = let q : f s ≡ None = same s ∙ ap h p ∙ none in absurd (cc)
    by (Some y) p =
        let l = local y p in
        let here : Element = (k y.0, y.1) in
        subst (LocalUnits f s) (same_units here x (sym (same s ∙ ap h p ∙ some y) ∙ e))
        (record { front = l.front; whole = l.whole; again = λ c t z q. same (l.front ++ (c ∷ z)) ∙ ap h (l.again c t z q) ∙ some (y.0, c ∷ z) })

element_local : (b : ℕ) (s : List ℕ) (x : Element) → element b s ≡ Some x → LocalUnits (element b) s x
element_local b s x e = by (nat_eq b 92) refl (is_line_end b) refl
  where
    by : (v : Bool) → nat_eq b 92 ≡ v → (w : Bool) → is_line_end b ≡ w → LocalUnits (element b) s x
    by true f w g =
        seen_as one_unit (λ u. u ∷ []) (element b) escape s x (λ y. refl) refl (λ u. element_is b u ∙ ap (λ v. chosen_element v (is_line_end b) b u) f) (λ y p. escape_local s y p) e
    by false f true g =
        let same : element b s ≡ None = element_is b s ∙ ap (λ v. chosen_element v (is_line_end b) b s) f ∙ ap (λ w. chosen_element false w b s) g in absurd (cc)
    by false f false g =
        seen_as one_char units (element b) (first_char b) s x (λ y. refl) refl (λ u. element_is b u ∙ ap (λ v. chosen_element v (is_line_end b) b u) f ∙ ap (λ w. chosen_element false w b u) g)
        (λ y p. first_char_local b s y p) e

-- a literal's bytes behind its opening quote, and that it is the same whatever follows it
pub record TextBytes (s : List ℕ) (x : Element) : Type 0 where
  pub first : ℕ
  pub others : List ℕ
  pub whole : s ≡ (first ∷ others) ++ x.1
  pub again : (j : ℕ) (z : List ℕ) → length (first ∷ others) ≤ j → text_from j ((first ∷ others) ++ z) ≡ Some (x.0, z)

abbrev text_step : Bool → ℕ → List ℕ → Option Element → Option Element
text_step v k s o = if v then Some ([], s) else followed_by (text_from k) o

text_is : (k b : ℕ) (s : List ℕ) → text_from (suc k) (b ∷ s) ≡ text_step (nat_eq b 34) k s (element b s)
unfolding text_from
text_is k b s = refl

text_zero : (s : List ℕ) (x : Element) → text_from zero s ≡ Some x → ⊥
unfolding text_from
text_zero s x e = cc

text_end : (k : ℕ) (x : Element) → text_from (suc k) [] ≡ Some x → ⊥
unfolding text_from
text_end k x e = cc

closing_quote : (k b : ℕ) (s : List ℕ) (x : Element) → nat_eq b 34 ≡ true → text_from (suc k) (b ∷ s) ≡ Some x → TextBytes (b ∷ s) x
closing_quote k b s x f e =
    let here : Element = ([], s) in
    subst (TextBytes (b ∷ s)) (same_units here x (sym (text_is k b s ∙ ap (λ v. text_step v k s (element b s)) f) ∙ e))
    (record { first = b; others = []; whole = refl; again = λ j z le. again j z le })
  where
    again : (j : ℕ) (z : List ℕ) → length (b ∷ []) ≤ j → text_from j (b ∷ z) ≡ Some ([], z)
    again zero z le = absurd (omega arith)
    again (suc j) z le = text_is j b z ∙ ap (λ v. text_step v j z (element b z)) f

one_element : (b : ℕ) (s : List ℕ) (y w : Element) → nat_eq b 34 ≡ false → LocalUnits (element b) s y → TextBytes y.1 w → TextBytes (b ∷ s) (y.0 ++ w.0, w.1)
one_element b s y w f l t =
    record {
      first = b;
      others = l.front ++ (t.first ∷ t.others);
      whole = ap (λ z. b ∷ z) (l.whole ∙ ap (λ z. l.front ++ z) t.whole ∙ sym (append_assoc l.front (t.first ∷ t.others) w.1));
      again = λ j z le. again j z le;
    }
  where
    again : (j : ℕ) (z : List ℕ) → length (b ∷ (l.front ++ (t.first ∷ t.others))) ≤ j → text_from j (b ∷ ((l.front ++ (t.first ∷ t.others)) ++ z)) ≡ Some (y.0 ++ w.0, z)
    again zero z le = absurd (omega arith)
    again (suc j) z le =
        let size = length-append l.front (t.first ∷ t.others) in
        let rest : List ℕ = (l.front ++ (t.first ∷ t.others)) ++ z in
        text_is j b rest ∙ ap (λ v. text_step v j rest (element b rest)) f
        ∙ ap (followed_by (text_from j)) (ap (element b) (append_assoc l.front (t.first ∷ t.others) z) ∙ l.again t.first (t.others ++ w.1) (t.others ++ z) t.whole)
        ∙ ap (with_units y.0) (t.again j z (omega (arith, size, le)))

pub text_local : (k : ℕ) (s : List ℕ) (x : Element) → text_from k s ≡ Some x → TextBytes s x
text_local zero s x e = absurd (text_zero s x e)
text_local (suc k) [] x e = absurd (text_end k x e)
text_local (suc k) (b ∷ s) x e = by (nat_eq b 34) refl (element b s) refl (λ t w p. text_local k t w p)
  where
    more : (y : Element) (o : Option Element) → nat_eq b 34 ≡ false → element b s ≡ Some y → text_from k y.1 ≡ o → with_units y.0 o ≡ Some x → ((t : List ℕ) (w : Element) → text_from k t ≡ Some w → TextBytes t w) → TextBytes (b ∷ s) x
    more y None f g h e go = absurd (cc)
    more y (Some w) f g h e go =
        let here : Element = (y.0 ++ w.0, w.1) in
        subst (TextBytes (b ∷ s)) (same_units here x e) (one_element b s y w f (element_local b s y g) (go y.1 w h))

    by : (v : Bool) → nat_eq b 34 ≡ v → (o : Option Element) → element b s ≡ o → ((t : List ℕ) (w : Element) → text_from k t ≡ Some w → TextBytes t w) → TextBytes (b ∷ s) x
    by true f o g go = closing_quote k b s x f e
    by false f None g go =
        let same : text_from (suc k) (b ∷ s) ≡ None = text_is k b s ∙ ap (λ v. text_step v k s (element b s)) f ∙ ap (followed_by (text_from k)) g in absurd (cc)
    by false f (Some y) g go =
        more y (text_from k y.1) f g refl (sym (text_is k b s ∙ ap (λ v. text_step v k s (element b s)) f ∙ ap (followed_by (text_from k)) g) ∙ e) go

pub record CharBytes (s : List ℕ) (x : Number) : Type 0 where
  pub bytes : List ℕ
  pub whole : s ≡ bytes ++ x.1
  pub again : (z : List ℕ) → char_literal (bytes ++ z) ≡ Some (x.0, z)

abbrev char_step : Bool → Option Element → Option Number
char_step v o = if v then None else closed o

char_is : (b : ℕ) (s : List ℕ) → char_literal (b ∷ s) ≡ char_step (nat_eq b 39) (element b s)
unfolding char_literal
char_is b s = refl

char_end : (x : Number) → char_literal [] ≡ Some x → ⊥
unfolding char_literal
char_end x e = cc

closed_char : (b : ℕ) (s : List ℕ) (us r : List ℕ) (x : Number) → nat_eq b 39 ≡ false → LocalUnits (element b) s (us, r) → closed_by us r ≡ Some x → CharBytes (b ∷ s) x
closed_char b s [] r x f l e = absurd (cc)
closed_char b s (u ∷ []) [] x f l e = absurd (cc)
closed_char b s (u ∷ []) (q ∷ r) x f l e = by (nat_eq q 39) refl e
  where
    by : (v : Bool) → nat_eq q 39 ≡ v → (if v then Some (u, r) else None) ≡ Some x → CharBytes (b ∷ s) x
    by true g e =
        let here : Number = (u, r) in
        subst (CharBytes (b ∷ s)) (same_number here x e)
        (record {
          bytes = b ∷ (l.front ++ (q ∷ []));
          whole = ap (λ z. b ∷ z) (l.whole ∙ sym (append_assoc l.front (q ∷ []) r));
          again = λ z.
              char_is b ((l.front ++ (q ∷ [])) ++ z) ∙ ap (λ v. char_step v (element b ((l.front ++ (q ∷ [])) ++ z))) f
              ∙ ap closed (ap (element b) (append_assoc l.front (q ∷ []) z) ∙ l.again q r z refl) ∙ ap (λ v. if v then Some (u, z) else None) g;
        })
    by false g e = absurd (cc)
closed_char b s (u ∷ v ∷ us) r x f l e = absurd (cc)

pub char_local : (s : List ℕ) (x : Number) → char_literal s ≡ Some x → CharBytes s x
char_local [] x e = absurd (char_end x e)
char_local (b ∷ s) x e = by (nat_eq b 39) refl (element b s) refl (sym (char_is b s) ∙ e)
  where
    by : (v : Bool) → nat_eq b 39 ≡ v → (o : Option Element) → element b s ≡ o → char_step (nat_eq b 39) (element b s) ≡ Some x → CharBytes (b ∷ s) x
    by true f o g e = let same : char_step (nat_eq b 39) (element b s) ≡ None = ap (λ v. char_step v (element b s)) f in absurd (cc)
    by false f None g e = let same : char_step (nat_eq b 39) (element b s) ≡ None = ap (λ v. char_step v (element b s)) f ∙ ap closed g in absurd (cc)
    by false f (Some y) g e = closed_char b s y.0 y.1 x f (element_local b s y g) (sym (ap (λ v. char_step v (element b s)) f ∙ ap closed g) ∙ e)
