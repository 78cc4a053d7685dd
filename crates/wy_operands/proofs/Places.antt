-- Where the uses of values begin, and what lies above and below.
use Rattle.std.proofs.Common.{◌≡◌, ℕ, ◌≤◌, min, List, [], ◌∷◌, ◌++◌, length, take, drop, reverse, refl, ap, sym, ◌∙◌, arith}
use Rattle.std.proofs.lemmas.List.{append_assoc, append-nil, take-append-drop, drop-append-le, take-take, take_all, drop_all, length-take, reverse-append}
use Rattle.wy_event.specs.declared.record.Use.{Use}
use Rattle.wy_steps.specs.Steps.{joined, joined_all, constant}
use Rattle.wy_operands.specs.declared.operands.Operand.{Operand}
use Rattle.wy_operands.specs.Values.{Values, top, under, under_many, at, last_many, uses_of_last}
use Rattle.wy_operands.specs.Layout.{carried, beginning}

pub beginning-within : (end : ℕ) (os : List Operand) → beginning end os ≤ end
beginning-within end [] = omega arith
beginning-within end (o ∷ os) = omega (arith, beginning-within (min o.from end) os)

pub beginning-min : (a end : ℕ) (os : List Operand) → beginning (min a end) os ≡ min a (beginning end os)
beginning-min a end [] = refl
beginning-min a end (o ∷ os) =
    let same : min o.from (min a end) ≡ min a (min o.from end) = omega arith in
    rw same (beginning-min a (min o.from end) os)

pub beginning-append : (end : ℕ) (xs ys : List Operand) → beginning end (xs ++ ys) ≡ beginning (beginning end xs) ys
beginning-append end [] ys = refl
beginning-append end (x ∷ xs) ys = beginning-append (min x.from end) xs ys

pub beginning-reverse : (end : ℕ) (xs : List Operand) → beginning end (reverse xs) ≡ beginning end xs
beginning-reverse end [] = refl
beginning-reverse end (x ∷ xs) =
    rw (reverse-append (x ∷ []) xs, beginning-append end (reverse xs) (x ∷ []), beginning-reverse end xs)
    (sym (beginning-min x.from end xs))

-- under the newest lies what was carried before them
pub under_carried : (xs ys : List Operand) (us : List Use) → under_many (length xs) (carried (xs ++ ys) us) ≡ carried ys (take (beginning (length us) xs) us)
under_carried [] ys us = rw (take_all (length us) us (omega arith)) refl
under_carried (x ∷ xs) ys us =
    let low : beginning (min x.from (length us)) xs ≤ x.from = omega (arith, beginning-within (min x.from (length us)) xs) in
    rw (under_carried xs ys (take x.from us), length-take x.from us, take-take (beginning (min x.from (length us)) xs) x.from us low) refl

pub uses_more : (n : ℕ) (vs : Values) → uses_of_last (ℕ.suc n) vs ≡ uses_of_last n (under vs) ++ (top vs).uses
uses_more ℕ.zero vs = refl
uses_more (ℕ.suc n) vs = refl

pub uses_carried : (xs ys : List Operand) (us : List Use) → uses_of_last (length xs) (carried (xs ++ ys) us) ≡ drop (beginning (length us) xs) us
uses_carried [] ys us = rw (drop_all (length us) us (omega arith)) refl
uses_carried (x ∷ xs) ys us =
    let low : beginning (min x.from (length us)) xs ≤ length (take x.from us) = omega (arith, length-take x.from us, beginning-within (min x.from (length us)) xs) in
    uses_more (length xs) (carried ((x ∷ xs) ++ ys) us)
    ∙ ap (λ used. used ++ drop x.from us) (uses_carried xs ys (take x.from us) ∙ ap (λ n. drop (beginning n xs) (take x.from us)) (length-take x.from us))
    ∙ sym (drop-append-le (beginning (min x.from (length us)) xs) (take x.from us) (drop x.from us) low)
    ∙ ap (drop (beginning (min x.from (length us)) xs)) (take-append-drop x.from us)

pub under_none : (n : ℕ) → under_many n [] ≡ []
under_none ℕ.zero = refl
under_none (ℕ.suc n) = under_none n

pub under_past : (n : ℕ) (vs : Values) → length vs ≤ n → under_many n vs ≡ []
under_past n [] few = under_none n
under_past ℕ.zero (v ∷ vs) few = absurd (omega arith)
under_past (ℕ.suc n) (v ∷ vs) few = under_past n vs (omega arith)

pub uses_none : (n : ℕ) → uses_of_last n [] ≡ []
uses_none ℕ.zero = refl
uses_none (ℕ.suc n) = uses_more n [] ∙ append-nil (uses_of_last n []) ∙ uses_none n

pub uses_past : (n : ℕ) (vs : Values) → length vs ≤ n → uses_of_last n vs ≡ uses_of_last (length vs) vs
uses_past n [] few = uses_none n
uses_past ℕ.zero (v ∷ vs) few = absurd (omega arith)
uses_past (ℕ.suc n) (v ∷ vs) few =
    uses_more n (v ∷ vs) ∙ ap (λ used. used ++ v.uses) (uses_past n vs (omega arith)) ∙ sym (uses_more (length vs) (v ∷ vs))

pub length-carried : (os : List Operand) (us : List Use) → length (carried os us) ≡ length os
length-carried [] us = refl
length-carried (o ∷ os) us = ap ℕ.suc (length-carried os (take o.from us))

-- the uses of one more are its own, and then those of the ones above it
pub uses_split : (n : ℕ) (vs : Values) → uses_of_last (ℕ.suc n) vs ≡ (at n vs).uses ++ uses_of_last n vs
uses_split ℕ.zero vs = sym (append-nil (top vs).uses)
uses_split (ℕ.suc n) vs =
    ap (λ used. used ++ (top vs).uses) (uses_split n (under vs))
    ∙ append_assoc (at n (under vs)).uses (uses_of_last n (under vs)) (top vs).uses
    ∙ ap (λ used. (at n (under vs)).uses ++ used) (sym (uses_more n vs))

-- the uses of one more joined behind others
joined_more : (cs : Values) (c : _) → (joined_all (cs ++ c ∷ [])).uses ≡ (joined_all cs).uses ++ c.uses
unfolding joined_all joined constant
joined_more [] c = append-nil c.uses
joined_more (d ∷ cs) c = ap (λ used. d.uses ++ used) (joined_more cs c) ∙ sym (append_assoc d.uses (joined_all cs).uses c.uses)

pub uses_joined : (n : ℕ) (vs : Values) → uses_of_last n vs ≡ (joined_all (last_many n vs)).uses
unfolding joined_all constant
uses_joined ℕ.zero vs = refl
uses_joined (ℕ.suc n) vs =
    uses_more n vs ∙ ap (λ used. used ++ (top vs).uses) (uses_joined n (under vs)) ∙ sym (joined_more (last_many n (under vs)) (top vs))
