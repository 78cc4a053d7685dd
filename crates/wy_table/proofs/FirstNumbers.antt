-- Numbers by name, as they are given one after another.
use Rattle.std.proofs.Common.{◌≡◌, ℕ, ◌+◌, ◌<◌, ◌≤◌, Bool, true, false, cond, List, [], ◌∷◌, length, Option, Some, None, refl, sym, ◌∙◌, ap, arith}
use Rattle.std.specs.Prelude.{is_some, nat_eq, nat_lt, ◌&&◌}
use Rattle.std.specs.Str.{bytes_eq}
use Rattle.std.specs.List.{All, position_from}
use Rattle.std.specs.Map.{update}
use Rattle.std.proofs.lemmas.Bool.Decides.{nat_tests}
use Rattle.std.proofs.lemmas.List.Elements.{All-head, All-tail}
use Rattle.std.proofs.lemmas.Slice.Eq.{bytes_eq-Decides}
use Rattle.wy_kernel.specs.Program.{Class, Field}
use Rattle.wy_kernel.specs.Table.{IsFieldOf}
use Rattle.wy_table.specs.Names.{is_field_named, numbered_also}

pub not_also : (o : Option ℕ) (next : ℕ) → o ≡ numbered_also o false next
not_also (Some n) next = refl
not_also None next = refl

updated : (f : List ℕ → Option ℕ) (name q : List ℕ) (next : ℕ) (b : Bool) → bytes_eq name q ≡ b → f name ≡ None → cond b (Some next) (f q) ≡ numbered_also (f q) b next
updated f name q next true e none = sym (ap (λ o. numbered_also o true next) (ap f (sym ((bytes_eq-Decides name q).0 e)) ∙ none))
updated f name q next false e none = not_also (f q) next

pub numbered_update : (f : List ℕ → Option ℕ) (name q : List ℕ) (next : ℕ) → f name ≡ None → update bytes_eq f name (Some next) q ≡ numbered_also (f q) (bytes_eq name q) next
numbered_update f name q next none = updated f name q next (bytes_eq name q) refl none

pub absent : (o : Option ℕ) → is_some o ≡ false → o ≡ None
absent None e = refl
absent (Some n) e = cc

-- a number that is there, and else the other
abbrev pub first_of : Option ℕ → Option ℕ → Option ℕ
first_of (Some n) o = Some n
first_of None o = o

-- once one more has a number, the first of it and of those behind is what it was
pub further : {X : Type 0} (p : X → Bool) (x : X) (rest : List X) (before after : Option ℕ) (next : ℕ) → after ≡ numbered_also before (p x) next →
    first_of after (position_from p (next + 1) rest) ≡ first_of before (position_from p next (x ∷ rest))
further p x rest before after next e = ap (λ o. first_of o (position_from p (next + 1) rest)) e ∙ step before (p x)
  where
    step : (o : Option ℕ) (b : Bool) → first_of (numbered_also o b next) (position_from p (next + 1) rest) ≡ first_of o (cond b (Some next) (position_from p (next + 1) rest))
    step (Some n) b = refl
    step None true = refl
    step None false = refl

pub at_first : (o r : Option ℕ) → o ≡ None → first_of o r ≡ r
at_first o r e = ap (λ x. first_of x r) e

pub at_last : (o : Option ℕ) → first_of o None ≡ o
at_last (Some n) = refl
at_last None = refl

-- a class past the last declares no field
undeclared : (many class : ℕ) (name : List ℕ) (n : ℕ) (fields : List Field) → many ≤ class → All (IsFieldOf many) fields → None ≡ position_from (is_field_named class name) n fields
undeclared many class name n [] past all = refl
undeclared many class name n (f ∷ rest) past all =
    let within : f.class < many = (All-head (IsFieldOf many) f rest all).class in
    let other : nat_eq f.class class ≡ false = grind (arith, nat_tests) in
    undeclared many class name (n + 1) rest past (All-tail (IsFieldOf many) f rest all)
    ∙ ap (λ b. cond (b && bytes_eq f.name name) (Some n) (position_from (is_field_named class name) (n + 1) rest)) (sym other)

pub in_range_or_nowhere : (classes : List Class) (fields : List Field) (class : ℕ) (name : List ℕ) (found : Option ℕ) → All (IsFieldOf (length classes)) fields →
    (class < length classes → found ≡ position_from (is_field_named class name) 0 fields) → (length classes ≤ class → found ≡ None) →
    found ≡ position_from (is_field_named class name) 0 fields
in_range_or_nowhere classes fields class name found all within past = by_place (nat_lt class (length classes)) refl
  where
    by_place : (b : Bool) → nat_lt class (length classes) ≡ b → found ≡ position_from (is_field_named class name) 0 fields
    by_place true e = within (grind (arith, nat_tests))
    by_place false e =
        let beyond : length classes ≤ class = grind (arith, nat_tests) in
        past beyond ∙ undeclared (length classes) class name 0 fields beyond all
