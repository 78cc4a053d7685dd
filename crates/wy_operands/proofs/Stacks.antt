-- The stack in memory: what its last values use, and what lies under them.
use Rattle.std.proofs.Common.{◌≡◌, ℕ, ◌≤◌, ◌-◌, List, [], ◌++◌, length, take, drop, reverse, ap, sym, ◌∙◌, inl, inr, arith}
use Rattle.std.proofs.lemmas.Bool.Decides.{leb_tells}
use Rattle.std.proofs.lemmas.List.{append-nil, take-append-drop, take_rest, length-reverse, length-drop, reverse-append}
use Rattle.wy_event.specs.declared.record.Use.{Use}
use Rattle.wy_operands.specs.declared.operands.Operand.{Operand}
use Rattle.wy_operands.specs.declared.operands.Operands.{Operands}
use Rattle.wy_operands.specs.Values.{under_many, uses_of_last}
use Rattle.wy_operands.specs.Layout.{Begins, carried, values_of, rest_of, beginning}
use Rattle.wy_operands.proofs.Places.{beginning-within, beginning-reverse, under_carried, uses_carried, under_past, uses_past, length-carried}

turned : (kept : ℕ) (xs : List Operand) → reverse xs ≡ reverse (drop kept xs) ++ reverse (take kept xs)
turned kept xs = sym (ap reverse (take-append-drop kept xs)) ∙ reverse-append (take kept xs) (drop kept xs)

-- where the uses of the last so many begin
abbrev begins : ℕ → List Operand → List Use → ℕ
begins many xs us = beginning (length us) (drop (length xs - many) xs)

begins_turned : (many : ℕ) (xs : List Operand) (us : List Use) → beginning (length us) (reverse (drop (length xs - many) xs)) ≡ begins many xs us
begins_turned many xs us = beginning-reverse (length us) (drop (length xs - many) xs)

uses_from : (many : ℕ) (xs : List Operand) (us : List Use) → drop (begins many xs us) us ≡ uses_of_last many (carried (reverse xs) us)
uses_from many xs us = elim (leb_tells many (length xs)) as (λ _. drop (begins many xs us) us ≡ uses_of_last many (carried (reverse xs) us)) [
  | inl enough ↦
      let kept : ℕ = length xs - many in
      let last : length (reverse (drop (length xs - many) xs)) ≡ many = omega (arith, length-reverse (drop (length xs - many) xs), length-drop (length xs - many) xs, enough.1) in
      sym (ap (λ os. uses_of_last many (carried os us)) (turned (length xs - many) xs)
      ∙ ap (λ n. uses_of_last n (carried (reverse (drop (length xs - many) xs) ++ reverse (take (length xs - many) xs)) us)) (sym last)
      ∙ uses_carried (reverse (drop (length xs - many) xs)) (reverse (take (length xs - many) xs)) us
      ∙ ap (λ n. drop n us) (begins_turned many xs us))
  | inr few ↦
      let none : length xs - many ≡ 0 = omega (arith, few.1) in
      let past : length (carried (reverse xs) us) ≤ many = omega (arith, length-carried (reverse xs) us, length-reverse xs, few.1) in
      sym (uses_past many (carried (reverse xs) us) past
      ∙ ap (λ n. uses_of_last n (carried (reverse xs) us)) (length-carried (reverse xs) us)
      ∙ ap (λ os. uses_of_last (length (reverse xs)) (carried os us)) (sym (append-nil (reverse xs)))
      ∙ uses_carried (reverse xs) [] us
      ∙ ap (λ n. drop n us) (beginning-reverse (length us) xs)
      ∙ ap (λ n. drop (beginning (length us) (drop n xs)) us) (sym none))
]

rest_from : (many : ℕ) (xs : List Operand) (us : List Use) → carried (reverse (take (length xs - many) xs)) (take (begins many xs us) us) ≡ under_many many (carried (reverse xs) us)
rest_from many xs us = elim (leb_tells many (length xs)) as (λ _. carried (reverse (take (length xs - many) xs)) (take (begins many xs us) us) ≡ under_many many (carried (reverse xs) us)) [
  | inl enough ↦
      let last : length (reverse (drop (length xs - many) xs)) ≡ many = omega (arith, length-reverse (drop (length xs - many) xs), length-drop (length xs - many) xs, enough.1) in
      sym (ap (λ os. under_many many (carried os us)) (turned (length xs - many) xs)
      ∙ ap (λ n. under_many n (carried (reverse (drop (length xs - many) xs) ++ reverse (take (length xs - many) xs)) us)) (sym last)
      ∙ under_carried (reverse (drop (length xs - many) xs)) (reverse (take (length xs - many) xs)) us
      ∙ ap (λ n. carried (reverse (take (length xs - many) xs)) (take n us)) (begins_turned many xs us))
  | inr few ↦
      let none : length xs - many ≡ 0 = omega (arith, few.1) in
      let past : length (carried (reverse xs) us) ≤ many = omega (arith, length-carried (reverse xs) us, length-reverse xs, few.1) in
      ap (λ n. carried (reverse (take n xs)) (take (begins many xs us) us)) none ∙ sym (under_past many (carried (reverse xs) us) past)
]

-- as the code reads it off a slice of the values
pub begins_is : (s : Operands) (many from end kept : ℕ) (values : List Operand) → values ≡ s.values.items → end ≡ length s.uses.items → kept ≡ length s.values.items - many → from ≡ beginning end (take (length values - kept) (drop kept values)) → Begins s many from
unfolding values_of
begins_is s many from end kept values same last here is =
    let place : from ≡ begins many s.values.items s.uses.items =
    is ∙ ap (beginning end) (take_rest values kept) ∙ ap (λ n. beginning n (drop kept values)) last
    ∙ ap (λ vs. beginning (length s.uses.items) (drop kept vs)) same ∙ ap (λ n. beginning (length s.uses.items) (drop n s.values.items)) here in
    record {
      within = rw place (beginning-within (length s.uses.items) (drop (length s.values.items - many) s.values.items));
      uses = ap (λ n. drop n s.uses.items) place ∙ uses_from many s.values.items s.uses.items;
      rest = ap (rest_of s many) place ∙ rest_from many s.values.items s.uses.items;
    }
