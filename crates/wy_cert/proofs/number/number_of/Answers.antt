use Rattle.std.proofs.Common.{◌≡◌, ◌<◌, ◌≤◌, length, get_or, Some, sym, ap, ◌∙◌, ⊎_elim, eqb-true, arith}
use Rattle.std.proofs.lemmas.Bool.{cases_lt, eqb-false, false≢true}
use Rattle.wy_cert.proofs.Numbers.{are_digits, number_is}
use Rattle.wy_cert.proofs.number.number_of.Goals as goal

pub returns-then-is_empty-clause-only : goal.returns-then-is_empty-clause-only
returns-then-is_empty-clause-only c = λ n fits is.
    let some = (are_digits n c.args.digits.now fits is).some in
    let none : length c.args.digits.now ≡ 0 = eqb-true (length c.args.digits.now) 0 (sym c.is_empty.ensures ∙ c.if-is_empty.true) in
    absurd (omega (arith, some, none))

pub returns-then-digits-gt-MOST_DIGITS-clause-only : goal.returns-then-digits-gt-MOST_DIGITS-clause-only
returns-then-digits-gt-MOST_DIGITS-clause-only c = λ n fits is.
    let few = (are_digits n c.args.digits.now fits is).few in
    absurd (omega (arith, few, c.if-digits-gt-MOST_DIGITS.true))

pub returns-then-has_leading_zero-clause-only : goal.returns-then-has_leading_zero-clause-only
returns-then-has_leading_zero-clause-only c = λ n fits is.
    let both = c.has_leading_zero.ensures.0 c.if-has_leading_zero.true in
    let one = (are_digits n c.args.digits.now fits is).first both.0 in
    absurd (omega (arith, both.1, one))

pub returns-then-value-from-clause-only : goal.returns-then-value-from-clause-only
returns-then-value-from-clause-only c = λ n fits is.
    let value = (are_digits n c.args.digits.now fits is).value in
    absurd (omega (arith, fits, value, c.value_of-value.ensures, c.from.ensures, c.if-value-from.true))

pub returns-clause-found : goal.returns-clause-found
returns-clause-found c =
    let ds = c.args.digits.now in
    let apart : length ds ≡ 0 → ⊥ = eqb-false (length ds) 0 (sym c.is_empty.ensures ∙ c.if-is_empty.false) in
    let first = λ (zero : get_or ds 0 0 ≡ 48). let one : length ds ≡ 1 = ⊎_elim
    (λ (more : 1 < length ds). absurd (false≢true (sym c.if-has_leading_zero.false ∙ c.has_leading_zero.ensures.1 (zero, more))))
    (λ (le : length ds ≤ 1). omega (arith, le, apart))
    (cases_lt 1 (length ds)) in one in
    number_is ds c.value_of-value.result c.requires (omega (arith, apart)) first c.value_of-value.ensures (omega (arith, c.from.ensures, c.if-value-from.false))

pub returns-clause-only : goal.returns-clause-only
returns-clause-only c = λ n fits is. ap (λ v. Some v) (c.value_of-value.ensures ∙ (are_digits n c.args.digits.now fits is).value)
