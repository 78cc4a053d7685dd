use Rattle.std.proofs.Common.{◌≡◌, Some, sym, ap, ap₂, ◌∙◌, subst}
use Rattle.std.specs.Fmt.{decimal}
use Rattle.std.specs.Str.{all_ascii_digits}
use Rattle.std.proofs.lemmas.Option.{none-some, same_Some}
use Rattle.wy_cert.specs.Reading.{EndsNumber}
use Rattle.wy_cert.proofs.Numbers.{number_digits, one_end}
use Rattle.wy_cert.proofs.number.number_at.Goals as goal

pub returns-in_err-n-clause-only : goal.returns-in_err-n-clause-only
returns-in_err-n-clause-only c = λ n rest fits ends is.
    let front = c.split_at.result.0.now in
    let back = c.split_at.result.1.now in
    let same = one_end front (decimal n) back rest (ap all_ascii_digits c.split_at.ensures.front ∙ c.digits_at.ensures.digits) (number_digits n fits) (subst EndsNumber (sym c.split_at.ensures.back) c.digits_at.ensures.ends) ends (sym c.split_at.ensures.by_index.0 ∙ is) in
    absurd (none-some n (sym c.in_err-n.was ∙ c.number_of.ensures.only n fits same.0))

pub returns-clause-only : goal.returns-clause-only
returns-clause-only c = λ n rest fits ends is.
    let front = c.split_at.result.0.now in
    let back = c.split_at.result.1.now in
    let same = one_end front (decimal n) back rest (ap all_ascii_digits c.split_at.ensures.front ∙ c.digits_at.ensures.digits) (number_digits n fits) (subst EndsNumber (sym c.split_at.ensures.back) c.digits_at.ensures.ends) ends (sym c.split_at.ensures.by_index.0 ∙ is) in
    ap₂ (λ a b. Some (a, b)) (same_Some c.in_ok-n.n n (sym c.in_ok-n.was ∙ c.number_of.ensures.only n fits same.0)) same.1
