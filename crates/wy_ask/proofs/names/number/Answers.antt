use Rattle.std.proofs.Common.{sym, ap, ◌∙◌, arith}
use Rattle.std.specs.List.{list_all}
use Rattle.std.proofs.lemmas.Str.Parse.{parse_digits}
use Rattle.wy_tree.specs.Bytes.{is_digit}
use Rattle.wy_ask.proofs.Numerals.{own, parsed, too_long, no_digits}
use Rattle.wy_ask.proofs.names.number.Goals.{else-word-le-MOST_DIGITS-via-then-word-le-MOST_DIGITS+else-are_digits, else-word-le-MOST_DIGITS-via-else-word-le-MOST_DIGITS}
use Rattle.wy_ask.proofs.names.number.Goals as goal

pub returns-then-are_digits : goal.returns-then-are_digits
returns-then-are_digits c =
    let digits = ap (list_all is_digit) (sym c.as_bytes.ensures.value) ∙ sym c.are_digits.ensures ∙ c.if-are_digits.true in
    c.ok.ensures.value ∙ parsed c.args.word.now c.parse.result (parse_digits own 32 c.args.word.now c.parse.result c.parse.ensures.value.0 digits) digits (omega (arith, c.if-word-le-MOST_DIGITS.true))

pub returns-else-word-le-MOST_DIGITS : goal.returns-else-word-le-MOST_DIGITS
returns-else-word-le-MOST_DIGITS c = elim c.else-word-le-MOST_DIGITS.branch [
  | else-word-le-MOST_DIGITS-via-then-word-le-MOST_DIGITS+else-are_digits w ↦ no_digits c.args.word.now (ap (list_all is_digit) (sym w.as_bytes.ensures.value) ∙ sym w.are_digits.ensures ∙ w.if-are_digits.false)
  | else-word-le-MOST_DIGITS-via-else-word-le-MOST_DIGITS w ↦ too_long c.args.word.now (omega (arith, w.if-word-le-MOST_DIGITS.false))
]
