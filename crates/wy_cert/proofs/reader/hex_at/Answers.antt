use Rattle.std.proofs.Common.{length, Some, sym, ap, ap₂, ◌∙◌}
use Rattle.std.specs.List.{list_all}
use Rattle.std.proofs.lemmas.Bool.{false≢true}
use Rattle.wy_cert.specs.Spelling.{is_hex}
use Rattle.wy_cert.proofs.Reading.{same_front}
use Rattle.wy_cert.proofs.reader.hex_at.Goals as goal

pub returns-then-are_hex-clause-found : goal.returns-then-are_hex-clause-found
returns-then-are_hex-clause-found c = (c.split_at.ensures.by_index.0, (c.split_at.ensures.front_len, sym c.are_hex.ensures ∙ c.if-are_hex.true))

pub returns-then-are_hex-clause-only : goal.returns-then-are_hex-clause-only
returns-then-are_hex-clause-only c = λ hex rest digits is.
    let same = same_front c.split_at.result.0.now hex c.split_at.result.1.now rest (c.split_at.ensures.front_len ∙ sym digits.0) (sym c.split_at.ensures.by_index.0 ∙ is) in
    ap₂ (λ a b. Some (a, b)) same.0 same.1

pub returns-else-are_hex-clause-only : goal.returns-else-are_hex-clause-only
returns-else-are_hex-clause-only c = λ hex rest digits is.
    let same = same_front c.split_at.result.0.now hex c.split_at.result.1.now rest (c.split_at.ensures.front_len ∙ sym digits.0) (sym c.split_at.ensures.by_index.0 ∙ is) in
    absurd (false≢true (sym c.if-are_hex.false ∙ c.are_hex.ensures ∙ ap (list_all is_hex) same.0 ∙ digits.1))
