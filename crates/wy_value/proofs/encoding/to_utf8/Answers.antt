use Rattle.std.proofs.Common.{◌++◌, sym, ap, ◌∙◌, append-nil}
use Rattle.std.proofs.lemmas.List.{nil_from_length}
use Rattle.wy_value.proofs.Encodings.{utf8_of-nil}
use Rattle.wy_value.specs.Encoding.{utf8_of}
use Rattle.wy_value.proofs.encoding.to_utf8.Goals as goal

pub returns : goal.returns
returns c =
    let written = c.loop-unit.text.bytes.items in
    let ended = ap utf8_of (nil_from_length _ c.in_default.ensures.cases) ∙ utf8_of-nil in
    ap (λ v. v.items) c.into_bytes.ensures.value ∙ sym (append-nil written) ∙ ap (λ xs. written ++ xs) (sym ended) ∙ c.loop-unit.invariant
