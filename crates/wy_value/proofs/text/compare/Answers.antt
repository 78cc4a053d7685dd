use Rattle.std.proofs.Common.{◌≡◌, ◌-ℤ◌, pos, length, sym, ap, ◌∙◌, rules, arith, to_z, of_z, FitsSigned}
use Rattle.std.proofs.lemmas.Int.{ints, to_z-of_z}
use Rattle.std.proofs.lemmas.Slice.Zip.{zip_end}
use Rattle.std.specs.Int.{w32, w64}
use Rattle.wy_value.specs.Number.{wrapped}
use Rattle.wy_value.proofs.Texts.{difference_at_end}
use Rattle.wy_value.proofs.text.compare.Goals as goal

pub returns : goal.returns
returns c =
    let a = c.args.a.now in
    let b = c.args.b.now in
    let done = zip_end a b _ c.into_iter-x-iterator.result c.loop-x.x-iterator c.next.new.self c.next.result (search rules) (search rules) c.loop-x.yielded_by c.in-None.is c.next.ensures.steps in
    let lengths : to_z w64 (of_z w64 (to_z w64 (length a) -ℤ to_z w64 (length b))) ≡ pos (length a) -ℤ pos (length b) = omega (arith, ints) in
    let fits : FitsSigned w32 c.from_low_bits.result = record { sfits = c.from_low_bits.type_inv } in
    to_z-of_z w32 c.from_low_bits.result fits ∙ c.from_low_bits.ensures ∙ ap (wrapped w32) (lengths ∙ sym (difference_at_end a b _ done) ∙ c.loop-x.invariant.2)
