use Rattle.std.proofs.Common.{ap, ◌∙◌}
use Rattle.std.proofs.lemmas.Int.{of_z-to_z}
use Rattle.std.specs.Int.Bits.{and_lt}
use Rattle.std.proofs.lemmas.Nat.{or_lt, xor_lt}
use Rattle.std.proofs.lemmas.Nat.Bits.{bit_at_and, bit_at_or, bit_at_xor}
use Rattle.std.specs.Int.{bit_at, cast_unsigned}
use mir.Val.{bits}
use mir.ValLaws as laws
use Rattle.wy_value.proofs.law.bitwise_operators_go_bit_by_bit.Goals as goal

pub returns-clause-and : goal.returns-clause-and
returns-clause-and c w x y k f g =
    ap (λ n. bit_at n k) (of_z-to_z w _ (and_lt (bits w) _ _ (laws.of_z_fits w x f).fits (laws.of_z_fits w y g).fits)) ∙ bit_at_and (cast_unsigned w x) (cast_unsigned w y) k

pub returns-clause-or : goal.returns-clause-or
returns-clause-or c w x y k f g =
    ap (λ n. bit_at n k) (of_z-to_z w _ (or_lt (bits w) _ _ (laws.of_z_fits w x f).fits (laws.of_z_fits w y g).fits)) ∙ bit_at_or (cast_unsigned w x) (cast_unsigned w y) k

pub returns-clause-xor : goal.returns-clause-xor
returns-clause-xor c w x y k f g =
    ap (λ n. bit_at n k) (of_z-to_z w _ (xor_lt (bits w) _ _ (laws.of_z_fits w x f).fits (laws.of_z_fits w y g).fits)) ∙ bit_at_xor (cast_unsigned w x) (cast_unsigned w y) k
