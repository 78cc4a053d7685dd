-- Values of a run but those of its tests are no arms.
use Rattle.std.specs.Prelude.{pos, negsuc}
use Rattle.std.proofs.Common.{◌≡◌, ℕ, zero, suc, inl, inr, refl, sym, subst}
use Rattle.wy_value.specs.declared.value.Value.{Value}
use Rattle.wy_value.specs.declared.value.Value.TheVariants as val
use Rattle.law_in_range.specs.InRange.{Events, IsByte, IsLength, IsNone, IsPrinted, IsReturned, IsSome, IsThrown}

pub none_plain : (v : Value) → IsNone v → IsReturned v
none_plain (val.Arm k) h = absurd h
none_plain _ h = tt

pub some_plain : (v : Value) → IsSome v → IsReturned v
some_plain (val.Arm k) h = absurd h
some_plain _ h = tt

pub printed_plain : (v : Value) → IsPrinted v → IsReturned v
printed_plain (val.Arm k) h = absurd h
printed_plain _ h = tt

pub byte_plain : (v : Value) → IsByte v → IsReturned v
byte_plain (val.Arm k) h = absurd h
byte_plain _ h = tt

pub thrown_plain : (at : Events) (v : Value) → IsThrown at v → IsReturned v
thrown_plain at (val.Arm k) h = absurd h
thrown_plain at _ h = tt

pub length_plain : (code : ℕ) (v : Value) → IsLength code v → IsReturned v
length_plain code v (inl h) = none_plain v h.1
length_plain code v (inr h) = subst (λ (x : Value). IsReturned x) (sym h.1.1) tt
