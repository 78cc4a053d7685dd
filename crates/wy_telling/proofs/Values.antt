-- Values that print nothing, and classes that are there.
use Rattle.std.proofs.Common.{◌≡◌, ◌<◌, ◌≤◌, ℕ, false, [], length, ne_eqb, refl, sym, ap, arith}
use Rattle.std.specs.Prelude.{map, Some, if◌then◌else◌}
use Rattle.std.specs.Prelude.{None as Absent}
use Rattle.std.proofs.lemmas.Bool.{true≢false}
use Rattle.std.proofs.lemmas.List.{get_or_past, length-map}
use Rattle.wy_kernel.specs.declared.program.Program.{Program}
use Rattle.wy_kernel.specs.Parts.{program_of}
use Rattle.wy_kernel.specs.Program.{fixed_text}
use Rattle.wy_value.specs.declared.value.Value.{Value}
use Rattle.wy_value.specs.declared.value.Value.TheVariants.{None, Object, Text, Fixed, Arm}
use Rattle.wy_kernel.specs.View.{NONE, present}
use Rattle.wy_value.specs.Numeral.{has_text, text_of}

pub no_text : (p : Program) (n : ℕ) → length p.fixed_texts.items ≤ n → [] ≡ fixed_text (program_of p) n
unfolding fixed_text
no_text p n le = sym (get_or_past (map (λ v. v.items) p.fixed_texts.items) n _ (let long : length (map (λ v. v.items) p.fixed_texts.items) ≡ length p.fixed_texts.items = simp length-map in omega (arith, long)))

pub prints_nothing : (v : Value) → has_text v ≡ false → [] ≡ text_of v
prints_nothing None is = refl
prints_nothing (Object n) is = refl
prints_nothing (Text n) is = refl
prints_nothing (Fixed n) is = refl
prints_nothing (Arm n) is = refl
prints_nothing _ is = absurd (true≢false is)

pub is_there : (n : ℕ) → n < NONE → present n ≡ Some n
unfolding present
is_there n less = ap (λ b. if b then Absent else Some n) (ne_eqb n NONE (λ same. omega (arith, same, less)))
