-- The method that is written as main is static, takes one array of texts and gives nothing.
use Rattle.std.proofs.Common.{◌≡◌, ℕ, ◌+◌, ◌*◌, ◌≤◌, Bool, true, false, refl, ap, List, [], ◌∷◌, length, arith, if◌then◌else◌}
use Rattle.std.specs.Prelude.{◌==◌, ◌&&◌, bytes_eq, codes}
use Rattle.std.proofs.lemmas.Bool.{and_parts, eqb-true}
use Rattle.wy_kernel.specs.declared.operator.Primitive.TheVariants as prim
use Rattle.wy_kernel.specs.declared.types.Base.TheVariants.{Class as Named}
use Rattle.wy_kernel.specs.declared.types.Ty.{Ty}
use Rattle.wy_kernel.specs.declared.types.Ty.TheVariants.{Of}
use Rattle.wy_kernel.specs.declared.types.MethodForm.TheVariants as kind
use Rattle.wy_kernel.specs.Program.{same_types, type_code, base_code, primitive_code, string_class}
use Rattle.wy_syntax.specs.declared.declaration.Modifier.TheVariants as modifier
use Rattle.wy_syntax.specs.Syntax.{Parameter}
use Rattle.wy_syntax.specs.Syntax as source
use Rattle.wy_members.specs.Declarations.{CompilationUnit, base_type, class_or_object, has, table, type_with, types_of}
use Rattle.wy_elab_stmt.specs.Program.{takes_texts}
use Rattle.law_program_parts.specs.Mains.{MainsRunFirst}
use Rattle.wy_members.proofs.InRange.{class_below}

never : (b : Bool) → (b && false) ≡ true → ⊥
never true e = cc
never false e = cc

of_same : (c n : ℕ) → c ≡ 1 → n ≡ 1 → Of (Named c) n ≡ Of (Named string_class) 1
of_same c n e f = λ i. Of (Named (e i)) (f i)

no_code : (n k : ℕ) → k ≤ 5 → (16777216 * n + k == 16777233) ≡ true → ⊥
no_code n k few e = let is = eqb-true (16777216 * n + k) 16777233 e in omega (arith, few, is)

class_code : (n c : ℕ) → c ≤ 1048594 → (16777216 * n + (16 + c) == 16777233) ≡ true → Of (Named c) n ≡ Of (Named string_class) 1
class_code n c few e =
    let is = eqb-true (16777216 * n + (16 + c)) 16777233 e in
    let one : n ≡ 1 = omega (arith, few, is) in
    let first : c ≡ 1 = omega (arith, few, is, one) in
    of_same c n first one

one_type : (unit : CompilationUnit) → length (table unit).classes ≤ 1048594 → (b : source.Base) (n : ℕ) → (type_code (Of (base_type unit b) n) == type_code (Of (Named string_class) 1)) ≡ true → Of (base_type unit b) n ≡ Of (Named string_class) 1
unfolding type_code base_code primitive_code
one_type unit few (source.Basic prim.Bool) n e = absurd (no_code n 0 (omega arith) e)
one_type unit few (source.Basic prim.Byte) n e = absurd (no_code n 1 (omega arith) e)
one_type unit few (source.Basic prim.Short) n e = absurd (no_code n 2 (omega arith) e)
one_type unit few (source.Basic prim.Char) n e = absurd (no_code n 3 (omega arith) e)
one_type unit few (source.Basic prim.Int) n e = absurd (no_code n 4 (omega arith) e)
one_type unit few (source.Basic prim.Long) n e = absurd (no_code n 5 (omega arith) e)
one_type unit few (source.Class name) n e = let less = class_below unit name in class_code n (class_or_object unit name) (omega (arith, less, few)) e

one_param : (unit : CompilationUnit) → length (table unit).classes ≤ 1048594 → (params : List Parameter) → same_types (types_of unit params) (Of (Named string_class) 1 ∷ []) ≡ true → types_of unit params ≡ Of (Named string_class) 1 ∷ []
unfolding same_types
one_param unit few [] e = absurd (cc)
one_param unit few (p ∷ []) e = ap (λ (t : Ty). t ∷ []) (one_type unit few p.ty.base (p.ty.brackets + p.brackets) (and_parts (type_code (type_with unit p.ty p.brackets) == type_code (Of (Named string_class) 1)) true e).0)
one_param unit few (p ∷ q ∷ rest) e = absurd (never (type_code (type_with unit p.ty p.brackets) == type_code (Of (Named string_class) 1)) e)

pub mains_run_first : MainsRunFirst
mains_run_first unit c k h few e =
    let three = bytes_eq h.name.name (codes "main") && has modifier.Public h.modifiers && has modifier.Static h.modifiers in
    let two = bytes_eq h.name.name (codes "main") && has modifier.Public h.modifiers in
    let static : has modifier.Static h.modifiers ≡ true = (and_parts two (has modifier.Static h.modifiers) (and_parts three (takes_texts unit h) e).0).1 in
    record {
      static = ap (λ b. if b then kind.Static else kind.Instance) static;
      params = one_param unit few h.params (and_parts three (takes_texts unit h) e).1;
      result = refl;
    }
