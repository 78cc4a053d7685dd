-- Types of variables whose classes are few have codes of their own, so methods run as another where their names and parameter types are its own.
use Rattle.std.proofs.Common.{◌≡◌, refl, sym, ◌∙◌, ap, arith, ℕ, ◌+◌, ◌*◌, ◌<◌, ◌≤◌, Bool, true, false, not, ◌&&◌, List, [], ◌∷◌}
use Rattle.std.specs.Prelude.{◌==◌}
use Rattle.std.specs.List.{All}
use Rattle.std.proofs.lemmas.Bool.{and_parts, and_from, not-true, eqb-true, eq-eqb}
use Rattle.std.proofs.lemmas.List.Elements.{All-head, All-tail}
use Rattle.wy_kernel.specs.declared.operator.Primitive.{Primitive}
use Rattle.wy_kernel.specs.declared.operator.Primitive.TheVariants as prim
use Rattle.wy_kernel.specs.declared.types.Base.{Base}
use Rattle.wy_kernel.specs.declared.types.Base.TheVariants.{Primitive as Basic, Class as Named}
use Rattle.wy_kernel.specs.declared.types.Ty.{Ty}
use Rattle.wy_kernel.specs.declared.types.Ty.TheVariants.{Void, Null, Of}
use Rattle.wy_kernel.specs.declared.types.MethodForm.{MethodForm}
use Rattle.wy_kernel.specs.declared.types.MethodForm.TheVariants as kind
use Rattle.wy_kernel.specs.Program.{Method, primitive_code, base_code, type_code, same_units, same_types, is_instance, runs_as}
use Rattle.wy_kernel.specs.Table.{IsTypeOf}
use Rattle.wy_typing.specs.Types.{IsVariableType}

-- ---- one type

same_primitives : (p q : Primitive) → primitive_code p ≡ primitive_code q → p ≡ q
unfolding primitive_code
same_primitives prim.Bool prim.Bool e = refl
same_primitives prim.Byte prim.Byte e = refl
same_primitives prim.Short prim.Short e = refl
same_primitives prim.Char prim.Char e = refl
same_primitives prim.Int prim.Int e = refl
same_primitives prim.Long prim.Long e = refl
same_primitives _ _ e = absurd (omega (arith, e))

few : (p : Primitive) → primitive_code p ≤ 5
unfolding primitive_code
few prim.Bool = omega arith
few prim.Byte = omega arith
few prim.Short = omega arith
few prim.Char = omega arith
few prim.Int = omega arith
few prim.Long = omega arith

same_bases : (a b : Base) → base_code a ≡ base_code b → a ≡ b
unfolding base_code
same_bases (Basic p) (Basic q) e = ap Basic (same_primitives p q e)
same_bases (Basic p) (Named d) e = absurd (omega (arith, e, few p))
same_bases (Named c) (Basic q) e = absurd (omega (arith, e, few q))
same_bases (Named c) (Named d) e = let same : c ≡ d = omega (arith, e) in ap Named same

small : (many n : ℕ) (b : Base) → many ≤ 1048594 → IsTypeOf many (Of b n) → base_code b < 16777216
unfolding base_code
small many n (Basic p) le of = omega (arith, few p)
small many n (Named c) le of = omega (arith, le, of)

parts : (m n a b : ℕ) → a < 16777216 → b < 16777216 → 16777216 * m + a ≡ 16777216 * n + b → (m ≡ n) × (a ≡ b)
parts m n a b f g e = let same : m ≡ n = omega (arith, f, g, e) in (same, omega (arith, e, same))

same_type : (many : ℕ) (a b : Ty) → many ≤ 1048594 → IsVariableType a → IsVariableType b → IsTypeOf many a → IsTypeOf many b → type_code a ≡ type_code b → a ≡ b
unfolding type_code
same_type many Void b le v w f g e = absurd v
same_type many Null b le v w f g e = absurd v
same_type many (Of x m) Void le v w f g e = absurd w
same_type many (Of x m) Null le v w f g e = absurd w
same_type many (Of x m) (Of y n) le v w f g e =
    let s = parts m n (base_code x) (base_code y) (small many m x le f) (small many n y le g) e in
    let same : x ≡ y = same_bases x y s.1 in
    λ i. Of (same i) (s.0 i)

-- ---- several

-- types of variables, whose classes are among so many
pub record AreTyped (many : ℕ) (types : List Ty) : Type 0 where
  pub variables : All IsVariableType types
  pub known : All (IsTypeOf many) types

rest_typed : (many : ℕ) (x : Ty) (xs : List Ty) → AreTyped many (x ∷ xs) → AreTyped many xs
rest_typed many x xs h = record { variables = All-tail IsVariableType x xs h.variables; known = All-tail (IsTypeOf many) x xs h.known }

are_same : (many : ℕ) (xs ys : List Ty) → many ≤ 1048594 → AreTyped many xs → AreTyped many ys → same_types xs ys ≡ true → xs ≡ ys
unfolding same_types
are_same many [] [] le f g e = refl
are_same many [] (y ∷ ys) le f g e = absurd (cc)
are_same many (x ∷ xs) [] le f g e = absurd (cc)
are_same many (x ∷ xs) (y ∷ ys) le f g e =
    let here : type_code x ≡ type_code y = eqb-true (type_code x) (type_code y) (and_parts (type_code x == type_code y) (same_types xs ys) e).0 in
    let first : x ≡ y = same_type many x y le (All-head IsVariableType x xs f.variables) (All-head IsVariableType y ys g.variables) (All-head (IsTypeOf many) x xs f.known) (All-head (IsTypeOf many) y ys g.known) here in
    let rest : xs ≡ ys = are_same many xs ys le (rest_typed many x xs f) (rest_typed many y ys g) (and_parts (type_code x == type_code y) (same_types xs ys) e).1 in
    λ i. first i ∷ rest i

types_themselves : (xs : List Ty) → same_types xs xs ≡ true
unfolding same_types
types_themselves [] = refl
types_themselves (x ∷ xs) = and_from (type_code x == type_code x) (same_types xs xs) (eq-eqb (type_code x) (type_code x) refl) (types_themselves xs)

same_names : (xs ys : List ℕ) → same_units xs ys ≡ true → xs ≡ ys
unfolding same_units
same_names [] [] e = refl
same_names [] (y ∷ ys) e = absurd (cc)
same_names (x ∷ xs) [] e = absurd (cc)
same_names (x ∷ xs) (y ∷ ys) e =
    let first : x ≡ y = eqb-true x y (and_parts (x == y) (same_units xs ys) e).0 in
    let rest : xs ≡ ys = same_names xs ys (and_parts (x == y) (same_units xs ys) e).1 in
    λ i. first i ∷ rest i

names_themselves : (xs : List ℕ) → same_units xs xs ≡ true
unfolding same_units
names_themselves [] = refl
names_themselves (x ∷ xs) = and_from (x == x) (same_units xs xs) (eq-eqb x x refl) (names_themselves xs)

-- ---- methods

-- an instance method of class d that isn't private, with the name and the parameter types of m
pub record RunsAs (d : ℕ) (m other : Method) : Type 0 where
  pub class : other.class ≡ d
  pub form : other.form ≡ kind.Instance
  pub open_to_all : other.is_private ≡ false
  pub named : other.name ≡ m.name
  pub params : other.params ≡ m.params

instance_form : (f : MethodForm) → is_instance f ≡ true → f ≡ kind.Instance
unfolding is_instance
instance_form kind.Instance e = refl
instance_form _ e = absurd (cc)

pub runs_so : (many d : ℕ) (m other : Method) → many ≤ 1048594 → AreTyped many m.params → AreTyped many other.params → runs_as d m other ≡ true → RunsAs d m other
unfolding runs_as
runs_so many d m other le f g e =
    let a : Bool = other.class == d in
    let b : Bool = is_instance other.form in
    let x : Bool = not other.is_private in
    let n : Bool = same_units m.name other.name in
    let t : Bool = same_types m.params other.params in
    let four = and_parts (a && b && x && n) t e in
    let three = and_parts (a && b && x) n four.0 in
    let two = and_parts (a && b) x three.0 in
    let one = and_parts a b two.0 in
    record {
      class = eqb-true other.class d one.0;
      form = instance_form other.form one.1;
      open_to_all = not-true other.is_private two.1;
      named = sym (same_names m.name other.name three.1);
      params = sym (are_same many m.params other.params le f g four.1);
    }

pub runs_too : (d : ℕ) (m other : Method) → RunsAs d m other → runs_as d m other ≡ true
unfolding runs_as is_instance
runs_too d m other r =
    let a : Bool = other.class == d in
    let b : Bool = is_instance other.form in
    let x : Bool = not other.is_private in
    let n : Bool = same_units m.name other.name in
    let t : Bool = same_types m.params other.params in
    and_from (a && b && x && n) t
    (and_from (a && b && x) n
    (and_from (a && b) x
    (and_from a b (eq-eqb other.class d r.class) (ap is_instance r.form))
    (ap not r.open_to_all))
    (ap (same_units m.name) r.named ∙ names_themselves m.name))
    (ap (same_types m.params) r.params ∙ types_themselves m.params)
