-- Where two types are not related, and what relates them where they are.
use Rattle.std.proofs.Common.{◌≡◌, ℕ, zero, suc, ◌<◌, ◌≤◌, Bool, true, false, List, [], ◌∷◌, ◌++◌, length, refl, sym, ◌∙◌, ap, subst, arith, ◌⊎◌, inl, inr, IsTrue, ◌↔◌}
use Rattle.std.specs.List.{Contains}
use Rattle.std.proofs.Math.Logic.{∥∥₁_elim}
use Rattle.std.proofs.Props.{props}
use Rattle.wy_kernel.specs.declared.operator.Primitive.{Primitive}
use Rattle.wy_kernel.specs.declared.operator.Primitive.TheVariants as prim
use Rattle.wy_kernel.specs.declared.types.Base.{Base}
use Rattle.wy_kernel.specs.declared.types.Base.TheVariants.{Primitive as Basic, Class as Named}
use Rattle.wy_kernel.specs.declared.types.Ty.{Ty}
use Rattle.wy_kernel.specs.declared.types.Ty.TheVariants.{Void, Null, Of}
use Rattle.wy_table.specs.declared.table.ClassTable.{ClassTable}
use Rattle.wy_kernel.specs.Program.{Class}
use Rattle.wy_kernel.specs.Builtin as builtin
use Rattle.wy_table.specs.ClassTable.{table_of}
use Rattle.wy_overloads.specs.Lineage.{HasTop}
use Rattle.wy_overloads.specs.LineageView.{lineage_of}
use Rattle.wy_overloads.specs.declared.lineage.Lineage.{Lineage}
use Rattle.wy_kernel.specs.Table.{Table, IsTable}
use Rattle.wy_kernel.specs.Subtyping.{direct_supertypes, Supertype, itself, further, IsReference, Below, same, of_null, primitive_type}
use Rattle.wy_constant.specs.Widening.{widens_to}
use Rattle.wy_overloads.proofs.Straight.{Straight, equal, upward, widening, null, object, array, straight, Widens, byte_to_short, byte_to_int, byte_to_long, short_to_int, short_to_long, char_to_int, char_to_long, int_to_long, widening_below, class_arrays_below, object_arrays_above, array_below_object}

pub is_table_of : (t : ClassTable) → ∥ IsTable (table_of t) ∥₁
unfolding table_of
is_table_of t = t.is_table

pub object_alone : (rest : List Class) → direct_supertypes (builtin.classes ++ rest) 0 ≡ []
unfolding direct_supertypes builtin.classes
object_alone rest = refl

pub top_of : (t : Table) → ∥ IsTable t ∥₁ → HasTop t.classes
top_of t g = ∥∥₁_elim g (hlevel props) (λ g'. ap (λ cs. direct_supertypes cs 0) g'.library_classes.1 ∙ object_alone g'.library_classes.0)

pub top_in : (l : Lineage) → HasTop (lineage_of l).classes
unfolding lineage_of
top_in l = ∥∥₁_elim l.has_top (hlevel props) (λ top. top)

pub both : {P : Type 0} (b : Bool) → IsTrue b → P → IsTrue b ↔ P
both b t p = (λ _. p, λ _. t)

pub neither : {P : Type 0} (b : Bool) → (IsTrue b → ⊥) → (P → ⊥) → IsTrue b ↔ P
neither b f q = (λ t. absurd (f t), λ p. absurd (q p))

pub untrue : (b : Bool) → b ≡ false → IsTrue b → ⊥
untrue b e t = cc

pub along : {P : Type 0} (r s : Bool) → r ≡ s → IsTrue s ↔ P → IsTrue r ↔ P
along r s e h = (λ t. h.0 (sym e ∙ t), λ p. e ∙ h.1 p)

pub at : (classes : List Class) (r : Bool) (a b x y : Ty) → a ≡ x → b ≡ y → IsTrue r ↔ Below classes x y → IsTrue r ↔ Below classes a b
at classes r a b x y e f h = let P : Ty → Ty → Type 0 = λ v w. IsTrue r ↔ Below classes v w in subst (λ (w : Ty). P a w) (sym f) (subst (λ (v : Ty). P v y) (sym e) h)

pub at_bases : (classes : List Class) (r : Bool) (n : ℕ) (a b x y : Base) → a ≡ x → b ≡ y → IsTrue r ↔ Below classes (Of x n) (Of y n) → IsTrue r ↔ Below classes (Of a n) (Of b n)
at_bases classes r n a b x y e f h = at classes r (Of a n) (Of b n) (Of x n) (Of y n) (ap (λ v. Of v n) e) (ap (λ v. Of v n) f) h

pub at_no_brackets : (classes : List Class) (r : Bool) (n : ℕ) (a b x y : Base) → a ≡ x → b ≡ y → n ≡ 0 → IsTrue r ↔ Below classes (Of x 0) (Of y 0) → IsTrue r ↔ Below classes (Of a n) (Of b n)
at_no_brackets classes r n a b x y e f g h =
    let P : ℕ → Type 0 = λ k. IsTrue r ↔ Below classes (Of a k) (Of b k) in subst P (sym g) (at_bases classes r 0 a b x y e f h)

pub not_below : {P : Type 0} → (P → ⊥) → IsTrue false ↔ P
not_below q = (λ t. cc, λ p. absurd (q p))

pub class_below_primitive : (classes : List Class) {c n m : ℕ} {p : Primitive} → Straight classes (Of (Named c) n) (Of (Basic p) m) → ⊥
class_below_primitive classes s = elim s [ ]

pub primitive_below_class : (classes : List Class) {d n : ℕ} {p : Primitive} → Straight classes (Of (Basic p) n) (Of (Named d) n) → ⊥
primitive_below_class classes (array lt) = omega arith

class_above : (classes : List Class) {c d m n : ℕ} → m ≡ n → Straight classes (Of (Named c) m) (Of (Named d) n) → (d ≡ 0) ⊎ Supertype classes c d
class_above classes e equal = inr itself
class_above classes e (upward s) = inr s
class_above classes e object = inl refl
class_above classes e (array lt) = absurd (omega arith)

pub class_below_class : (classes : List Class) (c d n : ℕ) → Straight classes (Of (Named c) n) (Of (Named d) n) → (d ≡ 0) ⊎ Supertype classes c d
class_below_class classes c d n s = class_above classes refl s

primitive_above : (classes : List Class) {p q : Primitive} {m n : ℕ} → Straight classes (Of (Basic p) m) (Of (Basic q) n) → (p ≡ q) ⊎ ((n ≡ 0) × Widens p q)
primitive_above classes equal = inl refl
primitive_above classes (widening w) = inr (refl, w)

pub primitive_below_primitive : (classes : List Class) (p q : Primitive) (n : ℕ) → Straight classes (Of (Basic p) n) (Of (Basic q) n) → (p ≡ q) ⊎ ((n ≡ 0) × Widens p q)
primitive_below_primitive classes p q n s = primitive_above classes s

pub deeper : (classes : List Class) {a b : Base} {m n : ℕ} → Straight classes (Of a m) (Of b n) → (m ≡ n) ⊎ ((n < m) × (b ≡ Named 0))
deeper classes equal = inl refl
deeper classes (upward s) = inl refl
deeper classes (widening w) = inl refl
deeper classes object = inl refl
deeper classes (array lt) = inr (lt, refl)

pub below_void : (classes : List Class) {a : Ty} → Straight classes a Void → a ≡ Void
below_void classes equal = refl
below_void classes (null r) = absurd r

pub below_null : (classes : List Class) {a : Ty} → Straight classes a Null → a ≡ Null
below_null classes equal = refl
below_null classes (null r) = absurd r

pub above_void : (classes : List Class) {b : Ty} → Straight classes Void b → Void ≡ b
above_void classes equal = refl

pub above_null : (classes : List Class) {a : Base} {n : ℕ} → Straight classes Null (Of a n) → IsReference (Of a n)
above_null classes (null r) = r

-- ---- widening

widens_self : (p : Primitive) → widens_to p p ≡ true
unfolding widens_to
widens_self prim.Bool = refl
widens_self prim.Byte = refl
widens_self prim.Short = refl
widens_self prim.Char = refl
widens_self prim.Int = refl
widens_self prim.Long = refl

widens_by : {p q : Primitive} → Widens p q → widens_to p q ≡ true
unfolding widens_to
widens_by byte_to_short = refl
widens_by byte_to_int = refl
widens_by byte_to_long = refl
widens_by short_to_int = refl
widens_by short_to_long = refl
widens_by char_to_int = refl
widens_by char_to_long = refl
widens_by int_to_long = refl

widens_from : (p q : Primitive) → widens_to p q ≡ true → (p ≡ q) ⊎ Widens p q
unfolding widens_to
widens_from prim.Bool prim.Bool e = inl refl
widens_from prim.Byte prim.Byte e = inl refl
widens_from prim.Byte prim.Short e = inr byte_to_short
widens_from prim.Byte prim.Int e = inr byte_to_int
widens_from prim.Byte prim.Long e = inr byte_to_long
widens_from prim.Short prim.Short e = inl refl
widens_from prim.Short prim.Int e = inr short_to_int
widens_from prim.Short prim.Long e = inr short_to_long
widens_from prim.Char prim.Char e = inl refl
widens_from prim.Char prim.Int e = inr char_to_int
widens_from prim.Char prim.Long e = inr char_to_long
widens_from prim.Int prim.Int e = inl refl
widens_from prim.Int prim.Long e = inr int_to_long
widens_from prim.Long prim.Long e = inl refl
widens_from _ _ e = absurd (cc)

pub widens_exact : (classes : List Class) (p q : Primitive) (r : Bool) → HasTop classes → r ≡ widens_to p q → IsTrue r ↔ Below classes (primitive_type p) (primitive_type q)
widens_exact classes p q r top is = (
  λ t. elim (widens_from p q (sym is ∙ t)) [
    | inl e ↦ (let P : Primitive → Type 0 = λ x. Below classes (primitive_type p) (primitive_type x) in subst P e same)
    | inr w ↦ widening_below classes w
  ],
  λ b. is ∙ elim (primitive_below_primitive classes p q 0 (straight classes top b)) [
    | inl e ↦ (let P : Primitive → Type 0 = λ x. widens_to p x ≡ true in subst P e (widens_self p))
    | inr w ↦ widens_by w.1
  ],
)

-- ---- types with brackets

pub below_object : (classes : List Class) (c d n : ℕ) → d ≡ 0 → Below classes (Of (Named c) n) (Of (Named d) n)
below_object classes c d n e = let P : ℕ → Type 0 = λ x. Below classes (Of (Named c) n) (Of (Named x) n) in subst P (sym e) (object_arrays_above classes c n)

pub classes_exact : (classes : List Class) (c d n : ℕ) (r : Bool) → HasTop classes → (d ≡ 0 → ⊥) → IsTrue r ↔ Supertype classes c d → IsTrue r ↔ Below classes (Of (Named c) n) (Of (Named d) n)
classes_exact classes c d n r top other exact = (
  λ t. class_arrays_below classes c d n (exact.0 t),
  λ b. elim (class_below_class classes c d n (straight classes top b)) [ inl e ↦ absurd (other e) | inr s ↦ exact.1 s ],
)

pub primitives_exact : (classes : List Class) (p q : Primitive) (n : ℕ) (r : Bool) → HasTop classes → (n ≡ 0 → ⊥) → IsTrue r ↔ (p ≡ q) → IsTrue r ↔ Below classes (Of (Basic p) n) (Of (Basic q) n)
primitives_exact classes p q n r top some exact = (
  λ t. (let P : Primitive → Type 0 = λ x. Below classes (Of (Basic p) n) (Of (Basic x) n) in subst P (exact.0 t) same),
  λ b. elim (primitive_below_primitive classes p q n (straight classes top b)) [ inl e ↦ exact.1 e | inr w ↦ absurd (some w.0) ],
)

pub arrays_exact : (classes : List Class) (a b : Base) (m n : ℕ) (r : Bool) → HasTop classes → n < m → IsTrue r ↔ (b ≡ Named 0) → IsTrue r ↔ Below classes (Of a m) (Of b n)
arrays_exact classes a b m n r top lt exact = (
  λ t. (let P : Base → Type 0 = λ x. Below classes (Of a m) (Of x n) in subst P (sym (exact.0 t)) (array_below_object classes a m n lt)),
  λ s. elim (deeper classes (straight classes top s)) [ inl e ↦ absurd (omega arith) | inr d ↦ exact.1 d.1 ],
)

pub not_deeper : (classes : List Class) (a b : Base) (m n : ℕ) → HasTop classes → (m ≡ n → ⊥) → m ≤ n → Below classes (Of a m) (Of b n) → ⊥
not_deeper classes a b m n top differs le s = elim (deeper classes (straight classes top s)) [ inl e ↦ differs e | inr d ↦ (let lt : n < m = d.0 in omega arith) ]

null_exact : (classes : List Class) (b : Base) (n : ℕ) (r : Bool) → HasTop classes → IsTrue r ↔ IsReference (Of b n) → IsTrue r ↔ Below classes Null (Of b n)
null_exact classes b n r top exact = (λ t. of_null (exact.0 t), λ s. exact.1 (above_null classes (straight classes top s)))

pub null_at : (classes : List Class) (r : Bool) (a b : Ty) (x : Base) (n : ℕ) → HasTop classes → a ≡ Null → b ≡ Of x n → IsTrue r ↔ IsReference b → IsTrue r ↔ Below classes a b
null_at classes r a b x n top e f exact =
    let P : Ty → Type 0 = λ v. IsTrue r ↔ IsReference v in at classes r a b Null (Of x n) e f (null_exact classes x n r top (subst P f exact))

pub none_above : {A : Type 0} (classes : List Class) (c d : ℕ) → length classes ≤ c → Contains (direct_supertypes classes c) d → A
unfolding direct_supertypes
none_above [] c d le (k, lt, e) = absurd (omega arith)
none_above (x ∷ xs) zero d le h = absurd (omega arith)
none_above (x ∷ xs) (suc c) d le h = none_above xs c d (omega arith) h

-- a class beyond the list has no supertype but itself
pub beyond : (classes : List Class) {c d : ℕ} → length classes ≤ c → Supertype classes c d → c ≡ d
beyond classes le itself = refl
beyond classes le (further {c} {d} {e} h s) = none_above classes c d le h

-- ---- tests of several facts

pub with_first : {P Q : Type 0} (r : Bool) → P → IsTrue r ↔ Q → IsTrue r ↔ (P × Q)
with_first r p exact = (λ t. (p, exact.0 t), λ h. exact.1 h.1)

pub or_second : {P Q : Type 0} (r : Bool) → (Q → ⊥) → IsTrue r ↔ P → IsTrue r ↔ (P ⊎ Q)
or_second r none exact = (λ t. inl (exact.0 t), λ h. elim h [ inl p ↦ exact.1 p | inr q ↦ absurd (none q) ])
