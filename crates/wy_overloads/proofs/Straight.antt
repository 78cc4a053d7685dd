-- Subtyping in one piece: each two types that are related are so in one of six ways.
use Rattle.std.proofs.Common.{◌≡◌, ℕ, zero, suc, ◌<◌, List, [], ◌∷◌, refl, sym, ◌∙◌, ap, subst, arith}
use Rattle.std.specs.List.{Contains}
use Rattle.wy_kernel.specs.declared.operator.Primitive.{Primitive}
use Rattle.wy_kernel.specs.declared.operator.Primitive.TheVariants as prim
use Rattle.wy_kernel.specs.declared.types.Base.{Base}
use Rattle.wy_kernel.specs.declared.types.Base.TheVariants.{Primitive as Basic, Class as Named}
use Rattle.wy_kernel.specs.declared.types.Ty.{Ty}
use Rattle.wy_kernel.specs.declared.types.Ty.TheVariants.{Void, Null, Of}
use Rattle.wy_kernel.specs.Program.{Class}
use Rattle.wy_kernel.specs.Subtyping.{direct_supertypes, Supertype, itself, further, IsReference, Below, same, transitive, declared, byte_short, short_int, int_long, char_int, of_null, to_object, of_arrays, primitive_type}
use Rattle.wy_overloads.specs.Lineage.{HasTop}

-- a widening of one step or more
pub data Widens : Primitive → Primitive → Type 0 where
  byte_to_short : Widens prim.Byte prim.Short
  byte_to_int : Widens prim.Byte prim.Int
  byte_to_long : Widens prim.Byte prim.Long
  short_to_int : Widens prim.Short prim.Int
  short_to_long : Widens prim.Short prim.Long
  char_to_int : Widens prim.Char prim.Int
  char_to_long : Widens prim.Char prim.Long
  int_to_long : Widens prim.Int prim.Long

pub data Straight (classes : List Class) : Ty → Ty → Type 0 where
  equal : {a : Ty} → Straight classes a a
  upward : {c d n : ℕ} → Supertype classes c d → Straight classes (Of (Named c) n) (Of (Named d) n)
  widening : {p q : Primitive} → Widens p q → Straight classes (Of (Basic p) 0) (Of (Basic q) 0)
  null : {b : Ty} → IsReference b → Straight classes Null b
  object : {c n : ℕ} → Straight classes (Of (Named c) n) (Of (Named 0) n)
  array : {a : Base} {m n : ℕ} → n < m → Straight classes (Of a m) (Of (Named 0) n)

none_contained : {A : Type 0} (xs : List ℕ) (c : ℕ) → xs ≡ [] → Contains xs c → A
none_contained [] c e (k, lt, is) = absurd (omega arith)
none_contained (x ∷ xs) c e h = absurd (cc)

pub above_object : (classes : List Class) {c d : ℕ} → HasTop classes → Supertype classes c d → c ≡ 0 → d ≡ 0
above_object classes top itself e = e
above_object classes top (further {c} {d} {e} h s) is =
    none_contained (direct_supertypes classes c) d (ap (direct_supertypes classes) is ∙ top) h

pub further_up : (classes : List Class) {c d e : ℕ} → Supertype classes c d → Supertype classes d e → Supertype classes c e
further_up classes itself t = t
further_up classes (further h s) t = further h (further_up classes s t)

wider : {p q r : Primitive} → Widens p q → Widens q r → Widens p r
wider byte_to_short short_to_int = byte_to_int
wider byte_to_short short_to_long = byte_to_long
wider byte_to_int int_to_long = byte_to_long
wider short_to_int int_to_long = short_to_long
wider char_to_int int_to_long = char_to_long
wider byte_to_long w = elim w [ ]
wider short_to_long w = elim w [ ]
wider char_to_long w = elim w [ ]
wider int_to_long w = elim w [ ]

reference_above : (classes : List Class) {a b : Ty} → IsReference a → Straight classes a b → IsReference b
reference_above classes r equal = r
reference_above classes r (upward s) = tt
reference_above classes r (widening w) = absurd r
reference_above classes r (null n) = absurd r
reference_above classes r object = tt
reference_above classes r (array lt) = tt

joined : (classes : List Class) {a b c : Ty} → HasTop classes → Straight classes a b → Straight classes b c → Straight classes a c
joined classes top equal q = q
joined classes top (upward s) equal = upward s
joined classes top (upward s) (upward t) = upward (further_up classes s t)
joined classes top (upward s) object = object
joined classes top (upward s) (array lt) = array lt
joined classes top (widening w) equal = widening w
joined classes top (widening w) (widening v) = widening (wider w v)
joined classes top (widening w) (array lt) = absurd (omega arith)
joined classes top (null r) q = null (reference_above classes r q)
joined classes top object equal = object
joined classes top (object {c} {n}) (upward {c = e} {d} {n = k} s) =
    let P : ℕ → Type 0 = λ x. Straight classes (Of (Named c) n) (Of (Named x) n) in subst P (sym (above_object classes top s refl)) object
joined classes top object object = object
joined classes top object (array lt) = array lt
joined classes top (array lt) equal = array lt
joined classes top (array {a} {m} {n} lt) (upward {c} {d} {n = k} s) =
    let P : ℕ → Type 0 = λ x. Straight classes (Of a m) (Of (Named x) n) in subst P (sym (above_object classes top s refl)) (array lt)
joined classes top (array lt) object = array lt
joined classes top (array {a} {m} {n} lt) (array {m = k} {n = j} less) = array (omega arith)

reference_to_object : (classes : List Class) (a : Ty) → IsReference a → Straight classes a (Of (Named 0) 0)
reference_to_object classes Void r = absurd r
reference_to_object classes Null r = absurd r
reference_to_object classes (Of (Named c) zero) r = object
reference_to_object classes (Of (Named c) (suc n)) r = array (omega arith)
reference_to_object classes (Of (Basic p) zero) r = absurd r
reference_to_object classes (Of (Basic p) (suc n)) r = array (omega arith)

with_brackets : (classes : List Class) {a b : Base} {m n : ℕ} → IsReference (Of a m) → Straight classes (Of a m) (Of b n) → Straight classes (Of a (suc m)) (Of b (suc n))
with_brackets classes r equal = equal
with_brackets classes r (upward s) = upward s
with_brackets classes r (widening w) = absurd r
with_brackets classes r object = object
with_brackets classes r (array lt) = array (omega arith)

pub straight : (classes : List Class) {a b : Ty} → HasTop classes → Below classes a b → Straight classes a b
straight classes top same = equal
straight classes top (transitive p q) = joined classes top (straight classes top p) (straight classes top q)
straight classes top (declared h) = upward (further h itself)
straight classes top byte_short = widening byte_to_short
straight classes top short_int = widening short_to_int
straight classes top int_long = widening int_to_long
straight classes top char_int = widening char_to_int
straight classes top (of_null r) = null r
straight classes top (to_object {a} r) = reference_to_object classes a r
straight classes top (of_arrays r s below) = with_brackets classes r (straight classes top below)

class_below : (classes : List Class) {c d : ℕ} → Supertype classes c d → Below classes (Of (Named c) 0) (Of (Named d) 0)
class_below classes itself = same
class_below classes (further h s) = transitive (declared h) (class_below classes s)

arrays_below : (classes : List Class) (c d n : ℕ) → Below classes (Of (Named c) 0) (Of (Named d) 0) → Below classes (Of (Named c) n) (Of (Named d) n)
arrays_below classes c d zero h = h
arrays_below classes c d (suc n) h = of_arrays tt tt (arrays_below classes c d n h)

pub reference_of_array : (a : Base) (m : ℕ) → 0 < m → IsReference (Of a m)
reference_of_array a zero lt = absurd (omega arith)
reference_of_array (Named c) (suc m) lt = tt
reference_of_array (Basic p) (suc m) lt = tt

pub array_below_object : (classes : List Class) (a : Base) (m n : ℕ) → n < m → Below classes (Of a m) (Of (Named 0) n)
array_below_object classes a m zero lt = to_object (reference_of_array a m lt)
array_below_object classes a zero (suc n) lt = absurd (omega arith)
array_below_object classes a (suc m) (suc n) lt = of_arrays (reference_of_array a m (omega arith)) tt (array_below_object classes a m n (omega arith))

pub widening_below : (classes : List Class) {p q : Primitive} → Widens p q → Below classes (primitive_type p) (primitive_type q)
widening_below classes byte_to_short = byte_short
widening_below classes byte_to_int = transitive byte_short short_int
widening_below classes byte_to_long = transitive byte_short (transitive short_int int_long)
widening_below classes short_to_int = short_int
widening_below classes short_to_long = transitive short_int int_long
widening_below classes char_to_int = char_int
widening_below classes char_to_long = transitive char_int int_long
widening_below classes int_to_long = int_long

pub class_arrays_below : (classes : List Class) (c d n : ℕ) → Supertype classes c d → Below classes (Of (Named c) n) (Of (Named d) n)
class_arrays_below classes c d n s = arrays_below classes c d n (class_below classes s)

pub object_arrays_above : (classes : List Class) (c n : ℕ) → Below classes (Of (Named c) n) (Of (Named 0) n)
object_arrays_above classes c n = arrays_below classes c 0 n (to_object tt)
