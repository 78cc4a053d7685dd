-- Which values are brought to which types, by subtyping and by promotion.
use Rattle.std.proofs.Common.{◌≡◌, zero, suc, Bool, true, false, refl, sym, ◌∙◌, ap, subst, List, [], ◌++◌, Option, Some, None, ◌⊎◌, inl, inr, if◌then◌else◌, ◌&&◌}
use Rattle.std.specs.Prelude.{option_and_then}
use Rattle.wy_kernel.specs.declared.operator.Primitive.{Primitive}
use Rattle.wy_kernel.specs.declared.operator.Primitive.TheVariants as prim
use Rattle.wy_kernel.specs.declared.types.Base.TheVariants.{Primitive as Basic, Class as Named}
use Rattle.wy_kernel.specs.declared.types.Ty.{Ty}
use Rattle.wy_kernel.specs.declared.types.Ty.TheVariants.{Void, Null, Of}
use Rattle.wy_kernel.specs.Program.{Class}
use Rattle.wy_kernel.specs.Builtin as builtin
use Rattle.wy_kernel.specs.Subtyping.{IsReference, Below, primitive_type, direct_supertypes}
use Rattle.wy_kernel.specs.Table.{Table, IsTable}
use Rattle.wy_overloads.specs.Lineage.{HasTop}
use Rattle.wy_overloads.proofs.Straight.{Straight, equal, upward, widening, null, object, array, straight, Widens, byte_to_short, byte_to_int, byte_to_long, short_to_int, short_to_long, char_to_int, char_to_long, int_to_long}
use Rattle.wy_elab_expr.specs.Operators.{primitive_in, is_void, is_nullable, is_boolean, promoted_type, wide, number_type, both_numbers, booleans}
use Rattle.wy_elab_expr.specs.Elaboration.{is_index, is_int_number}
use Rattle.wy_typing.specs.Types.{boolean_type, IsValueType, IsNullable, IsNumber, IsPromoted, Fits, Promotes, of_byte, of_short, of_char, of_int, of_long, PromoteTogether, ints, long_left, long_right}

object_alone : (rest : List Class) → direct_supertypes (builtin.classes ++ rest) 0 ≡ []
unfolding direct_supertypes builtin.classes
object_alone rest = refl

pub top_of : (t : Table) → IsTable t → HasTop t.classes
top_of t g = ap (λ cs. direct_supertypes cs 0) g.library_classes.1 ∙ object_alone g.library_classes.0

-- ---- options and tests

pub the_same : {X : Type 0} {x y : X} → Some x ≡ Some y → x ≡ y
the_same e = cc

pub nothing_there : {X A : Type 0} {x : X} → None ≡ Some x → A
nothing_there e = absurd (cc)

pub both_true : (a b : Bool) → a && b ≡ true → (a ≡ true) × (b ≡ true)
both_true true b e = (refl, e)
both_true false b e = absurd (cc)

pub none_of : {A : Type 0} → false ≡ true → A
none_of e = absurd (cc)

-- ---- what is brought to a type

-- a number of the first type is converted to the second
abbrev pub IsConverted : Ty → Ty → Type 0
IsConverted a b = (q : Primitive) × (p : Primitive) × (a ≡ primitive_type q) × (b ≡ primitive_type p) × IsNumber q × IsNumber p

abbrev pub Brings : List Class → Ty → Ty → Type 0
Brings classes a b = Fits classes a b ⊎ IsConverted a b

widened : {p q : Primitive} → Widens p q → IsNumber p × IsNumber q
widened byte_to_short = (tt, tt)
widened byte_to_int = (tt, tt)
widened byte_to_long = (tt, tt)
widened short_to_int = (tt, tt)
widened short_to_long = (tt, tt)
widened char_to_int = (tt, tt)
widened char_to_long = (tt, tt)
widened int_to_long = (tt, tt)

brings_straight : (classes : List Class) {a b : Ty} → Straight classes a b → Below classes a b → Brings classes a b
brings_straight classes equal h = inl (inl refl)
brings_straight classes (upward s) h = inl (inr (tt, h))
brings_straight classes (widening {p} {q} w) h = inr (p, q, refl, refl, (widened w).0, (widened w).1)
brings_straight classes (null r) h = inl (inr (r, h))
brings_straight classes object h = inl (inr (tt, h))
brings_straight classes (array lt) h = inl (inr (tt, h))

pub brings_below : (classes : List Class) {a b : Ty} → HasTop classes → Below classes a b → Brings classes a b
brings_below classes top h = brings_straight classes (straight classes top h) h

pub brings_same : (classes : List Class) (a : Ty) → Brings classes a a
brings_same classes a = inl (inl refl)

-- ---- kinds

pub nullable : (a : Ty) → is_nullable a ≡ true → IsNullable a
nullable Void e = none_of e
nullable Null e = inl refl
nullable (Of (Named c) n) e = inr tt
nullable (Of (Basic p) (suc n)) e = inr tt
nullable (Of (Basic p) zero) e = none_of e

pub reference_nullable : (a : Ty) → IsReference a → is_nullable a ≡ true
reference_nullable Void r = absurd r
reference_nullable Null r = absurd r
reference_nullable (Of (Named c) n) r = refl
reference_nullable (Of (Basic p) (suc n)) r = refl
reference_nullable (Of (Basic p) zero) r = absurd r

pub not_void : (a : Ty) → is_void a ≡ false → IsValueType a
not_void Void e = absurd (cc)
not_void Null e = tt
not_void (Of b n) e = tt

pub nullable_value : (a : Ty) → is_nullable a ≡ true → IsValueType a
nullable_value Void e = none_of e
nullable_value Null e = tt
nullable_value (Of b n) e = tt

pub nullable_primitive : (a : Ty) → is_nullable a ≡ true → primitive_in a ≡ None
nullable_primitive Void e = none_of e
nullable_primitive Null e = refl
nullable_primitive (Of (Named c) n) e = refl
nullable_primitive (Of (Basic p) (suc n)) e = refl
nullable_primitive (Of (Basic p) zero) e = none_of e

pub is_primitive : (a : Ty) (p : Primitive) → primitive_in a ≡ Some p → a ≡ primitive_type p
is_primitive Void p e = nothing_there e
is_primitive Null p e = nothing_there e
is_primitive (Of (Named c) n) p e = nothing_there e
is_primitive (Of (Basic q) (suc n)) p e = nothing_there e
is_primitive (Of (Basic q) zero) p e = ap (λ x. primitive_type x) (the_same e)

pub boolean_is : (a : Ty) → is_boolean a ≡ true → a ≡ boolean_type
boolean_is Void e = none_of e
boolean_is Null e = none_of e
boolean_is (Of (Named c) n) e = none_of e
boolean_is (Of (Basic prim.Bool) zero) e = refl
boolean_is (Of (Basic prim.Bool) (suc n)) e = none_of e
boolean_is (Of (Basic _) n) e = none_of e

-- ---- promotion

pub is_number : {p q : Primitive} → Promotes p q → IsNumber p
is_number of_byte = tt
is_number of_short = tt
is_number of_char = tt
is_number of_int = tt
is_number of_long = tt

pub is_promoted : {p q : Primitive} → Promotes p q → IsPromoted q
is_promoted of_byte = tt
is_promoted of_short = tt
is_promoted of_char = tt
is_promoted of_int = tt
is_promoted of_long = tt

pub promoted_number : (p : Primitive) → IsPromoted p → IsNumber p
promoted_number prim.Int h = tt
promoted_number prim.Long h = tt
promoted_number prim.Bool h = h
promoted_number _ h = tt

promotes : (p w : Primitive) → promoted_type p ≡ Some w → Promotes p w
promotes prim.Bool w e = nothing_there e
promotes prim.Byte w e = subst (λ x. Promotes prim.Byte x) (the_same e) of_byte
promotes prim.Short w e = subst (λ x. Promotes prim.Short x) (the_same e) of_short
promotes prim.Char w e = subst (λ x. Promotes prim.Char x) (the_same e) of_char
promotes prim.Int w e = subst (λ x. Promotes prim.Int x) (the_same e) of_int
promotes prim.Long w e = subst (λ x. Promotes prim.Long x) (the_same e) of_long

promoted_in : (a : Ty) (o : Option Primitive) (w : Primitive) → primitive_in a ≡ o → option_and_then promoted_type o ≡ Some w → (q : Primitive) × (a ≡ primitive_type q) × Promotes q w
promoted_in a None w is e = nothing_there e
promoted_in a (Some q) w is e = (q, is_primitive a q is, promotes q w e)

-- a type of numbers, and what it is promoted to
pub promoted_of : (a : Ty) (w : Primitive) → number_type a ≡ Some w → (q : Primitive) × (a ≡ primitive_type q) × Promotes q w
promoted_of a w e = promoted_in a (primitive_in a) w refl e

pub brings_promoted : (classes : List Class) (a : Ty) (q w : Primitive) → a ≡ primitive_type q → Promotes q w → Brings classes a (primitive_type w)
brings_promoted classes a q w is h = inr (q, w, is, refl, is_number h, promoted_number w (is_promoted h))

pub primitive_value : (a : Ty) (q : Primitive) → a ≡ primitive_type q → IsValueType a
primitive_value a q is = subst IsValueType (sym is) tt

as_wide : {q r v w : Primitive} → v ≡ w → PromoteTogether q r v → PromoteTogether q r w
as_wide {q} {r} e h = subst (λ x. PromoteTogether q r x) e h

combined : {q r p1 p2 : Primitive} (w : Primitive) → Promotes q p1 → Promotes r p2 → wide (Some p1) (Some p2) ≡ Some w → PromoteTogether q r w
combined w of_byte of_byte e = as_wide (the_same e) (ints of_byte of_byte)
combined w of_byte of_short e = as_wide (the_same e) (ints of_byte of_short)
combined w of_byte of_char e = as_wide (the_same e) (ints of_byte of_char)
combined w of_byte of_int e = as_wide (the_same e) (ints of_byte of_int)
combined w of_short of_byte e = as_wide (the_same e) (ints of_short of_byte)
combined w of_short of_short e = as_wide (the_same e) (ints of_short of_short)
combined w of_short of_char e = as_wide (the_same e) (ints of_short of_char)
combined w of_short of_int e = as_wide (the_same e) (ints of_short of_int)
combined w of_char of_byte e = as_wide (the_same e) (ints of_char of_byte)
combined w of_char of_short e = as_wide (the_same e) (ints of_char of_short)
combined w of_char of_char e = as_wide (the_same e) (ints of_char of_char)
combined w of_char of_int e = as_wide (the_same e) (ints of_char of_int)
combined w of_int of_byte e = as_wide (the_same e) (ints of_int of_byte)
combined w of_int of_short e = as_wide (the_same e) (ints of_int of_short)
combined w of_int of_char e = as_wide (the_same e) (ints of_int of_char)
combined w of_int of_int e = as_wide (the_same e) (ints of_int of_int)
combined w of_byte of_long e = as_wide (the_same e) (long_right of_byte)
combined w of_short of_long e = as_wide (the_same e) (long_right of_short)
combined w of_char of_long e = as_wide (the_same e) (long_right of_char)
combined w of_int of_long e = as_wide (the_same e) (long_right of_int)
combined w of_long of_byte e = as_wide (the_same e) (long_left of_byte)
combined w of_long of_short e = as_wide (the_same e) (long_left of_short)
combined w of_long of_char e = as_wide (the_same e) (long_left of_char)
combined w of_long of_int e = as_wide (the_same e) (long_left of_int)
combined w of_long of_long e = as_wide (the_same e) (long_left of_long)

-- two types of numbers, and what both are promoted to
abbrev pub Together : Ty → Ty → Primitive → Type 0
Together a b w = (q : Primitive) × (r : Primitive) × (a ≡ primitive_type q) × (b ≡ primitive_type r) × PromoteTogether q r w

together_by : (a b : Ty) (x y : Option Primitive) (w : Primitive) → number_type a ≡ x → number_type b ≡ y → wide x y ≡ Some w → Together a b w
together_by a b (Some p) (Some q) w e f g =
    let h = promoted_of a p e in let k = promoted_of b q f in (h.0, k.0, h.1, k.1, combined w h.2 k.2 g)
together_by a b None y w e f g = nothing_there g
together_by a b (Some prim.Long) None w e f g = nothing_there g
together_by a b (Some _) None w e f g = nothing_there g

pub together : (a b : Ty) (w : Primitive) → both_numbers a b ≡ Some w → Together a b w
together a b w e = together_by a b (number_type a) (number_type b) w refl refl e

pub together_promoted : {q r w : Primitive} → PromoteTogether q r w → IsPromoted w
together_promoted (ints h k) = tt
together_promoted (long_left h) = tt
together_promoted (long_right h) = tt

pub together_left : {q r w : Primitive} → PromoteTogether q r w → IsNumber q
together_left (ints h k) = is_number h
together_left (long_left h) = tt
together_left (long_right h) = is_number h

pub together_right : {q r w : Primitive} → PromoteTogether q r w → IsNumber r
together_right (ints h k) = is_number k
together_right (long_left h) = is_number h
together_right (long_right h) = tt

index_in : (o : Option Primitive) → is_int_number o ≡ true → o ≡ Some prim.Int
index_in (Some prim.Int) e = refl
index_in (Some _) e = none_of e
index_in None e = none_of e

-- an index is promoted to int
pub index_of : (a : Ty) → is_index a ≡ true → (q : Primitive) × (a ≡ primitive_type q) × Promotes q prim.Int
index_of a e = promoted_of a prim.Int (index_in (number_type a) e)

booleans_in : (x y : Bool) (p : Primitive) → (if x && y then Some prim.Bool else None) ≡ Some p → (x ≡ true) × (y ≡ true) × (p ≡ prim.Bool)
booleans_in true true p e = (refl, refl, sym (the_same e))
booleans_in true false p e = nothing_there e
booleans_in false y p e = nothing_there e

pub booleans_of : (a b : Ty) (p : Primitive) → booleans a b ≡ Some p → (a ≡ boolean_type) × (b ≡ boolean_type) × (p ≡ prim.Bool)
booleans_of a b p e = let h = booleans_in (is_boolean a) (is_boolean b) p e in (boolean_is a h.0, boolean_is b h.1, h.2)
