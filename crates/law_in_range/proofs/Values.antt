-- What types say of the ranges of values, and that operations make no fixed text.
use Rattle.std.proofs.Common.{◌≡◌, ◌<◌, ◌+◌, ◌*◌, ◌/◌, ◌%◌, ◌^◌, ⊎_elim, arith, ℕ, zero, suc, Bool, true, false, List, length, Option, Some, refl, sym, ap, ◌∙◌, subst}
use Rattle.std.specs.Prelude.{None as Absent}
use Rattle.std.specs.Prelude.{ℤ, pos, ◌&&◌, if◌then◌else◌, slice_get, slice_index_or}
use Rattle.std.specs.List.{All}
use Rattle.std.proofs.lemmas.Option.{slice_get_within}
use Rattle.std.specs.Ordering.{int_eq}
use Rattle.std.specs.Int.{Width, w32, w64}
use Rattle.std.proofs.Math.Nat.{lt-mul-div-succ}
use Rattle.wy_kernel.specs.declared.operator.Primitive.{Primitive}
use Rattle.wy_kernel.specs.declared.operator.Primitive.TheVariants as prim
use Rattle.wy_kernel.specs.declared.operator.BinOp.{BinOp}
use Rattle.wy_kernel.specs.declared.operator.UnOp.{UnOp}
use Rattle.wy_kernel.specs.declared.types.Base.{Base}
use Rattle.wy_kernel.specs.declared.types.Base.TheVariants.{Primitive as Basic, Class as Named}
use Rattle.wy_kernel.specs.declared.types.Ty.{Ty}
use Rattle.wy_kernel.specs.declared.types.Ty.TheVariants.{Void, Null as OfNull, Of}
use Rattle.wy_kernel.specs.Builtin as builtin
use Rattle.wy_kernel.specs.Builtin.{throwable_class}
use Rattle.wy_kernel.specs.Program.{Program, Body, Field, Method, field, method, body, init_body, is_source, object_class, base_of, type_of_code}
use Rattle.wy_kernel.specs.Subtyping.{class_type}
use Rattle.wy_kernel.specs.Table.{IsMethodOf, IsFieldOf}
use Rattle.wy_value.specs.declared.value.Value.{Value}
use Rattle.wy_value.specs.declared.value.Value.TheVariants as val
use Rattle.wy_value.specs.Conversion.{value_in, converted}
use Rattle.wy_value.specs.Operator.{is_comparison, is_division, comparison, arithmetic, on_numbers, binary_of, unary_of}
use Rattle.wy_steps.specs.State.{Noted}
use Rattle.wy_steps.specs.Steps.{event_in, code_of}
use Rattle.wy_meaning.specs.World.{is_null}
use Rattle.wy_meaning.specs.Place.{primitive_of, operated}
use Rattle.wy_typing.specs.Types.{text_type, IsVariableType}
use Rattle.wy_typing.specs.Expressions.{IsMethod, IsField}
use Rattle.wy_typing.specs.Programs.{types, IsTypeIn}
use Rattle.law_induction.specs.Law.{FrameKind, OfCall, OfInit}
use Rattle.law_typed_states.specs.Typed.{Is, MayStand, types_of, local_types}
use Rattle.law_typed_states.proofs.Subtypes.{part_at, part_is, above_text, above_array}
use Rattle.law_typed_states.proofs.Library.{object_is_top, text_below_object, get_front}
use Rattle.wy_typing.proofs.Ranges.{all_at}
use Rattle.law_typed_states.proofs.Bodies.{part_there}
use Rattle.law_typed_states.proofs.Rules.{Ground, A, p}
use Rattle.law_in_range.specs.InRange.{arrays_from, IsObject, IsSome, IsReturned, IsThrown, FixedInRange}

-- ---- operations

-- a value that is there, and no text of another program
abbrev pub Plain : Program → Value → Type 0
Plain p v = FixedInRange p v × IsSome v

abbrev OptionPlain : Program → Option Value → Type 0
OptionPlain p Absent = Unit {0}
OptionPlain p (Some v) = Plain p v

module _ (p : Program) where
  numbers_plain : (width : Width) (make : ℤ → Value) (o : BinOp) (x y : ℤ) → ((z : ℤ) → Plain p (make z)) → OptionPlain p (on_numbers width make o x y)
  numbers_plain width make o x y h = go (is_comparison o) (is_division o && int_eq y (pos 0)) (arithmetic width o x y)
    where
      go : (c d : Bool) (z : ℤ) → OptionPlain p (if c then Some (val.Bool (comparison o x y)) else (if d then Absent else Some (make z)))
      go true d z = (tt, tt)
      go false true z = tt
      go false false z = h z

  binary_plain : (o : BinOp) (x y : Value) → OptionPlain p (binary_of o x y)
  binary_plain o (val.Int x) (val.Int y) = numbers_plain w32 (λ z. val.Int z) o x y (λ z. (tt, tt))
  binary_plain o (val.Long x) (val.Long y) = numbers_plain w64 (λ z. val.Long z) o x y (λ z. (tt, tt))
  binary_plain o (val.Int x) (val.Long y) = (tt, tt)
  binary_plain o (val.Long x) (val.Int y) = (tt, tt)
  binary_plain o (val.Bool x) (val.Bool y) = (tt, tt)
  binary_plain o _ _ = (tt, tt)

  of_option : (o : Option Value) (v : Value) → o ≡ Some v → OptionPlain p o → Plain p v
  of_option Absent v e h = absurd (cc e)
  of_option (Some x) v e h = subst (Plain p) (let q : x ≡ v = cc e in q) h

  pub binary_gives : (o : BinOp) (x y v : Value) → binary_of o x y ≡ Some v → Plain p v
  binary_gives o x y v e = of_option (binary_of o x y) v e (binary_plain o x y)

  pub operated_gives : (o : BinOp) (wide : Primitive) (x y v : Value) → operated o wide x y ≡ Some v → Plain p v
  unfolding operated
  operated_gives o wide x y v e = of_option (operated o wide x y) v e (binary_plain o _ _)

  pub unary_gives : (o : UnOp) (v : Value) → FixedInRange p v → FixedInRange p (unary_of o v)
  unary_gives o (val.Int z) h = tt
  unary_gives o (val.Long z) h = tt
  unary_gives o (val.Bool z) h = tt
  unary_gives o _ h = h

  number_in : (to : Primitive) (z : ℤ) → Plain p (value_in to z)
  number_in prim.Bool z = (tt, tt)
  number_in prim.Byte z = (tt, tt)
  number_in prim.Short z = (tt, tt)
  number_in prim.Char z = (tt, tt)
  number_in prim.Int z = (tt, tt)
  number_in prim.Long z = (tt, tt)

  pub converted_gives : (to : Primitive) (v : Value) → Plain p v → Plain p (converted to v)
  converted_gives to (val.Byte z) h = number_in to z
  converted_gives to (val.Short z) h = number_in to z
  converted_gives to (val.Char c) h = number_in to (pos c)
  converted_gives to (val.Int z) h = number_in to z
  converted_gives to (val.Long z) h = number_in to z
  converted_gives to _ h = h

  number_fixed : (to : Primitive) (z : ℤ) → FixedInRange p (value_in to z)
  number_fixed to z = (number_in to z).0

  pub converted_fixed : (to : Primitive) (v : Value) → FixedInRange p v → FixedInRange p (converted to v)
  converted_fixed to (val.Byte z) h = number_fixed to z
  converted_fixed to (val.Short z) h = number_fixed to z
  converted_fixed to (val.Char c) h = number_fixed to (pos c)
  converted_fixed to (val.Int z) h = number_fixed to z
  converted_fixed to (val.Long z) h = number_fixed to z
  converted_fixed to _ h = h

  pub primitive_gives : (ty : Ty) (v : Value) → Plain p v → Plain p (primitive_of ty v)
  unfolding primitive_of
  primitive_gives (Of (Basic q) zero) v h = converted_gives q v h
  primitive_gives (Of (Basic q) (suc n)) v h = h
  primitive_gives (Of (Named c) n) v h = h
  primitive_gives Void v h = h
  primitive_gives OfNull v h = h

-- ---- types

below_arrays : (code : ℕ) → code / 2 ^ 24 ≡ 0 → code < arrays_from
below_arrays code e =
    let h : code < 2 ^ 24 * (code / 2 ^ 24 + 1) = lt-mul-div-succ code {b = 2 ^ 24} (omega arith) in
    let g : code < 2 ^ 24 * (0 + 1) = subst (λ k. code < 2 ^ 24 * (k + 1)) e h in
    omega (arith, g)

some_field : {x y : Field} → Some x ≡ Some y → x ≡ y
some_field e = cc e

module _ (G : Ground) where
  abbrev Moment : Type 0
  Moment = List (Noted (A G))

  -- no field of the library is one of Object
  library_field : (k : ℕ) (f : Field) → k < length builtin.fields → slice_get builtin.fields k ≡ Some f → f.class ≡ object_class → ⊥
  unfolding builtin.fields
  library_field zero f lt e s = absurd (cc (subst (λ (z : Field). z.class ≡ object_class) (sym (some_field e)) s))
  library_field (suc k) f lt e s = absurd (omega (arith, lt))

  pub field_of_source : (k : ℕ) (f : Field) → IsField (p G) k f → f.class ≡ object_class → ⊥
  unfolding is_source
  field_of_source k f e s =
      let begins = G.fits.declarations.library_fields in
      let lt = G.library.fields k f e (ap is_source s) in
      library_field k f lt (get_front builtin.fields begins.0 k f lt (subst (λ fs. slice_get fs k ≡ Some f) begins.1 e)) s

  -- what stands for a class other than Object is no array
  stands_for : (base : Base) (brackets c : ℕ) → MayStand (p G) (Of base brackets) (class_type c) → (c ≡ object_class → ⊥) → brackets ≡ 0
  stands_for base zero c s n = refl
  stands_for base (suc m) c s n = ⊎_elim (λ e. absurd (n (cc e))) (λ h. absurd (cc h.2)) (above_array (p G).classes (object_is_top (p G) G.fits.declarations.library_classes) _ _ s.below base m refl)

  pub no_array : (code c : ℕ) → MayStand (p G) (type_of_code code) (class_type c) → (c ≡ object_class → ⊥) → code < arrays_from
  unfolding type_of_code
  no_array code c s n = below_arrays code (stands_for (base_of (code % 2 ^ 24)) (code / 2 ^ 24) c s n)

  pub object_at : (n : Moment) (k c : ℕ) → (c ≡ object_class → ⊥) → Is (p G) n (class_type c) (val.Object k) → IsObject (event_in n) k
  object_at n k c o h = record { event = h.event; there = h.there; is_new = h.is_new; no_array = no_array (code_of h.event.entity) c h.stands o }

  -- a value of a type that a value has is one
  pub some_value : (n : Moment) (ty : Ty) (v : Value) → (ty ≡ Void → ⊥) → Is (p G) n ty v → IsSome v
  some_value n ty val.None h i = h i
  some_value n ty (val.Bool x) h i = tt
  some_value n ty (val.Byte x) h i = tt
  some_value n ty (val.Short x) h i = tt
  some_value n ty (val.Char x) h i = tt
  some_value n ty (val.Int x) h i = tt
  some_value n ty (val.Long x) h i = tt
  some_value n ty val.Null h i = tt
  some_value n ty (val.Object x) h i = tt
  some_value n ty (val.Text x) h i = tt
  some_value n ty (val.Fixed x) h i = tt
  some_value n ty (val.Arm k) h i = i

  pub no_arm : (n : Moment) (ty : Ty) (v : Value) → Is (p G) n ty v → IsReturned v
  no_arm n ty (val.Arm k) h = h
  no_arm n ty _ h = tt

  no_text : MayStand (p G) text_type (class_type throwable_class) → ⊥
  no_text s = ⊎_elim (λ e. cc e) (λ e. cc e)
      (above_text (p G).classes (object_is_top (p G) G.fits.declarations.library_classes) (text_below_object (p G) G.fits.declarations.library_classes) _ _ s.below refl)

  -- what is thrown, and is not null, is an object of a class
  pub throwable : (n : Moment) (v : Value) → is_null v ≡ false → Is (p G) n (class_type throwable_class) v → IsThrown (event_in n) v
  unfolding is_null
  throwable n (val.Object k) e h = object_at n k throwable_class (λ q. cc q) h
  throwable n (val.Text k) e h = absurd (no_text h)
  throwable n (val.Fixed k) e h = absurd (no_text h)
  throwable n val.Null e h = absurd (cc e)
  throwable n val.None e h = absurd (cc h)
  throwable n (val.Bool x) e h = absurd (cc h)
  throwable n (val.Byte x) e h = absurd (cc h)
  throwable n (val.Short x) e h = absurd (cc h)
  throwable n (val.Char x) e h = absurd (cc h)
  throwable n (val.Int x) e h = absurd (cc h)
  throwable n (val.Long x) e h = absurd (cc h)
  throwable n (val.Arm k) e h = absurd h

  -- ---- what has a value

  variable_known : (ty : Ty) → IsVariableType ty → ty ≡ Void → ⊥
  variable_known Void h e = h
  variable_known OfNull h e = h
  variable_known (Of b n) h e = cc e

  types_known : (b : Body) → All (IsTypeIn (p G)) (types b) → (k : ℕ) (ty : Ty) → slice_get (types b) k ≡ Some ty → ty ≡ Void → ⊥
  types_known b h k ty e = variable_known ty (all_at (IsTypeIn (p G)) (types b) k ty h e).variable

  body_there : (xs : List (Option Body)) (m : ℕ) (b : Body) → slice_index_or xs m Absent ≡ Some b → slice_get xs m ≡ Some (Some b)
  body_there xs m b e = ⊎_elim (λ h. absurd (cc (sym h.1 ∙ e))) (λ h. h.1 ∙ ap Some (sym h.2 ∙ e)) (part_at xs m Absent)

  call_locals : (m : ℕ) (o : Option Body) → body (p G) m ≡ o → (k : ℕ) (ty : Ty) → slice_get (types_of o) k ≡ Some ty → ty ≡ Void → ⊥
  unfolding body
  call_locals m Absent e k ty g = absurd (cc g)
  call_locals m (Some b) e k ty g =
      let there = body_there (p G).bodies m b e in
      let y = part_there (p G).methods m (subst (λ k. m < k) G.fits.a_place_a_method (slice_get_within (p G).bodies m (Some b) there)) in
      types_known b (G.fits.bodies m y.0 b y.1 there).locals k ty g

  init_locals : (c : ℕ) (o : Option Body) → init_body (p G) c ≡ o → (k : ℕ) (ty : Ty) → slice_get (types_of o) k ≡ Some ty → ty ≡ Void → ⊥
  unfolding init_body
  init_locals c Absent e k ty g = absurd (cc g)
  init_locals c (Some b) e k ty g = types_known b (G.fits.initializers c b (body_there (p G).init_bodies c b e)).locals k ty g

  -- each local is of a type that has values
  pub locals_known : (i : FrameKind) (k : ℕ) (ty : Ty) → slice_get (local_types (p G) i) k ≡ Some ty → ty ≡ Void → ⊥
  locals_known (OfCall m) k ty g = call_locals m (body (p G) m) refl k ty g
  locals_known (OfInit c) k ty g = init_locals c (init_body (p G) c) refl k ty g

  pub field_known : (k : ℕ) (f : Field) → IsField (p G) k f → f.ty ≡ Void → ⊥
  field_known k f e = variable_known f.ty (all_at (λ (f : Field). IsVariableType f.ty) (p G).fields k f G.fits.declarations.variables e)

  -- ---- classes of the program

  pub field_class : (k : ℕ) (f : Field) → IsField (p G) k f → (field (p G) k).class < length (p G).classes
  unfolding field
  field_class k f e = subst (λ (z : Field). z.class < length (p G).classes) (sym (part_is (p G).fields k _ f e)) (all_at (IsFieldOf (length (p G).classes)) (p G).fields k f G.fits.declarations.fields e).class

  pub method_class : (k : ℕ) (m : Method) → IsMethod (p G) k m → (method (p G) k).class < length (p G).classes
  unfolding method
  method_class k m e = subst (λ (z : Method). z.class < length (p G).classes) (sym (part_is (p G).methods k _ m e)) (all_at (IsMethodOf (length (p G).classes)) (p G).methods k m G.fits.declarations.methods e).class
