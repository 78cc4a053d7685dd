-- What names denote, calls and `new` have their types.
use Rattle.std.proofs.Common.{◌≡◌, ℕ, zero, suc, Bool, true, false, refl, sym, subst, List, length, Option, Some, None, arith, inl, inr, if◌then◌else◌, ◌||◌}
use Rattle.std.specs.Prelude.{slice_get, unwrap_or}
use Rattle.wy_kernel.specs.declared.operator.Primitive.TheVariants as prim
use Rattle.wy_kernel.specs.declared.types.Base.{Base}
use Rattle.wy_kernel.specs.declared.types.Base.TheVariants.{Primitive as Basic, Class as Named}
use Rattle.wy_kernel.specs.declared.types.Ty.{Ty}
use Rattle.wy_kernel.specs.declared.types.Ty.TheVariants.{Void, Null, Of}
use Rattle.wy_kernel.specs.declared.form.LibOp.TheVariants as lib
use Rattle.wy_kernel.specs.Form.{Expression, Read, New, Call, Lib, Place, Local, Static, Part, absent, the, Row, none, more}
use Rattle.wy_kernel.specs.Form as kernel
use Rattle.wy_kernel.specs.Program.{Program, Field, object_class}
use Rattle.wy_kernel.specs.Subtyping.{Below, transitive, to_object, primitive_type, class_type}
use Rattle.wy_kernel.specs.Table.{Table, IsTypeOf, ConstantValue}
use Rattle.wy_constant.specs.declared.rule.Rule.TheVariants.{UnknownName, BadOperand, Private, NotInStatic, NotOffered}
use Rattle.wy_constant.specs.Scope.{Scope, Variable, denoted, is_named}
use Rattle.wy_constant.specs.Fields.{class_named, field_of, superclass}
use Rattle.wy_constant.specs.Constant.{name_constant, member_constant}
use Rattle.wy_overloads.specs.Lineage.{HasTop}
use Rattle.wy_elab_expr.specs.Meaning.{Meaning, Known, Formed, type_of, Gets, give, refuse, ◌>>=◌, formed}
use Rattle.wy_elab_expr.specs.Operators.{Judgement}
use Rattle.wy_elab_expr.specs.Members.{Spot, spot, this_form, is_outside, own_field, own_field_named, variable_or_field, named_spot, read_as, named, static_field, field_of_class, member_of_class, qualified_spot, is_library_name, limit_or, qualified_name, object_field, field_through, field_spot, is_length, field_read, no_field}
use Rattle.wy_elab_expr.specs.Elaboration.{above, super_field_named, super_spot}
use Rattle.wy_typing.specs.Types as types
use Rattle.wy_typing.specs.Types.{IsValueType, Fits, Offers}
use Rattle.wy_typing.specs.Expressions as typing
use Rattle.wy_typing.specs.Expressions.{HasType, Gives, GivesAll, IsPlace, IsMethod, HasBody, IsMade, MayBeCalled, IsReferenceOf}
use Rattle.law_typed.specs.ExpressionsTyped.{table_of, Stands, HasItsType}
use Rattle.law_typed.proofs.Bringing.{top_of, none_of}
use Rattle.law_typed.proofs.Finding.{variable_at, superclass_below, superclass_contained, field_class}
use Rattle.law_typed.proofs.Operating as operating
use Rattle.law_typed.proofs.Ranges.{many_classes}
use Rattle.law_typed.proofs.Sequence.{Sound, next, given, none_found, if_either}

both_false : (a b : Bool) → a || b ≡ false → (a ≡ false) × (b ≡ false)
both_false false b e = (refl, e)
both_false true b e = absurd (cc)

module _ (p : Program) (constants : List (Option ConstantValue)) (j : Judgement) (locals : List Ty) (s : Scope) (g : Stands p constants j locals s) where
  abbrev T : Table
  T = table_of p constants

  abbrev n : ℕ
  n = length p.fixed_texts

  abbrev Fit : Meaning → Type 0
  Fit = operating.Fit p constants j locals s g

  abbrev Has : Ty → Expression → Type 0
  Has ty e = HasType p locals e ty

  top : HasTop p.classes
  top = top_of T g.table

  its : (e : Expression) (ty : Ty) → Has ty e → HasItsType p locals e ty
  its e ty h = (ty, h, inl refl)

  -- ---- places

  abbrev pub SpotFits : Spot → Type 0
  SpotFits x = IsPlace p locals x.place x.ty

  this_typed : s.has_this ≡ true → Has (class_type s.class) this_form
  this_typed e = typing.read (typing.local (g.scope.own e))

  own_by : (k : ℕ) (f : Field) (token : ℕ) (x y z : Bool) → slice_get p.fields k ≡ Some f → Below p.classes (class_type s.class) (class_type f.class) → f.is_static ≡ y → s.has_this ≡ z →
      Sound n Unit SpotFits (if x then refuse Private token else (if y then give (spot (Static k token) f.ty f.is_fixed) else (if z then give (spot (kernel.Field this_form k token) f.ty f.is_fixed) else refuse NotInStatic token)))
  own_by k f token true y z is le e h = none_found SpotFits Private token
  own_by k f token false true z is le e h = given SpotFits (spot (Static k token) f.ty f.is_fixed) (λ u. typing.static is e)
  own_by k f token false false true is le e h = given SpotFits (spot (kernel.Field this_form k token) f.ty f.is_fixed) (λ u. typing.field is e (typing.fitting (this_typed h) (inr (tt, le))))
  own_by k f token false false false is le e h = none_found SpotFits NotInStatic token

  own_sound : (k : ℕ) (o : Option Field) (token : ℕ) → slice_get p.fields k ≡ o → ((f : Field) → o ≡ Some f → Below p.classes (class_type s.class) (class_type f.class)) → Sound n Unit SpotFits (own_field s k o token)
  own_sound k None token is h = none_found SpotFits UnknownName token
  own_sound k (Some f) token is h = own_by k f token (is_outside s f.is_private f.class) f.is_static s.has_this is (h f refl) refl refl

  own_named : (name : List ℕ) (o : Option ℕ) (token : ℕ) → field_of T s.class name ≡ o → Sound n Unit SpotFits (own_field_named T s o token)
  own_named name None token e = none_found SpotFits UnknownName token
  own_named name (Some k) token e = own_sound k (slice_get p.fields k) token refl (λ f is. field_class T s.class name k f e is)

  variable_sound : (name : List ℕ) (o : Option Variable) (token : ℕ) → denoted s name ≡ o → Sound n Unit SpotFits (variable_or_field T s name o token)
  variable_sound name (Some v) token e =
      given SpotFits (spot (Local v.number) v.ty v.is_fixed) (λ u. typing.local (variable_at (λ (w : Variable). slice_get locals w.number ≡ Some w.ty) (is_named name) s.variables v g.scope.variables e))
  variable_sound name None token e = own_named name (field_of T s.class name) token refl

  pub named_spot_sound : (name : List ℕ) (token : ℕ) → Sound n Unit SpotFits (named_spot T s name token)
  unfolding named_spot
  named_spot_sound name token = variable_sound name (denoted s name) token refl

  pub read_fits : (o : Option ConstantValue) (x : Spot) (token : ℕ) → SpotFits x → Fit (read_as o x token)
  read_fits (Some c) x token h = tt
  read_fits None x token h = its (Read x.place) x.ty (typing.read h)

  pub named_sound : (name : List ℕ) (token : ℕ) → Sound n Unit Fit (named T s name token)
  unfolding named
  named_sound name token =
      next SpotFits (named_spot T s name token) (λ x. give (read_as (name_constant T s name) x token)) (named_spot_sound name token)
      (λ x. given Fit (read_as (name_constant T s name) x token) (λ h. read_fits (name_constant T s name) x token h.1))

  static_by : (k : ℕ) (f : Field) (token : ℕ) (x y : Bool) → slice_get p.fields k ≡ Some f → f.is_static ≡ y →
      Sound n Unit SpotFits (if x then refuse Private token else (if y then give (spot (Static k token) f.ty f.is_fixed) else refuse NotInStatic token))
  static_by k f token true y is e = none_found SpotFits Private token
  static_by k f token false true is e = given SpotFits (spot (Static k token) f.ty f.is_fixed) (λ u. typing.static is e)
  static_by k f token false false is e = none_found SpotFits NotInStatic token

  static_sound : (k : ℕ) (o : Option Field) (token : ℕ) → slice_get p.fields k ≡ o → Sound n Unit SpotFits (static_field s k o token)
  static_sound k None token is = none_found SpotFits UnknownName token
  static_sound k (Some f) token is = static_by k f token (is_outside s f.is_private f.class) f.is_static is refl

  of_class_sound : (class : ℕ) (o : Option ℕ) (token : ℕ) → Sound n Unit SpotFits (field_of_class T s class o token)
  of_class_sound class (Some k) token = static_sound k (slice_get p.fields k) token refl
  of_class_sound class None token = none_found SpotFits (no_field class) token

  member_sound : (class : List ℕ) (o : Option ℕ) (name : List ℕ) (class_token token : ℕ) → Sound n Unit SpotFits (member_of_class T s class o name class_token token)
  member_sound class (Some c) name class_token token = of_class_sound c (field_of T c name) token
  member_sound class None name class_token token = if_either SpotFits (is_library_name class) _ _ (λ e. none_found SpotFits NotOffered token) (λ e. none_found SpotFits UnknownName class_token)

  pub qualified_spot_sound : (class name : List ℕ) (class_token token : ℕ) → Sound n Unit SpotFits (qualified_spot T s class name class_token token)
  unfolding qualified_spot
  qualified_spot_sound class name class_token token = member_sound class (class_named T.classes class) name class_token token

  limit_sound : (o : Option ConstantValue) (token : ℕ) (other : Gets Meaning) → Sound n Unit Fit other → Sound n Unit Fit (limit_or o token other)
  limit_sound (Some c) token other h = given Fit (Known c token) (λ u. tt)
  limit_sound None token other h = h

  pub qualified_sound : (class name : List ℕ) (class_token token : ℕ) → Sound n Unit Fit (qualified_name T s class name class_token token)
  unfolding qualified_name
  qualified_sound class name class_token token =
      if_either Fit (is_library_name class) _ _
      (λ e. limit_sound (member_constant T class name) class_token _ (none_found Fit NotOffered token))
      (λ e. next SpotFits (qualified_spot T s class name class_token token) (λ x. give (read_as (member_constant T class name) x class_token)) (qualified_spot_sound class name class_token token)
      (λ x. given Fit (read_as (member_constant T class name) x class_token) (λ h. read_fits (member_constant T class name) x class_token h.1)))

  -- ---- fields of objects

  object_by : {H : Type 0} (object : Expression) (k : ℕ) (f : Field) (token : ℕ) (x y : Bool) → slice_get p.fields k ≡ Some f → f.is_static ≡ y → (H → Gives p locals object (class_type f.class)) →
      Sound n H SpotFits (if x then refuse Private token else (if y then refuse NotOffered token else give (spot (kernel.Field object k token) f.ty f.is_fixed)))
  object_by object k f token true y is e h = none_found SpotFits Private token
  object_by object k f token false true is e h = none_found SpotFits NotOffered token
  object_by object k f token false false is e h = given SpotFits (spot (kernel.Field object k token) f.ty f.is_fixed) (λ u. typing.field is e (h u))

  object_sound : {H : Type 0} (object : Expression) (k : ℕ) (o : Option Field) (token : ℕ) → slice_get p.fields k ≡ o → ((f : Field) → o ≡ Some f → H → Gives p locals object (class_type f.class)) → Sound n H SpotFits (object_field s object k o token)
  object_sound object k None token is h = none_found SpotFits UnknownName token
  object_sound object k (Some f) token is h = object_by object k f token (is_outside s f.is_private f.class) f.is_static is refl (h f refl)

  through_sound : {H : Type 0} (class : ℕ) (name : List ℕ) (object : Expression) (o : Option ℕ) (token : ℕ) → field_of T class name ≡ o → (H → Has (class_type class) object) → Sound n H SpotFits (field_through T s class object o token)
  through_sound class name object (Some k) token e h = object_sound object k (slice_get p.fields k) token refl (λ f is u. typing.fitting (h u) (inr (tt, field_class T class name k f e is)))
  through_sound class name object None token e h = none_found SpotFits (no_field class) token

  pub field_spot_sound : (m : Meaning) (ty : Ty) (name : List ℕ) (token : ℕ) → type_of m ≡ ty → Sound n (Fit m) SpotFits (field_spot T s m ty name token)
  unfolding field_spot
  field_spot_sound m (Of (Named c) zero) name token e =
      next (Has (type_of m)) (formed m) (λ object. field_through T s c object (field_of T c name) token)
      (operating.formed_sound p constants j locals s g m (λ h. (h, subst IsValueType (sym e) tt)))
      (λ object. through_sound c name object (field_of T c name) token refl (λ h. (let P : Ty → Type 0 = λ y. Has y object in subst P e h.1)))
  field_spot_sound m Void name token e = none_found SpotFits BadOperand token
  field_spot_sound m Null name token e = none_found SpotFits UnknownName token
  field_spot_sound m (Of (Named c) (suc b)) name token e = none_found SpotFits UnknownName token
  field_spot_sound m (Of (Basic q) b) name token e = none_found SpotFits UnknownName token

  length_of : (ty : Ty) (name : List ℕ) → is_length ty name ≡ true → (base : Base) × (b : ℕ) × (ty ≡ Of base (suc b))
  length_of (Of base (suc b)) name e = (base, b, refl)
  length_of (Of base zero) name e = none_of e
  length_of Void name e = none_of e
  length_of Null name e = none_of e

  length_typed : (m : Meaning) (name : List ℕ) (token : ℕ) → is_length (type_of m) name ≡ true → Sound n (Fit m) Fit (formed m >>= λ array. give (Formed (Lib lib.ArrayLength (more array none) token) (primitive_type prim.Int)))
  length_typed m name token e =
      let k = length_of (type_of m) name e in
      next (Has (type_of m)) (formed m) (λ array. give (Formed (Lib lib.ArrayLength (more array none) token) (primitive_type prim.Int)))
      (operating.formed_sound p constants j locals s g m (λ h. (h, subst IsValueType (sym k.2) tt)))
      (λ array. given Fit (Formed (Lib lib.ArrayLength (more array none) token) (primitive_type prim.Int))
      (λ h. its _ _ (typing.offered types.array_length (typing.and_more (typing.fitting h.1 (inl k.2)) typing.nothing))))

  pub field_sound : (m : Meaning) (name : List ℕ) (token : ℕ) → Sound n (Fit m) Fit (field_read T s m name token)
  unfolding field_read
  field_sound m name token =
      if_either Fit (is_length (type_of m) name) _ _ (length_typed m name token)
      (λ e. next SpotFits (field_spot T s m (type_of m) name token) (λ x. give (Formed (Read x.place) x.ty)) (field_spot_sound m (type_of m) name token refl)
      (λ x. given Fit (Formed (Read x.place) x.ty) (λ h. its (Read x.place) x.ty (typing.read h.1))))

  -- ---- `super`

  object_in : (o : Option ℕ) → superclass (slice_get p.classes s.class) ≡ o → Below p.classes (class_type s.class) (class_type (unwrap_or o object_class)) × IsTypeOf (length p.classes) (class_type (unwrap_or o object_class))
  object_in (Some d) e = (superclass_below p.classes s.class d e, g.table.supertypes_in_range s.class d (superclass_contained p.classes s.class d e))
  object_in None e = (to_object tt, omega (arith, many_classes p constants g.table))

  pub above_is : Below p.classes (class_type s.class) (class_type (above T s)) × IsTypeOf (length p.classes) (class_type (above T s))
  above_is = object_in (superclass (slice_get p.classes s.class)) refl

  super_by : (name : List ℕ) (o : Option ℕ) (token : ℕ) → s.has_this ≡ true → field_of T (above T s) name ≡ o → Sound n Unit SpotFits (super_field_named T s o token)
  super_by name (Some k) token h e = object_sound this_form k (slice_get p.fields k) token refl (λ f is u. typing.fitting (this_typed h) (inr (tt, up f is)))
    where
      up : (f : Field) → slice_get p.fields k ≡ Some f → Below p.classes (class_type s.class) (class_type f.class)
      up f is = transitive above_is.0 (field_class T (above T s) name k f e is)
  super_by name None token h e = none_found SpotFits (no_field (above T s)) token

  pub super_spot_sound : (name : List ℕ) (token : ℕ) → Sound n Unit SpotFits (super_spot T s name token)
  unfolding super_spot
  super_spot_sound name token = if_either SpotFits s.has_this _ _ (λ e. super_by name (field_of T (above T s) name) token e refl) (λ e. none_found SpotFits NotInStatic token)
