-- Fields, arguments and calls that are made of clear forms are clear.
use Rattle.std.proofs.Common.{ℕ, zero, Bool, true, false, ◌==◌, if◌then◌else◌, List, [], ◌∷◌}
use Rattle.std.specs.Prelude.{Option, Some, None, codes, slice_get}
use Rattle.wy_kernel.specs.declared.types.Base.TheVariants.{Class as Named}
use Rattle.wy_kernel.specs.declared.types.Ty.{Ty}
use Rattle.wy_kernel.specs.declared.types.Ty.TheVariants.{Void, Of}
use Rattle.wy_kernel.specs.declared.form.CallForm.TheVariants as call
use Rattle.wy_kernel.specs.declared.form.LibOp.TheVariants as lib
use Rattle.wy_kernel.specs.Form as kernel
use Rattle.wy_kernel.specs.Program.{Method, Field, object_class}
use Rattle.wy_kernel.specs.Subtyping.{class_type, object_type}
use Rattle.wy_kernel.specs.Table.{Table, ConstantValue}
use Rattle.wy_constant.specs.declared.rule.Rule.{Rule}
use Rattle.wy_constant.specs.declared.rule.Rule.TheVariants.{UnknownName, NoMethod, BadOperand, Private, NotInStatic, NotOffered, NotImplemented}
use Rattle.wy_constant.specs.Scope.{Scope, Variable, denoted}
use Rattle.wy_constant.specs.Fields.{class_named, field_of}
use Rattle.wy_constant.specs.Constant.{name_constant, member_constant}
use Rattle.wy_elab_expr.specs.Meaning.{Meaning, Known, Formed, type_of, Gets, give, refuse, brought, formed}
use Rattle.wy_elab_expr.specs.Operators.{Judgement, class_of, is_interface}
use Rattle.wy_elab_expr.specs.Members.{Spot, spot, this_form, is_outside, own_field, own_field_named, variable_or_field, named_spot, read_as, named, no_field, static_field, field_of_class, is_library_name, member_of_class, qualified_spot, limit_or, qualified_name, object_field, field_through, field_spot, is_length, field_read, some_void, types_of, brought_all, method_for, Through, Nothing, Object, OfClass, Super, is_static, broken, receiver, call_form, call_of, called_unless, called_at, called, LibraryMethod, applicable, has_name, front, library_form, library_call, constructed, is_abstract, new_plain, created}
use Rattle.law_structure.proofs.Yields.{Yields, given, refused_found, anything, then_found, of_choice}
use Rattle.law_structure.proofs.Sound.{Numbers}
use Rattle.law_structure.proofs.Clear.{Clear, ClearPlace, ClearPart, ClearRow, ClearMeaning, AllClear, ClearGets, brought_clear, formed_clear, of_form}

abbrev pub ClearSpot : Numbers → Spot → Type 0
ClearSpot S p = ClearPlace S p.place

abbrev pub GetsSpot : Numbers → Gets Spot → Type 0
GetsSpot S f = Yields f (ClearSpot S)

-- ---- fields

own_field_clear : (S : Numbers) (s : Scope) (k : ℕ) (f : Option Field) (token : ℕ) → GetsSpot S (own_field s k f token)
own_field_clear S s k None token = refused_found (ClearSpot S) UnknownName token
own_field_clear S s k (Some f) token =
    of_choice (is_outside s f.is_private f.class) (refuse Private token) _ (ClearSpot S) (refused_found (ClearSpot S) Private token)
    (of_choice f.is_static (give (spot (kernel.Static k token) f.ty f.is_fixed)) _ (ClearSpot S) (given (ClearSpot S) (spot (kernel.Static k token) f.ty f.is_fixed) tt)
    (of_choice s.has_this (give (spot (kernel.Field this_form k token) f.ty f.is_fixed)) (refuse NotInStatic token) (ClearSpot S)
    (given (ClearSpot S) (spot (kernel.Field this_form k token) f.ty f.is_fixed) tt) (refused_found (ClearSpot S) NotInStatic token)))

own_named_clear : (S : Numbers) (t : Table) (s : Scope) (k : Option ℕ) (token : ℕ) → GetsSpot S (own_field_named t s k token)
own_named_clear S t s None token = refused_found (ClearSpot S) UnknownName token
own_named_clear S t s (Some k) token = own_field_clear S s k (slice_get t.fields k) token

variable_clear : (S : Numbers) (t : Table) (s : Scope) (name : List ℕ) (v : Option Variable) (token : ℕ) → GetsSpot S (variable_or_field t s name v token)
variable_clear S t s name None token = own_named_clear S t s (field_of t s.class name) token
variable_clear S t s name (Some v) token = given (ClearSpot S) (spot (kernel.Local v.number) v.ty v.is_fixed) tt

pub named_spot_clear : (S : Numbers) (t : Table) (s : Scope) (name : List ℕ) (token : ℕ) → GetsSpot S (named_spot t s name token)
unfolding named_spot
named_spot_clear S t s name token = variable_clear S t s name (denoted s name) token

read_as_clear : (S : Numbers) (c : Option ConstantValue) (p : Spot) (token : ℕ) → ClearSpot S p → ClearMeaning S (read_as c p token)
read_as_clear S None p token h = h
read_as_clear S (Some c) p token h = tt

pub named_clear : (S : Numbers) (t : Table) (s : Scope) (name : List ℕ) (token : ℕ) → ClearGets S (named t s name token)
unfolding named
named_clear S t s name token = then_found (named_spot t s name token) _ (ClearSpot S) (ClearMeaning S) (named_spot_clear S t s name token) (λ p h. given (ClearMeaning S) (read_as (name_constant t s name) p token) (read_as_clear S (name_constant t s name) p token h))

static_clear : (S : Numbers) (s : Scope) (k : ℕ) (f : Option Field) (token : ℕ) → GetsSpot S (static_field s k f token)
static_clear S s k None token = refused_found (ClearSpot S) UnknownName token
static_clear S s k (Some f) token =
    of_choice (is_outside s f.is_private f.class) (refuse Private token) _ (ClearSpot S) (refused_found (ClearSpot S) Private token)
    (of_choice f.is_static (give (spot (kernel.Static k token) f.ty f.is_fixed)) (refuse NotInStatic token) (ClearSpot S) (given (ClearSpot S) (spot (kernel.Static k token) f.ty f.is_fixed) tt) (refused_found (ClearSpot S) NotInStatic token))

of_class_clear : (S : Numbers) (t : Table) (s : Scope) (class : ℕ) (k : Option ℕ) (token : ℕ) → GetsSpot S (field_of_class t s class k token)
of_class_clear S t s class None token = refused_found (ClearSpot S) (no_field class) token
of_class_clear S t s class (Some k) token = static_clear S s k (slice_get t.fields k) token

member_clear : (S : Numbers) (t : Table) (s : Scope) (class : List ℕ) (c : Option ℕ) (name : List ℕ) (class_token token : ℕ) → GetsSpot S (member_of_class t s class c name class_token token)
member_clear S t s class (Some c) name class_token token = of_class_clear S t s c (field_of t c name) token
member_clear S t s class None name class_token token =
    of_choice (is_library_name class) (refuse NotOffered token) (refuse UnknownName class_token) (ClearSpot S) (refused_found (ClearSpot S) NotOffered token) (refused_found (ClearSpot S) UnknownName class_token)

pub qualified_clear : (S : Numbers) (t : Table) (s : Scope) (class name : List ℕ) (class_token token : ℕ) → GetsSpot S (qualified_spot t s class name class_token token)
unfolding qualified_spot
qualified_clear S t s class name class_token token = member_clear S t s class (class_named t.classes class) name class_token token

limit_clear : (S : Numbers) (c : Option ConstantValue) (token : ℕ) (other : Gets Meaning) → ClearGets S other → ClearGets S (limit_or c token other)
limit_clear S None token other h = h
limit_clear S (Some c) token other h = given (ClearMeaning S) (Known c token) tt

pub qualified_name_clear : (S : Numbers) (t : Table) (s : Scope) (class name : List ℕ) (class_token token : ℕ) → ClearGets S (qualified_name t s class name class_token token)
unfolding qualified_name
qualified_name_clear S t s class name class_token token =
    of_choice (is_library_name class) (limit_or (member_constant t class name) class_token (refuse NotOffered token)) _ (ClearMeaning S)
    (limit_clear S (member_constant t class name) class_token (refuse NotOffered token) (refused_found (ClearMeaning S) NotOffered token))
    (then_found (qualified_spot t s class name class_token token) _ (ClearSpot S) (ClearMeaning S) (qualified_clear S t s class name class_token token) (λ p h.
    given (ClearMeaning S) (read_as (member_constant t class name) p class_token) (read_as_clear S (member_constant t class name) p class_token h)))

pub object_clear : (S : Numbers) (s : Scope) (object : kernel.Expression) (k : ℕ) (f : Option Field) (token : ℕ) → Clear S object → GetsSpot S (object_field s object k f token)
object_clear S s object k None token h = refused_found (ClearSpot S) UnknownName token
object_clear S s object k (Some f) token h =
    of_choice (is_outside s f.is_private f.class) (refuse Private token) _ (ClearSpot S) (refused_found (ClearSpot S) Private token)
    (of_choice f.is_static (refuse NotOffered token) (give (spot (kernel.Field object k token) f.ty f.is_fixed)) (ClearSpot S) (refused_found (ClearSpot S) NotOffered token) (given (ClearSpot S) (spot (kernel.Field object k token) f.ty f.is_fixed) h))

through_clear : (S : Numbers) (t : Table) (s : Scope) (class : ℕ) (object : kernel.Expression) (k : Option ℕ) (token : ℕ) → Clear S object → GetsSpot S (field_through t s class object k token)
through_clear S t s class object None token h = refused_found (ClearSpot S) (no_field class) token
through_clear S t s class object (Some k) token h = object_clear S s object k (slice_get t.fields k) token h

pub field_spot_clear : (S : Numbers) (t : Table) (s : Scope) (m : Meaning) (ty : Ty) (name : List ℕ) (token : ℕ) → ClearMeaning S m → GetsSpot S (field_spot t s m ty name token)
unfolding field_spot
field_spot_clear S t s m (Of (Named c) zero) name token h =
    of_form S (formed m) _ (ClearSpot S) (formed_clear S m h) (λ object i. through_clear S t s c object (field_of t c name) token i)
field_spot_clear S t s m Void name token h = refused_found (ClearSpot S) BadOperand token
field_spot_clear S t s m ty name token h = refused_found (ClearSpot S) UnknownName token

pub field_read_clear : (S : Numbers) (t : Table) (s : Scope) (m : Meaning) (name : List ℕ) (token : ℕ) → ClearMeaning S m → ClearGets S (field_read t s m name token)
unfolding field_read
field_read_clear S t s m name token h =
    of_choice (is_length (type_of m) name) _ _ (ClearMeaning S)
    (of_form S (formed m) _ (ClearMeaning S) (formed_clear S m h) (λ array i. given (ClearMeaning S) (Formed (kernel.Lib lib.ArrayLength (kernel.more array kernel.none) token) _) (i, tt)))
    (then_found (field_spot t s m (type_of m) name token) _ (ClearSpot S) (ClearMeaning S) (field_spot_clear S t s m (type_of m) name token h) (λ p i. given (ClearMeaning S) (Formed (kernel.Read p.place) p.ty) i))

-- ---- arguments and calls

pub brought_all_clear : (S : Numbers) (ps : List Ty) (ms : List Meaning) → AllClear S ms → Yields (brought_all ps ms) (ClearRow S)
unfolding brought_all
brought_all_clear S [] ms h = given (ClearRow S) kernel.none tt
brought_all_clear S (p ∷ ps) [] h = given (ClearRow S) kernel.none tt
brought_all_clear S (p ∷ ps) (m ∷ ms) h =
    of_form S (brought p m) _ (ClearRow S) (brought_clear S p m h.0) (λ e i.
    then_found (brought_all ps ms) _ (ClearRow S) (ClearRow S) (brought_all_clear S ps ms h.1) (λ es k. given (ClearRow S) (kernel.more e es) (i, k)))

abbrev pub ClearThrough : Numbers → Through → Type 0
ClearThrough S (Object e) = Clear S e
ClearThrough S _ = Unit {0}

receiver_clear : (S : Numbers) (through : Through) → ClearThrough S through → ClearPart S (receiver through)
receiver_clear S (Object e) h = h
receiver_clear S Nothing h = tt
receiver_clear S OfClass h = tt
receiver_clear S Super h = tt

call_clear : (S : Numbers) (through : Through) (k : ℕ) (m : Method) (ty : Ty) (args : kernel.Row) (token : ℕ) → ClearThrough S through → ClearRow S args → Clear S (call_of through k m ty args token)
call_clear S through k m ty args token h i = elim (is_static m.form) as (λ b. Clear S (if b then kernel.Call call.Static k kernel.absent Void args token else kernel.Call (call_form through m) k (receiver through) ty args token)) [
  | true ↦ (tt, i)
  | false ↦ (receiver_clear S through h, i)
]

unless_clear : (S : Numbers) (rule : Option Rule) (through : Through) (k : ℕ) (m : Method) (ty : Ty) (arguments : List Meaning) (token : ℕ) → ClearThrough S through → AllClear S arguments → ClearGets S (called_unless rule through k m ty arguments token)
unless_clear S (Some rule) through k m ty arguments token h i = refused_found (ClearMeaning S) rule token
unless_clear S None through k m ty arguments token h i =
    then_found (brought_all m.params arguments) _ (ClearRow S) (ClearMeaning S) (brought_all_clear S m.params arguments i) (λ es j. given (ClearMeaning S) (Formed (call_of through k m ty es token) m.result) (call_clear S through k m ty es token h j))

at_clear : (S : Numbers) (s : Scope) (through : Through) (k : ℕ) (m : Option Method) (ty : Ty) (arguments : List Meaning) (token : ℕ) → ClearThrough S through → AllClear S arguments → ClearGets S (called_at s through k m ty arguments token)
at_clear S s through k None ty arguments token h i = refused_found (ClearMeaning S) NoMethod token
at_clear S s through k (Some m) ty arguments token h i = unless_clear S (broken s through m) through k m ty arguments token h i

pub called_clear : (S : Numbers) (j : Judgement) (t : Table) (s : Scope) (through : Through) (ty : Ty) (name : List ℕ) (arguments : List Meaning) (token : ℕ) → ClearThrough S through → AllClear S arguments → ClearGets S (called j t s through ty name arguments token)
unfolding called
called_clear S j t s through ty name arguments token h i =
    then_found (method_for j ty name arguments token) _ (λ k. Unit {0}) (ClearMeaning S) (anything _) (λ k x. at_clear S s through k (slice_get t.methods k) ty arguments token h i)

abbrev pub ClearOption : Numbers → Option kernel.Expression → Type 0
ClearOption S None = Unit {0}
ClearOption S (Some e) = Clear S e

front_clear : (S : Numbers) (object : Option kernel.Expression) (es : kernel.Row) → ClearOption S object → ClearRow S es → ClearRow S (front object es)
front_clear S None es h i = i
front_clear S (Some e) es h i = (h, i)

library_form_clear : (S : Numbers) (m : Option LibraryMethod) (offered : Bool) (object : Option kernel.Expression) (arguments : List Meaning) (token : ℕ) → ClearOption S object → AllClear S arguments → ClearGets S (library_form m offered object arguments token)
library_form_clear S None offered object arguments token h i = refused_found (ClearMeaning S) _ token
library_form_clear S (Some m) offered object arguments token h i =
    then_found (brought_all m.params arguments) _ (ClearRow S) (ClearMeaning S) (brought_all_clear S m.params arguments i) (λ es j. given (ClearMeaning S) (Formed (kernel.Lib m.op (front object es) token) m.outcome) (front_clear S object es h j))

pub library_clear : (S : Numbers) (j : Judgement) (methods : List LibraryMethod) (object : Option kernel.Expression) (name : List ℕ) (arguments : List Meaning) (token : ℕ) → ClearOption S object → AllClear S arguments → ClearGets S (library_call j methods object name arguments token)
unfolding library_call
library_clear S j methods object name arguments token h i =
    of_choice (some_void arguments) (refuse BadOperand token) _ (ClearMeaning S) (refused_found (ClearMeaning S) BadOperand token)
    (library_form_clear S (applicable j methods name (types_of arguments)) (has_name methods name) object arguments token h i)

-- ---- `new`

constructed_clear : (S : Numbers) (s : Scope) (class : ℕ) (abstract : Bool) (k : ℕ) (m : Option Method) (arguments : List Meaning) (token : ℕ) → AllClear S arguments → ClearGets S (constructed s class abstract k m arguments token)
constructed_clear S s class abstract k None arguments token h = refused_found (ClearMeaning S) NoMethod token
constructed_clear S s class abstract k (Some m) arguments token h =
    of_choice (is_outside s m.is_private m.class) (refuse Private token) _ (ClearMeaning S) (refused_found (ClearMeaning S) Private token)
    (of_choice abstract (refuse NotImplemented token) _ (ClearMeaning S) (refused_found (ClearMeaning S) NotImplemented token)
    (then_found (brought_all m.params arguments) _ (ClearRow S) (ClearMeaning S) (brought_all_clear S m.params arguments h) (λ es i. given (ClearMeaning S) (Formed (kernel.New class (Some k) es token) (class_type class)) i)))

plain_clear : (S : Numbers) (arguments : List Meaning) (token : ℕ) → ClearGets S (new_plain arguments token)
plain_clear S [] token = given (ClearMeaning S) (Formed (kernel.New object_class None kernel.none token) object_type) tt
plain_clear S (m ∷ rest) token = refused_found (ClearMeaning S) _ token

pub created_clear : (S : Numbers) (j : Judgement) (t : Table) (s : Scope) (class : ℕ) (arguments : List Meaning) (token : ℕ) → AllClear S arguments → ClearGets S (created j t s class arguments token)
unfolding created
created_clear S j t s class arguments token h =
    of_choice (class == object_class) (new_plain arguments token) _ (ClearMeaning S) (plain_clear S arguments token)
    (of_choice (is_interface (class_of t class)) _ _ (ClearMeaning S)
    (of_choice (some_void arguments) (refuse BadOperand token) (refuse NotImplemented token) (ClearMeaning S) (refused_found (ClearMeaning S) BadOperand token) (refused_found (ClearMeaning S) NotImplemented token))
    (then_found (method_for j (class_type class) (codes "new") arguments token) _ (λ k. Unit {0}) (ClearMeaning S) (anything _) (λ k x. constructed_clear S s class (is_abstract (class_of t class)) k (slice_get t.methods k) arguments token h)))
