-- Fields, arguments and calls have no other sites than what they are made of, besides their own token.
use Rattle.std.proofs.Common.{ℕ, zero, Bool, true, false, ◌==◌, if◌then◌else◌, List, [], ◌∷◌}
use Rattle.std.specs.Prelude.{Option, Some, None, codes, slice_get}
use Rattle.wy_kernel.specs.declared.types.Base.TheVariants.{Class as Named}
use Rattle.wy_kernel.specs.declared.types.Ty.{Ty}
use Rattle.wy_kernel.specs.declared.types.Ty.TheVariants.{Void, Of}
use Rattle.wy_kernel.specs.declared.form.CallForm.TheVariants as call
use Rattle.wy_kernel.specs.declared.form.LibOp.TheVariants as lib
use Rattle.wy_kernel.specs.Form as kernel
use Rattle.wy_kernel.specs.Program.{Method, Field, object_class}
use Rattle.wy_kernel.specs.Subtyping.{class_type, object_type}
use Rattle.wy_kernel.specs.Table.{Table, ConstantValue}
use Rattle.wy_constant.specs.declared.rule.Rule.{Rule}
use Rattle.wy_constant.specs.declared.rule.Rule.TheVariants.{UnknownName, NoMethod, BadOperand, Private, NotInStatic, NotOffered, NotImplemented}
use Rattle.wy_constant.specs.Scope.{Scope, Variable, denoted}
use Rattle.wy_constant.specs.Fields.{class_named, field_of}
use Rattle.wy_constant.specs.Constant.{name_constant, member_constant}
use Rattle.wy_elab_expr.specs.Meaning.{Meaning, Known, Formed, type_of, Gets, give, refuse, brought, formed}
use Rattle.wy_elab_expr.specs.Operators.{Judgement, class_of, is_interface}
use Rattle.wy_elab_expr.specs.Members.{Spot, spot, this_form, is_outside, own_field, own_field_named, variable_or_field, named_spot, read_as, named, no_field, static_field, field_of_class, is_library_name, member_of_class, qualified_spot, limit_or, qualified_name, object_field, field_through, field_spot, is_length, field_read, some_void, types_of, brought_all, method_for, Through, Nothing, Object, OfClass, Super, is_static, broken, receiver, call_form, call_of, called_unless, called_at, called, LibraryMethod, applicable, has_name, front, library_form, library_call, constructed, is_abstract, new_plain, created}
use Rattle.law_structure.proofs.Yields.{Yields, given, refused_found, anything, then_found, of_choice}
use Rattle.wy_typing.specs.Sites.{Sited, PlaceSited, PartSited, RowSited}
use Rattle.law_sites.proofs.Forms.{MeaningSited, MeaningsSited, GetsSited, brought_sited, formed_sited}

abbrev pub SpotSited : (ℕ → Type 0) → Spot → Type 0
SpotSited P p = PlaceSited P p.place

abbrev pub GetsSpot : (ℕ → Type 0) → Gets Spot → Type 0
GetsSpot P f = Yields f (SpotSited P)

-- ---- fields

own_field_sited : (P : ℕ → Type 0) (s : Scope) (k : ℕ) (f : Option Field) (token : ℕ) → P token → GetsSpot P (own_field s k f token)
own_field_sited P s k None token here = refused_found (SpotSited P) UnknownName token
own_field_sited P s k (Some f) token here =
    of_choice (is_outside s f.is_private f.class) (refuse Private token) _ (SpotSited P) (refused_found (SpotSited P) Private token)
    (of_choice f.is_static (give (spot (kernel.Static k token) f.ty f.is_fixed)) _ (SpotSited P) (given (SpotSited P) (spot (kernel.Static k token) f.ty f.is_fixed) here)
    (of_choice s.has_this (give (spot (kernel.Field this_form k token) f.ty f.is_fixed)) (refuse NotInStatic token) (SpotSited P)
    (given (SpotSited P) (spot (kernel.Field this_form k token) f.ty f.is_fixed) (here, tt)) (refused_found (SpotSited P) NotInStatic token)))

own_named_sited : (P : ℕ → Type 0) (t : Table) (s : Scope) (k : Option ℕ) (token : ℕ) → P token → GetsSpot P (own_field_named t s k token)
own_named_sited P t s None token here = refused_found (SpotSited P) UnknownName token
own_named_sited P t s (Some k) token here = own_field_sited P s k (slice_get t.fields k) token here

variable_sited : (P : ℕ → Type 0) (t : Table) (s : Scope) (name : List ℕ) (v : Option Variable) (token : ℕ) → P token → GetsSpot P (variable_or_field t s name v token)
variable_sited P t s name None token here = own_named_sited P t s (field_of t s.class name) token here
variable_sited P t s name (Some v) token here = given (SpotSited P) (spot (kernel.Local v.number) v.ty v.is_fixed) tt

pub named_spot_sited : (P : ℕ → Type 0) (t : Table) (s : Scope) (name : List ℕ) (token : ℕ) → P token → GetsSpot P (named_spot t s name token)
unfolding named_spot
named_spot_sited P t s name token here = variable_sited P t s name (denoted s name) token here

read_as_sited : (P : ℕ → Type 0) (c : Option ConstantValue) (p : Spot) (token : ℕ) → SpotSited P p → MeaningSited P (read_as c p token)
read_as_sited P None p token h = h
read_as_sited P (Some c) p token h = tt

pub named_sited : (P : ℕ → Type 0) (t : Table) (s : Scope) (name : List ℕ) (token : ℕ) → P token → GetsSited P (named t s name token)
unfolding named
named_sited P t s name token here = then_found (named_spot t s name token) _ (SpotSited P) (MeaningSited P) (named_spot_sited P t s name token here) (λ p h. given (MeaningSited P) (read_as (name_constant t s name) p token) (read_as_sited P (name_constant t s name) p token h))

static_sited : (P : ℕ → Type 0) (s : Scope) (k : ℕ) (f : Option Field) (token : ℕ) → P token → GetsSpot P (static_field s k f token)
static_sited P s k None token here = refused_found (SpotSited P) UnknownName token
static_sited P s k (Some f) token here =
    of_choice (is_outside s f.is_private f.class) (refuse Private token) _ (SpotSited P) (refused_found (SpotSited P) Private token)
    (of_choice f.is_static (give (spot (kernel.Static k token) f.ty f.is_fixed)) (refuse NotInStatic token) (SpotSited P) (given (SpotSited P) (spot (kernel.Static k token) f.ty f.is_fixed) here) (refused_found (SpotSited P) NotInStatic token))

of_class_sited : (P : ℕ → Type 0) (t : Table) (s : Scope) (class : ℕ) (k : Option ℕ) (token : ℕ) → P token → GetsSpot P (field_of_class t s class k token)
of_class_sited P t s class None token here = refused_found (SpotSited P) (no_field class) token
of_class_sited P t s class (Some k) token here = static_sited P s k (slice_get t.fields k) token here

member_sited : (P : ℕ → Type 0) (t : Table) (s : Scope) (class : List ℕ) (c : Option ℕ) (name : List ℕ) (class_token token : ℕ) → P token → GetsSpot P (member_of_class t s class c name class_token token)
member_sited P t s class (Some c) name class_token token here = of_class_sited P t s c (field_of t c name) token here
member_sited P t s class None name class_token token here =
    of_choice (is_library_name class) (refuse NotOffered token) (refuse UnknownName class_token) (SpotSited P) (refused_found (SpotSited P) NotOffered token) (refused_found (SpotSited P) UnknownName class_token)

pub qualified_sited : (P : ℕ → Type 0) (t : Table) (s : Scope) (class name : List ℕ) (class_token token : ℕ) → P token → GetsSpot P (qualified_spot t s class name class_token token)
unfolding qualified_spot
qualified_sited P t s class name class_token token here = member_sited P t s class (class_named t.classes class) name class_token token here

limit_sited : (P : ℕ → Type 0) (c : Option ConstantValue) (token : ℕ) (other : Gets Meaning) → GetsSited P other → GetsSited P (limit_or c token other)
limit_sited P None token other h = h
limit_sited P (Some c) token other h = given (MeaningSited P) (Known c token) tt

pub qualified_name_sited : (P : ℕ → Type 0) (t : Table) (s : Scope) (class name : List ℕ) (class_token token : ℕ) → P token → GetsSited P (qualified_name t s class name class_token token)
unfolding qualified_name
qualified_name_sited P t s class name class_token token here =
    of_choice (is_library_name class) (limit_or (member_constant t class name) class_token (refuse NotOffered token)) _ (MeaningSited P)
    (limit_sited P (member_constant t class name) class_token (refuse NotOffered token) (refused_found (MeaningSited P) NotOffered token))
    (then_found (qualified_spot t s class name class_token token) _ (SpotSited P) (MeaningSited P) (qualified_sited P t s class name class_token token here) (λ p h.
    given (MeaningSited P) (read_as (member_constant t class name) p class_token) (read_as_sited P (member_constant t class name) p class_token h)))

pub object_sited : (P : ℕ → Type 0) (s : Scope) (object : kernel.Expression) (k : ℕ) (f : Option Field) (token : ℕ) → P token → Sited P object → GetsSpot P (object_field s object k f token)
object_sited P s object k None token here h = refused_found (SpotSited P) UnknownName token
object_sited P s object k (Some f) token here h =
    of_choice (is_outside s f.is_private f.class) (refuse Private token) _ (SpotSited P) (refused_found (SpotSited P) Private token)
    (of_choice f.is_static (refuse NotOffered token) (give (spot (kernel.Field object k token) f.ty f.is_fixed)) (SpotSited P) (refused_found (SpotSited P) NotOffered token) (given (SpotSited P) (spot (kernel.Field object k token) f.ty f.is_fixed) (here, h)))

through_sited : (P : ℕ → Type 0) (t : Table) (s : Scope) (class : ℕ) (object : kernel.Expression) (k : Option ℕ) (token : ℕ) → P token → Sited P object → GetsSpot P (field_through t s class object k token)
through_sited P t s class object None token here h = refused_found (SpotSited P) (no_field class) token
through_sited P t s class object (Some k) token here h = object_sited P s object k (slice_get t.fields k) token here h

pub field_spot_sited : (P : ℕ → Type 0) (t : Table) (s : Scope) (m : Meaning) (ty : Ty) (name : List ℕ) (token : ℕ) → P token → MeaningSited P m → GetsSpot P (field_spot t s m ty name token)
unfolding field_spot
field_spot_sited P t s m (Of (Named c) zero) name token here h =
    then_found (formed m) _ (Sited P) (SpotSited P) (formed_sited P m h) (λ object i. through_sited P t s c object (field_of t c name) token here i)
field_spot_sited P t s m Void name token here h = refused_found (SpotSited P) BadOperand token
field_spot_sited P t s m ty name token here h = refused_found (SpotSited P) UnknownName token

pub field_read_sited : (P : ℕ → Type 0) (t : Table) (s : Scope) (m : Meaning) (name : List ℕ) (token : ℕ) → P token → MeaningSited P m → GetsSited P (field_read t s m name token)
unfolding field_read
field_read_sited P t s m name token here h =
    of_choice (is_length (type_of m) name) _ _ (MeaningSited P)
    (then_found (formed m) _ (Sited P) (MeaningSited P) (formed_sited P m h) (λ array i. given (MeaningSited P) (Formed (kernel.Lib lib.ArrayLength (kernel.more array kernel.none) token) _) (here, (i, tt))))
    (then_found (field_spot t s m (type_of m) name token) _ (SpotSited P) (MeaningSited P) (field_spot_sited P t s m (type_of m) name token here h) (λ p i. given (MeaningSited P) (Formed (kernel.Read p.place) p.ty) i))

-- ---- arguments and calls

pub brought_all_sited : (P : ℕ → Type 0) (ps : List Ty) (ms : List Meaning) → MeaningsSited P ms → Yields (brought_all ps ms) (RowSited P)
unfolding brought_all
brought_all_sited P [] ms h = given (RowSited P) kernel.none tt
brought_all_sited P (p ∷ ps) [] h = given (RowSited P) kernel.none tt
brought_all_sited P (p ∷ ps) (m ∷ ms) h =
    then_found (brought p m) _ (Sited P) (RowSited P) (brought_sited P p m h.0) (λ e i.
    then_found (brought_all ps ms) _ (RowSited P) (RowSited P) (brought_all_sited P ps ms h.1) (λ es k. given (RowSited P) (kernel.more e es) (i, k)))

abbrev pub ThroughSited : (ℕ → Type 0) → Through → Type 0
ThroughSited P (Object e) = Sited P e
ThroughSited P _ = Unit {0}

receiver_sited : (P : ℕ → Type 0) (through : Through) → ThroughSited P through → PartSited P (receiver through)
receiver_sited P (Object e) h = h
receiver_sited P Nothing h = tt
receiver_sited P OfClass h = tt
receiver_sited P Super h = tt

call_sited : (P : ℕ → Type 0) (through : Through) (k : ℕ) (m : Method) (ty : Ty) (args : kernel.Row) (token : ℕ) → P token → ThroughSited P through → RowSited P args → Sited P (call_of through k m ty args token)
call_sited P through k m ty args token here h i = elim (is_static m.form) as (λ b. Sited P (if b then kernel.Call call.Static k kernel.absent Void args token else kernel.Call (call_form through m) k (receiver through) ty args token)) [
  | true ↦ (here, tt, i)
  | false ↦ (here, receiver_sited P through h, i)
]

unless_sited : (P : ℕ → Type 0) (rule : Option Rule) (through : Through) (k : ℕ) (m : Method) (ty : Ty) (arguments : List Meaning) (token : ℕ) → P token → ThroughSited P through → MeaningsSited P arguments → GetsSited P (called_unless rule through k m ty arguments token)
unless_sited P (Some rule) through k m ty arguments token here h i = refused_found (MeaningSited P) rule token
unless_sited P None through k m ty arguments token here h i =
    then_found (brought_all m.params arguments) _ (RowSited P) (MeaningSited P) (brought_all_sited P m.params arguments i) (λ es j. given (MeaningSited P) (Formed (call_of through k m ty es token) m.result) (call_sited P through k m ty es token here h j))

at_sited : (P : ℕ → Type 0) (s : Scope) (through : Through) (k : ℕ) (m : Option Method) (ty : Ty) (arguments : List Meaning) (token : ℕ) → P token → ThroughSited P through → MeaningsSited P arguments → GetsSited P (called_at s through k m ty arguments token)
at_sited P s through k None ty arguments token here h i = refused_found (MeaningSited P) NoMethod token
at_sited P s through k (Some m) ty arguments token here h i = unless_sited P (broken s through m) through k m ty arguments token here h i

pub called_sited : (P : ℕ → Type 0) (j : Judgement) (t : Table) (s : Scope) (through : Through) (ty : Ty) (name : List ℕ) (arguments : List Meaning) (token : ℕ) → P token → ThroughSited P through → MeaningsSited P arguments → GetsSited P (called j t s through ty name arguments token)
unfolding called
called_sited P j t s through ty name arguments token here h i =
    then_found (method_for j ty name arguments token) _ (λ k. Unit {0}) (MeaningSited P) (anything _) (λ k x. at_sited P s through k (slice_get t.methods k) ty arguments token here h i)

abbrev pub ObjectSited : (ℕ → Type 0) → Option kernel.Expression → Type 0
ObjectSited P None = Unit {0}
ObjectSited P (Some e) = Sited P e

front_sited : (P : ℕ → Type 0) (object : Option kernel.Expression) (es : kernel.Row) → ObjectSited P object → RowSited P es → RowSited P (front object es)
front_sited P None es h i = i
front_sited P (Some e) es h i = (h, i)

library_form_sited : (P : ℕ → Type 0) (m : Option LibraryMethod) (offered : Bool) (object : Option kernel.Expression) (arguments : List Meaning) (token : ℕ) → P token → ObjectSited P object → MeaningsSited P arguments → GetsSited P (library_form m offered object arguments token)
library_form_sited P None offered object arguments token here h i = refused_found (MeaningSited P) _ token
library_form_sited P (Some m) offered object arguments token here h i =
    then_found (brought_all m.params arguments) _ (RowSited P) (MeaningSited P) (brought_all_sited P m.params arguments i) (λ es j. given (MeaningSited P) (Formed (kernel.Lib m.op (front object es) token) m.outcome) (here, front_sited P object es h j))

pub library_sited : (P : ℕ → Type 0) (j : Judgement) (methods : List LibraryMethod) (object : Option kernel.Expression) (name : List ℕ) (arguments : List Meaning) (token : ℕ) → P token → ObjectSited P object → MeaningsSited P arguments → GetsSited P (library_call j methods object name arguments token)
unfolding library_call
library_sited P j methods object name arguments token here h i =
    of_choice (some_void arguments) (refuse BadOperand token) _ (MeaningSited P) (refused_found (MeaningSited P) BadOperand token)
    (library_form_sited P (applicable j methods name (types_of arguments)) (has_name methods name) object arguments token here h i)

-- ---- `new`

constructed_sited : (P : ℕ → Type 0) (s : Scope) (class : ℕ) (abstract : Bool) (k : ℕ) (m : Option Method) (arguments : List Meaning) (token : ℕ) → P token → MeaningsSited P arguments → GetsSited P (constructed s class abstract k m arguments token)
constructed_sited P s class abstract k None arguments token here h = refused_found (MeaningSited P) NoMethod token
constructed_sited P s class abstract k (Some m) arguments token here h =
    of_choice (is_outside s m.is_private m.class) (refuse Private token) _ (MeaningSited P) (refused_found (MeaningSited P) Private token)
    (of_choice abstract (refuse NotImplemented token) _ (MeaningSited P) (refused_found (MeaningSited P) NotImplemented token)
    (then_found (brought_all m.params arguments) _ (RowSited P) (MeaningSited P) (brought_all_sited P m.params arguments h) (λ es i. given (MeaningSited P) (Formed (kernel.New class (Some k) es token) (class_type class)) (here, i))))

plain_sited : (P : ℕ → Type 0) (arguments : List Meaning) (token : ℕ) → P token → GetsSited P (new_plain arguments token)
plain_sited P [] token here = given (MeaningSited P) (Formed (kernel.New object_class None kernel.none token) object_type) (here, tt)
plain_sited P (m ∷ rest) token here = refused_found (MeaningSited P) _ token

pub created_sited : (P : ℕ → Type 0) (j : Judgement) (t : Table) (s : Scope) (class : ℕ) (arguments : List Meaning) (token : ℕ) → P token → MeaningsSited P arguments → GetsSited P (created j t s class arguments token)
unfolding created
created_sited P j t s class arguments token here h =
    of_choice (class == object_class) (new_plain arguments token) _ (MeaningSited P) (plain_sited P arguments token here)
    (of_choice (is_interface (class_of t class)) _ _ (MeaningSited P)
    (of_choice (some_void arguments) (refuse BadOperand token) (refuse NotImplemented token) (MeaningSited P) (refused_found (MeaningSited P) BadOperand token) (refused_found (MeaningSited P) NotImplemented token))
    (then_found (method_for j (class_type class) (codes "new") arguments token) _ (λ k. Unit {0}) (MeaningSited P) (anything _) (λ k x. constructed_sited P s class (is_abstract (class_of t class)) k (slice_get t.methods k) arguments token here h)))
