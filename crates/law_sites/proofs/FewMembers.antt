-- Fields, arguments and calls have no more `&&`, `||` and `?:` than the forms that they are made of.
use Rattle.std.proofs.Common.{ℕ, zero, Bool, true, false, ◌==◌, if◌then◌else◌, List, [], ◌∷◌, ◌++◌}
use Rattle.std.specs.Prelude.{Option, Some, None, codes, slice_get}
use Rattle.wy_kernel.specs.declared.types.Base.TheVariants.{Class as Named}
use Rattle.wy_kernel.specs.declared.types.Ty.{Ty}
use Rattle.wy_kernel.specs.declared.types.Ty.TheVariants.{Void, Of}
use Rattle.wy_kernel.specs.declared.form.CallForm.TheVariants as call
use Rattle.wy_kernel.specs.declared.form.LibOp.TheVariants as lib
use Rattle.wy_kernel.specs.Form as kernel
use Rattle.wy_kernel.specs.Program.{Method, Field, object_class}
use Rattle.wy_kernel.specs.Subtyping.{class_type, object_type}
use Rattle.wy_kernel.specs.Table.{Table, ConstantValue}
use Rattle.wy_constant.specs.declared.rule.Rule.{Rule}
use Rattle.wy_constant.specs.declared.rule.Rule.TheVariants.{UnknownName, NoMethod, BadOperand, Private, NotInStatic, NotOffered, NotImplemented}
use Rattle.wy_constant.specs.Scope.{Scope, Variable, denoted}
use Rattle.wy_constant.specs.Fields.{class_named, field_of}
use Rattle.wy_constant.specs.Constant.{name_constant, member_constant}
use Rattle.wy_elab_expr.specs.Meaning.{Meaning, Known, Formed, type_of, Gets, give, refuse, brought, formed}
use Rattle.wy_elab_expr.specs.Operators.{Judgement, class_of, is_interface}
use Rattle.wy_elab_expr.specs.Members.{Spot, spot, this_form, is_outside, own_field, own_field_named, variable_or_field, named_spot, read_as, named, no_field, static_field, field_of_class, is_library_name, member_of_class, qualified_spot, limit_or, qualified_name, object_field, field_through, field_spot, is_length, field_read, some_void, types_of, brought_all, method_for, Through, is_static, broken, receiver, call_form, call_of, called_unless, called_at, called, LibraryMethod, applicable, has_name, front, library_form, library_call, constructed, is_abstract, new_plain, created}
use Rattle.law_structure.proofs.Yields.{Yields, given, weaker, refused_found, anything, then_found, of_choice}
use Rattle.law_sites.proofs.Fewer.{few_same, few_none, few_then, few_both, few_right, few_behind}
use Rattle.law_sites.proofs.FewForms.{Few, FewPlace, FewPart, FewRow, sites_found, all_sites, FewMeaning, AllFew, FewGets, brought_few, formed_few, of_form}

abbrev pub FewSpot : List ℕ → Spot → Type 0
FewSpot ks p = FewPlace ks p.place

abbrev pub SpotFew : List ℕ → Gets Spot → Type 0
SpotFew ks f = Yields f (FewSpot ks)

-- ---- fields

own_field_few : (ks : List ℕ) (s : Scope) (k : ℕ) (f : Option Field) (token : ℕ) → SpotFew ks (own_field s k f token)
own_field_few ks s k None token = refused_found (FewSpot ks) UnknownName token
own_field_few ks s k (Some f) token =
    of_choice (is_outside s f.is_private f.class) (refuse Private token) _ (FewSpot ks) (refused_found (FewSpot ks) Private token)
    (of_choice f.is_static (give (spot (kernel.Static k token) f.ty f.is_fixed)) _ (FewSpot ks) (given (FewSpot ks) (spot (kernel.Static k token) f.ty f.is_fixed) (few_none ks))
    (of_choice s.has_this (give (spot (kernel.Field this_form k token) f.ty f.is_fixed)) (refuse NotInStatic token) (FewSpot ks)
    (given (FewSpot ks) (spot (kernel.Field this_form k token) f.ty f.is_fixed) (few_none ks)) (refused_found (FewSpot ks) NotInStatic token)))

own_named_few : (ks : List ℕ) (t : Table) (s : Scope) (k : Option ℕ) (token : ℕ) → SpotFew ks (own_field_named t s k token)
own_named_few ks t s None token = refused_found (FewSpot ks) UnknownName token
own_named_few ks t s (Some k) token = own_field_few ks s k (slice_get t.fields k) token

variable_few : (ks : List ℕ) (t : Table) (s : Scope) (name : List ℕ) (v : Option Variable) (token : ℕ) → SpotFew ks (variable_or_field t s name v token)
variable_few ks t s name None token = own_named_few ks t s (field_of t s.class name) token
variable_few ks t s name (Some v) token = given (FewSpot ks) (spot (kernel.Local v.number) v.ty v.is_fixed) (few_none ks)

pub named_spot_few : (ks : List ℕ) (t : Table) (s : Scope) (name : List ℕ) (token : ℕ) → SpotFew ks (named_spot t s name token)
unfolding named_spot
named_spot_few ks t s name token = variable_few ks t s name (denoted s name) token

read_as_few : (ks : List ℕ) (c : Option ConstantValue) (p : Spot) (token : ℕ) → FewSpot ks p → FewMeaning ks (read_as c p token)
read_as_few ks None p token h = h
read_as_few ks (Some c) p token h = (few_none ks)

pub named_few : (ks : List ℕ) (t : Table) (s : Scope) (name : List ℕ) (token : ℕ) → FewGets ks (named t s name token)
unfolding named
named_few ks t s name token = then_found (named_spot t s name token) _ (FewSpot ks) (FewMeaning ks) (named_spot_few ks t s name token) (λ p h. given (FewMeaning ks) (read_as (name_constant t s name) p token) (read_as_few ks (name_constant t s name) p token h))

static_few : (ks : List ℕ) (s : Scope) (k : ℕ) (f : Option Field) (token : ℕ) → SpotFew ks (static_field s k f token)
static_few ks s k None token = refused_found (FewSpot ks) UnknownName token
static_few ks s k (Some f) token =
    of_choice (is_outside s f.is_private f.class) (refuse Private token) _ (FewSpot ks) (refused_found (FewSpot ks) Private token)
    (of_choice f.is_static (give (spot (kernel.Static k token) f.ty f.is_fixed)) (refuse NotInStatic token) (FewSpot ks) (given (FewSpot ks) (spot (kernel.Static k token) f.ty f.is_fixed) (few_none ks)) (refused_found (FewSpot ks) NotInStatic token))

of_class_few : (ks : List ℕ) (t : Table) (s : Scope) (class : ℕ) (k : Option ℕ) (token : ℕ) → SpotFew ks (field_of_class t s class k token)
of_class_few ks t s class None token = refused_found (FewSpot ks) (no_field class) token
of_class_few ks t s class (Some k) token = static_few ks s k (slice_get t.fields k) token

member_few : (ks : List ℕ) (t : Table) (s : Scope) (class : List ℕ) (c : Option ℕ) (name : List ℕ) (class_token token : ℕ) → SpotFew ks (member_of_class t s class c name class_token token)
member_few ks t s class (Some c) name class_token token = of_class_few ks t s c (field_of t c name) token
member_few ks t s class None name class_token token =
    of_choice (is_library_name class) (refuse NotOffered token) (refuse UnknownName class_token) (FewSpot ks) (refused_found (FewSpot ks) NotOffered token) (refused_found (FewSpot ks) UnknownName class_token)

pub qualified_few : (ks : List ℕ) (t : Table) (s : Scope) (class name : List ℕ) (class_token token : ℕ) → SpotFew ks (qualified_spot t s class name class_token token)
unfolding qualified_spot
qualified_few ks t s class name class_token token = member_few ks t s class (class_named t.classes class) name class_token token

limit_few : (ks : List ℕ) (c : Option ConstantValue) (token : ℕ) (other : Gets Meaning) → FewGets ks other → FewGets ks (limit_or c token other)
limit_few ks None token other h = h
limit_few ks (Some c) token other h = given (FewMeaning ks) (Known c token) (few_none ks)

pub qualified_name_few : (ks : List ℕ) (t : Table) (s : Scope) (class name : List ℕ) (class_token token : ℕ) → FewGets ks (qualified_name t s class name class_token token)
unfolding qualified_name
qualified_name_few ks t s class name class_token token =
    of_choice (is_library_name class) (limit_or (member_constant t class name) class_token (refuse NotOffered token)) _ (FewMeaning ks)
    (limit_few ks (member_constant t class name) class_token (refuse NotOffered token) (refused_found (FewMeaning ks) NotOffered token))
    (then_found (qualified_spot t s class name class_token token) _ (FewSpot ks) (FewMeaning ks) (qualified_few ks t s class name class_token token) (λ p h.
    given (FewMeaning ks) (read_as (member_constant t class name) p class_token) (read_as_few ks (member_constant t class name) p class_token h)))

pub object_few : (ks : List ℕ) (s : Scope) (object : kernel.Expression) (k : ℕ) (f : Option Field) (token : ℕ) → Few ks object → SpotFew ks (object_field s object k f token)
object_few ks s object k None token h = refused_found (FewSpot ks) UnknownName token
object_few ks s object k (Some f) token h =
    of_choice (is_outside s f.is_private f.class) (refuse Private token) _ (FewSpot ks) (refused_found (FewSpot ks) Private token)
    (of_choice f.is_static (refuse NotOffered token) (give (spot (kernel.Field object k token) f.ty f.is_fixed)) (FewSpot ks) (refused_found (FewSpot ks) NotOffered token) (given (FewSpot ks) (spot (kernel.Field object k token) f.ty f.is_fixed) h))

through_few : (ks : List ℕ) (t : Table) (s : Scope) (class : ℕ) (object : kernel.Expression) (k : Option ℕ) (token : ℕ) → Few ks object → SpotFew ks (field_through t s class object k token)
through_few ks t s class object None token h = refused_found (FewSpot ks) (no_field class) token
through_few ks t s class object (Some k) token h = object_few ks s object k (slice_get t.fields k) token h

pub field_spot_few : (ks : List ℕ) (t : Table) (s : Scope) (m : Meaning) (ty : Ty) (name : List ℕ) (token : ℕ) → FewMeaning ks m → SpotFew ks (field_spot t s m ty name token)
unfolding field_spot
field_spot_few ks t s m (Of (Named c) zero) name token h =
    of_form ks (formed m) _ (FewSpot ks) (formed_few ks m h) (λ object i. through_few ks t s c object (field_of t c name) token i)
field_spot_few ks t s m Void name token h = refused_found (FewSpot ks) BadOperand token
field_spot_few ks t s m ty name token h = refused_found (FewSpot ks) UnknownName token

pub field_read_few : (ks : List ℕ) (t : Table) (s : Scope) (m : Meaning) (name : List ℕ) (token : ℕ) → FewMeaning ks m → FewGets ks (field_read t s m name token)
unfolding field_read
field_read_few ks t s m name token h =
    of_choice (is_length (type_of m) name) _ _ (FewMeaning ks)
    (of_form ks (formed m) _ (FewMeaning ks) (formed_few ks m h) (λ array i. given (FewMeaning ks) (Formed (kernel.Lib lib.ArrayLength (kernel.more array kernel.none) token) _) (few_behind i)))
    (then_found (field_spot t s m (type_of m) name token) _ (FewSpot ks) (FewMeaning ks) (field_spot_few ks t s m (type_of m) name token h) (λ p i. given (FewMeaning ks) (Formed (kernel.Read p.place) p.ty) i))

-- ---- arguments and calls

pub brought_all_few : (ps : List Ty) (ms : List Meaning) → Yields (brought_all ps ms) (FewRow (all_sites ms))
unfolding brought_all
brought_all_few [] ms = given (FewRow (all_sites ms)) kernel.none (few_none (all_sites ms))
brought_all_few (p ∷ ps) [] = given (FewRow []) kernel.none (few_none [])
brought_all_few (p ∷ ps) (m ∷ ms) =
    let P : kernel.Row → Type 0 = FewRow (sites_found m ++ all_sites ms) in
    of_form (sites_found m) (brought p m) _ P (brought_few (sites_found m) p m (few_same (sites_found m))) (λ e i.
    then_found (brought_all ps ms) _ (FewRow (all_sites ms)) P (brought_all_few ps ms) (λ es k. given P (kernel.more e es) (few_both i k)))

pub row_few : (ks : List ℕ) (ps : List Ty) (ms : List Meaning) → AllFew ks ms → Yields (brought_all ps ms) (FewRow ks)
row_few ks ps ms h = weaker (brought_all ps ms) (FewRow (all_sites ms)) (FewRow ks) (brought_all_few ps ms) (λ es i. few_then i h)

abbrev pub FewThrough : List ℕ → Through → Type 0
FewThrough ks through = FewPart ks (receiver through)

call_few : (ks ls : List ℕ) (through : Through) (k : ℕ) (m : Method) (ty : Ty) (args : kernel.Row) (token : ℕ) → FewThrough ks through → FewRow ls args → Few (ks ++ ls) (call_of through k m ty args token)
call_few ks ls through k m ty args token h i = elim (is_static m.form) as (λ b. Few (ks ++ ls) (if b then kernel.Call call.Static k kernel.absent Void args token else kernel.Call (call_form through m) k (receiver through) ty args token)) [
  | true ↦ few_right ks i
  | false ↦ few_both h i
]

unless_few : (ks ls : List ℕ) (rule : Option Rule) (through : Through) (k : ℕ) (m : Method) (ty : Ty) (arguments : List Meaning) (token : ℕ) → FewThrough ks through → AllFew ls arguments → FewGets (ks ++ ls) (called_unless rule through k m ty arguments token)
unless_few ks ls (Some rule) through k m ty arguments token h i = refused_found (FewMeaning (ks ++ ls)) rule token
unless_few ks ls None through k m ty arguments token h i =
    then_found (brought_all m.params arguments) _ (FewRow ls) (FewMeaning (ks ++ ls)) (row_few ls m.params arguments i) (λ es j. given (FewMeaning (ks ++ ls)) (Formed (call_of through k m ty es token) m.result) (call_few ks ls through k m ty es token h j))

at_few : (ks ls : List ℕ) (s : Scope) (through : Through) (k : ℕ) (m : Option Method) (ty : Ty) (arguments : List Meaning) (token : ℕ) → FewThrough ks through → AllFew ls arguments → FewGets (ks ++ ls) (called_at s through k m ty arguments token)
at_few ks ls s through k None ty arguments token h i = refused_found (FewMeaning (ks ++ ls)) NoMethod token
at_few ks ls s through k (Some m) ty arguments token h i = unless_few ks ls (broken s through m) through k m ty arguments token h i

pub called_few : (ks ls : List ℕ) (j : Judgement) (t : Table) (s : Scope) (through : Through) (ty : Ty) (name : List ℕ) (arguments : List Meaning) (token : ℕ) → FewThrough ks through → AllFew ls arguments → FewGets (ks ++ ls) (called j t s through ty name arguments token)
unfolding called
called_few ks ls j t s through ty name arguments token h i =
    then_found (method_for j ty name arguments token) _ (λ k. Unit {0}) (FewMeaning (ks ++ ls)) (anything _) (λ k x. at_few ks ls s through k (slice_get t.methods k) ty arguments token h i)

abbrev pub FewOption : List ℕ → Option kernel.Expression → Type 0
FewOption ks None = Unit {0}
FewOption ks (Some e) = Few ks e

front_few : (ks ls : List ℕ) (object : Option kernel.Expression) (es : kernel.Row) → FewOption ks object → FewRow ls es → FewRow (ks ++ ls) (front object es)
front_few ks ls None es h i = few_right ks i
front_few ks ls (Some e) es h i = few_both h i

library_form_few : (ks ls : List ℕ) (m : Option LibraryMethod) (offered : Bool) (object : Option kernel.Expression) (arguments : List Meaning) (token : ℕ) → FewOption ks object → AllFew ls arguments → FewGets (ks ++ ls) (library_form m offered object arguments token)
library_form_few ks ls None offered object arguments token h i = refused_found (FewMeaning (ks ++ ls)) _ token
library_form_few ks ls (Some m) offered object arguments token h i =
    then_found (brought_all m.params arguments) _ (FewRow ls) (FewMeaning (ks ++ ls)) (row_few ls m.params arguments i) (λ es j. given (FewMeaning (ks ++ ls)) (Formed (kernel.Lib m.op (front object es) token) m.outcome) (front_few ks ls object es h j))

pub library_few : (ks ls : List ℕ) (j : Judgement) (methods : List LibraryMethod) (object : Option kernel.Expression) (name : List ℕ) (arguments : List Meaning) (token : ℕ) → FewOption ks object → AllFew ls arguments → FewGets (ks ++ ls) (library_call j methods object name arguments token)
unfolding library_call
library_few ks ls j methods object name arguments token h i =
    of_choice (some_void arguments) (refuse BadOperand token) _ (FewMeaning (ks ++ ls)) (refused_found (FewMeaning (ks ++ ls)) BadOperand token)
    (library_form_few ks ls (applicable j methods name (types_of arguments)) (has_name methods name) object arguments token h i)

-- ---- `new`

constructed_few : (ks : List ℕ) (s : Scope) (class : ℕ) (abstract : Bool) (k : ℕ) (m : Option Method) (arguments : List Meaning) (token : ℕ) → AllFew ks arguments → FewGets ks (constructed s class abstract k m arguments token)
constructed_few ks s class abstract k None arguments token h = refused_found (FewMeaning ks) NoMethod token
constructed_few ks s class abstract k (Some m) arguments token h =
    of_choice (is_outside s m.is_private m.class) (refuse Private token) _ (FewMeaning ks) (refused_found (FewMeaning ks) Private token)
    (of_choice abstract (refuse NotImplemented token) _ (FewMeaning ks) (refused_found (FewMeaning ks) NotImplemented token)
    (then_found (brought_all m.params arguments) _ (FewRow ks) (FewMeaning ks) (row_few ks m.params arguments h) (λ es i. given (FewMeaning ks) (Formed (kernel.New class (Some k) es token) (class_type class)) i)))

plain_few : (ks : List ℕ) (arguments : List Meaning) (token : ℕ) → FewGets ks (new_plain arguments token)
plain_few ks [] token = given (FewMeaning ks) (Formed (kernel.New object_class None kernel.none token) object_type) (few_none ks)
plain_few ks (m ∷ rest) token = refused_found (FewMeaning ks) _ token

pub created_few : (ks : List ℕ) (j : Judgement) (t : Table) (s : Scope) (class : ℕ) (arguments : List Meaning) (token : ℕ) → AllFew ks arguments → FewGets ks (created j t s class arguments token)
unfolding created
created_few ks j t s class arguments token h =
    of_choice (class == object_class) (new_plain arguments token) _ (FewMeaning ks) (plain_few ks arguments token)
    (of_choice (is_interface (class_of t class)) _ _ (FewMeaning ks)
    (of_choice (some_void arguments) (refuse BadOperand token) (refuse NotImplemented token) (FewMeaning ks) (refused_found (FewMeaning ks) BadOperand token) (refused_found (FewMeaning ks) NotImplemented token))
    (then_found (method_for j (class_type class) (codes "new") arguments token) _ (λ k. Unit {0}) (FewMeaning ks) (anything _) (λ k x. constructed_few ks s class (is_abstract (class_of t class)) k (slice_get t.methods k) arguments token h)))
