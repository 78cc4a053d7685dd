-- Names, fields and calls of what is alike are alike.
use Rattle.std.proofs.Common.{◌≡◌, ap, subst, refl, ℕ, zero, suc, Bool, List, [], ◌∷◌, Option, Some, Result, Ok, Err}
use Rattle.std.specs.Prelude.{◌&&◌, ◌||◌, ◌==◌, slice_get, bytes_eq, codes, if◌then◌else◌}
use Rattle.std.specs.Prelude.{None as Absent}
use Rattle.wy_kernel.specs.Form as kernel
use Rattle.wy_kernel.specs.declared.types.Base.TheVariants.{Primitive as Basic, Class as Named}
use Rattle.wy_kernel.specs.declared.types.Ty.{Ty}
use Rattle.wy_kernel.specs.declared.types.Ty.TheVariants.{Void, Null, Of}
use Rattle.wy_kernel.specs.Program.{Method, Field, object_class}
use Rattle.wy_kernel.specs.Subtyping.{class_type}
use Rattle.wy_kernel.specs.Table.{Table, ConstantValue}
use Rattle.wy_constant.specs.declared.rule.Rule.{Rule}
use Rattle.wy_constant.specs.declared.rule.Rule.TheVariants as rule
use Rattle.wy_constant.specs.Scope.{Scope, Variable, denoted}
use Rattle.wy_constant.specs.Fields.{class_named, field_of}
use Rattle.wy_constant.specs.Constant.{name_constant, member_constant}
use Rattle.wy_elab_expr.specs.Meaning.{Meaning, type_of, Gets, refuse, brought}
use Rattle.wy_elab_expr.specs.Operators.{Judgement, is_void, is_text_type, class_of, is_interface}
use Rattle.wy_elab_expr.specs.Members.{Spot, this_form, is_outside, own_field, own_field_named, variable_or_field, named_spot, named, read_as, static_field, field_of_class, is_library_name, member_of_class, qualified_spot, qualified_name, limit_or, object_field, field_through, field_spot, field_read, is_length, some_void, types_of, brought_all, of_choice, method_for, Through, Nothing, Object, OfClass, Super, broken, called_unless, called_at, called, LibraryMethod, text_methods, applicable, has_name, library_form, library_call, constructed, is_abstract, new_plain, created}
use Rattle.wy_elab_expr.specs.Elaboration.{ClassName, above, super_field_named, super_spot, field_target, class_target, is_an_array, is_limit, read, Stream, Input, Output, class_methods, is_of_texts, called_on_known, called_on_class, called_on, byte_read, printed_type, is_printed, Printed, printed, is_print, print_operand, called_on_stream}
use Rattle.law_refusals.specs.Alike.{AreAlike, SpotsAreAlike, spots, VariablesAreAlike, known}
use Rattle.law_refusals.specs.Alike as alike
use Rattle.law_refusals.proofs.Likewise.{Alike, Any, AnyRow, any_row, like_give, like_refuse, like_if, like_bind, like_brought, like_formed, like_if_by, like_step, like_row, same_type}
use Rattle.law_refusals.proofs.LikeForms.{AllAlike, nil, cons, same_types, same_void}

abbrev OneSpot : Gets Spot → Type 0
OneSpot m = Alike SpotsAreAlike m m

-- ---- names

own_by : (s : Scope) (k : ℕ) (o : Option Field) (token : ℕ) → OneSpot (own_field s k o token)
own_by s k Absent token = like_refuse
own_by s k (Some f) token = like_if (is_outside s f.is_private f.class) like_refuse (like_if f.is_static (like_give spots) (like_if s.has_this (like_give spots) like_refuse))

own_named_by : (t : Table) (s : Scope) (o : Option ℕ) (token : ℕ) → OneSpot (own_field_named t s o token)
own_named_by t s (Some k) token = own_by s k (slice_get t.fields k) token
own_named_by t s Absent token = like_refuse

variable_by : (t : Table) (s : Scope) (name : List ℕ) (o : Option Variable) (token : ℕ) → OneSpot (variable_or_field t s name o token)
variable_by t s name (Some v) token = like_give spots
variable_by t s name Absent token = own_named_by t s (field_of t s.class name) token

pub like_spot : (t : Table) (s : Scope) (name : List ℕ) (token : ℕ) → OneSpot (named_spot t s name token)
unfolding named_spot
like_spot t s name token = variable_by t s name (denoted s name) token

read_by : (o : Option ConstantValue) (token : ℕ) {p q : Spot} → SpotsAreAlike p q → AreAlike (read_as o p token) (read_as o q token)
read_by (Some c) token h = known
read_by Absent token spots = alike.formed

pub like_read : {p q : Spot} → SpotsAreAlike p q → AreAlike (read p) (read q)
like_read spots = alike.formed

pub like_named : (t : Table) (s : Scope) (name : List ℕ) (token : ℕ) → Alike AreAlike (named t s name token) (named t s name token)
unfolding named
like_named t s name token = like_bind {R = SpotsAreAlike} (like_spot t s name token) (λ p q h. like_give (read_by (name_constant t s name) token h))

-- ---- behind a class's name

static_by : (s : Scope) (k : ℕ) (o : Option Field) (token : ℕ) → OneSpot (static_field s k o token)
static_by s k Absent token = like_refuse
static_by s k (Some f) token = like_if (is_outside s f.is_private f.class) like_refuse (like_if f.is_static (like_give spots) like_refuse)

in_class_by : (t : Table) (s : Scope) (class : ℕ) (o : Option ℕ) (token : ℕ) → OneSpot (field_of_class t s class o token)
in_class_by t s class (Some k) token = static_by s k (slice_get t.fields k) token
in_class_by t s class Absent token = like_refuse

member_by : (t : Table) (s : Scope) (class : List ℕ) (o : Option ℕ) (name : List ℕ) (at token : ℕ) → OneSpot (member_of_class t s class o name at token)
member_by t s class (Some c) name at token = in_class_by t s c (field_of t c name) token
member_by t s class Absent name at token = like_if (is_library_name class) like_refuse like_refuse

qualified_by : (t : Table) (s : Scope) (class name : List ℕ) (at token : ℕ) → OneSpot (qualified_spot t s class name at token)
unfolding qualified_spot
qualified_by t s class name at token = member_by t s class (class_named t.classes class) name at token

limit_by : (o : Option ConstantValue) (at token : ℕ) → Alike AreAlike (limit_or o at (refuse rule.NotOffered token)) (limit_or o at (refuse rule.NotOffered token))
limit_by (Some c) at token = like_give known
limit_by Absent at token = like_refuse

pub like_qualified : (t : Table) (s : Scope) (class name : List ℕ) (at token : ℕ) → Alike AreAlike (qualified_name t s class name at token) (qualified_name t s class name at token)
unfolding qualified_name
like_qualified t s class name at token =
    like_if (is_library_name class) (limit_by (member_constant t class name) at token) (like_bind {R = SpotsAreAlike} (qualified_by t s class name at token) (λ p q h. like_give (read_by (member_constant t class name) at h)))

pub like_class_target : (t : Table) (s : Scope) (class : ClassName) (name : List ℕ) (token : ℕ) → Alike VariablesAreAlike (class_target t s class name token) (class_target t s class name token)
unfolding class_target
like_class_target t s class name token =
    like_if (is_limit class.name name) (like_give alike.none) (like_bind {R = SpotsAreAlike} (qualified_by t s class.name name class.token token) (λ p q h. like_give (alike.some h)))

-- ---- fields of objects

object_by : (s : Scope) (k : ℕ) (o : Option Field) (token : ℕ) (x y : kernel.Expression) → Alike SpotsAreAlike (object_field s x k o token) (object_field s y k o token)
object_by s k Absent token x y = like_refuse
object_by s k (Some f) token x y = like_if (is_outside s f.is_private f.class) like_refuse (like_if f.is_static like_refuse (like_give spots))

through_by : (t : Table) (s : Scope) (class : ℕ) (o : Option ℕ) (token : ℕ) (x y : kernel.Expression) → Alike SpotsAreAlike (field_through t s class x o token) (field_through t s class y o token)
through_by t s class (Some k) token x y = object_by s k (slice_get t.fields k) token x y
through_by t s class Absent token x y = like_refuse

field_by : (t : Table) (s : Scope) (ty : Ty) (name : List ℕ) (token : ℕ) {m n : Meaning} → AreAlike m n → Alike SpotsAreAlike (field_spot t s m ty name token) (field_spot t s n ty name token)
unfolding field_spot
field_by t s (Of (Named c) zero) name token h = like_step (like_formed h) (λ x y. through_by t s c (field_of t c name) token x y)
field_by t s (Of (Named c) (suc n)) name token h = like_refuse
field_by t s (Of (Basic p) n) name token h = like_refuse
field_by t s Void name token h = like_refuse
field_by t s Null name token h = like_refuse

field_equal : (t : Table) (s : Scope) (name : List ℕ) (token : ℕ) {m n : Meaning} → AreAlike m n → Alike SpotsAreAlike (field_spot t s m (type_of m) name token) (field_spot t s n (type_of n) name token)
field_equal t s name token known = field_by t s _ name token known
field_equal t s name token alike.formed = field_by t s _ name token alike.formed

pub like_field : (t : Table) (s : Scope) (name : List ℕ) (token : ℕ) {m n : Meaning} → AreAlike m n → Alike AreAlike (field_read t s m name token) (field_read t s n name token)
unfolding field_read
like_field t s name token {m} {n} h =
    like_if_by (is_length (type_of m) name) (is_length (type_of n) name) (ap (λ z. is_length z name) (same_type h)) (like_step (like_formed h) (λ x y. like_give alike.formed))
    (like_bind {R = SpotsAreAlike} (field_equal t s name token h) (λ p q i. like_give (like_read i)))

pub like_field_target : (t : Table) (s : Scope) (name : List ℕ) (token : ℕ) {m n : Meaning} → AreAlike m n → Alike VariablesAreAlike (field_target t s m name token) (field_target t s n name token)
unfolding field_target
like_field_target t s name token {m} {n} h =
    like_if_by (is_an_array (type_of m) && bytes_eq name (codes "length")) (is_an_array (type_of n) && bytes_eq name (codes "length")) (ap (λ z. is_an_array z && bytes_eq name (codes "length")) (same_type h)) (like_give alike.none)
    (like_bind {R = SpotsAreAlike} (field_equal t s name token h) (λ p q i. like_give (alike.some i)))

super_by : (t : Table) (s : Scope) (o : Option ℕ) (token : ℕ) → OneSpot (super_field_named t s o token)
super_by t s (Some k) token = object_by s k (slice_get t.fields k) token this_form this_form
super_by t s Absent token = like_refuse

pub like_super : (t : Table) (s : Scope) (name : List ℕ) (token : ℕ) → OneSpot (super_spot t s name token)
unfolding super_spot
like_super t s name token = like_if s.has_this (super_by t s (field_of t (above t s) name) token) like_refuse

-- ---- calls

pub record Equal (a b : ℕ) : Type 0 where
  pub same : a ≡ b

choice_self : (r : Result ℕ Rule) (token : ℕ) → Alike Equal (of_choice r token) (of_choice r token)
choice_self (Ok k) token = like_give (record { same = refl })
choice_self (Err r) token = like_refuse

like_method : (j : Judgement) (ty : Ty) (name : List ℕ) (token : ℕ) {ms ns : List Meaning} → AllAlike ms ns → Alike Equal (method_for j ty name ms token) (method_for j ty name ns token)
unfolding method_for
like_method j ty name token {ms} {ns} h =
    let Q : List Ty → Type 0 = λ z. Alike Equal (of_choice (j.choice ty name (types_of ms)) token) (of_choice (j.choice ty name z) token) in
    like_if_by (some_void ms) (some_void ns) (same_void h) like_refuse (subst Q (same_types h) (choice_self (j.choice ty name (types_of ms)) token))

like_all : (ps : List Ty) {ms ns : List Meaning} → AllAlike ms ns → Alike AnyRow (brought_all ps ms) (brought_all ps ns)
unfolding brought_all
like_all [] nil = like_give any_row
like_all (p ∷ ps) nil = like_give any_row
like_all [] (cons h rest) = like_give any_row
like_all (p ∷ ps) (cons h rest) = like_step (like_brought p h) (λ x y. like_row (like_all ps rest) (λ z w. like_give any_row))

-- through what a method is called, whatever the form of the object
data ThroughAlike : Through → Through → Type 0 where
  plainly : ThroughAlike Nothing Nothing
  by_object : {x y : kernel.Expression} → ThroughAlike (Object x) (Object y)
  by_class : ThroughAlike OfClass OfClass
  by_super : ThroughAlike Super Super

unless_by : (o : Option Rule) (k : ℕ) (m : Method) (ty : Ty) (token : ℕ) (v w : Through) {ms ns : List Meaning} → AllAlike ms ns → Alike AreAlike (called_unless o v k m ty ms token) (called_unless o w k m ty ns token)
unless_by (Some r) k m ty token v w h = like_refuse
unless_by Absent k m ty token v w h = like_row (like_all m.params h) (λ x y. like_give alike.formed)

unless_equal : (s : Scope) (k : ℕ) (m : Method) (ty : Ty) (token : ℕ) {v w : Through} {ms ns : List Meaning} → ThroughAlike v w → AllAlike ms ns → Alike AreAlike (called_unless (broken s v m) v k m ty ms token) (called_unless (broken s w m) w k m ty ns token)
unless_equal s k m ty token plainly h = unless_by (broken s Nothing m) k m ty token Nothing Nothing h
unless_equal s k m ty token (by_object {x = x} {y = y}) h = unless_by (broken s (Object x) m) k m ty token (Object x) (Object y) h
unless_equal s k m ty token by_class h = unless_by (broken s OfClass m) k m ty token OfClass OfClass h
unless_equal s k m ty token by_super h = unless_by (broken s Super m) k m ty token Super Super h

at_by : (s : Scope) (k : ℕ) (o : Option Method) (ty : Ty) (token : ℕ) {v w : Through} {ms ns : List Meaning} → ThroughAlike v w → AllAlike ms ns → Alike AreAlike (called_at s v k o ty ms token) (called_at s w k o ty ns token)
at_by s k Absent ty token h i = like_refuse
at_by s k (Some m) ty token h i = unless_equal s k m ty token h i

like_called : (j : Judgement) (t : Table) (s : Scope) (ty : Ty) (name : List ℕ) (token : ℕ) {v w : Through} {ms ns : List Meaning} → ThroughAlike v w → AllAlike ms ns → Alike AreAlike (called j t s v ty name ms token) (called j t s w ty name ns token)
unfolding called
like_called j t s ty name token {v} {w} {ms} {ns} h i =
    like_bind {R = Equal} (like_method j ty name token i)
    (λ a b e. let Q : ℕ → Type 0 = λ z. Alike AreAlike (called_at s v a (slice_get t.methods a) ty ms token) (called_at s w z (slice_get t.methods z) ty ns token) in subst Q e.same (at_by s a (slice_get t.methods a) ty token h i))

pub like_plain : (j : Judgement) (t : Table) (s : Scope) (ty : Ty) (name : List ℕ) (token : ℕ) {ms ns : List Meaning} → AllAlike ms ns → Alike AreAlike (called j t s Nothing ty name ms token) (called j t s Nothing ty name ns token)
like_plain j t s ty name token h = like_called j t s ty name token plainly h

pub like_super_call : (j : Judgement) (t : Table) (s : Scope) (ty : Ty) (name : List ℕ) (token : ℕ) {ms ns : List Meaning} → AllAlike ms ns → Alike AreAlike (called j t s Super ty name ms token) (called j t s Super ty name ns token)
like_super_call j t s ty name token h = like_called j t s ty name token by_super h

form_by : (o : Option LibraryMethod) (offered : Bool) (token : ℕ) (x y : Option kernel.Expression) {ms ns : List Meaning} → AllAlike ms ns → Alike AreAlike (library_form o offered x ms token) (library_form o offered y ns token)
form_by (Some m) offered token x y h = like_row (like_all m.params h) (λ z w. like_give alike.formed)
form_by Absent offered token x y h = like_refuse

like_library : (j : Judgement) (methods : List LibraryMethod) (name : List ℕ) (token : ℕ) (x y : Option kernel.Expression) {ms ns : List Meaning} → AllAlike ms ns → Alike AreAlike (library_call j methods x name ms token) (library_call j methods y name ns token)
unfolding library_call
like_library j methods name token x y {ms} {ns} h =
    let Q : List Ty → Type 0 = λ z. Alike AreAlike (library_form (applicable j methods name (types_of ms)) (has_name methods name) x ms token) (library_form (applicable j methods name z) (has_name methods name) y ns token) in
    like_if_by (some_void ms) (some_void ns) (same_void h) like_refuse (subst Q (same_types h) (form_by (applicable j methods name (types_of ms)) (has_name methods name) token x y h))

pub like_call_on : (j : Judgement) (t : Table) (s : Scope) (name : List ℕ) (token : ℕ) {m n : Meaning} {ms ns : List Meaning} → AreAlike m n → AllAlike ms ns → Alike AreAlike (called_on j t s m name ms token) (called_on j t s n name ns token)
unfolding called_on
like_call_on j t s name token {m} {n} {ms} {ns} h i =
    let Q : Ty → Type 0 = λ z. (x y : kernel.Expression) → Alike AreAlike (called j t s (Object x) (type_of m) name ms token) (called j t s (Object y) z name ns token) in
    like_if_by (is_void (type_of m)) (is_void (type_of n)) (ap is_void (same_type h)) like_refuse
    (like_if_by (is_text_type (type_of m)) (is_text_type (type_of n)) (ap is_text_type (same_type h)) (like_step (like_formed h) (λ x y. like_library j text_methods name token (Some x) (Some y) i))
    (like_step (like_formed h) (subst Q (same_type h) (λ x y. like_called j t s (type_of m) name token by_object i))))

known_by : (j : Judgement) (t : Table) (s : Scope) (o : Option ℕ) (name : List ℕ) (token : ℕ) {ms ns : List Meaning} → AllAlike ms ns → Alike AreAlike (called_on_known j t s o name ms token) (called_on_known j t s o name ns token)
known_by j t s (Some c) name token h = like_called j t s (class_type c) name token by_class h
known_by j t s Absent name token h = like_refuse

like_refuse_if : {A : Type 0} {R : A → A → Type 0} (b c : Bool) (q r : Rule) {n : ℕ} → b ≡ c → Alike {A = A} R (refuse (if b then q else r) n) (refuse (if c then q else r) n)
like_refuse_if {A} {R} b c q r {n} e = let Q : Bool → Type 0 = λ z. Alike {A = A} R (refuse (if b then q else r) n) (refuse (if z then q else r) n) in subst Q e like_refuse

pub like_call_on_class : (j : Judgement) (t : Table) (s : Scope) (class : ClassName) (name : List ℕ) (token : ℕ) {ms ns : List Meaning} → AllAlike ms ns → Alike AreAlike (called_on_class j t s class name ms token) (called_on_class j t s class name ns token)
unfolding called_on_class
like_call_on_class j t s class name token {ms} {ns} h =
    like_if (is_of_texts class.name name) (like_refuse_if (some_void ms) (some_void ns) rule.BadOperand rule.NotInStatic (same_void h))
    (like_if (is_library_name class.name || bytes_eq class.name (codes "String")) (like_library j (class_methods class.name) name token Absent Absent h) (known_by j t s (class_named t.classes class.name) name token h))

-- ---- the streams

byte_by : (name : List ℕ) (token : ℕ) {ms ns : List Meaning} → AllAlike ms ns → Alike AreAlike (byte_read name ms token) (byte_read name ns token)
byte_by name token nil = like_if (bytes_eq name (codes "read")) (like_give alike.formed) like_refuse
byte_by name token (cons h rest) = like_refuse

-- what is printed, in any form
record AnyPrinted (x y : Printed) : Type 0 where

record AnyOption (x y : Option Printed) : Type 0 where

printed_by : (token : ℕ) {m n : Meaning} → AreAlike m n → Alike AnyPrinted (printed m token) (printed n token)
unfolding printed
printed_by token {m} {n} h =
    let Q : Ty → Type 0 = λ z. Alike Any (brought (printed_type (type_of m)) m) (brought (printed_type z) n) in
    like_if_by (is_void (type_of m)) (is_void (type_of n)) (ap is_void (same_type h)) like_refuse
    (like_if_by (is_printed (type_of m)) (is_printed (type_of n)) (ap is_printed (same_type h)) (like_step (subst Q (same_type h) (like_brought (printed_type (type_of m)) h)) (λ x y. like_give (record {}))) like_refuse)

operand_by : (name : List ℕ) (token : ℕ) {ms ns : List Meaning} → AllAlike ms ns → Alike AnyOption (print_operand name ms token) (print_operand name ns token)
unfolding print_operand
operand_by name token nil = like_if (bytes_eq name (codes "println")) (like_give (record {})) like_refuse
operand_by name token (cons {m = m} {n = n} h nil) =
    like_if (is_print name) (like_bind {R = AnyPrinted} (printed_by token h) (λ x y r. like_give (record {}))) (like_refuse_if (is_void (type_of m)) (is_void (type_of n)) rule.BadOperand rule.NotOffered (ap is_void (same_type h)))
operand_by name token (cons {m = m} {n = n} h (cons {m = k} {n = l} {ms = ms} {ns = ns} i rest)) =
    like_refuse_if (some_void (m ∷ k ∷ ms)) (some_void (n ∷ l ∷ ns)) rule.BadOperand (if is_print name then rule.NoMethod else rule.NotOffered) (same_void (cons h (cons i rest)))

pub like_stream : (stream : Stream) (name : List ℕ) (token : ℕ) {ms ns : List Meaning} → AllAlike ms ns → Alike AreAlike (called_on_stream stream name ms token) (called_on_stream stream name ns token)
like_stream Input name token {ms} {ns} h = like_if_by (some_void ms) (some_void ns) (same_void h) like_refuse (byte_by name token h)
like_stream Output name token h = like_bind {R = AnyOption} (operand_by name token h) (λ x y r. like_give alike.formed)

-- ---- `new`

constructed_by : (s : Scope) (class : ℕ) (is_abstract_one : Bool) (k : ℕ) (o : Option Method) (token : ℕ) {ms ns : List Meaning} → AllAlike ms ns → Alike AreAlike (constructed s class is_abstract_one k o ms token) (constructed s class is_abstract_one k o ns token)
constructed_by s class is_abstract_one k Absent token h = like_refuse
constructed_by s class is_abstract_one k (Some m) token h =
    like_if (is_outside s m.is_private m.class) like_refuse (like_if is_abstract_one like_refuse (like_row (like_all m.params h) (λ x y. like_give alike.formed)))

plain_by : (token : ℕ) {ms ns : List Meaning} → AllAlike ms ns → Alike AreAlike (new_plain ms token) (new_plain ns token)
plain_by token nil = like_give alike.formed
plain_by token (cons {m = m} {n = n} {ms = ms} {ns = ns} h rest) = like_refuse_if (some_void (m ∷ ms)) (some_void (n ∷ ns)) rule.BadOperand rule.NoMethod (same_void (cons h rest))

pub like_created : (j : Judgement) (t : Table) (s : Scope) (class token : ℕ) {ms ns : List Meaning} → AllAlike ms ns → Alike AreAlike (created j t s class ms token) (created j t s class ns token)
unfolding created
like_created j t s class token {ms} {ns} h =
    like_if (class == object_class) (plain_by token h)
    (like_if (is_interface (class_of t class)) (like_if_by (some_void ms) (some_void ns) (same_void h) like_refuse like_refuse)
    (like_bind {R = Equal} (like_method j (class_type class) (codes "new") token h)
    (λ a b e. let Q : ℕ → Type 0 = λ z. Alike AreAlike (constructed s class (is_abstract (class_of t class)) a (slice_get t.methods a) ms token) (constructed s class (is_abstract (class_of t class)) z (slice_get t.methods z) ns token) in
    subst Q e.same (constructed_by s class (is_abstract (class_of t class)) a (slice_get t.methods a) token h))))
