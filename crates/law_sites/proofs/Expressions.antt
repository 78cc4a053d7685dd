-- Each expression becomes a form that has no other sites than tokens of the expression.
use Rattle.std.proofs.Common.{ℕ, ◌+◌, Bool, false, not, ◌&&◌, ◌||◌, if◌then◌else◌, List, [], ◌∷◌, length}
use Rattle.std.specs.List.{AllByRecursion}
use Rattle.std.specs.Prelude.{Option, Some, None, option_map, codes, bytes_eq, slice_get}
use Rattle.wy_kernel.specs.declared.operator.Primitive.{Primitive}
use Rattle.wy_kernel.specs.declared.operator.BinOp.{BinOp}
use Rattle.wy_kernel.specs.declared.operator.BinOp.TheVariants.{Add, Sub}
use Rattle.wy_kernel.specs.declared.types.Ty.{Ty}
use Rattle.wy_kernel.specs.declared.types.Ty.TheVariants.{Void, Null}
use Rattle.wy_kernel.specs.declared.form.CondForm.TheVariants as cond
use Rattle.wy_kernel.specs.declared.form.LibOp.TheVariants as lib
use Rattle.wy_kernel.specs.Form as kernel
use Rattle.wy_kernel.specs.Subtyping.{class_type}
use Rattle.wy_kernel.specs.Table.{Table, ConstantValue}
use Rattle.wy_tree.specs.Seen.{Tok}
use Rattle.wy_syntax.specs.Syntax.{Expression, Row, none, more, Initial, Value, Listed, Elements, no_more, element}
use Rattle.wy_syntax.specs.Syntax as source
use Rattle.wy_constant.specs.declared.rule.Rule.TheVariants.{BadOperand, BadAssign, NotInStatic, NotOffered}
use Rattle.wy_constant.specs.Scope.{Scope}
use Rattle.wy_constant.specs.Fields.{class_named, field_of}
use Rattle.wy_constant.specs.Constant.{literal}
use Rattle.wy_elab_expr.specs.Meaning.{Meaning, Known, Formed, type_of, Gets, give, refuse, ◌>>=◌, brought, formed}
use Rattle.wy_elab_expr.specs.Operators.{Judgement, is_void, is_text_type, is_assignable}
use Rattle.wy_elab_expr.specs.Members.{Spot, spot, this_form, named_spot, qualified_spot, qualified_name, field_spot, no_field, is_library_name, Nothing, Object, OfClass, Super, text_methods, library_call, some_void}
use Rattle.wy_elab_expr.specs.Elaboration.{type_with, type_written, literal_or_null, literal_meaning, ClassName, class_in, Stream, Input, Output, stream_in, class_methods, is_of_texts, called_on_known, called_on_class, called_on, byte_read, printed_type, is_printed, Printed, printed, is_print, some_printed, print_operand, called_on_stream, above, super_field_named, super_spot, is_index, element_of, element_at, element_spot, sizes_of, with_brackets, assigned_value, assigned, adds_text, updated_in, left_primitive, updated_by, updated, stepped_in, stepped, read, is_an_array, field_target, is_limit, class_target, just, class_for_new, Listing, listing, or_type, is_place, elaborated, elaborated_all, target, elements_of, initialized}
use Rattle.law_structure.proofs.Yields.{Yields, given, refused_found, anything, then_found, of_choice, of_option}
use Rattle.wy_typing.specs.Sites.{Sited, RowSited}
use Rattle.law_sites.proofs.Tokens.{Tokens, RowTokens, InitialTokens, ElementTokens}
use Rattle.law_sites.proofs.Forms.{MeaningSited, MeaningsSited, GetsSited, brought_sited, formed_sited, unary_sited, binary_sited, lazy_sited, choice_sited, cast_sited, instance_sited}
use Rattle.law_sites.proofs.Members.{SpotSited, GetsSpot, named_spot_sited, named_sited, qualified_sited, qualified_name_sited, object_sited, field_spot_sited, field_read_sited, called_sited, library_sited, created_sited}

-- ---- literals and calls

literal_sited : (P : ℕ → Type 0) (value : Tok) (token : ℕ) → GetsSited P (literal_meaning value token)
unfolding literal_meaning
literal_sited P value token = by (literal value)
  where
    by : (c : Option ConstantValue) → GetsSited P (literal_or_null (option_map (λ c. Known c token) c))
    by None = given (MeaningSited P) (Formed (kernel.Const kernel.Null) Null) tt
    by (Some c) = given (MeaningSited P) (Known c token) tt

known_call_sited : (P : ℕ → Type 0) (j : Judgement) (t : Table) (s : Scope) (c : Option ℕ) (name : List ℕ) (arguments : List Meaning) (token : ℕ) → P token → MeaningsSited P arguments → GetsSited P (called_on_known j t s c name arguments token)
known_call_sited P j t s None name arguments token here h = refused_found (MeaningSited P) NotOffered token
known_call_sited P j t s (Some c) name arguments token here h = called_sited P j t s OfClass (class_type c) name arguments token here tt h

class_call_sited : (P : ℕ → Type 0) (j : Judgement) (t : Table) (s : Scope) (class : ClassName) (name : List ℕ) (arguments : List Meaning) (token : ℕ) → P token → MeaningsSited P arguments → GetsSited P (called_on_class j t s class name arguments token)
unfolding called_on_class
class_call_sited P j t s class name arguments token here h =
    of_choice (is_of_texts class.name name) _ _ (MeaningSited P) (refused_found (MeaningSited P) _ token)
    (of_choice (is_library_name class.name || bytes_eq class.name (codes "String")) (library_call j (class_methods class.name) None name arguments token) (called_on_known j t s (class_named t.classes class.name) name arguments token) (MeaningSited P)
    (library_sited P j (class_methods class.name) None name arguments token here tt h) (known_call_sited P j t s (class_named t.classes class.name) name arguments token here h))

object_call_sited : (P : ℕ → Type 0) (j : Judgement) (t : Table) (s : Scope) (m : Meaning) (name : List ℕ) (arguments : List Meaning) (token : ℕ) → P token → MeaningSited P m → MeaningsSited P arguments → GetsSited P (called_on j t s m name arguments token)
unfolding called_on
object_call_sited P j t s m name arguments token here h i =
    of_choice (is_void (type_of m)) (refuse BadOperand token) _ (MeaningSited P) (refused_found (MeaningSited P) BadOperand token)
    (of_choice (is_text_type (type_of m)) _ _ (MeaningSited P)
    (then_found (formed m) _ (Sited P) (MeaningSited P) (formed_sited P m h) (λ object k. library_sited P j text_methods (Some object) name arguments token here k i))
    (then_found (formed m) _ (Sited P) (MeaningSited P) (formed_sited P m h) (λ object k. called_sited P j t s (Object object) (type_of m) name arguments token here k i)))

byte_sited : (P : ℕ → Type 0) (name : List ℕ) (ms : List Meaning) (token : ℕ) → P token → GetsSited P (byte_read name ms token)
byte_sited P name [] token here = of_choice (bytes_eq name (codes "read")) _ (refuse NotOffered token) (MeaningSited P) (given (MeaningSited P) (Formed (kernel.Lib lib.ReadByte kernel.none token) _) (here, tt)) (refused_found (MeaningSited P) NotOffered token)
byte_sited P name (m ∷ rest) token here = refused_found (MeaningSited P) _ token

-- what is printed
abbrev pub PrintedSited : (ℕ → Type 0) → Option Printed → Type 0
PrintedSited P None = Unit {0}
PrintedSited P (Some p) = Sited P p.form

printed_sited : (P : ℕ → Type 0) (m : Meaning) (token : ℕ) → MeaningSited P m → Yields (printed m token) (λ p. Sited P p.form)
unfolding printed
printed_sited P m token h =
    of_choice (is_void (type_of m)) (refuse BadOperand token) _ (λ (p : Printed). Sited P p.form) (refused_found (λ (p : Printed). Sited P p.form) BadOperand token)
    (of_choice (is_printed (type_of m)) _ (refuse NotOffered token) (λ (p : Printed). Sited P p.form)
    (then_found (brought (printed_type (type_of m)) m) _ (Sited P) (λ (p : Printed). Sited P p.form) (brought_sited P (printed_type (type_of m)) m h) (λ e i. given (λ (p : Printed). Sited P p.form) (record { form = e; ty = printed_type (type_of m) }) i))
    (refused_found (λ (p : Printed). Sited P p.form) NotOffered token))

pub operand_sited : (P : ℕ → Type 0) (name : List ℕ) (ms : List Meaning) (token : ℕ) → MeaningsSited P ms → Yields (print_operand name ms token) (PrintedSited P)
unfolding print_operand
operand_sited P name [] token h = of_choice (bytes_eq name (codes "println")) (give None) _ (PrintedSited P) (given (PrintedSited P) None tt) (refused_found (PrintedSited P) _ token)
operand_sited P name (m ∷ []) token h =
    of_choice (is_print name) (printed m token >>= some_printed) _ (PrintedSited P)
    (then_found (printed m token) some_printed (λ p. Sited P p.form) (PrintedSited P) (printed_sited P m token h.0) (λ p i. given (PrintedSited P) (Some p) i)) (refused_found (PrintedSited P) _ token)
operand_sited P name (m ∷ n ∷ rest) token h = refused_found (PrintedSited P) _ token

stream_sited : (P : ℕ → Type 0) (x : Stream) (name : List ℕ) (ms : List Meaning) (token : ℕ) → P token → GetsSited P (called_on_stream x name ms token)
stream_sited P Input name ms token here = of_choice (some_void ms) (refuse BadOperand token) (byte_read name ms token) (MeaningSited P) (refused_found (MeaningSited P) BadOperand token) (byte_sited P name ms token here)
stream_sited P Output name ms token here = then_found (print_operand name ms token) _ (λ p. Unit {0}) (MeaningSited P) (anything _) (λ p x. given (MeaningSited P) (Formed (kernel.Const kernel.Null) Void) tt)

-- ---- variables

super_named_sited : (P : ℕ → Type 0) (t : Table) (s : Scope) (k : Option ℕ) (token : ℕ) → P token → GetsSpot P (super_field_named t s k token)
super_named_sited P t s None token here = refused_found (SpotSited P) (no_field (above t s)) token
super_named_sited P t s (Some k) token here = object_sited P s this_form k (slice_get t.fields k) token here tt

super_sited : (P : ℕ → Type 0) (t : Table) (s : Scope) (name : List ℕ) (token : ℕ) → P token → GetsSpot P (super_spot t s name token)
unfolding super_spot
super_sited P t s name token here = of_choice s.has_this (super_field_named t s (field_of t (above t s) name) token) (refuse NotInStatic token) (SpotSited P) (super_named_sited P t s (field_of t (above t s) name) token here) (refused_found (SpotSited P) NotInStatic token)

element_at_sited : (P : ℕ → Type 0) (ty : Option Ty) (array index : Meaning) (token : ℕ) → P token → MeaningSited P array → MeaningSited P index → GetsSpot P (element_at ty array index token)
element_at_sited P None array index token here h i = refused_found (SpotSited P) BadOperand token
element_at_sited P (Some ty) array index token here h i =
    of_choice (is_index (type_of index)) _ (refuse BadOperand token) (SpotSited P)
    (then_found (formed array) _ (Sited P) (SpotSited P) (formed_sited P array h) (λ a ha.
    then_found (brought _ index) _ (Sited P) (SpotSited P) (brought_sited P _ index i) (λ x hx. given (SpotSited P) (spot (kernel.Elem a x token) ty false) (here, ha, hx))))
    (refused_found (SpotSited P) BadOperand token)

element_sited : (P : ℕ → Type 0) (array index : Meaning) (token : ℕ) → P token → MeaningSited P array → MeaningSited P index → GetsSpot P (element_spot array index token)
unfolding element_spot
element_sited P array index token here h i = element_at_sited P (element_of (type_of array)) array index token here h i

sizes_sited : (P : ℕ → Type 0) (ms : List Meaning) (token : ℕ) → MeaningsSited P ms → Yields (sizes_of ms token) (RowSited P)
unfolding sizes_of
sizes_sited P [] token h = given (RowSited P) kernel.none tt
sizes_sited P (m ∷ rest) token h =
    of_choice (is_index (type_of m)) _ (refuse BadOperand token) (RowSited P)
    (then_found (brought _ m) _ (Sited P) (RowSited P) (brought_sited P _ m h.0) (λ e i.
    then_found (sizes_of rest token) _ (RowSited P) (RowSited P) (sizes_sited P rest token h.1) (λ es k. given (RowSited P) (kernel.more e es) (i, k))))
    (refused_found (RowSited P) BadOperand token)

-- ---- assignment

pub value_sited : (P : ℕ → Type 0) (j : Judgement) (ty : Ty) (m : Meaning) (token : ℕ) → MeaningSited P m → Yields (assigned_value j ty m token) (Sited P)
unfolding assigned_value
value_sited P j ty m token h =
    of_choice (is_void (type_of m)) (refuse BadOperand token) _ (Sited P) (refused_found (Sited P) BadOperand token)
    (of_choice (is_assignable j ty m) (brought ty m) (refuse BadAssign token) (Sited P) (brought_sited P ty m h) (refused_found (Sited P) BadAssign token))

abbrev pub TargetSited : (ℕ → Type 0) → Option Spot → Type 0
TargetSited P None = Unit {0}
TargetSited P (Some p) = SpotSited P p

assigned_sited : (P : ℕ → Type 0) (j : Judgement) (p : Option Spot) (m : Meaning) (token : ℕ) → P token → TargetSited P p → MeaningSited P m → GetsSited P (assigned j p m token)
unfolding assigned
assigned_sited P j None m token here h i = refused_found (MeaningSited P) _ token
assigned_sited P j (Some p) m token here h i =
    of_choice (p.is_fixed && not (is_void (type_of m))) (refuse BadAssign token) _ (MeaningSited P) (refused_found (MeaningSited P) BadAssign token)
    (then_found (assigned_value j p.ty m token) _ (Sited P) (MeaningSited P) (value_sited P j p.ty m token i) (λ e k. given (MeaningSited P) (Formed (kernel.Set p.place e token) p.ty) (here, h, k)))

updated_in_sited : (P : ℕ → Type 0) (op : BinOp) (wide : Option Primitive) (p : Spot) (m : Meaning) (token : ℕ) → P token → SpotSited P p → MeaningSited P m → GetsSited P (updated_in op wide p m token)
updated_in_sited P op wide p m token here h i =
    of_choice p.is_fixed (refuse BadAssign token) _ (MeaningSited P) (refused_found (MeaningSited P) BadAssign token)
    (then_found (formed m) _ (Sited P) (MeaningSited P) (formed_sited P m i) (λ e k. given (MeaningSited P) (Formed (kernel.Upd p.place op (kernel.the e) (type_of m) p.ty wide false token) p.ty) (here, h, k)))

updated_by_sited : (P : ℕ → Type 0) (q : Option Primitive) (op : BinOp) (p : Spot) (m : Meaning) (token : ℕ) → P token → SpotSited P p → MeaningSited P m → GetsSited P (updated_by q op p m token)
updated_by_sited P None op p m token here h i = refused_found (MeaningSited P) BadOperand token
updated_by_sited P (Some q) op p m token here h i = updated_in_sited P op (Some q) p m token here h i

updated_sited : (P : ℕ → Type 0) (j : Judgement) (t : Table) (op : BinOp) (p : Option Spot) (m : Meaning) (token : ℕ) → P token → TargetSited P p → MeaningSited P m → GetsSited P (updated j t op p m token)
unfolding updated
updated_sited P j t op None m token here h i = refused_found (MeaningSited P) _ token
updated_sited P j t op (Some p) m token here h i =
    of_choice (is_void (type_of m)) (refuse BadOperand token) _ (MeaningSited P) (refused_found (MeaningSited P) BadOperand token)
    (of_choice (adds_text op p.ty (type_of m)) (updated_in op None p m token) (updated_by (left_primitive j t op p.ty (type_of m)) op p m token) (MeaningSited P)
    (updated_in_sited P op None p m token here h i) (updated_by_sited P (left_primitive j t op p.ty (type_of m)) op p m token here h i))

stepped_in_sited : (P : ℕ → Type 0) (wide : Option Primitive) (op : BinOp) (gives_old : Bool) (p : Spot) (token : ℕ) → P token → SpotSited P p → GetsSited P (stepped_in wide op gives_old p token)
stepped_in_sited P None op gives_old p token here h = refused_found (MeaningSited P) BadOperand token
stepped_in_sited P (Some wide) op gives_old p token here h =
    of_choice p.is_fixed (refuse BadAssign token) _ (MeaningSited P) (refused_found (MeaningSited P) BadAssign token)
    (given (MeaningSited P) (Formed (kernel.Upd p.place op kernel.absent _ p.ty (Some wide) gives_old token) p.ty) (here, h, tt))

stepped_sited : (P : ℕ → Type 0) (is_before is_up : Bool) (p : Option Spot) (token : ℕ) → P token → TargetSited P p → GetsSited P (stepped is_before is_up p token)
unfolding stepped
stepped_sited P is_before is_up None token here h = refused_found (MeaningSited P) BadOperand token
stepped_sited P is_before is_up (Some p) token here h = stepped_in_sited P _ (if is_up then Add else Sub) (not is_before) p token here h

just_sited : (P : ℕ → Type 0) (f : Gets Spot) → GetsSpot P f → Yields (just f) (TargetSited P)
just_sited P f h = then_found f (λ p. give (Some p)) (SpotSited P) (TargetSited P) h (λ p i. given (TargetSited P) (Some p) i)

field_target_sited : (P : ℕ → Type 0) (t : Table) (s : Scope) (m : Meaning) (name : List ℕ) (token : ℕ) → P token → MeaningSited P m → Yields (field_target t s m name token) (TargetSited P)
unfolding field_target
field_target_sited P t s m name token here h =
    of_choice (is_an_array (type_of m) && bytes_eq name (codes "length")) (give None) _ (TargetSited P) (given (TargetSited P) None tt) (just_sited P (field_spot t s m (type_of m) name token) (field_spot_sited P t s m (type_of m) name token here h))

class_target_sited : (P : ℕ → Type 0) (t : Table) (s : Scope) (c : ClassName) (name : List ℕ) (token : ℕ) → P token → Yields (class_target t s c name token) (TargetSited P)
unfolding class_target
class_target_sited P t s c name token here =
    of_choice (is_limit c.name name) (give None) _ (TargetSited P) (given (TargetSited P) None tt) (just_sited P (qualified_spot t s c.name name c.token token) (qualified_sited P t s c.name name c.token token here))

read_spot_sited : (P : ℕ → Type 0) (f : Gets Spot) → GetsSpot P f → GetsSited P (f >>= λ p. give (read p))
read_spot_sited P f h = then_found f (λ p. give (read p)) (SpotSited P) (MeaningSited P) h (λ p i. given (MeaningSited P) (read p) i)

abbrev pub ListingSited : (ℕ → Type 0) → Listing → Type 0
ListingSited P l = RowSited P l.forms × AllByRecursion P l.sites

mutual
  unfolding elaborated elaborated_all target elements_of initialized

  pub elaborated_sited : (P : ℕ → Type 0) (j : Judgement) (t : Table) (s : Scope) (e : Expression) → Tokens P e → Yields (elaborated j t s e) (MeaningSited P)
  elaborated_sited P j t s (source.Literal value token) h = literal_sited P value token
  elaborated_sited P j t s (source.Name name token) h = named_sited P t s name token h
  elaborated_sited P j t s (source.This token) h = of_choice s.has_this (give (Formed this_form (class_type s.class))) (refuse NotInStatic token) (MeaningSited P) (given (MeaningSited P) (Formed this_form (class_type s.class)) tt) (refused_found (MeaningSited P) NotInStatic token)
  elaborated_sited P j t s (source.Group inner token) h = elaborated_sited P j t s inner h.1
  elaborated_sited P j t s (source.Invoke name args token) h =
      then_found (elaborated_all j t s args) _ (MeaningsSited P) (MeaningSited P) (elaborated_all_sited P j t s args h.1) (λ ms i. called_sited P j t s Nothing (class_type s.class) name ms token h.0 tt i)
  elaborated_sited P j t s (source.Field object name token) h =
      of_option (MeaningSited P) (class_in t s object) (λ c. qualified_name t s c.name name c.token token) _ (λ c. qualified_name_sited P t s c.name name c.token token h.0)
      (then_found (elaborated j t s object) _ (MeaningSited P) (MeaningSited P) (elaborated_sited P j t s object h.1) (λ m i. field_read_sited P t s m name token h.0 i))
  elaborated_sited P j t s (source.InvokeOn object name args token) h =
      of_option (MeaningSited P) (stream_in t s object) (λ x. elaborated_all j t s args >>= λ ms. called_on_stream x name ms token) _
      (λ x. then_found (elaborated_all j t s args) _ (MeaningsSited P) (MeaningSited P) (elaborated_all_sited P j t s args h.2) (λ ms i. stream_sited P x name ms token h.0))
      (of_option (MeaningSited P) (class_in t s object) (λ c. elaborated_all j t s args >>= λ ms. called_on_class j t s c name ms token) _
      (λ c. then_found (elaborated_all j t s args) _ (MeaningsSited P) (MeaningSited P) (elaborated_all_sited P j t s args h.2) (λ ms i. class_call_sited P j t s c name ms token h.0 i))
      (then_found (elaborated j t s object) _ (MeaningSited P) (MeaningSited P) (elaborated_sited P j t s object h.1) (λ m hm.
      then_found (elaborated_all j t s args) _ (MeaningsSited P) (MeaningSited P) (elaborated_all_sited P j t s args h.2) (λ ms i. object_call_sited P j t s m name ms token h.0 hm i))))
  elaborated_sited P j t s (source.SuperField name token) h = read_spot_sited P (super_spot t s name token) (super_sited P t s name token h)
  elaborated_sited P j t s (source.SuperInvoke name args token) h =
      then_found (elaborated_all j t s args) _ (MeaningsSited P) (MeaningSited P) (elaborated_all_sited P j t s args h.1) (λ ms i. called_sited P j t s Super (class_type (above t s)) name ms token h.0 tt i)
  elaborated_sited P j t s (source.Element array index token) h =
      then_found (elaborated j t s array) _ (MeaningSited P) (MeaningSited P) (elaborated_sited P j t s array h.1) (λ a ha.
      then_found (elaborated j t s index) _ (MeaningSited P) (MeaningSited P) (elaborated_sited P j t s index h.2) (λ i hi. read_spot_sited P (element_spot a i token) (element_sited P a i token h.0 ha hi)))
  elaborated_sited P j t s (source.NewObject class args token) h =
      then_found (class_for_new (class_named t.classes class.name) class.token) _ (λ c. Unit {0}) (MeaningSited P) (anything _) (λ c x.
      then_found (elaborated_all j t s args) _ (MeaningsSited P) (MeaningSited P) (elaborated_all_sited P j t s args h.1) (λ ms i. created_sited P j t s c ms token h.0 i))
  elaborated_sited P j t s (source.NewArray base base_token sizes brackets token) h =
      then_found (type_with t base 0 base_token) _ (λ ty. Unit {0}) (MeaningSited P) (anything _) (λ ty x.
      then_found (elaborated_all j t s sizes) _ (MeaningsSited P) (MeaningSited P) (elaborated_all_sited P j t s sizes h.1) (λ ms i.
      then_found (sizes_of ms token) _ (RowSited P) (MeaningSited P) (sizes_sited P ms token i) (λ dims k.
      given (MeaningSited P) (Formed (kernel.NewArray (with_brackets ty (length ms + brackets)) dims kernel.none [] token) (with_brackets ty (length ms + brackets))) (h.0, k, tt, tt))))
  elaborated_sited P j t s (source.NewList base base_token brackets elements brace token) h =
      then_found (type_with t base brackets base_token) _ (λ ty. Unit {0}) (MeaningSited P) (anything _) (λ ty x.
      then_found (or_type (element_of ty) brace) _ (λ inner. Unit {0}) (MeaningSited P) (anything _) (λ inner y.
      then_found (elements_of j t s inner elements) _ (ListingSited P) (MeaningSited P) (elements_of_sited P j t s inner elements h.2) (λ all k.
      given (MeaningSited P) (Formed (kernel.NewArray ty kernel.none all.forms all.sites token) ty) (h.0, tt, k.0, k.1))))
  elaborated_sited P j t s (source.Unary op operand token) h =
      then_found (elaborated j t s operand) _ (MeaningSited P) (MeaningSited P) (elaborated_sited P j t s operand h.1) (λ m i. unary_sited P op m token i)
  elaborated_sited P j t s (source.Step is_before is_up operand token) h =
      then_found (if is_place operand then target j t s operand else elaborated j t s operand >>= λ m. give None) _ (TargetSited P) (MeaningSited P)
      (of_choice (is_place operand) (target j t s operand) (elaborated j t s operand >>= λ m. give None) (TargetSited P) (target_sited P j t s operand h.1)
      (then_found (elaborated j t s operand) (λ m. give None) (λ m. Unit {0}) (TargetSited P) (anything _) (λ m x. given (TargetSited P) None tt)))
      (λ p i. stepped_sited P is_before is_up p token h.0 i)
  elaborated_sited P j t s (source.Binary op left right token) h =
      then_found (elaborated j t s left) _ (MeaningSited P) (MeaningSited P) (elaborated_sited P j t s left h.1) (λ a ha.
      then_found (elaborated j t s right) _ (MeaningSited P) (MeaningSited P) (elaborated_sited P j t s right h.2) (λ b hb. binary_sited P j t op a b token h.0 ha hb))
  elaborated_sited P j t s (source.Both left right token) h =
      then_found (elaborated j t s left) _ (MeaningSited P) (MeaningSited P) (elaborated_sited P j t s left h.1) (λ a ha.
      then_found (elaborated j t s right) _ (MeaningSited P) (MeaningSited P) (elaborated_sited P j t s right h.2) (λ b hb. lazy_sited P cond.And (λ p q. p && q) a b token h.0 ha hb))
  elaborated_sited P j t s (source.Either left right token) h =
      then_found (elaborated j t s left) _ (MeaningSited P) (MeaningSited P) (elaborated_sited P j t s left h.1) (λ a ha.
      then_found (elaborated j t s right) _ (MeaningSited P) (MeaningSited P) (elaborated_sited P j t s right h.2) (λ b hb. lazy_sited P cond.Or (λ p q. p || q) a b token h.0 ha hb))
  elaborated_sited P j t s (source.InstanceOf left ty token) h =
      then_found (elaborated j t s left) _ (MeaningSited P) (MeaningSited P) (elaborated_sited P j t s left h.1) (λ m i.
      then_found (type_written t ty) _ (λ to. Unit {0}) (MeaningSited P) (anything _) (λ to x. instance_sited P j t to m token i))
  elaborated_sited P j t s (source.Cast ty operand token) h =
      then_found (type_written t ty) _ (λ to. Unit {0}) (MeaningSited P) (anything _) (λ to x.
      then_found (elaborated j t s operand) _ (MeaningSited P) (MeaningSited P) (elaborated_sited P j t s operand h.1) (λ m i. cast_sited P j t to m token h.0 i))
  elaborated_sited P j t s (source.Choice test main other token) h =
      then_found (elaborated j t s test) _ (MeaningSited P) (MeaningSited P) (elaborated_sited P j t s test h.1) (λ z hz.
      then_found (elaborated j t s main) _ (MeaningSited P) (MeaningSited P) (elaborated_sited P j t s main h.2) (λ a ha.
      then_found (elaborated j t s other) _ (MeaningSited P) (MeaningSited P) (elaborated_sited P j t s other h.3) (λ b hb. choice_sited P j t z a b token h.0 hz ha hb)))
  elaborated_sited P j t s (source.Assign left value token) h =
      then_found (target j t s left) _ (TargetSited P) (MeaningSited P) (target_sited P j t s left h.1) (λ p i.
      then_found (elaborated j t s value) _ (MeaningSited P) (MeaningSited P) (elaborated_sited P j t s value h.2) (λ m k. assigned_sited P j p m token h.0 i k))
  elaborated_sited P j t s (source.Update op left value token) h =
      then_found (target j t s left) _ (TargetSited P) (MeaningSited P) (target_sited P j t s left h.1) (λ p i.
      then_found (elaborated j t s value) _ (MeaningSited P) (MeaningSited P) (elaborated_sited P j t s value h.2) (λ m k. updated_sited P j t op p m token h.0 i k))
  elaborated_sited P j t s source.Wrong h = refused_found (MeaningSited P) BadOperand 0

  pub elaborated_all_sited : (P : ℕ → Type 0) (j : Judgement) (t : Table) (s : Scope) (args : Row) → RowTokens P args → Yields (elaborated_all j t s args) (MeaningsSited P)
  elaborated_all_sited P j t s none h = given (MeaningsSited P) [] tt
  elaborated_all_sited P j t s (more e rest) h =
      then_found (elaborated j t s e) _ (MeaningSited P) (MeaningsSited P) (elaborated_sited P j t s e h.0) (λ m i.
      then_found (elaborated_all j t s rest) _ (MeaningsSited P) (MeaningsSited P) (elaborated_all_sited P j t s rest h.1) (λ ms k. given (MeaningsSited P) (m ∷ ms) (i, k)))

  target_sited : (P : ℕ → Type 0) (j : Judgement) (t : Table) (s : Scope) (e : Expression) → Tokens P e → Yields (target j t s e) (TargetSited P)
  target_sited P j t s (source.Name name token) h = just_sited P (named_spot t s name token) (named_spot_sited P t s name token h)
  target_sited P j t s (source.Group inner token) h = target_sited P j t s inner h.1
  target_sited P j t s (source.Field object name token) h =
      of_option (TargetSited P) (class_in t s object) (λ c. class_target t s c name token) _ (λ c. class_target_sited P t s c name token h.0)
      (then_found (elaborated j t s object) _ (MeaningSited P) (TargetSited P) (elaborated_sited P j t s object h.1) (λ m i. field_target_sited P t s m name token h.0 i))
  target_sited P j t s (source.SuperField name token) h = just_sited P (super_spot t s name token) (super_sited P t s name token h)
  target_sited P j t s (source.Element array index token) h =
      then_found (elaborated j t s array) _ (MeaningSited P) (TargetSited P) (elaborated_sited P j t s array h.1) (λ a ha.
      then_found (elaborated j t s index) _ (MeaningSited P) (TargetSited P) (elaborated_sited P j t s index h.2) (λ i hi. just_sited P (element_spot a i token) (element_sited P a i token h.0 ha hi)))
  target_sited P j t s e h = given (TargetSited P) None tt

  elements_of_sited : (P : ℕ → Type 0) (j : Judgement) (t : Table) (s : Scope) (ty : Ty) (es : Elements) → ElementTokens P es → Yields (elements_of j t s ty es) (ListingSited P)
  elements_of_sited P j t s ty no_more h = given (ListingSited P) (listing kernel.none []) (tt, tt)
  elements_of_sited P j t s ty (element before first rest) h =
      then_found (initialized j t s ty first before) _ (Sited P) (ListingSited P) (initialized_sited P j t s ty first before h.1) (λ e i.
      then_found (elements_of j t s ty rest) _ (ListingSited P) (ListingSited P) (elements_of_sited P j t s ty rest h.2) (λ all k.
      given (ListingSited P) (listing (kernel.more e all.forms) (before ∷ all.sites)) ((i, k.0), (h.0, k.1))))

  pub initialized_sited : (P : ℕ → Type 0) (j : Judgement) (t : Table) (s : Scope) (ty : Ty) (i : Initial) (token : ℕ) → InitialTokens P i → Yields (initialized j t s ty i token) (Sited P)
  initialized_sited P j t s ty (Value e) token h = then_found (elaborated j t s e) _ (MeaningSited P) (Sited P) (elaborated_sited P j t s e h) (λ m i. value_sited P j ty m token i)
  initialized_sited P j t s ty (Listed elements brace) token h =
      then_found (or_type (element_of ty) brace) _ (λ inner. Unit {0}) (Sited P) (anything _) (λ inner x.
      then_found (elements_of j t s inner elements) _ (ListingSited P) (Sited P) (elements_of_sited P j t s inner elements h.1) (λ all k.
      given (Sited P) (kernel.NewArray ty kernel.none all.forms all.sites brace) (h.0, tt, k.0, k.1)))
