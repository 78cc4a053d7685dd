-- Each expression becomes a form whose `&&`, `||` and `?:` have the tokens of its signs.
use Rattle.std.proofs.Common.{ℕ, ◌+◌, Bool, false, not, ◌&&◌, ◌||◌, if◌then◌else◌, List, [], ◌∷◌, length}
use Rattle.std.specs.Prelude.{Option, Some, None, option_map, codes, bytes_eq, slice_get}
use Rattle.wy_kernel.specs.declared.operator.Primitive.{Primitive}
use Rattle.wy_kernel.specs.declared.operator.BinOp.{BinOp}
use Rattle.wy_kernel.specs.declared.operator.BinOp.TheVariants.{Add, Sub}
use Rattle.wy_kernel.specs.declared.types.Ty.{Ty}
use Rattle.wy_kernel.specs.declared.types.Ty.TheVariants.{Void, Null}
use Rattle.wy_kernel.specs.declared.form.CondForm.TheVariants as cond
use Rattle.wy_kernel.specs.declared.form.LibOp.TheVariants as lib
use Rattle.wy_kernel.specs.Form as kernel
use Rattle.wy_kernel.specs.Subtyping.{class_type}
use Rattle.wy_kernel.specs.Table.{Table, ConstantValue}
use Rattle.wy_tree.specs.Seen.{Tok}
use Rattle.wy_syntax.specs.Syntax.{Expression, Row, none, more, Initial, Value, Listed, Elements, no_more, element}
use Rattle.wy_syntax.specs.Syntax as source
use Rattle.wy_constant.specs.declared.rule.Rule.TheVariants.{BadOperand, BadAssign, NotInStatic, NotOffered}
use Rattle.wy_constant.specs.Scope.{Scope}
use Rattle.wy_constant.specs.Fields.{class_named, field_of}
use Rattle.wy_constant.specs.Constant.{literal}
use Rattle.wy_elab_expr.specs.Meaning.{Meaning, Known, Formed, type_of, Gets, give, refuse, ◌>>=◌, brought, formed}
use Rattle.wy_elab_expr.specs.Operators.{Judgement, is_void, is_text_type, is_assignable}
use Rattle.wy_elab_expr.specs.Members.{Spot, spot, this_form, named_spot, qualified_spot, qualified_name, field_spot, no_field, is_library_name, Nothing, Object, OfClass, Super, text_methods, library_call, some_void}
use Rattle.wy_elab_expr.specs.Elaboration.{type_with, type_written, literal_or_null, literal_meaning, ClassName, class_in, Stream, Input, Output, stream_in, class_methods, is_of_texts, called_on_known, called_on_class, called_on, byte_read, printed_type, is_printed, Printed, printed, is_print, some_printed, print_operand, called_on_stream, above, super_field_named, super_spot, is_index, element_of, element_at, element_spot, sizes_of, with_brackets, assigned_value, assigned, adds_text, updated_in, left_primitive, updated_by, updated, stepped_in, stepped, read, is_an_array, field_target, is_limit, class_target, just, class_for_new, Listing, listing, or_type, is_place, elaborated, elaborated_all, target, elements_of, initialized}
use Rattle.law_structure.proofs.Yields.{Yields, given, refused_found, anything, then_found, of_choice, of_option}
use Rattle.law_structure.proofs.Sound.{Numbers}
use Rattle.law_structure.proofs.Clear.{Clear, ClearRow, ClearMeaning, AllClear, ClearGets, brought_clear, formed_clear, of_form, unary_clear, binary_clear, lazy_clear, choice_clear, cast_clear, instance_clear}
use Rattle.law_structure.proofs.ClearMembers.{ClearSpot, GetsSpot, named_spot_clear, named_clear, qualified_clear, qualified_name_clear, object_clear, field_spot_clear, field_read_clear, called_clear, library_clear, created_clear}

abbrev mutual
  -- S has the tokens of the signs `&&`, `||` and `?` in an expression
  pub Signs : Numbers → Expression → Type 0
  Signs S (source.Literal value token) = Unit {0}
  Signs S (source.Name name token) = Unit {0}
  Signs S (source.This token) = Unit {0}
  Signs S (source.Group inner token) = Signs S inner
  Signs S (source.Invoke name args token) = RowSigns S args
  Signs S (source.Field object name token) = Signs S object
  Signs S (source.InvokeOn object name args token) = Signs S object × RowSigns S args
  Signs S (source.SuperField name token) = Unit {0}
  Signs S (source.SuperInvoke name args token) = RowSigns S args
  Signs S (source.Element array index token) = Signs S array × Signs S index
  Signs S (source.NewObject class args token) = RowSigns S args
  Signs S (source.NewArray base base_token sizes brackets token) = RowSigns S sizes
  Signs S (source.NewList base base_token brackets elements brace token) = ElementSigns S elements
  Signs S (source.Unary op operand token) = Signs S operand
  Signs S (source.Step is_before is_up operand token) = Signs S operand
  Signs S (source.Binary op left right token) = Signs S left × Signs S right
  Signs S (source.Both left right token) = S token × Signs S left × Signs S right
  Signs S (source.Either left right token) = S token × Signs S left × Signs S right
  Signs S (source.InstanceOf left ty token) = Signs S left
  Signs S (source.Cast ty operand token) = Signs S operand
  Signs S (source.Choice test main other token) = S token × Signs S test × Signs S main × Signs S other
  Signs S (source.Assign left value token) = Signs S left × Signs S value
  Signs S (source.Update op left value token) = Signs S left × Signs S value
  Signs S source.Wrong = Unit {0}

  pub RowSigns : Numbers → Row → Type 0
  RowSigns S none = Unit {0}
  RowSigns S (more e rest) = Signs S e × RowSigns S rest

  pub InitialSigns : Numbers → Initial → Type 0
  InitialSigns S (Value e) = Signs S e
  InitialSigns S (Listed elements brace) = ElementSigns S elements

  pub ElementSigns : Numbers → Elements → Type 0
  ElementSigns S no_more = Unit {0}
  ElementSigns S (element before first rest) = InitialSigns S first × ElementSigns S rest

-- ---- literals and calls

literal_clear : (S : Numbers) (value : Tok) (token : ℕ) → ClearGets S (literal_meaning value token)
unfolding literal_meaning
literal_clear S value token = by (literal value)
  where
    by : (c : Option ConstantValue) → ClearGets S (literal_or_null (option_map (λ c. Known c token) c))
    by None = given (ClearMeaning S) (Formed (kernel.Const kernel.Null) Null) tt
    by (Some c) = given (ClearMeaning S) (Known c token) tt

known_call_clear : (S : Numbers) (j : Judgement) (t : Table) (s : Scope) (c : Option ℕ) (name : List ℕ) (arguments : List Meaning) (token : ℕ) → AllClear S arguments → ClearGets S (called_on_known j t s c name arguments token)
known_call_clear S j t s None name arguments token h = refused_found (ClearMeaning S) NotOffered token
known_call_clear S j t s (Some c) name arguments token h = called_clear S j t s OfClass (class_type c) name arguments token tt h

class_call_clear : (S : Numbers) (j : Judgement) (t : Table) (s : Scope) (class : ClassName) (name : List ℕ) (arguments : List Meaning) (token : ℕ) → AllClear S arguments → ClearGets S (called_on_class j t s class name arguments token)
unfolding called_on_class
class_call_clear S j t s class name arguments token h =
    of_choice (is_of_texts class.name name) _ _ (ClearMeaning S) (refused_found (ClearMeaning S) _ token)
    (of_choice (is_library_name class.name || bytes_eq class.name (codes "String")) (library_call j (class_methods class.name) None name arguments token) (called_on_known j t s (class_named t.classes class.name) name arguments token) (ClearMeaning S)
    (library_clear S j (class_methods class.name) None name arguments token tt h) (known_call_clear S j t s (class_named t.classes class.name) name arguments token h))

object_call_clear : (S : Numbers) (j : Judgement) (t : Table) (s : Scope) (m : Meaning) (name : List ℕ) (arguments : List Meaning) (token : ℕ) → ClearMeaning S m → AllClear S arguments → ClearGets S (called_on j t s m name arguments token)
unfolding called_on
object_call_clear S j t s m name arguments token h i =
    of_choice (is_void (type_of m)) (refuse BadOperand token) _ (ClearMeaning S) (refused_found (ClearMeaning S) BadOperand token)
    (of_choice (is_text_type (type_of m)) _ _ (ClearMeaning S)
    (of_form S (formed m) _ (ClearMeaning S) (formed_clear S m h) (λ object k. library_clear S j text_methods (Some object) name arguments token k i))
    (of_form S (formed m) _ (ClearMeaning S) (formed_clear S m h) (λ object k. called_clear S j t s (Object object) (type_of m) name arguments token k i)))

byte_clear : (S : Numbers) (name : List ℕ) (ms : List Meaning) (token : ℕ) → ClearGets S (byte_read name ms token)
byte_clear S name [] token = of_choice (bytes_eq name (codes "read")) _ (refuse NotOffered token) (ClearMeaning S) (given (ClearMeaning S) (Formed (kernel.Lib lib.ReadByte kernel.none token) _) tt) (refused_found (ClearMeaning S) NotOffered token)
byte_clear S name (m ∷ rest) token = refused_found (ClearMeaning S) _ token

-- what is printed
abbrev pub ClearPrinted : Numbers → Option Printed → Type 0
ClearPrinted S None = Unit {0}
ClearPrinted S (Some p) = Clear S p.form

printed_clear : (S : Numbers) (m : Meaning) (token : ℕ) → ClearMeaning S m → Yields (printed m token) (λ p. Clear S p.form)
unfolding printed
printed_clear S m token h =
    of_choice (is_void (type_of m)) (refuse BadOperand token) _ (λ (p : Printed). Clear S p.form) (refused_found (λ (p : Printed). Clear S p.form) BadOperand token)
    (of_choice (is_printed (type_of m)) _ (refuse NotOffered token) (λ (p : Printed). Clear S p.form)
    (of_form S (brought (printed_type (type_of m)) m) _ (λ (p : Printed). Clear S p.form) (brought_clear S (printed_type (type_of m)) m h) (λ e i. given (λ (p : Printed). Clear S p.form) (record { form = e; ty = printed_type (type_of m) }) i))
    (refused_found (λ (p : Printed). Clear S p.form) NotOffered token))

pub operand_clear : (S : Numbers) (name : List ℕ) (ms : List Meaning) (token : ℕ) → AllClear S ms → Yields (print_operand name ms token) (ClearPrinted S)
unfolding print_operand
operand_clear S name [] token h = of_choice (bytes_eq name (codes "println")) (give None) _ (ClearPrinted S) (given (ClearPrinted S) None tt) (refused_found (ClearPrinted S) _ token)
operand_clear S name (m ∷ []) token h =
    of_choice (is_print name) (printed m token >>= some_printed) _ (ClearPrinted S)
    (then_found (printed m token) some_printed (λ p. Clear S p.form) (ClearPrinted S) (printed_clear S m token h.0) (λ p i. given (ClearPrinted S) (Some p) i)) (refused_found (ClearPrinted S) _ token)
operand_clear S name (m ∷ n ∷ rest) token h = refused_found (ClearPrinted S) _ token

stream_clear : (S : Numbers) (x : Stream) (name : List ℕ) (ms : List Meaning) (token : ℕ) → ClearGets S (called_on_stream x name ms token)
stream_clear S Input name ms token = of_choice (some_void ms) (refuse BadOperand token) (byte_read name ms token) (ClearMeaning S) (refused_found (ClearMeaning S) BadOperand token) (byte_clear S name ms token)
stream_clear S Output name ms token = then_found (print_operand name ms token) _ (λ p. Unit {0}) (ClearMeaning S) (anything _) (λ p x. given (ClearMeaning S) (Formed (kernel.Const kernel.Null) Void) tt)

-- ---- variables

super_named_clear : (S : Numbers) (t : Table) (s : Scope) (k : Option ℕ) (token : ℕ) → GetsSpot S (super_field_named t s k token)
super_named_clear S t s None token = refused_found (ClearSpot S) (no_field (above t s)) token
super_named_clear S t s (Some k) token = object_clear S s this_form k (slice_get t.fields k) token tt

super_clear : (S : Numbers) (t : Table) (s : Scope) (name : List ℕ) (token : ℕ) → GetsSpot S (super_spot t s name token)
unfolding super_spot
super_clear S t s name token = of_choice s.has_this (super_field_named t s (field_of t (above t s) name) token) (refuse NotInStatic token) (ClearSpot S) (super_named_clear S t s (field_of t (above t s) name) token) (refused_found (ClearSpot S) NotInStatic token)

element_at_clear : (S : Numbers) (ty : Option Ty) (array index : Meaning) (token : ℕ) → ClearMeaning S array → ClearMeaning S index → GetsSpot S (element_at ty array index token)
element_at_clear S None array index token h i = refused_found (ClearSpot S) BadOperand token
element_at_clear S (Some ty) array index token h i =
    of_choice (is_index (type_of index)) _ (refuse BadOperand token) (ClearSpot S)
    (of_form S (formed array) _ (ClearSpot S) (formed_clear S array h) (λ a ha.
    of_form S (brought _ index) _ (ClearSpot S) (brought_clear S _ index i) (λ x hx. given (ClearSpot S) (spot (kernel.Elem a x token) ty false) (ha, hx))))
    (refused_found (ClearSpot S) BadOperand token)

element_clear : (S : Numbers) (array index : Meaning) (token : ℕ) → ClearMeaning S array → ClearMeaning S index → GetsSpot S (element_spot array index token)
unfolding element_spot
element_clear S array index token h i = element_at_clear S (element_of (type_of array)) array index token h i

sizes_clear : (S : Numbers) (ms : List Meaning) (token : ℕ) → AllClear S ms → Yields (sizes_of ms token) (ClearRow S)
unfolding sizes_of
sizes_clear S [] token h = given (ClearRow S) kernel.none tt
sizes_clear S (m ∷ rest) token h =
    of_choice (is_index (type_of m)) _ (refuse BadOperand token) (ClearRow S)
    (of_form S (brought _ m) _ (ClearRow S) (brought_clear S _ m h.0) (λ e i.
    then_found (sizes_of rest token) _ (ClearRow S) (ClearRow S) (sizes_clear S rest token h.1) (λ es k. given (ClearRow S) (kernel.more e es) (i, k))))
    (refused_found (ClearRow S) BadOperand token)

-- ---- assignment

pub value_clear : (S : Numbers) (j : Judgement) (ty : Ty) (m : Meaning) (token : ℕ) → ClearMeaning S m → Yields (assigned_value j ty m token) (Clear S)
unfolding assigned_value
value_clear S j ty m token h =
    of_choice (is_void (type_of m)) (refuse BadOperand token) _ (Clear S) (refused_found (Clear S) BadOperand token)
    (of_choice (is_assignable j ty m) (brought ty m) (refuse BadAssign token) (Clear S) (brought_clear S ty m h) (refused_found (Clear S) BadAssign token))

abbrev pub ClearTarget : Numbers → Option Spot → Type 0
ClearTarget S None = Unit {0}
ClearTarget S (Some p) = ClearSpot S p

assigned_clear : (S : Numbers) (j : Judgement) (p : Option Spot) (m : Meaning) (token : ℕ) → ClearTarget S p → ClearMeaning S m → ClearGets S (assigned j p m token)
unfolding assigned
assigned_clear S j None m token h i = refused_found (ClearMeaning S) _ token
assigned_clear S j (Some p) m token h i =
    of_choice (p.is_fixed && not (is_void (type_of m))) (refuse BadAssign token) _ (ClearMeaning S) (refused_found (ClearMeaning S) BadAssign token)
    (of_form S (assigned_value j p.ty m token) _ (ClearMeaning S) (value_clear S j p.ty m token i) (λ e k. given (ClearMeaning S) (Formed (kernel.Set p.place e token) p.ty) (h, k)))

updated_in_clear : (S : Numbers) (op : BinOp) (wide : Option Primitive) (p : Spot) (m : Meaning) (token : ℕ) → ClearSpot S p → ClearMeaning S m → ClearGets S (updated_in op wide p m token)
updated_in_clear S op wide p m token h i =
    of_choice p.is_fixed (refuse BadAssign token) _ (ClearMeaning S) (refused_found (ClearMeaning S) BadAssign token)
    (of_form S (formed m) _ (ClearMeaning S) (formed_clear S m i) (λ e k. given (ClearMeaning S) (Formed (kernel.Upd p.place op (kernel.the e) (type_of m) p.ty wide false token) p.ty) (h, k)))

updated_by_clear : (S : Numbers) (q : Option Primitive) (op : BinOp) (p : Spot) (m : Meaning) (token : ℕ) → ClearSpot S p → ClearMeaning S m → ClearGets S (updated_by q op p m token)
updated_by_clear S None op p m token h i = refused_found (ClearMeaning S) BadOperand token
updated_by_clear S (Some q) op p m token h i = updated_in_clear S op (Some q) p m token h i

updated_clear : (S : Numbers) (j : Judgement) (t : Table) (op : BinOp) (p : Option Spot) (m : Meaning) (token : ℕ) → ClearTarget S p → ClearMeaning S m → ClearGets S (updated j t op p m token)
unfolding updated
updated_clear S j t op None m token h i = refused_found (ClearMeaning S) _ token
updated_clear S j t op (Some p) m token h i =
    of_choice (is_void (type_of m)) (refuse BadOperand token) _ (ClearMeaning S) (refused_found (ClearMeaning S) BadOperand token)
    (of_choice (adds_text op p.ty (type_of m)) (updated_in op None p m token) (updated_by (left_primitive j t op p.ty (type_of m)) op p m token) (ClearMeaning S)
    (updated_in_clear S op None p m token h i) (updated_by_clear S (left_primitive j t op p.ty (type_of m)) op p m token h i))

stepped_in_clear : (S : Numbers) (wide : Option Primitive) (op : BinOp) (gives_old : Bool) (p : Spot) (token : ℕ) → ClearSpot S p → ClearGets S (stepped_in wide op gives_old p token)
stepped_in_clear S None op gives_old p token h = refused_found (ClearMeaning S) BadOperand token
stepped_in_clear S (Some wide) op gives_old p token h =
    of_choice p.is_fixed (refuse BadAssign token) _ (ClearMeaning S) (refused_found (ClearMeaning S) BadAssign token)
    (given (ClearMeaning S) (Formed (kernel.Upd p.place op kernel.absent _ p.ty (Some wide) gives_old token) p.ty) (h, tt))

stepped_clear : (S : Numbers) (is_before is_up : Bool) (p : Option Spot) (token : ℕ) → ClearTarget S p → ClearGets S (stepped is_before is_up p token)
unfolding stepped
stepped_clear S is_before is_up None token h = refused_found (ClearMeaning S) BadOperand token
stepped_clear S is_before is_up (Some p) token h = stepped_in_clear S _ (if is_up then Add else Sub) (not is_before) p token h

just_clear : (S : Numbers) (f : Gets Spot) → GetsSpot S f → Yields (just f) (ClearTarget S)
just_clear S f h = then_found f (λ p. give (Some p)) (ClearSpot S) (ClearTarget S) h (λ p i. given (ClearTarget S) (Some p) i)

field_target_clear : (S : Numbers) (t : Table) (s : Scope) (m : Meaning) (name : List ℕ) (token : ℕ) → ClearMeaning S m → Yields (field_target t s m name token) (ClearTarget S)
unfolding field_target
field_target_clear S t s m name token h =
    of_choice (is_an_array (type_of m) && bytes_eq name (codes "length")) (give None) _ (ClearTarget S) (given (ClearTarget S) None tt) (just_clear S (field_spot t s m (type_of m) name token) (field_spot_clear S t s m (type_of m) name token h))

class_target_clear : (S : Numbers) (t : Table) (s : Scope) (c : ClassName) (name : List ℕ) (token : ℕ) → Yields (class_target t s c name token) (ClearTarget S)
unfolding class_target
class_target_clear S t s c name token =
    of_choice (is_limit c.name name) (give None) _ (ClearTarget S) (given (ClearTarget S) None tt) (just_clear S (qualified_spot t s c.name name c.token token) (qualified_clear S t s c.name name c.token token))

read_spot_clear : (S : Numbers) (f : Gets Spot) → GetsSpot S f → ClearGets S (f >>= λ p. give (read p))
read_spot_clear S f h = then_found f (λ p. give (read p)) (ClearSpot S) (ClearMeaning S) h (λ p i. given (ClearMeaning S) (read p) i)

abbrev pub ClearListing : Numbers → Listing → Type 0
ClearListing S l = ClearRow S l.forms

mutual
  unfolding elaborated elaborated_all target elements_of initialized

  pub expression_clear : (S : Numbers) (j : Judgement) (t : Table) (s : Scope) (e : Expression) → Signs S e → ClearGets S (elaborated j t s e)
  expression_clear S j t s (source.Literal value token) h = literal_clear S value token
  expression_clear S j t s (source.Name name token) h = named_clear S t s name token
  expression_clear S j t s (source.This token) h = of_choice s.has_this (give (Formed this_form (class_type s.class))) (refuse NotInStatic token) (ClearMeaning S) (given (ClearMeaning S) (Formed this_form (class_type s.class)) tt) (refused_found (ClearMeaning S) NotInStatic token)
  expression_clear S j t s (source.Group inner token) h = expression_clear S j t s inner h
  expression_clear S j t s (source.Invoke name args token) h =
      then_found (elaborated_all j t s args) _ (AllClear S) (ClearMeaning S) (all_clear S j t s args h) (λ ms i. called_clear S j t s Nothing (class_type s.class) name ms token tt i)
  expression_clear S j t s (source.Field object name token) h =
      of_option (ClearMeaning S) (class_in t s object) (λ c. qualified_name t s c.name name c.token token) _ (λ c. qualified_name_clear S t s c.name name c.token token)
      (then_found (elaborated j t s object) _ (ClearMeaning S) (ClearMeaning S) (expression_clear S j t s object h) (λ m i. field_read_clear S t s m name token i))
  expression_clear S j t s (source.InvokeOn object name args token) h =
      of_option (ClearMeaning S) (stream_in t s object) (λ x. elaborated_all j t s args >>= λ ms. called_on_stream x name ms token) _
      (λ x. then_found (elaborated_all j t s args) _ (AllClear S) (ClearMeaning S) (all_clear S j t s args h.1) (λ ms i. stream_clear S x name ms token))
      (of_option (ClearMeaning S) (class_in t s object) (λ c. elaborated_all j t s args >>= λ ms. called_on_class j t s c name ms token) _
      (λ c. then_found (elaborated_all j t s args) _ (AllClear S) (ClearMeaning S) (all_clear S j t s args h.1) (λ ms i. class_call_clear S j t s c name ms token i))
      (then_found (elaborated j t s object) _ (ClearMeaning S) (ClearMeaning S) (expression_clear S j t s object h.0) (λ m hm.
      then_found (elaborated_all j t s args) _ (AllClear S) (ClearMeaning S) (all_clear S j t s args h.1) (λ ms i. object_call_clear S j t s m name ms token hm i))))
  expression_clear S j t s (source.SuperField name token) h = read_spot_clear S (super_spot t s name token) (super_clear S t s name token)
  expression_clear S j t s (source.SuperInvoke name args token) h =
      then_found (elaborated_all j t s args) _ (AllClear S) (ClearMeaning S) (all_clear S j t s args h) (λ ms i. called_clear S j t s Super (class_type (above t s)) name ms token tt i)
  expression_clear S j t s (source.Element array index token) h =
      then_found (elaborated j t s array) _ (ClearMeaning S) (ClearMeaning S) (expression_clear S j t s array h.0) (λ a ha.
      then_found (elaborated j t s index) _ (ClearMeaning S) (ClearMeaning S) (expression_clear S j t s index h.1) (λ i hi. read_spot_clear S (element_spot a i token) (element_clear S a i token ha hi)))
  expression_clear S j t s (source.NewObject class args token) h =
      then_found (class_for_new (class_named t.classes class.name) class.token) _ (λ c. Unit {0}) (ClearMeaning S) (anything _) (λ c x.
      then_found (elaborated_all j t s args) _ (AllClear S) (ClearMeaning S) (all_clear S j t s args h) (λ ms i. created_clear S j t s c ms token i))
  expression_clear S j t s (source.NewArray base base_token sizes brackets token) h =
      then_found (type_with t base 0 base_token) _ (λ ty. Unit {0}) (ClearMeaning S) (anything _) (λ ty x.
      then_found (elaborated_all j t s sizes) _ (AllClear S) (ClearMeaning S) (all_clear S j t s sizes h) (λ ms i.
      then_found (sizes_of ms token) _ (ClearRow S) (ClearMeaning S) (sizes_clear S ms token i) (λ dims k.
      given (ClearMeaning S) (Formed (kernel.NewArray (with_brackets ty (length ms + brackets)) dims kernel.none [] token) (with_brackets ty (length ms + brackets))) (k, tt))))
  expression_clear S j t s (source.NewList base base_token brackets elements brace token) h =
      then_found (type_with t base brackets base_token) _ (λ ty. Unit {0}) (ClearMeaning S) (anything _) (λ ty x.
      then_found (or_type (element_of ty) brace) _ (λ inner. Unit {0}) (ClearMeaning S) (anything _) (λ inner y.
      then_found (elements_of j t s inner elements) _ (ClearListing S) (ClearMeaning S) (elements_clear S j t s inner elements h) (λ all k.
      given (ClearMeaning S) (Formed (kernel.NewArray ty kernel.none all.forms all.sites token) ty) (tt, k))))
  expression_clear S j t s (source.Unary op operand token) h =
      then_found (elaborated j t s operand) _ (ClearMeaning S) (ClearMeaning S) (expression_clear S j t s operand h) (λ m i. unary_clear S op m token i)
  expression_clear S j t s (source.Step is_before is_up operand token) h =
      then_found (if is_place operand then target j t s operand else elaborated j t s operand >>= λ m. give None) _ (ClearTarget S) (ClearMeaning S)
      (of_choice (is_place operand) (target j t s operand) (elaborated j t s operand >>= λ m. give None) (ClearTarget S) (target_clear S j t s operand h)
      (then_found (elaborated j t s operand) (λ m. give None) (λ m. Unit {0}) (ClearTarget S) (anything _) (λ m x. given (ClearTarget S) None tt)))
      (λ p i. stepped_clear S is_before is_up p token i)
  expression_clear S j t s (source.Binary op left right token) h =
      then_found (elaborated j t s left) _ (ClearMeaning S) (ClearMeaning S) (expression_clear S j t s left h.0) (λ a ha.
      then_found (elaborated j t s right) _ (ClearMeaning S) (ClearMeaning S) (expression_clear S j t s right h.1) (λ b hb. binary_clear S j t op a b token ha hb))
  expression_clear S j t s (source.Both left right token) h =
      then_found (elaborated j t s left) _ (ClearMeaning S) (ClearMeaning S) (expression_clear S j t s left h.1) (λ a ha.
      then_found (elaborated j t s right) _ (ClearMeaning S) (ClearMeaning S) (expression_clear S j t s right h.2) (λ b hb. lazy_clear S cond.And (λ p q. p && q) a b token h.0 ha hb))
  expression_clear S j t s (source.Either left right token) h =
      then_found (elaborated j t s left) _ (ClearMeaning S) (ClearMeaning S) (expression_clear S j t s left h.1) (λ a ha.
      then_found (elaborated j t s right) _ (ClearMeaning S) (ClearMeaning S) (expression_clear S j t s right h.2) (λ b hb. lazy_clear S cond.Or (λ p q. p || q) a b token h.0 ha hb))
  expression_clear S j t s (source.InstanceOf left ty token) h =
      then_found (elaborated j t s left) _ (ClearMeaning S) (ClearMeaning S) (expression_clear S j t s left h) (λ m i.
      then_found (type_written t ty) _ (λ to. Unit {0}) (ClearMeaning S) (anything _) (λ to x. instance_clear S j t to m token i))
  expression_clear S j t s (source.Cast ty operand token) h =
      then_found (type_written t ty) _ (λ to. Unit {0}) (ClearMeaning S) (anything _) (λ to x.
      then_found (elaborated j t s operand) _ (ClearMeaning S) (ClearMeaning S) (expression_clear S j t s operand h) (λ m i. cast_clear S j t to m token i))
  expression_clear S j t s (source.Choice test main other token) h =
      then_found (elaborated j t s test) _ (ClearMeaning S) (ClearMeaning S) (expression_clear S j t s test h.1) (λ z hz.
      then_found (elaborated j t s main) _ (ClearMeaning S) (ClearMeaning S) (expression_clear S j t s main h.2) (λ a ha.
      then_found (elaborated j t s other) _ (ClearMeaning S) (ClearMeaning S) (expression_clear S j t s other h.3) (λ b hb. choice_clear S j t z a b token h.0 hz ha hb)))
  expression_clear S j t s (source.Assign left value token) h =
      then_found (target j t s left) _ (ClearTarget S) (ClearMeaning S) (target_clear S j t s left h.0) (λ p i.
      then_found (elaborated j t s value) _ (ClearMeaning S) (ClearMeaning S) (expression_clear S j t s value h.1) (λ m k. assigned_clear S j p m token i k))
  expression_clear S j t s (source.Update op left value token) h =
      then_found (target j t s left) _ (ClearTarget S) (ClearMeaning S) (target_clear S j t s left h.0) (λ p i.
      then_found (elaborated j t s value) _ (ClearMeaning S) (ClearMeaning S) (expression_clear S j t s value h.1) (λ m k. updated_clear S j t op p m token i k))
  expression_clear S j t s source.Wrong h = refused_found (ClearMeaning S) BadOperand 0

  pub all_clear : (S : Numbers) (j : Judgement) (t : Table) (s : Scope) (es : Row) → RowSigns S es → Yields (elaborated_all j t s es) (AllClear S)
  all_clear S j t s none h = given (AllClear S) [] tt
  all_clear S j t s (more e rest) h =
      then_found (elaborated j t s e) _ (ClearMeaning S) (AllClear S) (expression_clear S j t s e h.0) (λ m i.
      then_found (elaborated_all j t s rest) _ (AllClear S) (AllClear S) (all_clear S j t s rest h.1) (λ ms k. given (AllClear S) (m ∷ ms) (i, k)))

  target_clear : (S : Numbers) (j : Judgement) (t : Table) (s : Scope) (e : Expression) → Signs S e → Yields (target j t s e) (ClearTarget S)
  target_clear S j t s (source.Name name token) h = just_clear S (named_spot t s name token) (named_spot_clear S t s name token)
  target_clear S j t s (source.Group inner token) h = target_clear S j t s inner h
  target_clear S j t s (source.Field object name token) h =
      of_option (ClearTarget S) (class_in t s object) (λ c. class_target t s c name token) _ (λ c. class_target_clear S t s c name token)
      (then_found (elaborated j t s object) _ (ClearMeaning S) (ClearTarget S) (expression_clear S j t s object h) (λ m i. field_target_clear S t s m name token i))
  target_clear S j t s (source.SuperField name token) h = just_clear S (super_spot t s name token) (super_clear S t s name token)
  target_clear S j t s (source.Element array index token) h =
      then_found (elaborated j t s array) _ (ClearMeaning S) (ClearTarget S) (expression_clear S j t s array h.0) (λ a ha.
      then_found (elaborated j t s index) _ (ClearMeaning S) (ClearTarget S) (expression_clear S j t s index h.1) (λ i hi. just_clear S (element_spot a i token) (element_clear S a i token ha hi)))
  target_clear S j t s e h = given (ClearTarget S) None tt

  elements_clear : (S : Numbers) (j : Judgement) (t : Table) (s : Scope) (ty : Ty) (es : Elements) → ElementSigns S es → Yields (elements_of j t s ty es) (ClearListing S)
  elements_clear S j t s ty no_more h = given (ClearListing S) (listing kernel.none []) tt
  elements_clear S j t s ty (element before first rest) h =
      then_found (initialized j t s ty first before) _ (Clear S) (ClearListing S) (initial_clear S j t s ty first before h.0) (λ e i.
      then_found (elements_of j t s ty rest) _ (ClearListing S) (ClearListing S) (elements_clear S j t s ty rest h.1) (λ all k.
      given (ClearListing S) (listing (kernel.more e all.forms) (before ∷ all.sites)) (i, k)))

  pub initial_clear : (S : Numbers) (j : Judgement) (t : Table) (s : Scope) (ty : Ty) (i : Initial) (token : ℕ) → InitialSigns S i → Yields (initialized j t s ty i token) (Clear S)
  initial_clear S j t s ty (Value e) token h = then_found (elaborated j t s e) _ (ClearMeaning S) (Clear S) (expression_clear S j t s e h) (λ m i. value_clear S j ty m token i)
  initial_clear S j t s ty (Listed elements brace) token h =
      then_found (or_type (element_of ty) brace) _ (λ inner. Unit {0}) (Clear S) (anything _) (λ inner x.
      then_found (elements_of j t s inner elements) _ (ClearListing S) (Clear S) (elements_clear S j t s inner elements h) (λ all k.
      given (Clear S) (kernel.NewArray ty kernel.none all.forms all.sites brace) (tt, k)))
