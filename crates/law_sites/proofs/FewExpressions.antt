-- Each expression becomes a form that has no more `&&`, `||` and `?:` of a site than the expression has signs there.
use Rattle.std.proofs.Common.{ℕ, ◌+◌, Bool, false, not, ◌&&◌, ◌||◌, if◌then◌else◌, List, [], ◌∷◌, ◌++◌, length}
use Rattle.std.specs.Prelude.{Option, Some, None, option_map, codes, bytes_eq, slice_get}
use Rattle.wy_kernel.specs.declared.operator.Primitive.{Primitive}
use Rattle.wy_kernel.specs.declared.operator.BinOp.{BinOp}
use Rattle.wy_kernel.specs.declared.operator.BinOp.TheVariants.{Add, Sub}
use Rattle.wy_kernel.specs.declared.types.Ty.{Ty}
use Rattle.wy_kernel.specs.declared.types.Ty.TheVariants.{Void, Null}
use Rattle.wy_kernel.specs.declared.form.CondForm.TheVariants as cond
use Rattle.wy_kernel.specs.declared.form.LibOp.TheVariants as lib
use Rattle.wy_kernel.specs.Form as kernel
use Rattle.wy_kernel.specs.Subtyping.{class_type}
use Rattle.wy_kernel.specs.Table.{Table, ConstantValue}
use Rattle.wy_tree.specs.Seen.{Tok}
use Rattle.wy_syntax.specs.Syntax.{Expression, Row, none, more, Initial, Value, Listed, Elements, no_more, element}
use Rattle.wy_syntax.specs.Syntax as source
use Rattle.wy_constant.specs.declared.rule.Rule.TheVariants.{BadOperand, BadAssign, NotInStatic, NotOffered}
use Rattle.wy_constant.specs.Scope.{Scope}
use Rattle.wy_constant.specs.Fields.{class_named, field_of}
use Rattle.wy_constant.specs.Constant.{literal}
use Rattle.wy_elab_expr.specs.Meaning.{Meaning, Known, Formed, type_of, Gets, give, refuse, ◌>>=◌, brought, formed}
use Rattle.wy_elab_expr.specs.Operators.{Judgement, is_void, is_text_type, is_assignable}
use Rattle.wy_elab_expr.specs.Members.{Spot, spot, this_form, named_spot, qualified_spot, qualified_name, field_spot, no_field, is_library_name, Nothing, Object, OfClass, Super, text_methods, library_call, some_void}
use Rattle.wy_elab_expr.specs.Elaboration.{type_with, type_written, literal_or_null, literal_meaning, ClassName, class_in, Stream, Input, Output, stream_in, class_methods, is_of_texts, called_on_known, called_on_class, called_on, byte_read, printed_type, is_printed, Printed, printed, is_print, some_printed, print_operand, called_on_stream, above, super_field_named, super_spot, is_index, element_of, element_at, element_spot, sizes_of, with_brackets, assigned_value, assigned, adds_text, updated_in, left_primitive, updated_by, updated, stepped_in, stepped, read, is_an_array, field_target, is_limit, class_target, just, class_for_new, Listing, listing, or_type, is_place, elaborated, elaborated_all, target, elements_of, initialized}
use Rattle.law_structure.proofs.Yields.{Yields, given, refused_found, anything, then_found, of_choice, of_option}
use Rattle.law_sites.proofs.Fewer.{few_same, few_none, few_then, few_both, few_right, few_behind, few_alone}
use Rattle.law_sites.proofs.FewForms.{Few, FewRow, sites_found, all_sites, FewMeaning, AllFew, FewGets, brought_few, formed_few, of_form, unary_few, binary_few, lazy_few, choice_few, cast_few, instance_few}
use Rattle.law_sites.proofs.FewMembers.{FewSpot, SpotFew, named_spot_few, named_few, qualified_few, qualified_name_few, object_few, field_spot_few, field_read_few, called_few, library_few, created_few}

abbrev mutual
  -- the tokens of the signs `&&`, `||` and `?` in an expression, in the order of the text
  pub signs : Expression → List ℕ
  signs (source.Literal value token) = []
  signs (source.Name name token) = []
  signs (source.This token) = []
  signs (source.Group inner token) = signs inner
  signs (source.Invoke name args token) = row_signs args
  signs (source.Field object name token) = signs object
  signs (source.InvokeOn object name args token) = signs object ++ row_signs args
  signs (source.SuperField name token) = []
  signs (source.SuperInvoke name args token) = row_signs args
  signs (source.Element array index token) = signs array ++ signs index
  signs (source.NewObject class args token) = row_signs args
  signs (source.NewArray base base_token sizes brackets token) = row_signs sizes
  signs (source.NewList base base_token brackets elements brace token) = element_signs elements
  signs (source.Unary op operand token) = signs operand
  signs (source.Step is_before is_up operand token) = signs operand
  signs (source.Binary op left right token) = signs left ++ signs right
  signs (source.Both left right token) = signs left ++ token ∷ signs right
  signs (source.Either left right token) = signs left ++ token ∷ signs right
  signs (source.InstanceOf left ty token) = signs left
  signs (source.Cast ty operand token) = signs operand
  signs (source.Choice test main other token) = signs test ++ token ∷ (signs main ++ signs other)
  signs (source.Assign left value token) = signs left ++ signs value
  signs (source.Update op left value token) = signs left ++ signs value
  signs source.Wrong = []

  pub row_signs : Row → List ℕ
  row_signs none = []
  row_signs (more e rest) = signs e ++ row_signs rest

  pub initial_signs : Initial → List ℕ
  initial_signs (Value e) = signs e
  initial_signs (Listed elements brace) = element_signs elements

  pub element_signs : Elements → List ℕ
  element_signs no_more = []
  element_signs (element before first rest) = initial_signs first ++ element_signs rest

-- ---- literals and calls

literal_few : (ks : List ℕ) (value : Tok) (token : ℕ) → FewGets ks (literal_meaning value token)
unfolding literal_meaning
literal_few ks value token = by (literal value)
  where
    by : (c : Option ConstantValue) → FewGets ks (literal_or_null (option_map (λ c. Known c token) c))
    by None = given (FewMeaning ks) (Formed (kernel.Const kernel.Null) Null) (few_none ks)
    by (Some c) = given (FewMeaning ks) (Known c token) (few_none ks)

known_call_few : (ks : List ℕ) (j : Judgement) (t : Table) (s : Scope) (c : Option ℕ) (name : List ℕ) (arguments : List Meaning) (token : ℕ) → AllFew ks arguments → FewGets ks (called_on_known j t s c name arguments token)
known_call_few ks j t s None name arguments token h = refused_found (FewMeaning ks) NotOffered token
known_call_few ks j t s (Some c) name arguments token h = called_few [] ks j t s OfClass (class_type c) name arguments token (few_none []) h

class_call_few : (ks : List ℕ) (j : Judgement) (t : Table) (s : Scope) (class : ClassName) (name : List ℕ) (arguments : List Meaning) (token : ℕ) → AllFew ks arguments → FewGets ks (called_on_class j t s class name arguments token)
unfolding called_on_class
class_call_few ks j t s class name arguments token h =
    of_choice (is_of_texts class.name name) _ _ (FewMeaning ks) (refused_found (FewMeaning ks) _ token)
    (of_choice (is_library_name class.name || bytes_eq class.name (codes "String")) (library_call j (class_methods class.name) None name arguments token) (called_on_known j t s (class_named t.classes class.name) name arguments token) (FewMeaning ks)
    (library_few [] ks j (class_methods class.name) None name arguments token tt h) (known_call_few ks j t s (class_named t.classes class.name) name arguments token h))

object_call_few : (ks ls : List ℕ) (j : Judgement) (t : Table) (s : Scope) (m : Meaning) (name : List ℕ) (arguments : List Meaning) (token : ℕ) → FewMeaning ks m → AllFew ls arguments → FewGets (ks ++ ls) (called_on j t s m name arguments token)
unfolding called_on
object_call_few ks ls j t s m name arguments token h i =
    let P : Meaning → Type 0 = FewMeaning (ks ++ ls) in
    of_choice (is_void (type_of m)) (refuse BadOperand token) _ P (refused_found P BadOperand token)
    (of_choice (is_text_type (type_of m)) _ _ P
    (of_form ks (formed m) _ P (formed_few ks m h) (λ object k. library_few ks ls j text_methods (Some object) name arguments token k i))
    (of_form ks (formed m) _ P (formed_few ks m h) (λ object k. called_few ks ls j t s (Object object) (type_of m) name arguments token k i)))

byte_few : (ks : List ℕ) (name : List ℕ) (ms : List Meaning) (token : ℕ) → FewGets ks (byte_read name ms token)
byte_few ks name [] token = of_choice (bytes_eq name (codes "read")) _ (refuse NotOffered token) (FewMeaning ks) (given (FewMeaning ks) (Formed (kernel.Lib lib.ReadByte kernel.none token) _) (few_none ks)) (refused_found (FewMeaning ks) NotOffered token)
byte_few ks name (m ∷ rest) token = refused_found (FewMeaning ks) _ token

-- what is printed
abbrev pub FewPrinted : List ℕ → Option Printed → Type 0
FewPrinted ks None = Unit {0}
FewPrinted ks (Some p) = Few ks p.form

printed_few : (ks : List ℕ) (m : Meaning) (token : ℕ) → FewMeaning ks m → Yields (printed m token) (λ p. Few ks p.form)
unfolding printed
printed_few ks m token h =
    of_choice (is_void (type_of m)) (refuse BadOperand token) _ (λ (p : Printed). Few ks p.form) (refused_found (λ (p : Printed). Few ks p.form) BadOperand token)
    (of_choice (is_printed (type_of m)) _ (refuse NotOffered token) (λ (p : Printed). Few ks p.form)
    (of_form ks (brought (printed_type (type_of m)) m) _ (λ (p : Printed). Few ks p.form) (brought_few ks (printed_type (type_of m)) m h) (λ e i. given (λ (p : Printed). Few ks p.form) (record { form = e; ty = printed_type (type_of m) }) i))
    (refused_found (λ (p : Printed). Few ks p.form) NotOffered token))

pub operand_few : (ks : List ℕ) (name : List ℕ) (ms : List Meaning) (token : ℕ) → AllFew ks ms → Yields (print_operand name ms token) (FewPrinted ks)
unfolding print_operand
operand_few ks name [] token h = of_choice (bytes_eq name (codes "println")) (give None) _ (FewPrinted ks) (given (FewPrinted ks) None tt) (refused_found (FewPrinted ks) _ token)
operand_few ks name (m ∷ []) token h =
    of_choice (is_print name) (printed m token >>= some_printed) _ (FewPrinted ks)
    (then_found (printed m token) some_printed (λ p. Few ks p.form) (FewPrinted ks) (printed_few ks m token (few_alone h)) (λ p i. given (FewPrinted ks) (Some p) i)) (refused_found (FewPrinted ks) _ token)
operand_few ks name (m ∷ n ∷ rest) token h = refused_found (FewPrinted ks) _ token

stream_few : (ks : List ℕ) (x : Stream) (name : List ℕ) (ms : List Meaning) (token : ℕ) → FewGets ks (called_on_stream x name ms token)
stream_few ks Input name ms token = of_choice (some_void ms) (refuse BadOperand token) (byte_read name ms token) (FewMeaning ks) (refused_found (FewMeaning ks) BadOperand token) (byte_few ks name ms token)
stream_few ks Output name ms token = then_found (print_operand name ms token) _ (λ p. Unit {0}) (FewMeaning ks) (anything _) (λ p x. given (FewMeaning ks) (Formed (kernel.Const kernel.Null) Void) (few_none ks))

-- ---- variables

super_named_few : (ks : List ℕ) (t : Table) (s : Scope) (k : Option ℕ) (token : ℕ) → SpotFew ks (super_field_named t s k token)
super_named_few ks t s None token = refused_found (FewSpot ks) (no_field (above t s)) token
super_named_few ks t s (Some k) token = object_few ks s this_form k (slice_get t.fields k) token (few_none ks)

super_few : (ks : List ℕ) (t : Table) (s : Scope) (name : List ℕ) (token : ℕ) → SpotFew ks (super_spot t s name token)
unfolding super_spot
super_few ks t s name token = of_choice s.has_this (super_field_named t s (field_of t (above t s) name) token) (refuse NotInStatic token) (FewSpot ks) (super_named_few ks t s (field_of t (above t s) name) token) (refused_found (FewSpot ks) NotInStatic token)

element_at_few : (ks ls : List ℕ) (ty : Option Ty) (array index : Meaning) (token : ℕ) → FewMeaning ks array → FewMeaning ls index → SpotFew (ks ++ ls) (element_at ty array index token)
element_at_few ks ls None array index token h i = refused_found (FewSpot (ks ++ ls)) BadOperand token
element_at_few ks ls (Some ty) array index token h i =
    of_choice (is_index (type_of index)) _ (refuse BadOperand token) (FewSpot (ks ++ ls))
    (of_form ks (formed array) _ (FewSpot (ks ++ ls)) (formed_few ks array h) (λ a ha.
    of_form ls (brought _ index) _ (FewSpot (ks ++ ls)) (brought_few ls _ index i) (λ x hx. given (FewSpot (ks ++ ls)) (spot (kernel.Elem a x token) ty false) (few_both ha hx))))
    (refused_found (FewSpot (ks ++ ls)) BadOperand token)

element_few : (ks ls : List ℕ) (array index : Meaning) (token : ℕ) → FewMeaning ks array → FewMeaning ls index → SpotFew (ks ++ ls) (element_spot array index token)
unfolding element_spot
element_few ks ls array index token h i = element_at_few ks ls (element_of (type_of array)) array index token h i

sizes_few : (ms : List Meaning) (token : ℕ) → Yields (sizes_of ms token) (FewRow (all_sites ms))
unfolding sizes_of
sizes_few [] token = given (FewRow []) kernel.none (few_none [])
sizes_few (m ∷ rest) token =
    let P : kernel.Row → Type 0 = FewRow (sites_found m ++ all_sites rest) in
    of_choice (is_index (type_of m)) _ (refuse BadOperand token) P
    (of_form (sites_found m) (brought _ m) _ P (brought_few (sites_found m) _ m (few_same (sites_found m))) (λ e i.
    then_found (sizes_of rest token) _ (FewRow (all_sites rest)) P (sizes_few rest token) (λ es k. given P (kernel.more e es) (few_both i k))))
    (refused_found P BadOperand token)

-- ---- assignment

pub value_few : (ks : List ℕ) (j : Judgement) (ty : Ty) (m : Meaning) (token : ℕ) → FewMeaning ks m → Yields (assigned_value j ty m token) (Few ks)
unfolding assigned_value
value_few ks j ty m token h =
    of_choice (is_void (type_of m)) (refuse BadOperand token) _ (Few ks) (refused_found (Few ks) BadOperand token)
    (of_choice (is_assignable j ty m) (brought ty m) (refuse BadAssign token) (Few ks) (brought_few ks ty m h) (refused_found (Few ks) BadAssign token))

abbrev pub FewTarget : List ℕ → Option Spot → Type 0
FewTarget ks None = Unit {0}
FewTarget ks (Some p) = FewSpot ks p

assigned_few : (ks ls : List ℕ) (j : Judgement) (p : Option Spot) (m : Meaning) (token : ℕ) → FewTarget ks p → FewMeaning ls m → FewGets (ks ++ ls) (assigned j p m token)
unfolding assigned
assigned_few ks ls j None m token h i = refused_found (FewMeaning (ks ++ ls)) _ token
assigned_few ks ls j (Some p) m token h i =
    of_choice (p.is_fixed && not (is_void (type_of m))) (refuse BadAssign token) _ (FewMeaning (ks ++ ls)) (refused_found (FewMeaning (ks ++ ls)) BadAssign token)
    (of_form ls (assigned_value j p.ty m token) _ (FewMeaning (ks ++ ls)) (value_few ls j p.ty m token i) (λ e k. given (FewMeaning (ks ++ ls)) (Formed (kernel.Set p.place e token) p.ty) (few_both h k)))

updated_in_few : (ks ls : List ℕ) (op : BinOp) (wide : Option Primitive) (p : Spot) (m : Meaning) (token : ℕ) → FewSpot ks p → FewMeaning ls m → FewGets (ks ++ ls) (updated_in op wide p m token)
updated_in_few ks ls op wide p m token h i =
    of_choice p.is_fixed (refuse BadAssign token) _ (FewMeaning (ks ++ ls)) (refused_found (FewMeaning (ks ++ ls)) BadAssign token)
    (of_form ls (formed m) _ (FewMeaning (ks ++ ls)) (formed_few ls m i) (λ e k. given (FewMeaning (ks ++ ls)) (Formed (kernel.Upd p.place op (kernel.the e) (type_of m) p.ty wide false token) p.ty) (few_both h k)))

updated_by_few : (ks ls : List ℕ) (q : Option Primitive) (op : BinOp) (p : Spot) (m : Meaning) (token : ℕ) → FewSpot ks p → FewMeaning ls m → FewGets (ks ++ ls) (updated_by q op p m token)
updated_by_few ks ls None op p m token h i = refused_found (FewMeaning (ks ++ ls)) BadOperand token
updated_by_few ks ls (Some q) op p m token h i = updated_in_few ks ls op (Some q) p m token h i

updated_few : (ks ls : List ℕ) (j : Judgement) (t : Table) (op : BinOp) (p : Option Spot) (m : Meaning) (token : ℕ) → FewTarget ks p → FewMeaning ls m → FewGets (ks ++ ls) (updated j t op p m token)
unfolding updated
updated_few ks ls j t op None m token h i = refused_found (FewMeaning (ks ++ ls)) _ token
updated_few ks ls j t op (Some p) m token h i =
    of_choice (is_void (type_of m)) (refuse BadOperand token) _ (FewMeaning (ks ++ ls)) (refused_found (FewMeaning (ks ++ ls)) BadOperand token)
    (of_choice (adds_text op p.ty (type_of m)) (updated_in op None p m token) (updated_by (left_primitive j t op p.ty (type_of m)) op p m token) (FewMeaning (ks ++ ls))
    (updated_in_few ks ls op None p m token h i) (updated_by_few ks ls (left_primitive j t op p.ty (type_of m)) op p m token h i))

stepped_in_few : (ks : List ℕ) (wide : Option Primitive) (op : BinOp) (gives_old : Bool) (p : Spot) (token : ℕ) → FewSpot ks p → FewGets ks (stepped_in wide op gives_old p token)
stepped_in_few ks None op gives_old p token h = refused_found (FewMeaning ks) BadOperand token
stepped_in_few ks (Some wide) op gives_old p token h =
    of_choice p.is_fixed (refuse BadAssign token) _ (FewMeaning ks) (refused_found (FewMeaning ks) BadAssign token)
    (given (FewMeaning ks) (Formed (kernel.Upd p.place op kernel.absent _ p.ty (Some wide) gives_old token) p.ty) (few_behind h))

stepped_few : (ks : List ℕ) (is_before is_up : Bool) (p : Option Spot) (token : ℕ) → FewTarget ks p → FewGets ks (stepped is_before is_up p token)
unfolding stepped
stepped_few ks is_before is_up None token h = refused_found (FewMeaning ks) BadOperand token
stepped_few ks is_before is_up (Some p) token h = stepped_in_few ks _ (if is_up then Add else Sub) (not is_before) p token h

just_few : (ks : List ℕ) (f : Gets Spot) → SpotFew ks f → Yields (just f) (FewTarget ks)
just_few ks f h = then_found f (λ p. give (Some p)) (FewSpot ks) (FewTarget ks) h (λ p i. given (FewTarget ks) (Some p) i)

field_target_few : (ks : List ℕ) (t : Table) (s : Scope) (m : Meaning) (name : List ℕ) (token : ℕ) → FewMeaning ks m → Yields (field_target t s m name token) (FewTarget ks)
unfolding field_target
field_target_few ks t s m name token h =
    of_choice (is_an_array (type_of m) && bytes_eq name (codes "length")) (give None) _ (FewTarget ks) (given (FewTarget ks) None tt) (just_few ks (field_spot t s m (type_of m) name token) (field_spot_few ks t s m (type_of m) name token h))

class_target_few : (ks : List ℕ) (t : Table) (s : Scope) (c : ClassName) (name : List ℕ) (token : ℕ) → Yields (class_target t s c name token) (FewTarget ks)
unfolding class_target
class_target_few ks t s c name token =
    of_choice (is_limit c.name name) (give None) _ (FewTarget ks) (given (FewTarget ks) None tt) (just_few ks (qualified_spot t s c.name name c.token token) (qualified_few ks t s c.name name c.token token))

read_spot_few : (ks : List ℕ) (f : Gets Spot) → SpotFew ks f → FewGets ks (f >>= λ p. give (read p))
read_spot_few ks f h = then_found f (λ p. give (read p)) (FewSpot ks) (FewMeaning ks) h (λ p i. given (FewMeaning ks) (read p) i)

abbrev pub FewListing : List ℕ → Listing → Type 0
FewListing ks l = FewRow ks l.forms

-- what is made of an expression's meaning, or of those of a row
abbrev pub FewSigns : Expression → Meaning → Type 0
FewSigns e m = FewMeaning (signs e) m

abbrev pub AllSigns : Row → List Meaning → Type 0
AllSigns es ms = AllFew (row_signs es) ms

mutual
  unfolding elaborated elaborated_all target elements_of initialized

  pub expression_few : (j : Judgement) (t : Table) (s : Scope) (e : Expression) → FewGets (signs e) (elaborated j t s e)
  expression_few j t s (source.Literal value token) = literal_few [] value token
  expression_few j t s (source.Name name token) = named_few [] t s name token
  expression_few j t s (source.This token) =
      of_choice s.has_this (give (Formed this_form (class_type s.class))) (refuse NotInStatic token) (FewMeaning []) (given (FewMeaning []) (Formed this_form (class_type s.class)) (few_none [])) (refused_found (FewMeaning []) NotInStatic token)
  expression_few j t s (source.Group inner token) = expression_few j t s inner
  expression_few j t s (source.Invoke name args token) =
      then_found (elaborated_all j t s args) _ (AllSigns args) (FewMeaning (row_signs args)) (all_few j t s args) (λ ms i. called_few [] (row_signs args) j t s Nothing (class_type s.class) name ms token (few_none []) i)
  expression_few j t s (source.Field object name token) =
      of_option (FewSigns object) (class_in t s object) (λ c. qualified_name t s c.name name c.token token) _ (λ c. qualified_name_few (signs object) t s c.name name c.token token)
      (then_found (elaborated j t s object) _ (FewSigns object) (FewSigns object) (expression_few j t s object) (λ m i. field_read_few (signs object) t s m name token i))
  expression_few j t s (source.InvokeOn object name args token) =
      let ks = signs object in
      let ls = row_signs args in
      let P : Meaning → Type 0 = FewMeaning (ks ++ ls) in
      of_option P (stream_in t s object) (λ x. elaborated_all j t s args >>= λ ms. called_on_stream x name ms token) _
      (λ x. then_found (elaborated_all j t s args) _ (AllSigns args) P (all_few j t s args) (λ ms i. stream_few (ks ++ ls) x name ms token))
      (of_option P (class_in t s object) (λ c. elaborated_all j t s args >>= λ ms. called_on_class j t s c name ms token) _
      (λ c. then_found (elaborated_all j t s args) _ (AllSigns args) P (all_few j t s args) (λ ms i. class_call_few (ks ++ ls) j t s c name ms token (few_right ks i)))
      (then_found (elaborated j t s object) _ (FewSigns object) P (expression_few j t s object) (λ m hm.
      then_found (elaborated_all j t s args) _ (AllSigns args) P (all_few j t s args) (λ ms i. object_call_few ks ls j t s m name ms token hm i))))
  expression_few j t s (source.SuperField name token) = read_spot_few [] (super_spot t s name token) (super_few [] t s name token)
  expression_few j t s (source.SuperInvoke name args token) =
      then_found (elaborated_all j t s args) _ (AllSigns args) (FewMeaning (row_signs args)) (all_few j t s args) (λ ms i. called_few [] (row_signs args) j t s Super (class_type (above t s)) name ms token (few_none []) i)
  expression_few j t s (source.Element array index token) =
      let P : Meaning → Type 0 = FewMeaning (signs array ++ signs index) in
      then_found (elaborated j t s array) _ (FewSigns array) P (expression_few j t s array) (λ a ha.
      then_found (elaborated j t s index) _ (FewSigns index) P (expression_few j t s index) (λ i hi. read_spot_few (signs array ++ signs index) (element_spot a i token) (element_few (signs array) (signs index) a i token ha hi)))
  expression_few j t s (source.NewObject class args token) =
      then_found (class_for_new (class_named t.classes class.name) class.token) _ (λ c. Unit {0}) (FewMeaning (row_signs args)) (anything _) (λ c x.
      then_found (elaborated_all j t s args) _ (AllSigns args) (FewMeaning (row_signs args)) (all_few j t s args) (λ ms i. created_few (row_signs args) j t s c ms token i))
  expression_few j t s (source.NewArray base base_token sizes brackets token) =
      let P : Meaning → Type 0 = FewMeaning (row_signs sizes) in
      then_found (type_with t base 0 base_token) _ (λ ty. Unit {0}) P (anything _) (λ ty x.
      then_found (elaborated_all j t s sizes) _ (AllSigns sizes) P (all_few j t s sizes) (λ ms i.
      then_found (sizes_of ms token) _ (FewRow (all_sites ms)) P (sizes_few ms token) (λ dims k.
      given P (Formed (kernel.NewArray (with_brackets ty (length ms + brackets)) dims kernel.none [] token) (with_brackets ty (length ms + brackets))) (few_behind (few_then k i)))))
  expression_few j t s (source.NewList base base_token brackets elements brace token) =
      let P : Meaning → Type 0 = FewMeaning (element_signs elements) in
      then_found (type_with t base brackets base_token) _ (λ ty. Unit {0}) P (anything _) (λ ty x.
      then_found (or_type (element_of ty) brace) _ (λ inner. Unit {0}) P (anything _) (λ inner y.
      then_found (elements_of j t s inner elements) _ (FewListing (element_signs elements)) P (elements_few j t s inner elements) (λ all k.
      given P (Formed (kernel.NewArray ty kernel.none all.forms all.sites token) ty) k)))
  expression_few j t s (source.Unary op operand token) =
      then_found (elaborated j t s operand) _ (FewSigns operand) (FewSigns operand) (expression_few j t s operand) (λ m i. unary_few (signs operand) op m token i)
  expression_few j t s (source.Step is_before is_up operand token) =
      let ks = signs operand in
      then_found (if is_place operand then target j t s operand else elaborated j t s operand >>= λ m. give None) _ (FewTarget ks) (FewMeaning ks)
      (of_choice (is_place operand) (target j t s operand) (elaborated j t s operand >>= λ m. give None) (FewTarget ks) (target_few j t s operand)
      (then_found (elaborated j t s operand) (λ m. give None) (λ m. Unit {0}) (FewTarget ks) (anything _) (λ m x. given (FewTarget ks) None tt)))
      (λ p i. stepped_few ks is_before is_up p token i)
  expression_few j t s (source.Binary op left right token) =
      let P : Meaning → Type 0 = FewMeaning (signs left ++ signs right) in
      then_found (elaborated j t s left) _ (FewSigns left) P (expression_few j t s left) (λ a ha.
      then_found (elaborated j t s right) _ (FewSigns right) P (expression_few j t s right) (λ b hb. binary_few (signs left) (signs right) j t op a b token ha hb))
  expression_few j t s (source.Both left right token) =
      let P : Meaning → Type 0 = FewMeaning (signs left ++ token ∷ signs right) in
      then_found (elaborated j t s left) _ (FewSigns left) P (expression_few j t s left) (λ a ha.
      then_found (elaborated j t s right) _ (FewSigns right) P (expression_few j t s right) (λ b hb. lazy_few (signs left) (signs right) cond.And (λ p q. p && q) a b token ha hb))
  expression_few j t s (source.Either left right token) =
      let P : Meaning → Type 0 = FewMeaning (signs left ++ token ∷ signs right) in
      then_found (elaborated j t s left) _ (FewSigns left) P (expression_few j t s left) (λ a ha.
      then_found (elaborated j t s right) _ (FewSigns right) P (expression_few j t s right) (λ b hb. lazy_few (signs left) (signs right) cond.Or (λ p q. p || q) a b token ha hb))
  expression_few j t s (source.InstanceOf left ty token) =
      then_found (elaborated j t s left) _ (FewSigns left) (FewSigns left) (expression_few j t s left) (λ m i.
      then_found (type_written t ty) _ (λ to. Unit {0}) (FewSigns left) (anything _) (λ to x. instance_few (signs left) j t to m token i))
  expression_few j t s (source.Cast ty operand token) =
      then_found (type_written t ty) _ (λ to. Unit {0}) (FewSigns operand) (anything _) (λ to x.
      then_found (elaborated j t s operand) _ (FewSigns operand) (FewSigns operand) (expression_few j t s operand) (λ m i. cast_few (signs operand) j t to m token i))
  expression_few j t s (source.Choice test main other token) =
      let P : Meaning → Type 0 = FewMeaning (signs test ++ token ∷ (signs main ++ signs other)) in
      then_found (elaborated j t s test) _ (FewSigns test) P (expression_few j t s test) (λ z hz.
      then_found (elaborated j t s main) _ (FewSigns main) P (expression_few j t s main) (λ a ha.
      then_found (elaborated j t s other) _ (FewSigns other) P (expression_few j t s other) (λ b hb. choice_few (signs test) (signs main) (signs other) j t z a b token hz ha hb)))
  expression_few j t s (source.Assign left value token) =
      let P : Meaning → Type 0 = FewMeaning (signs left ++ signs value) in
      then_found (target j t s left) _ (FewTarget (signs left)) P (target_few j t s left) (λ p i.
      then_found (elaborated j t s value) _ (FewSigns value) P (expression_few j t s value) (λ m k. assigned_few (signs left) (signs value) j p m token i k))
  expression_few j t s (source.Update op left value token) =
      let P : Meaning → Type 0 = FewMeaning (signs left ++ signs value) in
      then_found (target j t s left) _ (FewTarget (signs left)) P (target_few j t s left) (λ p i.
      then_found (elaborated j t s value) _ (FewSigns value) P (expression_few j t s value) (λ m k. updated_few (signs left) (signs value) j t op p m token i k))
  expression_few j t s source.Wrong = refused_found (FewMeaning []) BadOperand 0

  pub all_few : (j : Judgement) (t : Table) (s : Scope) (es : Row) → Yields (elaborated_all j t s es) (AllSigns es)
  all_few j t s none = given (AllFew []) [] (few_none [])
  all_few j t s (more e rest) =
      let P : List Meaning → Type 0 = AllFew (signs e ++ row_signs rest) in
      then_found (elaborated j t s e) _ (FewSigns e) P (expression_few j t s e) (λ m i.
      then_found (elaborated_all j t s rest) _ (AllSigns rest) P (all_few j t s rest) (λ ms k. given P (m ∷ ms) (few_both i k)))

  target_few : (j : Judgement) (t : Table) (s : Scope) (e : Expression) → Yields (target j t s e) (FewTarget (signs e))
  target_few j t s (source.Name name token) = just_few [] (named_spot t s name token) (named_spot_few [] t s name token)
  target_few j t s (source.Group inner token) = target_few j t s inner
  target_few j t s (source.Field object name token) =
      of_option (FewTarget (signs object)) (class_in t s object) (λ c. class_target t s c name token) _ (λ c. class_target_few (signs object) t s c name token)
      (then_found (elaborated j t s object) _ (FewSigns object) (FewTarget (signs object)) (expression_few j t s object) (λ m i. field_target_few (signs object) t s m name token i))
  target_few j t s (source.SuperField name token) = just_few [] (super_spot t s name token) (super_few [] t s name token)
  target_few j t s (source.Element array index token) =
      let P : Option Spot → Type 0 = FewTarget (signs array ++ signs index) in
      then_found (elaborated j t s array) _ (FewSigns array) P (expression_few j t s array) (λ a ha.
      then_found (elaborated j t s index) _ (FewSigns index) P (expression_few j t s index) (λ i hi. just_few (signs array ++ signs index) (element_spot a i token) (element_few (signs array) (signs index) a i token ha hi)))
  target_few j t s e = given (FewTarget (signs e)) None tt

  elements_few : (j : Judgement) (t : Table) (s : Scope) (ty : Ty) (es : Elements) → Yields (elements_of j t s ty es) (FewListing (element_signs es))
  elements_few j t s ty no_more = given (FewListing []) (listing kernel.none []) (few_none [])
  elements_few j t s ty (element before first rest) =
      let P : Listing → Type 0 = FewListing (initial_signs first ++ element_signs rest) in
      then_found (initialized j t s ty first before) _ (Few (initial_signs first)) P (initial_few j t s ty first before) (λ e i.
      then_found (elements_of j t s ty rest) _ (FewListing (element_signs rest)) P (elements_few j t s ty rest) (λ all k.
      given P (listing (kernel.more e all.forms) (before ∷ all.sites)) (few_both i k)))

  pub initial_few : (j : Judgement) (t : Table) (s : Scope) (ty : Ty) (i : Initial) (token : ℕ) → Yields (initialized j t s ty i token) (Few (initial_signs i))
  initial_few j t s ty (Value e) token = then_found (elaborated j t s e) _ (FewSigns e) (Few (signs e)) (expression_few j t s e) (λ m i. value_few (signs e) j ty m token i)
  initial_few j t s ty (Listed elements brace) token =
      let P : kernel.Expression → Type 0 = Few (element_signs elements) in
      then_found (or_type (element_of ty) brace) _ (λ inner. Unit {0}) P (anything _) (λ inner x.
      then_found (elements_of j t s inner elements) _ (FewListing (element_signs elements)) P (elements_few j t s inner elements) (λ all k.
      given P (kernel.NewArray ty kernel.none all.forms all.sites brace) k))
