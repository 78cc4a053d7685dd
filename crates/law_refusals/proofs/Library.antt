-- Calls of the library and of `System.in` and `System.out` are refused where they are not offered, and calls behind a dot by what stands before it.
use Rattle.std.proofs.Common.{◌≡◌, ◌∙◌, ap, sym, subst, refl, ℕ, Bool, true, false, List, [], ◌∷◌, Option, Some, inl, inr}
use Rattle.std.specs.Prelude.{◌&&◌, codes, bytes_eq, if◌then◌else◌}
use Rattle.std.specs.Prelude.{None as Absent}
use Rattle.std.specs.List.{Contains}
use Rattle.std.proofs.lemmas.Slice.Eq.{bytes_eq-Decides}
use Rattle.wy_kernel.specs.Form as kernel
use Rattle.wy_kernel.specs.declared.types.Ty.{Ty}
use Rattle.wy_kernel.specs.declared.types.Ty.TheVariants.{Void}
use Rattle.wy_kernel.specs.Subtyping.{class_type}
use Rattle.wy_kernel.specs.Table.{Table}
use Rattle.wy_constant.specs.Scope.{Scope}
use Rattle.wy_constant.specs.Fields.{class_named}
use Rattle.wy_overloads.specs.Choice.{EachBelow}
use Rattle.wy_overloads.specs.Choice as choice
use Rattle.wy_elab_expr.specs.Meaning.{Meaning, Formed, type_of, text_type, give, formed}
use Rattle.wy_elab_expr.specs.Operators.{Judgement, Settles, is_void, is_text_type}
use Rattle.wy_elab_expr.specs.Members.{some_void, types_of, Object, called, LibraryMethod, text_methods, are_below, applicable, has_name, library_form, library_call}
use Rattle.wy_elab_expr.specs.Members.{OfClass as ThroughClass}
use Rattle.wy_elab_expr.specs.Elaboration.{ClassName, Stream, Input, Output, class_methods, is_of_texts, called_on_known, called_on_class, called_on, byte_read, is_printed, printed, is_print, some_printed, print_operand, called_on_stream}
use Rattle.law_refusals.specs.Calls.{is_of_library, Offers}
use Rattle.law_refusals.proofs.Contained.{contains_here, contains_later, contains_none, contains_cases}
use Rattle.law_refusals.proofs.Tests.{first_true, second_true, left_true, right_true, one_true, neither_true, text_is}
use Rattle.law_refusals.proofs.Never.{Never, never_refuse, never_if, never_then, never_else, never_bind, never_first}
use Rattle.law_refusals.proofs.AcceptedForms.{false_by, absent_by, void_true}
use Rattle.law_refusals.proofs.Methods.{never_method_of_void, never_called}

-- ---- methods of the library

below_each : (j : Judgement) (t : Table) → Settles t j → (xs ys : List Ty) → are_below j xs ys ≡ true → EachBelow t.classes xs ys
below_each j t g [] [] e = choice.EachBelow.none
below_each j t g (x ∷ xs) (y ∷ ys) e = choice.EachBelow.more ((g.below x y).0 (first_true (j.below x y) (are_below j xs ys) e)) (below_each j t g xs ys (second_true (j.below x y) (are_below j xs ys) e))
below_each j t g [] (y ∷ ys) e = absurd (cc)
below_each j t g (x ∷ xs) [] e = absurd (cc)

offers_later : (t : Table) (n : LibraryMethod) (rest : List LibraryMethod) (name : List ℕ) (types : List Ty) (m : LibraryMethod) → Offers t rest name types m → Offers t (n ∷ rest) name types m
offers_later t n rest name types m o = record { listed = contains_later n m rest o.listed; named = o.named; takes = o.takes }

module _ (j : Judgement) (t : Table) (g : Settles t j) where
  offers_by : (n : LibraryMethod) (rest : List LibraryMethod) (name : List ℕ) (types : List Ty) (m : LibraryMethod) → (applicable j rest name types ≡ Some m → Offers t rest name types m) →
      (b : Bool) → (bytes_eq n.name name && are_below j types n.params) ≡ b → (if b then Some n else applicable j rest name types) ≡ Some m → Offers t (n ∷ rest) name types m
  offers_by n rest name types m f true h e =
      let same : n ≡ m = cc in
      let P : LibraryMethod → Type 0 = λ z. Offers t (n ∷ rest) name types z in
      subst P same (record {
        listed = contains_here rest refl;
        named = (bytes_eq-Decides n.name name).0 (first_true (bytes_eq n.name name) (are_below j types n.params) h);
        takes = below_each j t g types n.params (second_true (bytes_eq n.name name) (are_below j types n.params) h);
      })
  offers_by n rest name types m f false h e = offers_later t n rest name types m (f e)

  applies_offers : (methods : List LibraryMethod) (name : List ℕ) (types : List Ty) (m : LibraryMethod) → applicable j methods name types ≡ Some m → Offers t methods name types m
  applies_offers [] name types m e = absurd (cc)
  applies_offers (n ∷ rest) name types m e = offers_by n rest name types m (applies_offers rest name types m) (bytes_eq n.name name && are_below j types n.params) refl e

  never_form : (o : Option LibraryMethod) (b : Bool) (object : Option kernel.Expression) (ms : List Meaning) (token : ℕ) → o ≡ Absent → Never (library_form o b object ms token)
  never_form (Some m) b object ms token e = absurd (cc)
  never_form Absent b object ms token e = never_refuse

  pub never_library : (methods : List LibraryMethod) (object : Option kernel.Expression) (name : List ℕ) (ms : List Meaning) (token : ℕ) → ((m : LibraryMethod) → Offers t methods name (types_of ms) m → ⊥) →
      Never (library_call j methods object name ms token)
  unfolding library_call
  never_library methods object name ms token n =
      let found : Option LibraryMethod = applicable j methods name (types_of ms) in
      never_if {b = some_void ms} (λ e. never_refuse)
      (λ e. never_form found (has_name methods name) object ms token (absent_by found (λ h. n h.0 (applies_offers methods name (types_of ms) h.0 h.1))))

pub never_library_of_void : (j : Judgement) (methods : List LibraryMethod) (object : Option kernel.Expression) (name : List ℕ) (ms : List Meaning) (token : ℕ) → some_void ms ≡ true → Never (library_call j methods object name ms token)
unfolding library_call
never_library_of_void j methods object name ms token e = never_then (some_void ms) _ e never_refuse

-- a method that is offered has its name
named_among : (all : List LibraryMethod) (name : List ℕ) (m : LibraryMethod) → Contains all m → m.name ≡ name → has_name all name ≡ true
named_among [] name m h e = absurd (contains_none h)
named_among (n ∷ rest) name m h e =
    elim (contains_cases n m rest h) [
      | inl same ↦ left_true (has_name rest name) ((bytes_eq-Decides n.name name).1 (ap (λ (z : LibraryMethod). z.name) same ∙ e))
      | inr k ↦ right_true (bytes_eq n.name name) (named_among rest name m k e)
    ]

pub unnamed : (t : Table) (methods : List LibraryMethod) (name : List ℕ) (types : List Ty) (m : LibraryMethod) → has_name methods name ≡ false → Offers t methods name types m → ⊥
unnamed t methods name types m e o = let named : has_name methods name ≡ true = named_among methods name m o.listed o.named in cc

-- ---- `System.in`

pub never_read_with : (name : List ℕ) (m : Meaning) (rest : List Meaning) (token : ℕ) → Never (called_on_stream Input name (m ∷ rest) token)
never_read_with name m rest token = never_if {b = some_void (m ∷ rest)} (λ e. never_refuse) (λ e. never_refuse)

never_byte : (name : List ℕ) (ms : List Meaning) (token : ℕ) → bytes_eq name (codes "read") ≡ false → Never (byte_read name ms token)
never_byte name [] token e = never_else (bytes_eq name (codes "read")) _ e never_refuse
never_byte name (m ∷ rest) token e = never_refuse

pub never_read_other : (name : List ℕ) (ms : List Meaning) (token : ℕ) → bytes_eq name (codes "read") ≡ false → Never (called_on_stream Input name ms token)
never_read_other name ms token e = never_if {b = some_void ms} (λ h. never_refuse) (λ h. never_byte name ms token e)

-- ---- `System.out`

never_printed_void : (m : Meaning) (token : ℕ) → is_void (type_of m) ≡ true → Never (printed m token)
unfolding printed
never_printed_void m token e = never_then (is_void (type_of m)) _ e never_refuse

never_printed : (m : Meaning) (token : ℕ) → is_printed (type_of m) ≡ false → Never (printed m token)
unfolding printed
never_printed m token e = never_if {b = is_void (type_of m)} (λ h. never_refuse) (λ h. never_else (is_printed (type_of m)) _ e never_refuse)

only_void : (m : Meaning) → some_void (m ∷ []) ≡ true → is_void (type_of m) ≡ true
only_void m e = elim (one_true (is_void (type_of m)) false e) [ inl h ↦ h | inr h ↦ absurd (cc) ]

pub never_print_of_void : (name : List ℕ) (ms : List Meaning) (token : ℕ) → some_void ms ≡ true → Never (print_operand name ms token)
unfolding print_operand
never_print_of_void name [] token e = absurd (cc)
never_print_of_void name (m ∷ []) token e = never_if {b = is_print name} (λ h. never_first some_printed (never_printed_void m token (only_void m e))) (λ h. never_refuse)
never_print_of_void name (m ∷ n ∷ rest) token e = never_refuse

pub never_print_unshown : (name : List ℕ) (m : Meaning) (token : ℕ) → is_printed (type_of m) ≡ false → Never (print_operand name (m ∷ []) token)
unfolding print_operand
never_print_unshown name m token e = never_if {b = is_print name} (λ h. never_first some_printed (never_printed m token e)) (λ h. never_refuse)

print_is_no_line : (name : List ℕ) → bytes_eq name (codes "print") ≡ true → bytes_eq name (codes "println") ≡ false
print_is_no_line name e = let same = (bytes_eq-Decides name (codes "print")).0 e in subst (λ (z : List ℕ). bytes_eq z (codes "println") ≡ false) (sym same) refl

pub never_print_nothing : (name : List ℕ) (token : ℕ) → bytes_eq name (codes "print") ≡ true → Never (print_operand name [] token)
unfolding print_operand
never_print_nothing name token e = never_else (bytes_eq name (codes "println")) _ (print_is_no_line name e) never_refuse

pub never_print_more : (name : List ℕ) (m n : Meaning) (rest : List Meaning) (token : ℕ) → Never (print_operand name (m ∷ n ∷ rest) token)
unfolding print_operand
never_print_more name m n rest token = never_refuse

pub never_print_other : (name : List ℕ) (ms : List Meaning) (token : ℕ) → is_print name ≡ false → Never (print_operand name ms token)
unfolding print_operand
never_print_other name [] token e = never_else (bytes_eq name (codes "println")) _ (neither_true (bytes_eq name (codes "print")) (bytes_eq name (codes "println")) e).1 never_refuse
never_print_other name (m ∷ []) token e = never_else (is_print name) _ e never_refuse
never_print_other name (m ∷ n ∷ rest) token e = never_refuse

pub never_print : (name : List ℕ) (ms : List Meaning) (token : ℕ) → Never (print_operand name ms token) → Never (called_on_stream Output name ms token)
never_print name ms token n = never_first (λ p. give (Formed (kernel.Const kernel.Null) Void)) n

pub never_stream_of_void : (stream : Stream) (name : List ℕ) (ms : List Meaning) (token : ℕ) → some_void ms ≡ true → Never (called_on_stream stream name ms token)
never_stream_of_void Input name ms token e = never_then (some_void ms) _ e never_refuse
never_stream_of_void Output name ms token e = never_print name ms token (never_print_of_void name ms token e)

-- ---- behind a class's name

module _ (j : Judgement) (t : Table) (s : Scope) (class : ClassName) (name : List ℕ) (ms : List Meaning) (token : ℕ) where
  never_known_of_void : (o : Option ℕ) → some_void ms ≡ true → Never (called_on_known j t s o name ms token)
  never_known_of_void (Some c) e = never_called j t s ThroughClass (class_type c) name ms token (never_method_of_void j (class_type c) name ms token e)
  never_known_of_void Absent e = never_refuse

  pub never_class_of_void : some_void ms ≡ true → Never (called_on_class j t s class name ms token)
  unfolding called_on_class
  never_class_of_void e =
      never_if {b = is_of_texts class.name name} (λ h. never_refuse)
      (λ h. never_if {b = is_of_library class.name} (λ k. never_library_of_void j (class_methods class.name) Absent name ms token e) (λ k. never_known_of_void (class_named t.classes class.name) e))

  pub never_class_of_texts : is_of_texts class.name name ≡ true → Never (called_on_class j t s class name ms token)
  unfolding called_on_class
  never_class_of_texts e = never_then (is_of_texts class.name name) _ e never_refuse

  pub never_class_of_library : is_of_library class.name ≡ true → Never (library_call j (class_methods class.name) Absent name ms token) → Never (called_on_class j t s class name ms token)
  unfolding called_on_class
  never_class_of_library e n = never_if {b = is_of_texts class.name name} (λ h. never_refuse) (λ h. never_then (is_of_library class.name) _ e n)

  never_known : (o : Option ℕ) (c : ℕ) → o ≡ Some c → Never (called j t s ThroughClass (class_type c) name ms token) → Never (called_on_known j t s o name ms token)
  never_known (Some d) c e n = let same : d ≡ c = cc in let P : ℕ → Type 0 = λ z. Never (called j t s ThroughClass (class_type z) name ms token) in subst P (sym same) n
  never_known Absent c e n = never_refuse

  pub never_own_class : (c : ℕ) → is_of_library class.name ≡ false → class_named t.classes class.name ≡ Some c → Never (called j t s ThroughClass (class_type c) name ms token) → Never (called_on_class j t s class name ms token)
  unfolding called_on_class
  never_own_class c e is n = never_if {b = is_of_texts class.name name} (λ h. never_refuse) (λ h. never_else (is_of_library class.name) _ e (never_known (class_named t.classes class.name) c is n))

-- ---- of an object

module _ (j : Judgement) (t : Table) (s : Scope) (m : Meaning) (name : List ℕ) (ms : List Meaning) (token : ℕ) where
  pub never_on_void : type_of m ≡ Void → Never (called_on j t s m name ms token)
  unfolding called_on
  never_on_void e = never_then (is_void (type_of m)) _ (void_true m e) never_refuse

  pub never_on_object_of_void : some_void ms ≡ true → Never (called_on j t s m name ms token)
  unfolding called_on
  never_on_object_of_void e =
      never_if {b = is_void (type_of m)} (λ h. never_refuse)
      (λ h. never_if {b = is_text_type (type_of m)}
      (λ k. never_bind (formed m) (λ x. library_call j text_methods (Some x) name ms token) (λ x u v is. never_library_of_void j text_methods (Some x) name ms token e))
      (λ k. never_bind (formed m) (λ x. called j t s (Object x) (type_of m) name ms token) (λ x u v is. never_called j t s (Object x) (type_of m) name ms token (never_method_of_void j (type_of m) name ms token e))))

  pub never_on_text : type_of m ≡ text_type → ((x : kernel.Expression) → Never (library_call j text_methods (Some x) name ms token)) → Never (called_on j t s m name ms token)
  unfolding called_on
  never_on_text e n =
      never_if {b = is_void (type_of m)} (λ h. never_refuse)
      (λ h. never_then (is_text_type (type_of m)) _ (ap is_text_type e) (never_bind (formed m) (λ x. library_call j text_methods (Some x) name ms token) (λ x u v is. n x)))

  pub never_on_object : (type_of m ≡ text_type → ⊥) → ((x : kernel.Expression) → Never (called j t s (Object x) (type_of m) name ms token)) → Never (called_on j t s m name ms token)
  unfolding called_on
  never_on_object other n =
      never_if {b = is_void (type_of m)} (λ h. never_refuse)
      (λ h. never_else (is_text_type (type_of m)) _ (false_by (is_text_type (type_of m)) (λ e. other (text_is (type_of m) e)))
      (never_bind (formed m) (λ x. called j t s (Object x) (type_of m) name ms token) (λ x u v is. n x)))
