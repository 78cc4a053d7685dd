-- Where the creation of an object and calls of `System.in` and `System.out` are refused, their expression breaks the rule.
use Rattle.std.proofs.Common.{◌≡◌, ◌∙◌, ap, refl, ℕ, zero, suc, Bool, true, false, List, [], ◌∷◌, Option, Some, inl, inr}
use Rattle.std.specs.Prelude.{◌==◌, slice_get, bytes_eq, codes, if◌then◌else◌}
use Rattle.std.specs.Prelude.{None as Absent}
use Rattle.std.proofs.lemmas.Bool.Decides.{Decides-eqb}
use Rattle.wy_kernel.specs.Form as kernel
use Rattle.wy_kernel.specs.declared.operator.Primitive.TheVariants as prim
use Rattle.wy_kernel.specs.declared.types.Base.TheVariants.{Primitive as Basic}
use Rattle.wy_kernel.specs.declared.types.Ty.{Ty}
use Rattle.wy_kernel.specs.declared.types.Ty.TheVariants.{Null, Of}
use Rattle.wy_kernel.specs.declared.form.LibOp.TheVariants as lib
use Rattle.wy_kernel.specs.Program.{Class, Method, object_class}
use Rattle.wy_kernel.specs.Subtyping.{class_type}
use Rattle.wy_kernel.specs.Table.{Table}
use Rattle.wy_syntax.specs.Syntax.{Named, Expression, Row, InvokeOn, NewObject}
use Rattle.wy_syntax.specs.Syntax as source
use Rattle.wy_constant.specs.declared.rule.Rule.TheVariants as rule
use Rattle.wy_constant.specs.Scope.{Scope}
use Rattle.wy_constant.specs.Fields.{class_named}
use Rattle.wy_elab_expr.specs.Meaning.{Meaning, Formed, type_of, Gets, give, refuse, ◌>>=◌, brought}
use Rattle.wy_elab_expr.specs.Operators.{Judgement, Settles, is_void, class_of, is_interface}
use Rattle.wy_elab_expr.specs.Members.{some_void, types_of, brought_all, method_for, is_outside, constructed, is_abstract, new_plain, created, int_type}
use Rattle.wy_elab_expr.specs.Elaboration.{Stream, Input, Output, stream_in, byte_read, printed_type, is_printed, Printed, printed, is_print, some_printed, print_operand, called_on_stream}
use Rattle.law_refusals.specs.Operands.{IsInterface}
use Rattle.law_refusals.specs.Found as found
use Rattle.law_refusals.specs.Found.{IsFound, AreFound}
use Rattle.law_refusals.specs.Calls.{HaveValues, Means, ByNew}
use Rattle.law_refusals.specs.Calls as calls
use Rattle.law_refusals.specs.Breaches.{ExpressionBreaks}
use Rattle.law_refusals.specs.Breaches as way
use Rattle.law_refusals.proofs.Walk.{Only, only_give, only_refuse, only_if, only_bind, only_brought}
use Rattle.law_refusals.proofs.Contained.{contains_here}
use Rattle.law_refusals.proofs.Tests.{void_is, one_true, false_not_true}
use Rattle.law_refusals.proofs.Forms.{Blamed, only_refuse_if}
use Rattle.law_refusals.proofs.Fields.{hidden}
use Rattle.law_refusals.proofs.Invoked.{void_among, all_never, method_only, found_method, meant, Found}

-- ---- classes by their rows

row_of_interface : (o : Option Class) → is_interface o ≡ true → (k : Class) × (o ≡ Some k) × (k.is_interface ≡ true)
row_of_interface (Some k) e = (k, refl, e)
row_of_interface Absent e = absurd (cc)

interface_row : (o : Option Class) → (k : Class) × (o ≡ Some k) × (k.is_interface ≡ true) → is_interface o ≡ true
interface_row o h = ap is_interface h.1 ∙ h.2

row_of_abstract : (o : Option Class) → is_abstract o ≡ true → (k : Class) × (o ≡ Some k) × (k.is_abstract ≡ true)
row_of_abstract (Some k) e = (k, refl, e)
row_of_abstract Absent e = absurd (cc)

-- ---- arguments by their meanings

-- the arguments are some
pub some_more : (j : Judgement) (t : Table) (s : Scope) (P : Row → Type 0) (m : Meaning) (ms : List Meaning) (args : Row) → AreFound j t s args (m ∷ ms) → ((e : Expression) (rest : Row) → IsFound j t s e m → AreFound j t s rest ms → P (source.more e rest)) → P args
some_more j t s P m ms (source.more e rest) (found.more_found f fs) k = k e rest f fs
some_more j t s P m ms source.none f k = elim f [ ]

pub some_none : (j : Judgement) (t : Table) (s : Scope) (P : Row → Type 0) (args : Row) → AreFound j t s args [] → P source.none → P args
some_none j t s P source.none f k = k
some_none j t s P (source.more e rest) f k = elim f [ ]

module _ (j : Judgement) (t : Table) (s : Scope) (g : Settles t j) where
  -- ---- `new`

  plain_row : (class : Named) (token : ℕ) → class_named t.classes class.name ≡ Some object_class → (ms : List Meaning) (args : Row) → AreFound j t s args ms → Only (Blamed j t s (NewObject class args token)) (new_plain ms token)
  plain_row class token is [] args f = only_give
  plain_row class token is (m ∷ rest) args f =
      only_refuse_if (some_void (m ∷ rest)) rule.BadOperand rule.NoMethod (λ h. way.void_argument way.Passes.by_new f (void_among (m ∷ rest) h))
      (λ h. some_more j t s (λ a. ExpressionBreaks j t s (NewObject class a token) rule.NoMethod token) m rest args f (λ e others x y. way.IsNoMethod.of_object is))

  constructed_by : (class : Named) (args : Row) (token c k : ℕ) (ms : List Meaning) → class_named t.classes class.name ≡ Some c → (c ≡ object_class → ⊥) → (IsInterface t c → ⊥) → AreFound j t s args ms →
      Found j (class_type c) (codes "new") ms k → (o : Option Method) → slice_get t.methods k ≡ o → Only (Blamed j t s (NewObject class args token)) (constructed s c (is_abstract (class_of t c)) k o ms token)
  constructed_by class args token c k ms is other plain f h Absent row =
      let chosen = (g.chosen (class_type c) (codes "new") (types_of ms) k).0 h.choice in
      let some : slice_get t.methods k ≡ Some chosen.method = chosen.applicable.0 in
      absurd (cc)
  constructed_by class args token c k ms is other plain f h (Some m) row =
      let means : Means j t s (NewObject class args token) ByNew token m = meant j t s g (NewObject class args token) ByNew (class_type c) (codes "new") args ms token k m (calls.by_new is other plain) f h row in
      let made : Gets Meaning = brought_all m.params ms >>= λ es. give (Formed (kernel.New c (Some k) es token) (class_type c)) in
      let abstract_or_made : Gets Meaning = if is_abstract (class_of t c) then refuse rule.NotImplemented token else made in
      only_if {b = is_outside s m.is_private m.class} {m = refuse rule.Private token} {n = abstract_or_made}
      (λ out. only_refuse (way.IsPrivate.method means (hidden s m.is_private m.class out)))
      (λ inside. only_if {b = is_abstract (class_of t c)} {m = refuse rule.NotImplemented token} {n = made}
      (λ e. let r = row_of_abstract (class_of t c) e in only_refuse (way.abstract_class is r.1 r.2))
      (λ e. only_bind (all_never m.params ms) (λ es u v known. only_give)))

  pub created_only : (class : Named) (args : Row) (token c : ℕ) (ms : List Meaning) → class_named t.classes class.name ≡ Some c → AreFound j t s args ms → Only (Blamed j t s (NewObject class args token)) (created j t s c ms token)
  unfolding created
  created_only class args token c ms is f =
      let made : Gets Meaning = method_for j (class_type c) (codes "new") ms token >>= λ k. constructed s c (is_abstract (class_of t c)) k (slice_get t.methods k) ms token in
      let refusing : Gets Meaning = if some_void ms then refuse rule.BadOperand token else refuse rule.NotImplemented token in
      only_if {b = c == object_class} {m = new_plain ms token} {n = if is_interface (class_of t c) then refusing else made}
      (λ e. plain_row class token (is ∙ ap (λ n. Some n) ((Decides-eqb c object_class).0 e)) ms args f)
      (λ e. let other : c ≡ object_class → ⊥ = λ same. (let yes_it : (c == object_class) ≡ true = (Decides-eqb c object_class).1 same in cc) in
      only_if {b = is_interface (class_of t c)} {m = refusing} {n = made}
      (λ i. only_if {b = some_void ms} {m = refuse rule.BadOperand token} {n = refuse rule.NotImplemented token} (λ h. only_refuse (way.void_argument way.Passes.by_new f (void_among ms h)))
      (λ h. only_refuse (way.interface is (row_of_interface (class_of t c) i))))
      (λ i. let plain : IsInterface t c → ⊥ = λ h. (let yes_it : is_interface (class_of t c) ≡ true = interface_row (class_of t c) h in cc) in
      only_bind (method_only j t s g (NewObject class args token) ByNew (class_type c) (codes "new") args ms token (calls.by_new is other plain) way.Passes.by_new f)
      (λ k u v known. constructed_by class args token c k ms is other plain f (found_method j (class_type c) (codes "new") ms k token u v known) (slice_get t.methods k) refl)))

  -- ---- the streams

  read_by : (object : Expression) (name : List ℕ) (token : ℕ) → stream_in t s object ≡ Some Input → (ms : List Meaning) (args : Row) → AreFound j t s args ms → Only (Blamed j t s (InvokeOn object name args token)) (byte_read name ms token)
  read_by object name token e [] args f =
      only_if {b = bytes_eq name (codes "read")} {m = give (Formed (kernel.Lib lib.ReadByte kernel.none token) int_type)} {n = refuse rule.NotOffered token} (λ h. only_give) (λ h. only_refuse (way.of_input e h))
  read_by object name token e (m ∷ rest) args f =
      only_refuse_if (bytes_eq name (codes "read")) rule.NoMethod rule.NotOffered (λ h. some_more j t s (λ a. ExpressionBreaks j t s (InvokeOn object name a token) rule.NoMethod token) m rest args f (λ x others y z. way.read e h)) (λ h. way.of_input e h)

  not_printed : (object value : Expression) (name : List ℕ) (token : ℕ) (m : Meaning) → stream_in t s object ≡ Some Output → IsFound j t s value m → (ty : Ty) → type_of m ≡ ty → is_printed ty ≡ false →
      ExpressionBreaks j t s (InvokeOn object name (source.more value source.none) token) rule.NotOffered token
  not_printed object value name token m e f Null is hidden_one = way.null_printed e f is
  not_printed object value name token m e f (Of (Basic prim.Char) (suc zero)) is hidden_one = way.chars_printed e f is
  not_printed object value name token m e f _ is hidden_one = absurd (cc)

  printed_by : (object value : Expression) (name : List ℕ) (token : ℕ) (m : Meaning) → stream_in t s object ≡ Some Output → IsFound j t s value m → Only (Blamed j t s (InvokeOn object name (source.more value source.none) token)) (printed m token)
  unfolding printed
  printed_by object value name token m e f =
      let shown : Gets Printed = brought (printed_type (type_of m)) m >>= λ x. give (record { form = x; ty = printed_type (type_of m) }) in
      only_if {b = is_void (type_of m)} {m = refuse rule.BadOperand token} {n = if is_printed (type_of m) then shown else refuse rule.NotOffered token}
      (λ h. only_refuse (way.void_argument way.Passes.of_object (found.more_found f found.none_found) (contains_here [] (void_is (type_of m) h))))
      (λ valued. only_if {b = is_printed (type_of m)} {m = shown} {n = refuse rule.NotOffered token} (λ h. only_bind (only_brought (printed_type (type_of m)) m) (λ x u v is. only_give))
      (λ h. only_refuse (not_printed object value name token m e f (type_of m) refl h)))

  print_alone : (name : List ℕ) → bytes_eq name (codes "println") ≡ false → is_print name ≡ true → bytes_eq name (codes "print") ≡ true
  print_alone name e h = elim (one_true (bytes_eq name (codes "print")) (bytes_eq name (codes "println")) h) [ inl x ↦ x | inr x ↦ absurd (false_not_true e x) ]

  nothing_printed : (object : Expression) (name : List ℕ) (token : ℕ) → stream_in t s object ≡ Some Output → Only (Blamed j t s (InvokeOn object name source.none token)) (print_operand name [] token)
  unfolding print_operand
  nothing_printed object name token e =
      only_if {b = bytes_eq name (codes "println")} {m = give Absent} {n = refuse (if is_print name then rule.NoMethod else rule.NotOffered) token} (λ h. only_give)
      (λ h. only_refuse_if (is_print name) rule.NoMethod rule.NotOffered (λ p. way.print_nothing e (print_alone name h p)) (λ p. way.of_output e p))

  one_printed : (object value : Expression) (name : List ℕ) (token : ℕ) (m : Meaning) → stream_in t s object ≡ Some Output → IsFound j t s value m →
      Only (Blamed j t s (InvokeOn object name (source.more value source.none) token)) (print_operand name (m ∷ []) token)
  unfolding print_operand
  one_printed object value name token m e f =
      only_if {b = is_print name} {m = printed m token >>= some_printed} {n = refuse (if is_void (type_of m) then rule.BadOperand else rule.NotOffered) token}
      (λ h. only_bind (printed_by object value name token m e f) (λ p u v is. only_give))
      (λ h. only_refuse_if (is_void (type_of m)) rule.BadOperand rule.NotOffered (λ v. way.void_argument way.Passes.of_object (found.more_found f found.none_found) (contains_here [] (void_is (type_of m) v))) (λ v. way.of_output e h))

  many_printed : (object first second : Expression) (rest : Row) (name : List ℕ) (token : ℕ) (m n : Meaning) (ms : List Meaning) → stream_in t s object ≡ Some Output → AreFound j t s (source.more first (source.more second rest)) (m ∷ n ∷ ms) →
      Only (Blamed j t s (InvokeOn object name (source.more first (source.more second rest)) token)) (print_operand name (m ∷ n ∷ ms) token)
  unfolding print_operand
  many_printed object first second rest name token m n ms e f =
      let all : List Meaning = m ∷ n ∷ ms in
      only_refuse_if (some_void all) rule.BadOperand (if is_print name then rule.NoMethod else rule.NotOffered) (λ h. way.void_argument way.Passes.of_object f (void_among all h))
      (λ h. other_printed (is_print name) refl)
    where
      other_printed : (b : Bool) → is_print name ≡ b → ExpressionBreaks j t s (InvokeOn object name (source.more first (source.more second rest)) token) (if b then rule.NoMethod else rule.NotOffered) token
      other_printed true p = way.print_more e p
      other_printed false p = way.of_output e p

  two_more : (object : Expression) (name : List ℕ) (token : ℕ) → stream_in t s object ≡ Some Output → (m n : Meaning) (ms : List Meaning) (first : Expression) (rest : Row) → IsFound j t s first m → AreFound j t s rest (n ∷ ms) →
      Only (Blamed j t s (InvokeOn object name (source.more first rest) token)) (print_operand name (m ∷ n ∷ ms) token)
  two_more object name token e m n ms first source.none f fs = elim fs [ ]
  two_more object name token e m n ms first (source.more second rest) f (found.more_found h fs) = many_printed object first second rest name token m n ms e (found.more_found f (found.more_found h fs))

  some_printed_by : (object : Expression) (name : List ℕ) (token : ℕ) → stream_in t s object ≡ Some Output → (m : Meaning) (ms : List Meaning) (first : Expression) (rest : Row) → IsFound j t s first m → AreFound j t s rest ms →
      Only (Blamed j t s (InvokeOn object name (source.more first rest) token)) (print_operand name (m ∷ ms) token)
  some_printed_by object name token e m [] first source.none f fs = one_printed object first name token m e f
  some_printed_by object name token e m [] first (source.more second rest) f fs = elim fs [ ]
  some_printed_by object name token e m (n ∷ ms) first rest f fs = two_more object name token e m n ms first rest f fs

  pub operand_only : (object : Expression) (name : List ℕ) (token : ℕ) → stream_in t s object ≡ Some Output → (ms : List Meaning) (args : Row) → AreFound j t s args ms → Only (Blamed j t s (InvokeOn object name args token)) (print_operand name ms token)
  operand_only object name token e [] source.none f = nothing_printed object name token e
  operand_only object name token e [] (source.more first rest) f = elim f [ ]
  operand_only object name token e (m ∷ ms) source.none f = elim f [ ]
  operand_only object name token e (m ∷ ms) (source.more first rest) (found.more_found f fs) = some_printed_by object name token e m ms first rest f fs

  pub stream_only : (object : Expression) (name : List ℕ) (args : Row) (token : ℕ) (ms : List Meaning) (stream : Stream) → stream_in t s object ≡ Some stream → AreFound j t s args ms →
      Only (Blamed j t s (InvokeOn object name args token)) (called_on_stream stream name ms token)
  stream_only object name args token ms Input e f =
      only_if {b = some_void ms} {m = refuse rule.BadOperand token} {n = byte_read name ms token} (λ h. only_refuse (way.void_argument way.Passes.of_object f (void_among ms h))) (λ h. read_by object name token e ms args f)
  stream_only object name args token ms Output e f = only_bind (operand_only object name token e ms args f) (λ p u v is. only_give)
