-- Operators, casts, assignments and elements of operands that are alike are alike.
use Rattle.std.proofs.Common.{◌≡◌, ◌∙◌, ap, sym, subst, refl, ℕ, zero, suc, Bool, List, [], ◌∷◌, length, Option, Some}
use Rattle.std.specs.Prelude.{◌&&◌, ◌||◌, not, option_map, if◌then◌else◌}
use Rattle.std.specs.Prelude.{None as Absent}
use Rattle.wy_kernel.specs.declared.operator.Primitive.{Primitive}
use Rattle.wy_kernel.specs.declared.operator.UnOp.{UnOp}
use Rattle.wy_kernel.specs.declared.operator.BinOp.{BinOp}
use Rattle.wy_kernel.specs.declared.operator.BinOp.TheVariants.{Add, Sub}
use Rattle.wy_kernel.specs.declared.types.Base.TheVariants.{Primitive as Basic, Class as Named}
use Rattle.wy_kernel.specs.declared.types.Ty.{Ty}
use Rattle.wy_kernel.specs.declared.types.Ty.TheVariants.{Void, Null, Of}
use Rattle.wy_kernel.specs.Subtyping.{primitive_type}
use Rattle.wy_constant.specs.declared.rule.Rule.{Rule}
use Rattle.wy_constant.specs.declared.rule.Rule.TheVariants.{BadOperand, BadAssign}
use Rattle.wy_kernel.specs.declared.form.CondForm.{CondForm}
use Rattle.wy_kernel.specs.Table.{Table, ConstantValue}
use Rattle.wy_constant.specs.Constant.{combined, choice_constant, choice_type}
use Rattle.wy_elab_expr.specs.Meaning.{Meaning, Known, Formed, type_of, Gets, refuse}
use Rattle.wy_elab_expr.specs.Operators.{Judgement, OperandTypes, is_void, is_nullable, is_boolean, fits_into, primitive_in, number_type, unary_type, unary_formed, unary_of, unary_known, operand_types, joins, joined, binary_known, binary_formed, binary_of, token_of, lazy_of, lazy_formed, choice_of, choice_formed, choice_result, cast_of, cast_form, cast_known, can_cast, instance_of, tested, is_assignable, truth_known, constant_of, value_known, common_type, known_or}
use Rattle.wy_elab_expr.specs.Members.{Spot, spot, int_type, types_of, some_void}
use Rattle.wy_elab_expr.specs.Elaboration.{assigned_value, assigned, updated, updated_in, updated_by, stepped, stepped_in, adds_text, left_primitive, element_spot, element_at, element_of, is_index, sizes_of}
use Rattle.law_refusals.specs.Alike.{AreAlike, SpotsAreAlike, spots, VariablesAreAlike, known}
use Rattle.law_refusals.specs.Alike as alike
use Rattle.law_refusals.proofs.Likewise.{Alike, Any, AnyRow, any_row, like_give, like_refuse, like_if, like_brought, like_formed, like_known_or, like_known_by, like_if_by, like_step, like_row, same_type, likely}

-- ---- operators

unary_by : (op : UnOp) (o : Option Primitive) (token : ℕ) {m n : Meaning} → AreAlike m n → Alike AreAlike (unary_formed op o m token) (unary_formed op o n token)
unary_by op Absent token h = like_refuse
unary_by op (Some p) token h = search (likely, h) depth 12

pub like_unary : (op : UnOp) (token : ℕ) {m n : Meaning} → AreAlike m n → Alike AreAlike (unary_of op m token) (unary_of op n token)
unfolding unary_of
like_unary op token (known {value = c} {token = k}) = like_known_or (unary_known op (Known c k)) token (unary_by op _ token known)
like_unary op token (alike.formed {e = e} {ty = ty}) = unary_by op (unary_type op ty) token alike.formed

like_joined : (token : ℕ) {a b c d : Meaning} → AreAlike a c → AreAlike b d → Alike AreAlike (joined a b token) (joined c d token)
like_joined token h i = search (likely, h, i) depth 12

binary_by : (op : BinOp) (o : Option OperandTypes) (token : ℕ) {a b c d : Meaning} → AreAlike a c → AreAlike b d → Alike AreAlike (binary_formed op o a b token) (binary_formed op o c d token)
binary_by op Absent token h i = like_refuse
binary_by op (Some types) token h i = search (likely, h, i) depth 12

pub like_binary : (j : Judgement) (t : Table) (op : BinOp) (token : ℕ) {a b c d : Meaning} → AreAlike a c → AreAlike b d → Alike AreAlike (binary_of j t op a b token) (binary_of j t op c d token)
unfolding binary_of
like_binary j t op token (known {value = x} {token = k}) (known {value = y} {token = l}) =
    like_known_or (binary_known op (Known x k) (Known y l)) k (like_if (joins op (type_of (Known x k)) (type_of (Known y l))) (like_joined token known known) (binary_by op _ token known known))
like_binary j t op token (known {value = x} {token = k}) (alike.formed {e = e} {f = f} {ty = ty}) =
    like_if (joins op (type_of (Known x k)) ty) (like_joined token known alike.formed) (binary_by op (operand_types j t op (type_of (Known x k)) ty) token known alike.formed)
like_binary j t op token (alike.formed {e = e} {f = f} {ty = ty}) (known {value = y} {token = l}) =
    like_if (joins op ty (type_of (Known y l))) (like_joined token alike.formed known) (binary_by op (operand_types j t op ty (type_of (Known y l))) token alike.formed known)
like_binary j t op token (alike.formed {ty = x}) (alike.formed {ty = y}) = like_if (joins op x y) (like_joined token alike.formed alike.formed) (binary_by op (operand_types j t op x y) token alike.formed alike.formed)

-- ---- `&&`, `||` and `?:`

like_lazy_formed : (form : CondForm) (token : ℕ) {a b c d : Meaning} → AreAlike a c → AreAlike b d → Alike AreAlike (lazy_formed form a b token) (lazy_formed form c d token)
like_lazy_formed form token h i = search (likely, h, i) depth 12

pub like_lazy : (form : CondForm) (f : Bool → Bool → Bool) (token : ℕ) {a b c d : Meaning} → AreAlike a c → AreAlike b d → Alike AreAlike (lazy_of form f a b token) (lazy_of form f c d token)
unfolding lazy_of
like_lazy form f token (known {value = x1} {token = k1}) (known {value = x2} {token = k2}) =
    like_known_or (combined f (truth_known (Known x1 k1)) (truth_known (Known x2 k2))) (token_of (Known x1 k1)) (like_if (is_boolean (type_of (Known x1 k1)) && is_boolean (type_of (Known x2 k2))) (like_lazy_formed form token known known) like_refuse)
like_lazy form f token (known {value = x1} {token = k1}) (alike.formed {e = e2} {f = f2} {ty = y2}) =
    like_known_or (combined f (truth_known (Known x1 k1)) (truth_known (Formed e2 y2))) (token_of (Known x1 k1)) (like_if (is_boolean (type_of (Known x1 k1)) && is_boolean (type_of (Formed e2 y2))) (like_lazy_formed form token known (alike.formed {e = e2} {f = f2} {ty = y2})) like_refuse)
like_lazy form f token (alike.formed {e = e1} {f = f1} {ty = y1}) (known {value = x2} {token = k2}) =
    like_known_or (combined f (truth_known (Formed e1 y1)) (truth_known (Known x2 k2))) (token_of (Formed e1 y1)) (like_if (is_boolean (type_of (Formed e1 y1)) && is_boolean (type_of (Known x2 k2))) (like_lazy_formed form token (alike.formed {e = e1} {f = f1} {ty = y1}) known) like_refuse)
like_lazy form f token (alike.formed {e = e1} {f = f1} {ty = y1}) (alike.formed {e = e2} {f = f2} {ty = y2}) =
    like_known_or (combined f (truth_known (Formed e1 y1)) (truth_known (Formed e2 y2))) (token_of (Formed e1 y1)) (like_if (is_boolean (type_of (Formed e1 y1)) && is_boolean (type_of (Formed e2 y2))) (like_lazy_formed form token (alike.formed {e = e1} {f = f1} {ty = y1}) (alike.formed {e = e2} {f = f2} {ty = y2})) like_refuse)

choice_by : (o : Option Ty) (token : ℕ) {z a b x c d : Meaning} → AreAlike z x → AreAlike a c → AreAlike b d → Alike AreAlike (choice_formed o z a b token) (choice_formed o x c d token)
choice_by Absent token h i k = like_refuse
choice_by (Some ty) token h i k = search (likely, h, i, k) depth 14

choice_by_equal : (o p : Option Ty) (token : ℕ) {z a b x c d : Meaning} → o ≡ p → AreAlike z x → AreAlike a c → AreAlike b d → Alike AreAlike (choice_formed o z a b token) (choice_formed p x c d token)
choice_by_equal o p token {z} {a} {b} {x} {c} {d} e h i k = let Q : Option Ty → Type 0 = λ y. Alike AreAlike (choice_formed o z a b token) (choice_formed y x c d token) in subst Q e (choice_by o token h i k)

same_truth : {m n : Meaning} → AreAlike m n → truth_known m ≡ truth_known n
same_truth known = refl
same_truth alike.formed = refl

same_constant : {m n : Meaning} → AreAlike m n → constant_of m ≡ constant_of n
same_constant known = refl
same_constant alike.formed = refl

same_token : {m n : Meaning} → AreAlike m n → token_of m ≡ token_of n
same_token known = refl
same_token alike.formed = refl

same_value : {m n : Meaning} → AreAlike m n → value_known m ≡ value_known n
same_value known = refl
same_value alike.formed = refl

-- the result of `?:` by the types and the values of its operands alone
result_by : (j : Judgement) (t : Table) (a b c d : Meaning) (o p : Option Primitive) → value_known a ≡ value_known c → value_known b ≡ value_known d → type_of a ≡ type_of c → type_of b ≡ type_of d → choice_result j t a o b p ≡ choice_result j t c o d p
result_by j t a b c d (Some p) (Some q) e f h i = ap (λ z. option_map primitive_type (choice_type p z q (value_known b))) e ∙ ap (λ z. option_map primitive_type (choice_type p (value_known c) q z)) f
result_by j t a b c d Absent Absent e f h i =
    ap (λ z. if is_nullable z && is_nullable (type_of b) then Some (common_type j t z (type_of b)) else Absent) h ∙ ap (λ z. if is_nullable (type_of c) && is_nullable z then Some (common_type j t (type_of c) z) else Absent) i
result_by j t a b c d (Some p) Absent e f h i = refl
result_by j t a b c d Absent (Some q) e f h i = refl

same_result : (j : Judgement) (t : Table) {a b c d : Meaning} → AreAlike a c → AreAlike b d → choice_result j t a (primitive_in (type_of a)) b (primitive_in (type_of b)) ≡ choice_result j t c (primitive_in (type_of c)) d (primitive_in (type_of d))
same_result j t {a} {b} {c} {d} h i =
    result_by j t a b c d (primitive_in (type_of a)) (primitive_in (type_of b)) (same_value h) (same_value i) (same_type h) (same_type i)
    ∙ ap (λ z. choice_result j t c (primitive_in z) d (primitive_in (type_of b))) (same_type h) ∙ ap (λ z. choice_result j t c (primitive_in (type_of c)) d (primitive_in z)) (same_type i)

like_known_at : (o p : Option ConstantValue) (k l : ℕ) {m n : Gets Meaning} → o ≡ p → k ≡ l → Alike AreAlike m n → Alike AreAlike (known_or o k m) (known_or p l n)
like_known_at o p k l {m} {n} e f h = let Q : ℕ → Type 0 = λ z. Alike AreAlike (known_or o k m) (known_or p z n) in subst Q f (like_known_by o p k e h)

pub like_choice : (j : Judgement) (t : Table) (token : ℕ) {z a b x c d : Meaning} → AreAlike z x → AreAlike a c → AreAlike b d → Alike AreAlike (choice_of j t z a b token) (choice_of j t x c d token)
unfolding choice_of
like_choice j t token {z} {a} {b} {x} {c} {d} h i k =
    like_known_at (choice_constant (truth_known z) (constant_of a) (constant_of b)) (choice_constant (truth_known x) (constant_of c) (constant_of d)) (token_of z) (token_of x)
    (ap (λ y. choice_constant y (constant_of a) (constant_of b)) (same_truth h) ∙ ap (λ y. choice_constant (truth_known x) y (constant_of b)) (same_constant i) ∙ ap (λ y. choice_constant (truth_known x) (constant_of c) y) (same_constant k)) (same_token h)
    (like_if_by (is_boolean (type_of z)) (is_boolean (type_of x)) (ap is_boolean (same_type h))
    (choice_by_equal (choice_result j t a (primitive_in (type_of a)) b (primitive_in (type_of b))) (choice_result j t c (primitive_in (type_of c)) d (primitive_in (type_of d))) token (same_result j t i k) h i k) like_refuse)

-- ---- casts and `instanceof`

cast_by : (to : Ty) (o : Option Primitive) (token : ℕ) {m n : Meaning} → AreAlike m n → Alike AreAlike (cast_form to o m token) (cast_form to o n token)
cast_by to (Some p) token h = search (likely, h) depth 12
cast_by to Absent token h = search (likely, h) depth 12

like_tested : (ty : Ty) {m n : Meaning} → AreAlike m n → Alike AreAlike (tested ty m) (tested ty n)
like_tested ty h = search (likely, h) depth 12

same_cast : (to : Ty) {m n : Meaning} → AreAlike m n → cast_known to m ≡ cast_known to n
same_cast to known = refl
same_cast (Of (Basic p) zero) alike.formed = refl
same_cast (Of (Basic p) (suc n)) alike.formed = refl
same_cast (Of (Named c) n) alike.formed = refl
same_cast Void alike.formed = refl
same_cast Null alike.formed = refl

pub like_cast : (j : Judgement) (t : Table) (to : Ty) (token : ℕ) {m n : Meaning} → AreAlike m n → Alike AreAlike (cast_of j t to m token) (cast_of j t to n token)
unfolding cast_of
like_cast j t to token {m} {n} h =
    like_if_by (is_void (type_of m)) (is_void (type_of n)) (ap is_void (same_type h)) like_refuse
    (like_known_by (cast_known to m) (cast_known to n) token (same_cast to h)
    (like_if_by (can_cast j t (type_of m) to) (can_cast j t (type_of n) to) (ap (λ z. can_cast j t z to) (same_type h)) (cast_by to (primitive_in to) token h) like_refuse))

pub like_instance : (j : Judgement) (t : Table) (ty : Ty) (token : ℕ) {m n : Meaning} → AreAlike m n → Alike AreAlike (instance_of j t ty m token) (instance_of j t ty n token)
unfolding instance_of
like_instance j t ty token {m} {n} h =
    like_if_by (is_void (type_of m)) (is_void (type_of n)) (ap is_void (same_type h)) like_refuse
    (like_if_by (is_nullable (type_of m) && is_nullable ty && can_cast j t (type_of m) ty) (is_nullable (type_of n) && is_nullable ty && can_cast j t (type_of n) ty) (ap (λ z. is_nullable z && is_nullable ty && can_cast j t z ty) (same_type h))
    (like_tested ty h) like_refuse)

-- ---- assignment

same_fit : (to : Ty) {m n : Meaning} → AreAlike m n → fits_into to m ≡ fits_into to n
same_fit to known = refl
same_fit (Of (Basic p) zero) alike.formed = refl
same_fit (Of (Basic p) (suc n)) alike.formed = refl
same_fit (Of (Named c) n) alike.formed = refl
same_fit Void alike.formed = refl
same_fit Null alike.formed = refl

same_assignable : (j : Judgement) (to : Ty) {m n : Meaning} → AreAlike m n → is_assignable j to m ≡ is_assignable j to n
unfolding is_assignable
same_assignable j to {m} {n} h = ap (λ z. not (is_void z) && (j.below z to || fits_into to m)) (same_type h) ∙ ap (λ z. not (is_void (type_of n)) && (j.below (type_of n) to || z)) (same_fit to h)

pub like_value : (j : Judgement) (ty : Ty) (token : ℕ) {m n : Meaning} → AreAlike m n → Alike Any (assigned_value j ty m token) (assigned_value j ty n token)
unfolding assigned_value
like_value j ty token {m} {n} h =
    like_if_by (is_void (type_of m)) (is_void (type_of n)) (ap is_void (same_type h)) like_refuse (like_if_by (is_assignable j ty m) (is_assignable j ty n) (same_assignable j ty h) (like_brought ty h) like_refuse)

like_refuse_by : {A : Type 0} {R : A → A → Type 0} (q r : Rule) {n : ℕ} → q ≡ r → Alike {A = A} R (refuse q n) (refuse r n)
like_refuse_by {A} {R} q r {n} e = let Q : Rule → Type 0 = λ z. Alike {A = A} R (refuse q n) (refuse z n) in subst Q e like_refuse

pub like_assigned : (j : Judgement) (token : ℕ) {p q : Option Spot} {m n : Meaning} → VariablesAreAlike p q → AreAlike m n → Alike AreAlike (assigned j p m token) (assigned j q n token)
unfolding assigned
like_assigned j token {m = m} {n = n} alike.none h = like_refuse_by (if is_void (type_of m) then BadOperand else BadAssign) (if is_void (type_of n) then BadOperand else BadAssign) (ap (λ z. if is_void z then BadOperand else BadAssign) (same_type h))
like_assigned j token {m = m} {n = n} (alike.some (spots {ty = ty} {is_fixed = fixed})) h =
    like_if_by (fixed && not (is_void (type_of m))) (fixed && not (is_void (type_of n))) (ap (λ z. fixed && not (is_void z)) (same_type h)) like_refuse (like_step (like_value j ty token h) (λ a b. like_give alike.formed))

updated_in_by : (op : BinOp) (o : Option Primitive) (token : ℕ) {p q : Spot} {m n : Meaning} → SpotsAreAlike p q → AreAlike m n → Alike AreAlike (updated_in op o p m token) (updated_in op o q n token)
updated_in_by op o token (spots {is_fixed = fixed}) h = like_if fixed like_refuse (like_step (like_formed h) (λ a b. like_give alike.formed))

updated_by_by : (op : BinOp) (o : Option Primitive) (token : ℕ) {p q : Spot} {m n : Meaning} → SpotsAreAlike p q → AreAlike m n → Alike AreAlike (updated_by o op p m token) (updated_by o op q n token)
updated_by_by op Absent token h i = like_refuse
updated_by_by op (Some r) token h i = updated_in_by op (Some r) token h i

updated_equal : (op : BinOp) (o r : Option Primitive) (token : ℕ) {p q : Spot} {m n : Meaning} → o ≡ r → SpotsAreAlike p q → AreAlike m n → Alike AreAlike (updated_by o op p m token) (updated_by r op q n token)
updated_equal op o r token {p} {q} {m} {n} e h i = let Q : Option Primitive → Type 0 = λ z. Alike AreAlike (updated_by o op p m token) (updated_by z op q n token) in subst Q e (updated_by_by op o token h i)

updated_some : (j : Judgement) (t : Table) (op : BinOp) (token : ℕ) (ty : Ty) {p q : Spot} {m n : Meaning} → p.ty ≡ ty → q.ty ≡ ty → SpotsAreAlike p q → AreAlike m n → Alike AreAlike (updated j t op (Some p) m token) (updated j t op (Some q) n token)
unfolding updated
updated_some j t op token ty {p} {q} {m} {n} e f h i =
    like_if_by (is_void (type_of m)) (is_void (type_of n)) (ap is_void (same_type i)) like_refuse
    (like_if_by (adds_text op p.ty (type_of m)) (adds_text op q.ty (type_of n)) (ap (λ z. adds_text op z (type_of m)) (e ∙ sym f) ∙ ap (λ z. adds_text op q.ty z) (same_type i)) (updated_in_by op Absent token h i)
    (updated_equal op (left_primitive j t op p.ty (type_of m)) (left_primitive j t op q.ty (type_of n)) token (ap (λ z. left_primitive j t op z (type_of m)) (e ∙ sym f) ∙ ap (λ z. left_primitive j t op q.ty z) (same_type i)) h i))

pub like_updated : (j : Judgement) (t : Table) (op : BinOp) (token : ℕ) {p q : Option Spot} {m n : Meaning} → VariablesAreAlike p q → AreAlike m n → Alike AreAlike (updated j t op p m token) (updated j t op q n token)
unfolding updated
like_updated j t op token {m = m} {n = n} alike.none h = like_refuse_by (if is_void (type_of m) then BadOperand else BadAssign) (if is_void (type_of n) then BadOperand else BadAssign) (ap (λ z. if is_void z then BadOperand else BadAssign) (same_type h))
like_updated j t op token (alike.some (spots {p = p} {q = q} {ty = ty} {is_fixed = fixed})) h = updated_some j t op token ty {p = spot p ty fixed} {q = spot q ty fixed} refl refl spots h

stepped_by : (o : Option Primitive) (op : BinOp) (gives_old : Bool) (token : ℕ) {p q : Spot} → SpotsAreAlike p q → Alike AreAlike (stepped_in o op gives_old p token) (stepped_in o op gives_old q token)
stepped_by Absent op gives_old token h = like_refuse
stepped_by (Some wide) op gives_old token (spots {is_fixed = fixed}) = like_if fixed like_refuse (like_give alike.formed)

pub like_stepped : (is_before is_up : Bool) (token : ℕ) {p q : Option Spot} → VariablesAreAlike p q → Alike AreAlike (stepped is_before is_up p token) (stepped is_before is_up q token)
unfolding stepped
like_stepped is_before is_up token alike.none = like_refuse
like_stepped is_before is_up token (alike.some (spots {ty = ty})) = stepped_by (number_type ty) (if is_up then Add else Sub) (not is_before) token spots

-- ---- elements and sizes

element_by : (o : Option Ty) (token : ℕ) {a i b k : Meaning} → AreAlike a b → AreAlike i k → Alike SpotsAreAlike (element_at o a i token) (element_at o b k token)
element_by Absent token h l = like_refuse
element_by (Some ty) token {i = i} {k = k} h l =
    like_if_by (is_index (type_of i)) (is_index (type_of k)) (ap is_index (same_type l)) (like_step (like_formed h) (λ x y. like_step (like_brought int_type l) (λ z w. like_give spots))) like_refuse

element_equal : (o p : Option Ty) (token : ℕ) {a i b k : Meaning} → o ≡ p → AreAlike a b → AreAlike i k → Alike SpotsAreAlike (element_at o a i token) (element_at p b k token)
element_equal o p token {a} {i} {b} {k} e h l = let Q : Option Ty → Type 0 = λ z. Alike SpotsAreAlike (element_at o a i token) (element_at z b k token) in subst Q e (element_by o token h l)

pub like_element : (token : ℕ) {a i b k : Meaning} → AreAlike a b → AreAlike i k → Alike SpotsAreAlike (element_spot a i token) (element_spot b k token)
unfolding element_spot
like_element token {a} {i} {b} {k} h l = element_equal (element_of (type_of a)) (element_of (type_of b)) token (ap element_of (same_type h)) h l

-- meanings in order
pub data AllAlike : List Meaning → List Meaning → Type 0 where
  nil : AllAlike [] []
  cons : {m n : Meaning} {ms ns : List Meaning} → AreAlike m n → AllAlike ms ns → AllAlike (m ∷ ms) (n ∷ ns)

pub like_sizes : (token : ℕ) {ms ns : List Meaning} → AllAlike ms ns → Alike AnyRow (sizes_of ms token) (sizes_of ns token)
unfolding sizes_of
like_sizes token nil = like_give any_row
like_sizes token (cons {m = m} {n = n} h rest) =
    like_if_by (is_index (type_of m)) (is_index (type_of n)) (ap is_index (same_type h)) (like_step (like_brought int_type h) (λ x y. like_row (like_sizes token rest) (λ z w. like_give any_row))) like_refuse

pub same_types : {ms ns : List Meaning} → AllAlike ms ns → types_of ms ≡ types_of ns
same_types nil = refl
same_types (cons {m = m} {n = n} {ms = ms} {ns = ns} h rest) = ap (λ z. z ∷ types_of ms) (same_type h) ∙ ap (λ z. type_of n ∷ z) (same_types rest)

pub same_void : {ms ns : List Meaning} → AllAlike ms ns → some_void ms ≡ some_void ns
same_void nil = refl
same_void (cons {m = m} {n = n} {ms = ms} {ns = ns} h rest) = ap (λ z. is_void z || some_void ms) (same_type h) ∙ ap (λ z. is_void (type_of n) || z) (same_void rest)

pub same_length : {ms ns : List Meaning} → AllAlike ms ns → length ms ≡ length ns
same_length nil = refl
same_length (cons h rest) = ap suc (same_length rest)
