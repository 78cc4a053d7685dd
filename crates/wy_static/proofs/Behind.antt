-- Lists one behind another, and the forms of statements that give none.
use Rattle.std.proofs.Common.{◌≡◌, ℕ, ◌+◌, Bool, sym, ap, ◌∙◌, ⊎_elim, ◌⊎◌, ◌≤◌, List, [], ◌++◌, ◌∷◌, length, take, map, Option, Result, Ok, Err, OnOk, append_assoc, arith}
use Rattle.std.specs.List.{flat_map, range_with_len}
use Rattle.std.proofs.lemmas.List.Concat.{flat_map-append}
use Rattle.std.proofs.lemmas.List.Folds.{flat_map-map}
use Rattle.std.proofs.lemmas.List.FromFn.{map-range_with_len_more}
use Rattle.std.proofs.lemmas.List.{append-nil, map-append, take_all}
use Rattle.wy_kernel.specs.declared.types.Ty.{Ty}
use Rattle.wy_kernel.specs.declared.form.Expr.{Expr}
use Rattle.wy_kernel.specs.declared.form.StmtForm.{StmtForm}
use Rattle.wy_kernel.specs.declared.form.StmtForm.TheVariants as form
use Rattle.wy_kernel.specs.Form as plain
use Rattle.wy_kernel.specs.View.{act}
use Rattle.wy_kernel.proofs.Views.{view_eval, view_declare, view_jump, view_return, view_throw, view_print}

pub behind : {X : Type 0} (old mid new xs ys : List X) → mid ≡ old ++ xs → new ≡ mid ++ ys → new ≡ old ++ (xs ++ ys)
behind {X} old mid new xs ys e f = f ∙ ap (λ (l : List X). l ++ ys) e ∙ append_assoc old xs ys

pub behind_on : {X U E : Type 0} (r : Result U E) (old mid new xs ys : List X) → mid ≡ old ++ xs → OnOk r (new ≡ mid ++ ys) → OnOk r (new ≡ old ++ (xs ++ ys))
behind_on (Ok u) old mid new xs ys e f = behind old mid new xs ys e f
behind_on (Err x) old mid new xs ys e f = f

-- what a form gives, by what the form says
pub at : {X A U E : Type 0} (f : A → List X) (r : Result U E) (old new : List X) (a b : A) → a ≡ b → OnOk r (new ≡ old ++ f b) → OnOk r (new ≡ old ++ f a)
at f (Ok u) old new a b is e = e ∙ ap (λ x. old ++ f x) (sym is)
at f (Err x) old new a b is e = e

-- a form that gives nothing
pub leaf : {X A : Type 0} (f : A → List X) (old : List X) (a b : A) → a ≡ b → f b ≡ [] → old ≡ old ++ f a
leaf f old a b is none = sym (append-nil old) ∙ ap (λ l. old ++ l) (sym (ap f is ∙ none))

-- a list that grew by one, as it is seen
pub seen_more : {X Y : Type 0} (f : X → Y) (old mid : List X) (x : X) → mid ≡ old ++ x ∷ [] → map f mid ≡ map f old ++ f x ∷ []
seen_more f old mid x e = ap (map f) e ∙ map-append f old (x ∷ [])

pub all_of : {X Y : Type 0} (f : X → List Y) (xs : List X) (i : ℕ) → length xs ≤ i → flat_map f (take i xs) ≡ flat_map f xs
all_of f xs i le = ap (flat_map f) (take_all i xs le)

-- what one more number gives
pub range_more : {X : Type 0} (f : ℕ → List X) (n : ℕ) → flat_map f (range_with_len 0 (n + 1)) ≡ flat_map f (range_with_len 0 n) ++ f n
range_more {X} f n =
    sym (flat_map-map f (λ x. x) (range_with_len 0 (n + 1)))
    ∙ ap (flat_map f) (map-range_with_len_more (λ x. x) 0 n n (omega arith))
    ∙ flat_map-append f (map (λ x. x) (range_with_len 0 n)) (n ∷ [])
    ∙ ap (λ (l : List X). l ++ (f n ++ [])) (flat_map-map f (λ x. x) (range_with_len 0 n))
    ∙ ap (λ (l : List X). flat_map f (range_with_len 0 n) ++ l) (append-nil (f n))

pub one_more_number : {X : Type 0} (f : ℕ → List X) (old out mid : List X) (n : ℕ) → out ≡ old ++ flat_map f (range_with_len 0 n) → mid ≡ out ++ f n → mid ≡ old ++ flat_map f (range_with_len 0 (n + 1))
one_more_number {X} f old out mid n e g = g ∙ ap (λ (l : List X). l ++ f n) e ∙ append_assoc old (flat_map f (range_with_len 0 n)) (f n) ∙ ap (λ l. old ++ l) (sym (range_more f n))

-- a form in which no statement stands
abbrev pub IsLeaf : StmtForm → Type 0
IsLeaf s = ((value : Expr) × (s ≡ form.Eval value)) ⊎ (((local : ℕ) × (s ≡ form.Declare local)) ⊎ (((target : ℕ) × (s ≡ form.Jump target)) ⊎ (((value : Option Expr) × (s ≡ form.Return value))
    ⊎ (((value : Expr) × (s ≡ form.Throw value)) ⊎ ((operand : Option Expr) × (ty : Ty) × (ends_line : Bool) × (site : ℕ) × (s ≡ form.Print operand ty ends_line site))))))

-- what gives nothing at these forms
pub record Leaves {X : Type 0} (f : plain.Act → List X) : Type 0 where
  pub eval : (value : plain.Expression) → f (plain.Eval value) ≡ []
  pub declare : (local : ℕ) → f (plain.Declare local) ≡ []
  pub jump : (target : ℕ) → f (plain.Jump target) ≡ []
  pub return_ : (value : plain.Part) → f (plain.Return value) ≡ []
  pub throw : (value : plain.Expression) → f (plain.Throw value) ≡ []
  pub print : (operand : plain.Part) (ty : Ty) (ends_line : Bool) (site : ℕ) → f (plain.Print operand ty ends_line site) ≡ []

pub leaf_has_none : {X : Type 0} (f : plain.Act → List X) → Leaves f → (old : List X) (s : StmtForm) → IsLeaf s → old ≡ old ++ f (act s)
leaf_has_none f none old s =
    ⊎_elim (λ h. leaf f old (act s) _ (ap act h.1 ∙ view_eval _) (none.eval _))
    (⊎_elim (λ h. leaf f old (act s) _ (ap act h.1 ∙ view_declare _) (none.declare _))
    (⊎_elim (λ h. leaf f old (act s) _ (ap act h.1 ∙ view_jump _) (none.jump _))
    (⊎_elim (λ h. leaf f old (act s) _ (ap act h.1 ∙ view_return _) (none.return_ _))
    (⊎_elim (λ h. leaf f old (act s) _ (ap act h.1 ∙ view_throw _) (none.throw _))
    (λ h. leaf f old (act s) _ (ap act h.4 ∙ view_print _ _ _ _) (none.print _ _ _ _))))))
