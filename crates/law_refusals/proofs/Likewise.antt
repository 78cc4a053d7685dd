-- What is sought alike is found alike, whatever texts stand before it.
use Rattle.std.proofs.Common.{◌≡◌, subst, refl, ℕ, Bool, true, false, List, Result, Ok, Err, Option, Some}
use Rattle.std.specs.Prelude.{None as Absent}
use Rattle.std.specs.Prelude.{if◌then◌else◌}
use Rattle.wy_kernel.specs.Form as kernel
use Rattle.wy_kernel.specs.declared.types.Ty.{Ty}
use Rattle.wy_kernel.specs.Table.{ConstantValue, Simple, Text}
use Rattle.wy_constant.specs.declared.rule.Rule.{Rule}
use Rattle.wy_constant.specs.Refusal.{Refusal}
use Rattle.wy_constant.specs.Scope.{FixedText}
use Rattle.wy_elab_expr.specs.Meaning.{Meaning, Gets, give, refuse, onward, ◌>>=◌, brought, formed, type_of}
use Rattle.wy_elab_expr.specs.Operators.{known_or}
use Rattle.law_refusals.specs.Alike.{AreAlike, known}
use Rattle.law_refusals.specs.Alike as alike

pub data Same {A : Type 0} (R : A → A → Type 0) : Result (A × List FixedText) Refusal → Result (A × List FixedText) Refusal → Type 0 where
  both_given : {a b : A} {u v : List FixedText} → R a b → Same R (Ok (a, u)) (Ok (b, v))
  both_refused : {x : Refusal} → Same R (Err x) (Err x)

pub record Alike {A : Type 0} (R : A → A → Type 0) (m n : Gets A) : Type 0 where
  pub at : (u v : List FixedText) → Same R (m u) (n v)

pub like_give : {A : Type 0} {R : A → A → Type 0} {a b : A} → R a b → Alike R (give a) (give b)
like_give r = record { at = λ u v. both_given r }

pub like_refuse : {A : Type 0} {R : A → A → Type 0} {r : Rule} {n : ℕ} → Alike {A = A} R (refuse r n) (refuse r n)
like_refuse = record { at = λ u v. both_refused }

pub like_if : {A : Type 0} {R : A → A → Type 0} (b : Bool) {m n k l : Gets A} → Alike R m k → Alike R n l → Alike R (if b then m else n) (if b then k else l)
like_if true h i = h
like_if false h i = i

like_onward : {A B : Type 0} {R : A → A → Type 0} {S : B → B → Type 0} (f g : A → Gets B) (x y : Result (A × List FixedText) Refusal) → Same R x y → ((a b : A) → R a b → Alike S (f a) (g b)) → Same S (onward f x) (onward g y)
like_onward f g _ _ (both_given {a = a} {b = b} {u = u} {v = v} r) h = (h a b r).at u v
like_onward f g _ _ both_refused h = both_refused

pub like_bind : {A B : Type 0} {R : A → A → Type 0} {S : B → B → Type 0} {m n : Gets A} {f g : A → Gets B} → Alike R m n → ((a b : A) → R a b → Alike S (f a) (g b)) → Alike S (m >>= f) (n >>= g)
like_bind {m} {n} {f} {g} h k = record { at = λ u v. like_onward f g (m u) (n v) (h.at u v) k }

-- forms may be any
pub record Any (x y : kernel.Expression) : Type 0 where

pub any : {x y : kernel.Expression} → Any x y
any = record {}

pub record AnyRow (x y : kernel.Row) : Type 0 where

pub any_row : {x y : kernel.Row} → AnyRow x y
any_row = record {}

pub like_brought : (ty : Ty) {m n : Meaning} → AreAlike m n → Alike Any (brought ty m) (brought ty n)
unfolding brought
like_brought ty (known {value = Text units} {token = token}) = record { at = λ u v. both_given any }
like_brought ty (known {value = Simple c} {token = token}) = like_give any
like_brought ty alike.formed = like_give any

-- with a form, or forms, that may be any
pub like_step : {B : Type 0} {S : B → B → Type 0} {m n : Gets kernel.Expression} {f g : kernel.Expression → Gets B} → Alike Any m n → ((a b : kernel.Expression) → Alike S (f a) (g b)) → Alike S (m >>= f) (n >>= g)
like_step h k = like_bind h (λ a b r. k a b)

pub like_row : {B : Type 0} {S : B → B → Type 0} {m n : Gets kernel.Row} {f g : kernel.Row → Gets B} → Alike AnyRow m n → ((a b : kernel.Row) → Alike S (f a) (g b)) → Alike S (m >>= f) (n >>= g)
like_row h k = like_bind h (λ a b r. k a b)

pub same_type : {m n : Meaning} → AreAlike m n → type_of m ≡ type_of n
same_type known = refl
same_type alike.formed = refl

pub like_formed : {m n : Meaning} → AreAlike m n → Alike Any (formed m) (formed n)
like_formed known = like_brought _ known
like_formed alike.formed = like_brought _ alike.formed

pub like_known_or : (o : Option ConstantValue) (token : ℕ) {m n : Gets Meaning} → Alike AreAlike m n → Alike AreAlike (known_or o token m) (known_or o token n)
like_known_or (Some c) token h = like_give known
like_known_or Absent token h = h

-- the same by an equation
pub like_known_by : (o p : Option ConstantValue) (token : ℕ) {m n : Gets Meaning} → o ≡ p → Alike AreAlike m n → Alike AreAlike (known_or o token m) (known_or p token n)
like_known_by o p token {m} {n} e h = let Q : Option ConstantValue → Type 0 = λ z. Alike AreAlike (known_or o token m) (known_or z token n) in subst Q e (like_known_or o token h)

pub like_if_by : {A : Type 0} {R : A → A → Type 0} (b c : Bool) {m n k l : Gets A} → b ≡ c → Alike R m k → Alike R n l → Alike R (if b then m else n) (if c then k else l)
like_if_by {R} b c {m} {n} {k} {l} e h i = let Q : Bool → Type 0 = λ z. Alike R (if b then m else n) (if z then k else l) in subst Q e (like_if b h i)

pub ruleset likely = (like_give, like_refuse, like_if, like_step, like_row, like_brought, like_formed, any, any_row, alike.known, alike.formed)
