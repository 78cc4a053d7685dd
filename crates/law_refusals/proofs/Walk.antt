-- What is refused only in some way: steps one after another, tests, and what is never refused.
use Rattle.std.proofs.Common.{◌≡◌, ◌∙◌, ap, subst, refl, ℕ, Bool, true, false, List, Result, Ok, Err, Option, Some}
use Rattle.std.specs.Prelude.{None as Absent}
use Rattle.std.specs.Prelude.{if◌then◌else◌}
use Rattle.wy_kernel.specs.declared.types.Ty.{Ty}
use Rattle.wy_kernel.specs.Table.{ConstantValue, Simple, Text}
use Rattle.wy_constant.specs.declared.rule.Rule.{Rule}
use Rattle.wy_constant.specs.Refusal.{Refusal, refused}
use Rattle.wy_constant.specs.Scope.{FixedText}
use Rattle.wy_elab_expr.specs.Meaning.{Meaning, Known, Formed, Gets, give, refuse, onward, ◌>>=◌, brought, formed, type_of}
use Rattle.wy_elab_expr.specs.Operators.{known_or}

-- what is sought is refused only where P holds of the refusal
pub record Only {A : Type 0} (P : Refusal → Type 0) (m : Gets A) : Type 0 where
  pub at : (texts : List FixedText) (x : Refusal) → m texts ≡ Err x → P x

no_error : {A : Type 0} (a : A) (x : Refusal) → Ok a ≡ Err x → ⊥
no_error a x h = cc

pub only_give : {A : Type 0} {P : Refusal → Type 0} {a : A} → Only P (give a)
only_give = record { at = λ texts x h. absurd (no_error _ x h) }

pub only_refuse : {A : Type 0} {P : Refusal → Type 0} {r : Rule} {n : ℕ} → P (refused r n) → Only {A = A} P (refuse r n)
only_refuse {P} {r} {n} p = record { at = λ texts x h. let same : refused r n ≡ x = cc in subst P same p }

pub only_if : {A : Type 0} {P : Refusal → Type 0} {b : Bool} {m n : Gets A} → (b ≡ true → Only P m) → (b ≡ false → Only P n) → Only P (if b then m else n)
only_if {b = true} f g = f refl
only_if {b = false} f g = g refl

data Stops {A B : Type 0} (m : Gets A) (f : A → Gets B) (texts : List FixedText) (x : Refusal) : Type 0 where
  at_first : m texts ≡ Err x → Stops m f texts x
  later : (a : A) (u : List FixedText) → m texts ≡ Ok (a, u) → f a u ≡ Err x → Stops m f texts x

stops_by : {A B : Type 0} (m : Gets A) (f : A → Gets B) (texts : List FixedText) (x : Refusal) (r : Result (A × List FixedText) Refusal) → m texts ≡ r → onward f r ≡ Err x → Stops m f texts x
stops_by m f texts x (Ok p) e h = later p.0 p.1 e h
stops_by m f texts x (Err y) e h = let same : y ≡ x = cc in at_first (e ∙ ap Err same)

only_by : {A B : Type 0} {P : Refusal → Type 0} {m : Gets A} {f : A → Gets B} → Only P m → ((a : A) (u v : List FixedText) → m u ≡ Ok (a, v) → Only P (f a)) →
    (texts : List FixedText) (x : Refusal) → Stops m f texts x → P x
only_by o g texts x (at_first e) = o.at texts x e
only_by o g texts x (later a u e h) = (g a texts u e).at u x h

pub only_bind : {A B : Type 0} {P : Refusal → Type 0} {m : Gets A} {f : A → Gets B} → Only P m → ((a : A) (u v : List FixedText) → m u ≡ Ok (a, v) → Only P (f a)) → Only P (m >>= f)
only_bind {m} {f} o g = record { at = λ texts x h. only_by o g texts x (stops_by m f texts x (m texts) refl h) }

pub only_weaker : {A : Type 0} {P Q : Refusal → Type 0} {m : Gets A} → ((x : Refusal) → P x → Q x) → Only P m → Only Q m
only_weaker g o = record { at = λ texts x h. g x (o.at texts x h) }

-- ---- what is never refused

pub only_brought : {P : Refusal → Type 0} (ty : Ty) (m : Meaning) → Only P (brought ty m)
unfolding brought
only_brought ty (Known (Text units) token) = record { at = λ texts x h. absurd (no_error _ x h) }
only_brought ty (Known (Simple c) token) = only_give
only_brought ty (Formed form from) = only_give

pub only_formed : {P : Refusal → Type 0} (m : Meaning) → Only P (formed m)
only_formed m = only_brought (type_of m) m

pub only_known_or : {P : Refusal → Type 0} (o : Option ConstantValue) (token : ℕ) {other : Gets Meaning} → (o ≡ Absent → Only P other) → Only P (known_or o token other)
only_known_or (Some c) token f = only_give
only_known_or Absent token f = f refl

pub ruleset walk = (only_give, only_refuse, only_if, only_bind, only_brought, only_formed, only_known_or)
