-- What never has a meaning: steps one after another, and tests.
use Rattle.std.proofs.Common.{◌≡◌, ◌∙◌, ap, refl, ℕ, Bool, true, false, List, Ok, Option, Some}
use Rattle.std.specs.Prelude.{if◌then◌else◌}
use Rattle.std.specs.Prelude.{None as Absent}
use Rattle.wy_kernel.specs.Table.{ConstantValue}
use Rattle.wy_constant.specs.declared.rule.Rule.{Rule}
use Rattle.wy_constant.specs.Scope.{FixedText}
use Rattle.wy_elab_expr.specs.Meaning.{Meaning, Gets, give, refuse, onward, ◌>>=◌}
use Rattle.wy_elab_expr.specs.Members.{Spot}
use Rattle.wy_elab_expr.specs.Operators.{known_or}
use Rattle.law_refusals.proofs.ExpressionParts.{gives}

-- what is sought is refused, whatever texts stand before it
pub record Never {A : Type 0} (m : Gets A) : Type 0 where
  pub at : (u : List FixedText) (a : A) (v : List FixedText) → m u ≡ Ok (a, v) → ⊥

pub never_refuse : {A : Type 0} {r : Rule} {n : ℕ} → Never {A = A} (refuse r n)
never_refuse = record { at = λ u a v e. cc }

pub never_if : {A : Type 0} {b : Bool} {m n : Gets A} → (b ≡ true → Never m) → (b ≡ false → Never n) → Never (if b then m else n)
never_if {b = true} f g = f refl
never_if {b = false} f g = g refl

pub never_then : {A : Type 0} (b : Bool) {m : Gets A} (n : Gets A) → b ≡ true → Never m → Never (if b then m else n)
never_then true n e h = h
never_then false n e h = absurd (cc)

pub never_else : {A : Type 0} (b : Bool) (m : Gets A) {n : Gets A} → b ≡ false → Never n → Never (if b then m else n)
never_else true m e h = absurd (cc)
never_else false m e h = h

pub never_bind : {A B : Type 0} (m : Gets A) (f : A → Gets B) → ((a : A) (u v : List FixedText) → m u ≡ Ok (a, v) → Never (f a)) → Never (m >>= f)
never_bind m f h = record { at = λ u b v e. (let g = gives m f u v b e in (h g.value u g.between g.first).at g.between b v g.second) }

pub never_first : {A B : Type 0} {m : Gets A} (f : A → Gets B) → Never m → Never (m >>= f)
never_first {m} f h = never_bind m f (λ a u v e. absurd (h.at u a v e))

pub never_known_or : (o : Option ConstantValue) (token : ℕ) {other : Gets Meaning} → ((c : ConstantValue) → o ≡ Some c → ⊥) → Never other → Never (known_or o token other)
never_known_or (Some c) token h k = absurd (h c refl)
never_known_or Absent token h k = k

-- ---- where a variable is found, its value is found too

pub record Reads (m : Gets (Option Spot)) (n : Gets Meaning) : Type 0 where
  pub at : (u : List FixedText) (p : Spot) (v : List FixedText) → m u ≡ Ok (Some p, v) → (q : Meaning) × (n u ≡ Ok (q, v))

no_spot : (p : Spot) (u v : List FixedText) → give Absent u ≡ Ok (Some p, v) → ⊥
no_spot p u v e = let pair : ◌≡◌ {A = Option Spot × List FixedText} (Absent, u) (Some p, v) = cc in let none : Absent ≡ Some p = ap (λ (z : Option Spot × List FixedText). z.0) pair in cc

pub reads_none : {n : Gets Meaning} → Reads (give Absent) n
reads_none = record { at = λ u p v e. absurd (no_spot p u v e) }

onward_is : {A B : Type 0} (m : Gets A) (f : A → Gets B) (u v : List FixedText) (a : A) → m u ≡ Ok (a, v) → (m >>= f) u ≡ f a v
onward_is m f u v a e = ap (onward f) e

pub never_unbuilt : {A B C : Type 0} (m : Gets A) (f : A → Gets B) (g : B → C) → Never (m >>= λ a. f a >>= λ b. give (g b)) → Never (m >>= f)
never_unbuilt m f g n = record {
  at = λ u b v e. (
      let k = gives m f u v b e in
      n.at u (g b) v (onward_is m (λ a. f a >>= λ b. give (g b)) u k.between k.value k.first ∙ onward_is (f k.value) (λ b. give (g b)) k.between v b k.second));
}

pub never_built : {A B C : Type 0} (m : Gets A) (f : A → Gets B) (g : B → Gets C) → Never (m >>= f) → Never (m >>= λ a. f a >>= g)
never_built m f g n = record {
  at = λ u c v e. (
      let k = gives m (λ a. f a >>= g) u v c e in
      let l = gives (f k.value) g k.between v c k.second in
      n.at u l.value l.between (onward_is m f u k.between k.value k.first ∙ l.first));
}

pub reads_bind : {A : Type 0} (m : Gets A) {f : A → Gets (Option Spot)} {g : A → Gets Meaning} → ((a : A) → Reads (f a) (g a)) → Reads (m >>= f) (m >>= g)
reads_bind m {f} {g} h = record {
  at = λ u p v e. (
      let k = gives m f u v (Some p) e in
      let r = (h k.value).at k.between p v k.second in
      (r.0, onward_is m g u k.between k.value k.first ∙ r.1));
}

given_pair : {A : Type 0} (a b : A) (u v : List FixedText) → give a u ≡ Ok (b, v) → u ≡ v
given_pair {A} a b u v e =
    let pair : (a, u) ≡ (b, v) = cc in
    ap (λ (z : A × List FixedText). z.1) pair

pub reads_spot : (m : Gets Spot) (h : Spot → Meaning) → Reads (m >>= λ p. give (Some p)) (m >>= λ p. give (h p))
reads_spot m h = record {
  at = λ u p v e. (
      let k = gives m (λ p. give (Some p)) u v (Some p) e in
      (h k.value, onward_is m (λ p. give (h p)) u k.between k.value k.first ∙ ap (λ z. Ok (h k.value, z)) (given_pair (Some k.value) (Some p) k.between v k.second)));
}

pub reads_if : (b : Bool) {m n : Gets (Option Spot)} {k : Gets Meaning} → (b ≡ true → Reads m k) → (b ≡ false → Reads n k) → Reads (if b then m else n) k
reads_if true f g = f refl
reads_if false f g = g refl

pub reads_never : {m : Gets (Option Spot)} {n : Gets Meaning} → Never m → Reads m n
reads_never h = record { at = λ u p v e. absurd (h.at u (Some p) v e) }

pub reads_else : (b : Bool) {m : Gets (Option Spot)} (n : Gets Meaning) {k : Gets Meaning} → b ≡ false → Reads m k → Reads m (if b then n else k)
reads_else true n e h = absurd (cc)
reads_else false n e h = h

spot_by : {B : Type 0} {m : Gets (Option Spot)} {n : Gets Meaning} (f : Option Spot → Gets B) → Reads m n → Never n → Never (f Absent) → (o : Option Spot) (u v : List FixedText) → m u ≡ Ok (o, v) → Never (f o)
spot_by f r h k (Some p) u v e = let q = r.at u p v e in absurd (h.at u q.0 v q.1)
spot_by f r h k Absent u v e = k

-- what follows a variable is refused where there is none, and where its value is never found
pub never_spot : {B : Type 0} {m : Gets (Option Spot)} {n : Gets Meaning} (f : Option Spot → Gets B) → Reads m n → Never n → Never (f Absent) → Never (m >>= f)
never_spot {m} {n} f r h k = never_bind m f (spot_by f r h k)
