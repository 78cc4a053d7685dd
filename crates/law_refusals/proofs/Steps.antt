-- What is made is refused only in some way: steps one after another, in the scopes that they lead to.
use Rattle.std.proofs.Common.{◌≡◌, ◌∙◌, ap, sym, subst, refl, ℕ, Bool, true, false, List, Result, Ok, Err, Option, Some}
use Rattle.std.specs.Prelude.{None as Absent}
use Rattle.std.specs.Prelude.{if◌then◌else◌}
use Rattle.wy_kernel.specs.declared.types.Ty.{Ty}
use Rattle.wy_syntax.specs.Syntax.{Named}
use Rattle.wy_constant.specs.declared.rule.Rule.{Rule}
use Rattle.wy_constant.specs.declared.rule.Rule.TheVariants.{Duplicate}
use Rattle.wy_constant.specs.Refusal.{Refusal, refused}
use Rattle.wy_constant.specs.Scope.{Scope, Variable, FixedText, denoted, opened, closed, declared_as}
use Rattle.wy_elab_expr.specs.Meaning.{Gets}
use Rattle.wy_elab_body.specs.Making.{Making, Makes, give, refuse, onward, ◌>>=◌, with_texts, after_texts, expressed, changed, in_block, local, after_scope, declaring}
use Rattle.law_refusals.proofs.Walk.{Only}
use Rattle.law_refusals.specs.Surroundings.{Leads}

-- what is made from here is refused only where P holds of the refusal
pub record OnlyFrom {A : Type 0} (P : Refusal → Type 0) (f : Makes A) (b : Making) : Type 0 where
  pub at : (x : Refusal) → f b ≡ Err x → P x

no_error : {A : Type 0} (a : A) (x : Refusal) → Ok a ≡ Err x → ⊥
no_error a x h = cc

pub from_give : {A : Type 0} {P : Refusal → Type 0} {a : A} {b : Making} → OnlyFrom P (give a) b
from_give = record { at = λ x h. absurd (no_error _ x h) }

pub from_refuse : {A : Type 0} {P : Refusal → Type 0} {r : Rule} {n : ℕ} {b : Making} → P (refused r n) → OnlyFrom {A = A} P (refuse r n) b
from_refuse {P} {r} {n} p = record { at = λ x h. let same : refused r n ≡ x = cc in subst P same p }

pub from_if : {A : Type 0} {P : Refusal → Type 0} {c : Bool} {f g : Makes A} {b : Making} → (c ≡ true → OnlyFrom P f b) → (c ≡ false → OnlyFrom P g b) → OnlyFrom P (if c then f else g) b
from_if {c = true} h k = h refl
from_if {c = false} h k = k refl

data Stops {A B : Type 0} (f : Makes A) (g : A → Makes B) (b : Making) (x : Refusal) : Type 0 where
  at_first : f b ≡ Err x → Stops f g b x
  later : (a : A) (c : Making) → f b ≡ Ok (a, c) → g a c ≡ Err x → Stops f g b x

stops_by : {A B : Type 0} (f : Makes A) (g : A → Makes B) (b : Making) (x : Refusal) (r : Result (A × Making) Refusal) → f b ≡ r → onward g r ≡ Err x → Stops f g b x
stops_by f g b x (Ok p) e h = later p.0 p.1 e h
stops_by f g b x (Err y) e h = let same : y ≡ x = cc in at_first (e ∙ ap Err same)

from_by : {A B : Type 0} {P : Refusal → Type 0} {f : Makes A} {g : A → Makes B} {b : Making} → OnlyFrom P f b → ((a : A) (c : Making) → f b ≡ Ok (a, c) → OnlyFrom P (g a) c) → (x : Refusal) → Stops f g b x → P x
from_by o k x (at_first e) = o.at x e
from_by o k x (later a c e h) = (k a c e).at x h

pub from_bind : {A B : Type 0} {P : Refusal → Type 0} {f : Makes A} {g : A → Makes B} {b : Making} → OnlyFrom P f b → ((a : A) (c : Making) → f b ≡ Ok (a, c) → OnlyFrom P (g a) c) → OnlyFrom P (f >>= g) b
from_bind {f} {g} {b} o k = record { at = λ x h. from_by o k x (stops_by f g b x (f b) refl h) }

pub from_weaker : {A : Type 0} {P Q : Refusal → Type 0} {f : Makes A} {b : Making} → ((x : Refusal) → P x → Q x) → OnlyFrom P f b → OnlyFrom Q f b
from_weaker g o = record { at = λ x h. g x (o.at x h) }

-- ---- expressions leave the scope as it is

expressed_by : {A : Type 0} (b : Making) (x : Refusal) (r : Result (A × List FixedText) Refusal) → after_texts b r ≡ Err x → r ≡ Err x
expressed_by b x (Ok p) h = absurd (no_error _ x h)
expressed_by b x (Err y) h = let same : y ≡ x = cc in ap Err same

pub from_expressed : {A : Type 0} {P : Refusal → Type 0} (f : Scope → Gets A) (b : Making) → Only P (f b.scope) → OnlyFrom P (expressed f) b
unfolding expressed
from_expressed f b o = record { at = λ x h. o.at b.texts x (expressed_by b x (f b.scope b.texts) h) }

-- what was found, and the scope after it
pub record Expressed {A : Type 0} (f : Scope → Gets A) (b : Making) (a : A) (c : Making) : Type 0 where
  pub later : List FixedText
  pub found : f b.scope b.texts ≡ Ok (a, later)
  pub same : c.scope ≡ b.scope

was_expressed_by : {A : Type 0} (f : Scope → Gets A) (b : Making) (a : A) (c : Making) (r : Result (A × List FixedText) Refusal) → f b.scope b.texts ≡ r → after_texts b r ≡ Ok (a, c) → Expressed f b a c
was_expressed_by {A} f b a c (Ok p) e h =
    let pair : (p.0, with_texts b p.1) ≡ (a, c) = cc in
    let first : p.0 ≡ a = ap (λ (z : A × Making). z.0) pair in
    record { later = p.1; found = e ∙ ap (λ z. Ok (z, p.1)) first; same = sym (ap (λ (z : A × Making). z.1.scope) pair) }
was_expressed_by f b a c (Err y) e h = absurd (cc)

pub was_expressed : {A : Type 0} (f : Scope → Gets A) (b : Making) (a : A) (c : Making) → expressed f b ≡ Ok (a, c) → Expressed f b a c
unfolding expressed
was_expressed f b a c h = was_expressed_by f b a c (f b.scope b.texts) refl h

pub bind_expressed : {A B : Type 0} {P : Refusal → Type 0} (f : Scope → Gets A) (g : A → Makes B) (b : Making) → Only P (f b.scope) → ((a : A) (c : Making) → Expressed f b a c → OnlyFrom P (g a) c) → OnlyFrom P (expressed f >>= g) b
bind_expressed f g b o k = from_bind {f = expressed f} {g = g} (from_expressed f b o) (λ a c e. k a c (was_expressed f b a c e))

pub from_changed : {P : Refusal → Type 0} (f : Scope → Scope) {b : Making} → OnlyFrom P (changed f) b
from_changed f = record { at = λ x h. absurd (no_error _ x h) }

-- ---- blocks

abbrev pub in_opened : Making → Making
in_opened b = record b { scope = opened b.scope }

block_by : {A : Type 0} {P : Refusal → Type 0} (f : Makes A) (b : Making) (x : Refusal) → OnlyFrom P f (in_opened b) → Stops f (λ y. changed closed >>= λ ended. give y) (in_opened b) x → P x
block_by f b x o (at_first e) = o.at x e
block_by f b x o (later a c e h) = absurd (no_error _ x h)

pub from_block : {A : Type 0} {P : Refusal → Type 0} (f : Makes A) (b : Making) → OnlyFrom P f (in_opened b) → OnlyFrom P (in_block f) b
unfolding in_block
from_block f b o = record { at = λ x h. block_by f b x o (stops_by f (λ y. changed closed >>= λ ended. give y) (in_opened b) x (f (in_opened b)) refl h) }

-- ---- variables

declaring_by : (P : Refusal → Type 0) (n : Named) (ty : Ty) (is_fixed : Bool) (b : Making) → ((v : Variable) → denoted b.scope n.name ≡ Some v → P (refused Duplicate n.token)) → (o : Option Variable) → denoted b.scope n.name ≡ o →
    (x : Refusal) → after_scope b (local n.name n.token ty) (declared_as o b.scope n.name ty is_fixed Absent n.token) ≡ Err x → P x
declaring_by P n ty is_fixed b f Absent e x h = absurd (no_error _ x h)
declaring_by P n ty is_fixed b f (Some v) e x h = let same : refused Duplicate n.token ≡ x = cc in subst P same (f v e)

pub from_declaring : {P : Refusal → Type 0} (n : Named) (ty : Ty) (is_fixed : Bool) (b : Making) → ((v : Variable) → denoted b.scope n.name ≡ Some v → P (refused Duplicate n.token)) → OnlyFrom P (declaring n ty is_fixed) b
unfolding declaring
from_declaring {P} n ty is_fixed b f = record { at = λ x h. declaring_by P n ty is_fixed b f (denoted b.scope n.name) refl x h }

-- ---- what leads where

pub leading : {A : Type 0} (f : Makes A) (b : Making) (a : A) (c : Making) → f b ≡ Ok (a, c) → Leads f b.scope c.scope
leading f b a c e = record { before = b; after = c; result = a; made = e; begins = refl; ends = refl }
