-- What is never made in a scope, and where what is made leads to one scope alone.
use Rattle.std.proofs.Common.{◌≡◌, ◌∙◌, ap, sym, subst, refl, ℕ, Bool, true, false, List, [], ◌∷◌, Result, Ok, Err, Option, Some}
use Rattle.std.specs.Prelude.{None as Absent}
use Rattle.std.specs.Prelude.{if◌then◌else◌}
use Rattle.wy_kernel.specs.declared.types.Ty.{Ty}
use Rattle.wy_syntax.specs.Syntax.{Named}
use Rattle.wy_constant.specs.declared.rule.Rule.{Rule}
use Rattle.wy_constant.specs.Refusal.{Refusal}
use Rattle.wy_constant.specs.Scope.{Scope, Variable, FixedText, denoted, opened, closed, with_variable, declared_as}
use Rattle.wy_elab_expr.specs.Meaning.{Gets}
use Rattle.wy_elab_body.specs.Making.{Making, Makes, give, refuse, onward, ◌>>=◌, each, expressed, changed, in_block, local, after_scope, declaring}
use Rattle.law_refusals.specs.Surroundings.{Leads}
use Rattle.law_refusals.proofs.Steps.{was_expressed}
use Rattle.law_refusals.proofs.Never.{Never}

-- ---- steps that give something

pub record Made {A B : Type 0} (f : Makes A) (k : A → Makes B) (m : Making) (b : B) (n : Making) : Type 0 where
  pub value : A
  pub between : Making
  pub first : f m ≡ Ok (value, between)
  pub second : k value between ≡ Ok (b, n)

made_by : {A B : Type 0} (f : Makes A) (k : A → Makes B) (m : Making) (b : B) (n : Making) (r : Result (A × Making) Refusal) → f m ≡ r → onward k r ≡ Ok (b, n) → Made f k m b n
made_by f k m b n (Ok p) e h = record { value = p.0; between = p.1; first = e; second = h }
made_by f k m b n (Err x) e h = absurd (cc)

pub made : {A B : Type 0} (f : Makes A) (k : A → Makes B) (m : Making) (b : B) (n : Making) → (f >>= k) m ≡ Ok (b, n) → Made f k m b n
made f k m b n e = made_by f k m b n (f m) refl e

pub onward_made : {A B : Type 0} (f : Makes A) (k : A → Makes B) (m n : Making) (a : A) → f m ≡ Ok (a, n) → (f >>= k) m ≡ k a n
onward_made f k m n a e = ap (onward k) e

-- ---- what leads to one scope

-- two runs from one scope give what is alike, and lead to one scope
pub record Steady {A : Type 0} (R : A → A → Type 0) (f g : Makes A) : Type 0 where
  pub at : (m n : Making) (a b : A) (c d : Making) → m.scope ≡ n.scope → f m ≡ Ok (a, c) → g n ≡ Ok (b, d) → R a b × (c.scope ≡ d.scope)

-- whatever they give
pub record Any {A : Type 0} (a b : A) : Type 0 where

pub any : {A : Type 0} {a b : A} → Any a b
any = record {}

pub steady_bind : {A B : Type 0} {R : A → A → Type 0} {S : B → B → Type 0} {f g : Makes A} {k l : A → Makes B} → Steady R f g → ((a b : A) → R a b → Steady S (k a) (l b)) → Steady S (f >>= k) (g >>= l)
steady_bind {f} {g} {k} {l} h i = record {
  at = λ m n a b c d same e o. (
      let x = made f k m a c e in
      let y = made g l n b d o in
      let r = h.at m n x.value y.value x.between y.between same x.first y.first in
      (i x.value y.value r.0).at x.between y.between a b c d r.1 x.second y.second);
}

pub steady_give : {A : Type 0} {R : A → A → Type 0} (a b : A) → R a b → Steady R (give a) (give b)
steady_give {A} {R} a b r = record {
  at = λ m n x y c d same e o. (
      let p : ◌≡◌ {A = A × Making} (a, m) (x, c) = cc in
      let q : ◌≡◌ {A = A × Making} (b, n) (y, d) = cc in
      let P : A → Type 0 = λ z. R z b in
      let Q : A → Type 0 = λ z. R x z in (
        subst Q (ap (λ (z : A × Making). z.0) q) (subst P (ap (λ (z : A × Making). z.0) p) r),
        sym (ap (λ (z : A × Making). z.1.scope) p) ∙ same ∙ ap (λ (z : A × Making). z.1.scope) q,
      ));
}

pub steady_refuse : {A : Type 0} {R : A → A → Type 0} {q r : Rule} {k l : ℕ} → Steady {A = A} R (refuse q k) (refuse r l)
steady_refuse = record { at = λ m n a b c d same e o. absurd (cc) }

pub steady_if : {A : Type 0} {R : A → A → Type 0} (x : Bool) {f g k l : Makes A} → Steady R f k → Steady R g l → Steady R (if x then f else g) (if x then k else l)
steady_if true h i = h
steady_if false h i = i

pub steady_any : {A : Type 0} {R : A → A → Type 0} {f g : Makes A} → Steady R f g → Steady Any f g
steady_any h = record { at = λ m n a b c d same e o. (any, (h.at m n a b c d same e o).1) }

pub steady_expressed : {A : Type 0} (f g : Scope → Gets A) → Steady Any (expressed f) (expressed g)
steady_expressed f g = record {
  at = λ m n a b c d same e o. (
      let x = was_expressed f m a c e in
      let y = was_expressed g n b d o in
      (any, x.same ∙ same ∙ sym y.same));
}

pub steady_changed : (f : Scope → Scope) → Steady Any (changed f) (changed f)
steady_changed f = record {
  at = λ m n a b c d same e o. (
      let p : ◌≡◌ {A = Unit {0} × Making} (tt, record m { scope = f m.scope }) (a, c) = cc in
      let q : ◌≡◌ {A = Unit {0} × Making} (tt, record n { scope = f n.scope }) (b, d) = cc in
      (any, sym (ap (λ (z : Unit {0} × Making). z.1.scope) p) ∙ ap f same ∙ ap (λ (z : Unit {0} × Making). z.1.scope) q));
}

pub steady_past : {B : Type 0} {S : B → B → Type 0} (f : Scope → Scope) (k l : Makes B) → Steady S k l → Steady S (changed f >>= λ x. k) (changed f >>= λ x. l)
steady_past f k l h = steady_bind {k = λ x. k} {l = λ x. l} (steady_changed f) (λ x y r. h)

pub steady_block : {A : Type 0} {R : A → A → Type 0} {f g : Makes A} → Steady R f g → Steady R (in_block f) (in_block g)
unfolding in_block
steady_block h = steady_bind (steady_changed opened) (λ x y r. steady_bind h (λ a b s. steady_bind (steady_changed closed) (λ u v q. steady_give a b s)))

pub steady_each : {D A : Type 0} (f : D → Makes A) → ((d : D) → Steady Any (f d) (f d)) → (xs : List D) → Steady Any (each f xs) (each f xs)
unfolding each
steady_each f h [] = steady_give _ _ any
steady_each f h (d ∷ rest) = steady_bind (h d) (λ a b r. steady_bind (steady_each f h rest) (λ as_ bs s. steady_give _ _ any))

-- what has been declared, and where that leads
record Declared (n : Named) (ty : Ty) (is_fixed : Bool) (m c : Making) : Type 0 where
  free : denoted m.scope n.name ≡ Absent
  leads : c.scope ≡ with_variable m.scope n.name ty is_fixed Absent

declared_by : (n : Named) (ty : Ty) (is_fixed : Bool) (m : Making) (k : ℕ) (c : Making) → (o : Option Variable) → denoted m.scope n.name ≡ o →
    after_scope m (local n.name n.token ty) (declared_as o m.scope n.name ty is_fixed Absent n.token) ≡ Ok (k, c) → Declared n ty is_fixed m c
declared_by n ty is_fixed m k c Absent e h =
    let s : Scope = with_variable m.scope n.name ty is_fixed Absent in
    let moved : ◌≡◌ {A = Result (ℕ × Making) Refusal} (after_scope m (local n.name n.token ty) (Ok s)) (Ok (k, c)) = h in
    record { free = e; leads = sym (scope_of moved) }
  where
    scope_of : {x y : ℕ × Making} → ◌≡◌ {A = Result (ℕ × Making) Refusal} (Ok x) (Ok y) → x.1.scope ≡ y.1.scope
    scope_of {x} {y} p = let q : x ≡ y = cc in ap (λ (z : ℕ × Making). z.1.scope) q
declared_by n ty is_fixed m k c (Some v) e h = absurd (cc)

declared : (n : Named) (ty : Ty) (is_fixed : Bool) (m : Making) (k : ℕ) (c : Making) → declaring n ty is_fixed m ≡ Ok (k, c) → Declared n ty is_fixed m c
unfolding declaring
declared n ty is_fixed m k c h = declared_by n ty is_fixed m k c (denoted m.scope n.name) refl h

pub steady_declaring : (n : Named) (ty : Ty) (is_fixed : Bool) → Steady Any (declaring n ty is_fixed) (declaring n ty is_fixed)
steady_declaring n ty is_fixed = record {
  at = λ x y a b c d same e o. (
      let p = declared n ty is_fixed x a c e in
      let q = declared n ty is_fixed y b d o in
      (any, p.leads ∙ ap (λ z. with_variable z n.name ty is_fixed Absent) same ∙ sym q.leads));
}

-- ---- what is never made in a scope

pub record NeverIn {A : Type 0} (s : Scope) (f : Makes A) : Type 0 where
  pub at : (m : Making) → m.scope ≡ s → (a : A) (c : Making) → f m ≡ Ok (a, c) → ⊥

pub in_refuse : {A : Type 0} {s : Scope} {r : Rule} {n : ℕ} → NeverIn {A = A} s (refuse r n)
in_refuse = record { at = λ m same a c e. cc }

pub in_if : {A : Type 0} {s : Scope} {x : Bool} {f g : Makes A} → (x ≡ true → NeverIn s f) → (x ≡ false → NeverIn s g) → NeverIn s (if x then f else g)
in_if {x = true} h i = h refl
in_if {x = false} h i = i refl

pub in_first : {A B : Type 0} {s : Scope} {f : Makes A} (k : A → Makes B) → NeverIn s f → NeverIn s (f >>= k)
in_first {f = f} k h = record { at = λ m same b n e. (let x = made f k m b n e in h.at m same x.value x.between x.first) }

pub in_bind : {A B : Type 0} {s between : Scope} {R : A → A → Type 0} (f : Makes A) (k : A → Makes B) → Leads f s between → Steady R f f → ((a : A) → NeverIn between (k a)) → NeverIn s (f >>= k)
in_bind f k l t h = record {
  at = λ m same b n e. (
      let x = made f k m b n e in
      let r = t.at m l.before x.value l.result x.between l.after (same ∙ sym l.begins) x.first l.made in
      (h x.value).at x.between (r.1 ∙ l.ends) b n x.second);
}

-- where it leads doesn't matter
pub in_later : {A B : Type 0} {s : Scope} (f : Makes A) (k : A → Makes B) → ((a : A) (m : Making) (n : Making) → m.scope ≡ s → f m ≡ Ok (a, n) → NeverIn n.scope (k a)) → NeverIn s (f >>= k)
in_later f k h = record { at = λ m same b n e. (let x = made f k m b n e in (h x.value m x.between same x.first).at x.between refl b n x.second) }

pub in_expressed : {A : Type 0} {s : Scope} (f : Scope → Gets A) → Never (f s) → NeverIn s (expressed f)
in_expressed {s} f h = record {
  at = λ m same a c e. (
      let x = was_expressed f m a c e in
      h.at m.texts a x.later (sym (ap (λ z. f z m.texts) same) ∙ x.found));
}

pub past_expressed : {A B : Type 0} {s : Scope} (f : Scope → Gets A) (k : A → Makes B) → ((a : A) (u v : List FixedText) → f s u ≡ Ok (a, v) → NeverIn s (k a)) → NeverIn s (expressed f >>= k)
past_expressed {s} f k h = record {
  at = λ m same b n e. (
      let y = made (expressed f) k m b n e in
      let x = was_expressed f m y.value y.between y.first in
      (h y.value m.texts x.later (sym (ap (λ z. f z m.texts) same) ∙ x.found)).at y.between (x.same ∙ same) b n y.second);
}

pub past_changed : {B : Type 0} {s : Scope} (f : Scope → Scope) (k : Unit {0} → Makes B) → NeverIn (f s) (k tt) → NeverIn s (changed f >>= k)
past_changed f k h = record { at = λ m same b n e. h.at (record m { scope = f m.scope }) (ap f same) b n e }

pub in_opened : {A : Type 0} {s : Scope} (f : Makes A) → NeverIn (opened s) f → NeverIn s (in_block f)
unfolding in_block
in_opened f h = past_changed opened (λ x. f >>= λ a. changed closed >>= λ y. give a) (in_first (λ a. changed closed >>= λ y. give a) h)

pub in_declared : {s : Scope} (n : Named) (ty : Ty) (is_fixed : Bool) (v : Variable) → denoted s n.name ≡ Some v → NeverIn s (declaring n ty is_fixed)
in_declared {s} n ty is_fixed v e = record {
  at = λ m same k c h. (
      let d = declared n ty is_fixed m k c h in
      let free : denoted s n.name ≡ Absent = sym (ap (λ z. denoted z n.name) same) ∙ d.free in
      let no : ⊥ = cc in
      no);
}

-- what is never made with something made of it is never made
pub in_unbuilt : {A B : Type 0} {s : Scope} (f : Makes A) (g : A → B) → NeverIn s (f >>= λ a. give (g a)) → NeverIn s f
in_unbuilt f g h = record { at = λ m same a c e. h.at m same (g a) c (onward_made f (λ x. give (g x)) m c a e) }
