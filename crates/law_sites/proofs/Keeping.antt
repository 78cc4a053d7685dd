-- What is made in a body has a property wherever it is made, and the locals that it declares have their sites where something holds.
use Rattle.std.proofs.Common.{◌≡◌, ap, refl, subst, ℕ, Bool, true, false, if◌then◌else◌, List, [], ◌∷◌, Result, Ok, Err}
use Rattle.std.specs.Prelude.{None}
use Rattle.std.specs.List.{AllByRecursion}
use Rattle.std.proofs.lemmas.List.Elements.{All-push}
use Rattle.wy_kernel.specs.declared.types.Ty.{Ty}
use Rattle.wy_kernel.specs.Program.{Local}
use Rattle.wy_syntax.specs.Syntax.{Named}
use Rattle.wy_constant.specs.declared.rule.Rule.{Rule}
use Rattle.wy_constant.specs.Refusal.{Refusal}
use Rattle.wy_constant.specs.Scope.{Scope, FixedText, opened, closed}
use Rattle.wy_constant.specs.Scope as scope
use Rattle.wy_elab_expr.specs.Meaning.{Gets}
use Rattle.wy_elab_body.specs.Making.{Making, Makes, give, refuse, onward, ◌>>=◌, each, expressed, after_texts, with_texts, changed, in_block, local, after_scope, declaring, rejoined, resumed}
use Rattle.law_structure.proofs.Yields.{Yields, ok_same, anything}
use Rattle.wy_typing.specs.Sites.{LocalsSited}

pub record Keeps (P : ℕ → Type 0) {A : Type 0} (f : Makes A) (Q : A → Type 0) : Type 0 where
  pub by : (s after : Making) (x : A) → LocalsSited P s.locals → f s ≡ Ok (x, after) → Q x × LocalsSited P after.locals

-- what is found, and the body after it
abbrev Both : (ℕ → Type 0) → {A : Type 0} → (A → Type 0) → A × Making → Type 0
Both P Q p = Q p.0 × LocalsSited P p.1.locals

pub given : {P : ℕ → Type 0} {A : Type 0} (Q : A → Type 0) (x : A) → Q x → Keeps P (give x) Q
given {P} Q x h = record { by = λ s after y l e. subst (Both P Q) (ok_same (x, s) (y, after) e) (h, l) }

pub refused_at : {P : ℕ → Type 0} {A : Type 0} (Q : A → Type 0) (rule : Rule) (token : ℕ) → Keeps P (refuse {A = A} rule token) Q
refused_at Q rule token = record { by = λ s after y l e. absurd cc }

goes_on : {P : ℕ → Type 0} {A B : Type 0} (g : A → Makes B) (Q : A → Type 0) (R : B → Type 0) (r : Result (A × Making) Refusal) → ((s : Making) (x : A) → r ≡ Ok (x, s) → Q x × LocalsSited P s.locals) → ((x : A) → Q x → Keeps P (g x) R) →
    (after : Making) (y : B) → onward g r ≡ Ok (y, after) → R y × LocalsSited P after.locals
goes_on g Q R (Ok p) h i after y e = let found = h p.1 p.0 refl in (i p.0 found.0).by p.1 after y found.1 e
goes_on g Q R (Err x) h i after y e = absurd cc

pub and_then : {P : ℕ → Type 0} {A B : Type 0} (f : Makes A) (g : A → Makes B) (Q : A → Type 0) (R : B → Type 0) → Keeps P f Q → ((x : A) → Q x → Keeps P (g x) R) → Keeps P (f >>= g) R
and_then f g Q R h i = record { by = λ s after y l e. goes_on g Q R (f s) (λ next x is. h.by s next x l is) i after y e }

-- whatever is found first
pub behind : {P : ℕ → Type 0} {A B : Type 0} (f : Makes A) (g : A → Makes B) (R : B → Type 0) → Keeps P f (λ x. Unit {0}) → ((x : A) → Keeps P (g x) R) → Keeps P (f >>= g) R
behind f g R h i = and_then f g (λ x. Unit {0}) R h (λ x is. i x)

pub of_choice : {P : ℕ → Type 0} {A : Type 0} (b : Bool) (f g : Makes A) (Q : A → Type 0) → Keeps P f Q → Keeps P g Q → Keeps P (if b then f else g) Q
of_choice true f g Q h i = h
of_choice false f g Q h i = i

-- ---- expressions

goes_after : (P : ℕ → Type 0) {A : Type 0} (Q : A → Type 0) (m : Making) (r : Result (A × List FixedText) Refusal) → LocalsSited P m.locals → ((s : List FixedText) (x : A) → r ≡ Ok (x, s) → Q x) →
    (after : Making) (y : A) → after_texts m r ≡ Ok (y, after) → Q y × LocalsSited P after.locals
goes_after P Q m (Ok p) l h after y e = subst (Both P Q) (ok_same (p.0, with_texts m p.1) (y, after) e) (h p.1 p.0 refl, l)
goes_after P Q m (Err x) l h after y e = absurd cc

pub of_expressed : {P : ℕ → Type 0} {A : Type 0} (f : Scope → Gets A) (Q : A → Type 0) → ((s : Scope) → Yields (f s) Q) → Keeps P (expressed f) Q
unfolding expressed
of_expressed {P} f Q h = record { by = λ m after y l e. goes_after P Q m (f m.scope m.texts) l (λ s x is. (h m.scope).by m.texts s x is) after y e }

-- nothing is asked of the expression
pub of_any : {P : ℕ → Type 0} {A : Type 0} (f : Scope → Gets A) → Keeps P (expressed f) (λ x. Unit {0})
of_any f = of_expressed f (λ x. Unit {0}) (λ s. anything (f s))

-- ---- blocks and variables

pub of_changed : {P : ℕ → Type 0} (f : Scope → Scope) → Keeps P (changed f) (λ x. Unit {0})
of_changed {P} f = record { by = λ s after y l e. subst (Both P (λ x. Unit {0})) (ok_same (tt, record s { scope = f s.scope }) (y, after) e) (tt, l) }

pub within_block : {P : ℕ → Type 0} {A : Type 0} (f : Makes A) (Q : A → Type 0) → Keeps P f Q → Keeps P (in_block f) Q
unfolding in_block
within_block f Q h =
    behind (changed opened) (λ begun. f >>= λ x. changed closed >>= λ ended. give x) Q (of_changed opened)
    (λ begun. and_then f (λ x. changed closed >>= λ ended. give x) Q Q h (λ x is. behind (changed closed) (λ ended. give x) Q (of_changed closed) (λ ended. given Q x is)))

after_local : (P : ℕ → Type 0) (m : Making) (l : Local) (r : Result Scope Refusal) → LocalsSited P m.locals → P l.site → (after : Making) (k : ℕ) → after_scope m l r ≡ Ok (k, after) → Unit {0} × LocalsSited P after.locals
after_local P m l (Ok s) all h after k e =
    subst (Both P (λ x. Unit {0})) (ok_same (m.scope.next, record m { scope = s; locals = _ }) (k, after) e) (tt, All-push (λ (x : Local). P x.site) m.locals l all h)
after_local P m l (Err x) all h after k e = absurd cc

-- a local has the token of its name as its site
pub of_declaring : {P : ℕ → Type 0} (n : Named) (ty : Ty) (is_fixed : Bool) → P n.token → Keeps P (declaring n ty is_fixed) (λ k. Unit {0})
unfolding declaring
of_declaring {P} n ty is_fixed h = record { by = λ m after k l e. after_local P m (local n.name n.token ty) (scope.declared m.scope n.name ty is_fixed None n.token) l h after k e }

-- ---- one after another

pub of_each : {P : ℕ → Type 0} {D A : Type 0} (f : D → Makes A) (R : D → Type 0) (Q : A → Type 0) → ((d : D) → R d → Keeps P (f d) Q) → (ds : List D) → AllByRecursion R ds → Keeps P (each f ds) (AllByRecursion Q)
unfolding each
of_each f R Q h [] hs = given (AllByRecursion Q) [] tt
of_each f R Q h (d ∷ rest) hs =
    and_then (f d) _ Q (AllByRecursion Q) (h d hs.0) (λ x is. and_then (each f rest) _ (AllByRecursion Q) (AllByRecursion Q) (of_each f R Q h rest hs.1) (λ xs are. given (AllByRecursion Q) (x ∷ xs) (is, are)))

-- ---- a body from its beginning on

goes_back : (P : ℕ → Type 0) {A : Type 0} (Q : A → Type 0) (r : Result (A × Making) Refusal) → ((s : Making) (x : A) → r ≡ Ok (x, s) → Q x × LocalsSited P s.locals) →
    (after : List FixedText) (y : A × Making) → rejoined r ≡ Ok (y, after) → Both P Q y
goes_back P {A} Q (Ok p) h after y e = let same : p ≡ y = ap (λ (q : (A × Making) × List FixedText). q.0) (ok_same (p, p.1.texts) (y, after) e) in subst (Both P Q) same (h p.1 p.0 refl)
goes_back P Q (Err x) h after y e = absurd cc

pub of_resumed : {P : ℕ → Type 0} {A : Type 0} (m : Making) (f : Makes A) (Q : A → Type 0) → LocalsSited P m.locals → Keeps P f Q → Yields (resumed m f) (λ p. Q p.0 × LocalsSited P p.1.locals)
unfolding resumed
of_resumed {P} m f Q l h = record { by = λ s after y e. goes_back P Q (f (record m { texts = s })) (λ next x is. h.by _ next x l is) after y e }
