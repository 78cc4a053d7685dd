-- What is made, step by step, has a property wherever it is made.
use Rattle.std.proofs.Common.{◌≡◌, ap, subst, refl, ℕ, Bool, true, false, if◌then◌else◌, List, [], ◌∷◌, Result, Ok, Err}
use Rattle.std.specs.Prelude.{Option, Some, None}
use Rattle.std.specs.List.{All}
use Rattle.std.proofs.lemmas.List.Elements.{All-nil, All-cons}
use Rattle.wy_constant.specs.declared.rule.Rule.{Rule}
use Rattle.wy_constant.specs.Refusal.{Refusal}
use Rattle.wy_constant.specs.Scope.{Scope, FixedText, opened, closed}
use Rattle.wy_elab_expr.specs.Meaning.{Gets}
use Rattle.wy_elab_expr.specs.Meaning as found
use Rattle.wy_elab_body.specs.Making.{Making, Makes, give, refuse, onward, ◌>>=◌, each, expressed, after_texts, with_texts, changed, in_block, rejoined, resumed}

pub record Yields {S A : Type 0} (f : S → Result (A × S) Refusal) (P : A → Type 0) : Type 0 where
  pub by : (s after : S) (x : A) → f s ≡ Ok (x, after) → P x

abbrev pub found_ok : {X : Type 0} → X → Result X Refusal
found_ok x = Ok x

pub ok_same : {X : Type 0} (p q : X) → found_ok p ≡ Ok q → p ≡ q
ok_same p q e = cc

pub given : {S A : Type 0} (P : A → Type 0) (x : A) → P x → Yields (λ (s : S). found_ok (x, s)) P
given {S} {A} P x h = record { by = λ s after y e. let same : x ≡ y = ap (λ (p : A × S). p.0) (ok_same (x, s) (y, after) e) in subst P same h }

pub refused_at : {A : Type 0} (P : A → Type 0) (rule : Rule) (token : ℕ) → Yields (refuse {A = A} rule token) P
refused_at P rule token = record { by = λ s after y e. absurd cc }

-- nothing is asked of it
pub anything : {S A : Type 0} (f : S → Result (A × S) Refusal) → Yields f (λ x. Unit {0})
anything f = record { by = λ s after x e. tt }

pub weaker : {S A : Type 0} (f : S → Result (A × S) Refusal) (P Q : A → Type 0) → Yields f P → ((x : A) → P x → Q x) → Yields f Q
weaker f P Q h i = record { by = λ s after x e. i x (h.by s after x e) }

goes_on : {A B : Type 0} (g : A → Makes B) (P : A → Type 0) (Q : B → Type 0) (r : Result (A × Making) Refusal) → ((s : Making) (x : A) → r ≡ Ok (x, s) → P x) → ((x : A) → P x → Yields (g x) Q) → (after : Making) (y : B) → onward g r ≡ Ok (y, after) → Q y
goes_on g P Q (Ok p) h i after y e = (i p.0 (h p.1 p.0 refl)).by p.1 after y e
goes_on g P Q (Err x) h i after y e = absurd cc

pub and_then : {A B : Type 0} (f : Makes A) (g : A → Makes B) (P : A → Type 0) (Q : B → Type 0) → Yields f P → ((x : A) → P x → Yields (g x) Q) → Yields (f >>= g) Q
and_then f g P Q h i = record { by = λ s after y e. goes_on g P Q (f s) (λ next x is. h.by s next x is) i after y e }

-- whatever is found first
pub behind : {A B : Type 0} (f : Makes A) (g : A → Makes B) (Q : B → Type 0) → ((x : A) → Yields (g x) Q) → Yields (f >>= g) Q
behind f g Q i = and_then f g (λ x. Unit {0}) Q (anything f) (λ x h. i x)

goes_on_found : {A B : Type 0} (g : A → Gets B) (P : A → Type 0) (Q : B → Type 0) (r : Result (A × List FixedText) Refusal) → ((s : List FixedText) (x : A) → r ≡ Ok (x, s) → P x) → ((x : A) → P x → Yields (g x) Q) → (after : List FixedText) (y : B) → found.onward g r ≡ Ok (y, after) → Q y
goes_on_found g P Q (Ok p) h i after y e = (i p.0 (h p.1 p.0 refl)).by p.1 after y e
goes_on_found g P Q (Err x) h i after y e = absurd cc

pub then_found : {A B : Type 0} (f : Gets A) (g : A → Gets B) (P : A → Type 0) (Q : B → Type 0) → Yields f P → ((x : A) → P x → Yields (g x) Q) → Yields (λ s. found.onward g (f s)) Q
then_found f g P Q h i = record { by = λ s after y e. goes_on_found g P Q (f s) (λ next x is. h.by s next x is) i after y e }

pub within_block : {A : Type 0} (f : Makes A) (P : A → Type 0) → Yields f P → Yields (in_block f) P
unfolding in_block
within_block f P h =
    behind (changed opened) (λ begun. f >>= λ x. changed closed >>= λ ended. give x) P
    (λ begun. and_then f (λ x. changed closed >>= λ ended. give x) P P h (λ x is. behind (changed closed) (λ ended. give x) P (λ ended. given P x is)))

pub of_each : {D A : Type 0} (f : D → Makes A) (P : A → Type 0) → ((d : D) → Yields (f d) P) → (ds : List D) → Yields (each f ds) (All P)
unfolding each
of_each f P h [] = given (All P) [] (All-nil P)
of_each f P h (d ∷ rest) = and_then _ _ P (All P) (h d) (λ x is. and_then _ _ (All P) (All P) (of_each f P h rest) (λ xs are. given (All P) (x ∷ xs) (All-cons P x xs is are)))

goes_back : {A : Type 0} (P : A → Type 0) (r : Result (A × Making) Refusal) → ((s : Making) (x : A) → r ≡ Ok (x, s) → P x) → (after : List FixedText) (y : A × Making) → rejoined r ≡ Ok (y, after) → P y.0
goes_back {A} P (Ok p) h after y e = let same : p ≡ y = ap (λ (q : (A × Making) × List FixedText). q.0) (ok_same (p, p.1.texts) (y, after) e) in subst (λ (z : A × Making). P z.0) same (h p.1 p.0 refl)
goes_back P (Err x) h after y e = absurd cc

pub of_resumed : {A : Type 0} (m : Making) (f : Makes A) (P : A → Type 0) → Yields f P → Yields (resumed m f) (λ p. P p.0)
unfolding resumed
of_resumed m f P h = record { by = λ s after y e. goes_back P (f (record m { texts = s })) (λ next x is. h.by _ next x is) after y e }

-- ---- expressions, and choices

goes_after : {A : Type 0} (P : A → Type 0) (m : Making) (r : Result (A × List FixedText) Refusal) → ((s : List FixedText) (x : A) → r ≡ Ok (x, s) → P x) → (after : Making) (y : A) → after_texts m r ≡ Ok (y, after) → P y
goes_after {A} P m (Ok p) h after y e = let same : p.0 ≡ y = ap (λ (q : A × Making). q.0) (ok_same (p.0, with_texts m p.1) (y, after) e) in subst P same (h p.1 p.0 refl)
goes_after P m (Err x) h after y e = absurd cc

pub of_expressed : {A : Type 0} (f : Scope → Gets A) (P : A → Type 0) → ((scope : Scope) → Yields (f scope) P) → Yields (expressed f) P
unfolding expressed
of_expressed f P h = record { by = λ m after y e. goes_after P m (f m.scope m.texts) (λ s x is. (h m.scope).by m.texts s x is) after y e }

pub of_choice : {S A : Type 0} (b : Bool) (f g : S → Result (A × S) Refusal) (P : A → Type 0) → Yields f P → Yields g P → Yields (if b then f else g) P
of_choice true f g P h i = h
of_choice false f g P h i = i

-- by what is denoted, if anything is
pub of_option : {X S A : Type 0} (P : A → Type 0) (o : Option X) (f : X → S → Result (A × S) Refusal) (g : S → Result (A × S) Refusal) → ((x : X) → Yields (f x) P) → Yields g P → Yields (elim o [ Some x ↦ f x | None ↦ g ]) P
of_option P None f g h i = i
of_option P (Some x) f g h i = h x

pub refused_found : {A : Type 0} (P : A → Type 0) (rule : Rule) (token : ℕ) → Yields (found.refuse {A = A} rule token) P
refused_found P rule token = record { by = λ s after y e. absurd cc }

-- what holds may depend on the choice
pub of_either : {S A : Type 0} (b : Bool) (f g : S → Result (A × S) Refusal) (P : Bool → A → Type 0) → Yields f (P true) → Yields g (P false) → Yields (if b then f else g) (P b)
of_either true f g P h i = h
of_either false f g P h i = i
