-- What is found one after another: no text is lost, and what is found has a property where the texts are no more than n.
use Rattle.std.proofs.Common.{◌≡◌, ℕ, ◌≤◌, Bool, true, false, refl, List, length, Result, Ok, Err, arith, if◌then◌else◌}
use Rattle.wy_constant.specs.declared.rule.Rule.{Rule}
use Rattle.wy_constant.specs.Refusal.{Refusal}
use Rattle.wy_constant.specs.Scope.{FixedText}
use Rattle.wy_elab_expr.specs.Meaning.{Gets, give, refuse, onward, ◌>>=◌}

abbrev pub GrowsTo : {A : Type 0} → ℕ → Result (A × List FixedText) Refusal → Type 0
GrowsTo many (Ok q) = many ≤ length q.1
GrowsTo many (Err e) = Unit {0}

abbrev pub HasWithin : {A : Type 0} → ℕ → (A → Type 0) → Result (A × List FixedText) Refusal → Type 0
HasWithin n Q (Ok q) = length q.1 ≤ n → Q q.0
HasWithin n Q (Err e) = Unit {0}

le_self : (n : ℕ) → n ≤ n
le_self n = omega arith

-- where H holds, what is found has the property Q
pub record Sound {A : Type 0} (n : ℕ) (H : Type 0) (Q : A → Type 0) (g : Gets A) : Type 0 where
  pub grows : (texts : List FixedText) → GrowsTo (length texts) (g texts)
  pub finds : H → (texts : List FixedText) → HasWithin n Q (g texts)

more_still : {A : Type 0} (few many : ℕ) (r : Result (A × List FixedText) Refusal) → few ≤ many → GrowsTo many r → GrowsTo few r
more_still few many (Ok q) le h = omega arith
more_still few many (Err e) le h = tt

grows_onward : {A B : Type 0} (many : ℕ) (f : A → Gets B) (r : Result (A × List FixedText) Refusal) → GrowsTo many r → ((x : A) (texts : List FixedText) → GrowsTo (length texts) (f x texts)) → GrowsTo many (onward f r)
grows_onward many f (Ok q) h k = more_still many (length q.1) (f q.0 q.1) h (k q.0 q.1)
grows_onward many f (Err e) h k = tt

within_before : {B : Type 0} (n many : ℕ) (P : Type 0) (Q : B → Type 0) (r : Result (B × List FixedText) Refusal) → GrowsTo many r → (many ≤ n → P) → (P → HasWithin n Q r) → HasWithin n Q r
within_before n many P Q (Ok q) le h k = λ lt. (let p : many ≤ n = omega arith in k (h p) lt)
within_before n many P Q (Err e) le h k = tt

finds_onward : {A B : Type 0} (n : ℕ) (P : A → Type 0) (Q : B → Type 0) (f : A → Gets B) (r : Result (A × List FixedText) Refusal) → HasWithin n P r → ((x : A) (texts : List FixedText) → GrowsTo (length texts) (f x texts)) → ((x : A) → P x → (texts : List FixedText) → HasWithin n Q (f x texts)) → HasWithin n Q (onward f r)
finds_onward n P Q f (Ok q) h g k = within_before n (length q.1) (P q.0) Q (f q.0 q.1) (g q.0 q.1) h (λ p. k q.0 p q.1)
finds_onward n P Q f (Err e) h g k = tt

-- ---- the rules

-- what comes next may use what was found
pub next : {A B : Type 0} {n : ℕ} {H : Type 0} (P : A → Type 0) {Q : B → Type 0} (m : Gets A) (f : A → Gets B) → Sound n H P m → ((x : A) → Sound n (H × P x) Q (f x)) → Sound n H Q (m >>= f)
next {n = n} {H = H} P {Q = Q} m f h k = record {
  grows = λ texts. grows_onward (length texts) f (m texts) (h.grows texts) (λ x. (k x).grows);
  finds = λ p texts. finds_onward n P Q f (m texts) (h.finds p texts) (λ x. (k x).grows) (λ x q. (k x).finds (p, q));
}

pub given : {A : Type 0} {n : ℕ} {H : Type 0} (Q : A → Type 0) (x : A) → (H → Q x) → Sound n H Q (give x)
given Q x h = record { grows = λ texts. le_self (length texts); finds = λ p texts lt. h p }

pub none_found : {A : Type 0} {n : ℕ} {H : Type 0} (Q : A → Type 0) (rule : Rule) (token : ℕ) → Sound n H Q (refuse rule token)
none_found Q rule token = record { grows = λ texts. tt; finds = λ p texts. tt }

pub under : {A : Type 0} {n : ℕ} {H K : Type 0} (Q : A → Type 0) (g : Gets A) → (H → K) → Sound n K Q g → Sound n H Q g
under Q g e h = record { grows = h.grows; finds = λ p. h.finds (e p) }

within_weaker : {A : Type 0} (n : ℕ) (P Q : A → Type 0) (r : Result (A × List FixedText) Refusal) → ((x : A) → P x → Q x) → HasWithin n P r → HasWithin n Q r
within_weaker n P Q (Ok q) e h = λ lt. e q.0 (h lt)
within_weaker n P Q (Err x) e h = tt

-- what is found has what follows
pub so : {A : Type 0} {n : ℕ} {H : Type 0} (P : A → Type 0) (Q : A → Type 0) (g : Gets A) → Sound n H P g → (H → (x : A) → P x → Q x) → Sound n H Q g
so {n = n} P Q g h e = record { grows = h.grows; finds = λ p texts. within_weaker n P Q (g texts) (e p) (h.finds p texts) }

pub if_either : {A : Type 0} {n : ℕ} {H : Type 0} (Q : A → Type 0) (b : Bool) (x y : Gets A) → (b ≡ true → Sound n H Q x) → (b ≡ false → Sound n H Q y) → Sound n H Q (if b then x else y)
if_either Q true x y h k = h refl
if_either Q false x y h k = k refl
