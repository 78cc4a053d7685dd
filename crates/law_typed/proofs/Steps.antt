-- What is made one after another in a body: its variables stay among its locals, no local and no text is lost, and what is made has a property
-- where the locals are among those of the whole body.
use Rattle.std.proofs.Common.{◌≡◌, ℕ, zero, suc, ◌≤◌, Bool, true, false, refl, sym, ◌∙◌, ap, subst, List, [], ◌∷◌, ◌++◌, length, take, Option, Some, None, Result, Ok, Err, arith, if◌then◌else◌, append_assoc}
use Rattle.std.specs.Prelude.{slice_get}
use Rattle.std.specs.List.{All, AllByRecursion, Contains}
use Rattle.std.proofs.lemmas.List.{length-append}
use Rattle.std.proofs.lemmas.List.Elements.{All-push}
use Rattle.wy_kernel.specs.declared.types.Ty.{Ty}
use Rattle.wy_kernel.specs.Program.{Program, Local}
use Rattle.wy_kernel.specs.Subtyping.{class_type}
use Rattle.wy_kernel.specs.Table.{IsTable, BeginsWith, ConstantValue}
use Rattle.wy_syntax.specs.Syntax.{Named}
use Rattle.wy_constant.specs.declared.rule.Rule.{Rule}
use Rattle.wy_constant.specs.Refusal.{Refusal}
use Rattle.wy_constant.specs.Scope.{Scope, Variable, FixedText, with_variable, declared_as, denoted, opened, closed, outside, with_last, with_value, with_last_value}
use Rattle.wy_elab_expr.specs.Meaning.{Gets}
use Rattle.wy_elab_expr.specs.Operators.{Judgement, Settles}
use Rattle.wy_elab_body.specs.Making.{Making, Makes, give, refuse, onward, ◌>>=◌, after_texts, expressed, changed, in_block, local, after_scope, declaring, each}
use Rattle.wy_typing.specs.Programs.{IsTypeIn}
use Rattle.law_typed.specs.ExpressionsTyped.{table_of, Agrees, Stands, MethodsFit}
use Rattle.law_typed.proofs.Sequence.{Sound, GrowsTo, HasWithin}
use Rattle.law_typed.specs.StatementsTyped.{types}

-- ---- fronts of lists

get_front : {X : Type 0} (xs ys : List X) (k : ℕ) (x : X) → slice_get xs k ≡ Some x → slice_get (xs ++ ys) k ≡ Some x
get_front [] ys k x e = absurd (cc)
get_front (z ∷ xs) ys zero x e = e
get_front (z ∷ xs) ys (suc k) x e = get_front xs ys k x e

get_last : {X : Type 0} (xs : List X) (x : X) → slice_get (xs ++ x ∷ []) (length xs) ≡ Some x
get_last [] x = refl
get_last (y ∷ xs) x = get_last xs x

pub with_none : {X : Type 0} (xs : List X) → xs ++ [] ≡ xs
with_none [] = refl
with_none (x ∷ xs) = ap (λ l. x ∷ l) (with_none xs)

pub begins_self : {X : Type 0} (xs : List X) → BeginsWith xs xs
begins_self xs = ([], sym (with_none xs))

pub begins_again : {X : Type 0} (xs ys zs : List X) → BeginsWith ys xs → BeginsWith zs ys → BeginsWith zs xs
begins_again xs ys zs (a, e) (b, f) = (a ++ b, f ∙ ap (λ l. l ++ b) e ∙ append_assoc xs a b)

all_taken : {X : Type 0} (P : X → Type 0) (n : ℕ) (xs : List X) → AllByRecursion P xs → AllByRecursion P (take n xs)
all_taken P zero xs h = tt
all_taken P (suc n) [] h = tt
all_taken P (suc n) (x ∷ xs) h = (h.0, all_taken P n xs h.1)

pub all_behind : {X : Type 0} (P : X → Type 0) (xs : List X) (x : X) → AllByRecursion P xs → P x → AllByRecursion P (xs ++ x ∷ [])
all_behind P [] x h k = (k, tt)
all_behind P (y ∷ xs) x h k = (h.0, all_behind P xs x h.1 k)

pub all_weaker : {X : Type 0} (P Q : X → Type 0) (xs : List X) → ((x : X) → P x → Q x) → AllByRecursion P xs → AllByRecursion Q xs
all_weaker P Q [] e h = tt
all_weaker P Q (x ∷ xs) e h = (e x h.0, all_weaker P Q xs e h.1)

all_with_last : {X : Type 0} (P : X → Type 0) (f : X → X) (xs : List X) → ((x : X) → P x → P (f x)) → AllByRecursion P xs → AllByRecursion P (with_last f xs)
all_with_last P f [] e h = tt
all_with_last P f (x ∷ []) e h = (e x h.0, tt)
all_with_last P f (x ∷ y ∷ rest) e h = (h.0, all_with_last P f (y ∷ rest) e h.1)

pub types_behind : (ls : List Local) (l : Local) → types (ls ++ l ∷ []) ≡ types ls ++ l.ty ∷ []
types_behind [] l = refl
types_behind (x ∷ ls) l = ap (λ k. x.ty ∷ k) (types_behind ls l)

types_length : (ls : List Local) → length (types ls) ≡ length ls
types_length [] = refl
types_length (x ∷ ls) = ap suc (types_length ls)

-- the list of types begins with these
abbrev pub BeginsAt : List Ty → List Ty → Type 0
BeginsAt later earlier = BeginsWith later earlier

module _ (p : Program) (constants : List (Option ConstantValue)) (j : Judgement) (L : List Ty) (class : ℕ) (has_this : Bool) where
  abbrev n : ℕ
  n = length p.fixed_texts

  abbrev Among : List Ty → Variable → Type 0
  Among tys v = slice_get tys v.number ≡ Some v.ty

  -- the variables in scope are among the locals so far
  pub record Inv (m : Making) : Type 0 where
    pub variables : AllByRecursion (Among (types m.locals)) m.scope.variables
    pub own : m.scope.has_this ≡ true → slice_get (types m.locals) 0 ≡ Some (class_type m.scope.class)
    pub next : m.scope.next ≡ length m.locals
    pub known : All (IsTypeIn p) (types m.locals)
    pub of_class : m.scope.class ≡ class
    pub with_this : m.scope.has_this ≡ has_this

  -- the locals so far are the first of the body
  pub record Ends (m : Making) : Type 0 where
    pub front : BeginsWith L (types m.locals)
    pub known : All (IsTypeIn p) L

  abbrev Grown : Making → Making → Type 0
  Grown m after = BeginsWith (types after.locals) (types m.locals)

  abbrev pub After : {A : Type 0} → (A → Type 0) → Making → Result (A × Making) Refusal → Type 0
  After R m (Ok q) = Inv q.1 × Grown m q.1 × R q.0
  After R m (Err e) = Unit {0}

  abbrev pub Longer : {A : Type 0} → Making → Result (A × Making) Refusal → Type 0
  Longer m (Ok q) = Ends q.1 → length m.texts ≤ length q.1.texts
  Longer m (Err e) = Unit {0}

  abbrev pub HasAt : {A : Type 0} → (A → Type 0) → Result (A × Making) Refusal → Type 0
  HasAt Q (Ok q) = Ends q.1 → length q.1.texts ≤ n → Q q.0
  HasAt Q (Err e) = Unit {0}

  -- where K holds what is made has R; and where H holds too it has Q in the whole body
  pub record Sure {A : Type 0} (K : Type 0) (R : A → Type 0) (H : Type 0) (Q : A → Type 0) (f : Makes A) : Type 0 where
    pub keeps : K → (m : Making) → Inv m → After R m (f m)
    pub grows : K → (m : Making) → Inv m → Longer m (f m)
    pub finds : K → H → (m : Making) → Inv m → HasAt Q (f m)

  pub earlier : (m after : Making) → Grown m after → Ends after → Ends m
  earlier m after h e = record { front = begins_again (types m.locals) (types after.locals) L h e.front; known = e.known }

  grown_more : {B : Type 0} (S : B → Type 0) (m m1 : Making) (r : Result (B × Making) Refusal) → Grown m m1 → After S m1 r → After S m r
  grown_more S m m1 (Ok q) g h = (h.0, begins_again (types m.locals) (types m1.locals) (types q.1.locals) g h.1, h.2)
  grown_more S m m1 (Err e) g h = tt

  keeps_on : {A B : Type 0} (R : A → Type 0) (S : B → Type 0) (m : Making) (k : A → Makes B) (r : Result (A × Making) Refusal) → After R m r → ((x : A) → R x → (m1 : Making) → Inv m1 → After S m1 (k x m1)) → After S m (onward k r)
  keeps_on R S m k (Ok q) h u = grown_more S m q.1 (k q.0 q.1) h.1 (u q.0 h.2 q.1 h.0)
  keeps_on R S m k (Err e) h u = tt

  longer_more : {B : Type 0} (S : B → Type 0) (m m1 : Making) (r : Result (B × Making) Refusal) → (Ends m1 → length m.texts ≤ length m1.texts) → After S m1 r → Longer m1 r → Longer m r
  longer_more S m m1 (Ok q) g h u = λ e. (let a = g (earlier m1 q.1 h.1 e) in let b = u e in omega (arith, a, b))
  longer_more S m m1 (Err e) g h u = tt

  grows_on : {A B : Type 0} (R : A → Type 0) (S : B → Type 0) (m : Making) (k : A → Makes B) (r : Result (A × Making) Refusal) → After R m r → Longer m r → ((x : A) → R x → (m1 : Making) → Inv m1 → After S m1 (k x m1)) →
      ((x : A) → R x → (m1 : Making) → Inv m1 → Longer m1 (k x m1)) → Longer m (onward k r)
  grows_on R S m k (Ok q) h g u v = longer_more S m q.1 (k q.0 q.1) g (u q.0 h.2 q.1 h.0) (v q.0 h.2 q.1 h.0)
  grows_on R S m k (Err e) h g u v = tt

  has_more : {B : Type 0} (S : B → Type 0) (P : Type 0) (Q : B → Type 0) (m1 : Making) (r : Result (B × Making) Refusal) → After S m1 r → Longer m1 r → (Ends m1 → length m1.texts ≤ n → P) → (P → HasAt Q r) → HasAt Q r
  has_more S P Q m1 (Ok q) h g u v = λ e lt. (let b = g e in v (u (earlier m1 q.1 h.1 e) (omega (arith, b, lt))) e lt)
  has_more S P Q m1 (Err e) h g u v = tt

  finds_on : {A B : Type 0} (R : A → Type 0) (S : B → Type 0) (P : A → Type 0) (Q : B → Type 0) (m : Making) (k : A → Makes B) (r : Result (A × Making) Refusal) → After R m r → HasAt P r → ((x : A) → R x → (m1 : Making) → Inv m1 → After S m1 (k x m1)) →
      ((x : A) → R x → (m1 : Making) → Inv m1 → Longer m1 (k x m1)) → ((x : A) → R x → P x → (m1 : Making) → Inv m1 → HasAt Q (k x m1)) → HasAt Q (onward k r)
  finds_on R S P Q m k (Ok q) h g u v w = has_more S (P q.0) Q q.1 (k q.0 q.1) (u q.0 h.2 q.1 h.0) (v q.0 h.2 q.1 h.0) g (λ x. w q.0 h.2 x q.1 h.0)
  finds_on R S P Q m k (Err e) h g u v w = tt

  -- ---- the rules

  -- what comes next may use what was made
  pub next : {A B : Type 0} {K : Type 0} (R : A → Type 0) {S : B → Type 0} {H : Type 0} (P : A → Type 0) {Q : B → Type 0} (f : Makes A) (k : A → Makes B) → Sure K R H P f → ((x : A) → Sure (K × R x) S (H × P x) Q (k x)) → Sure K S H Q (f >>= k)
  next R {S = S} P {Q = Q} f k h u = record {
    keeps = λ y m i. keeps_on R S m k (f m) (h.keeps y m i) (λ x z. (u x).keeps (y, z));
    grows = λ y m i. grows_on R S m k (f m) (h.keeps y m i) (h.grows y m i) (λ x z. (u x).keeps (y, z)) (λ x z. (u x).grows (y, z));
    finds = λ y v m i. finds_on R S P Q m k (f m) (h.keeps y m i) (h.finds y v m i) (λ x z. (u x).keeps (y, z)) (λ x z. (u x).grows (y, z)) (λ x z w. (u x).finds (y, z) (v, w));
  }

  pub given : {A : Type 0} {K : Type 0} {R : A → Type 0} {H : Type 0} {Q : A → Type 0} (x : A) → (K → R x) → (K → H → Q x) → Sure K R H Q (give x)
  given x h u = record {
    keeps = λ y m i. (i, begins_self (types m.locals), h y);
    grows = λ y m i e. le_self (length m.texts);
    finds = λ y v m i e lt. u y v;
  }
    where
      le_self : (k : ℕ) → k ≤ k
      le_self k = omega arith

  pub none_made : {A : Type 0} {K : Type 0} {R : A → Type 0} {H : Type 0} {Q : A → Type 0} (rule : Rule) (token : ℕ) → Sure K R H Q (refuse rule token)
  none_made rule token = record { keeps = λ y m i. tt; grows = λ y m i. tt; finds = λ y v m i. tt }

  pub under : {A : Type 0} {K K2 : Type 0} {R : A → Type 0} {H H2 : Type 0} {Q : A → Type 0} (f : Makes A) → (K → K2) → (K → H → H2) → Sure K2 R H2 Q f → Sure K R H Q f
  under f e d h = record { keeps = λ y. h.keeps (e y); grows = λ y. h.grows (e y); finds = λ y v. h.finds (e y) (d y v) }

  pub if_either : {A : Type 0} {K : Type 0} {R : A → Type 0} {H : Type 0} {Q : A → Type 0} (b : Bool) (f k : Makes A) → (b ≡ true → Sure K R H Q f) → (b ≡ false → Sure K R H Q k) → Sure K R H Q (if b then f else k)
  if_either true f k h u = h refl
  if_either false f k h u = u refl

  -- ---- expressions

  pub agrees : (m : Making) → Inv m → Ends m → Agrees L m.scope
  agrees m i e = record {
    variables = all_weaker (Among (types m.locals)) (Among L) m.scope.variables (λ v h. at_front v.number v.ty h) i.variables;
    own = λ h. at_front 0 (class_type m.scope.class) (i.own h);
  }
    where
      at_front : (k : ℕ) (ty : Ty) → slice_get (types m.locals) k ≡ Some ty → slice_get L k ≡ Some ty
      at_front k ty h = let P : List Ty → Type 0 = λ l. slice_get l k ≡ Some ty in subst P (sym e.front.1) (get_front (types m.locals) e.front.0 k ty h)

  stands : IsTable (table_of p constants) → Settles (table_of p constants) j → MethodsFit p → (m : Making) → Inv m → Ends m → Stands p constants j L m.scope
  stands t j' u m i e = record { table = t; settled = j'; methods = u; known = e.known; scope = agrees m i e }

  abbrev pub IsGiven : {A : Type 0} → (A → Type 0) → Result (A × List FixedText) Refusal → Type 0
  IsGiven R (Ok q) = R q.0
  IsGiven R (Err e) = Unit {0}

  given_after : {A : Type 0} (R : A → Type 0) (m : Making) (r : Result (A × List FixedText) Refusal) → Inv m → IsGiven R r → After R m (after_texts m r)
  given_after R m (Ok q) i h = (record { variables = i.variables; own = i.own; next = i.next; known = i.known; of_class = i.of_class; with_this = i.with_this }, begins_self (types m.locals), h)
  given_after R m (Err e) i h = tt

  longer_by : {A : Type 0} (m : Making) (r : Result (A × List FixedText) Refusal) → (Ends m → GrowsTo (length m.texts) r) → Longer m (after_texts m r)
  longer_by m (Ok q) h = λ e. h (record { front = e.front; known = e.known })
  longer_by m (Err x) h = tt

  has_by : {A : Type 0} (Q : A → Type 0) (m : Making) (r : Result (A × List FixedText) Refusal) → (Ends m → HasWithin n Q r) → HasAt Q (after_texts m r)
  has_by Q m (Ok q) h = λ e lt. h (record { front = e.front; known = e.known }) lt
  has_by Q m (Err x) h = tt

  module _ (table : IsTable (table_of p constants)) (settled : Settles (table_of p constants) j) (methods : MethodsFit p) where
    pub expressed_sure : {A : Type 0} {K : Type 0} (R : A → Type 0) {H : Type 0} (Q : A → Type 0) (f : Scope → Gets A) → ((s : Scope) (texts : List FixedText) → IsGiven R (f s texts)) → ((s : Scope) → Stands p constants j L s → s.class ≡ class → s.has_this ≡ has_this → Sound n (K × H) Q (f s)) → Sure K R H Q (expressed f)
    unfolding expressed
    expressed_sure R Q f r h = record {
      keeps = λ y m i. given_after R m (f m.scope m.texts) i (r m.scope m.texts);
      grows = λ y m i. longer_by m (f m.scope m.texts) (λ e. (h m.scope (stands table settled methods m i e) i.of_class i.with_this).grows m.texts);
      finds = λ y v m i. has_by Q m (f m.scope m.texts) (λ e. (h m.scope (stands table settled methods m i e) i.of_class i.with_this).finds (y, v) m.texts);
    }

  -- ---- scopes

  abbrev pub KeepsScope : (Scope → Scope) → Type 0
  KeepsScope f = (m : Making) → Inv m → Inv (record m { scope = f m.scope })

  pub changed_sure : {K : Type 0} {H : Type 0} (f : Scope → Scope) → KeepsScope f → Sure K (λ u. Unit {0}) H (λ u. Unit {0}) (changed f)
  changed_sure f h = record {
    keeps = λ y m i. (h m i, begins_self (types m.locals), tt);
    grows = λ y m i e. at_once (length m.texts);
    finds = λ y v m i e lt. tt;
  }
    where
      at_once : (k : ℕ) → k ≤ k
      at_once k = omega arith

  opened_kept : KeepsScope opened
  opened_kept m i = record { variables = i.variables; own = i.own; next = i.next; known = i.known; of_class = i.of_class; with_this = i.with_this }

  closed_kept : KeepsScope closed
  unfolding closed
  closed_kept m i = record { variables = all_taken (Among (types m.locals)) (outside m.scope) m.scope.variables i.variables; own = i.own; next = i.next; known = i.known; of_class = i.of_class; with_this = i.with_this }

  pub valued_kept : (c : Option ConstantValue) → KeepsScope (with_last_value c)
  unfolding with_last_value
  valued_kept c m i = record { variables = all_with_last (Among (types m.locals)) (with_value c) m.scope.variables (λ v h. h) i.variables; own = i.own; next = i.next; known = i.known; of_class = i.of_class; with_this = i.with_this }

  -- what is declared in a block is in scope up to its end
  pub block_sure : {A : Type 0} {K : Type 0} {R : A → Type 0} {H : Type 0} {Q : A → Type 0} (f : Makes A) → Sure K R H Q f → Sure K R H Q (in_block f)
  unfolding in_block
  block_sure {R = R} {Q = Q} f h =
      next (λ u. Unit {0}) (λ u. Unit {0}) (changed opened) (λ begun. f >>= λ x. changed closed >>= λ ended. give x) (changed_sure opened opened_kept)
      (λ begun. next R Q f (λ x. changed closed >>= λ ended. give x) (under f (λ y. y.0) (λ y v. v.0) h)
      (λ x. next (λ u. Unit {0}) (λ u. Unit {0}) (changed closed) (λ ended. give x) (changed_sure closed closed_kept)
      (λ ended. given x (λ y. y.0.1) (λ y v. v.0.1))))

  -- ---- variables

  with_local : Making → List ℕ → ℕ → Ty → Bool → Making
  with_local m name site ty is_fixed = record { scope = with_variable m.scope name ty is_fixed None; locals = m.locals ++ local name site ty ∷ []; texts = m.texts }

  next_type : (m : Making) (name : List ℕ) (site : ℕ) (ty : Ty) → Inv m → slice_get (types (m.locals ++ local name site ty ∷ [])) m.scope.next ≡ Some ty
  next_type m name site ty i =
      let here : length (types m.locals) ≡ m.scope.next = types_length m.locals ∙ sym i.next in
      let P : ℕ → Type 0 = λ k. slice_get (types m.locals ++ ty ∷ []) k ≡ Some ty in
      let Q : List Ty → Type 0 = λ l. slice_get l m.scope.next ≡ Some ty in
      subst Q (sym (types_behind m.locals (local name site ty))) (subst P here (get_last (types m.locals) ty))

  older_type : (m : Making) (l : Local) (k : ℕ) (ty : Ty) → slice_get (types m.locals) k ≡ Some ty → slice_get (types (m.locals ++ l ∷ [])) k ≡ Some ty
  older_type m l k ty e = let Q : List Ty → Type 0 = λ x. slice_get x k ≡ Some ty in subst Q (sym (types_behind m.locals l)) (get_front (types m.locals) (l.ty ∷ []) k ty e)

  local_inv : (m : Making) (name : List ℕ) (site : ℕ) (ty : Ty) (is_fixed : Bool) → IsTypeIn p ty → Inv m → Inv (with_local m name site ty is_fixed)
  unfolding with_local
  local_inv m name site ty is_fixed w i = record {
    variables = all_behind (Among (types (m.locals ++ local name site ty ∷ []))) m.scope.variables (record { name = name; number = m.scope.next; ty = ty; is_fixed = is_fixed; constant = None })
        (all_weaker (Among (types m.locals)) (Among (types (m.locals ++ local name site ty ∷ []))) m.scope.variables (λ v h. older_type m (local name site ty) v.number v.ty h) i.variables)
        (next_type m name site ty i);
    own = λ h. older_type m (local name site ty) 0 (class_type m.scope.class) (i.own h);
    next = omega (arith, i.next, length-append m.locals (local name site ty ∷ []));
    known = (let P : List Ty → Type 0 = λ l. All (IsTypeIn p) l in subst P (sym (types_behind m.locals (local name site ty))) (All-push (IsTypeIn p) (types m.locals) ty i.known w));
    of_class = i.of_class;
    with_this = i.with_this;
  }

  local_grown : (m : Making) (name : List ℕ) (site : ℕ) (ty : Ty) (is_fixed : Bool) → Grown m (with_local m name site ty is_fixed)
  unfolding with_local
  local_grown m name site ty is_fixed = (ty ∷ [], types_behind m.locals (local name site ty))

  local_found : (m : Making) (name : List ℕ) (site : ℕ) (ty : Ty) (is_fixed : Bool) → Inv m → Ends (with_local m name site ty is_fixed) → slice_get L m.scope.next ≡ Some ty
  unfolding with_local
  local_found m name site ty is_fixed i e =
      let Q : List Ty → Type 0 = λ l. slice_get l m.scope.next ≡ Some ty in
      subst Q (sym e.front.1) (get_front (types (m.locals ++ local name site ty ∷ [])) e.front.0 m.scope.next ty (next_type m name site ty i))

  abbrev declared_result : (m : Making) (name : List ℕ) (site : ℕ) (ty : Ty) (is_fixed : Bool) (token : ℕ) → Option Variable → Result (ℕ × Making) Refusal
  declared_result m name site ty is_fixed token o = after_scope m (local name site ty) (declared_as o m.scope name ty is_fixed None token)

  declared_after : (m : Making) (name : List ℕ) (site : ℕ) (ty : Ty) (is_fixed : Bool) (token : ℕ) (o : Option Variable) → IsTypeIn p ty → Inv m → After (λ k. Unit {0}) m (declared_result m name site ty is_fixed token o)
  unfolding with_local
  declared_after m name site ty is_fixed token None w i = (local_inv m name site ty is_fixed w i, local_grown m name site ty is_fixed, tt)
  declared_after m name site ty is_fixed token (Some v) w i = tt

  declared_longer : (m : Making) (name : List ℕ) (site : ℕ) (ty : Ty) (is_fixed : Bool) (token : ℕ) (o : Option Variable) → Longer m (declared_result m name site ty is_fixed token o)
  declared_longer m name site ty is_fixed token None = λ e. self_le (length m.texts)
    where
      self_le : (k : ℕ) → k ≤ k
      self_le k = omega arith
  declared_longer m name site ty is_fixed token (Some v) = tt

  declared_has : (m : Making) (name : List ℕ) (site : ℕ) (ty : Ty) (is_fixed : Bool) (token : ℕ) (o : Option Variable) → Inv m → HasAt (λ k. slice_get L k ≡ Some ty) (declared_result m name site ty is_fixed token o)
  unfolding with_local
  declared_has m name site ty is_fixed token None i = λ e lt. local_found m name site ty is_fixed i e
  declared_has m name site ty is_fixed token (Some v) i = tt

  -- a variable of a type of the program, which is a local of the body
  pub declaring_sure : {K : Type 0} {H : Type 0} (name : Named) (ty : Ty) (is_fixed : Bool) → (K → IsTypeIn p ty) → Sure K (λ k. Unit {0}) H (λ k. slice_get L k ≡ Some ty) (declaring name ty is_fixed)
  unfolding declaring
  declaring_sure name ty is_fixed w = record {
    keeps = λ y m i. declared_after m name.name name.token ty is_fixed name.token (denoted m.scope name.name) (w y) i;
    grows = λ y m i. declared_longer m name.name name.token ty is_fixed name.token (denoted m.scope name.name);
    finds = λ y v m i. declared_has m name.name name.token ty is_fixed name.token (denoted m.scope name.name) i;
  }

  -- ---- one after another

  pub each_sure : {A B : Type 0} {K : Type 0} (R : B → Type 0) {H : Type 0} (Q : B → Type 0) (f : A → Makes B) (xs : List A) → ((x : A) → Contains xs x → Sure K R H Q (f x)) → Sure K (λ ys. AllByRecursion R ys) H (λ ys. AllByRecursion Q ys) (each f xs)
  unfolding each
  each_sure R Q f [] h = given [] (λ y. tt) (λ y v. tt)
  each_sure R Q f (x ∷ xs) h =
      next R Q (f x) (λ y. each f xs >>= λ ys. give (y ∷ ys)) (h x (0, omega arith, refl))
      (λ y. next (λ ys. AllByRecursion R ys) (λ ys. AllByRecursion Q ys) (each f xs) (λ ys. give (y ∷ ys)) (under (each f xs) (λ u. u.0) (λ u v. v.0) (each_sure R Q f xs (λ z c. h z (later z c))))
      (λ ys. given (y ∷ ys) (λ u. (u.0.1, u.1)) (λ u v. (v.0.1, v.1))))
    where
      later : (z : _) → Contains xs z → Contains (x ∷ xs) z
      later z c = (suc c.0, omega (arith, c.1), c.2)
