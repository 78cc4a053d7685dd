-- Where the numbers of statements and the sites of choices are distinct, each statement and each arm stands in one body.
use Rattle.std.proofs.Common.{◌≡◌, ◌⊎◌, ◌<◌, ◌≤◌, ◌+◌, arith, inl, inr, ⊎_elim, ℕ, zero, suc, Bool, true, false, cond, List, [], ◌∷◌, ◌++◌, length, Option, Some, refl, sym, ap, ◌∙◌, subst}
use Rattle.std.specs.Prelude.{None as Absent}
use Rattle.std.specs.Prelude.{◌==◌, nat_eq, slice_get, slice_index_or}
use Rattle.std.specs.List.{Contains, IsDistinct, AllByRecursion, count_by, flat_map, range_with_len}
use Rattle.std.proofs.lemmas.Bool.{eqb-true, eq-eqb}
use Rattle.wy_kernel.specs.declared.form.CondForm.{CondForm}
use Rattle.wy_kernel.specs.Form.{Expression, Const, Str, Read, Set, Upd, Un, Bin, Conv, Cast, InstanceOf, Cond, New, NewArray, Call, Cat, Lib, Place, Local, Static, Field, Elem, Part, absent, the, Row, none, more, Statement, Stmt, Act, Block, Eval, Declare, If, While, Do, For, Labelled, Jump, Return, Throw, Try, Print}
use Rattle.law_structure.specs.Sites.{deciding, deciding_in_place, deciding_in_part, deciding_in_row, deciding_in_act}
use Rattle.wy_static.specs.declared.point.Point.{Point}
use Rattle.wy_static.specs.declared.point.Point.TheVariants as point
use Rattle.wy_static.specs.declared.way.Owner.{Owner}
use Rattle.wy_static.specs.Forms.{arm_owner, forms, forms_within, place_forms, part_forms, row_forms}
use Rattle.wy_static.specs.Ways.{in_part, act_forms}
use Rattle.std.proofs.lemmas.List.Sums.{sum_by-cons}
use Rattle.wy_kernel.specs.Form.{Catches, uncaught, catch}
use Rattle.wy_kernel.specs.Program.{Program, Body, body, init_body}
use Rattle.wy_kernel.specs.Statements.{number_of, has_number, statements, statements_of, statements_of_body, statements_of_bodies}
use Rattle.wy_kernel.specs.View.{NONE}
use Rattle.law_structure.specs.Numbers.{AreDense}
use Rattle.law_structure.specs.Sites.{deciding_in_statement}
use Rattle.law_sites.specs.Choices.{ChoicesStandApart}
use Rattle.law_typed_states.proofs.Subtypes.{part_at}
use Rattle.wy_static.specs.declared.standing.Standing.{Standing}
use Rattle.wy_static.specs.Standings.{initializer_number, standing, form_standings, arm_standings, catch_standings, try_standings, standings_in, body_standings, method_standings, initializer_standings, standings_of}
use Rattle.wy_static.specs.Ways.{owner_of}
use Rattle.law_reached.specs.Laws.{IsStatementOrArm}
use Rattle.law_reached.proofs.Contained.{nothing_in, in_head, in_tail, in_cases, in_left, in_right, in_either, of_flat}

some_same : {X : Type 0} {a d : X} → Some a ≡ Some d → a ≡ d
some_same e = cc e

-- ---- the forms of an expression: whose they are, and where its choices stand

pub record Within (o : Owner) (sites : List ℕ) (x : Owner × Expression) : Type 0 where
  pub owner : (x.0 ≡ o) ⊎ ((s : ℕ) × (v : ℕ) × (x.0.point ≡ point.Arm s v) × Contains sites s)
  pub choice : (f : CondForm) (t : Expression) (a c : Part) (s : ℕ) → x.1 ≡ Cond f t a c s → Contains sites s

wider : (o : Owner) (xs ys : List ℕ) (x : Owner × Expression) → ((s : ℕ) → Contains xs s → Contains ys s) → Within o xs x → Within o ys x
wider o xs ys x h w = record { owner = ⊎_elim (λ e. inl e) (λ y. inr (y.0, y.1, y.2, h y.0 y.3)) w.owner; choice = λ f t a c s e. h s (w.choice f t a c s e) }

-- what an arm of a choice owns
in_arm : (o : Owner) (site v : ℕ) (xs ys : List ℕ) (x : Owner × Expression) → ((s : ℕ) → Contains xs s → Contains ys s) → Contains ys site → Within (arm_owner site v) xs x → Within o ys x
in_arm o site v xs ys x h i w = record { owner = ⊎_elim (λ e. inr (site, v, ap (λ (q : Owner). q.point) e, i)) (λ y. inr (y.0, y.1, y.2, h y.0 y.3)) w.owner; choice = λ f t a c s e. h s (w.choice f t a c s e) }

of_two : (o : Owner) (us vs : List (Owner × Expression)) (xs ys : List ℕ) (x : Owner × Expression) → (Contains us x → Within o xs x) → (Contains vs x → Within o ys x) → Contains (us ++ vs) x → Within o (xs ++ ys) x
of_two o us vs xs ys x h k i = ⊎_elim (λ j. wider o xs (xs ++ ys) x (in_left xs ys) (h j)) (λ j. wider o ys (xs ++ ys) x (in_right xs ys) (k j)) (in_either us vs x i)

itself : (o : Owner) (e : Expression) (xs : List ℕ) (x : Owner × Expression) → (o, e) ≡ x → ((f : CondForm) (t : Expression) (a c : Part) (s : ℕ) → e ≡ Cond f t a c s → Contains xs s) → Within o xs x
itself o e xs x q h = record { owner = inl (ap (λ (z : Owner × Expression). z.0) (sym q)); choice = λ f t a c s k. h f t a c s (ap (λ (z : Owner × Expression). z.1) q ∙ k) }

choice_there : (e : Expression) (f : CondForm) (t : Expression) (a c : Part) (s : ℕ) → e ≡ Cond f t a c s → Contains (deciding e) s
choice_there e f t a c s q = subst (λ z. Contains (deciding z) s) (sym q) (in_head s (deciding t ++ (deciding_in_part a ++ deciding_in_part c)))

of_it : (o : Owner) (e : Expression) (x : Owner × Expression) → (Contains (forms_within o e) x → Within o (deciding e) x) → Contains (forms o e) x → Within o (deciding e) x
of_it o e x h i = ⊎_elim (λ q. itself o e (deciding e) x q (choice_there e)) h (in_cases (o, e) x (forms_within o e) i)

mutual
  of_within : (e : Expression) (o : Owner) (x : Owner × Expression) → Contains (forms_within o e) x → Within o (deciding e) x
  of_within (Const value) o x i = nothing_in x i
  of_within (Str text) o x i = nothing_in x i
  of_within (Read place) o x i = of_place place o x i
  of_within (Set place value site) o x i = of_two o (place_forms o place) (forms o value) (deciding_in_place place) (deciding value) x (of_place place o x) (of_it o value x (of_within value o x)) i
  of_within (Upd place op value value_ty ty wide gives_old site) o x i = of_two o (place_forms o place) (part_forms o value) (deciding_in_place place) (deciding_in_part value) x (of_place place o x) (of_part value o x) i
  of_within (Un op operand) o x i = of_it o operand x (of_within operand o x) i
  of_within (Bin op left right site) o x i = of_two o (forms o left) (forms o right) (deciding left) (deciding right) x (of_it o left x (of_within left o x)) (of_it o right x (of_within right o x)) i
  of_within (Conv to operand) o x i = of_it o operand x (of_within operand o x) i
  of_within (Cast ty operand site) o x i = of_it o operand x (of_within operand o x) i
  of_within (InstanceOf ty operand) o x i = of_it o operand x (of_within operand o x) i
  of_within (Cond form t a c site) o x i =
      let rest = deciding_in_part a ++ deciding_in_part c in
      let all = site ∷ (deciding t ++ rest) in
      ⊎_elim
      (λ j. wider o (deciding t) all x (λ s k. in_tail site s (deciding t ++ rest) (in_left (deciding t) rest s k)) (of_it o t x (of_within t o x) j))
      (λ j. ⊎_elim
      (λ k. in_arm o site 1 (deciding_in_part a) all x (λ s l. in_tail site s (deciding t ++ rest) (in_right (deciding t) rest s (in_left (deciding_in_part a) (deciding_in_part c) s l))) (in_head site (deciding t ++ rest)) (of_part a (arm_owner site 1) x k))
      (λ k. in_arm o site 0 (deciding_in_part c) all x (λ s l. in_tail site s (deciding t ++ rest) (in_right (deciding t) rest s (in_right (deciding_in_part a) (deciding_in_part c) s l))) (in_head site (deciding t ++ rest)) (of_part c (arm_owner site 0) x k))
      (in_either (part_forms (arm_owner site 1) a) (part_forms (arm_owner site 0) c) x j))
      (in_either (forms o t) (part_forms (arm_owner site 1) a ++ part_forms (arm_owner site 0) c) x i)
  of_within (New class constructor args site) o x i = of_row args o x i
  of_within (NewArray ty dims elements sites site) o x i = of_two o (row_forms o dims) (row_forms o elements) (deciding_in_row dims) (deciding_in_row elements) x (of_row dims o x) (of_row elements o x) i
  of_within (Call form method receiver ty args site) o x i = of_two o (part_forms o receiver) (row_forms o args) (deciding_in_part receiver) (deciding_in_row args) x (of_part receiver o x) (of_row args o x) i
  of_within (Cat left right left_ty right_ty site) o x i = of_two o (forms o left) (forms o right) (deciding left) (deciding right) x (of_it o left x (of_within left o x)) (of_it o right x (of_within right o x)) i
  of_within (Lib op args site) o x i = of_row args o x i

  of_place : (y : Place) (o : Owner) (x : Owner × Expression) → Contains (place_forms o y) x → Within o (deciding_in_place y) x
  of_place (Local index) o x i = nothing_in x i
  of_place (Static field site) o x i = nothing_in x i
  of_place (Field object field site) o x i = of_it o object x (of_within object o x) i
  of_place (Elem array index site) o x i = of_two o (forms o array) (forms o index) (deciding array) (deciding index) x (of_it o array x (of_within array o x)) (of_it o index x (of_within index o x)) i

  of_part : (y : Part) (o : Owner) (x : Owner × Expression) → Contains (part_forms o y) x → Within o (deciding_in_part y) x
  of_part absent o x i = nothing_in x i
  of_part (the e) o x i = of_it o e x (of_within e o x) i

  of_row : (y : Row) (o : Owner) (x : Owner × Expression) → Contains (row_forms o y) x → Within o (deciding_in_row y) x
  of_row none o x i = nothing_in x i
  of_row (more e rest) o x i = of_two o (forms o e) (row_forms o rest) (deciding e) (deciding_in_row rest) x (of_it o e x (of_within e o x)) (of_row rest o x) i

of_parts : (y : Part) (o : Owner) (x : Owner × Expression) → Contains (in_part o y) x → Within o (deciding_in_part y) x
of_parts absent o x i = nothing_in x i
of_parts (the e) o x i = of_it o e x (of_within e o x) i

-- those of a statement
pub of_act : (y : Act) (o : Owner) (x : Owner × Expression) → Contains (act_forms o y) x → Within o (deciding_in_act y) x
of_act (Eval value) o x i = of_it o value x (of_within value o x) i
of_act (If test a b) o x i = of_it o test x (of_within test o x) i
of_act (While test body) o x i = of_it o test x (of_within test o x) i
of_act (Do body test) o x i = of_it o test x (of_within test o x) i
of_act (For inits test updates body) o x i = of_parts test o x i
of_act (Return value) o x i = of_parts value o x i
of_act (Throw value) o x i = of_it o value x (of_within value o x) i
of_act (Print operand ty ends_line site) o x i = of_parts operand o x i
of_act (Block parts) o x i = nothing_in x i
of_act (Declare k) o x i = nothing_in x i
of_act (Labelled body) o x i = nothing_in x i
of_act (Jump target) o x i = nothing_in x i
of_act (Try main catches last) o x i = nothing_in x i

-- ---- how often something is there

module _ (c : Statement → ℕ) where
  abbrev pub total : List Statement → ℕ
  total [] = 0
  total (x ∷ xs) = c x + total xs

  pub total_both : (xs ys : List Statement) → total (xs ++ ys) ≡ total xs + total ys
  total_both [] ys = omega arith
  total_both (x ∷ xs) ys = let h = total_both xs ys in omega (arith, h)

  pub at_least : (xs : List Statement) (x : Statement) → Contains xs x → c x ≤ total xs
  at_least [] x i = nothing_in x i
  at_least (y ∷ xs) x i = ⊎_elim (λ (e : y ≡ x). let h = ap c e in omega (arith, h)) (λ (j : Contains xs x). let h = at_least xs x j in omega (arith, h)) (in_cases y x xs i)

  pub of_body : (xs : List (Option Body)) (m : ℕ) (x : Body) (t : Statement) → slice_get xs m ≡ Some (Some x) → Contains (statements x.block) t → c t ≤ total (statements_of_bodies xs)
  of_body [] m x t e i = absurd (cc e)
  of_body (y ∷ xs) zero x t e i = let h = subst (λ (z : Option Body). c t ≤ total (statements_of_body z)) (sym (some_same e)) (at_least (statements x.block) t i) in let k = total_both (statements_of_body y) (statements_of_bodies xs) in omega (arith, h, k)
  of_body (y ∷ xs) (suc m) x t e i = let h = of_body xs m x t e i in let k = total_both (statements_of_body y) (statements_of_bodies xs) in omega (arith, h, k)

  at_first : (z : Option Body) (x : Body) (t : Statement) → Some z ≡ Some (Some x) → Contains (statements x.block) t → c t ≤ total (statements_of_body z)
  at_first z x t e i = subst (λ (q : Option Body). c t ≤ total (statements_of_body q)) (sym (some_same e)) (at_least (statements x.block) t i)

  -- in two bodies
  pub of_others : (xs : List (Option Body)) (m n : ℕ) (x y : Body) (t u : Statement) → slice_get xs m ≡ Some (Some x) → slice_get xs n ≡ Some (Some y) → Contains (statements x.block) t → Contains (statements y.block) u → (m ≡ n → ⊥) → c t + c u ≤ total (statements_of_bodies xs)
  of_others [] m n x y t u e f i j h = absurd (cc e)
  of_others (z ∷ xs) zero zero x y t u e f i j h = absurd (h refl)
  of_others (z ∷ xs) zero (suc n) x y t u e f i j h = let a = at_first z x t e i in let b = of_body xs n y u f j in let k = total_both (statements_of_body z) (statements_of_bodies xs) in omega (arith, a, b, k)
  of_others (z ∷ xs) (suc m) zero x y t u e f i j h = let a = at_first z y u f j in let b = of_body xs m x t e i in let k = total_both (statements_of_body z) (statements_of_bodies xs) in omega (arith, a, b, k)
  of_others (z ∷ xs) (suc m) (suc n) x y t u e f i j h = let a = of_others xs m n x y t u e f i j (λ q. h (ap suc q)) in let k = total_both (statements_of_body z) (statements_of_bodies xs) in omega (arith, a, k)

-- ---- what stands in a statement

pub record Facts (b : ℕ) (t : Statement) (s : Standing) : Type 0 where
  pub method : s.method ≡ b
  pub number : (n : ℕ) → s.point ≡ point.Statement n → number_of t ≡ n
  pub arm : (site v : ℕ) → s.point ≡ point.Arm site v → Contains (deciding_in_statement t) site

arm_same : {s t v w : ℕ} → point.Arm s v ≡ point.Arm t w → s ≡ t
arm_same e = cc e

arm_facts : (b n k v : ℕ) (t : Statement) (s : Standing) → standing b n (point.Arm k v) ≡ s → Contains (deciding_in_statement t) k → Facts b t s
arm_facts b n k v t s e i = record {
  method = ap (λ (z : Standing). z.method) (sym e);
  number = λ m q. absurd (let r = ap (λ (z : Standing). z.point) e ∙ q in cc r);
  arm = λ site w q. subst (λ z. Contains (deciding_in_statement t) z) (arm_same (ap (λ (z : Standing). z.point) e ∙ q)) i;
}

form_facts : (b n : ℕ) (t : Statement) (s : Standing) (e : Expression) → ((f : CondForm) (u : Expression) (a c : Part) (k : ℕ) → e ≡ Cond f u a c k → Contains (deciding_in_statement t) k) → Contains (form_standings b n e) s → Facts b t s
form_facts b n t s (Cond f u a c k) h i = ⊎_elim
    (λ q. arm_facts b n k 0 t s q (h f u a c k refl))
    (λ j. ⊎_elim (λ q. arm_facts b n k 1 t s q (h f u a c k refl)) (λ l. nothing_in s l) (in_cases (standing b n (point.Arm k 1)) s [] j))
    (in_cases (standing b n (point.Arm k 0)) s (standing b n (point.Arm k 1) ∷ []) i)
form_facts b n t s _ h i = nothing_in s i

catch_facts : (b : ℕ) (t : Statement) (s : Standing) (x : Catches) → Contains (catch_standings b x) s → Facts b t s
catch_facts b t s uncaught i = nothing_in s i
catch_facts b t s (catch k local site block rest) i = ⊎_elim
    (λ q. record { method = ap (λ (z : Standing). z.method) (sym q); number = λ m e. absurd (let r = ap (λ (z : Standing). z.point) q ∙ e in cc r); arm = λ a v e. absurd (let r = ap (λ (z : Standing). z.point) q ∙ e in cc r) })
    (λ j. catch_facts b t s rest j)
    (in_cases (standing b NONE (point.Catch site)) s (catch_standings b rest) i)

try_facts : (b : ℕ) (t : Statement) (s : Standing) (x : Act) → Contains (try_standings b x) s → Facts b t s
try_facts b t s (Try main catches last) i = catch_facts b t s catches i
try_facts b t s _ i = nothing_in s i

number_same : {m n : ℕ} → point.Statement m ≡ point.Statement n → m ≡ n
number_same e = cc e

facts : (b : ℕ) (t : Statement) (s : Standing) → Contains (standings_in b t) s → Facts b t s
facts b (Stmt number site askable reach act) s i =
    let t = Stmt number site askable reach act in
    let o = owner_of t in
    ⊎_elim
    (λ q. record { method = ap (λ (z : Standing). z.method) (sym q); number = λ m e. number_same (ap (λ (z : Standing). z.point) q ∙ e); arm = λ a v e. absurd (let r = ap (λ (z : Standing). z.point) q ∙ e in cc r) })
    (λ j. ⊎_elim
    (λ k. let y = of_flat (arm_standings b number) (act_forms o act) s k in form_facts b number t s y.0.1 (of_act act o y.0 y.1).choice y.2)
    (λ k. try_facts b t s act k)
    (in_either (flat_map (arm_standings b number) (act_forms o act)) (try_standings b act) s j))
    (in_cases (standing b number (point.Statement number)) s (flat_map (arm_standings b number) (act_forms o act) ++ try_standings b act) i)

-- ---- in which body

-- the number of a method's body, and of a class's
abbrev pub number_in : Bool → ℕ → ℕ
number_in false m = m
number_in true c = initializer_number c

abbrev pub bodies_in : Program → Bool → List (Option Body)
bodies_in p false = p.bodies
bodies_in p true = p.init_bodies

pub record Home (p : Program) (s : Standing) : Type 0 where
  pub half : Bool
  pub index : ℕ
  pub body : Body
  pub there : slice_get (bodies_in p half) index ≡ Some (Some body)
  pub statement : Statement
  pub within : Contains (statements body.block) statement
  pub facts : Facts (number_in half index) statement s

body_there : (xs : List (Option Body)) (m : ℕ) (x : Body) → slice_index_or xs m Absent ≡ Some x → slice_get xs m ≡ Some (Some x)
body_there xs m x e = ⊎_elim (λ h. absurd (cc (sym h.1 ∙ e))) (λ h. h.1 ∙ ap Some (sym h.2 ∙ e)) (part_at xs m Absent)

home_of : (p : Program) (half : Bool) (m : ℕ) (s : Standing) (o : Option Body) → slice_index_or (bodies_in p half) m Absent ≡ o → Contains (body_standings (number_in half m) o) s → Home p s
home_of p half m s Absent e i = nothing_in s i
home_of p half m s (Some x) e i = let y = of_flat (standings_in (number_in half m)) (statements x.block) s i in record { half = half; index = m; body = x; there = body_there (bodies_in p half) m x e; statement = y.0; within = y.1; facts = facts (number_in half m) y.0 s y.2 }

home : (p : Program) (s : Standing) → Contains (standings_of p) s → Home p s
unfolding body init_body
home p s i = ⊎_elim
    (λ j. let y = of_flat (method_standings p) (range_with_len 0 (length p.bodies)) s j in home_of p false y.0 s (body p y.0) refl y.2)
    (λ j. let y = of_flat (initializer_standings p) (range_with_len 0 (length p.init_bodies)) s j in home_of p true y.0 s (init_body p y.0) refl y.2)
    (in_either (flat_map (method_standings p) (range_with_len 0 (length p.bodies))) (flat_map (initializer_standings p) (range_with_len 0 (length p.init_bodies))) s i)

-- what is in a program once stands in one body
module _ (p : Program) (c : Statement → ℕ) (once : total c (statements_of p) ≤ 1) where
  all_once : total c (statements_of_bodies p.bodies) + total c (statements_of_bodies p.init_bodies) ≤ 1
  all_once = let h = total_both c (statements_of_bodies p.bodies) (statements_of_bodies p.init_bodies) in omega (arith, h, once)

  in_half : (half : Bool) → total c (statements_of_bodies (bodies_in p half)) ≤ 1
  in_half false = let h = all_once in omega (arith, h)
  in_half true = let h = all_once in omega (arith, h)

  same_index : (h : Bool) (m n : ℕ) (x y : Body) (t u : Statement) → slice_get (bodies_in p h) m ≡ Some (Some x) → slice_get (bodies_in p h) n ≡ Some (Some y) → Contains (statements x.block) t → Contains (statements y.block) u → 1 ≤ c t → 1 ≤ c u → m ≡ n
  same_index h m n x y t u e f i j a b = go (nat_eq m n) refl
    where
      go : (z : Bool) → nat_eq m n ≡ z → m ≡ n
      go true q = eqb-true m n q
      go false q = let r = of_others c (bodies_in p h) m n x y t u e f i j (λ w. cc (sym (eq-eqb m n w) ∙ q)) in let s = in_half h in absurd (omega (arith, a, b, r, s))

  one_number : (h k : Bool) (m n : ℕ) (x y : Body) (t u : Statement) → slice_get (bodies_in p h) m ≡ Some (Some x) → slice_get (bodies_in p k) n ≡ Some (Some y) → Contains (statements x.block) t → Contains (statements y.block) u → 1 ≤ c t → 1 ≤ c u → number_in h m ≡ number_in k n
  one_number false true m n x y t u e f i j a b = let q = of_body c p.bodies m x t e i in let r = of_body c p.init_bodies n y u f j in let s = all_once in absurd (omega (arith, a, b, q, r, s))
  one_number true false m n x y t u e f i j a b = let q = of_body c p.init_bodies m x t e i in let r = of_body c p.bodies n y u f j in let s = all_once in absurd (omega (arith, a, b, q, r, s))
  one_number false false m n x y t u e f i j a b = same_index false m n x y t u e f i j a b
  one_number true true m n x y t u e f i j a b = ap initializer_number (same_index true m n x y t u e f i j a b)

-- ---- numbers and sites

when_true : (b : Bool) → b ≡ true → cond {A = ℕ} b 1 0 ≡ 1
when_true true e = refl
when_true false e = absurd (cc e)

when_false : (b : Bool) → b ≡ false → cond {A = ℕ} b 1 0 ≡ 0
when_false true e = absurd (cc e)
when_false false e = refl

abbrev occurs : ℕ → List ℕ → ℕ
occurs n [] = 0
occurs n (x ∷ xs) = cond (x == n) 1 0 + occurs n xs

numbers_total : (n : ℕ) (xs : List Statement) → total (λ t. cond (has_number n t) 1 0) xs ≡ count_by (has_number n) xs
numbers_total n [] = refl
numbers_total n (x ∷ xs) = let h = numbers_total n xs in ap (λ k. cond (has_number n x) 1 0 + k) h ∙ sym (sum_by-cons (λ t. cond (has_number n t) 1 0) x xs)

occurs_both : (n : ℕ) (xs ys : List ℕ) → occurs n (xs ++ ys) ≡ occurs n xs + occurs n ys
occurs_both n [] ys = omega arith
occurs_both n (x ∷ xs) ys = let h = occurs_both n xs ys in omega (arith, h)

sites_total : (n : ℕ) (xs : List Statement) → total (λ t. occurs n (deciding_in_statement t)) xs ≡ occurs n (flat_map deciding_in_statement xs)
sites_total n [] = refl
sites_total n (x ∷ xs) = let h = sites_total n xs in let k = occurs_both n (deciding_in_statement x) (flat_map deciding_in_statement xs) in ap (λ z. occurs n (deciding_in_statement x) + z) h ∙ sym k

none_occurs : (n x : ℕ) (xs : List ℕ) → x ≡ n → AllByRecursion (λ y. nat_eq x y ≡ false) xs → occurs n xs ≡ 0
none_occurs n x [] e h = refl
none_occurs n x (y ∷ xs) e h = go (none_occurs n x xs e h.1) (y == n) refl
  where
    go : occurs n xs ≡ 0 → (b : Bool) → (y == n) ≡ b → cond (y == n) 1 0 + occurs n xs ≡ 0
    go r true q = let t : y ≡ n = eqb-true y n q in absurd (cc (sym (eq-eqb x y (e ∙ sym t)) ∙ h.0))
    go r false q = let k = when_false (y == n) q in omega (arith, r, k)

occurs_in : (n : ℕ) (xs : List ℕ) → Contains xs n → 1 ≤ occurs n xs
occurs_in n [] i = nothing_in n i
occurs_in n (x ∷ xs) i = ⊎_elim (λ (e : x ≡ n). let k = when_true (x == n) (eq-eqb x n e) in omega (arith, k)) (λ (j : Contains xs n). let h = occurs_in n xs j in omega (arith, h)) (in_cases x n xs i)

once_distinct : (n : ℕ) (xs : List ℕ) → IsDistinct nat_eq xs → occurs n xs ≤ 1
unfolding IsDistinct
once_distinct n [] d = omega arith
once_distinct n (x ∷ xs) d = go (once_distinct n xs d.1) (λ e. none_occurs n x xs e d.0) (x == n) refl
  where
    go : occurs n xs ≤ 1 → (x ≡ n → occurs n xs ≡ 0) → (b : Bool) → (x == n) ≡ b → cond (x == n) 1 0 + occurs n xs ≤ 1
    go r f true q = let z = f (eqb-true x n q) in let k = when_true (x == n) q in omega (arith, z, k)
    go r f false q = let k = when_false (x == n) q in omega (arith, r, k)

in_bodies : (xs : List (Option Body)) (m : ℕ) (x : Body) (t : Statement) → slice_get xs m ≡ Some (Some x) → Contains (statements x.block) t → Contains (statements_of_bodies xs) t
in_bodies [] m x t e i = absurd (cc e)
in_bodies (y ∷ xs) zero x t e i = in_left (statements_of_body y) (statements_of_bodies xs) t (subst (λ (z : Option Body). Contains (statements_of_body z) t) (sym (some_same e)) i)
in_bodies (y ∷ xs) (suc m) x t e i = in_right (statements_of_body y) (statements_of_bodies xs) t (in_bodies xs m x t e i)

in_program : (p : Program) (half : Bool) (m : ℕ) (x : Body) (t : Statement) → slice_get (bodies_in p half) m ≡ Some (Some x) → Contains (statements x.block) t → Contains (statements_of p) t
in_program p false m x t e i = in_left (statements_of_bodies p.bodies) (statements_of_bodies p.init_bodies) t (in_bodies p.bodies m x t e i)
in_program p true m x t e i = in_right (statements_of_bodies p.bodies) (statements_of_bodies p.init_bodies) t (in_bodies p.init_bodies m x t e i)

-- where statements are numbered once and choices have sites of their own, each statement and each arm stands in one body
pub in_one_body : (p : Program) → AreDense p → ChoicesStandApart p → (x y : Standing) → Contains (standings_of p) x → Contains (standings_of p) y → x.point ≡ y.point → IsStatementOrArm x.point → x.method ≡ y.method
in_one_body p dense apart x y i j e k = by_point x.point refl k
  where
    hx : Home p x
    hx = home p x i

    hy : Home p y
    hy = home p y j

    methods : number_in hx.half hx.index ≡ number_in hy.half hy.index → x.method ≡ y.method
    methods q = hx.facts.method ∙ q ∙ sym hy.facts.method

    weighs : (n : ℕ) (t : Statement) → number_of t ≡ n → 1 ≤ cond (has_number n t) 1 0
    weighs n t q = let h = when_true (has_number n t) (eq-eqb (number_of t) n q) in omega (arith, h)

    by_point : (q : Point) → x.point ≡ q → IsStatementOrArm q → x.method ≡ y.method
    by_point (point.Statement n) q k =
        let a = hx.facts.number n q in
        let c = hy.facts.number n (sym e ∙ q) in
        let below : n < p.statements = subst (λ z. z < p.statements) a (dense.below hx.statement (in_program p hx.half hx.index hx.body hx.statement hx.there hx.within)) in
        let once : total (λ t. cond (has_number n t) 1 0) (statements_of p) ≤ 1 = (let h = numbers_total n (statements_of p) in let r = dense.each n below in omega (arith, h, r)) in
        methods (one_number p (λ t. cond (has_number n t) 1 0) once hx.half hy.half hx.index hy.index hx.body hy.body hx.statement hy.statement hx.there hy.there hx.within hy.within (weighs n hx.statement a) (weighs n hy.statement c))
    by_point (point.Arm site v) q k =
        let a = hx.facts.arm site v q in
        let c = hy.facts.arm site v (sym e ∙ q) in
        let once : total (λ t. occurs site (deciding_in_statement t)) (statements_of p) ≤ 1 = (let h = sites_total site (statements_of p) in let r = once_distinct site (flat_map deciding_in_statement (statements_of p)) apart in omega (arith, h, r)) in
        methods (one_number p (λ t. occurs site (deciding_in_statement t)) once hx.half hy.half hx.index hy.index hx.body hy.body hx.statement hy.statement hx.there hy.there hx.within hy.within (occurs_in site (deciding_in_statement hx.statement) a) (occurs_in site (deciding_in_statement hy.statement) c))
    by_point point.Start q k = absurd k
    by_point (point.Entry m) q k = absurd k
    by_point (point.Init m) q k = absurd k
    by_point (point.Catch m) q k = absurd k
