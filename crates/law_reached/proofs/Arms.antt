-- Links begin and end only at the arms of choices, so none at the site of a statement's test.
use Rattle.std.proofs.Common.{◌≡◌, ◌⊎◌, inl, inr, ⊎_elim, ℕ, zero, suc, Bool, true, false, List, [], ◌∷◌, ◌++◌, length, Option, Some, refl, sym, ap, ◌∙◌, subst}
use Rattle.std.specs.Prelude.{None as Absent}
use Rattle.std.specs.Prelude.{if◌then◌else◌}
use Rattle.std.specs.List.{Contains, flat_map, range_with_len}
use Rattle.wy_kernel.specs.declared.types.Base.TheVariants.{Primitive as Basic, Class as Named}
use Rattle.wy_kernel.specs.declared.types.Ty.{Ty}
use Rattle.wy_kernel.specs.declared.types.Ty.TheVariants.{Void, Null as OfNull, Of}
use Rattle.wy_kernel.specs.declared.form.CondForm.{CondForm}
use Rattle.wy_kernel.specs.declared.form.CallForm.{CallForm}
use Rattle.wy_kernel.specs.declared.form.CallForm.TheVariants as call
use Rattle.wy_kernel.specs.Form.{Expression, Read, Set, Upd, Cond, New, Call, Cat, Place, Static, Part, absent, the, Statement, Stmt, Act, Block, Eval, Declare, If, While, Do, For, Labelled, Jump, Return, Throw, Try, Print, Other, nothing, this, Statements, done, first, Catches, uncaught, catch}
use Rattle.wy_kernel.specs.Program.{Program, Body, class, method, field, body, init_body, is_source}
use Rattle.wy_kernel.specs.Statements.{number_of, statements_of}
use Rattle.law_structure.specs.Reaches.{is_testing_act}
use Rattle.law_structure.specs.Sites.{deciding_in_statement, deciding_in_act, TestsStandApart}
use Rattle.wy_static.specs.declared.point.Point.{Point}
use Rattle.wy_static.specs.declared.point.Point.TheVariants as point
use Rattle.wy_static.specs.declared.point.LinkKind.{LinkKind}
use Rattle.wy_static.specs.declared.point.LinkKind.TheVariants as link_kind
use Rattle.wy_static.specs.declared.way.Owner.{Owner}
use Rattle.wy_static.specs.declared.way.Goal.{Goal}
use Rattle.wy_static.specs.declared.way.Goal.TheVariants.{Known, Chosen}
use Rattle.wy_static.specs.declared.way.Way.{Way}
use Rattle.wy_static.specs.Ways.{ways_of, way, call_at, owner_of, in_order, to, to_other, to_catch, to_catches, catch_owner, by_test, flow, initializing, calling, choosing, converting, constructing, placing, updating, is_absent, called, form_ways, owned_ways, act_forms, printing, statement_ways, start_ways, into_body, entry_ways, above_ways, init_ways}
use Rattle.wy_static.specs.Links.{Meets}
use Rattle.law_reached.specs.Laws.{IsPoint, HasTest, IsTestAt}
use Rattle.law_reached.proofs.Contained.{nothing_in, in_cases, in_either, of_flat}
use Rattle.law_reached.proofs.Apart.{of_act}

abbrev NoArm : Point → Type 0
NoArm (point.Arm s v) = ⊥
NoArm _ = Unit {0}

abbrev NoArmGoal : Goal → Type 0
NoArmGoal (Known q) = NoArm q
NoArmGoal (Chosen m c) = Unit {0}

record AllBare (xs : List Way) : Type 0 where
  pub by : (w : Way) → Contains xs w → NoArm w.from × NoArmGoal w.goal

b_nil : AllBare []
b_nil = record { by = λ w i. nothing_in w i }

b_cons : (x : Way) (xs : List Way) → NoArm x.from → NoArmGoal x.goal → AllBare xs → AllBare (x ∷ xs)
b_cons x xs f g h = record { by = λ w i. ⊎_elim (λ (e : x ≡ w). subst (λ (z : Way). NoArm z.from × NoArmGoal z.goal) e (f, g)) (λ (j : Contains xs w). h.by w j) (in_cases x w xs i) }

b_both : (xs ys : List Way) → AllBare xs → AllBare ys → AllBare (xs ++ ys)
b_both xs ys h k = record { by = λ w i. ⊎_elim (λ (j : Contains xs w). h.by w j) (λ (j : Contains ys w). k.by w j) (in_either xs ys w i) }

record AllFrom (q : Point) (xs : List Way) : Type 0 where
  pub by : (w : Way) → Contains xs w → (w.from ≡ q) × NoArmGoal w.goal

f_nil : (q : Point) → AllFrom q []
f_nil q = record { by = λ w i. nothing_in w i }

f_one : (q : Point) (x : Way) → x.from ≡ q → NoArmGoal x.goal → AllFrom q (x ∷ [])
f_one q x f g = record { by = λ w i. ⊎_elim (λ (e : x ≡ w). subst (λ (z : Way). (z.from ≡ q) × NoArmGoal z.goal) e (f, g)) (λ (j : Contains [] w). nothing_in w j) (in_cases x w [] i) }

f_both : (q : Point) (xs ys : List Way) → AllFrom q xs → AllFrom q ys → AllFrom q (xs ++ ys)
f_both q xs ys h k = record { by = λ w i. ⊎_elim (λ (j : Contains xs w). h.by w j) (λ (j : Contains ys w). k.by w j) (in_either xs ys w i) }

bare : (q : Point) (xs : List Way) → NoArm q → AllFrom q xs → AllBare xs
bare q xs n h = record { by = λ w i. let x = h.by w i in (subst NoArm (sym x.0) n, x.1) }

-- ---- statements

order_bare : (x : Statements) (k : LinkKind) (o : Owner) → NoArm o.point → AllBare (in_order k o x)
order_bare done k o h = b_nil
order_bare (first (Stmt n site askable reach act) rest) k o h = b_cons (way k o (point.Statement n)) (in_order link_kind.Next (owner_of (Stmt n site askable reach act)) rest) h tt (order_bare rest link_kind.Next (owner_of (Stmt n site askable reach act)) tt)

to_bare : (k : LinkKind) (o : Owner) (s : Statement) → NoArm o.point → AllBare (to k o s)
to_bare k o s h = b_cons (way k o (point.Statement (number_of s))) [] h tt b_nil

other_bare : (k : LinkKind) (o : Owner) (x : Other) → NoArm o.point → AllBare (to_other k o x)
other_bare k o nothing h = b_nil
other_bare k o (this s) h = to_bare k o s h

catches_bare : (x : Catches) (o : Owner) → NoArm o.point → AllBare (to_catches o x)
catches_bare uncaught o h = b_nil
catches_bare (catch c local site block rest) o h = b_both (to_catch o site block) (to_catches o rest) (b_cons _ (to link_kind.Into (catch_owner site) block) h tt (to_bare link_kind.Into (catch_owner site) block tt)) (catches_bare rest o h)

owner_bare : (s : Statement) → NoArm (owner_of s).point
owner_bare (Stmt n site askable reach act) = tt

flow_bare : (x : Act) (o : Owner) → NoArm o.point → AllBare (flow o x)
flow_bare (Block parts) o h = order_bare parts link_kind.Into o h
flow_bare (If test a c) o h = b_both (to (link_kind.Arm 1) o a) (to_other (link_kind.Arm 0) o c) (to_bare (link_kind.Arm 1) o a h) (other_bare (link_kind.Arm 0) o c h)
flow_bare (While test s) o h = to_bare (link_kind.Arm 1) o s h
flow_bare (Do s test) o h = to_bare link_kind.Into o s h
flow_bare (For inits test updates s) o h = b_both (in_order link_kind.Into o inits) (to (by_test test) o s ++ in_order link_kind.Next (owner_of s) updates) (order_bare inits link_kind.Into o h) (b_both (to (by_test test) o s) (in_order link_kind.Next (owner_of s) updates) (to_bare (by_test test) o s h) (order_bare updates link_kind.Next (owner_of s) (owner_bare s)))
flow_bare (Labelled s) o h = to_bare link_kind.Into o s h
flow_bare (Try main catches last) o h = b_both (to link_kind.Into o main) (to_catches o catches ++ to_other link_kind.Into o last) (to_bare link_kind.Into o main h) (b_both (to_catches o catches) (to_other link_kind.Into o last) (catches_bare catches o h) (other_bare link_kind.Into o last h))
flow_bare (Eval value) o h = b_nil
flow_bare (Declare k) o h = b_nil
flow_bare (Jump target) o h = b_nil
flow_bare (Return value) o h = b_nil
flow_bare (Throw value) o h = b_nil
flow_bare (Print operand ty ends_line site) o h = b_nil

-- ---- calls

init_from : (o : Owner) (c site : ℕ) → AllFrom o.point (initializing o c site)
init_from o c site = go (is_source c)
  where
    go : (b : Bool) → AllFrom o.point (if b then call_at o site (Known (point.Init c)) ∷ [] else [])
    go true = f_one o.point (call_at o site (Known (point.Init c))) refl tt
    go false = f_nil o.point

call_from : (o : Owner) (m site : ℕ) → AllFrom o.point (calling o m site)
call_from o m site = f_one o.point (call_at o site (Known (point.Entry m))) refl tt

choose_from : (p : Program) (o : Owner) (m : ℕ) (ty : Ty) (site : ℕ) → AllFrom o.point (choosing p o m ty site)
choose_from p o m (Of (Named c) zero) site = f_one o.point (call_at o site (Chosen m c)) refl tt
choose_from p o m (Of (Named c) (suc n)) site = call_from o _ site
choose_from p o m (Of (Basic q) (suc n)) site = call_from o _ site
choose_from p o m (Of (Basic q) zero) site = f_nil o.point
choose_from p o m Void site = f_nil o.point
choose_from p o m OfNull site = f_nil o.point

place_from : (p : Program) (o : Owner) (x : Place) → AllFrom o.point (placing p o x)
place_from p o (Static f site) = init_from o (field p f).class site
place_from p o _ = f_nil o.point

update_from : (p : Program) (o : Owner) (a c : Ty) (b : Bool) (site : ℕ) → AllFrom o.point (updating p o a c b site)
update_from p o a c true site = f_both o.point (converting p o a site) (converting p o c site) (choose_from p o _ a site) (choose_from p o _ c site)
update_from p o a c false site = f_nil o.point

construct_from : (o : Owner) (k : Option ℕ) (site : ℕ) → AllFrom o.point (constructing o k site)
construct_from o Absent site = f_nil o.point
construct_from o (Some m) site = call_from o m site

called_from : (p : Program) (o : Owner) (f : CallForm) (m : ℕ) (ty : Ty) (site : ℕ) → AllFrom o.point (called p o f m ty site)
called_from p o call.Static m ty site = f_both o.point (initializing o (method p m).class site) (calling o m site) (init_from o (method p m).class site) (call_from o m site)
called_from p o call.Direct m ty site = call_from o m site
called_from p o call.Chosen m ty site = choose_from p o m ty site

-- a way of a form begins at its owner, and ends at an arm of the form where it is a choice
pub record FormWay (q : Owner) (e : Expression) (w : Way) : Type 0 where
  pub from : w.from ≡ q.point
  pub goal : (s v : ℕ) → w.goal ≡ Known (point.Arm s v) → (f : CondForm) × (t : Expression) × (a : Part) × (c : Part) × (e ≡ Cond f t a c s)

no_arm : (g : Goal) (s v : ℕ) → NoArmGoal g → g ≡ Known (point.Arm s v) → ⊥
no_arm g s v h e = subst NoArmGoal e h

plainly : (q : Owner) (e : Expression) (xs : List Way) (w : Way) → AllFrom q.point xs → Contains xs w → FormWay q e w
plainly q e xs w h i = let x = h.by w i in record { from = x.0; goal = λ s v k. absurd (no_arm w.goal s v x.1 k) }

arm_site : {s t v u : ℕ} → Known (point.Arm s v) ≡ Known (point.Arm t u) → s ≡ t
arm_site e = cc e

form_way : (p : Program) (q : Owner) (e : Expression) (w : Way) → Contains (form_ways p q e) w → FormWay q e w
form_way p q (Read x) w i = plainly q (Read x) (placing p q x) w (place_from p q x) i
form_way p q (Set x e site) w i = plainly q (Set x e site) (placing p q x) w (place_from p q x) i
form_way p q (Upd x op value value_ty ty wide gives_old site) w i = plainly q _ (placing p q x ++ updating p q ty value_ty (is_absent wide) site) w (f_both q.point (placing p q x) (updating p q ty value_ty (is_absent wide) site) (place_from p q x) (update_from p q ty value_ty (is_absent wide) site)) i
form_way p q (New c k args site) w i = plainly q _ (initializing q c site ++ constructing q k site) w (f_both q.point (initializing q c site) (constructing q k site) (init_from q c site) (construct_from q k site)) i
form_way p q (Call f m receiver ty args site) w i = plainly q _ (called p q f m ty site) w (called_from p q f m ty site) i
form_way p q (Cat l r a c site) w i = plainly q _ (converting p q a site ++ converting p q c site) w (f_both q.point (converting p q a site) (converting p q c site) (choose_from p q _ a site) (choose_from p q _ c site)) i
form_way p q (Cond f t a c site) w i = ⊎_elim (λ e. at_arm 1 e) (λ j. ⊎_elim (λ e. at_arm 0 e) (λ k. nothing_in w k) (in_cases (way (link_kind.Arm 0) q (point.Arm site 0)) w [] j)) (in_cases (way (link_kind.Arm 1) q (point.Arm site 1)) w (way (link_kind.Arm 0) q (point.Arm site 0) ∷ []) i)
  where
    at_arm : (u : ℕ) → way (link_kind.Arm u) q (point.Arm site u) ≡ w → FormWay q (Cond f t a c site) w
    at_arm u e = record { from = ap (λ (z : Way). z.from) (sym e); goal = λ s v k. (f, t, a, c, ap (λ z. Cond f t a c z) (arm_site (ap (λ (z : Way). z.goal) e ∙ k))) }
form_way p q _ w i = nothing_in w i

-- ---- all ways

print_from : (p : Program) (o : Owner) (x : Act) → AllFrom o.point (printing p o x)
print_from p o (Print operand ty ends_line site) = choose_from p o _ ty site
print_from p o _ = f_nil o.point

body_bare : (o : Owner) (x : Option Body) → NoArm o.point → AllBare (into_body o x)
body_bare o Absent h = b_nil
body_bare o (Some x) h = to_bare link_kind.Into o x.block h

above_bare : (o : Owner) (x : Option ℕ) → NoArm o.point → AllBare (above_ways o x)
above_bare o Absent h = b_nil
above_bare o (Some d) h = bare o.point (initializing o d o.site) h (init_from o d o.site)

-- the way begins or ends at an arm of this site
abbrev Touches : Way → ℕ → ℕ → Type 0
Touches w s v = (w.from ≡ point.Arm s v) ⊎ (w.goal ≡ Known (point.Arm s v))

-- then a choice of the program has the site
abbrev IsChoice : Program → ℕ → Type 0
IsChoice p s = (t : Statement) × Contains (statements_of p) t × Contains (deciding_in_statement t) s

never : {X : Type 0} (w : Way) (s v : ℕ) → NoArm w.from × NoArmGoal w.goal → Touches w s v → X
never w s v h (inl e) = absurd (subst NoArm e h.0)
never w s v h (inr e) = absurd (no_arm w.goal s v h.1 e)

arm_of : {s t v u : ℕ} → point.Arm s v ≡ point.Arm t u → s ≡ t
arm_of e = cc e

in_statement : (p : Program) (t : Statement) (w : Way) (s v : ℕ) → Contains (statements_of p) t → Contains (statement_ways p t) w → Touches w s v → IsChoice p s
in_statement p (Stmt n site askable reach act) w s v there i k =
    let t = Stmt n site askable reach act in
    let o = owner_of t in
    ⊎_elim
    (λ j. never w s v ((flow_bare act o tt).by w j) k)
    (λ j. ⊎_elim
    (λ l. never w s v ((bare o.point (printing p o act) tt (print_from p o act)).by w l) k)
    (λ l. let y = of_flat (owned_ways p) (act_forms o act) w l in let z = of_act act o y.0 y.1 in let f = form_way p y.0.0 y.0.1 w y.2 in (
      t,
      there,
      ⊎_elim
          (λ e. ⊎_elim (λ q. absurd (subst NoArm (sym f.from ∙ e) (subst (λ (x : Owner). NoArm x.point) (sym q) tt))) (λ q. subst (λ x. Contains (deciding_in_act act) x) (arm_of (sym q.2 ∙ sym f.from ∙ e)) q.3) z.owner)
          (λ e. let g = f.goal s v e in z.choice g.0 g.1 g.2 g.3 s g.4)
          k,
    ))
    (in_either (printing p o act) (flat_map (owned_ways p) (act_forms o act)) w j))
    (in_either (flow o act) (printing p o act ++ flat_map (owned_ways p) (act_forms o act)) w i)

in_program : (p : Program) (w : Way) (s v : ℕ) → Contains (ways_of p) w → Touches w s v → IsChoice p s
in_program p w s v i k =
    let entries = flat_map (entry_ways p) (range_with_len 0 (length p.bodies)) in
    let inits = flat_map (init_ways p) (range_with_len 0 (length p.init_bodies)) in
    let rest = flat_map (statement_ways p) (statements_of p) in
    let o : Owner = record { point = point.Start; site = (method p p.main).site } in
    ⊎_elim
    (λ j. never w s v ((bare point.Start (start_ways p) tt (f_both point.Start (calling o p.main o.site) (initializing o (method p p.main).class (class p (method p p.main).class).site) (call_from o p.main o.site) (init_from o (method p p.main).class (class p (method p p.main).class).site))).by w j) k)
    (λ j. ⊎_elim
    (λ l. let y = of_flat (entry_ways p) (range_with_len 0 (length p.bodies)) w l in never w s v ((body_bare (record { point = point.Entry y.0; site = (method p y.0).site }) (body p y.0) tt).by w y.2) k)
    (λ l. ⊎_elim
    (λ m. let y = of_flat (init_ways p) (range_with_len 0 (length p.init_bodies)) w m in let c : Owner = record { point = point.Init y.0; site = (class p y.0).site } in never w s v ((b_both (into_body c (init_body p y.0)) (above_ways c (class p y.0).above) (body_bare c (init_body p y.0) tt) (above_bare c (class p y.0).above tt)).by w y.2) k)
    (λ m. let y = of_flat (statement_ways p) (statements_of p) w m in in_statement p y.0 w s v y.1 y.2 k)
    (in_either inits rest w l))
    (in_either entries (inits ++ rest) w j))
    (in_either (start_ways p) (entries ++ (inits ++ rest)) w i)

reaches_arm : (p : Program) (g : Goal) (q : Point) (s v : ℕ) → Meets p g q → q ≡ point.Arm s v → g ≡ Known (point.Arm s v)
reaches_arm p (Known r) q s v h e = ap Known (sym h ∙ e)
reaches_arm p (Chosen m d) q s v h e = absurd (let r = sym h.2 ∙ e in cc r)

tested : (act : Act) → HasTest act → is_testing_act act ≡ true
tested (If test a c) h = refl
tested (While test s) h = refl
tested (Do s test) h = refl
tested (For inits (the e) updates s) h = refl
tested (For inits absent updates s) h = absurd h
tested _ h = absurd h

-- where choices have other sites than the tests of statements, no link begins or ends at an arm of such a site
pub no_arm_at_test : (p : Program) → TestsStandApart p → (x : Statement) (site value : ℕ) → Contains (statements_of p) x → IsTestAt x site → IsPoint p (point.Arm site value) → ⊥
no_arm_at_test p apart (Stmt n at askable reach act) site value i t q =
    let a = q.is_link.along in
    let c = in_program p q.is_link.way site value q.is_link.among (⊎_elim (λ e. inl (sym a.from ∙ e)) (λ e. inr (reaches_arm p q.is_link.way.goal q.link.to site value a.to e)) q.is_end) in
    apart (Stmt n at askable reach act) c.0 site i c.1 (tested act t.0) c.2 t.1
