-- What the parts of a program lead to are ways of it, and each statement and each arm stands in its body.
use Rattle.std.proofs.Common.{◌≡◌, ◌⊎◌, ◌<◌, inl, inr, ⊎_elim, ℕ, zero, suc, Bool, true, false, List, [], ◌∷◌, ◌++◌, length, Option, Some, refl, sym, ap, ◌∙◌, subst}
use Rattle.std.specs.Prelude.{None as Absent}
use Rattle.std.specs.Prelude.{slice_get, slice_index_or, if◌then◌else◌}
use Rattle.std.specs.List.{Contains, flat_map, range_with_len, find}
use Rattle.std.specs.Option.{option_map_or}
use Rattle.std.specs.declared.cmp.Ordering.{Ordering}
use Rattle.std.specs.declared.cmp.Ordering.TheVariants.{Equal, Less, Greater}
use Rattle.std.specs.Ordering.{is_eq}
use Rattle.std.proofs.lemmas.Option.{slice_get_within}
use Rattle.wy_kernel.specs.declared.form.CondForm.{CondForm}
use Rattle.wy_kernel.specs.Form.{Expression, Cond, Part, Statement, Stmt, Act}
use Rattle.wy_kernel.specs.Program.{Program, Class, Body, class, body, init_body}
use Rattle.wy_kernel.specs.Statements.{number_of, statements, statements_of, statements_of_bodies, statements_of_body}
use Rattle.wy_kernel.specs.View.{NONE}
use Rattle.wy_typing.specs.Programs.{IsProgram}
use Rattle.law_typed_states.proofs.Subtypes.{part_at}
use Rattle.wy_static.specs.declared.point.Point.{Point}
use Rattle.wy_static.specs.declared.point.Point.TheVariants as point
use Rattle.wy_static.specs.declared.point.LinkKind.TheVariants as link_kind
use Rattle.wy_static.specs.declared.way.Owner.{Owner}
use Rattle.wy_static.specs.declared.way.Way.{Way}
use Rattle.wy_static.specs.declared.standing.Standing.{Standing}
use Rattle.wy_static.specs.Ways.{ways_of, owner_of, flow, printing, owned_ways, act_forms, statement_ways, start_ways, entry_ways, init_ways, into_body, above_ways, initializing, way}
use Rattle.wy_static.specs.Standings.{initializer_number, standing, form_standings, arm_standings, try_standings, standings_in, body_standings, method_standings, initializer_standings, standings_of}
use Rattle.wy_static.specs.Order.{same_point, point_cmp}
use Rattle.wy_static.specs.LookUps.{method_of, standing_at}
use Rattle.wy_static.proofs.Orders.{same_points, point_total}
use Rattle.std.proofs.lemmas.Cmp.{tied_itself}
use Rattle.law_reached.specs.Laws.{IsStatementOrArm, HasTest, IsTestAt, StandsApart}
use Rattle.law_reached.proofs.Contained.{nothing_in, in_head, in_tail, in_cases, in_left, in_right, in_flat, in_numbers}
use Rattle.law_reached.proofs.Seen.{arm_number}
use Rattle.law_reached.proofs.Ways.{Among, among_left, among_right, Good}
use Rattle.law_reached.proofs.Statements.{GoodStatement, Whole}
use Rattle.law_reached.proofs.Bodies.{BuiltBody, Built, entry_owner, init_owner}

-- ---- where a point stands

equal_from_test : (r : Ordering) → is_eq r ≡ true → r ≡ Equal
equal_from_test Equal e = refl
equal_from_test Less e = absurd (cc e)
equal_from_test Greater e = absurd (cc e)

same_itself : (q : Point) → same_point q q ≡ true
same_itself q = ap is_eq (tied_itself point_total q)

found_one : (test : Standing → Bool) (xs : List Standing) (x : Standing) → Contains xs x → test x ≡ true → (y : Standing) × (find test xs ≡ Some y) × Contains xs y × (test y ≡ true)
found_one test [] x i h = nothing_in x i
found_one test (z ∷ xs) x i h = go (λ k. found_one test xs x k h) (test z) refl
  where
    behind : (z ≡ x) ⊎ Contains xs x → test z ≡ false → Contains xs x
    behind (inl e) f = absurd (cc (sym (ap test e ∙ h) ∙ f))
    behind (inr j) f = j

    go : (Contains xs x → (y : Standing) × (find test xs ≡ Some y) × Contains xs y × (test y ≡ true)) → (b : Bool) → test z ≡ b → (y : Standing) × (find test (z ∷ xs) ≡ Some y) × Contains (z ∷ xs) y × (test y ≡ true)
    go again true e = (z, ap (λ b. if b then Some z else find test xs) e, in_head z xs, e)
    go again false e = let r = again (behind (in_cases z x xs i) e) in (r.0, ap (λ b. if b then Some z else find test xs) e ∙ r.1, in_tail z r.0 xs r.2, r.3)

module _ (p : Program) (apart : StandsApart p) where
  its_method : (y x : Standing) (o : Option Standing) → o ≡ Some y → y.method ≡ x.method → option_map_or (λ (z : Standing). z.method) o NONE ≡ x.method
  its_method y x o e m = ap (λ (q : Option Standing). option_map_or (λ (z : Standing). z.method) q NONE) e ∙ m

  found_method : (x : Standing) → Contains (standings_of p) x → IsStatementOrArm x.point → option_map_or (λ (z : Standing). z.method) (standing_at (standings_of p) x.point) NONE ≡ x.method
  found_method x i k =
      let r = found_one (λ (y : Standing). same_point y.point x.point) (standings_of p) x i (same_itself x.point) in
      let same : r.0.point ≡ x.point = same_points r.0.point x.point (equal_from_test (point_cmp r.0.point x.point) r.3) in
      its_method r.0 x _ r.1 (sym (apart.bodies x r.0 i r.2 (sym same) k))

  -- the method of a point that stands in a body
  stands_in : (q : Point) (m a : ℕ) → Contains (standings_of p) (standing m a q) → IsStatementOrArm q → method_of p q ≡ m
  stands_in (point.Statement n) m a i k = found_method (standing m a (point.Statement n)) i k
  stands_in (point.Arm site v) m a i k = found_method (standing m a (point.Arm site v)) i k
  stands_in point.Start m a i k = absurd k
  stands_in (point.Entry n) m a i k = absurd k
  stands_in (point.Init n) m a i k = absurd k
  stands_in (point.Catch n) m a i k = absurd k

  -- ---- the statements of a body

  record InBody (b : ℕ) (x : Body) : Type 0 where
    pub among : (t : Statement) → Contains (statements x.block) t → Contains (statements_of p) t
    pub stands : (s : Standing) → Contains (flat_map (standings_in b) (statements x.block)) s → Contains (standings_of p) s

  good_form : (b number site : ℕ) (askable : Bool) (reach : ℕ) (act : Act) (x : Body) → InBody b x → Contains (statements x.block) (Stmt number site askable reach act) → (y : Owner × Expression) → Contains (act_forms (owner_of (Stmt number site askable reach act)) act) y → Good p b y
  good_form b number site askable reach act x h i y j =
      let t = Stmt number site askable reach act in
      let o = owner_of t in
      record {
        ways = record { by = λ w k. in_ways w (in_flat (statement_ways p) (statements_of p) t w (h.among t i) (in_right (flow o act) _ w (in_right (printing p o act) _ w (in_flat (owned_ways p) (act_forms o act) y w j k)))) };
        arms = λ f test a c s e v. stands_in (point.Arm s (arm_number v)) b number (h.stands _ (in_flat (standings_in b) (statements x.block) t _ i (in_tail _ _ _ (in_left (flat_map (arm_standings b number) (act_forms o act)) (try_standings b act) _ (in_flat (arm_standings b number) (act_forms o act) y _ j (arm_there e v)))))) tt;
      }
    where
      in_ways : (w : Way) → Contains (flat_map (statement_ways p) (statements_of p)) w → Contains (ways_of p) w
      in_ways w k = in_right (start_ways p) _ w (in_right (flat_map (entry_ways p) (range_with_len 0 (length p.bodies))) _ w (in_right (flat_map (init_ways p) (range_with_len 0 (length p.init_bodies))) _ w k))

      arm_there : {f : CondForm} {test : Expression} {a c : Part} {s : ℕ} → y.1 ≡ Cond f test a c s → (v : Bool) → Contains (arm_standings b number y) (standing b number (point.Arm s (arm_number v)))
      arm_there {s = s} e true = subst (λ z. Contains (form_standings b number z) (standing b number (point.Arm s 1))) (sym e) (in_tail (standing b number (point.Arm s 0)) (standing b number (point.Arm s 1)) (standing b number (point.Arm s 1) ∷ []) (in_head (standing b number (point.Arm s 1)) []))
      arm_there {s = s} e false = subst (λ z. Contains (form_standings b number z) (standing b number (point.Arm s 0))) (sym e) (in_head (standing b number (point.Arm s 0)) (standing b number (point.Arm s 1) ∷ []))

  statement_there : (b : ℕ) (t : Statement) → Contains (standings_in b t) (standing b (number_of t) (point.Statement (number_of t)))
  statement_there b (Stmt number site askable reach act) = in_head _ _

  all_ways : (b : ℕ) (x : Body) → InBody b x → (t : Statement) → Contains (statements x.block) t → Among p (statement_ways p t)
  all_ways b x h t i = record { by = λ w k. in_right (start_ways p) _ w (in_right (flat_map (entry_ways p) (range_with_len 0 (length p.bodies))) _ w (in_right (flat_map (init_ways p) (range_with_len 0 (length p.init_bodies))) _ w (in_flat (statement_ways p) (statements_of p) t w (h.among t i) k))) }

  tests_at : (number site : ℕ) (askable : Bool) (reach : ℕ) (act : Act) → HasTest act → IsTestAt (Stmt number site askable reach act) site
  tests_at number site askable reach act h = (h, refl)

  whole : (b : ℕ) (x : Body) → InBody b x → Whole p b (statements x.block)
  whole b x h = record { by = by_statement }
    where
      by_statement : (t : Statement) → Contains (statements x.block) t → GoodStatement p b t
      by_statement (Stmt number site askable reach act) i =
          let t = Stmt number site askable reach act in
          let o = owner_of t in
          let all = all_ways b x h t i in
          record {
            flows = among_left p (flow o act) (printing p o act ++ flat_map (owned_ways p) (act_forms o act)) all;
            prints = among_left p (printing p o act) (flat_map (owned_ways p) (act_forms o act)) (among_right p (flow o act) (printing p o act ++ flat_map (owned_ways p) (act_forms o act)) all);
            forms = record { by = good_form b number site askable reach act x h i };
            stands = stands_in (point.Statement number) b number (h.stands _ (in_flat (standings_in b) (statements x.block) t _ i (statement_there b t))) tt;
            apart = λ k v q. apart.tests t site v (h.among t i) (tests_at number site askable reach act k) q;
          }

  -- ---- bodies

  body_there : (xs : List (Option Body)) (m : ℕ) (x : Body) → slice_index_or xs m Absent ≡ Some x → slice_get xs m ≡ Some (Some x)
  body_there xs m x e = ⊎_elim (λ h. absurd (cc (sym h.1 ∙ e))) (λ h. h.1 ∙ ap Some (sym h.2 ∙ e)) (part_at xs m Absent)

  in_bodies : (xs : List (Option Body)) (m : ℕ) (x : Body) (t : Statement) → slice_get xs m ≡ Some (Some x) → Contains (statements x.block) t → Contains (statements_of_bodies xs) t
  in_bodies [] m x t e i = absurd (cc e)
  in_bodies (y ∷ xs) zero x t e i = in_left (statements_of_body y) (statements_of_bodies xs) t (subst (λ (z : Option Body). Contains (statements_of_body z) t) (sym (some_same e)) i)
    where
      some_same : {a c : Option Body} → Some a ≡ Some c → a ≡ c
      some_same e = cc e
  in_bodies (y ∷ xs) (suc m) x t e i = in_right (statements_of_body y) (statements_of_bodies xs) t (in_bodies xs m x t e i)

  method_body : (m : ℕ) (x : Body) → body p m ≡ Some x → BuiltBody p m (entry_owner p m) x
  unfolding body
  method_body m x e =
      let there = body_there p.bodies m x e in
      let below : m < length p.bodies = slice_get_within p.bodies m (Some x) there in
      let at : Contains (range_with_len 0 (length p.bodies)) m = in_numbers (length p.bodies) m below in
      record {
        whole = whole m x (record {
          among = λ t i. in_left (statements_of_bodies p.bodies) (statements_of_bodies p.init_bodies) t (in_bodies p.bodies m x t there i);
          stands = λ s i. in_left (flat_map (method_standings p) (range_with_len 0 (length p.bodies))) _ s (in_flat (method_standings p) (range_with_len 0 (length p.bodies)) m s at (subst (λ (z : Option Body). Contains (body_standings m z) s) (sym e) i));
        });
        into = in_right (start_ways p) _ _ (in_left (flat_map (entry_ways p) (range_with_len 0 (length p.bodies))) _ _ (in_flat (entry_ways p) (range_with_len 0 (length p.bodies)) m _ at (subst (λ (z : Option Body). Contains (into_body (entry_owner p m) z) (way link_kind.Into (entry_owner p m) (point.Statement (number_of x.block)))) (sym e) (in_head _ []))));
      }

  class_body : (c : ℕ) (x : Body) → init_body p c ≡ Some x → BuiltBody p (initializer_number c) (init_owner p c) x
  unfolding init_body
  class_body c x e =
      let there = body_there p.init_bodies c x e in
      let below : c < length p.init_bodies = slice_get_within p.init_bodies c (Some x) there in
      let at : Contains (range_with_len 0 (length p.init_bodies)) c = in_numbers (length p.init_bodies) c below in
      record {
        whole = whole (initializer_number c) x (record {
          among = λ t i. in_right (statements_of_bodies p.bodies) (statements_of_bodies p.init_bodies) t (in_bodies p.init_bodies c x t there i);
          stands = λ s i. in_right (flat_map (method_standings p) (range_with_len 0 (length p.bodies))) _ s (in_flat (initializer_standings p) (range_with_len 0 (length p.init_bodies)) c s at (subst (λ (z : Option Body). Contains (body_standings (initializer_number c) z) s) (sym e) i));
        });
        into = in_right (start_ways p) _ _ (in_right (flat_map (entry_ways p) (range_with_len 0 (length p.bodies))) _ _ (in_left (flat_map (init_ways p) (range_with_len 0 (length p.init_bodies))) _ _ (in_flat (init_ways p) (range_with_len 0 (length p.init_bodies)) c _ at
            (in_left (into_body (init_owner p c) (init_body p c)) (above_ways (init_owner p c) (class p c).above) _ (subst (λ (z : Option Body). Contains (into_body (init_owner p c) z) (way link_kind.Into (init_owner p c) (point.Statement (number_of x.block)))) (sym e) (in_head _ []))))));
      }

  has_class : (c d : ℕ) → (class p c).above ≡ Some d → c < length p.classes
  unfolding class
  has_class c d e = ⊎_elim (λ h. absurd (cc (sym (ap (λ (k : Class). k.above) h.1) ∙ e))) (λ h. slice_get_within p.classes c h.0 h.1) (part_at p.classes c (record { name = []; site = 0; is_interface = false; is_abstract = false; is_final = false; above = Absent; interfaces = [] }))

  above_there : IsProgram p → (c d : ℕ) → (class p c).above ≡ Some d → Among p (initializing (init_owner p c) d (class p c).site)
  above_there fits c d e =
      let at : Contains (range_with_len 0 (length p.init_bodies)) c = in_numbers (length p.init_bodies) c (subst (λ n. c < n) (sym fits.a_place_a_class) (has_class c d e)) in
      record {
        by = λ w i. in_right (start_ways p) _ w (in_right (flat_map (entry_ways p) (range_with_len 0 (length p.bodies))) _ w (in_left (flat_map (init_ways p) (range_with_len 0 (length p.init_bodies))) _ w (in_flat (init_ways p) (range_with_len 0 (length p.init_bodies)) c w at
            (in_right (into_body (init_owner p c) (init_body p c)) (above_ways (init_owner p c) (class p c).above) w (subst (λ (z : Option ℕ). Contains (above_ways (init_owner p c) z) w) (sym e) i)))));
      }

  pub built : IsProgram p → Built p
  built fits = record { methods = method_body; classes = class_body; above = above_there fits }
