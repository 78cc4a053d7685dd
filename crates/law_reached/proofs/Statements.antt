-- Each statement of a body keeps what is reached, from where a way leads to it.
use Rattle.std.proofs.Common.{◌≡◌, ℕ, Bool, true, List, [], ◌++◌, Option, Some, refl, sym, ap, subst}
use Rattle.std.specs.Prelude.{None as Absent}
use Rattle.std.specs.Prelude.{slice_get}
use Rattle.std.specs.List.{Contains}
use Rattle.wy_kernel.specs.declared.types.Ty.{Ty}
use Rattle.wy_kernel.specs.Form.{Expression, Part, absent, the, Statement, Stmt, Act, Block, Eval, Declare, If, While, Do, For, Labelled, Jump, Return, Throw, Try, Print, Other, nothing as no_statement, this, Statements, done, first, Catches, uncaught, catch}
use Rattle.wy_kernel.specs.Statements.{number_of, statements, statements_within, statements_of_all, statements_of_other, statements_of_catches}
use Rattle.wy_kernel.specs.Program.{Program, is_subclass, class_of_type}
use Rattle.wy_kernel.specs.Subtyping.{class_type}
use Rattle.wy_kernel.specs.Builtin.{throwable_class}
use Rattle.wy_value.specs.declared.value.Value.{Value}
use Rattle.wy_value.specs.declared.value.Value.TheVariants as val
use Rattle.wy_event.specs.declared.record.Kind.TheVariants as kind
use Rattle.wy_event.specs.declared.record.Slot.TheVariants as slot
use Rattle.wy_steps.specs.State.{Carried, Run, Through, Reason, Jumped, Returned, Threw, ◌>>=◌, ◌>>◌, leave, catching, choose}
use Rattle.wy_steps.specs.Steps.{code_of, note, value_of as carried_of}
use Rattle.wy_meaning.specs.World.{World, plain, into, fail, throwing, null_pointer, is_null}
use Rattle.wy_meaning.specs.Text.{print_value}
use Rattle.wy_meaning.specs.Expression.{eval, eval_part, part_or}
use Rattle.wy_meaning.specs.Statement.{armed, tested, evaluated, if_form, for_test, for_form, return_form, throw_form, caught, handle, at_throw, finally, try_form, print_form, other_or, exec, exec_act, exec_other, exec_all, exec_catches}
use Rattle.wy_typing.specs.Types.{boolean_type}
use Rattle.wy_typing.specs.Expressions.{HasType, fitting}
use Rattle.wy_typing.specs.Statements.{Within, IsTyped, Acts, OtherTyped, AllTyped, CatchesTyped, IsTest, IsResult, IsOperand}
use Rattle.law_induction.specs.Law.{nothing, both, Entails, FrameKind, In}
use Rattle.law_induction.specs.Forms.{OfOther, OfStatements, OfCatches, ActParts}
use Rattle.law_induction.proofs.Induction.{of_statement}
use Rattle.law_induction.proofs.Rules.{newest, before, trivially}
use Rattle.law_typed_states.specs.Typed.{Runs as HasFrame, local_types}
use Rattle.law_typed_states.proofs.Law.{is, current, stores, reason}
use Rattle.law_typed_states.proofs.Rules as typed_rule
use Rattle.law_typed_states.proofs.Rules.{Ground, A, p, Known, Does, forgets, frames, catches_local}
use Rattle.law_typed_states.proofs.Facts.{found_as, caught_is}
use Rattle.law_typed_states.proofs.Places.{Methods, of_type, world_of, finds_type}
use Rattle.law_typed_states.proofs.Statements as typed_statement
use Rattle.law_typed_states.proofs.Statements.{GivesBack, leaves_typed, place}
use Rattle.law_typed_states.proofs.Expressions as expression
use Rattle.wy_static.specs.declared.point.Point.{Point}
use Rattle.wy_static.specs.declared.point.Point.TheVariants as point
use Rattle.wy_static.specs.declared.point.LinkKind.{LinkKind}
use Rattle.wy_static.specs.declared.point.LinkKind.TheVariants as link_kind
use Rattle.wy_static.specs.declared.way.Owner.{Owner}
use Rattle.wy_static.specs.declared.way.Goal.TheVariants.{Known as KnownGoal}
use Rattle.wy_static.specs.Forms.{forms}
use Rattle.wy_static.specs.Ways as ways
use Rattle.wy_static.specs.Ways.{owner_of, way, to, to_other, to_catch, to_catches, catch_owner, in_order, by_test, flow, printing, converting, owned_ways, act_forms, in_part, statement_ways}
use Rattle.wy_static.specs.LookUps.{method_of}
use Rattle.law_reached.proofs.Contained.{in_head, in_tail, in_left, in_right}
use Rattle.law_reached.specs.Laws.{IsPoint, HasTest}
use Rattle.law_reached.proofs.Seen.{ShownBy}
use Rattle.law_reached.proofs.Ways.{Among, among_left, among_right, among_head, among_tail, way_link, Each}
use Rattle.law_reached.proofs.Quiet.{Quiet, q_bind, q_return, q_leave, q_choose, q_frame, q_note, note_adds, write_adds, activating_adds}
use Rattle.law_reached.proofs.Forms as quietly
use Rattle.law_reached.proofs.Expressions.{Links, Fine, keeps, shows_fine}
use Rattle.law_reached.proofs.Rules.{body_number, Ours, Edge, Apart, Way, IsPlainLink, bind, after, at_owner, either, quiet, then_quiet, quiet_first, catches, records, records_apart, numbered, whiles, dos}

-- its ways are ways of the program, it and its arms stand in the body, and no arm has the site of its test
pub record GoodAct (p : Program) (b : ℕ) (o : Owner) (act : Act) : Type 0 where
  pub flows : Among p (flow o act)
  pub prints : Among p (printing p o act)
  pub forms : Each p b (act_forms o act)
  pub stands : method_of p o.point ≡ b
  pub apart : HasTest act → (v : ℕ) → IsPoint p (point.Arm o.site v) → ⊥

abbrev pub GoodStatement : Program → ℕ → Statement → Type 0
GoodStatement p b (Stmt number site askable reach act) = GoodAct p b (owner_of (Stmt number site askable reach act)) act

pub record Whole (p : Program) (b : ℕ) (xs : List Statement) : Type 0 where
  pub by : (x : Statement) → Contains xs x → GoodStatement p b x

whole_left : (p : Program) (b : ℕ) (xs ys : List Statement) → Whole p b (xs ++ ys) → Whole p b xs
whole_left p b xs ys h = record { by = λ x i. h.by x (in_left xs ys x i) }

whole_right : (p : Program) (b : ℕ) (xs ys : List Statement) → Whole p b (xs ++ ys) → Whole p b ys
whole_right p b xs ys h = record { by = λ x i. h.by x (in_right xs ys x i) }

module _ (G : Ground) (M : Methods G) (L : Links G M) (i : FrameKind) (result : Option Ty) (back : GivesBack G M i result) where
  abbrev w : World (A G)
  w = world_of G M

  abbrev C : Type 0
  C = Carried (A G)

  abbrev b : ℕ
  b = body_number i

  abbrev here : Within
  here = place G M i result

  -- a run of statements, from an executed point
  pub record Runs (q : Point) (m : Run (A G) Unit) : Type 1 where
    pub by : (P : Known G) → Ours G (In i) b q P m (λ u. q)

  abbrev Typed : {X : Type 0} → Run (A G) X → Type 1
  Typed m = (P : Known G) → Does G (In i) P m (λ x. nothing)

  typed_exec : (x : Statement) → IsTyped here x → Typed (exec w x)
  typed_exec x h P = (leaves_typed G M i result back x h).by P

  pub by_way : (k : LinkKind) (o : Owner) (q : Point) → IsPlainLink G k → Contains (ways.ways_of (p G)) (way k o q) → Way G o.point q
  by_way k o q plain h = record { link = record { kind = k; from = o.point; to = q; site = o.site }; is_link = way_link (p G) k o.point q o.site h; plain = plain; from = refl; to = refl }

  -- the statement, from each executed point from which a way leads to it
  pub record Keeps (x : Statement) : Type 1 where
    pub by : (q : Point) → Whole (p G) b (statements x) → Way G q (point.Statement (number_of x)) → IsTyped here x → (P : Known G) → Ours G (In i) b q P (exec w x) (λ u. point.Statement (number_of x))

  runs : (x : Statement) → Keeps x → (k : LinkKind) (o : Owner) → IsPlainLink G k → Among (p G) (to k o x) → Whole (p G) b (statements x) → IsTyped here x → Runs o.point (exec w x)
  runs x d k o plain a h t = record { by = λ P. at_owner G (d.by o.point h (by_way k o (point.Statement (number_of x)) plain (among_head (p G) _ [] a)) t P) }

  -- ---- statements in order

  all_typed : (x : Statements) → AllTyped here x → Typed (exec_all w x)
  unfolding exec_all
  all_typed done h P = typed_rule.gives G tt trivially
  all_typed (first s rest) h P = typed_rule.after G (typed_exec s h.0 P) (all_typed rest h.1 P)

  all_run : (x : Statements) → OfStatements Keeps x → (k : LinkKind) (o : Owner) → IsPlainLink G k → Among (p G) (in_order k o x) → Whole (p G) b (statements_of_all x) → AllTyped here x → Runs o.point (exec_all w x)
  unfolding exec_all
  all_run done d k o plain a h t = record { by = λ P. quiet G (q_return tt) }
  all_run (first (Stmt n site askable reach act) rest) d k o plain a h t =
      let s = Stmt n site askable reach act in
      record {
        by = λ P. at_owner G (after G (typed_exec s t.0 P) (d.0.by o.point (whole_left (p G) b (statements s) (statements_of_all rest) h) (by_way k o (point.Statement n) plain (among_head (p G) _ (in_order link_kind.Next (owner_of s) rest) a)) t.0 P)
            (λ P. (all_run rest d.1 link_kind.Next (owner_of s) tt (among_tail (p G) _ (in_order link_kind.Next (owner_of s) rest) a) (whole_right (p G) b (statements s) (statements_of_all rest) h) t.1).by P));
      }

  -- ---- tests

  test_apart : (site : ℕ) (v : Value) → ((n : ℕ) → IsPoint (p G) (point.Arm site n) → ⊥) → Apart G (plain kind.Test site v)
  unfolding plain
  test_apart site v h = record { none = none; plain = λ k. k; no_new = λ k. cc k }
    where
      none : (x : Point) → IsPoint (p G) x → ShownBy x kind.Test site Absent v → ⊥
      none (point.Arm s n) i k = h n (subst (λ z. IsPoint (p G) (point.Arm z n)) (sym k.1) i)
      none point.Start i k = k
      none (point.Statement n) i k = k
      none (point.Entry m) i k = cc k.0
      none (point.Init m) i k = cc k.0
      none (point.Catch m) i k = cc k.0

  arms : {P : Known G} (o : Owner) (reach n : ℕ) (v : Carried (A G)) → ((n : ℕ) → IsPoint (p G) (point.Arm o.site n) → ⊥) → Ours G (In i) b o.point P (armed o.site reach n v) (λ c. o.point)
  unfolding armed
  arms o reach n v apart = quiet_first G (forgets G (frames G)) q_frame (λ f.
      then_quiet G (records_apart G (plain kind.Test o.site (val.Arm n)) v (λ s. activating_adds (Through f reach) _ v s _ (note_adds _ v s)) (test_apart o.site (val.Arm n) apart)) (λ e. q_return _))

  tests : {P : Known G} (o : Owner) (reach : ℕ) (e : Expression) → method_of (p G) o.point ≡ b → Each (p G) b (forms o e) → expression.Typed G M i e → ((n : ℕ) → IsPoint (p G) (point.Arm o.site n) → ⊥) → HasType (p G) (local_types (p G) i) e boolean_type → Ours G (In i) b o.point P (tested o.site reach (eval w e)) (λ c. o.point)
  unfolding tested ◌>>◌
  tests {P = P} o reach e s h d apart t = bind G ((d.by boolean_type t).by P) (((keeps G M L i e).by o s h boolean_type t).by P) (λ v. then_quiet G (arms o reach _ v apart) (λ c. q_return _))

  test_typed : (site reach : ℕ) (e : Expression) → HasType (p G) (local_types (p G) i) e boolean_type → Typed (tested site reach (eval w e))
  test_typed site reach e t P = (typed_statement.tests G M i result back site reach (eval w e) ((expression.typed G M i e).by boolean_type t)).by P

  -- ---- try

  caught_edge : (o : Owner) (site f k : ℕ) (v : Value) → Contains (ways.ways_of (p G)) (record { kind = link_kind.Catch; from = o.point; goal = KnownGoal (point.Catch site); site = site }) → Edge G b o.point (into kind.Catch site (slot.Local f k) v) (point.Catch site)
  unfolding into
  caught_edge o site f k v h = record {
    link = record { kind = link_kind.Catch; from = o.point; to = point.Catch site; site = site };
    is_link = way_link (p G) link_kind.Catch o.point (point.Catch site) site h;
    from = refl;
    to = refl;
    crossing = tt;
    only = only;
    shown = (refl, refl);
    calling = λ k. absurd k;
    no_new = λ k. cc k;
  }
    where
      only : (x : Point) → ShownBy x kind.Catch site Absent v → x ≡ point.Catch site
      only (point.Catch s) h = ap point.Catch (sym h.1)
      only point.Start h = absurd h
      only (point.Statement n) h = absurd h
      only (point.Entry m) h = absurd (cc h.0)
      only (point.Init m) h = absurd (cc h.0)
      only (point.Arm s n) h = absurd (cc h.0)

  takes : {P : Known G} (o : Owner) (c k site : ℕ) (block : Statement) (number : ℕ) (v : C) → Keeps block → Among (p G) (to_catch o site block) → Whole (p G) b (statements block) → IsTyped here block → slice_get (local_types (p G) i) k ≡ Some (class_type c) → Entails P (of_type G (class_type c) v.value) → Ours G (In i) b o.point P (caught (record { class = c; local = k; site = site; number = number; block = exec w block }) v) (λ u. o.point)
  unfolding caught current stores is both code_of
  takes {P = P} o c k site block number v d a h t e q = quiet_first G (frames G) q_frame (λ f. at_owner G (bind G
      (catches_local G (Through f number) site (code_of f) k v.value v (record { by = λ n y. let r = y.1 in typed_statement.binds G M i result back n (code_of f) k v.value (class_type c) e (subst (λ z. HasFrame n z i) (sym (ap code_of r.1)) r.2) (q.by n y.0) }))
      (records G (into kind.Catch site (slot.Local (code_of f) k) v.value) v (λ s. activating_adds (Through f number) _ v s _ (write_adds _ v s)) (caught_edge o site (code_of f) k v.value (among_head (p G) _ (to link_kind.Into (catch_owner site) block) a)))
      (λ x. (runs block d link_kind.Into (catch_owner site) tt (among_tail (p G) _ (to link_kind.Into (catch_owner site) block) a) h t).by _)))

  handles : {P : Known G} (x : Catches) (o : Owner) (found : Ty) (e : ℕ) (v : C) → OfCatches Keeps x → Among (p G) (to_catches o x) → Whole (p G) b (statements_of_catches x) → CatchesTyped here x → Entails P (of_type G (class_type throwable_class) v.value) → Entails P (found_as G v.value found) → Ours G (In i) b o.point P (handle (p G) (exec_catches w x) (class_of_type found) e v) (λ u. o.point)
  unfolding handle exec_catches is found_as
  handles uncaught o found e v d a h t q f = quiet G (q_leave _)
  handles (catch c k site block rest) o found e v d a h t q f = either G (is_subclass (p G) (class_of_type found) c)
      (λ s. takes o c k site block _ v d.0 (among_left (p G) (to_catch o site block) (to_catches o rest) a) (whole_left (p G) b (statements block) (statements_of_catches rest) h) t.1 t.0.bound (record { by = λ n y. caught_is G n v.value found c (q.by n y) (f.by n y) s }))
      (λ s. handles rest o found e v d.1 (among_right (p G) (to_catch o site block) (to_catches o rest) a) (whole_right (p G) b (statements block) (statements_of_catches rest) h) t.2 q f)

  thrown : {P : Known G} (e : ℕ) (v : C) → Entails P (reason (A G) (p G) (In i) (Threw e v)) → Entails P (of_type G (class_type throwable_class) v.value)
  unfolding reason
  thrown e v q = q

  at_throws : {P : Known G} (x : Catches) (o : Owner) (why : Reason (A G)) → OfCatches Keeps x → Among (p G) (to_catches o x) → Whole (p G) b (statements_of_catches x) → CatchesTyped here x → Entails P (reason (A G) (p G) (In i) why) → Ours G (In i) b o.point P (at_throw w (exec_catches w x) why) (λ u. o.point)
  unfolding at_throw
  at_throws x o (Jumped target e) d a h t q = quiet G (q_leave _)
  at_throws x o (Returned e v) d a h t q = quiet G (q_leave _)
  at_throws x o (Threw e v) d a h t q = quiet_first G (finds_type G M (class_type throwable_class) v.value (thrown e v q)) (quietly.q_type_of G M v.value) (λ found. handles x o found e v d a h t (before _ _ (thrown e v q)) (newest _ _))

  -- the typed parts of a `try`
  module _ (main : Statement) (x : Catches) (tm : IsTyped here main) (tc : CatchesTyped here x) where
    clauses_leave : (x : Catches) → CatchesTyped here x → typed_statement.ClausesLeave G M i result back (exec_catches w x)
    unfolding exec_catches
    clauses_leave uncaught t = tt
    clauses_leave (catch c k site block rest) t = (t.0.bound, leaves_typed G M i result back block t.1, clauses_leave rest t.2)

    guarded_typed : Typed (catching (exec w main) (at_throw w (exec_catches w x)))
    guarded_typed P = (typed_statement.tries G M i result back (exec w main) (exec_catches w x) (leaves_typed G M i result back main tm) (clauses_leave x tc)).by P

  guarded : (main : Statement) (x : Catches) (o : Owner) → Keeps main → OfCatches Keeps x → Among (p G) (to link_kind.Into o main) → Among (p G) (to_catches o x) → Whole (p G) b (statements main) → Whole (p G) b (statements_of_catches x) → IsTyped here main → CatchesTyped here x → Runs o.point (catching (exec w main) (at_throw w (exec_catches w x)))
  guarded main x o d dc a ac h hc t tc = record { by = λ P. catches G (typed_exec main t P) ((runs main d link_kind.Into o tt a h t).by P) (λ why. at_throws x o why dc ac hc tc (newest _ _)) }

  then_leave : {q : Point} {P : Known G} (last : Run (A G) Unit) (why : Reason (A G)) → Runs q last → Ours G (In i) b q {X = Unit {0}} P (last >> leave why) (λ u. q)
  unfolding ◌>>◌
  then_leave {P = P} last why h = then_quiet G (h.by P) (λ t. q_leave why)

  lasts : (m last : Run (A G) Unit) (q : Point) → Typed m → Runs q m → Typed last → Runs q last → Runs q (finally m last)
  unfolding finally
  lasts m last q tm rm tl rl = record {
    by = λ P. after G (typed_rule.catches G (tm P) (λ why. typed_rule.after G (tl _) (typed_rule.leaves G why (newest _ _))))
        (catches G (tm P) (rm.by P) (λ why. then_leave last why rl))
        (λ P. rl.by P);
  }

  tries : (main : Statement) (x : Catches) (last : Other) (o : Owner) → Keeps main → OfCatches Keeps x → OfOther Keeps last → Among (p G) (to link_kind.Into o main) → Among (p G) (to_catches o x) → Among (p G) (to_other link_kind.Into o last) → Whole (p G) b (statements main) → Whole (p G) b (statements_of_catches x) → Whole (p G) b (statements_of_other last) → IsTyped here main → CatchesTyped here x → OtherTyped here last → Runs o.point (try_form w (exec w main) (exec_catches w x) (exec_other w last))
  unfolding try_form exec_other
  tries main x no_statement o d dc dl a ac al h hc hl t tc tl = guarded main x o d dc a ac h hc t tc
  tries main x (this s) o d dc dl a ac al h hc hl t tc tl = lasts _ (exec w s) o.point (guarded_typed main x t tc) (guarded main x o d dc a ac h hc t tc) (typed_exec s tl) (runs s dl link_kind.Into o tt al hl tl)

  -- ---- each statement

  others : (x : Other) → OfOther Keeps x → (k : LinkKind) (o : Owner) → IsPlainLink G k → Among (p G) (to_other k o x) → Whole (p G) b (statements_of_other x) → OtherTyped here x → Runs o.point (other_or (exec_other w x))
  unfolding other_or exec_other
  others no_statement d k o plain a h t = record { by = λ P. quiet G (q_return tt) }
  others (this s) d k o plain a h t = runs s d k o plain a h t

  value_of : (e : Expression) (ty : Ty) (o : Owner) → (method_of (p G) o.point ≡ b) × Each (p G) b (forms o e) → HasType (p G) (local_types (p G) i) e ty → Fine G M L i o.point (eval w e)
  value_of e ty o g t = (keeps G M L i e).by o g.0 g.1 ty t

  then_nothing : {q : Point} {m : Run (A G) C} {f : C → Run (A G) Unit} → Fine G M L i q m → ((v : C) → Quiet (f v)) → Runs q (m >>= f)
  then_nothing h k = record { by = λ P. then_quiet G (h.by P) k }

  q_throw : (site : ℕ) (v : C) → Quiet {X = Unit {0}} (choose (is_null v.value) (fail w null_pointer site v) (throwing site v))
  q_throw site v = q_choose (is_null v.value) (quietly.q_null G M site v) (quietly.q_throwing G M site v)

  q_return_form : (site : ℕ) (v : C) → Quiet {X = Unit {0}} (note (plain kind.Return site v.value) v >>= (λ e. leave (Returned e.number (carried_of e v.value))))
  q_return_form site v = q_bind (q_note _ v (quietly.q_returning G M site v.value v)) (λ e. q_leave _)

  returns : (site : ℕ) (x : Part) (o : Owner) → method_of (p G) o.point ≡ b → Each (p G) b (in_part o x) → IsResult here x → Runs o.point (return_form site (part_or val.None (eval_part w x)))
  unfolding return_form part_or eval_part
  returns site absent o s g t = record { by = λ P. quiet G (q_bind (q_return _) (λ v. q_return_form site v)) }
  returns site (the e) o s g (ty, r, vt, fitting {a = a} h f) = then_nothing (value_of e a o (s, g) h) (λ v. q_return_form site v)

  prints_value : (e : Expression) (ty : Ty) (ends_line : Bool) (site : ℕ) (o : Owner) → (method_of (p G) o.point ≡ b) × Each (p G) b (forms o e) → Among (p G) (converting (p G) o ty site) → HasType (p G) (local_types (p G) i) e ty → Runs o.point (print_value w (eval w e) ends_line site)
  unfolding print_value
  prints_value e ty ends_line site o g a t = record {
    by = λ P. bind G (((expression.typed G M i e).by ty t).by P) ((value_of e ty o g t).by P) (λ v. then_quiet G (shows_fine G M L i o g.0 site v ty (newest _ _) a) (λ s. q_bind (quietly.q_spelled G M s.value) (λ us. quietly.q_print G M site _ s)));
  }

  prints : (x : Part) (ty : Ty) (ends_line : Bool) (site : ℕ) (o : Owner) → method_of (p G) o.point ≡ b → Each (p G) b (in_part o x) → Among (p G) (converting (p G) o ty site) → IsOperand here x ty ends_line → Runs o.point (print_form w (eval_part w x) ends_line site)
  unfolding print_form eval_part
  prints absent ty ends_line site o s g a t = record { by = λ P. quiet G (quietly.q_print_nothing G M ends_line site) }
  prints (the e) ty ends_line site o s g a t = prints_value e ty ends_line site o (s, g) a t.1

  for_tests : (o : Owner) (reach : ℕ) (inits updates : Statements) (body : Statement) (x : Part) → GoodAct (p G) b o (For inits x updates body) → IsTest here x → (P : Known G) → Ours G (In i) b o.point P (for_test o.site reach (eval_part w x)) (λ c. o.point)
  unfolding for_test eval_part
  for_tests o reach inits updates body absent g t P = quiet G (q_return true)
  for_tests o reach inits updates body (the e) g t P = tests o reach e g.stands g.forms (expression.typed G M i e) (g.apart tt) t

  for_typed : (site reach : ℕ) (x : Part) → IsTest here x → Typed (for_test site reach (eval_part w x))
  unfolding for_test eval_part
  for_typed site reach absent t P = typed_rule.gives G true trivially
  for_typed site reach (the e) t P = test_typed site reach e t P

  plain_test : (x : Part) → IsPlainLink G (by_test x)
  plain_test absent = tt
  plain_test (the e) = tt

  turn : (body : Statement) (updates : Statements) (q : Point) → Typed (exec w body) → ((P : Known G) → Ours G (In i) b q P (exec w body) (λ u. point.Statement (number_of body))) → Runs (point.Statement (number_of body)) (exec_all w updates) → Runs q (exec w body >> exec_all w updates)
  turn body updates q t h k = record { by = λ P. at_owner G (after G (t P) (h P) (λ P. k.by P)) }

  updates_run : (body : Statement) (updates : Statements) → OfStatements Keeps updates → Among (p G) (in_order link_kind.Next (owner_of body) updates) → Whole (p G) b (statements_of_all updates) → AllTyped here updates → Runs (point.Statement (number_of body)) (exec_all w updates)
  updates_run (Stmt n site askable reach act) updates d a h t = all_run updates d link_kind.Next (owner_of (Stmt n site askable reach act)) tt a h t

  fors : (o : Owner) (reach : ℕ) (inits updates : Statements) (body : Statement) (x : Part) → GoodAct (p G) b o (For inits x updates body) → OfStatements Keeps inits → OfStatements Keeps updates → Keeps body → Whole (p G) b (statements_of_all inits ++ (statements_of_all updates ++ statements body)) → AllTyped here inits → IsTest here x → AllTyped here updates → IsTyped here body → Runs o.point (for_form (exec_all w inits) (for_test o.site reach (eval_part w x)) (exec_all w updates) (exec w body))
  unfolding for_form
  fors o reach inits updates body x g di du d h ti tx tu t =
      let f1 = among_left (p G) (in_order link_kind.Into o inits) (to (by_test x) o body ++ in_order link_kind.Next (owner_of body) updates) g.flows in
      let f2 = among_right (p G) (in_order link_kind.Into o inits) (to (by_test x) o body ++ in_order link_kind.Next (owner_of body) updates) g.flows in
      let f3 = among_head (p G) _ (in_order link_kind.Next (owner_of body) updates) f2 in
      let f4 = among_right (p G) (to (by_test x) o body) (in_order link_kind.Next (owner_of body) updates) f2 in
      let h1 = whole_left (p G) b (statements_of_all inits) (statements_of_all updates ++ statements body) h in
      let h2 = whole_right (p G) b (statements_of_all inits) (statements_of_all updates ++ statements body) h in
      let h3 = whole_left (p G) b (statements_of_all updates) (statements body) h2 in
      let h4 = whole_right (p G) b (statements_of_all updates) (statements body) h2 in
      let k = turn body updates o.point (typed_exec body t) (λ P. d.by o.point h4 (by_way (by_test x) o (point.Statement (number_of body)) (plain_test x) f3) t P) (updates_run body updates du f4 h3 tu) in
      record {
        by = λ P. after G (all_typed inits ti P) ((all_run inits di link_kind.Into o tt f1 h1 ti).by P) (λ P. whiles G _ _ (for_typed o.site reach x tx) (for_tests o reach inits updates body x g tx) (λ P. typed_rule.after G (typed_exec body t P) (all_typed updates tu P)) k.by);
      }

  acts : (number site : ℕ) (askable : Bool) (reach : ℕ) (x : Act) → ActParts (λ e. Unit {1}) Keeps x → GoodAct (p G) b (owner_of (Stmt number site askable reach x)) x → Whole (p G) b (statements_within x) → Acts here x → Runs (point.Statement number) (exec_act w site reach x)
  unfolding exec_act evaluated throw_form if_form
  acts number site askable reach (Block parts) d g h t = all_run parts d link_kind.Into _ tt g.flows h t
  acts number site askable reach (Eval value) d g h t = then_nothing (value_of value t.0 _ (g.stands, g.forms) t.1) (λ v. q_return tt)
  acts number site askable reach (Declare k) d g h t = record { by = λ P. quiet G (quietly.q_declaration G M k) }
  acts number site askable reach (If test x y) d g h t =
      let o = owner_of (Stmt number site askable reach (If test x y)) in
      let f1 = among_left (p G) (to (link_kind.Arm 1) o x) (to_other (link_kind.Arm 0) o y) g.flows in
      let f2 = among_right (p G) (to (link_kind.Arm 1) o x) (to_other (link_kind.Arm 0) o y) g.flows in
      record {
        by = λ P. bind G (test_typed site reach test t.0 P) (tests o reach test g.stands g.forms (expression.typed G M i test) (g.apart tt) t.0) (λ c. either G c
            (λ q. (runs x d.1 (link_kind.Arm 1) o tt f1 (whole_left (p G) b (statements x) (statements_of_other y) h) t.1).by _)
            (λ q. (others y d.2 (link_kind.Arm 0) o tt f2 (whole_right (p G) b (statements x) (statements_of_other y) h) t.2).by _));
      }
  acts number site askable reach (While test body) d g h t =
      let o = owner_of (Stmt number site askable reach (While test body)) in
      record { by = λ P. whiles G _ _ (test_typed site reach test t.0) (λ P. tests o reach test g.stands g.forms (expression.typed G M i test) (g.apart tt) t.0) (typed_exec body t.1) (runs body d.1 (link_kind.Arm 1) o tt g.flows h t.1).by }
  acts number site askable reach (Do body test) d g h t =
      let o = owner_of (Stmt number site askable reach (Do body test)) in
      record { by = λ P. dos G _ _ (test_typed site reach test t.1) (λ P. tests o reach test g.stands g.forms (expression.typed G M i test) (g.apart tt) t.1) (typed_exec body t.0) (runs body d.0 link_kind.Into o tt g.flows h t.0).by }
  acts number site askable reach (For inits test updates body) d g h t = fors (owner_of (Stmt number site askable reach (For inits test updates body))) reach inits updates body test g d.0 d.2 d.3 h t.0 t.1 t.2 t.3
  acts number site askable reach (Labelled body) d g h t = runs body d link_kind.Into _ tt g.flows h t
  acts number site askable reach (Jump target) d g h t = record { by = λ P. quiet G (quietly.q_jump G M site target) }
  acts number site askable reach (Return value) d g h t = returns site value _ g.stands g.forms t
  acts number site askable reach (Throw value) d g h (fitting {a = a} k f) = then_nothing (value_of value a _ (g.stands, g.forms) k) (λ v. q_throw site v)
  acts number site askable reach (Try main x last) d g h t =
      let o = owner_of (Stmt number site askable reach (Try main x last)) in
      let f1 = among_left (p G) (to link_kind.Into o main) (to_catches o x ++ to_other link_kind.Into o last) g.flows in
      let f2 = among_right (p G) (to link_kind.Into o main) (to_catches o x ++ to_other link_kind.Into o last) g.flows in
      let h1 = whole_left (p G) b (statements main) (statements_of_catches x ++ statements_of_other last) h in
      let h2 = whole_right (p G) b (statements main) (statements_of_catches x ++ statements_of_other last) h in
      tries main x last o d.0 d.1 d.2 f1 (among_left (p G) (to_catches o x) (to_other link_kind.Into o last) f2) (among_right (p G) (to_catches o x) (to_other link_kind.Into o last) f2) h1 (whole_left (p G) b (statements_of_catches x) (statements_of_other last) h2) (whole_right (p G) b (statements_of_catches x) (statements_of_other last) h2) t.0 t.1 t.2
  acts number site askable reach (Print operand ty ends_line at) d g h t = prints operand ty ends_line at _ g.stands g.forms g.prints t

  act : (number site : ℕ) (askable : Bool) (reach : ℕ) (x : Act) → ActParts (λ e. Unit {1}) Keeps x → Keeps (Stmt number site askable reach x)
  unfolding exec
  act number site askable reach x d = record {
    by = λ q h way t P. numbered G number t.0 way (λ P. (acts number site askable reach x d (h.by (Stmt number site askable reach x) (in_head _ (statements_within x))) (record { by = λ y j. h.by y (in_tail _ y (statements_within x) j) }) t.2).by P);
  }

  -- so does every statement
  pub keeps_reached : (x : Statement) → Keeps x
  keeps_reached x = of_statement (λ e. Unit {1}) (λ e d. tt) Keeps act x
