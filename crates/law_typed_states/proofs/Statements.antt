-- Each statement whose forms fit their types leaves states typed.
use Rattle.std.proofs.Common.{◌≡◌, ℕ, Bool, true, List, [], ◌∷◌, inr, Option, Some, refl, sym, ap, ◌∙◌, subst}
use Rattle.std.specs.Prelude.{None as Absent}
use Rattle.std.specs.Prelude.{slice_get}
use Rattle.wy_kernel.specs.declared.types.Ty.{Ty}
use Rattle.wy_kernel.specs.declared.types.Ty.TheVariants.{Void}
use Rattle.wy_kernel.specs.Form.{Expression, Part, absent, the, Statement, Stmt, Act, Block, Eval, Declare, If, While, Do, For, Labelled, Jump, Return, Throw, Try, Print, Other, nothing as no_statement, this, Statements, done, first, Catches, uncaught, catch}
use Rattle.wy_kernel.specs.Program.{is_subclass, class_of_type}
use Rattle.wy_kernel.specs.Subtyping.{class_type}
use Rattle.wy_kernel.specs.Builtin.{throwable_class}
use Rattle.wy_value.specs.declared.value.Value.{Value}
use Rattle.wy_value.specs.declared.value.Value.TheVariants as val
use Rattle.wy_event.specs.declared.record.Kind.TheVariants as kind
use Rattle.wy_steps.specs.State.{Carried, Run, Noted, Through, Reason, Jumped, Returned, Threw, ◌>>◌, catching}
use Rattle.wy_steps.specs.Steps.{constant, value_of, code_of}
use Rattle.wy_meaning.specs.World.{World, plain, is_null}
use Rattle.wy_meaning.specs.Text.{print, print_value, print_nothing}
use Rattle.wy_meaning.specs.Expression.{eval, eval_part, part_or}
use Rattle.wy_meaning.specs.Statement.{statement, armed, tested, evaluated, declaration, if_form, while_form, for_test, for_form, jump, return_form, throw_form, Clause, caught, handle, at_throw, finally, try_form, print_form, other_or, exec, exec_act, exec_other, exec_all, exec_catches}
use Rattle.wy_typing.specs.Types.{boolean_type}
use Rattle.wy_typing.specs.Statements.{Within, IsTyped, Acts, OtherTyped, AllTyped, CatchesTyped, IsTest, IsResult, IsOperand}
use Rattle.law_induction.specs.Law.{nothing, both, Entails, FrameKind, In, a_return, a_jump}
use Rattle.law_induction.specs.Forms.{OfPart, OfOther, OfStatements, OfCatches, ActParts}
use Rattle.law_induction.proofs.Induction.{of_statement}
use Rattle.law_induction.proofs.Rules.{newest, before, trivially}
use Rattle.law_typed_states.specs.Typed.{Is, FitsLocal, local_types, Runs}
use Rattle.law_typed_states.proofs.Law.{is, current, stores, reason}
use Rattle.law_typed_states.proofs.Rules.{Ground, A, p, Known, Does, bind, forgets, gives, leaves, catches, either, chooses, whiles, dos, next, after, ticks, frames, declares, reaches, covers, notes, notes_test, catches_local, prints}
use Rattle.law_typed_states.proofs.Facts.{found_as, caught_is}
use Rattle.law_typed_states.proofs.Places.{Methods, of_type, world_of, throws, null_fails, finds_type}
use Rattle.law_typed_states.proofs.Forms.{T, shows, spells, constant_types}
use Rattle.law_typed_states.proofs.Expressions.{Typed, step, given}

module _ (G : Ground) (M : Methods G) (i : FrameKind) (result : Option Ty) where
  abbrev w : World (A G)
  w = world_of G M

  abbrev pub place : Within
  place = record { program = p G; locals = local_types (p G) i; result = result }

  -- a value of the type of the result may be given back
  abbrev pub GivesBack : Type 1
  GivesBack = (ty : Ty) → result ≡ Some ty → (P : Known G) (e : ℕ) (v : Carried (A G)) → Entails P (of_type G ty v.value) → Entails P (reason (A G) (p G) (In i) (Returned e v))

  module _ (back : GivesBack) where
    -- a run of statements
    pub record Leaves {X : Type 0} (m : Run (A G) X) : Type 1 where
      pub by : (P : Known G) → Does G (In i) P m (λ x. nothing)

    pub arms : (site reach n : ℕ) (v : Carried (A G)) → Leaves (armed site reach n v)
    unfolding armed
    arms site reach n v = record { by = λ P. next G (forgets G (frames G)) (λ f. next G (notes_test G (Through f reach) site n v) (λ e. gives G _ trivially)) }

    pub tests : (site reach : ℕ) (m : Run (A G) (Carried (A G))) → T G M i m boolean_type → Leaves (tested site reach m)
    unfolding tested
    tests site reach m d = record { by = λ P. next G (forgets G (d.by P)) (λ v. after G ((arms site reach _ v).by _) (gives G _ trivially)) }

    declares_local : (k : ℕ) → Leaves (declaration k)
    unfolding declaration
    declares_local k = record { by = λ P. next G (forgets G (frames G)) (λ f. declares G (code_of f) k) }

    one_then : (a b : Run (A G) Unit) → Leaves a → Leaves b → Leaves (a >> b)
    one_then a b h k = record { by = λ P. after G (h.by P) (k.by P) }

    ifs : (test : Run (A G) Bool) (a b : Run (A G) Unit) → Leaves test → Leaves a → Leaves b → Leaves (if_form test a b)
    unfolding if_form
    ifs test a b ht ha hb = record { by = λ P. next G (ht.by P) (λ c. chooses G c (ha.by P) (hb.by P)) }

    loops : (test : Run (A G) Bool) (m : Run (A G) Unit) → Leaves test → Leaves m → Leaves (while_form test m)
    loops test m ht hm = record { by = λ P. whiles G test m ht.by hm.by }

    for_forms : (inits : Run (A G) Unit) (test : Run (A G) Bool) (updates m : Run (A G) Unit) → Leaves inits → Leaves test → Leaves updates → Leaves m → Leaves (for_form inits test updates m)
    unfolding for_form
    for_forms inits test updates m hi ht hu hm = one_then inits _ hi (loops test _ ht (one_then m updates hm hu))

    jumps : (site target : ℕ) → Leaves (jump site target)
    unfolding jump reason
    jumps site target = record { by = λ P. next G (forgets G (notes G (plain kind.Jump site val.None) (constant val.None) (a_jump site))) (λ e. leaves G (Jumped target e.number) trivially) }

    returns : (site : ℕ) (m : Run (A G) (Carried (A G))) (ty : Ty) → result ≡ Some ty → T G M i m ty → Leaves (return_form site m)
    unfolding return_form value_of
    returns site m ty e d = record { by = λ P. bind G (d.by P) (λ v. next G (forgets G (notes G (plain kind.Return site v.value) v (a_return site v.value v))) (λ r. leaves G _ (back ty e _ r.number (value_of r v.value) (newest _ _)))) }

    throws_value : (site : ℕ) (m : Run (A G) (Carried (A G))) → T G M i m (class_type throwable_class) → Leaves (throw_form w site m)
    unfolding throw_form
    throws_value site m d = record { by = λ P. bind G (d.by P) (λ v. chooses G (is_null v.value) (null_fails G M site v) (throws G M site v (newest _ _))) }

    -- ---- try

    abbrev pub ClausesLeave : List (Clause (A G)) → Type 1
    ClausesLeave [] = Unit {1}
    ClausesLeave (c ∷ rest) = (slice_get (local_types (p G) i) c.local ≡ Some (class_type c.class)) × Leaves c.block × ClausesLeave rest

    some_same : {x y : Ty} → Some x ≡ Some y → x ≡ y
    some_same e = cc e

    pub binds : (n : List (Noted (A G))) (f k : ℕ) (v : Value) (ty : Ty) → slice_get (local_types (p G) i) k ≡ Some ty → Runs n f i → Is (p G) n ty v → FitsLocal (p G) n f k v
    binds n f k v ty e r h = record { body = i; runs = r; typed = λ t q. inr (subst (λ u. Is (p G) n u v) (some_same (sym e ∙ q)) h) }

    takes : {P : Known G} (c : Clause (A G)) (v : Carried (A G)) → slice_get (local_types (p G) i) c.local ≡ Some (class_type c.class) → Leaves c.block → Entails P (of_type G (class_type c.class) v.value) → Does G (In i) P (caught c v) (λ t. nothing)
    unfolding caught current stores is both code_of
    takes c v e h q = bind G (frames G) (λ o. next G (catches_local G (Through o c.number) c.site (code_of o) c.local v.value v (record { by = λ n k. let r = k.1 in binds n (code_of o) c.local v.value (class_type c.class) e (subst (λ f. Runs n f i) (sym (ap code_of r.1)) r.2) (q.by n k.0) })) (λ x. h.by _))

    handles : (clauses : List (Clause (A G))) (P : Known G) (found : Ty) (e : ℕ) (v : Carried (A G)) → ClausesLeave clauses → Entails P (of_type G (class_type throwable_class) v.value) → Entails P (found_as G v.value found) → Does G (In i) P (handle (p G) clauses (class_of_type found) e v) (λ t. nothing)
    unfolding handle is found_as reason
    handles [] P found e v h q f = leaves G (Threw e v) q
    handles (c ∷ rest) P found e v h q f = either G (is_subclass (p G) (class_of_type found) c.class)
        (λ s. takes c v h.0 h.1 (record { by = λ n k. caught_is G n v.value found c.class (q.by n k) (f.by n k) s }))
        (λ s. handles rest P found e v h.2 q f)

    thrown : {P : Known G} (e : ℕ) (v : Carried (A G)) → Entails P (reason (A G) (p G) (In i) (Threw e v)) → Entails P (of_type G (class_type throwable_class) v.value)
    unfolding reason
    thrown e v q = q

    at_throws : {P : Known G} (clauses : List (Clause (A G))) (why : Reason (A G)) → ClausesLeave clauses → Entails P (reason (A G) (p G) (In i) why) → Does G (In i) P (at_throw w clauses why) (λ t. nothing)
    unfolding at_throw
    at_throws clauses (Jumped target e) h q = leaves G _ q
    at_throws clauses (Returned e v) h q = leaves G _ q
    at_throws clauses (Threw e v) h q = bind G (finds_type G M (class_type throwable_class) v.value (thrown e v q)) (λ found. handles clauses _ found e v h (before _ _ (thrown e v q)) (newest _ _))

    pub tries : (m : Run (A G) Unit) (clauses : List (Clause (A G))) → Leaves m → ClausesLeave clauses → Leaves (catching m (at_throw w clauses))
    tries m clauses h hc = record { by = λ P. catches G (h.by P) (λ why. at_throws clauses why hc (newest _ _)) }

    lasts : (m last : Run (A G) Unit) → Leaves m → Leaves last → Leaves (finally m last)
    unfolding finally
    lasts m last h k = record { by = λ P. after G (catches G (h.by P) (λ why. after G (k.by _) (leaves G why (newest _ _)))) (k.by P) }

    abbrev OptionLeaves : Option (Run (A G) Unit) → Type 1
    OptionLeaves Absent = Unit {1}
    OptionLeaves (Some m) = Leaves m

    try_forms : (m : Run (A G) Unit) (clauses : List (Clause (A G))) (o : Option (Run (A G) Unit)) → Leaves m → ClausesLeave clauses → OptionLeaves o → Leaves (try_form w m clauses o)
    unfolding try_form
    try_forms m clauses Absent h hc k = tries m clauses h hc
    try_forms m clauses (Some last) h hc k = lasts _ last (tries m clauses h hc) k

    others : (o : Option (Run (A G) Unit)) → OptionLeaves o → Leaves (other_or o)
    unfolding other_or
    others Absent h = record { by = λ P. gives G tt trivially }
    others (Some m) h = h

    prints_value : (m : Run (A G) (Carried (A G))) (ty : Ty) (ends_line : Bool) (site : ℕ) → T G M i m ty → Leaves (print_value w m ends_line site)
    unfolding print_value print
    prints_value m ty ends_line site d = record { by = λ P. bind G (d.by P) (λ v. next G (shows G M i site v ty (newest _ _)) (λ s. next G (spells G M i s.value) (λ us. prints G site s.value s _))) }

    prints_nothing : (ends_line : Bool) (site : ℕ) → Leaves (print_nothing ends_line site)
    unfolding print_nothing print
    prints_nothing ends_line site = record { by = λ P. prints G site _ _ _ }

    -- ---- each statement, from its parts

    abbrev E : Expression → Type 1
    E e = Typed G M i e

    pub record Fine (x : Statement) : Type 1 where
      pub by : IsTyped place x → Leaves (exec w x)

    of_other : (x : Other) → OfOther Fine x → OtherTyped place x → OptionLeaves (exec_other w x)
    unfolding exec_other
    of_other no_statement d h = tt
    of_other (this s) d h = d.by h

    of_all : (x : Statements) → OfStatements Fine x → AllTyped place x → Leaves (exec_all w x)
    unfolding exec_all
    of_all done d h = record { by = λ P. gives G tt trivially }
    of_all (first s rest) d h = one_then _ _ (d.0.by h.0) (of_all rest d.1 h.1)

    of_catches : (x : Catches) → OfCatches Fine x → CatchesTyped place x → ClausesLeave (exec_catches w x)
    unfolding exec_catches
    of_catches uncaught d h = tt
    of_catches (catch c local site block rest) d h = (h.0.bound, d.0.by h.1, of_catches rest d.1 h.2)

    of_test : (site reach : ℕ) (x : Part) → OfPart E x → IsTest place x → Leaves (for_test site reach (eval_part w x))
    unfolding for_test eval_part
    of_test site reach absent d h = record { by = λ P. gives G true trivially }
    of_test site reach (the e) d h = tests site reach (eval w e) (d.by boolean_type h)

    of_return : (site : ℕ) (x : Part) → OfPart E x → IsResult place x → Leaves (return_form site (part_or val.None (eval_part w x)))
    unfolding part_or eval_part
    of_return site absent d h = returns site _ Void h (constant_types G M i val.None Void (λ n. refl))
    of_return site (the e) d h = returns site (eval w e) h.0 h.1 (given G M i e h.0 d h.3)

    of_print : (x : Part) (ty : Ty) (ends_line : Bool) (site : ℕ) → OfPart E x → IsOperand place x ty ends_line → Leaves (print_form w (eval_part w x) ends_line site)
    unfolding print_form eval_part
    of_print absent ty ends_line site d h = prints_nothing ends_line site
    of_print (the e) ty ends_line site d h = prints_value (eval w e) ty ends_line site (d.by ty h.1)

    of_act : (site reach : ℕ) (x : Act) → ActParts E Fine x → Acts place x → Leaves (exec_act w site reach x)
    unfolding exec_act evaluated
    of_act site reach (Block parts) d h = of_all parts d h
    of_act site reach (Eval value) d h = record { by = λ P. next G (forgets G ((d.by h.0 h.1).by P)) (λ v. gives G tt trivially) }
    of_act site reach (Declare k) d h = declares_local k
    of_act site reach (If test a b) d h = ifs _ _ _ (tests site reach (eval w test) (d.0.by boolean_type h.0)) (d.1.by h.1) (others _ (of_other b d.2 h.2))
    of_act site reach (While test body) d h = loops _ _ (tests site reach (eval w test) (d.0.by boolean_type h.0)) (d.1.by h.1)
    of_act site reach (Do body test) d h = record { by = λ P. dos G _ _ (tests site reach (eval w test) (d.1.by boolean_type h.1)).by (d.0.by h.0).by }
    of_act site reach (For inits test updates body) d h = for_forms _ _ _ _ (of_all inits d.0 h.0) (of_test site reach test d.1 h.1) (of_all updates d.2 h.2) (d.3.by h.3)
    of_act site reach (Labelled body) d h = d.by h
    of_act site reach (Jump target) d h = jumps site target
    of_act site reach (Return value) d h = of_return site value d h
    of_act site reach (Throw value) d h = throws_value site (eval w value) (given G M i value _ d h)
    of_act site reach (Try main catches last) d h = try_forms _ _ _ (d.0.by h.0) (of_catches catches d.1 h.1) (of_other last d.2 h.2)
    of_act site reach (Print operand ty ends_line at) d h = of_print operand ty ends_line at d h

    numbered : (number : ℕ) (m : Run (A G) Unit) → Leaves m → Leaves (statement number m)
    unfolding statement
    numbered number m h = record { by = λ P. after G (ticks G) (reaches G number (covers G number (h.by P))) }

    acts : (number site : ℕ) (askable : Bool) (reach : ℕ) (x : Act) → ActParts E Fine x → Fine (Stmt number site askable reach x)
    unfolding exec
    acts number site askable reach x d = record { by = λ h. numbered number _ (of_act site reach x d h.2) }

    -- so does every statement
    pub leaves_typed : (x : Statement) → IsTyped place x → Leaves (exec w x)
    leaves_typed x h = (of_statement E (step G M i) Fine acts x).by h
