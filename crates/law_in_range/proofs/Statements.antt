-- Each statement of a body keeps what is in range.
use Rattle.std.proofs.Common.{◌≡◌, ◌<◌, ℕ, Bool, true, false, [], List, ◌++◌, Option, Some, refl, sym, ap, subst}
use Rattle.std.specs.Prelude.{slice_get}
use Rattle.std.specs.List.{AllByRecursion}
use Rattle.std.proofs.lemmas.Option.{slice_get_within}
use Rattle.wy_kernel.specs.declared.types.Ty.{Ty}
use Rattle.wy_kernel.specs.Form.{Expression, Part, absent, the, Statement, Stmt, Act, Block, Eval, Declare, If, While, Do, For, Labelled, Jump, Return, Throw, Try, Print, Other, nothing as no_statement, this, Statements, done, first, Catches, uncaught, catch}
use Rattle.wy_kernel.specs.Program.{is_subclass, class_of_type}
use Rattle.wy_kernel.specs.Statements.{statements, statements_within, statements_of_other, statements_of_all, statements_of_catches}
use Rattle.wy_kernel.specs.Subtyping.{class_type, object_type}
use Rattle.wy_kernel.specs.Builtin.{throwable_class}
use Rattle.wy_value.specs.declared.value.Value.{Value}
use Rattle.wy_value.specs.declared.value.Value.TheVariants as val
use Rattle.wy_event.specs.declared.record.Kind.TheVariants as kind
use Rattle.wy_event.specs.declared.record.Slot.TheVariants as slot
use Rattle.wy_steps.specs.State.{Run, Through, Reason, Jumped, Returned, Threw, ◌>>=◌, ◌>>◌, leave, catching}
use Rattle.wy_steps.specs.Steps.{code_of, constant, note, note_write, event_in, value_of as carried_of}
use Rattle.wy_meaning.specs.World.{World, plain, into, is_null}
use Rattle.wy_meaning.specs.Text.{to_string, shown_as, shown, print_value}
use Rattle.wy_meaning.specs.Expression.{eval, eval_part, part_or}
use Rattle.wy_meaning.specs.Statement.{armed, tested, evaluated, if_form, for_test, for_form, return_form, throw_form, caught, handle, at_throw, finally, try_form, print_form, other_or, exec, exec_act, exec_other, exec_all, exec_catches}
use Rattle.wy_typing.specs.Types.{boolean_type, IsPrinted as IsPrintedType}
use Rattle.wy_typing.specs.Expressions.{HasType, fitting}
use Rattle.wy_typing.specs.Statements.{Within, IsTyped, Acts, OtherTyped, AllTyped, CatchesTyped, IsTest, IsResult, IsOperand}
use Rattle.law_induction.specs.Law.{nothing, both, Entails, FrameKind, In}
use Rattle.law_induction.specs.Forms.{OfOther, OfStatements, OfCatches, ActParts}
use Rattle.law_induction.proofs.Induction.{of_statement}
use Rattle.law_induction.proofs.Rules.{newest, before, trivially}
use Rattle.law_typed_states.specs.Typed.{Is, Runs as HasFrame, local_types}
use Rattle.law_typed_states.proofs.Library.{to_string_method, to_string_is}
use Rattle.law_typed_states.proofs.Law.{is, current, stores, reason}
use Rattle.law_typed_states.proofs.Rules as typed_rule
use Rattle.law_typed_states.proofs.Rules.{Ground, A, p, Known, Does, frames, catches_local}
use Rattle.law_typed_states.proofs.Facts.{found_as, all_are, caught_is}
use Rattle.law_typed_states.proofs.Places.{Methods, of_type, world_of, finds_type}
use Rattle.law_typed_states.proofs.Forms.{chosen_gives, object_is_object}
use Rattle.law_typed_states.proofs.Statements as typed_statement
use Rattle.law_typed_states.proofs.Statements.{GivesBack, leaves_typed, place}
use Rattle.law_typed_states.proofs.Expressions as expression
use Rattle.wy_typing.specs.Sites.{Sited, PartSited, StatementSited, ActSited, CatchesSited}
use Rattle.wy_typing.proofs.Listed.{parted}
use Rattle.law_in_range.specs.InRange.{Text, IsSite, HasLocal, IsPrinted, IsReturned, StringIsFinal, PrintLined, StatementLined, JumpsTo, ActJumpsTo, OtherJumpsTo, AllJumpTo, CatchesJumpTo}
use Rattle.law_in_range.proofs.Facts.{C, Moment, always, fine, thrown, fair, drafted, constant_fine}
use Rattle.law_in_range.proofs.Values.{throwable, no_arm}
use Rattle.law_in_range.proofs.Strings.{text_printed}
use Rattle.law_in_range.proofs.Bare as bare
use Rattle.law_in_range.proofs.Bare.{Bare}
use Rattle.law_in_range.proofs.Forms as plain_form
use Rattle.law_in_range.proofs.Texts as plain_text
use Rattle.law_in_range.proofs.Expressions.{Inner, keeps, chosen_good, test_draft, two_arms}
use Rattle.law_in_range.proofs.Rules.{Full, bind, after, where_at, with_end, either, plainly, then_plainly, then_bare, bare_first, catches, numbered, OrTo, whiles, dos}

module _ (G : Ground) (W : Text) (final : StringIsFinal (p G)) (M : Methods G) (L : Inner G W M) (i : FrameKind) (result : Option Ty) (back : GivesBack G M i result) where
  abbrev w : World (A G)
  w = world_of G M

  abbrev K : Type 0
  K = C G W

  abbrev Ok : ℕ → Type 0
  Ok site = IsSite W.tokens site

  abbrev here : Within
  here = place G M i result

  abbrev F : K → Known G
  F c = fine G W c

  -- a statement's own sites are in range, and its print ends a line where one ends
  abbrev Own : Statement → Type 0
  Own x = StatementSited Ok x × StatementLined W.ends_line x

  abbrev Each : List Statement → Type 0
  Each all = AllByRecursion Own all

  -- a run of statements, of which a jump may go to these
  pub record RunsTo (J : ℕ → Type 0) (m : Run (A G) Unit) : Type 1 where
    pub by : (P : Known G) → Full G W J (In i) P m (λ u. nothing)

  abbrev Typed : {X : Type 0} → Run (A G) X → Type 1
  Typed m = (P : Known G) → Does G (In i) P m (λ x. nothing)

  typed_exec : (x : Statement) → IsTyped here x → Typed (exec w x)
  typed_exec x h P = (leaves_typed G M i result back x h).by P

  -- the statement, where its sites are in range and its forms fit their types
  pub record Keeps (x : Statement) : Type 1 where
    pub by : (J : ℕ → Type 0) → Each (statements x) → JumpsTo J x → IsTyped here x → RunsTo J (exec w x)

  module _ (J : ℕ → Type 0) where
    abbrev O : {X : Type 0} → Known G → Run (A G) X → (X → Known G) → Type 0
    O P m Q = Full G W J (In i) P m Q

    abbrev Runs : Run (A G) Unit → Type 1
    Runs m = RunsTo J m

    -- ---- statements in order

    all_typed : (x : Statements) → AllTyped here x → Typed (exec_all w x)
    unfolding exec_all
    all_typed done h P = typed_rule.gives G tt trivially
    all_typed (first s rest) h P = typed_rule.after G (typed_exec s h.0 P) (all_typed rest h.1 P)

    all_run : (x : Statements) → OfStatements Keeps x → Each (statements_of_all x) → AllJumpTo J x → AllTyped here x → Runs (exec_all w x)
    unfolding exec_all
    all_run done d l j t = record { by = λ P. plainly G W J (bare.gives G W J tt trivially) }
    all_run (first x rest) d l j t =
        let k = parted Own (statements x) (statements_of_all rest) l in
        record { by = λ P. after G W J (typed_exec x t.0 P) ((d.0.by J k.0 j.0 t.0).by P) (all_run rest d.1 k.1 j.1 t.1).by }

    -- ---- tests

    arms : {P : Known G} (site reach n : ℕ) (v : K) → Ok site → n < 2 → Entails P (F v) → bare.Bare G W J (In i) P (armed site reach n v) (λ t. nothing)
    unfolding armed
    arms site reach n v s few f =
        let draft = plain kind.Test site (val.Arm n) in
        bare.bind G W J (bare.frames G W J) (λ b.
        bare.bind G W J (bare.enters G W J (note draft v) (Through b reach) draft v (bare.note_adds G W J draft v) (test_draft G W J M L i site n s few) (before _ _ f)) (λ e. bare.gives G W J _ trivially))

    tests : (site reach : ℕ) (e : Expression) → Ok site → Sited Ok e → HasType (p G) (local_types (p G) i) e boolean_type → (P : Known G) → O P (tested site reach (eval w e)) (λ c. nothing)
    unfolding tested
    tests site reach e s se t P = then_plainly G W J (((expression.typed G M i e).by boolean_type t).by P) (((keeps G W J M L i e).by se boolean_type t).by P) (λ v.
        bare.after G W J (arms site reach _ v s (two_arms G W J M L i _) (newest _ _)) (bare.gives G W J _ trivially))

    test_typed : (site reach : ℕ) (e : Expression) → HasType (p G) (local_types (p G) i) e boolean_type → Typed (tested site reach (eval w e))
    test_typed site reach e t P = (typed_statement.tests G M i result back site reach (eval w e) ((expression.typed G M i e).by boolean_type t)).by P

    -- ---- try

    catch_draft : {P : Known G} (site k : ℕ) (ty : Ty) (f : Option ℕ) (v : K) → Ok site → slice_get (local_types (p G) i) k ≡ Some ty → Entails P (current (A G) (p G) i f) → Entails P (F v) → Entails P (thrown G W v.value) → Entails P (drafted G W (into kind.Catch site (slot.Local (code_of f) k) v.value))
    unfolding drafted into current fine thrown code_of
    catch_draft site k ty f v s e c h t = record {
      by = λ n q.
          let r = c.by n q in
          record {
            site = s;
            entity = tt;
            slot = subst (λ z. HasLocal (p G) (event_in n) z k) (sym (ap code_of r.1)) (record { event = r.2.event; there = r.2.there; body = i; runs = r.2.runs; within = slice_get_within (local_types (p G) i) k ty e });
            value = t.by n q;
            fixed = (h.by n q).0;
            quiet = tt;
          };
    }

    takes : {P : Known G} (c k site : ℕ) (block : Statement) (number : ℕ) (v : K) → Keeps block → Ok site → Each (statements block) → JumpsTo J block → IsTyped here block → slice_get (local_types (p G) i) k ≡ Some (class_type c) → Entails P (of_type G (class_type c) v.value) → Entails P (F v) → Entails P (thrown G W v.value) → O P (caught (record { class = c; local = k; site = site; number = number; block = exec w block }) v) (λ u. nothing)
    unfolding caught current stores is both code_of
    takes {P = P} c k site block number v d s l j t e q fv tv = bare_first G W J (frames G) (bare.frames G W J) (λ f. bind G W J
        (catches_local G (Through f number) site (code_of f) k v.value v (record { by = λ n y. let r = y.1 in typed_statement.binds G M i result back n (code_of f) k v.value (class_type c) e (subst (λ z. HasFrame n z i) (sym (ap code_of r.1)) r.2) (q.by n y.0.0) }))
        (plainly G W J (bare.enters G W J (note_write (into kind.Catch site (slot.Local (code_of f) k) v.value) v) (Through f number) (into kind.Catch site (slot.Local (code_of f) k) v.value) v (bare.write_adds G W J (into kind.Catch site (slot.Local (code_of f) k) v.value) v) (catch_draft site k (class_type c) f v s e (newest _ _) (before _ _ (before _ _ fv)) (before _ _ (before _ _ tv))) (before _ _ (before _ _ fv))))
        (λ x. (d.by J l j t).by _))

    threw_fair : {P : Known G} (e : ℕ) (v : K) → Entails P (F v) → Entails P (thrown G W v.value) → Entails P (fair G W J (Threw e v))
    unfolding fair both
    threw_fair e v f t = record { by = λ n q. (f.by n q, t.by n q) }

    handles : {P : Known G} (x : Catches) (found : Ty) (e : ℕ) (v : K) → OfCatches Keeps x → CatchesSited Ok x → Each (statements_of_catches x) → CatchesJumpTo J x → CatchesTyped here x → Entails P (of_type G (class_type throwable_class) v.value) → Entails P (found_as G v.value found) → Entails P (F v) → Entails P (thrown G W v.value) → O P (handle (p G) (exec_catches w x) (class_of_type found) e v) (λ u. nothing)
    unfolding handle exec_catches is found_as
    handles uncaught found e v d s l j t q f fv tv = plainly G W J (bare.leaves G W J (Threw e v) (threw_fair e v fv tv))
    handles (catch c k site block rest) found e v d s l j t q f fv tv =
        let y = parted Own (statements block) (statements_of_catches rest) l in
        either G W J (is_subclass (p G) (class_of_type found) c)
        (λ b. takes c k site block _ v d.0 s.0 y.0 j.0 t.1 t.0.bound (record { by = λ n y. caught_is G n v.value found c (q.by n y) (f.by n y) b }) fv tv)
        (λ b. handles rest found e v d.1 s.1 y.1 j.1 t.2 q f fv tv)

    typed_thrown : {P : Known G} (e : ℕ) (v : K) → Entails P (reason (A G) (p G) (In i) (Threw e v)) → Entails P (of_type G (class_type throwable_class) v.value)
    unfolding reason
    typed_thrown e v q = q

    fair_value : {P : Known G} (e : ℕ) (v : K) → Entails P (fair G W J (Threw e v)) → Entails P (F v)
    unfolding fair both
    fair_value e v q = record { by = λ n h. (q.by n h).0 }

    fair_thrown : {P : Known G} (e : ℕ) (v : K) → Entails P (fair G W J (Threw e v)) → Entails P (thrown G W v.value)
    unfolding fair both
    fair_thrown e v q = record { by = λ n h. (q.by n h).1 }

    at_throws : {P : Known G} (x : Catches) (why : Reason (A G)) → OfCatches Keeps x → CatchesSited Ok x → Each (statements_of_catches x) → CatchesJumpTo J x → CatchesTyped here x → Entails P (reason (A G) (p G) (In i) why) → Entails P (fair G W J why) → O P (at_throw w (exec_catches w x) why) (λ u. nothing)
    unfolding at_throw
    at_throws x (Jumped target e) d s l j t q f = plainly G W J (bare.leaves G W J _ f)
    at_throws x (Returned e v) d s l j t q f = plainly G W J (bare.leaves G W J _ f)
    at_throws x (Threw e v) d s l j t q f = bare_first G W J (finds_type G M (class_type throwable_class) v.value (typed_thrown e v q)) (plain_form.finds_type G W J M v.value) (λ found. handles x found e v d s l j t (before _ _ (before _ _ (typed_thrown e v q))) (before _ _ (newest _ _)) (before _ _ (before _ _ (fair_value e v f))) (before _ _ (before _ _ (fair_thrown e v f))))

    -- the typed parts of a `try`
    module _ (main : Statement) (x : Catches) (tm : IsTyped here main) (tc : CatchesTyped here x) where
      clauses_leave : (x : Catches) → CatchesTyped here x → typed_statement.ClausesLeave G M i result back (exec_catches w x)
      unfolding exec_catches
      clauses_leave uncaught t = tt
      clauses_leave (catch c k site block rest) t = (t.0.bound, leaves_typed G M i result back block t.1, clauses_leave rest t.2)

      guarded_typed : Typed (catching (exec w main) (at_throw w (exec_catches w x)))
      guarded_typed P = (typed_statement.tries G M i result back (exec w main) (exec_catches w x) (leaves_typed G M i result back main tm) (clauses_leave x tc)).by P

    guarded : (main : Statement) (x : Catches) → Keeps main → OfCatches Keeps x → CatchesSited Ok x → Each (statements main) → Each (statements_of_catches x) → JumpsTo J main → CatchesJumpTo J x → IsTyped here main → CatchesTyped here x → Runs (catching (exec w main) (at_throw w (exec_catches w x)))
    guarded main x d dc sc l lc j jc t tc = record { by = λ P. catches G W J (typed_exec main t P) ((d.by J l j t).by P) (λ why. at_throws x why dc sc lc jc tc (before _ _ (newest _ _)) (newest _ _)) }

    then_leave : {P : Known G} (last : Run (A G) Unit) (why : Reason (A G)) → Runs last → Entails P (fair G W J why) → O {X = Unit {0}} P (last >> leave why) (λ u. nothing)
    unfolding ◌>>◌
    then_leave {P = P} last why h f = then_bare G W J (h.by P) (λ t. bare.leaves G W J why (before _ _ f))

    lasts : (m last : Run (A G) Unit) → Typed m → Runs m → Typed last → Runs last → Runs (finally m last)
    unfolding finally
    lasts m last tm rm tl rl = record {
      by = λ P. after G W J (typed_rule.catches G (tm P) (λ why. typed_rule.after G (tl _) (typed_rule.leaves G why (newest _ _))))
          (catches G W J (tm P) (rm.by P) (λ why. then_leave last why rl (newest _ _)))
          (λ P. rl.by P);
    }

    tries : (main : Statement) (x : Catches) (last : Other) → Keeps main → OfCatches Keeps x → OfOther Keeps last → CatchesSited Ok x → Each (statements main) → Each (statements_of_catches x) → Each (statements_of_other last) → JumpsTo J main → CatchesJumpTo J x → OtherJumpsTo J last → IsTyped here main → CatchesTyped here x → OtherTyped here last → Runs (try_form w (exec w main) (exec_catches w x) (exec_other w last))
    unfolding try_form exec_other
    tries main x no_statement d dc dl sc l lc ll j jc jl t tc tl = guarded main x d dc sc l lc j jc t tc
    tries main x (this y) d dc dl sc l lc ll j jc jl t tc tl = lasts _ (exec w y) (guarded_typed main x t tc) (guarded main x d dc sc l lc j jc t tc) (typed_exec y tl) (dl.by J ll jl tl)

    -- ---- prints

    abbrev printed : Value → Known G
    printed v = always G W (IsPrinted v)

    printed_as : {P : Known G} (v : K) (x : Value) → v.value ≡ x → IsPrinted x → Entails P (F v) → Entails P (both (F v) (printed v.value))
    unfolding both fine
    printed_as v x e h f = record { by = λ n q. (f.by n q, subst IsPrinted (sym e) h) }

    abbrev IsNarrow : Value → Type 0
    IsNarrow (val.Byte z) = Unit {0}
    IsNarrow (val.Short z) = Unit {0}
    IsNarrow _ = ⊥

    no_byte : (ty : Ty) (x : Value) (n : Moment G W) → IsPrintedType ty → Is (p G) n ty x → (z : Value) → x ≡ z → IsNarrow z → ⊥
    no_byte ty x n h is (val.Byte z) e k = subst IsPrintedType (subst (λ u. Is (p G) n ty u) e is) h
    no_byte ty x n h is (val.Short z) e k = subst IsPrintedType (subst (λ u. Is (p G) n ty u) e is) h
    no_byte ty x n h is _ e k = k

    shows_as_printed : {P : Known G} (site : ℕ) (v : K) (x : Value) (ty : Ty) → Ok site → IsPrintedType ty → v.value ≡ x → Entails P (of_type G ty v.value) → Entails P (F v) → O P (shown_as w site v x) (λ u. both (F u) (printed u.value))
    unfolding shown_as is all_are both
    shows_as_printed site v (val.Object n) ty s pt e h f = with_end G W J
        (chosen_gives G M i to_string to_string_method (to_string_is (p G) G.fits.declarations.library_methods) refl refl site v [] n e
        (record { by = λ n1 q. subst (λ u. Is (p G) n1 object_type u) (sym e) (object_is_object G M i n1 ty n (subst (λ u. Is (p G) n1 ty u) e (h.by n1 q))) }) (record { by = λ n1 q. tt }))
        (chosen_good G W J M L i to_string to_string_method (to_string_is (p G) G.fits.declarations.library_methods) refl refl site v [] n s e
        (record { by = λ n1 q. subst (λ u. Is (p G) n1 object_type u) (sym e) (object_is_object G M i n1 ty n (subst (λ u. Is (p G) n1 ty u) e (h.by n1 q))) }) (record { by = λ n1 q. tt }) f (plain_text.none_fine G W J M))
        (λ u t inv q fu. (fu, text_printed G W final t.noted inv.noted u.value q))
    shows_as_printed site v (val.Byte z) ty s pt e h f = where_at G W J (λ y at. absurd (no_byte ty v.value y.noted pt (h.by y.noted at.known) (val.Byte z) e tt))
    shows_as_printed site v (val.Short z) ty s pt e h f = where_at G W J (λ y at. absurd (no_byte ty v.value y.noted pt (h.by y.noted at.known) (val.Short z) e tt))
    shows_as_printed site v (val.Bool z) ty s pt e h f = plainly G W J (bare.gives G W J v (printed_as v _ e tt f))
    shows_as_printed site v (val.Char z) ty s pt e h f = plainly G W J (bare.gives G W J v (printed_as v _ e tt f))
    shows_as_printed site v (val.Int z) ty s pt e h f = plainly G W J (bare.gives G W J v (printed_as v _ e tt f))
    shows_as_printed site v (val.Long z) ty s pt e h f = plainly G W J (bare.gives G W J v (printed_as v _ e tt f))
    shows_as_printed site v val.Null ty s pt e h f = plainly G W J (bare.gives G W J v (printed_as v _ e tt f))
    shows_as_printed site v (val.Text z) ty s pt e h f = plainly G W J (bare.gives G W J v (printed_as v _ e tt f))
    shows_as_printed site v (val.Fixed z) ty s pt e h f = plainly G W J (bare.gives G W J v (printed_as v _ e tt f))
    shows_as_printed site v val.None ty s pt e h f = plainly G W J (bare.gives G W J v (printed_as v _ e tt f))
    shows_as_printed site v (val.Arm n) ty s pt e h f = where_at G W J (λ y at. absurd (subst (λ (u : Value). Is (p G) y.noted ty u) e (h.by y.noted at.known)))

    shows_printed : {P : Known G} (site : ℕ) (v : K) (ty : Ty) → Ok site → IsPrintedType ty → Entails P (of_type G ty v.value) → Entails P (F v) → O P (shown w site v) (λ u. both (F u) (printed u.value))
    unfolding shown
    shows_printed site v ty s pt h f = shows_as_printed site v v.value ty s pt refl h f

    print_fine : {P : Known G} (v : K) → Entails P (both (F v) (printed v.value)) → Entails P (F v)
    unfolding both
    print_fine v e = record { by = λ n q. (e.by n q).0 }

    print_value_known : {P : Known G} (v : K) → Entails P (both (F v) (printed v.value)) → Entails P (printed v.value)
    unfolding both
    print_value_known v e = record { by = λ n q. (e.by n q).1 }

    prints_value : (e : Expression) (ty : Ty) (ends_line : Bool) (site : ℕ) → Ok site → W.ends_line site ≡ ends_line → Sited Ok e → IsPrintedType ty → HasType (p G) (local_types (p G) i) e ty → Runs (print_value w (eval w e) ends_line site)
    unfolding print_value
    prints_value e ty ends_line site s l se pt t = record {
      by = λ P. bind G W J (((expression.typed G M i e).by ty t).by P) (((keeps G W J M L i e).by se ty t).by P) (λ v. then_bare G W J (shows_printed site v ty s pt (before _ _ (newest _ _)) (newest _ _)) (λ x.
          bare.spells_and_prints G W J w site ends_line x refl s l (print_fine x (newest _ _)) (print_value_known x (newest _ _))));
    }

    prints : (x : Part) (ty : Ty) (ends_line : Bool) (site : ℕ) → Ok site → W.ends_line site ≡ ends_line → PartSited Ok x → IsOperand here x ty ends_line → Runs (print_form w (eval_part w x) ends_line site)
    unfolding print_form eval_part
    prints absent ty ends_line site s l sx t = record { by = λ P. plainly G W J (plain_text.prints_nothing G W J M ends_line site s l) }
    prints (the e) ty ends_line site s l sx t = prints_value e ty ends_line site s l sx t.0 t.1

    -- ---- each statement

    others : (x : Other) → OfOther Keeps x → Each (statements_of_other x) → OtherJumpsTo J x → OtherTyped here x → Runs (other_or (exec_other w x))
    unfolding other_or exec_other
    others no_statement d l j t = record { by = λ P. plainly G W J (bare.gives G W J tt trivially) }
    others (this x) d l j t = d.by J l j t

    abbrev returned : K → Known G
    returned v = both (F v) (always G W (IsReturned v.value))

    of_a_type : {P : Known G} (v : K) (ty : Ty) → Entails P (of_type G ty v.value) → Entails P (F v) → Entails P (returned v)
    unfolding both is
    of_a_type v ty h f = record { by = λ n q. (f.by n q, no_arm G n ty v.value (h.by n q)) }

    nothing_returned : {P : Known G} → Entails P (returned (constant val.None))
    unfolding both constant
    nothing_returned {P = P} = record { by = λ n q. ((constant_fine G W {P = P} val.None tt).by n q, tt) }

    returns_value : {P : Known G} (site : ℕ) (v : K) → Ok site → Entails P (returned v) → Bare G W J (In i) {X = Unit {0}} P (note (plain kind.Return site v.value) v >>= (λ e. leave (Returned e.number (carried_of e v.value)))) (λ u. nothing)
    unfolding plain drafted fine fair carried_of both
    returns_value site v s f = bare.bind G W J (bare.notes G W J (plain kind.Return site v.value) v (record { by = λ n q. record { site = s; entity = tt; slot = tt; value = (f.by n q).1; fixed = (f.by n q).0.0; quiet = tt } }) (record { by = λ n q. (f.by n q).0 })) (λ e. bare.leaves G W J _ (record { by = λ n q. ((f.by n q.0).0.0, (tt, tt)) }))

    returns : (site : ℕ) (x : Part) → Ok site → PartSited Ok x → IsResult here x → Runs (return_form site (part_or val.None (eval_part w x)))
    unfolding return_form part_or eval_part
    returns site absent s sx t = record { by = λ P. plainly G W J (bare.bind G W J (bare.gives G W J {Q = returned} _ nothing_returned) (λ v. returns_value site v s (newest _ _))) }
    returns site (the e) s sx (ty, r, vt, fitting {a = a} h f) = record { by = λ P. then_plainly G W J (((expression.typed G M i e).by a h).by P) (((keeps G W J M L i e).by sx a h).by P) (λ v. returns_value site v s (of_a_type v a (before _ _ (newest _ _)) (newest _ _))) }

    is_thrown : {P : Known G} (v : K) → is_null v.value ≡ false → Entails P (of_type G (class_type throwable_class) v.value) → Entails P (thrown G W v.value)
    unfolding is thrown
    is_thrown v e h = record { by = λ n q. throwable G n v.value e (h.by n q) }

    throws : (site : ℕ) (e : Expression) → Ok site → Sited Ok e → (a : Ty) → HasType (p G) (local_types (p G) i) e a → ((P : Known G) → Does G (In i) P (eval w e) (λ v. of_type G (class_type throwable_class) v.value)) → Runs (throw_form w site (eval w e))
    unfolding throw_form
    throws site e s se a h d = record { by = λ P. then_plainly G W J (d P) (((keeps G W J M L i e).by se a h).by P) (λ v. bare.either G W J (is_null v.value) (λ q. plain_form.null_fails G W J M site v s (newest _ _)) (λ q. plain_form.throws G W J M site v s (newest _ _) (is_thrown v q (before _ _ (newest _ _))))) }

    for_tests : (site reach : ℕ) (x : Part) → Ok site → PartSited Ok x → IsTest here x → (P : Known G) → O P (for_test site reach (eval_part w x)) (λ c. nothing)
    unfolding for_test eval_part
    for_tests site reach absent s sx t P = plainly G W J (bare.gives G W J true trivially)
    for_tests site reach (the e) s sx t P = tests site reach e s sx t P

    for_typed : (site reach : ℕ) (x : Part) → IsTest here x → Typed (for_test site reach (eval_part w x))
    unfolding for_test eval_part
    for_typed site reach absent t P = typed_rule.gives G true trivially
    for_typed site reach (the e) t P = test_typed site reach e t P

    acts : (site reach : ℕ) (x : Act) → ActParts (λ e. Unit {1}) Keeps x → Ok site → ActSited Ok x → PrintLined W.ends_line x → Each (statements_within x) → ActJumpsTo J x → Acts here x → Runs (exec_act w site reach x)
    unfolding exec_act evaluated if_form for_form
    acts site reach (Block parts) d o s ends l j t = all_run parts d l j t
    acts site reach (Eval value) d o s ends l j t = record { by = λ P. then_bare G W J (((keeps G W J M L i value).by s t.0 t.1).by P) (λ v. bare.gives G W J tt trivially) }
    acts site reach (Declare k) d o s ends l j t = record { by = λ P. plainly G W J (plain_text.declares_local G W J M k) }
    acts site reach (If test x y) d o s ends l j t =
        let k = parted Own (statements x) (statements_of_other y) l in
        record { by = λ P. bind G W J (test_typed site reach test t.0 P) (tests site reach test o s t.0 P) (λ c. either G W J c (λ q. (d.1.by J k.0 j.0 t.1).by _) (λ q. (others y d.2 k.1 j.1 t.2).by _)) }
    acts site reach (While test body) d o s ends l j t = record { by = λ P. whiles G W J _ _ (test_typed site reach test t.0) (tests site reach test o s t.0) (typed_exec body t.1) (d.1.by J l j t.1).by }
    acts site reach (Do body test) d o s ends l j t = record { by = λ P. dos G W J _ _ (test_typed site reach test t.1) (tests site reach test o s t.1) (typed_exec body t.0) (d.0.by J l j t.0).by }
    acts site reach (For inits test updates body) d o s ends l j t =
        let k = parted Own (statements_of_all inits) (statements_of_all updates ++ statements body) l in
        let m = parted Own (statements_of_all updates) (statements body) k.1 in
        record {
          by = λ P. after G W J (all_typed inits t.0 P) ((all_run inits d.0 k.0 j.0 t.0).by P) (λ P. whiles G W J _ _ (for_typed site reach test t.1) (for_tests site reach test o s t.1) (λ P. typed_rule.after G (typed_exec body t.3 P) (all_typed updates t.2 P)) (λ P. after G W J (typed_exec body t.3 P) ((d.3.by J m.1 j.2 t.3).by P) (all_run updates d.2 m.0 j.1 t.2).by));
        }
    acts site reach (Labelled body) d o s ends l j t = d.by J l j t
    acts site reach (Jump target) d o s ends l j t = record { by = λ P. plainly G W J (plain_text.jumps G W J M site target o j) }
    acts site reach (Return value) d o s ends l j t = returns site value o s t
    acts site reach (Throw value) d o s ends l j (fitting {a = a} k f) = throws site value o s a k (λ P. (expression.given G M i value (class_type throwable_class) (expression.typed G M i value) (fitting k f)).by P)
    acts site reach (Try main x last) d o s ends l j t =
        let k = parted Own (statements main) (statements_of_catches x ++ statements_of_other last) l in
        let m = parted Own (statements_of_catches x) (statements_of_other last) k.1 in
        tries main x last d.0 d.1 d.2 s k.0 m.0 m.1 j.0 j.1 j.2 t.0 t.1 t.2
    acts site reach (Print operand ty ends_line at) d o s ends l j t = prints operand ty ends_line at s.0 ends s.1 t

  act : (number site : ℕ) (askable : Bool) (reach : ℕ) (x : Act) → ActParts (λ e. Unit {1}) Keeps x → Keeps (Stmt number site askable reach x)
  unfolding exec
  act number site askable reach x d = record { by = λ J l j t. record { by = λ P. numbered G W J number (acts (OrTo J number) site reach x d l.0.0.0 l.0.0.1 l.0.1 l.1 j t.2).by } }

  -- so does every statement
  pub keeps_range : (x : Statement) → Keeps x
  keeps_range x = of_statement (λ e. Unit {1}) (λ e d. tt) Keeps act x
