-- Every run leaves states typed, at each depth of calls.
use Rattle.std.proofs.Common.{◌≡◌, ◌<◌, ℕ, zero, suc, List, [], ◌∷◌, ◌++◌, length, Option, Some, refl, sym, ap, subst}
use Rattle.std.specs.Prelude.{None as Absent}
use Rattle.std.specs.Prelude.{option_and_then}
use Rattle.std.proofs.lemmas.Option.{slice_get_within}
use Rattle.wy_kernel.specs.declared.types.Base.TheVariants.{Class as Named}
use Rattle.wy_kernel.specs.declared.types.Ty.{Ty}
use Rattle.wy_kernel.specs.declared.types.MethodForm.{MethodForm}
use Rattle.wy_kernel.specs.declared.types.MethodForm.TheVariants as kinds
use Rattle.wy_kernel.specs.Program.{Program, Method, method, body, init_body, string_class}
use Rattle.wy_value.specs.declared.value.Value.TheVariants as val
use Rattle.wy_steps.specs.Sets.{Sets}
use Rattle.wy_steps.specs.State.{Carried, Run, Noted, State, DepthLimit, Reason, Jumped, Returned, Threw, Outcome, Done, Left, Stopped, stop, ◌>>◌}
use Rattle.wy_kernel.specs.Limits.{depth_limit}
use Rattle.wy_steps.specs.Steps.{value_of, event_in}
use Rattle.wy_meaning.specs.World.{World}
use Rattle.wy_meaning.specs.Call.{bound, initialization}
use Rattle.wy_meaning.specs.Expression.{eval}
use Rattle.wy_meaning.specs.Statement.{exec}
use Rattle.wy_meaning.specs.Run.{call_body, init_block, world, strings, main_run, start, outcome, end}
use Rattle.wy_typing.specs.Expressions.{IsMethod}
use Rattle.wy_typing.specs.Programs.{IsProgram, IsDeclared, this_types, result_of}
use Rattle.law_induction.specs.Law.{nothing, FrameKind, OfCall, OfInit, Region, Outside, In}
use Rattle.law_induction.proofs.Rules.{newest}
use Rattle.law_induction.proofs.States as state
use Rattle.law_induction.proofs.States.{law_of, steps_of}
use Rattle.law_induction.proofs.Loops.{counted}
use Rattle.law_typed_states.specs.Typed.{Is, IsTypedState, KeepsLibrary}
use Rattle.law_typed_states.specs.Laws.{RunsIn, IsTypedReason, EndsTyped, ExpressionsAreTyped, result_in, StatementsAreTyped, RunsAreTyped, StatesAreTyped, TestsAreExact}
use Rattle.law_typed_states.proofs.Chains.{exact}
use Rattle.law_typed_states.proofs.Library.{object_is_top, text_made}
use Rattle.law_typed_states.proofs.Law.{law, is, answer, never, reason, Standing}
use Rattle.law_typed_states.proofs.Rules.{Ground, A, p, Known, Kept, typed, Does, bind, forgets, stops, next}
use Rattle.law_typed_states.proofs.Facts.{AllAre, Calls, called}
use Rattle.law_typed_states.proofs.Places.{Methods, of_type, world_of, may_initialize}
use Rattle.law_typed_states.proofs.Arrays.{makes_array, made_is, array_made}
use Rattle.law_typed_states.proofs.Expressions as expression
use Rattle.law_typed_states.proofs.Statements.{GivesBack, leaves_typed}
use Rattle.law_typed_states.proofs.Bodies.{body_called, initialized}

module _ (G : Ground) where
  -- the calls and initializations of the world at a depth
  record At (depth : ℕ) : Type 1 where
    pub methods : Methods G
    pub is : world_of G methods ≡ world (p G) depth

  at_depth : (depth : ℕ) → At depth
  unfolding world
  at_depth zero = record {
    methods = record {
      call = λ site m r args. stop DepthLimit;
      enter = λ site c. stop DepthLimit;
      calls = λ d site m r args P h. stops G DepthLimit tt;
      enters = λ d site c P. stops G DepthLimit tt;
    };
    is = refl;
  }
  at_depth (suc depth) =
      let below = at_depth depth in
      let w = world_of G below.methods in
      record {
        methods = record {
          call = λ site m r args. call_body w site m (body (p G) m) r args;
          enter = λ site c. initialization w site c (init_block w (init_body (p G) c));
          calls = λ d site m r args P h. body_called G below.methods site m (body (p G) m) r args refl h;
          enters = λ d site c P. initialized G below.methods c site (init_body (p G) c) refl;
        };
        is = ap (λ (x : World (A G)). record {
          program = p G;
          call = λ site m r args. call_body x site m (body (p G) m) r args;
          enter = λ site c. initialization x site c (init_block x (init_body (p G) c));
        }) below.is;
      }

  module _ (M : Methods G) where
    abbrev w : World (A G)
    w = world_of G M

    pub main_calls : (n : List (Noted (A G))) (v : Carried (A G)) → Is (p G) n strings v.value → Calls G n (p G).main Absent (v ∷ [])
    unfolding bound
    main_calls n v h = let m = G.fits.main in record {
      method = m.method;
      found = m.found;
      given = subst (λ f. AllAre G n (this_types f m.method.class ++ m.method.params) (v ∷ [])) (sym m.static) (subst (λ (ts : List Ty). AllAre G n ts (v ∷ [])) (sym m.params) (h, tt));
    }

    runs_main : {P : Known G} → Does G Outside P (main_run w) (λ v. nothing)
    unfolding main_run ◌>>◌ value_of called is
    runs_main =
        let text = text_made (p G) G.fits.declarations.library_classes in
        let known : string_class < length (p G).classes = slice_get_within (p G).classes string_class text.0 text.1 in
        next G (may_initialize G M _ _) (λ t. bind G (makes_array G M _ strings 0 _) (λ args.
        forgets G (M.calls Outside _ (p G).main Absent (value_of args (val.Object args.number) ∷ []) _ (record { by = λ n h. main_calls n _ ((made_is G M args _ strings 0 (newest _ _) (λ m q. array_made G M (Named string_class) 0 0 known)).by n h) }))))

  -- ---- from rules to states

  -- what is known of an outcome
  abbrev Given : {X : Type 0} → Region → (X → Known G) → Outcome (A G) X → Type 0
  Given r Q (Done x t) = (Q x).holds t.noted
  Given r Q (Left why t) = (reason (A G) (p G) r why).holds t.noted
  Given r Q (Stopped why t) = Unit {0}

  unfoldable GivenByLaw : {X : Type 0} → Region → (X → Known G) → Outcome (A G) X → Type 0
  unfolding law
  GivenByLaw r Q o = state.Given (A G) (law (A G) (p G) G.fits) r Q o

  given : {X : Type 0} (r : Region) (Q : X → Known G) (o : Outcome (A G) X) → GivenByLaw r Q o → Given r Q o
  unfolding law GivenByLaw
  given r Q (Done x t) h = h
  given r Q (Left why t) h = h
  given r Q (Stopped why t) h = tt

  ends : {r : Region} {X : Type 0} {m : Run (A G) X} {Q : X → Known G} → Does G r nothing m Q → (s : State (A G)) → IsTypedState (p G) s → Standing (A G) (p G) r s → (IsTypedState (p G) (end (m s)) × Standing (A G) (p G) r (end (m s))) × Given r Q (m s)
  unfolding Kept typed law_of counted steps_of law GivenByLaw
  ends {r = r} {m = m} {Q = Q} d s i t = let h = (d.by.by.by s).kept tt (i, t) tt in (h.0, given r Q (m s) h.1)

  stands : (i : FrameKind) (t : State (A G)) → Standing (A G) (p G) (In i) t → RunsIn i t
  stands i t h = record { number = h.0; frame = h.1; runs = h.2 }

  reasoned : (i : FrameKind) (why : Reason (A G)) (n : List (Noted (A G))) → (reason (A G) (p G) (In i) why).holds n → IsTypedReason (p G) n i why
  unfolding reason answer is never
  reasoned i (Jumped target e) n h = tt
  reasoned (OfCall m) (Returned e v) n h = h
  reasoned (OfInit c) (Returned e v) n h = h
  reasoned i (Threw e v) n h = h

  ends_typed : {X : Type 0} (i : FrameKind) (Q : X → Known G) (o : Outcome (A G) X) → (IsTypedState (p G) (end o) × Standing (A G) (p G) (In i) (end o)) × Given (In i) Q o → EndsTyped (p G) i (λ noted x. (Q x).holds noted) o
  unfolding end
  ends_typed i Q (Done x t) h = (h.0.0, stands i t h.0.1, h.1)
  ends_typed i Q (Left why t) h = (h.0.0, stands i t h.0.1, reasoned i why t.noted h.1)
  ends_typed i Q (Stopped why t) h = (h.0.0, stands i t h.0.1)

  pub expression_typed : ExpressionsAreTyped (A G) (p G)
  unfolding is
  expression_typed depth i e ty s h t r =
      let M = at_depth depth in
      subst (λ x. EndsTyped (p G) i (λ noted v. Is (p G) noted ty v.value) (eval x e s)) M.is
      (ends_typed i (λ v. of_type G ty v.value) _ (ends (((expression.typed G M.methods i e).by ty h).by nothing) s t (r.number, r.frame, r.runs)))

  body_result : (md : Method) (ty : Ty) → result_of md.form md.result ≡ Some ty → ty ≡ md.result
  body_result md ty e = by_form md.form e
    where
      some_same : {x y : Ty} → Some x ≡ Some y → x ≡ y
      some_same e = cc e

      by_form : (f : MethodForm) → result_of f md.result ≡ Some ty → ty ≡ md.result
      by_form kinds.Fields e = absurd (cc e)
      by_form kinds.Static e = some_same (sym e)
      by_form kinds.Instance e = some_same (sym e)
      by_form kinds.Constructor e = some_same (sym e)

  result_known : (m : ℕ) (md : Method) (ty : Ty) → IsMethod (p G) m md → result_in (p G) (OfCall m) ≡ Some ty → ty ≡ md.result
  result_known m md ty e h = body_result md ty (subst (λ (o : Option Method). option_and_then (λ (x : Method). result_of x.form x.result) o ≡ Some ty) e h)

  gives_back : (M : Methods G) (i : FrameKind) → GivesBack G M i (result_in (p G) i)
  unfolding reason answer is
  gives_back M (OfCall m) ty e P k v h = record { by = λ n q md found. subst (λ t. Is (p G) n t v.value) (result_known m md ty found e) (h.by n q) }
  gives_back M (OfInit c) ty e P k v h = absurd (cc e)

  pub statement_typed : StatementsAreTyped (A G) (p G)
  statement_typed depth i x s h t r =
      let M = at_depth depth in
      subst (λ w. EndsTyped (p G) i (λ noted u. Unit {0}) (exec w x s)) M.is
      (ends_typed i (λ u. nothing) _ (ends ((leaves_typed G M.methods i (result_in (p G) i) (gives_back M.methods i) x h).by nothing) s t (r.number, r.frame, r.runs)))

  pub start_typed : (input : List ℕ) (budget : ℕ) → IsTypedState (p G) (start {A = A G} input budget)
  unfolding start event_in
  start_typed input budget = record { store = λ x h e. absurd (cc e); created = λ n e x h c. absurd (cc h); past = tt }

  pub run_typed : RunsAreTyped (A G) (p G)
  unfolding outcome
  run_typed input budget =
      let M = at_depth depth_limit in
      subst (λ w. IsTypedState (p G) (end (main_run w (start input budget)))) M.is (ends (runs_main M.methods) (start input budget) (start_typed input budget) tt).0.0

pub states_are_typed : (A : Sets) (p : Program) → IsProgram p → KeepsLibrary p → StatesAreTyped A p
states_are_typed A p fits library =
    let G : Ground = record { sets = A; program = p; fits = fits; library = library } in
    record { runs = run_typed G; expressions = expression_typed G; statements = statement_typed G }

pub tests_are_exact : (p : Program) → IsDeclared p → TestsAreExact p
tests_are_exact p d = exact p d.acyclic (object_is_top p d.library_classes)
