-- Calls and initializations leave states typed, and give what their methods give.
use Rattle.std.proofs.Common.{◌≡◌, ◌<◌, arith, ℕ, zero, suc, Bool, true, false, List, [], ◌∷◌, ◌++◌, length, ◌⊎◌, inr, ⊎_elim, Option, Some, refl, sym, ap, ◌∙◌, subst, append_assoc}
use Rattle.std.specs.Prelude.{None as Absent}
use Rattle.std.specs.Prelude.{slice_get, slice_index_or}
use Rattle.std.proofs.lemmas.Option.{slice_get_within}
use Rattle.wy_kernel.specs.declared.types.Ty.{Ty}
use Rattle.wy_kernel.specs.declared.types.Ty.TheVariants.{Void, Null as OfNull, Of}
use Rattle.wy_kernel.specs.declared.types.MethodForm.{MethodForm}
use Rattle.wy_kernel.specs.declared.types.MethodForm.TheVariants as kinds
use Rattle.wy_kernel.specs.Program.{Body, Method, method, class, body, init_body, local_site}
use Rattle.wy_value.specs.declared.value.Value.{Value}
use Rattle.wy_value.specs.declared.value.Value.TheVariants as val
use Rattle.wy_event.specs.declared.record.Kind.TheVariants as kind
use Rattle.wy_steps.specs.State.{Carried, Noted, Around, Reason, Jumped, Returned, Threw}
use Rattle.wy_steps.specs.Steps.{Made, constant, value_of}
use Rattle.wy_meaning.specs.World.{World, plain, about}
use Rattle.wy_meaning.specs.Call.{bound, bind_all, is_void, end_body, at_return, run_body, frame_of_call, call_uses, call_method, at_failure, initialize_above, initialization}
use Rattle.wy_meaning.specs.Statement.{exec}
use Rattle.wy_meaning.specs.Run.{call_body, init_block}
use Rattle.wy_typing.specs.Expressions.{IsMethod}
use Rattle.wy_typing.specs.Programs.{types, this_types, result_of, IsBody, IsBodyOf}
use Rattle.wy_typing.specs.Statements.{IsTyped}
use Rattle.law_induction.specs.Law.{nothing, Entails, OfCall, OfInit, Region, In, Ends, a_return}
use Rattle.law_induction.proofs.Rules.{newest, before, trivially}
use Rattle.law_typed_states.specs.Typed.{Is, FitsLocal, Runs, running_as, types_of, local_types}
use Rattle.law_typed_states.proofs.Subtypes.{part_at, part_is}
use Rattle.law_typed_states.proofs.Law.{is, event, runs, begun, stores, answer, reason}
use Rattle.law_typed_states.proofs.Rules.{Ground, A, p, Known, Does, bind, gives_less, forgets, gives, leaves, stops, fails_by, catches_last, next, after, scopes, runs_in, notes, notes_call, notes_init, binds_local}
use Rattle.law_typed_states.proofs.Facts.{AllAre, all_are, Calls, called}
use Rattle.law_typed_states.proofs.Places.{Methods, of_type, world_of, may_initialize}
use Rattle.law_typed_states.proofs.Statements.{GivesBack, leaves_typed}

pub seam : {X : Type 0} (xs : List X) (y : X) (ys : List X) → slice_get (xs ++ y ∷ ys) (length xs) ≡ Some y
seam [] y ys = refl
seam (x ∷ xs) y ys = seam xs y ys

some_same : {X : Type 0} {x y : X} → Some x ≡ Some y → x ≡ y
some_same e = cc e

pub part_there : {X : Type 0} (xs : List X) (k : ℕ) → k < length xs → (x : X) × (slice_get xs k ≡ Some x)
part_there [] k lt = absurd (omega (arith, lt))
part_there (x ∷ xs) zero lt = (x, refl)
part_there (x ∷ xs) (suc k) lt = part_there xs k (omega (arith, lt))

length_last : (xs : List Ty) (y : Ty) → length (xs ++ y ∷ []) ≡ suc (length xs)
length_last [] y = refl
length_last (x ∷ xs) y = ap suc (length_last xs y)

module _ (G : Ground) (M : Methods G) where
  abbrev w : World (A G)
  w = world_of G M

  -- ---- the events that bodies run by

  pub runs_call : {P : Known G} (e : Made (A G)) (site m : ℕ) → Entails P (event (A G) (p G) (about kind.Call site m val.None) e) → Entails P (runs (A G) (p G) (OfCall m) e.number)
  unfolding event runs about
  runs_call e site m h = record { by = λ n q. let x = h.by n q in record { event = x.event; there = x.there; runs = ap (λ k. running_as k x.event.entity) x.kind ∙ ap (λ o. running_as kind.Call o) x.entity } }

  pub runs_init : {P : Known G} (e : Made (A G)) (site c : ℕ) → Entails P (event (A G) (p G) (about kind.Init site c val.None) e) → Entails P (runs (A G) (p G) (OfInit c) e.number)
  unfolding event runs about
  runs_init e site c h = record { by = λ n q. let x = h.by n q in record { event = x.event; there = x.there; runs = ap (λ k. running_as k x.event.entity) x.kind ∙ ap (λ o. running_as kind.Init o) x.entity } }

  begun_init : {P : Known G} (e : Made (A G)) (site c : ℕ) → Entails P (event (A G) (p G) (about kind.Init site c val.None) e) → Entails P (begun (A G) (p G) c)
  unfolding event begun about
  begun_init e site c h = record { by = λ n q. let x = h.by n q in record { number = e.number; event = x.event; there = x.there; is_init = x.kind; of_class = x.entity } }

  -- ---- the body of a method

  module _ (m : ℕ) (b : Body) (is_body : body (p G) m ≡ Some b) where
    bind_fits : (n : List (Noted (A G))) (f : ℕ) (pre : List Ty) (t : Ty) (rest : List Ty) (v : Value) → Runs n f (OfCall m) → types b ≡ pre ++ t ∷ rest → Is (p G) n t v → FitsLocal (p G) n f (length pre) v
    bind_fits n f pre t rest v r e h = record {
      body = OfCall m;
      runs = r;
      typed = λ ty q. inr (subst (λ u. Is (p G) n u v) (some_same (sym (seam pre t rest) ∙ subst (λ (ts : List Ty). slice_get ts (length pre) ≡ Some ty) e (subst (λ o. slice_get (types_of o) (length pre) ≡ Some ty) is_body q))) h);
    }

    never_binds : (vs : List (Carried (A G))) (f k : ℕ) (P : Known G) → ((n : List (Noted (A G))) → P.holds n → ⊥) → Does G (Ends (OfCall m)) P (bind_all b f k vs) (λ t. nothing)
    unfolding bind_all
    never_binds [] f k P h = gives G tt trivially
    never_binds (v ∷ vs) f k P h = next G (binds_local G (local_site b k) f k v.value v (record { by = λ n q. absurd (h n q) })) (λ e. never_binds vs f (suc k) P h)

    pub binds : (ts : List Ty) (vs : List (Carried (A G))) (pre rest : List Ty) (f k : ℕ) (P : Known G) → types b ≡ pre ++ (ts ++ rest) → length pre ≡ k → Entails P (runs (A G) (p G) (OfCall m) f) → Entails P (all_are G ts vs) → Does G (Ends (OfCall m)) P (bind_all b f k vs) (λ t. nothing)
    unfolding bind_all all_are runs stores is
    binds ts [] pre rest f k P e l r h = gives G tt trivially
    binds [] (v ∷ vs) pre rest f k P e l r h = never_binds (v ∷ vs) f k P (λ n q. h.by n q)
    binds (t ∷ ts) (v ∷ vs) pre rest f k P e l r h =
        next G (binds_local G (local_site b k) f k v.value v (record { by = λ n q. subst (λ j. FitsLocal (p G) n f j v.value) l (bind_fits n f pre t (ts ++ rest) v.value (r.by n q) e (h.by n q).0) })) (λ x.
        binds ts vs (pre ++ t ∷ []) rest f (suc k) P (e ∙ sym (append_assoc pre (t ∷ []) (ts ++ rest))) (length_last pre t ∙ ap suc l) r (record { by = λ n q. (h.by n q).1 }))

    module _ (md : Method) (found : IsMethod (p G) m md) (typed_body : IsBodyOf (p G) md b) where
      same_method : (r : Method) → IsMethod (p G) m r → md ≡ r
      same_method r e = some_same (sym found ∙ e)

      same_result : (f : MethodForm) (r ty : Ty) → result_of f r ≡ Some ty → ty ≡ r
      same_result kinds.Fields r ty e = absurd (cc e)
      same_result kinds.Static r ty e = some_same (sym e)
      same_result kinds.Instance r ty e = some_same (sym e)
      same_result kinds.Constructor r ty e = some_same (sym e)

      answers : {P : Known G} (v : Value) → Entails P (of_type G md.result v) → Entails P (answer (A G) (p G) m v)
      unfolding answer is
      answers v h = record { by = λ n q r e. subst (λ (x : Method). Is (p G) n x.result v) (same_method r e) (h.by n q) }

      pub gives_back : GivesBack G M (OfCall m) (result_of md.form md.result)
      unfolding reason
      gives_back ty e P k v h = answers v.value (subst (λ t. Entails P (of_type G t v.value)) (same_result md.form md.result ty e) h)

      pub block_typed : IsTyped (record { program = p G; locals = local_types (p G) (OfCall m); result = result_of md.form md.result }) b.block
      block_typed = subst (λ o. IsTyped (record { program = p G; locals = types_of o; result = result_of md.form md.result }) b.block) (sym is_body) typed_body.block

      nothing_is : (ty : Ty) → is_void ty ≡ true → (n : List (Noted (A G))) → Is (p G) n ty val.None
      unfolding is_void
      nothing_is Void e n = refl
      nothing_is OfNull e n = absurd (cc e)
      nothing_is (Of base k) e n = absurd (cc e)

      ends : {P : Known G} (c : Bool) (site : ℕ) → is_void md.result ≡ c → Does G (In (OfCall m)) P (end_body c site) (λ v. answer (A G) (p G) m v.value)
      unfolding end_body value_of is
      ends false site e = stops G _ tt
      ends true site e = next G (forgets G (notes G (plain kind.Return site val.None) (constant val.None) (a_return site val.None _))) (λ r. gives G _ (answers val.None (record { by = λ n q. nothing_is md.result e n })))

      at_returns : {P : Known G} (why : Reason (A G)) → Entails P (reason (A G) (p G) (In (OfCall m)) why) → Does G (Ends (OfCall m)) P (at_return why) (λ v. answer (A G) (p G) m v.value)
      unfolding at_return reason
      at_returns (Jumped target e) h = leaves G _ h
      at_returns (Returned e v) h = gives G v h
      at_returns (Threw e v) h = leaves G _ h

      runs_body : {P : Known G} (site : ℕ) → Does G (Ends (OfCall m)) P (run_body (exec w b.block) (is_void md.result) site) (λ v. answer (A G) (p G) m v.value)
      unfolding run_body
      runs_body site = catches_last G (after G ((leaves_typed G M (OfCall m) (result_of md.form md.result) gives_back b.block block_typed).by _) (ends (is_void md.result) site refl)) (λ why. at_returns why (newest _ _))

      pub given_at : (n : List (Noted (A G))) (r : Option (Carried (A G))) (args : List (Carried (A G))) → Calls G n m r args → AllAre G n (this_types md.form md.class ++ md.params) (bound r args)
      given_at n r args c = subst (λ (x : Method). AllAre G n (this_types x.form x.class ++ x.params) (bound r args)) (sym (same_method c.method c.found)) c.given

      in_frame_does : {P : Known G} (f : ℕ) (r : Option (Carried (A G))) (args : List (Carried (A G))) → Entails P (runs (A G) (p G) (OfCall m) f) → Entails P (called G m r args) → Does G (Ends (OfCall m)) P (frame_of_call b (exec w b.block) (is_void md.result) f (bound r args)) (λ v. answer (A G) (p G) m v.value)
      unfolding frame_of_call called all_are
      in_frame_does {P = P} f r args e h = after G (binds (this_types md.form md.class ++ md.params) (bound r args) [] typed_body.begins.0 f 0 P typed_body.begins.1 refl e (record { by = λ n q. given_at n r args (h.by n q) })) (runs_body b.end)

      pub method_called : {d : Region} {P : Known G} (site : ℕ) (r : Option (Carried (A G))) (args : List (Carried (A G))) → Entails P (called G m r args) → Does G d P (call_method site m md b (exec w b.block) r args) (λ v. answer (A G) (p G) m v.value)
      unfolding call_method
      method_called site r args h = scopes G (bind G (notes_call G Around site m (call_uses md.form r)) (λ e. runs_in G e.number (runs_call e site m (newest _ _)) (in_frame_does e.number r args (runs_call e site m (newest _ _)) (before _ _ h))))

  pub body_there : (xs : List (Option Body)) (m : ℕ) (b : Body) → slice_index_or xs m Absent ≡ Some b → slice_get xs m ≡ Some (Some b)
  body_there xs m b e = ⊎_elim (λ h. absurd (cc (sym h.1 ∙ e))) (λ h. h.1 ∙ ap Some (sym h.2 ∙ e)) (part_at xs m Absent)

  pub body_called : {d : Region} {P : Known G} (site m : ℕ) (o : Option Body) (r : Option (Carried (A G))) (args : List (Carried (A G))) → body (p G) m ≡ o → Entails P (called G m r args) → Does G d P (call_body w site m o r args) (λ v. answer (A G) (p G) m v.value)
  unfolding call_body body method
  body_called site m Absent r args e h = stops G _ tt
  body_called {d = d} {P = P} site m (Some b) r args e h =
      let there : slice_get (p G).bodies m ≡ Some (Some b) = body_there (p G).bodies m b e in
      let x = part_there (p G).methods m (subst (λ k. m < k) G.fits.a_place_a_method (slice_get_within (p G).bodies m (Some b) there)) in
      subst (λ md. Does G d P (call_method site m md b (exec w b.block) r args) (λ v. answer (A G) (p G) m v.value)) (sym (part_is (p G).methods m _ x.0 x.1))
      (method_called m b e x.0 x.1 (G.fits.bodies m x.0 b x.1 there) site r args h)

  -- ---- initializations

  module _ (c : ℕ) where
    pub no_result : GivesBack G M (OfInit c) Absent
    no_result ty e P k v h = absurd (cc e)

    init_block_does : (o : Option Body) → init_body (p G) c ≡ o → (P : Known G) → Does G (In (OfInit c)) P (init_block w o) (λ t. nothing)
    unfolding init_block init_body
    init_block_does Absent e P = gives G tt trivially
    init_block_does (Some b) e P =
        let typed_body : IsBody (p G) [] Absent b = G.fits.initializers c b (body_there (p G).init_bodies c b e) in
        (leaves_typed G M (OfInit c) Absent no_result b.block (subst (λ o. IsTyped (record { program = p G; locals = types_of o; result = Absent }) b.block) (sym e) typed_body.block)).by P

    pub above_does : {d : Region} {P : Known G} (site : ℕ) (o : Option ℕ) → Does G d P (initialize_above w site o) (λ t. nothing)
    unfolding initialize_above
    above_does site Absent = gives G tt trivially
    above_does site (Some k) = may_initialize G M site k

    at_fails : {P : Known G} (why : Reason (A G)) → Entails P (reason (A G) (p G) (In (OfInit c)) why) → Does G (Ends (OfInit c)) P (at_failure why) (λ t. nothing)
    unfolding at_failure reason
    at_fails (Jumped target e) h = leaves G _ h
    at_fails (Returned e v) h = leaves G _ h
    at_fails (Threw e v) h = fails_by G e

    pub initialized : {d : Region} {P : Known G} (site : ℕ) (o : Option Body) → init_body (p G) c ≡ o → Does G d P (initialization w site c (init_block w o)) (λ t. begun (A G) (p G) c)
    unfolding initialization
    initialized site o e = scopes G (bind G (notes_init G Around site c) (λ x. gives_less G
        (runs_in G x.number (runs_init x site c (newest _ _)) (after G (above_does (class (p G) c).site (class (p G) c).above) (catches_last G (init_block_does o e _) (λ why. at_fails why (newest _ _)))))
        (λ t. before _ _ (begun_init x site c (newest _ _)))))
