-- What parts of a run do to what is in range, from typed states, as rules that a goal determines.
use Rattle.std.proofs.Common.{◌≡◌, ◌⊎◌, inl, inr, ℕ, zero, suc, Bool, true, false, List, length, Option, Some, refl, sym, ap, ◌∙◌, subst}
use Rattle.std.specs.List.{AllByRecursion}
use Rattle.std.proofs.lemmas.Bool.{eq-eqb}
use Rattle.wy_steps.specs.State.{Active, Store, Stop, StepLimit, Reason, Jumped, Returned, Threw, Outcome, Done, Left, Stopped, Run, go_on, ◌>>=◌, ◌>>◌, go_on_left, catching, choose}
use Rattle.wy_steps.specs.Steps.{steps_left, scoped, active_again, reaching, end_reaches, without, in_frame, frame_again, covered, covering, begun, arrives, cover_end, end_normally, be_left}
use Rattle.wy_meaning.specs.Run.{end}
use Rattle.wy_meaning.specs.Statement.{statement, turns, while_form, do_form}
use Rattle.law_induction.specs.Law.{nothing, both, Entails, FrameKind, Region, In, Ends}
use Rattle.law_induction.proofs.States as state
use Rattle.law_induction.proofs.States.{law_of, steps_of}
use Rattle.law_induction.proofs.Loops.{counted}
use Rattle.law_induction.proofs.Rules.{trivially}
use Rattle.law_typed_states.specs.Typed.{Runs, IsTypedState}
use Rattle.law_typed_states.proofs.Moments.{Later}
use Rattle.law_typed_states.proofs.Law.{law, runs, reason, Standing, standing_up}
use Rattle.law_typed_states.proofs.Rules.{Ground, A, p, Known, Kept, typed, Does, ticks as ticks_typed}
use Rattle.law_in_range.specs.InRange.{Text, IsByteOf}
use Rattle.law_in_range.proofs.Facts.{S, Moment, fair, AllInRange, StoreInRange, written_before, Taken, Inv}
use Rattle.law_in_range.proofs.Bare as bare
use Rattle.law_in_range.proofs.Bare.{Bare, Comes, Given, onward}

module _ (G : Ground) (W : Text) (J : ℕ → Type 0) where
  -- a typed state, in which all is in range
  pub record At (r : Region) (P : Known G) (s : S G W) : Type 0 where
    pub typed : IsTypedState (p G) s
    pub stands : Standing (A G) (p G) r s
    pub known : P.holds s.noted
    pub inv : Inv G W s

  -- from such a state the run keeps what is in range, and Q is known of what it gives
  pub record Full (r : Region) {X : Type 0} (P : Known G) (m : Run (A G) X) (Q : X → Known G) : Type 0 where
    pub by : (s : S G W) → At r P s → Comes G W J s Q (m s)

  -- ---- what types tell

  abbrev pub TypedGiven : {X : Type 0} → Region → (X → Known G) → Outcome (A G) X → Type 0
  TypedGiven r Q (Done x t) = (Q x).holds t.noted
  TypedGiven r Q (Left why t) = (reason (A G) (p G) r why).holds t.noted
  TypedGiven r Q (Stopped why t) = Unit {0}

  unfoldable GivenByLaw : {X : Type 0} → Region → (X → Known G) → Outcome (A G) X → Type 0
  unfolding law
  GivenByLaw r Q o = state.Given (A G) (law (A G) (p G) G.fits) r Q o

  typed_given : {X : Type 0} (r : Region) (Q : X → Known G) (o : Outcome (A G) X) → GivenByLaw r Q o → TypedGiven r Q o
  unfolding law GivenByLaw
  typed_given r Q (Done x t) h = h
  typed_given r Q (Left why t) h = h
  typed_given r Q (Stopped why t) h = tt

  abbrev pub TypedEnd : {X : Type 0} → Region → (X → Known G) → Outcome (A G) X → Type 0
  TypedEnd r Q o = (IsTypedState (p G) (end o) × Standing (A G) (p G) r (end o)) × TypedGiven r Q o

  pub ends : {r : Region} {X : Type 0} {P : Known G} {m : Run (A G) X} {Q : X → Known G} → Does G r P m Q → (s : S G W) → IsTypedState (p G) s → Standing (A G) (p G) r s → P.holds s.noted → TypedEnd r Q (m s)
  unfolding Kept typed law_of counted steps_of law GivenByLaw
  ends {r = r} {m = m} {Q = Q} d s i t k = let h = (d.by.by.by s).kept tt (i, t) k in (h.0, typed_given r Q (m s) h.1)

  -- ---- putting together

  bound : {r : Region} {X Y : Type 0} (P : Known G) (Q U : X → Known G) (R : Y → Known G) (f : X → Run (A G) Y) (s : S G W) (out : Outcome (A G) X) → At r P s → TypedEnd r Q out → Comes G W J s U out
      → ((x : X) → Full r (both (both P (Q x)) (U x)) (f x) R) → Comes G W J s R (go_on out f)
  unfolding go_on both end
  bound P Q U R f s (Done x t) at e c l = onward G W J s t R (f x t) c.later c.frame ((l x).by t (record { typed = e.0.0; stands = e.0.1; known = ((P.up _ _ c.later at.known, e.1), c.given); inv = c.inv }))
  bound P Q U R f s (Left why t) at e c l = record { later = c.later; frame = c.frame; inv = c.inv; given = c.given }
  bound P Q U R f s (Stopped why t) at e c l = record { later = c.later; frame = c.frame; inv = c.inv; given = tt }

  pub bind : {r : Region} {X Y : Type 0} {P : Known G} {Q U : X → Known G} {R : Y → Known G} {m : Run (A G) X} {f : X → Run (A G) Y} → Does G r P m Q → Full r P m U → ((x : X) → Full r (both (both P (Q x)) (U x)) (f x) R) → Full r P (m >>= f) R
  unfolding ◌>>=◌
  bind {P = P} {Q = Q} {U = U} {R = R} {m = m} {f = f} d h l = record { by = λ s at. bound P Q U R f s (m s) at (ends d s at.typed at.stands at.known) (h.by s at) l }

  pub after : {r : Region} {Y : Type 0} {P : Known G} {U : Unit {0} → Known G} {R : Y → Known G} {m : Run (A G) Unit} {k : Run (A G) Y} → Does G r P m (λ t. nothing) → Full r P m U → ((P : Known G) → Full r P k R) → Full r P (m >> k) R
  unfolding ◌>>◌
  after d h l = bind d h (λ t. l _)

  pub weaker : {r : Region} {X : Type 0} {P P' : Known G} {Q : X → Known G} {m : Run (A G) X} → Full r P m Q → Entails P' P → Full r P' m Q
  weaker h e = record { by = λ s at. h.by s (record { typed = at.typed; stands = at.stands; known = e.by _ at.known; inv = at.inv }) }

  -- what is known at its beginning may be used
  pub where_at : {r : Region} {X : Type 0} {P : Known G} {Q : X → Known G} {m : Run (A G) X} → ((s : S G W) → At r P s → Full r P m Q) → Full r P m Q
  where_at f = record { by = λ s at. (f s at).by s at }

  -- what types say of what it gives may be used
  typed_lesser : {r : Region} {X : Type 0} (P : Known G) (Q U R : X → Known G) (s : S G W) (out : Outcome (A G) X) → At r P s → TypedEnd r Q out → Comes G W J s U out → ((x : X) → Entails (both (both P (Q x)) (U x)) (R x)) → Comes G W J s R out
  unfolding both end
  typed_lesser P Q U R s (Done x t) at e c l = record { later = c.later; frame = c.frame; inv = c.inv; given = (l x).by t.noted ((P.up _ _ c.later at.known, e.1), c.given) }
  typed_lesser P Q U R s (Left why t) at e c l = record { later = c.later; frame = c.frame; inv = c.inv; given = c.given }
  typed_lesser P Q U R s (Stopped why t) at e c l = record { later = c.later; frame = c.frame; inv = c.inv; given = tt }

  pub with_types : {r : Region} {X : Type 0} {P : Known G} {Q U R : X → Known G} {m : Run (A G) X} → Does G r P m Q → Full r P m U → ((x : X) → Entails (both (both P (Q x)) (U x)) (R x)) → Full r P m R
  with_types {P = P} {Q = Q} {U = U} {R = R} {m = m} d h l = record { by = λ s at. typed_lesser P Q U R s (m s) at (ends d s at.typed at.stands at.known) (h.by s at) l }

  -- and what is in range at its end
  whole_lesser : {r : Region} {X : Type 0} (P : Known G) (Q U R : X → Known G) (s : S G W) (out : Outcome (A G) X) → At r P s → TypedEnd r Q out → Comes G W J s U out → ((x : X) (t : S G W) → Inv G W t → (Q x).holds t.noted → (U x).holds t.noted → (R x).holds t.noted) → Comes G W J s R out
  unfolding end
  whole_lesser P Q U R s (Done x t) at e c l = record { later = c.later; frame = c.frame; inv = c.inv; given = l x t c.inv e.1 c.given }
  whole_lesser P Q U R s (Left why t) at e c l = record { later = c.later; frame = c.frame; inv = c.inv; given = c.given }
  whole_lesser P Q U R s (Stopped why t) at e c l = record { later = c.later; frame = c.frame; inv = c.inv; given = tt }

  pub with_end : {r : Region} {X : Type 0} {P : Known G} {Q U R : X → Known G} {m : Run (A G) X} → Does G r P m Q → Full r P m U → ((x : X) (t : S G W) → Inv G W t → (Q x).holds t.noted → (U x).holds t.noted → (R x).holds t.noted) → Full r P m R
  with_end {P = P} {Q = Q} {U = U} {R = R} {m = m} d h l = record { by = λ s at. whole_lesser P Q U R s (m s) at (ends d s at.typed at.stands at.known) (h.by s at) l }

  pub either : {r : Region} {X : Type 0} {P : Known G} {Q : X → Known G} {m k : Run (A G) X} (c : Bool) → (c ≡ true → Full r P m Q) → (c ≡ false → Full r P k Q) → Full r P (choose c m k) Q
  unfolding choose
  either true h l = h refl
  either false h l = l refl

  dropped : {X : Type 0} {Q : X → Known G} (s : S G W) (out : Outcome (A G) X) → Comes G W J s Q out → Comes G W J s (λ (x : X). nothing) out
  unfolding end
  dropped s (Done x t) c = record { later = c.later; frame = c.frame; inv = c.inv; given = tt }
  dropped s (Left why t) c = record { later = c.later; frame = c.frame; inv = c.inv; given = c.given }
  dropped s (Stopped why t) c = record { later = c.later; frame = c.frame; inv = c.inv; given = tt }

  pub forgets : {r : Region} {X : Type 0} {P : Known G} {Q : X → Known G} {m : Run (A G) X} → Full r P m Q → Full r P m (λ x. nothing)
  forgets {P = P} {Q = Q} {m = m} h = record { by = λ s at. dropped s (m s) (h.by s at) }

  -- ---- parts that evaluate nothing

  pub plainly : {r : Region} {X : Type 0} {P : Known G} {Q : X → Known G} {m : Run (A G) X} → Bare G W J r P m Q → Full r P m Q
  plainly h = record { by = λ s at. h.by s at.stands at.known at.inv }

  -- what comes after it evaluates nothing
  pub then_plainly : {r : Region} {X Y : Type 0} {P : Known G} {Q U : X → Known G} {R : Y → Known G} {m : Run (A G) X} {f : X → Run (A G) Y} → Does G r P m Q → Full r P m U → ((x : X) → Bare G W J r (both (both P (Q x)) (U x)) (f x) R) → Full r P (m >>= f) R
  then_plainly d h l = bind d h (λ x. plainly (l x))

  plain_bound : {r : Region} {X Y : Type 0} (P : Known G) (U : X → Known G) (R : Y → Known G) (f : X → Run (A G) Y) (s : S G W) (out : Outcome (A G) X) → At r P s → Comes G W J s U out → ((x : X) → Bare G W J r (both P (U x)) (f x) R) → Comes G W J s R (go_on out f)
  unfolding go_on both end
  plain_bound {r = r} P U R f s (Done x t) at c l = onward G W J s t R (f x t) c.later c.frame ((l x).by t (standing_up (A G) (p G) r s t c.later c.frame at.stands) (P.up _ _ c.later at.known, c.given) c.inv)
  plain_bound P U R f s (Left why t) at c l = record { later = c.later; frame = c.frame; inv = c.inv; given = c.given }
  plain_bound P U R f s (Stopped why t) at c l = record { later = c.later; frame = c.frame; inv = c.inv; given = tt }

  -- whatever types say of it
  pub then_bare : {r : Region} {X Y : Type 0} {P : Known G} {U : X → Known G} {R : Y → Known G} {m : Run (A G) X} {f : X → Run (A G) Y} → Full r P m U → ((x : X) → Bare G W J r (both P (U x)) (f x) R) → Full r P (m >>= f) R
  unfolding ◌>>=◌
  then_bare {P = P} {U = U} {R = R} {m = m} {f = f} h l = record { by = λ s at. plain_bound P U R f s (m s) at (h.by s at) l }

  pub bare_first : {r : Region} {X Y : Type 0} {P : Known G} {Q U : X → Known G} {R : Y → Known G} {m : Run (A G) X} {f : X → Run (A G) Y} → Does G r P m Q → Bare G W J r P m U → ((x : X) → Full r (both (both P (Q x)) (U x)) (f x) R) → Full r P (m >>= f) R
  bare_first d h l = bind d (plainly h) l

  -- ---- leaving early

  left_bound : {r : Region} {X : Type 0} (P : Known G) (Q R : X → Known G) (f : Reason (A G) → Run (A G) X) (s : S G W) (out : Outcome (A G) X) → At r P s → TypedEnd r Q out → Comes G W J s R out
      → ((why : Reason (A G)) → Full r (both (both P (reason (A G) (p G) r why)) (fair G W J why)) (f why) R) → Comes G W J s R (go_on_left out f)
  unfolding go_on_left both end
  left_bound P Q R f s (Done x t) at e c l = c
  left_bound P Q R f s (Left why t) at e c l = onward G W J s t R (f why t) c.later c.frame ((l why).by t (record { typed = e.0.0; stands = e.0.1; known = ((P.up _ _ c.later at.known, e.1), c.given); inv = c.inv }))
  left_bound P Q R f s (Stopped why t) at e c l = record { later = c.later; frame = c.frame; inv = c.inv; given = tt }

  pub catches : {r : Region} {X : Type 0} {P : Known G} {Q R : X → Known G} {m : Run (A G) X} {f : Reason (A G) → Run (A G) X} → Does G r P m Q → Full r P m R → ((why : Reason (A G)) → Full r (both (both P (reason (A G) (p G) r why)) (fair G W J why)) (f why) R) → Full r P (catching m f) R
  unfolding catching
  catches {P = P} {Q = Q} {R = R} {m = m} {f = f} d h l = record { by = λ s at. left_bound P Q R f s (m s) at (ends d s at.typed at.stands at.known) (h.by s at) l }

  left_barely : {i : FrameKind} {X : Type 0} (P : Known G) (R : X → Known G) (f : Reason (A G) → Run (A G) X) (s : S G W) (out : Outcome (A G) X) → At (Ends i) P s → Comes G W J s R out → ((why : Reason (A G)) → Bare G W J (Ends i) (both P (fair G W J why)) (f why) R) → Comes G W J s R (go_on_left out f)
  unfolding go_on_left both end
  left_barely P R f s (Done x t) at c l = c
  left_barely {i = i} P R f s (Left why t) at c l = onward G W J s t R (f why t) c.later c.frame ((l why).by t (standing_up (A G) (p G) (Ends i) s t c.later c.frame at.stands) (P.up _ _ c.later at.known, c.given) c.inv)
  left_barely P R f s (Stopped why t) at c l = record { later = c.later; frame = c.frame; inv = c.inv; given = tt }

  -- at the end of a body
  pub catches_last : {i : FrameKind} {X : Type 0} {P : Known G} {R : X → Known G} {m : Run (A G) X} {f : Reason (A G) → Run (A G) X} → Full (In i) P m R → ((why : Reason (A G)) → Bare G W J (Ends i) (both P (fair G W J why)) (f why) R) → Full (Ends i) P (catching m f) R
  unfolding catching
  catches_last {P = P} {R = R} {m = m} {f = f} h l = record { by = λ s at. left_barely P R f s (m s) at (h.by s (record { typed = at.typed; stands = at.stands; known = at.known; inv = at.inv })) l }

  -- ---- what stands around a part of a run

  -- a state with the same events, slots and input
  record Alike (t u : S G W) : Type 0 where
    pub noted : u.noted ≡ t.noted
    pub store : u.store ≡ t.store
    pub input : u.input ≡ t.input
    pub output : u.output ≡ t.output
    pub units : u.units ≡ t.units

  alike_inv : (t u : S G W) → Alike t u → Inv G W t → Inv G W u
  alike_inv t u h i = record {
    noted = subst (λ (x : Moment G W). AllInRange G W x) (sym h.noted) i.noted;
    store = subst (λ (x : Store (A G)). StoreInRange G W x) (sym h.store) i.store;
    input = subst (λ (x : List ℕ). AllByRecursion (IsByteOf) x) (sym h.input) i.input;
    output = h.output ∙ i.output ∙ ap (λ (x : Moment G W). written_before G W x) (sym h.noted);
    texts = subst (λ (x : Moment G W). Taken G W 0 x u.units) (sym h.noted) (subst (λ n. Taken G W 0 t.noted n) (sym h.units) i.texts);
  }

  like_done : {X : Type 0} (s t u : S G W) (Q : X → Known G) (x : X) → Alike t u → u.frame ≡ s.frame → Comes G W J s Q (Done x t) → Comes G W J s Q (Done x u)
  unfolding end
  like_done s t u Q x h f c = record { later = subst (λ (n : Moment G W). Later s.noted n) (sym h.noted) c.later; frame = f; inv = alike_inv t u h c.inv; given = subst (λ (n : Moment G W). (Q x).holds n) (sym h.noted) c.given }

  like_left : {X : Type 0} (s t u : S G W) (Q : X → Known G) (why : Reason (A G)) → Alike t u → u.frame ≡ s.frame → Comes G W J s Q (Left why t) → Comes G W J s Q (Left why u)
  unfolding end
  like_left s t u Q why h f c = record { later = subst (λ (n : Moment G W). Later s.noted n) (sym h.noted) c.later; frame = f; inv = alike_inv t u h c.inv; given = subst (λ (n : Moment G W). (fair G W J why).holds n) (sym h.noted) c.given }

  like_stopped : {X : Type 0} (s t u : S G W) (Q : X → Known G) (why : Stop) → Alike t u → u.frame ≡ s.frame → Comes G W J s Q (Stopped why t) → Comes G W J s Q (Stopped why u)
  unfolding end
  like_stopped s t u Q why h f c = record { later = subst (λ (n : Moment G W). Later s.noted n) (sym h.noted) c.later; frame = f; inv = alike_inv t u h c.inv; given = tt }

  done_frame : {X : Type 0} (s t : S G W) (Q : X → Known G) (x : X) → Comes G W J s Q (Done x t) → t.frame ≡ s.frame
  unfolding end
  done_frame s t Q x c = c.frame

  left_frame : {X : Type 0} (s t : S G W) (Q : X → Known G) (why : Reason (A G)) → Comes G W J s Q (Left why t) → t.frame ≡ s.frame
  unfolding end
  left_frame s t Q why c = c.frame

  stopped_frame : {X : Type 0} (s t : S G W) (Q : X → Known G) (why : Stop) → Comes G W J s Q (Stopped why t) → t.frame ≡ s.frame
  unfolding end
  stopped_frame s t Q why c = c.frame

  alike : (t u : S G W) → u.noted ≡ t.noted → u.store ≡ t.store → u.input ≡ t.input → u.output ≡ t.output → u.units ≡ t.units → Alike t u
  alike t u n st inp out units = record { noted = n; store = st; input = inp; output = out; units = units }

  again : {X : Type 0} {Q : X → Known G} (s : S G W) (entries : List (Active (A G))) (out : Outcome (A G) X) → Comes G W J s Q out → Comes G W J s Q (active_again entries out)
  unfolding active_again
  again {Q = Q} s entries (Done x t) c = like_done s t _ Q x (alike t (record t { active = entries }) refl refl refl refl refl) (done_frame s t Q x c) c
  again {Q = Q} s entries (Left why t) c = like_left s t _ Q why (alike t (record t { active = entries }) refl refl refl refl refl) (left_frame s t Q why c) c
  again {Q = Q} s entries (Stopped why t) c = like_stopped s t _ Q why (alike t (record t { active = entries }) refl refl refl refl refl) (stopped_frame s t Q why c) c

  pub scopes : {r : Region} {X : Type 0} {P : Known G} {Q : X → Known G} {m : Run (A G) X} → Full r P m Q → Full r P (scoped m) Q
  unfolding scoped
  scopes {m = m} h = record { by = λ s at. again s s.active (m s) (h.by s at) }

  reached_end : {X : Type 0} {Q : X → Known G} (s : S G W) (f : Option ℕ) (n : ℕ) (out : Outcome (A G) X) → Comes G W J s Q out → Comes G W J s Q (end_reaches f n out)
  unfolding end_reaches without
  reached_end {Q = Q} s f n (Done x t) c = like_done s t _ Q x (alike t _ refl refl refl refl refl) (done_frame s t Q x c) c
  reached_end {Q = Q} s f n (Left why t) c = like_left s t _ Q why (alike t _ refl refl refl refl refl) (left_frame s t Q why c) c
  reached_end {Q = Q} s f n (Stopped why t) c = like_stopped s t _ Q why (alike t _ refl refl refl refl refl) (stopped_frame s t Q why c) c

  pub reaches : {r : Region} {X : Type 0} {P : Known G} {Q : X → Known G} {m : Run (A G) X} (n : ℕ) → Full r P m Q → Full r P (reaching n m) Q
  unfolding reaching
  reaches {m = m} n h = record { by = λ s at. reached_end s s.frame n (m s) (h.by s at) }

  framed : {X : Type 0} {Q : X → Known G} (s : S G W) (n : Option ℕ) (out : Outcome (A G) X) → Comes G W J (record s { frame = n }) Q out → Comes G W J s Q (frame_again s.frame out)
  unfolding frame_again end
  framed s n (Done x t) c = record { later = c.later; frame = refl; inv = alike_inv t (record t { frame = s.frame }) (alike t _ refl refl refl refl refl) c.inv; given = c.given }
  framed s n (Left why t) c = record { later = c.later; frame = refl; inv = alike_inv t (record t { frame = s.frame }) (alike t _ refl refl refl refl refl) c.inv; given = c.given }
  framed s n (Stopped why t) c = record { later = c.later; frame = refl; inv = alike_inv t (record t { frame = s.frame }) (alike t _ refl refl refl refl refl) c.inv; given = tt }

  typed_in : (i : FrameKind) (n : ℕ) (P : Known G) (s : S G W) → Entails P (runs (A G) (p G) i n) → P.holds s.noted → Runs s.noted n i
  unfolding runs
  typed_in i n P s e k = e.by _ k

  pub runs_in : {r : Region} {i : FrameKind} {X : Type 0} {P : Known G} {Q : X → Known G} {m : Run (A G) X} (n : ℕ) → Entails P (runs (A G) (p G) i n) → Full (Ends i) P m Q → Full r P (in_frame n m) Q
  unfolding in_frame
  runs_in {i = i} {P = P} {m = m} n e h = record {
    by = λ s at.
        let u : S G W = record s { frame = Some n } in
        framed s (Some n) (m u) (h.by u (record { typed = at.typed; stands = (n, refl, typed_in i n P s e at.known); known = at.known; inv = alike_inv s u (alike s u refl refl refl refl refl) at.inv }));
  }

  -- ---- loops

  turns_full : {i : FrameKind} (n : ℕ) (test : Run (A G) Bool) (m : Run (A G) Unit) (P : Known G) → ((P : Known G) → Does G (In i) P test (λ c. nothing)) → ((P : Known G) → Full (In i) P test (λ c. nothing)) → ((P : Known G) → Does G (In i) P m (λ t. nothing)) → ((P : Known G) → Full (In i) P m (λ t. nothing)) → Full (In i) P (turns n test m) (λ t. nothing)
  unfolding turns
  turns_full zero test m P dt ht dm hm = plainly (bare.stops G W J StepLimit)
  turns_full (suc n) test m P dt ht dm hm = bind (dt P) (ht P) (λ c. either c (λ e. after (dm _) (hm _) (λ Q. turns_full n test m Q dt ht dm hm)) (λ e. plainly (bare.gives G W J tt trivially)))

  pub counts : {r : Region} {X : Type 0} {P : Known G} {Q : X → Known G} {f : ℕ → Run (A G) X} → ((n : ℕ) → Full r P (f n) Q) → Full r P (steps_left >>= f) Q
  unfolding ◌>>=◌ steps_left go_on
  counts l = record { by = λ s at. (l s.left).by s at }

  pub whiles : {i : FrameKind} {P : Known G} (test : Run (A G) Bool) (m : Run (A G) Unit) → ((P : Known G) → Does G (In i) P test (λ c. nothing)) → ((P : Known G) → Full (In i) P test (λ c. nothing)) → ((P : Known G) → Does G (In i) P m (λ t. nothing)) → ((P : Known G) → Full (In i) P m (λ t. nothing)) → Full (In i) P (while_form test m) (λ t. nothing)
  unfolding while_form
  whiles {P = P} test m dt ht dm hm = counts (λ n. turns_full (suc n) test m P dt ht dm hm)

  pub dos : {i : FrameKind} {P : Known G} (test : Run (A G) Bool) (m : Run (A G) Unit) → ((P : Known G) → Does G (In i) P test (λ c. nothing)) → ((P : Known G) → Full (In i) P test (λ c. nothing)) → ((P : Known G) → Does G (In i) P m (λ t. nothing)) → ((P : Known G) → Full (In i) P m (λ t. nothing)) → Full (In i) P (do_form m test) (λ t. nothing)
  unfolding do_form
  dos test m dt ht dm hm = counts (λ n. after (dm _) (hm _) (λ P. turns_full (suc n) test m P dt ht dm hm))

-- a jump may go to these statements, or to this one
abbrev pub OrTo : (ℕ → Type 0) → ℕ → ℕ → Type 0
OrTo J n t = J t ⊎ (t ≡ n)

module _ (G : Ground) (W : Text) (J : ℕ → Type 0) where
  ended_comes : (s t : S G W) (n : ℕ) → Later s.noted t.noted → t.frame ≡ s.frame → Inv G W t → Comes G W J s (λ (u : Unit {0}). nothing) (end_normally n t)
  unfolding end_normally end covering
  ended_comes s t n le f i = record { later = le; frame = f; inv = alike_inv G W J t _ (alike G W J t _ refl refl refl refl refl) i; given = tt }

  left_comes : (s t : S G W) (n : ℕ) (why : Reason (A G)) → Later s.noted t.noted → t.frame ≡ s.frame → Inv G W t → (fair G W J why).holds t.noted → Comes G W J s (λ (u : Unit {0}). nothing) (be_left n why t)
  unfolding be_left end covering
  left_comes s t n why le f i g = record { later = le; frame = f; inv = alike_inv G W J t _ (alike G W J t _ refl refl refl refl refl) i; given = g }

  chosen_comes : (s t : S G W) (Q : Unit {0} → Known G) (m k : Run (A G) Unit) (b : Bool) → (b ≡ true → Comes G W J s Q (m t)) → (b ≡ false → Comes G W J s Q (k t)) → Comes G W J s Q (choose b m k t)
  unfolding choose
  chosen_comes s t Q m k true h l = h refl
  chosen_comes s t Q m k false h l = l refl

  -- a jump that does not arrive goes on
  passing : (n : ℕ) (why : Reason (A G)) (m : Moment G W) → arrives n why ≡ false → (fair G W (OrTo J n) why).holds m → (fair G W J why).holds m
  unfolding fair arrives
  passing n (Jumped target e) m q (inl h) = h
  passing n (Jumped target e) m q (inr h) = absurd (cc (sym (eq-eqb n target (sym h)) ∙ q))
  passing n (Returned e v) m q h = h
  passing n (Threw e v) m q h = h

  covered_comes : {Q : Unit {0} → Known G} (s : S G W) (n : ℕ) (out : Outcome (A G) Unit) → Comes G W (OrTo J n) s Q out → Comes G W J s (λ (u : Unit {0}). nothing) (cover_end n out)
  unfolding cover_end end covering
  covered_comes s n (Done u t) c = ended_comes s t n c.later c.frame c.inv
  covered_comes s n (Left why t) c = chosen_comes s t _ (end_normally n) (be_left n why) (arrives n why) (λ q. ended_comes s t n c.later c.frame c.inv) (λ q. left_comes s t n why c.later c.frame c.inv (passing n why t.noted q c.given))
  covered_comes s n (Stopped why t) c = record { later = c.later; frame = c.frame; inv = alike_inv G W J t _ (alike G W J t _ refl refl refl refl refl) c.inv; given = tt }

  started : (s : S G W) (n : ℕ) → S G W
  started s n = covering n (begun (length s.noted)) s

  from_start : {Q : Unit {0} → Known G} (s : S G W) (n : ℕ) (out : Outcome (A G) Unit) → Comes G W (OrTo J n) (started s n) Q out → Comes G W (OrTo J n) s Q out
  unfolding started covering
  from_start s n out c = record { later = c.later; frame = c.frame; inv = c.inv; given = c.given }

  start_at : {r : Region} {P : Known G} (s : S G W) (n : ℕ) → At G W J r P s → At G W (OrTo J n) r P (started s n)
  unfolding started covering
  start_at {r = r} s n at = record { typed = at.typed; stands = standing_up (A G) (p G) r s _ (λ k e h. h) refl at.stands; known = at.known; inv = alike_inv G W J s _ (alike G W J s _ refl refl refl refl refl) at.inv }

  pub covers : {r : Region} {P : Known G} {Q : Unit {0} → Known G} {m : Run (A G) Unit} (n : ℕ) → Full G W (OrTo J n) r P m Q → Full G W J r P (covered n m) (λ u. nothing)
  unfolding covered started
  covers {m = m} n h = record { by = λ s at. covered_comes s n (m (started s n)) (from_start s n (m (started s n)) (h.by (started s n) (start_at s n at))) }

  pub numbered : {r : Region} {P : Known G} {Q : Unit {0} → Known G} {m : Run (A G) Unit} (n : ℕ) → ((P : Known G) → Full G W (OrTo J n) r P m Q) → Full G W J r P (statement n m) (λ u. nothing)
  unfolding statement
  numbered n h = after G W J (ticks_typed G) (plainly G W J (bare.ticks G W J)) (λ P. reaches G W J n (covers n (h P)))

-- where jumps may go to more statements
module _ (G : Ground) (W : Text) (J K : ℕ → Type 0) (more : (t : ℕ) → J t → K t) where
  wider : (why : Reason (A G)) (m : Moment G W) → (fair G W J why).holds m → (fair G W K why).holds m
  unfolding fair
  wider (Jumped target e) m h = more target h
  wider (Returned e v) m h = h
  wider (Threw e v) m h = h

  wider_comes : {X : Type 0} {Q : X → Known G} (s : S G W) (out : Outcome (A G) X) → Comes G W J s Q out → Comes G W K s Q out
  unfolding end
  wider_comes s (Done x t) c = record { later = c.later; frame = c.frame; inv = c.inv; given = c.given }
  wider_comes s (Left why t) c = record { later = c.later; frame = c.frame; inv = c.inv; given = wider why t.noted c.given }
  wider_comes s (Stopped why t) c = record { later = c.later; frame = c.frame; inv = c.inv; given = tt }

  pub widens : {r : Region} {X : Type 0} {P : Known G} {Q : X → Known G} {m : Run (A G) X} → Full G W J r P m Q → Full G W K r P m Q
  widens {m = m} h = record { by = λ s at. wider_comes s (m s) (h.by s (record { typed = at.typed; stands = at.stands; known = at.known; inv = at.inv })) }
