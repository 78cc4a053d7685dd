-- What the parts of a run do to what is reached, from typed states, as rules that a goal determines.
use Rattle.std.proofs.Common.{◌≡◌, ◌<◌, arith, ℕ, zero, suc, Bool, true, false, List, ◌∷◌, length, ◌⊎◌, inl, inr, ⊎_elim, Option, Some, refl, sym, ap, ◌∙◌, subst}
use Rattle.std.specs.Prelude.{None as Absent}
use Rattle.std.specs.Prelude.{nat_eq, if◌then◌else◌}
use Rattle.std.proofs.lemmas.Bool.{eqb-true, eq-eqb}
use Rattle.wy_event.specs.declared.record.Kind.{Kind}
use Rattle.wy_event.specs.declared.record.Kind.TheVariants as kind
use Rattle.wy_event.specs.Record.{Recorded}
use Rattle.wy_index.specs.Found.{body_as, number}
use Rattle.wy_steps.specs.State.{Active, Carried, Covered, State, Stop, StepLimit, Reason, Outcome, Done, Left, Stopped, Run, go_on, ◌>>=◌, ◌>>◌, go_on_left, catching, choose}
use Rattle.wy_steps.specs.Steps.{Draft, Made, steps_left, event_in, next_event, scoped, active_again, reaching, end_reaches, without, in_frame, frame_again, covered, covering, cover_with, begun, ended, left_by, stop_cause, event_of, arrives, cover_end, end_normally, be_left}
use Rattle.wy_meaning.specs.Run.{end}
use Rattle.wy_meaning.specs.Statement.{statement, turns, while_form, do_form}
use Rattle.law_induction.specs.Law.{nothing, both, Entails, IsControl, FrameKind, OfCall, OfInit, Region, Outside, In, Ends}
use Rattle.law_induction.proofs.States as state
use Rattle.law_induction.proofs.States.{law_of, steps_of}
use Rattle.law_induction.proofs.Loops.{counted}
use Rattle.law_typed_states.specs.Typed.{Runs, running_as, IsTypedState}
use Rattle.law_typed_states.proofs.Moments.{Later, later_one, newest_there, one_of_longer}
use Rattle.law_typed_states.proofs.Law.{law, runs, reason, Standing}
use Rattle.law_typed_states.proofs.Rules.{Ground, A, p, Known, Kept, typed, Does, ticks}
use Rattle.wy_static.specs.declared.point.Point.{Point}
use Rattle.wy_static.specs.declared.point.Point.TheVariants as point
use Rattle.wy_static.specs.declared.point.LinkKind.{LinkKind}
use Rattle.wy_static.specs.declared.point.LinkKind.TheVariants as link_kind
use Rattle.wy_static.specs.declared.point.Link.{Link}
use Rattle.wy_static.specs.Standings.{initializer_number}
use Rattle.wy_static.specs.Links.{IsLink}
use Rattle.wy_static.specs.LookUps.{method_of}
use Rattle.law_reached.specs.Laws.{IsPoint}
use Rattle.law_reached.proofs.Seen.{Happened, ShownBy, BegunBy, Shows, Begins, IsCalling, CallerIs, caller_up, Grows, grows_nowhere, grows_on, Executed, Wider, executed_up, Taken, CrossedAs, Reached, onward, reached_up, Sound, Inv, inv_on}
use Rattle.law_reached.proofs.Quiet.{Quiet, Quietly, IsQuiet, Adds, q_tick, q_stop, q_return}

some_same : {X : Type 0} {x y : X} → Some x ≡ Some y → x ≡ y
some_same e = cc e

-- the number of a body
abbrev pub body_number : FrameKind → ℕ
body_number (OfCall m) = m
body_number (OfInit c) = initializer_number c

module _ (G : Ground) where
  abbrev pub S : Type 0
  S = State (A G)

  -- a typed state of a body, whose number is b, in which an executed point leads to what comes
  pub record At (r : Region) (b : ℕ) (o : Point) (P : Known G) (s : S) : Type 0 where
    pub typed : IsTypedState (p G) s
    pub stands : Standing (A G) (p G) r s
    pub known : P.holds s.noted
    pub inv : Inv (p G) s
    pub was : Executed (p G) s o
    pub caller : CallerIs s.noted s.frame b

  abbrev pub Given : {X : Type 0} → (X → Point) → Outcome (A G) X → Type 0
  Given q (Done x t) = Executed (p G) t (q x)
  Given q (Left why t) = Unit {0}
  Given q (Stopped why t) = Unit {0}

  pub record Comes {X : Type 0} (s : S) (q : X → Point) (o : Outcome (A G) X) : Type 0 where
    pub grows : Grows s (end o)
    pub inv : Inv (p G) (end o)
    pub given : Given q o

  -- from such a state a run keeps what is reached, and where it goes through the point is executed
  pub record Ours (r : Region) (b : ℕ) (o : Point) {X : Type 0} (P : Known G) (m : Run (A G) X) (q : X → Point) : Type 0 where
    pub by : (s : S) → At r b o P s → Comes s q (m s)

  wider : {s t : S} → Grows s t → Wider (p G) s t
  wider g = (g.later, g.begun)

  -- ---- what types tell

  abbrev TypedGiven : {X : Type 0} → Region → (X → Known G) → Outcome (A G) X → Type 0
  TypedGiven r Q (Done x t) = (Q x).holds t.noted
  TypedGiven r Q (Left why t) = (reason (A G) (p G) r why).holds t.noted
  TypedGiven r Q (Stopped why t) = Unit {0}

  unfoldable GivenByLaw : {X : Type 0} → Region → (X → Known G) → Outcome (A G) X → Type 0
  unfolding law
  GivenByLaw r Q o = state.Given (A G) (law (A G) (p G) G.fits) r Q o

  typed_given : {X : Type 0} (r : Region) (Q : X → Known G) (o : Outcome (A G) X) → GivenByLaw r Q o → TypedGiven r Q o
  unfolding law GivenByLaw
  typed_given r Q (Done x t) h = h
  typed_given r Q (Left why t) h = h
  typed_given r Q (Stopped why t) h = tt

  abbrev TypedEnd : {X : Type 0} → Region → (X → Known G) → Outcome (A G) X → Type 0
  TypedEnd r Q o = (IsTypedState (p G) (end o) × Standing (A G) (p G) r (end o)) × TypedGiven r Q o

  ends : {r : Region} {X : Type 0} {P : Known G} {m : Run (A G) X} {Q : X → Known G} → Does G r P m Q → (s : S) → IsTypedState (p G) s → Standing (A G) (p G) r s → P.holds s.noted → TypedEnd r Q (m s)
  unfolding Kept typed law_of counted steps_of law GivenByLaw
  ends {r = r} {m = m} {Q = Q} d s i t k = let h = (d.by.by.by s).kept tt (i, t) k in (h.0, typed_given r Q (m s) h.1)

  -- ---- putting together

  same_frame : (s t : S) (b : ℕ) → Grows s t → CallerIs s.noted s.frame b → CallerIs t.noted t.frame b
  same_frame s t b g h = subst (λ f. CallerIs t.noted f b) (sym g.frame) (caller_up s.noted t.noted s.frame b g.later h)

  bound : {r : Region} {b : ℕ} {o : Point} {X Y : Type 0} (P : Known G) (Q : X → Known G) (q : X → Point) (u : Y → Point) (f : X → Run (A G) Y) (s : S) (out : Outcome (A G) X) → At r b o P s → TypedEnd r Q out → Comes s q out
      → ((x : X) → Ours r b (q x) (both P (Q x)) (f x) u) → Comes s u (go_on out f)
  unfolding go_on both end
  bound {b = b} P Q q u f s (Done x t) at e c l =
      let n = (l x).by t (record { typed = e.0.0; stands = e.0.1; known = (P.up _ _ c.grows.later at.known, e.1); inv = c.inv; was = c.given; caller = same_frame s t b c.grows at.caller }) in
      record { grows = grows_on s t _ c.grows n.grows; inv = n.inv; given = n.given }
  bound P Q q u f s (Left why t) at e c l = record { grows = c.grows; inv = c.inv; given = tt }
  bound P Q q u f s (Stopped why t) at e c l = record { grows = c.grows; inv = c.inv; given = tt }

  pub bind : {r : Region} {b : ℕ} {o : Point} {X Y : Type 0} {P : Known G} {Q : X → Known G} {q : X → Point} {u : Y → Point} {m : Run (A G) X} {f : X → Run (A G) Y} → Does G r P m Q → Ours r b o P m q → ((x : X) → Ours r b (q x) (both P (Q x)) (f x) u) → Ours r b o P (m >>= f) u
  unfolding ◌>>=◌
  bind {P = P} {Q = Q} {q = q} {u = u} {m = m} {f = f} d h l = record { by = λ s at. bound P Q q u f s (m s) at (ends d s at.typed at.stands at.known) (h.by s at) l }

  -- one after the other
  pub after : {r : Region} {b : ℕ} {o x : Point} {Y : Type 0} {P : Known G} {u : Y → Point} {m : Run (A G) Unit} {k : Run (A G) Y} → Does G r P m (λ t. nothing) → Ours r b o P m (λ t. x) → ((P : Known G) → Ours r b x P k u) → Ours r b o P (m >> k) u
  unfolding ◌>>◌
  after d h l = bind d h (λ t. l _)

  pub weaker : {r : Region} {b : ℕ} {o : Point} {X : Type 0} {P P' : Known G} {q : X → Point} {m : Run (A G) X} → Ours r b o P m q → Entails P' P → Ours r b o P' m q
  weaker h e = record { by = λ s at. h.by s (record { typed = at.typed; stands = at.stands; known = e.by _ at.known; inv = at.inv; was = at.was; caller = at.caller }) }

  -- what is known at its beginning may be used
  pub where_at : {r : Region} {b : ℕ} {o : Point} {X : Type 0} {P : Known G} {q : X → Point} {m : Run (A G) X} → ((s : S) → At r b o P s → Ours r b o P m q) → Ours r b o P m q
  where_at f = record { by = λ s at. (f s at).by s at }

  given_still : {X : Type 0} {s : S} (o : Point) (out : Outcome (A G) X) → Executed (p G) s o → Grows s (end out) → Given (λ (x : X). o) out
  unfolding end
  given_still {s = s} o (Done x t) h g = executed_up (p G) s t o (wider g) h
  given_still o (Left why t) h g = tt
  given_still o (Stopped why t) h g = tt

  -- the point that led to it is still executed
  pub at_owner : {r : Region} {b : ℕ} {o : Point} {X : Type 0} {P : Known G} {q : X → Point} {m : Run (A G) X} → Ours r b o P m q → Ours r b o P m (λ x. o)
  at_owner {o = o} {m = m} h = record { by = λ s at. let c = h.by s at in record { grows = c.grows; inv = c.inv; given = given_still o (m s) at.was c.grows } }

  pub either : {r : Region} {b : ℕ} {o : Point} {X : Type 0} {P : Known G} {q : X → Point} {m k : Run (A G) X} (c : Bool) → (c ≡ true → Ours r b o P m q) → (c ≡ false → Ours r b o P k q) → Ours r b o P (choose c m k) q
  unfolding choose
  either true h l = h refl
  either false h l = l refl

  -- ---- quiet parts

  quiet_news : (s t : S) → Quietly s t → (q : Point) → Executed (p G) t q → Executed (p G) s q ⊎ Reached (p G) t q
  quiet_news s t h point.Start e = inl tt
  quiet_news s t h (point.Statement n) e = inl (subst (λ (f : ℕ → Covered). 0 < (f n).begins) h.coverage e.0, e.1)
  quiet_news s t h (point.Entry m) e = inl (⊎_elim (λ k. record { number = e.number; event = e.event; there = k; is = e.is }) (λ (k : IsQuiet e.event). absurd (k.plain (subst (λ x. IsControl x) (sym e.is.0) tt))) (h.news e.number e.event e.there))
  quiet_news s t h (point.Init c) e = inl (⊎_elim (λ k. record { number = e.number; event = e.event; there = k; is = e.is }) (λ (k : IsQuiet e.event). absurd (k.plain (subst (λ x. IsControl x) (sym e.is.0) tt))) (h.news e.number e.event e.there))
  quiet_news s t h (point.Arm site v) e = inl (⊎_elim (λ k. record { number = e.number; event = e.event; there = k; is = e.is }) (λ (k : IsQuiet e.event). absurd (k.plain (subst (λ x. IsControl x) (sym e.is.0) tt))) (h.news e.number e.event e.there))
  quiet_news s t h (point.Catch site) e = inl (⊎_elim (λ k. record { number = e.number; event = e.event; there = k; is = e.is }) (λ (k : IsQuiet e.event). absurd (k.plain (subst (λ x. IsControl x) (sym e.is.0) tt))) (h.news e.number e.event e.there))

  quiet_inv : (s t : S) → Quietly s t → Inv (p G) s → Inv (p G) t
  quiet_inv s t h i = inv_on (p G) s t (h.later, λ n x. subst (λ (f : ℕ → Covered). 0 < (f n).begins) (sym h.coverage) x) i (λ q x e. quiet_news s t h q e) (λ k e there. ⊎_elim (λ (o : event_in s.noted k ≡ Some e). inl o) (λ (q : IsQuiet e). inr (quiet_sound t e q)) (h.news k e there))
    where
      quiet_sound : (t : S) (e : Recorded) → IsQuiet e → Sound (p G) t e
      quiet_sound t e q = record { stands = λ c. absurd (q.plain (calls_control e.kind c)); no_text = q.no_text }
        where
          calls_control : (k : Kind) → IsCalling k → IsControl k
          calls_control kind.Call c = tt
          calls_control kind.Init c = tt
          calls_control _ c = absurd c

  quiet_grows : (s t : S) → Quietly s t → Grows s t
  quiet_grows s t h = record { later = h.later; begun = λ n x. subst (λ (f : ℕ → Covered). 0 < (f n).begins) (sym h.coverage) x; frame = h.frame }

  quiet_comes : {X : Type 0} {s : S} {o : Point} (out : Outcome (A G) X) → Executed (p G) s o → Inv (p G) s → Quietly s (end out) → Comes s (λ (x : X). o) out
  quiet_comes {X = X} {s = s} {o = o} out was i h = record { grows = quiet_grows s _ h; inv = quiet_inv s _ h i; given = given_still o out was (quiet_grows s _ h) }

  pub quiet : {r : Region} {b : ℕ} {o : Point} {X : Type 0} {P : Known G} {m : Run (A G) X} → Quiet m → Ours r b o P m (λ x. o)
  quiet {m = m} h = record { by = λ s at. quiet_comes (m s) at.was at.inv (h.by s) }

  then_quietly : {X Y : Type 0} {o : Point} {q : X → Point} (s : S) (out : Outcome (A G) X) (f : X → Run (A G) Y) → Executed (p G) s o → Comes s q out → ((x : X) → Quiet (f x)) → Comes s (λ (y : Y). o) (go_on out f)
  unfolding go_on end
  then_quietly {o = o} s (Done x t) f was c l =
      let n = quiet_comes {s = t} (f x t) (executed_up (p G) s t o (wider c.grows) was) c.inv ((l x).by t) in
      record { grows = grows_on s t _ c.grows n.grows; inv = n.inv; given = n.given }
  then_quietly s (Left why t) f was c l = record { grows = c.grows; inv = c.inv; given = tt }
  then_quietly s (Stopped why t) f was c l = record { grows = c.grows; inv = c.inv; given = tt }

  -- what comes after it executes nothing, so nothing has to be known there
  pub then_quiet : {r : Region} {b : ℕ} {o : Point} {X Y : Type 0} {P : Known G} {q : X → Point} {m : Run (A G) X} {f : X → Run (A G) Y} → Ours r b o P m q → ((x : X) → Quiet (f x)) → Ours r b o P (m >>= f) (λ y. o)
  unfolding ◌>>=◌
  then_quiet {m = m} {f = f} h l = record { by = λ s at. then_quietly s (m s) f at.was (h.by s at) l }

  pub quiet_first : {r : Region} {b : ℕ} {o : Point} {X Y : Type 0} {P : Known G} {Q : X → Known G} {u : Y → Point} {m : Run (A G) X} {f : X → Run (A G) Y} → Does G r P m Q → Quiet m → ((x : X) → Ours r b o (both P (Q x)) (f x) u) → Ours r b o P (m >>= f) u
  quiet_first d h l = bind d (quiet h) l

  -- ---- leaving early

  left_bound : {r : Region} {b : ℕ} {o : Point} {X : Type 0} {q : X → Point} (P : Known G) (Q : X → Known G) (f : Reason (A G) → Run (A G) X) (s : S) (out : Outcome (A G) X) → At r b o P s → TypedEnd r Q out → Comes s q out
      → ((why : Reason (A G)) → Ours r b o (both P (reason (A G) (p G) r why)) (f why) q) → Comes s q (go_on_left out f)
  unfolding go_on_left both end
  left_bound P Q f s (Done x t) at e c l = c
  left_bound {b = b} {o = o} P Q f s (Left why t) at e c l =
      let n = (l why).by t (record { typed = e.0.0; stands = e.0.1; known = (P.up _ _ c.grows.later at.known, e.1); inv = c.inv; was = executed_up (p G) s t o (wider c.grows) at.was; caller = same_frame s t b c.grows at.caller }) in
      record { grows = grows_on s t _ c.grows n.grows; inv = n.inv; given = n.given }
  left_bound P Q f s (Stopped why t) at e c l = record { grows = c.grows; inv = c.inv; given = tt }

  pub catches : {r : Region} {b : ℕ} {o : Point} {X : Type 0} {P : Known G} {Q : X → Known G} {q : X → Point} {m : Run (A G) X} {f : Reason (A G) → Run (A G) X} → Does G r P m Q → Ours r b o P m q → ((why : Reason (A G)) → Ours r b o (both P (reason (A G) (p G) r why)) (f why) q) → Ours r b o P (catching m f) q
  unfolding catching
  catches {P = P} {Q = Q} {m = m} {f = f} d h l = record { by = λ s at. left_bound P Q f s (m s) at (ends d s at.typed at.stands at.known) (h.by s at) l }

  left_quietly : {X : Type 0} {o : Point} {q : X → Point} (s : S) (out : Outcome (A G) X) (f : Reason (A G) → Run (A G) X) → Executed (p G) s o → Comes s q out → ((why : Reason (A G)) → Quiet (f why)) → Comes s (λ (x : X). o) (go_on_left out f)
  unfolding go_on_left end
  left_quietly {o = o} s (Done x t) f was c l = record { grows = c.grows; inv = c.inv; given = executed_up (p G) s t o (wider c.grows) was }
  left_quietly {o = o} s (Left why t) f was c l =
      let n = quiet_comes {s = t} (f why t) (executed_up (p G) s t o (wider c.grows) was) c.inv ((l why).by t) in
      record { grows = grows_on s t _ c.grows n.grows; inv = n.inv; given = n.given }
  left_quietly s (Stopped why t) f was c l = record { grows = c.grows; inv = c.inv; given = tt }

  -- at the end of a body
  pub catches_last : {i : FrameKind} {b : ℕ} {o : Point} {X : Type 0} {P : Known G} {q : X → Point} {m : Run (A G) X} {f : Reason (A G) → Run (A G) X} → Ours (In i) b o P m q → ((why : Reason (A G)) → Quiet (f why)) → Ours (Ends i) b o P (catching m f) (λ x. o)
  unfolding catching
  catches_last {m = m} {f = f} h l = record { by = λ s at. left_quietly s (m s) f at.was (h.by s (record { typed = at.typed; stands = at.stands; known = at.known; inv = at.inv; was = at.was; caller = at.caller })) l }

  -- ---- what stands around a part of a run

  -- as much is executed
  record Alike (s t : S) : Type 0 where
    pub noted : t.noted ≡ s.noted
    pub begins : (n : ℕ) → (t.coverage n).begins ≡ (s.coverage n).begins

  alike_wider : (s t : S) → Alike s t → Wider (p G) s t
  alike_wider s t h = (subst (λ n. Later s.noted n) (sym h.noted) (λ k e i. i), λ n x. subst (λ k. 0 < k) (sym (h.begins n)) x)

  alike_narrower : (s t : S) → Alike s t → Wider (p G) t s
  alike_narrower s t h = (subst (λ n. Later n s.noted) (sym h.noted) (λ k e i. i), λ n x. subst (λ k. 0 < k) (h.begins n) x)

  alike_inv : (s t : S) → Alike s t → Inv (p G) s → Inv (p G) t
  alike_inv s t h i = inv_on (p G) s t (alike_wider s t h) i (λ q x e. inl (executed_up (p G) t s q (alike_narrower s t h) e)) (λ k e there. inl (subst (λ n. event_in n k ≡ Some e) h.noted there))

  alike : (s t : S) → t.noted ≡ s.noted → ((n : ℕ) → (t.coverage n).begins ≡ (s.coverage n).begins) → Alike s t
  alike s t e f = record { noted = e; begins = f }

  -- an outcome with another end that is like it
  like : (s t u : S) → Grows s t → Alike t u → u.frame ≡ t.frame → Grows s u
  like s t u g h e = let w = alike_wider t u h in grows_on s t u g (record { later = w.0; begun = w.1; frame = e })

  again : {X : Type 0} {q : X → Point} (s : S) (entries : List (Active (A G))) (out : Outcome (A G) X) → Comes s q out → Comes s q (active_again entries out)
  unfolding active_again end
  again {q = q} s entries (Done x t) c = let h = alike t (record t { active = entries }) refl (λ n. refl) in record { grows = like s t (record t { active = entries }) c.grows h refl; inv = alike_inv t (record t { active = entries }) h c.inv; given = executed_up (p G) t (record t { active = entries }) (q x) (alike_wider t (record t { active = entries }) h) c.given }
  again s entries (Left why t) c = let h = alike t (record t { active = entries }) refl (λ n. refl) in record { grows = like s t (record t { active = entries }) c.grows h refl; inv = alike_inv t (record t { active = entries }) h c.inv; given = tt }
  again s entries (Stopped why t) c = let h = alike t (record t { active = entries }) refl (λ n. refl) in record { grows = like s t (record t { active = entries }) c.grows h refl; inv = alike_inv t (record t { active = entries }) h c.inv; given = tt }

  pub scopes : {r : Region} {b : ℕ} {o : Point} {X : Type 0} {P : Known G} {q : X → Point} {m : Run (A G) X} → Ours r b o P m q → Ours r b o P (scoped m) q
  unfolding scoped
  scopes {m = m} h = record { by = λ s at. again s s.active (m s) (h.by s at) }

  reached_end : {X : Type 0} {q : X → Point} (s : S) (f : Option ℕ) (n : ℕ) (out : Outcome (A G) X) → Comes s q out → Comes s q (end_reaches f n out)
  unfolding end_reaches without end
  reached_end {q = q} s f n (Done x t) c = let h = alike t (without f n t) refl (λ n. refl) in record { grows = like s t (without f n t) c.grows h refl; inv = alike_inv t (without f n t) h c.inv; given = executed_up (p G) t (without f n t) (q x) (alike_wider t (without f n t) h) c.given }
  reached_end s f n (Left why t) c = let h = alike t (without f n t) refl (λ n. refl) in record { grows = like s t (without f n t) c.grows h refl; inv = alike_inv t (without f n t) h c.inv; given = tt }
  reached_end s f n (Stopped why t) c = let h = alike t (without f n t) refl (λ n. refl) in record { grows = like s t (without f n t) c.grows h refl; inv = alike_inv t (without f n t) h c.inv; given = tt }

  framed : {X : Type 0} {o : Point} {q : X → Point} (s : S) (n : Option ℕ) (out : Outcome (A G) X) → Executed (p G) s o → Comes (record s { frame = n }) q out → Comes s (λ (x : X). o) (frame_again s.frame out)
  unfolding frame_again end
  framed {o = o} s n (Done x t) was c = let h = alike t (record t { frame = s.frame }) refl (λ n. refl) in record { grows = record { later = c.grows.later; begun = c.grows.begun; frame = refl }; inv = alike_inv t (record t { frame = s.frame }) h c.inv; given = executed_up (p G) s (record t { frame = s.frame }) o (c.grows.later, c.grows.begun) was }
  framed s n (Left why t) was c = let h = alike t (record t { frame = s.frame }) refl (λ n. refl) in record { grows = record { later = c.grows.later; begun = c.grows.begun; frame = refl }; inv = alike_inv t (record t { frame = s.frame }) h c.inv; given = tt }
  framed s n (Stopped why t) was c = let h = alike t (record t { frame = s.frame }) refl (λ n. refl) in record { grows = record { later = c.grows.later; begun = c.grows.begun; frame = refl }; inv = alike_inv t (record t { frame = s.frame }) h c.inv; given = tt }

  -- the event runs the body of its number
  runs_number : (i : FrameKind) (k : Kind) (entity : Option ℕ) → running_as k entity ≡ Some i → body_as k (number entity) ≡ body_number i
  runs_number i kind.Call (Some m) e = ap body_number (some_same e)
  runs_number i kind.Init (Some c) e = ap body_number (some_same e)
  runs_number i kind.Call Absent e = absurd (cc e)
  runs_number i kind.Init Absent e = absurd (cc e)
  runs_number i _ entity e = absurd (cc e)

  typed_in : (i : FrameKind) (n : ℕ) (P : Known G) (s : S) → Entails P (runs (A G) (p G) i n) → P.holds s.noted → Runs s.noted n i
  unfolding runs
  typed_in i n P s e k = e.by _ k

  pub runs_in : {r : Region} {i : FrameKind} {b : ℕ} {o : Point} {X : Type 0} {P : Known G} {q : X → Point} {m : Run (A G) X} (n : ℕ) → Entails P (runs (A G) (p G) i n) → Ours (Ends i) (body_number i) o P m q → Ours r b o P (in_frame n m) (λ x. o)
  unfolding in_frame
  runs_in {i = i} {o = o} {P = P} {m = m} n e h = record {
    by = λ s at.
        let u : S = record s { frame = Some n } in
        let x = typed_in i n P s e at.known in
        let like_s = alike s u refl (λ k. refl) in
        framed s (Some n) (m u) at.was (h.by u (record { typed = at.typed; stands = (n, refl, x); known = at.known; inv = alike_inv s u like_s at.inv; was = executed_up (p G) s u o (alike_wider s u like_s) at.was; caller = (x.event, x.there, runs_number i x.event.kind x.event.entity x.runs) }));
  }

  -- ---- statements

  started : (s : S) (n : ℕ) → S
  started s n = covering n (begun (length s.noted)) s

  begins_more : (b : Bool) (old : Covered) (m : ℕ) → 0 < old.begins → 0 < (if b then begun m old else old).begins
  unfolding begun
  begins_more true old m h = omega arith
  begins_more false old m h = h

  start_wider : (s : S) (n : ℕ) → Wider (p G) s (covering n (begun (length s.noted)) s)
  unfolding covering cover_with
  start_wider s n = (λ k e h. h, λ k h. begins_more (nat_eq k n) (s.coverage k) (length s.noted) h)

  has_begun : (b : Bool) (old : Covered) (m : ℕ) → b ≡ true → 0 < (if b then begun m old else old).begins
  unfolding begun
  has_begun true old m e = omega arith
  has_begun false old m e = absurd (cc e)

  start_executed : (s : S) (n : ℕ) → n < (p G).statements → Executed (p G) (covering n (begun (length s.noted)) s) (point.Statement n)
  unfolding covering cover_with
  start_executed s n lt = (has_begun (nat_eq n n) (s.coverage n) (length s.noted) (eq-eqb n n refl), lt)

  other_begun : (b : Bool) (old : Covered) (m : ℕ) → b ≡ false → 0 < (if b then begun m old else old).begins → 0 < old.begins
  other_begun false old m e h = h
  other_begun true old m e h = absurd (cc e)

  start_news : (s : S) (n : ℕ) (q : Point) → Reached (p G) (covering n (begun (length s.noted)) s) (point.Statement n) → Executed (p G) (covering n (begun (length s.noted)) s) q → Executed (p G) s q ⊎ Reached (p G) (covering n (begun (length s.noted)) s) q
  unfolding covering cover_with
  start_news s n (point.Statement k) r e = go (nat_eq k n) refl
    where
      go : (b : Bool) → nat_eq k n ≡ b → Executed (p G) s (point.Statement k) ⊎ Reached (p G) (covering n (begun (length s.noted)) s) (point.Statement k)
      go true x = inr (subst (λ j. Reached (p G) (covering n (begun (length s.noted)) s) (point.Statement j)) (let y : k ≡ n = eqb-true k n x in sym y) r)
      go false x = inl (other_begun (nat_eq k n) (s.coverage k) (length s.noted) x e.0, e.1)
  start_news s n point.Start r e = inl e
  start_news s n (point.Entry m) r e = inl e
  start_news s n (point.Init c) r e = inl e
  start_news s n (point.Arm site v) r e = inl e
  start_news s n (point.Catch site) r e = inl e

  -- ---- ways within a body

  -- a link that is no call
  abbrev pub IsPlainLink : LinkKind → Type 0
  IsPlainLink link_kind.Call = ⊥
  IsPlainLink _ = Unit {0}

  -- from a point a link of this site leads to another: no call
  pub record Way (o q : Point) : Type 0 where
    pub link : Link
    pub is_link : IsLink (p G) link
    pub plain : IsPlainLink link.kind
    pub from : link.from ≡ o
    pub to : link.to ≡ q

  crossed_plain : (k : LinkKind) (t : S) (l : Link) → IsPlainLink k → Executed (p G) t l.from → Executed (p G) t l.to → CrossedAs (p G) k t l
  crossed_plain link_kind.Call t l h a b = absurd h
  crossed_plain link_kind.Into t l h a b = (a, b)
  crossed_plain link_kind.Next t l h a b = (a, b)
  crossed_plain (link_kind.Arm v) t l h a b = (a, b)
  crossed_plain link_kind.Catch t l h a b = (a, b)

  from_reached : (s t : S) (l : Link) → Wider (p G) s t → Inv (p G) s → IsLink (p G) l → Executed (p G) s l.from → Reached (p G) t l.from
  from_reached s t l g i is e = reached_up (p G) s t l.from g (i.reached l.from (record { link = l; is_link = is; is_end = inl refl }) e)

  by_way : (s t : S) (o q : Point) → Wider (p G) s t → Inv (p G) s → Way o q → Executed (p G) s o → Executed (p G) t q → Reached (p G) t q
  by_way s t o q g i w was now =
      let a : Executed (p G) s w.link.from = subst (λ x. Executed (p G) s x) (sym w.from) was in
      onward w.link q w.is_link (crossed_plain w.link.kind t w.link w.plain (executed_up (p G) s t w.link.from g a) (subst (λ x. Executed (p G) t x) (sym w.to) now)) (from_reached s t w.link g i w.is_link a) w.to

  -- ---- statements

  keeps_begins : (b : Bool) (f : Covered → Covered) (old : Covered) → ((x : Covered) → (f x).begins ≡ x.begins) → (if b then f old else old).begins ≡ old.begins
  keeps_begins true f old h = h old
  keeps_begins false f old h = refl

  cover_alike : (t : S) (n : ℕ) (f : Covered → Covered) → ((x : Covered) → (f x).begins ≡ x.begins) → Alike t (covering n f t)
  unfolding covering cover_with
  cover_alike t n f h = record { noted = refl; begins = λ k. keeps_begins (nat_eq k n) f (t.coverage k) h }

  cover_frame : (t : S) (n : ℕ) (f : Covered → Covered) → (covering n f t).frame ≡ t.frame
  unfolding covering
  cover_frame t n f = refl

  ended_begins : (x : Covered) → (ended x).begins ≡ x.begins
  unfolding ended
  ended_begins x = refl

  left_begins : (e : ℕ) (x : Covered) → (left_by e x).begins ≡ x.begins
  unfolding left_by
  left_begins e x = refl

  ended_comes : (s t : S) (n : ℕ) → Grows s t → Inv (p G) t → Executed (p G) s (point.Statement n) → Comes s (λ (u : Unit {0}). point.Statement n) (end_normally n t)
  unfolding end_normally end
  ended_comes s t n g i e = let h = cover_alike t n ended ended_begins in record { grows = like s t (covering n ended t) g h (cover_frame t n ended); inv = alike_inv t (covering n ended t) h i; given = executed_up (p G) t (covering n ended t) (point.Statement n) (alike_wider t (covering n ended t) h) (executed_up (p G) s t (point.Statement n) (wider g) e) }

  left_comes : (s t : S) (n : ℕ) (why : Reason (A G)) → Grows s t → Inv (p G) t → Comes s (λ (u : Unit {0}). point.Statement n) (be_left n why t)
  unfolding be_left end
  left_comes s t n why g i = let h = cover_alike t n (left_by (event_of why)) (left_begins (event_of why)) in record { grows = like s t (covering n (left_by (event_of why)) t) g h (cover_frame t n (left_by (event_of why))); inv = alike_inv t (covering n (left_by (event_of why)) t) h i; given = tt }

  chosen_comes : (s t : S) (q : Unit {0} → Point) (m k : Run (A G) Unit) (b : Bool) → Comes s q (m t) → Comes s q (k t) → Comes s q (choose b m k t)
  unfolding choose
  chosen_comes s t q m k true h l = h
  chosen_comes s t q m k false h l = l

  covered_comes : {x : Point} (s : S) (n : ℕ) (out : Outcome (A G) Unit) → Comes s (λ (u : Unit {0}). x) out → Executed (p G) s (point.Statement n) → Comes s (λ (u : Unit {0}). point.Statement n) (cover_end n out)
  unfolding cover_end end
  covered_comes s n (Done u t) c e = ended_comes s t n c.grows c.inv e
  covered_comes s n (Left why t) c e = chosen_comes s t _ (end_normally n) (be_left n why) (arrives n why) (ended_comes s t n c.grows c.inv e) (left_comes s t n why c.grows c.inv)
  covered_comes s n (Stopped why t) c e = let h = cover_alike t n (left_by (stop_cause why)) (left_begins (stop_cause why)) in record { grows = like s t (covering n (left_by (stop_cause why)) t) c.grows h (cover_frame t n (left_by (stop_cause why))); inv = alike_inv t (covering n (left_by (stop_cause why)) t) h c.inv; given = tt }

  start_frame : (s : S) (n : ℕ) → (covering n (begun (length s.noted)) s).frame ≡ s.frame
  unfolding covering
  start_frame s n = refl

  start_at : {r : Region} {b : ℕ} {o : Point} {P : Known G} (s : S) (n : ℕ) → n < (p G).statements → Way o (point.Statement n) → At r b o P s → At r b (point.Statement n) P (covering n (begun (length s.noted)) s)
  unfolding covering
  start_at {r = r} {o = o} s n lt w at = record {
    typed = at.typed;
    stands = standing r at.stands;
    known = at.known;
    inv = inv_on (p G) s _ (start_wider s n) at.inv (λ q x e. start_news s n q (by_way s _ o (point.Statement n) (start_wider s n) at.inv w at.was (start_executed s n lt)) e) (λ k e there. inl there);
    was = start_executed s n lt;
    caller = at.caller;
  }
    where
      standing : (r : Region) → Standing (A G) (p G) r s → Standing (A G) (p G) r (record s { coverage = cover_with n (begun (length s.noted)) s.coverage })
      standing Outside h = tt
      standing (In i) h = h
      standing (Ends i) h = h

  grows_start : (s t : S) (n : ℕ) → Grows (covering n (begun (length s.noted)) s) t → Grows s t
  grows_start s t n g = grows_on s _ t (record { later = (start_wider s n).0; begun = (start_wider s n).1; frame = start_frame s n }) g

  pub covers : {r : Region} {b : ℕ} {o x : Point} {P : Known G} {m : Run (A G) Unit} (n : ℕ) → n < (p G).statements → Way o (point.Statement n) → Ours r b (point.Statement n) P m (λ u. x) → Ours r b o P (covered n m) (λ u. point.Statement n)
  unfolding covered
  covers {m = m} n lt w h = record {
    by = λ s at.
        let c = covered_comes _ n (m (covering n (begun (length s.noted)) s)) (h.by _ (start_at s n lt w at)) (start_executed s n lt) in
        record { grows = grows_start s _ n c.grows; inv = c.inv; given = c.given };
  }

  pub reaches : {r : Region} {b : ℕ} {o : Point} {X : Type 0} {P : Known G} {q : X → Point} {m : Run (A G) X} (n : ℕ) → Ours r b o P m q → Ours r b o P (reaching n m) q
  unfolding reaching
  reaches {m = m} n h = record { by = λ s at. reached_end s s.frame n (m s) (h.by s at) }

  -- a statement with its number, to which a way leads
  pub numbered : {r : Region} {b : ℕ} {o x : Point} {P : Known G} {m : Run (A G) Unit} (n : ℕ) → n < (p G).statements → Way o (point.Statement n) → ((P : Known G) → Ours r b (point.Statement n) P m (λ u. x)) → Ours r b o P (statement n m) (λ u. point.Statement n)
  unfolding statement
  numbered n lt w h = after (ticks G) (quiet q_tick) (λ P. reaches n (covers n lt w (h P)))

  -- ---- loops

  pub turns_ours : {i : FrameKind} {b : ℕ} {o : Point} (n : ℕ) (test : Run (A G) Bool) (m : Run (A G) Unit) (P : Known G) → ((P : Known G) → Does G (In i) P test (λ c. nothing)) → ((P : Known G) → Ours (In i) b o P test (λ c. o)) → ((P : Known G) → Does G (In i) P m (λ t. nothing)) → ((P : Known G) → Ours (In i) b o P m (λ t. o)) → Ours (In i) b o P (turns n test m) (λ t. o)
  unfolding turns
  turns_ours zero test m P dt ht dm hm = quiet (q_stop StepLimit)
  turns_ours (suc n) test m P dt ht dm hm = bind (dt P) (ht P) (λ c. either c (λ e. after (dm _) (hm _) (λ Q. turns_ours n test m Q dt ht dm hm)) (λ e. quiet (q_return tt)))

  pub counts : {r : Region} {b : ℕ} {o : Point} {X : Type 0} {P : Known G} {u : X → Point} {f : ℕ → Run (A G) X} → ((n : ℕ) → Ours r b o P (f n) u) → Ours r b o P (steps_left >>= f) u
  unfolding ◌>>=◌ steps_left go_on
  counts l = record { by = λ s at. (l s.left).by s at }

  pub whiles : {i : FrameKind} {b : ℕ} {o : Point} {P : Known G} (test : Run (A G) Bool) (m : Run (A G) Unit) → ((P : Known G) → Does G (In i) P test (λ c. nothing)) → ((P : Known G) → Ours (In i) b o P test (λ c. o)) → ((P : Known G) → Does G (In i) P m (λ t. nothing)) → ((P : Known G) → Ours (In i) b o P m (λ t. o)) → Ours (In i) b o P (while_form test m) (λ t. o)
  unfolding while_form
  whiles {P = P} test m dt ht dm hm = counts (λ n. turns_ours (suc n) test m P dt ht dm hm)

  pub dos : {i : FrameKind} {b : ℕ} {o : Point} {P : Known G} (test : Run (A G) Bool) (m : Run (A G) Unit) → ((P : Known G) → Does G (In i) P test (λ c. nothing)) → ((P : Known G) → Ours (In i) b o P test (λ c. o)) → ((P : Known G) → Does G (In i) P m (λ t. nothing)) → ((P : Known G) → Ours (In i) b o P m (λ t. o)) → Ours (In i) b o P (do_form m test) (λ t. o)
  unfolding do_form
  dos test m dt ht dm hm = counts (λ n. after (dm _) (hm _) (λ P. turns_ours (suc n) test m P dt ht dm hm))

  -- ---- events

  abbrev Shown : Point → Draft → Type 0
  Shown q d = ShownBy q d.kind d.site d.entity d.value

  abbrev Adding : Draft → Carried (A G) → S → S → Type 0
  Adding d c s t = (t.noted ≡ next_event d c s ∷ s.noted) × (t.coverage ≡ s.coverage) × (t.frame ≡ s.frame)

  added_wider : (d : Draft) (c : Carried (A G)) (s t : S) → Adding d c s t → Wider (p G) s t
  added_wider d c s t h = (subst (λ n. Later s.noted n) (sym h.0) (later_one (next_event d c s) s.noted), λ n x. subst (λ (f : ℕ → Covered). 0 < (f n).begins) (sym h.1) x)

  shows_draft : (q : Point) (d : Draft) (c : Carried (A G)) (s : S) → Shows q (next_event d c s).event → Shown q d
  unfolding next_event
  shows_draft q d c s h = h

  draft_shows : (q : Point) (d : Draft) (c : Carried (A G)) (s : S) → Shown q d → Shows q (next_event d c s).event
  unfolding next_event
  draft_shows q d c s h = h

  newest_happened : (q : Point) (d : Draft) (c : Carried (A G)) (s t : S) → Adding d c s t → Shown q d → Happened t.noted (Shows q)
  newest_happened q d c s t h x = record { number = length s.noted; event = (next_event d c s).event; there = subst (λ n. event_in n (length s.noted) ≡ Some (next_event d c s).event) (sym h.0) (newest_there (next_event d c s) s.noted); is = draft_shows q d c s x }

  shown_executed : (q : Point) (d : Draft) (c : Carried (A G)) (s t : S) → Adding d c s t → Shown q d → Executed (p G) t q
  shown_executed point.Start d c s t h x = tt
  shown_executed (point.Statement n) d c s t h x = absurd x
  shown_executed (point.Entry m) d c s t h x = newest_happened (point.Entry m) d c s t h x
  shown_executed (point.Init k) d c s t h x = newest_happened (point.Init k) d c s t h x
  shown_executed (point.Arm site v) d c s t h x = newest_happened (point.Arm site v) d c s t h x
  shown_executed (point.Catch site) d c s t h x = newest_happened (point.Catch site) d c s t h x

  old_or_shown : (q : Point) (d : Draft) (c : Carried (A G)) (s t : S) → Adding d c s t → Happened t.noted (Shows q) → Happened s.noted (Shows q) ⊎ Shown q d
  old_or_shown q d c s t h x = ⊎_elim (λ y. inr (shows_draft q d c s (subst (Shows q) (sym y.1) x.is))) (λ y. inl (record { number = x.number; event = x.event; there = y; is = x.is }))
      (one_of_longer (next_event d c s) s.noted x.number x.event (subst (λ n. event_in n x.number ≡ Some x.event) h.0 x.there))

  added_news : (d : Draft) (c : Carried (A G)) (s t : S) → Adding d c s t → ((q : Point) → IsPoint (p G) q → Shown q d → Reached (p G) t q) → (q : Point) → IsPoint (p G) q → Executed (p G) t q → Executed (p G) s q ⊎ Reached (p G) t q
  added_news d c s t h f point.Start x e = inl tt
  added_news d c s t h f (point.Statement n) x e = inl (subst (λ (f : ℕ → Covered). 0 < (f n).begins) h.1 e.0, e.1)
  added_news d c s t h f (point.Entry m) x e = ⊎_elim (λ y. inl y) (λ y. inr (f (point.Entry m) x y)) (old_or_shown (point.Entry m) d c s t h e)
  added_news d c s t h f (point.Init k) x e = ⊎_elim (λ y. inl y) (λ y. inr (f (point.Init k) x y)) (old_or_shown (point.Init k) d c s t h e)
  added_news d c s t h f (point.Arm site v) x e = ⊎_elim (λ y. inl y) (λ y. inr (f (point.Arm site v) x y)) (old_or_shown (point.Arm site v) d c s t h e)
  added_news d c s t h f (point.Catch site) x e = ⊎_elim (λ y. inl y) (λ y. inr (f (point.Catch site) x y)) (old_or_shown (point.Catch site) d c s t h e)

  added_inv : (d : Draft) (c : Carried (A G)) (s t : S) → Adding d c s t → Inv (p G) s → ((q : Point) → IsPoint (p G) q → Shown q d → Reached (p G) t q) → Sound (p G) t (next_event d c s).event → Inv (p G) t
  added_inv d c s t h i f n = inv_on (p G) s t (added_wider d c s t h) i (added_news d c s t h f) (λ k e there. ⊎_elim (λ y. inr (subst (Sound (p G) t) y.1 n)) (λ y. inl y) (one_of_longer (next_event d c s) s.noted k e (subst (λ n. event_in n k ≡ Some e) h.0 there)))

  added_grows : (d : Draft) (c : Carried (A G)) (s t : S) → Adding d c s t → Grows s t
  added_grows d c s t h = let w = added_wider d c s t h in record { later = w.0; begun = w.1; frame = h.2 }

  -- the event of the draft shows the point, and no other point of the program, and a link leads there
  abbrev pub Crossing : LinkKind → Link → Draft → ℕ → Type 0
  Crossing link_kind.Call l d b = (d.site ≡ l.site) × BegunBy l.to d.kind d.entity × (method_of (p G) l.from ≡ b)
  Crossing _ l d b = Unit {0}

  pub record Edge (b : ℕ) (o : Point) (d : Draft) (q : Point) : Type 0 where
    pub link : Link
    pub is_link : IsLink (p G) link
    pub from : link.from ≡ o
    pub to : link.to ≡ q
    pub crossing : Crossing link.kind link d b
    pub only : (x : Point) → ShownBy x d.kind d.site d.entity d.value → x ≡ q
    pub shown : ShownBy q d.kind d.site d.entity d.value
    pub calling : IsCalling d.kind → link.kind ≡ link_kind.Call
    pub no_new : d.kind ≡ kind.New → ⊥

  -- the event's frame is that of its state
  event_frame : (d : Draft) (c : Carried (A G)) (s : S) → (next_event d c s).event.frame ≡ s.frame
  unfolding next_event
  event_frame d c s = refl

  event_begins : (l : Link) (d : Draft) (c : Carried (A G)) (s : S) → BegunBy l.to d.kind d.entity → Begins l.to (next_event d c s).event
  unfolding next_event
  event_begins l d c s h = h

  event_site : (d : Draft) (c : Carried (A G)) (s : S) → (next_event d c s).event.site ≡ d.site
  unfolding next_event
  event_site d c s = refl

  event_caller : (d : Draft) (c : Carried (A G)) (s t : S) (b k : ℕ) → Adding d c s t → CallerIs s.noted s.frame b → k ≡ b → CallerIs t.noted (next_event d c s).event.frame k
  event_caller d c s t b k h x e = subst (λ f. CallerIs t.noted f k) (sym (event_frame d c s)) (caller_up s.noted t.noted s.frame k (added_wider d c s t h).0 (subst (λ j. CallerIs s.noted s.frame j) (sym e) x))

  taken_now : (d : Draft) (c : Carried (A G)) (s t : S) (b : ℕ) (l : Link) → Adding d c s t → CallerIs s.noted s.frame b → Crossing link_kind.Call l d b → Taken (p G) t l
  taken_now d c s t b l h x g = record {
    number = length s.noted;
    event = (next_event d c s).event;
    there = subst (λ n. event_in n (length s.noted) ≡ Some (next_event d c s).event) (sym h.0) (newest_there (next_event d c s) s.noted);
    begins = event_begins l d c s g.1;
    site = event_site d c s ∙ g.0;
    caller = event_caller d c s t b (method_of (p G) l.from) h x g.2;
  }

  crossed_now : (k : LinkKind) (d : Draft) (c : Carried (A G)) (s t : S) (b : ℕ) (l : Link) → Adding d c s t → CallerIs s.noted s.frame b → Crossing k l d b → Executed (p G) t l.from → Executed (p G) t l.to → CrossedAs (p G) k t l
  crossed_now link_kind.Call d c s t b l h x g from to = taken_now d c s t b l h x g
  crossed_now link_kind.Into d c s t b l h x g from to = (from, to)
  crossed_now link_kind.Next d c s t b l h x g from to = (from, to)
  crossed_now (link_kind.Arm v) d c s t b l h x g from to = (from, to)
  crossed_now link_kind.Catch d c s t b l h x g from to = (from, to)

  event_kind : (d : Draft) (c : Carried (A G)) (s : S) → (next_event d c s).event.kind ≡ d.kind
  unfolding next_event
  event_kind d c s = refl

  edge_comes : {r : Region} {b : ℕ} {o q : Point} {P : Known G} (d : Draft) (c : Carried (A G)) (s t : S) (e : Made (A G)) → Edge b o d q → At r b o P s → Adding d c s t → Comes s (λ (e : Made (A G)). q) (Done e t)
  unfolding end
  edge_comes {b = b} {o = o} {q = q} d c s t e w at h =
      let g = added_wider d c s t h in
      let now = shown_executed q d c s t h w.shown in
      let was : Executed (p G) s w.link.from = subst (λ x. Executed (p G) s x) (sym w.from) at.was in
      let from = executed_up (p G) s t w.link.from g was in
      let to : Executed (p G) t w.link.to = subst (λ x. Executed (p G) t x) (sym w.to) now in
      let r : Reached (p G) t q = onward w.link q w.is_link (crossed_now w.link.kind d c s t b w.link h at.caller w.crossing from to) (from_reached s t w.link g at.inv w.is_link was) w.to in
      record {
        grows = added_grows d c s t h;
        inv = added_inv d c s t h at.inv (λ x i y. subst (λ z. Reached (p G) t z) (sym (w.only x y)) r) (record {
          stands = λ k. let e = w.calling (subst IsCalling (event_kind d c s) k) in let g = subst (λ z. Crossing z w.link d b) e w.crossing in record {
            link = w.link;
            is_link = w.is_link;
            is_call = e;
            begins = event_begins w.link d c s g.1;
            site = event_site d c s ∙ g.0;
            caller = event_caller d c s t b (method_of (p G) w.link.from) h at.caller g.2;
            executed = from;
          };
          no_text = λ k. w.no_new (sym (event_kind d c s) ∙ k.0);
        });
        given = now;
      }

  stopped_comes : {X : Type 0} {q : X → Point} (s t : S) (why : Stop) → t ≡ s → Inv (p G) s → Comes {X = X} s q (Stopped why t)
  unfolding end
  stopped_comes s t why e i = record { grows = subst (λ u. Grows s u) (sym e) (grows_nowhere s); inv = subst (λ u. Inv (p G) u) (sym e) i; given = tt }

  left_at_once : {X : Type 0} {q : X → Point} (s t : S) (why : Reason (A G)) → t ≡ s → Inv (p G) s → Comes {X = X} s q (Left why t)
  unfolding end
  left_at_once s t why e i = record { grows = subst (λ u. Grows s u) (sym e) (grows_nowhere s); inv = subst (λ u. Inv (p G) u) (sym e) i; given = tt }

  recorded : {r : Region} {b : ℕ} {o q : Point} {P : Known G} (d : Draft) (c : Carried (A G)) (s : S) (out : Outcome (A G) (Made (A G))) → Edge b o d q → At r b o P s → Adds d c s out → Comes s (λ (e : Made (A G)). q) out
  recorded d c s (Done e t) w at h = edge_comes d c s t e w at h
  recorded d c s (Left why t) w at h = left_at_once s t why h at.inv
  recorded d c s (Stopped why t) w at h = stopped_comes s t why h at.inv

  pub records : {r : Region} {b : ℕ} {o q : Point} {P : Known G} {m : Run (A G) (Made (A G))} (d : Draft) (c : Carried (A G)) → ((s : S) → Adds d c s (m s)) → Edge b o d q → Ours r b o P m (λ e. q)
  records {m = m} d c a w = record { by = λ s at. recorded d c s (m s) w at (a s) }

  -- an event that shows no point of the program
  pub record Apart (d : Draft) : Type 0 where
    pub none : (x : Point) → IsPoint (p G) x → ShownBy x d.kind d.site d.entity d.value → ⊥
    pub plain : IsCalling d.kind → ⊥
    pub no_new : d.kind ≡ kind.New → ⊥

  apart_comes : {r : Region} {b : ℕ} {o : Point} {P : Known G} (d : Draft) (c : Carried (A G)) (s : S) (out : Outcome (A G) (Made (A G))) → Apart d → At r b o P s → Adds d c s out → Comes s (λ (e : Made (A G)). o) out
  unfolding end
  apart_comes {o = o} d c s (Done e t) w at h = record {
    grows = added_grows d c s t h;
    inv = added_inv d c s t h at.inv (λ x i y. absurd (w.none x i y)) (record { stands = λ k. absurd (w.plain (subst IsCalling (event_kind d c s) k)); no_text = λ k. w.no_new (sym (event_kind d c s) ∙ k.0) });
    given = executed_up (p G) s t o (added_wider d c s t h) at.was;
  }
  apart_comes d c s (Left why t) w at h = left_at_once s t why h at.inv
  apart_comes d c s (Stopped why t) w at h = stopped_comes s t why h at.inv

  pub records_apart : {r : Region} {b : ℕ} {o : Point} {P : Known G} {m : Run (A G) (Made (A G))} (d : Draft) (c : Carried (A G)) → ((s : S) → Adds d c s (m s)) → Apart d → Ours r b o P m (λ e. o)
  records_apart {m = m} d c a w = record { by = λ s at. apart_comes d c s (m s) w at (a s) }
