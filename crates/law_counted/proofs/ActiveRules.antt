-- What each step of a run, and what is put together of such steps, does to the active entries.
use Rattle.std.proofs.Common.{◌≡◌, ℕ, zero, suc, ◌+◌, Bool, true, false, ◌<◌, ◌≤◌, List, [], ◌∷◌, length, ◌⊎◌, inl, inr, ⊎_elim, Option, Some, refl, sym, ap, ◌∙◌, subst, le_refl, arith, ne_eqb, eq-eqb, eqb-true}
use Rattle.std.proofs.lemmas.Bool.Decides.{leb_tells}
use Rattle.std.specs.Prelude.{None as Absent}
use Rattle.std.specs.Prelude.{nat_eq, nat_le, nat_lt, if◌then◌else◌}
use Rattle.wy_kernel.specs.Program.{Program}
use Rattle.wy_value.specs.declared.value.Value.{Value}
use Rattle.wy_event.specs.declared.record.Kind.{Kind}
use Rattle.wy_event.specs.declared.record.Kind.TheVariants as kind
use Rattle.wy_event.specs.declared.record.Slot.{Slot}
use Rattle.wy_event.specs.Record.{Recorded}
use Rattle.wy_steps.specs.Sets.{Sets}
use Rattle.wy_steps.specs.State.{Carried, Noted, Active, Reach, Around, State, Stop, EventLimit, UseLimit, ElementLimit, UnitLimit, OutputLimit, Unassigned, Reason, Outcome, Done, Left, Stopped, Run, go_on, ◌>>=◌, ◌>>◌, return, leave, stop, go_on_left, catching, choose}
use Rattle.wy_kernel.specs.Limits.{event_limit, use_limit, element_limit, unit_limit, output_limit}
use Rattle.wy_steps.specs.Steps.{Made, pay, tick, steps_left, frame, event_in, event_at, is_begun, read, declare, parent, control_set, Draft, next_event, made, with_event, room_for, noting, note, with_stored, writing, note_write, with_created, creating, note_new, with_active, entered, go_in, activating, active_again, scoped, ends_with, outlasting, without, end_reaches, reaching, frame_again, in_frame, with_elements, take_elements, with_units, take_units, room_for_output, write_out, take_byte, next_byte, covering, arrives, end_normally, be_left, cover_end, covered}
use Rattle.wy_meaning.specs.World.{plain, into, about}
use Rattle.wy_meaning.specs.Statement.{statement}
use Rattle.wy_meaning.specs.Run.{end}
use Rattle.law_counted.specs.Entries.{runs_body, IsAmong, AreInOrder, IsFrom, IsControlledBy}

less_or_not : (n m : ℕ) → (n < m) ⊎ (m ≤ n)
less_or_not n m = ⊎_elim (λ h. inr h.1) (λ h. inl h.1) (leb_tells m n)

-- ---- which events run a body

pub test_runs_none : (site : ℕ) (v : Value) → runs_body (plain kind.Test site v).kind ≡ false
unfolding plain runs_body
test_runs_none site v = refl

pub catch_runs_none : (site : ℕ) (x : Slot) (v : Value) → runs_body (into kind.Catch site x v).kind ≡ false
unfolding into runs_body
catch_runs_none site x v = refl

pub call_runs : (site m : ℕ) (v : Value) → runs_body (about kind.Call site m v).kind ≡ true
unfolding about runs_body
call_runs site m v = refl

pub init_runs : (site c : ℕ) (v : Value) → runs_body (about kind.Init site c v).kind ≡ true
unfolding about runs_body
init_runs site c v = refl

module _ (A : Sets) where
  -- ---- what the entries of a state are

  -- event n of the records so far is one of a body, and runs none itself
  pub record IsOwn (noted : List (Noted A)) (fr : Option ℕ) (n : ℕ) : Type 0 where
    pub event : Recorded
    pub there : event_in noted n ≡ Some event
    pub of_body : event.frame ≡ fr
    pub runs_none : runs_body event.kind ≡ false

  -- the number of an event of a body, if any, is below n
  abbrev pub IsBelow : ℕ → Option ℕ → Type 0
  IsBelow n Absent = Unit {0}
  IsBelow n (Some f) = f < n

  -- the entry is the Call or Init that runs the body
  pub record IsBody (noted : List (Noted A)) (fr : Option ℕ) (a : Active A) : Type 0 where
    pub frame : fr ≡ Some a.number
    pub around : a.reach ≡ Around
    pub event : Recorded
    pub there : event_in noted a.number ≡ Some event
    pub runs : runs_body event.kind ≡ true
    pub below : IsBelow a.number event.frame

  -- the entries above the Call or Init of the body are events of it, and those behind that stand so for the body around it
  abbrev pub Stand : List (Noted A) → Option ℕ → List (Active A) → Type 0
  Stand noted fr [] = fr ≡ Absent
  Stand noted fr (a ∷ rest) = ((b : IsBody noted fr a) × Stand noted b.event.frame rest) ⊎ (IsOwn noted fr a.number × Stand noted fr rest)

  -- what an event of that number comes from begins with itself
  abbrev pub BeginsWith : ℕ → A.set → Type 0
  BeginsWith n x = (others : A.set) × (x ≡ A.both (A.one n) others)

  -- each entry comes from what its event comes from
  abbrev pub AreMade : List (Active A) → Type 0
  AreMade [] = Unit {0}
  AreMade (a ∷ rest) = BeginsWith a.number a.from_all × AreMade rest

  abbrev pub Controls : List (Noted A) → Option ℕ → Option ℕ → Type 0
  Controls noted fr Absent = fr ≡ Absent
  Controls noted fr (Some c) = (fr ≡ Some c) ⊎ IsOwn noted fr c

  -- the entries that were active as an event was recorded, which comes from them, its operands and itself
  pub record IsControlled (rest : List (Noted A)) (e : Noted A) : Type 0 where
    pub control : Controls rest e.event.frame e.event.control
    pub entries : List (Active A)
    pub operands : A.set
    pub comes_from : e.from_all ≡ A.both (A.one (length rest)) (A.both operands (control_set entries))
    pub newest : e.event.control ≡ parent entries
    pub stand : Stand rest e.event.frame entries
    pub made : AreMade entries

  abbrev pub AllControlled : List (Noted A) → Type 0
  AllControlled [] = Unit {0}
  AllControlled (e ∷ rest) = IsControlled rest e × AllControlled rest

  -- what of a state the entries hang on
  pub record Core : Type 0 where
    pub noted : List (Noted A)
    pub frame : Option ℕ
    pub active : List (Active A)

  abbrev pub core : State A → Core
  core s = record { noted = s.noted; frame = s.frame; active = s.active }

  pub record Later (before after : List (Noted A)) : Type 0 where
    pub longer : length before ≤ length after
    pub found : (n : ℕ) (e : Recorded) → event_in before n ≡ Some e → event_in after n ≡ Some e

  abbrev InOrder : Core → Type 0
  InOrder c = AreInOrder (length c.noted) c.active

  pub record Fine (c : Core) : Type 0 where
    pub stand : Stand c.noted c.frame c.active
    pub made : AreMade c.active
    pub controlled : AllControlled c.noted

  -- after a part of a run the same entries are active es before it, in the same body
  pub record Level (c d : Core) : Type 0 where
    pub active : d.active ≡ c.active
    pub frame : d.frame ≡ c.frame
    pub later : Later c.noted d.noted
    pub fine : Fine c → Fine d
    pub under : (a : Active A) → IsAmong a c.active → InOrder c → IsControlledBy a.number (length c.noted) d.noted

  -- after a part of a run those are active that reach through no statement of N, and new ones with a reach of P
  pub record Kept (N : ℕ → Type 0) (P : Option ℕ → Reach → Type 0) (c d : Core) : Type 0 where
    pub frame : d.frame ≡ c.frame
    pub later : Later c.noted d.noted
    pub fine : Fine c → Fine d
    pub made : AreMade c.active → AreMade d.active
    pub order : InOrder c → InOrder d
    pub under : (a : Active A) → IsAmong a c.active → ((n : ℕ) → N n → ends_with c.frame n a.reach ≡ false) → InOrder c → IsControlledBy a.number (length c.noted) d.noted
    pub stays : (a : Active A) → IsAmong a c.active → ((n : ℕ) → N n → ends_with c.frame n a.reach ≡ false) → IsAmong a d.active
    pub added : (a : Active A) → IsAmong a d.active → IsAmong a c.active ⊎ ((length c.noted ≤ a.number) × P c.frame a.reach)

  -- ---- from one moment to a later one

  pub later_same : (noted : List (Noted A)) → Later noted noted
  later_same noted = record { longer = le_refl _; found = λ n e h. h }

  pub later_trans : (x y z : List (Noted A)) → Later x y → Later y z → Later x z
  later_trans x y z h k = let h1 = h.longer in let k1 = k.longer in record { longer = omega (arith, h1, k1); found = λ n e f. k.found n e (h.found n e f) }

  pub event_in_below : (noted : List (Noted A)) (n : ℕ) (e : Recorded) → event_in noted n ≡ Some e → n < length noted
  unfolding event_in
  event_in_below [] n e h = absurd (cc)
  event_in_below (x ∷ rest) n e h = here (nat_eq n (length rest)) refl h (event_in_below rest n e)
    where
      here : (b : Bool) → nat_eq n (length rest) ≡ b → (if b then Some x.event else event_in rest n) ≡ Some e → (event_in rest n ≡ Some e → n < length rest) → n < suc (length rest)
      here true is k up = let z = eqb-true n (length rest) is in omega (arith, z)
      here false is k up = let z = up k in omega (arith, z)

  pub later_one : (e : Noted A) (noted : List (Noted A)) → Later noted (e ∷ noted)
  unfolding event_in
  later_one e noted = record {
    longer = omega arith;
    found = λ n x h. let lt = event_in_below noted n x h in ap (λ b. if b then Some e.event else event_in noted n) (ne_eqb n (length noted) (λ is. omega (arith, is, lt))) ∙ h;
  }

  own_up : (x y : List (Noted A)) (fr : Option ℕ) (n : ℕ) → Later x y → IsOwn x fr n → IsOwn y fr n
  own_up x y fr n l h = record { event = h.event; there = l.found n h.event h.there; of_body = h.of_body; runs_none = h.runs_none }

  abbrev body_up : (x y : List (Noted A)) (fr : Option ℕ) (a : Active A) → Later x y → IsBody x fr a → IsBody y fr a
  body_up x y fr a l h = record { frame = h.frame; around = h.around; event = h.event; there = l.found a.number h.event h.there; runs = h.runs; below = h.below }

  stand_up : (x y : List (Noted A)) (fr : Option ℕ) (es : List (Active A)) → Later x y → Stand x fr es → Stand y fr es
  stand_up x y fr [] l h = h
  stand_up x y fr (a ∷ rest) l (inl h) = inl (body_up x y fr a l h.0, stand_up x y h.0.event.frame rest l h.1)
  stand_up x y fr (a ∷ rest) l (inr h) = inr (own_up x y fr a.number l h.0, stand_up x y fr rest l h.1)

  pub controls_up : (x y : List (Noted A)) (fr c : Option ℕ) → Later x y → Controls x fr c → Controls y fr c
  controls_up x y fr Absent l h = h
  controls_up x y fr (Some c) l (inl h) = inl h
  controls_up x y fr (Some c) l (inr h) = inr (own_up x y fr c l h)

  parent_controls : (noted : List (Noted A)) (fr : Option ℕ) (es : List (Active A)) → Stand noted fr es → Controls noted fr (parent es)
  unfolding parent
  parent_controls noted fr [] h = h
  parent_controls noted fr (a ∷ rest) (inl h) = inl h.0.frame
  parent_controls noted fr (a ∷ rest) (inr h) = inr h.0

  -- the event of the running body is among those so far
  pub frame_below : (noted : List (Noted A)) (fr : Option ℕ) (es : List (Active A)) → Stand noted fr es → IsBelow (length noted) fr
  frame_below noted fr [] h = subst (IsBelow (length noted)) (sym h) tt
  frame_below noted fr (a ∷ rest) (inl h) = subst (IsBelow (length noted)) (sym h.0.frame) (event_in_below noted a.number h.0.event h.0.there)
  frame_below noted fr (a ∷ rest) (inr h) = frame_below noted fr rest h.1

  order_up : (m n : ℕ) (es : List (Active A)) → m ≤ n → AreInOrder m es → AreInOrder n es
  order_up m n [] le h = tt
  order_up m n (a ∷ rest) le h = let lt = h.0 in (omega (arith, le, lt), h.1)

  -- ---- what is recorded meanwhile

  from_less : (j k : ℕ) (control : Option ℕ) → j ≤ k → IsFrom k control → IsFrom j control
  from_less j k (Some c) le h = omega (arith, le, h)
  from_less j k Absent le h = elim h [ ]

  pub all_below : (n : ℕ) (es : List (Active A)) (a : Active A) → AreInOrder n es → IsAmong a es → a.number < n
  all_below n [] a h i = elim i [ ]
  all_below n (b ∷ rest) a h (inl is) = subst (λ (x : Active A). x.number < n) is h.0
  all_below n (b ∷ rest) a h (inr i) = let lt = all_below b.number rest a h.1 i in let lt2 = h.0 in omega (arith, lt, lt2)

  from_parent : (n : ℕ) (es : List (Active A)) (a : Active A) → AreInOrder n es → IsAmong a es → IsFrom a.number (parent es)
  unfolding parent
  from_parent n [] a h i = elim i [ ]
  from_parent n (b ∷ rest) a h (inl is) = subst (λ (x : Active A). x.number ≤ b.number) is (le_refl _)
  from_parent n (b ∷ rest) a h (inr i) = let lt = all_below b.number rest a h.1 i in omega (arith, lt)

  record IsThere (noted : List (Noted A)) (n : ℕ) : Type 0 where
    event : Recorded
    there : event_in noted n ≡ Some event

  is_there : (noted : List (Noted A)) (n : ℕ) → n < length noted → IsThere noted n
  unfolding event_in
  is_there [] n lt = absurd (omega (arith, lt))
  is_there (x ∷ rest) n lt = ⊎_elim
      (λ less. let k = is_there rest n less in record { event = k.event; there = ap (λ b. if b then Some x.event else event_in rest n) (ne_eqb n (length rest) (λ e. omega (arith, e, less))) ∙ k.there })
      (λ ge. record { event = x.event; there = ap (λ b. if b then Some x.event else event_in rest n) (eq-eqb n (length rest) (omega (arith, ge, lt))) })
      (less_or_not n (length rest))

  pub under_same : (k : ℕ) (noted : List (Noted A)) → IsControlledBy k (length noted) noted
  under_same k noted n e le there = let lt = event_in_below noted n e there in absurd (omega (arith, le, lt))

  under_trans : (k m : ℕ) (d e : List (Noted A)) → Later d e → IsControlledBy k m d → IsControlledBy k (length d) e → IsControlledBy k m e
  under_trans k m d e later h j n x le there = ⊎_elim
      (λ less.
      let old = is_there d n less in
      let same : old.event ≡ x = let f = later.found n old.event old.there in cc in
      subst (λ (y : Recorded). IsFrom k y.control) same (h n old.event le old.there))
      (λ ge. j n x ge there)
      (less_or_not n (length d))

  under_less : (j k m : ℕ) (noted : List (Noted A)) → j ≤ k → IsControlledBy k m noted → IsControlledBy j m noted
  under_less j k m noted le h n e from there = from_less j k e.control le (h n e from there)

  under_one : (k : ℕ) (e : Noted A) (noted : List (Noted A)) → IsFrom k e.event.control → IsControlledBy k (length noted) (e ∷ noted)
  unfolding event_in
  under_one k e noted h n x le there = here (nat_eq n (length noted)) there
    where
      here : (b : Bool) → (if b then Some e.event else event_in noted n) ≡ Some x → IsFrom k x.control
      here true is = let same : e.event ≡ x = cc in subst (λ (y : Recorded). IsFrom k y.control) same h
      here false is = under_same k noted n x le is

  -- ---- the same entries

  pub level_same : (c : Core) → Level c c
  level_same c = record { active = refl; frame = refl; later = later_same c.noted; fine = λ h. h; under = λ a i o. under_same a.number c.noted }

  pub level_order : (c d : Core) → d.active ≡ c.active → Later c.noted d.noted → InOrder c → InOrder d
  level_order c d same later o = subst (AreInOrder (length d.noted)) (sym same) (order_up (length c.noted) (length d.noted) c.active later.longer o)

  level_trans : (c d e : Core) → Level c d → Level d e → Level c e
  level_trans c d e h k = record {
    active = k.active ∙ h.active;
    frame = k.frame ∙ h.frame;
    later = later_trans c.noted d.noted e.noted h.later k.later;
    fine = λ f. k.fine (h.fine f);
    under = λ a i o. under_trans a.number (length c.noted) d.noted e.noted k.later (h.under a i o) (k.under a (subst (IsAmong a) (sym h.active) i) (level_order c d h.active h.later o));
  }

  module _ (N : ℕ → Type 0) (P : Option ℕ → Reach → Type 0) where
    pub level_kept : (c d : Core) → Level c d → Kept N P c d
    level_kept c d h = record {
      frame = h.frame;
      later = h.later;
      fine = h.fine;
      made = λ m. subst AreMade (sym h.active) m;
      order = level_order c d h.active h.later;
      under = λ a i spared o. h.under a i o;
      stays = λ a i k. subst (IsAmong a) (sym h.active) i;
      added = λ a i. inl (subst (IsAmong a) h.active i);
    }

    kept_trans : (c d e : Core) → Kept N P c d → Kept N P d e → Kept N P c e
    kept_trans c d e h k = record {
      frame = k.frame ∙ h.frame;
      later = later_trans c.noted d.noted e.noted h.later k.later;
      fine = λ f. k.fine (h.fine f);
      made = λ m. k.made (h.made m);
      order = λ o. k.order (h.order o);
      under = λ a i spared o. under_trans a.number (length c.noted) d.noted e.noted k.later (h.under a i spared o) (k.under a (h.stays a i spared) (λ n is. ap (λ f. ends_with f n a.reach) h.frame ∙ spared n is) (h.order o));
      stays = λ a i spared. k.stays a (h.stays a i spared) (λ n is. ap (λ f. ends_with f n a.reach) h.frame ∙ spared n is);
      added = λ a i. ⊎_elim (λ old. h.added a old) (λ young. let le = young.0 in let le2 = h.later.longer in inr (omega (arith, le, le2), subst (λ f. P f a.reach) h.frame young.1)) (k.added a i);
    }

  -- ---- runs

  pub record Levels {X : Type 0} (m : Run A X) : Type 0 where
    pub by : (s : State A) → Level (core s) (core (end (m s)))

  pub record Keeps (N : ℕ → Type 0) (P : Option ℕ → Reach → Type 0) {X : Type 0} (m : Run A X) : Type 0 where
    pub by : (s : State A) → Kept N P (core s) (core (end (m s)))

  pub lift : {N : ℕ → Type 0} {P : Option ℕ → Reach → Type 0} {X : Type 0} {m : Run A X} → Levels m → Keeps N P m
  lift {N = N} {P = P} {m = m} h = record { by = λ s. level_kept N P (core s) (core (end (m s))) (h.by s) }

  -- ---- putting together

  go_on_level : {X Y : Type 0} (c : Core) (o : Outcome A X) (f : X → Run A Y) → Level c (core (end o)) → ((x : X) (s : State A) → Level (core s) (core (end (f x s)))) → Level c (core (end (go_on o f)))
  unfolding go_on end
  go_on_level c (Done x s) f h k = level_trans c (core s) _ h (k x s)
  go_on_level c (Left why s) f h k = h
  go_on_level c (Stopped why s) f h k = h

  pub bind : {X Y : Type 0} {m : Run A X} {f : X → Run A Y} → Levels m → ((x : X) → Levels (f x)) → Levels (m >>= f)
  unfolding ◌>>=◌
  bind {m = m} {f = f} h k = record { by = λ s. go_on_level (core s) (m s) f (h.by s) (λ x t. (k x).by t) }

  pub after : {X Y : Type 0} {m : Run A X} {f : Run A Y} → Levels m → Levels f → Levels (m >> f)
  unfolding ◌>>◌
  after h k = bind h (λ x. k)

  module _ (N : ℕ → Type 0) (P : Option ℕ → Reach → Type 0) where
    go_on_kept : {X Y : Type 0} (c : Core) (o : Outcome A X) (f : X → Run A Y) → Kept N P c (core (end o)) → ((x : X) (s : State A) → Kept N P (core s) (core (end (f x s)))) → Kept N P c (core (end (go_on o f)))
    unfolding go_on end
    go_on_kept c (Done x s) f h k = kept_trans N P c (core s) _ h (k x s)
    go_on_kept c (Left why s) f h k = h
    go_on_kept c (Stopped why s) f h k = h

    left_kept : {X : Type 0} (c : Core) (o : Outcome A X) (f : Reason A → Run A X) → Kept N P c (core (end o)) → ((why : Reason A) → Keeps N P (f why)) → Kept N P c (core (end (go_on_left o f)))
    unfolding go_on_left end
    left_kept c (Done x s) f h k = h
    left_kept c (Left why s) f h k = kept_trans N P c (core s) _ h ((k why).by s)
    left_kept c (Stopped why s) f h k = h

  pub bind_kept : {N : ℕ → Type 0} {P : Option ℕ → Reach → Type 0} {X Y : Type 0} {m : Run A X} {f : X → Run A Y} → Keeps N P m → ((x : X) → Keeps N P (f x)) → Keeps N P (m >>= f)
  unfolding ◌>>=◌
  bind_kept {N = N} {P = P} {m = m} {f = f} h k = record { by = λ s. go_on_kept N P (core s) (m s) f (h.by s) (λ x t. (k x).by t) }

  pub after_kept : {N : ℕ → Type 0} {P : Option ℕ → Reach → Type 0} {X Y : Type 0} {m : Run A X} {f : Run A Y} → Keeps N P m → Keeps N P f → Keeps N P (m >> f)
  unfolding ◌>>◌
  after_kept h k = bind_kept h (λ x. k)

  pub kept_catching : {N : ℕ → Type 0} {P : Option ℕ → Reach → Type 0} {X : Type 0} {m : Run A X} {f : Reason A → Run A X} → Keeps N P m → ((why : Reason A) → Keeps N P (f why)) → Keeps N P (catching m f)
  unfolding catching
  kept_catching {N = N} {P = P} {m = m} {f = f} h k = record { by = λ s. left_kept N P (core s) (m s) f (h.by s) k }

  pub kept_choose : {N : ℕ → Type 0} {P : Option ℕ → Reach → Type 0} {X : Type 0} {m k : Run A X} (b : Bool) → Keeps N P m → Keeps N P k → Keeps N P (choose b m k)
  unfolding choose
  kept_choose true hm hk = hm
  kept_choose false hm hk = hk

  -- more statements may be ended, and more entries added
  pub widen : {M N : ℕ → Type 0} {P Q : Option ℕ → Reach → Type 0} {X : Type 0} {m : Run A X} → ((n : ℕ) → M n → N n) → ((f : Option ℕ) (r : Reach) → P f r → Q f r) → Keeps M P m → Keeps N Q m
  widen more farther h = record {
    by = λ s. let k = h.by s in record {
      frame = k.frame;
      later = k.later;
      fine = k.fine;
      made = k.made;
      order = k.order;
      under = λ a i spared o. k.under a i (λ n is. spared n (more n is)) o;
      stays = λ a i spared. k.stays a i (λ n is. spared n (more n is));
      added = λ a i. ⊎_elim (λ old. inl old) (λ young. inr (young.0, farther s.frame a.reach young.1)) (k.added a i);
    };
  }

  pub level_choose : {X : Type 0} {m k : Run A X} (b : Bool) → Levels m → Levels k → Levels (choose b m k)
  unfolding choose
  level_choose true hm hk = hm
  level_choose false hm hk = hk

  pub level_return : {X : Type 0} (x : X) → Levels (return x)
  unfolding return end
  level_return x = record { by = λ s. level_same _ }

  pub level_leave : {X : Type 0} (why : Reason A) → Levels {X = X} (leave why)
  unfolding leave end
  level_leave why = record { by = λ s. level_same _ }

  pub level_stop : {X : Type 0} (why : Stop) → Levels {X = X} (stop why)
  unfolding stop end
  level_stop why = record { by = λ s. level_same _ }

  pub level_unassigned : {X : Type 0} → Levels {X = X} (stop Unassigned)
  level_unassigned = level_stop Unassigned

  -- ---- steps

  pay_level : (n : ℕ) (s : State A) → Level (core s) (core (end (pay n s)))
  unfolding pay end
  pay_level zero s = level_same _
  pay_level (suc n) s = level_same _

  pub level_tick : Levels tick
  unfolding tick
  level_tick = record { by = λ s. pay_level s.left s }

  pub level_steps_left : Levels steps_left
  unfolding steps_left end
  level_steps_left = record { by = λ s. level_same _ }

  pub level_frame : Levels frame
  unfolding frame end
  level_frame = record { by = λ s. level_same _ }

  pub level_event_at : (n : ℕ) → Levels (event_at n)
  unfolding event_at end
  level_event_at n = record { by = λ s. level_same _ }

  pub level_is_begun : (c : ℕ) → Levels (is_begun c)
  unfolding is_begun end
  level_is_begun c = record { by = λ s. level_same _ }

  pub level_read : (x : Slot) → Levels (read x)
  unfolding read end
  level_read x = record { by = λ s. level_same _ }

  pub level_declare : (x : Slot) → Levels (declare x)
  unfolding declare end
  level_declare x = record { by = λ s. level_same _ }

  limited : {X : Type 0} (b : Bool) (why : Stop) (m : Run A X) (s : State A) → Level (core s) (core (end (m s))) → Level (core s) (core (end (choose b m (stop why) s)))
  unfolding choose stop end
  limited true why m s h = h
  limited false why m s h = level_same _

  pub level_take_elements : (n : ℕ) → Levels (take_elements n)
  unfolding take_elements with_elements end
  level_take_elements n = record { by = λ s. limited (nat_le (s.elements + n) element_limit) ElementLimit (with_elements n) s (level_same _) }

  pub level_take_units : (n : ℕ) → Levels (take_units n)
  unfolding take_units with_units end
  level_take_units n = record { by = λ s. limited (nat_le (s.units + n) unit_limit) UnitLimit (with_units n) s (level_same _) }

  pub level_room_for_output : (bytes : List ℕ) → Levels (room_for_output bytes)
  unfolding room_for_output return end
  level_room_for_output bytes = record { by = λ s. limited (nat_le (length s.output + length bytes) output_limit) OutputLimit (return tt) s (level_same _) }

  pub level_write_out : (bytes : List ℕ) → Levels (write_out bytes)
  unfolding write_out end
  level_write_out bytes = record { by = λ s. level_same _ }

  byte_level : (bytes : List ℕ) (s : State A) → Level (core s) (core (end (take_byte bytes s)))
  unfolding take_byte end
  byte_level [] s = level_same _
  byte_level (b ∷ rest) s = level_same _

  pub level_next_byte : Levels next_byte
  unfolding next_byte
  level_next_byte = record { by = λ s. byte_level s.input s }

  -- ---- events

  -- one event of the running body was recorded, of that kind
  pub record IsNext (k : Kind) (s : State A) (e : Made A) (t : State A) : Type 0 where
    pub event : Noted A
    pub number : e.number ≡ length s.noted
    pub noted : t.noted ≡ event ∷ s.noted
    pub of_body : event.event.frame ≡ s.frame
    pub of_kind : event.event.kind ≡ k
    pub made : BeginsWith e.number e.from_all

  abbrev pub IfNext : Kind → State A → Outcome A (Made A) → Type 0
  IfNext k s (Done e t) = IsNext k s e t
  IfNext k s (Left why t) = t.noted ≡ s.noted
  IfNext k s (Stopped why t) = t.noted ≡ s.noted

  pub record Records (k : Kind) (m : Run A (Made A)) : Type 0 where
    pub level : Levels m
    pub next : (s : State A) → IfNext k s (m s)

  noted_level : (d : Draft) (c : Carried A) (s : State A) → Level (core s) (record { noted = next_event d c s ∷ s.noted; frame = s.frame; active = s.active })
  unfolding next_event
  noted_level d c s = record {
    active = refl;
    frame = refl;
    later = later_one (next_event d c s) s.noted;
    fine = λ f. record {
      stand = stand_up s.noted _ s.frame s.active (later_one (next_event d c s) s.noted) f.stand;
      made = f.made;
      controlled = (
        record {
          control = parent_controls s.noted s.frame s.active f.stand;
          entries = s.active;
          operands = c.from_all;
          comes_from = refl;
          newest = refl;
          stand = f.stand;
          made = f.made;
        },
        f.controlled,
      );
    };
    under = λ a i o. under_one a.number (next_event d c s) s.noted (from_parent (length s.noted) s.active a o i);
  }

  room_level : (c : Carried A) (m : Run A (Made A)) (s : State A) → Level (core s) (core (end (m s))) → Level (core s) (core (end (room_for c m s)))
  unfolding room_for
  room_level c m s h = limited (nat_lt (length s.noted) event_limit) EventLimit _ s (limited (nat_le (s.uses + length c.uses) use_limit) UseLimit m s h)

  next_if : (k : Kind) (b : Bool) (why : Stop) (m : Run A (Made A)) (s : State A) → IfNext k s (m s) → IfNext k s (choose b m (stop why) s)
  unfolding choose stop
  next_if k true why m s h = h
  next_if k false why m s h = refl

  room_next : (k : Kind) (c : Carried A) (m : Run A (Made A)) (s : State A) → IfNext k s (m s) → IfNext k s (room_for c m s)
  unfolding room_for
  room_next k c m s h = next_if k (nat_lt (length s.noted) event_limit) EventLimit _ s (next_if k (nat_le (s.uses + length c.uses) use_limit) UseLimit m s h)

  pub records_note : (d : Draft) (c : Carried A) → Records d.kind (note d c)
  unfolding note noting with_event end made next_event
  records_note d c = record {
    level = record { by = λ s. room_level c (noting d c) s (noted_level d c s) };
    next = λ s. room_next d.kind c (noting d c) s (record { event = next_event d c s; number = refl; noted = refl; of_body = refl; of_kind = refl; made = (_, refl) });
  }

  pub records_note_write : (d : Draft) (c : Carried A) → Records d.kind (note_write d c)
  unfolding note_write writing with_event with_stored end made next_event
  records_note_write d c = record {
    level = record { by = λ s. room_level c (writing d c) s (noted_level d c s) };
    next = λ s. room_next d.kind c (writing d c) s (record { event = next_event d c s; number = refl; noted = refl; of_body = refl; of_kind = refl; made = (_, refl) });
  }

  pub records_note_new : (p : Program) (d : Draft) (c : Carried A) → Records d.kind (note_new p d c)
  unfolding note_new creating with_event with_created end made next_event
  records_note_new p d c = record {
    level = record { by = λ s. room_level c (creating p d c) s (noted_level d c s) };
    next = λ s. room_next d.kind c (creating p d c) s (record { event = next_event d c s; number = refl; noted = refl; of_body = refl; of_kind = refl; made = (_, refl) });
  }

  pub level_note : (d : Draft) (c : Carried A) → Levels (note d c)
  level_note d c = (records_note d c).level

  pub level_note_write : (d : Draft) (c : Carried A) → Levels (note_write d c)
  level_note_write d c = (records_note_write d c).level

  pub level_note_new : (p : Program) (d : Draft) (c : Carried A) → Levels (note_new p d c)
  level_note_new p d c = (records_note_new p d c).level

  -- ---- what stands around a part of a run

  -- none of the statements may be ended
  abbrev pub NoStatement : ℕ → Type 0
  NoStatement n = ⊥

  scoped_core : (P : Option ℕ → Reach → Type 0) (s : State A) (d : Core) → Kept NoStatement P (core s) d → Level (core s) (record { noted = d.noted; frame = d.frame; active = s.active })
  scoped_core P s d h = record {
    active = refl;
    frame = h.frame;
    later = h.later;
    fine = λ f. record { stand = subst (λ fr. Stand d.noted fr s.active) (sym h.frame) (stand_up s.noted d.noted s.frame s.active h.later f.stand); made = f.made; controlled = (h.fine f).controlled };
    under = λ a i o. h.under a i (λ n is. elim is [ ]) o;
  }

  scoped_level : {X : Type 0} (P : Option ℕ → Reach → Type 0) (s : State A) (o : Outcome A X) → Kept NoStatement P (core s) (core (end o)) → Level (core s) (core (end (active_again s.active o)))
  unfolding active_again end
  scoped_level P s (Done x t) h = scoped_core P s (core t) h
  scoped_level P s (Left why t) h = scoped_core P s (core t) h
  scoped_level P s (Stopped why t) h = scoped_core P s (core t) h

  pub level_scoped : {X : Type 0} {m : Run A X} (P : Option ℕ → Reach → Type 0) → Keeps NoStatement P m → Levels (scoped m)
  unfolding scoped
  level_scoped {m = m} P h = record { by = λ s. scoped_level P s (m s) (h.by s) }

  entry_of : Reach → Made A → Active A
  entry_of reach e = record { number = e.number; from_all = e.from_all; reach = reach }

  -- the next event is in the records
  next_there : (k : Kind) (s t : State A) (e : Made A) (h : IsNext k s e t) → event_in t.noted e.number ≡ Some h.event.event
  unfolding event_in
  next_there k s t e h = ap (λ l. event_in l e.number) h.noted ∙ ap (λ b. if b then Some h.event.event else event_in s.noted e.number) (eq-eqb e.number (length s.noted) h.number)

  -- one that runs no body is one of the running body
  own_next : (k : Kind) (s t : State A) (e : Made A) → runs_body k ≡ false → IsNext k s e t → IsOwn t.noted s.frame e.number
  own_next k s t e runs h = record { event = h.event.event; there = next_there k s t e h; of_body = h.of_body; runs_none = ap runs_body h.of_kind ∙ runs }

  -- one that runs a body is the event of that body
  body_next : (k : Kind) (s t : State A) (e : Made A) → runs_body k ≡ true → IsNext k s e t → Fine (core s) → IsBody t.noted (Some e.number) (entry_of Around e)
  unfolding entry_of
  body_next k s t e runs h f = record {
    frame = refl;
    around = refl;
    event = h.event.event;
    there = next_there k s t e h;
    runs = ap runs_body h.of_kind ∙ runs;
    below = subst (λ n. IsBelow n h.event.event.frame) (sym h.number) (subst (IsBelow (length s.noted)) (sym h.of_body) (frame_below s.noted s.frame s.active f.stand));
  }

  module _ (N : ℕ → Type 0) (P : Option ℕ → Reach → Type 0) where
    go_in_kept : (k : Kind) (reach : Reach) (s : State A) (o : Outcome A (Made A)) → runs_body k ≡ false → P s.frame reach → Level (core s) (core (end o)) → IfNext k s o → Kept N P (core s) (core (end (go_in reach o)))
    unfolding go_in entered with_active end
    go_in_kept k reach s (Done e t) runs allowed h next =
        let own : IsOwn t.noted t.frame e.number = subst (λ fr. IsOwn t.noted fr e.number) (sym h.frame) (own_next k s t e runs next) in
        let up : length t.noted ≡ suc (length s.noted) = ap length next.noted in
        let at = next.number in
        record {
          frame = h.frame;
          later = h.later;
          fine = λ f. record { stand = inr (own, (h.fine f).stand); made = (next.made, (h.fine f).made); controlled = (h.fine f).controlled };
          made = λ m. (next.made, subst AreMade (sym h.active) m);
          order = λ o. (omega (arith, up, at), subst (AreInOrder e.number) (sym h.active) (subst (λ n. AreInOrder n s.active) (sym next.number) o));
          under = λ a i spared o. h.under a i o;
          stays = λ a i spared. inr (subst (IsAmong a) (sym h.active) i);
          added = λ a i. ⊎_elim
              (λ is. inr (subst (λ (b : Active A). (length s.noted ≤ b.number) × P s.frame b.reach) is (omega (arith, at), allowed)))
              (λ old. inl (subst (IsAmong a) h.active old)) i;
        }
    go_in_kept k reach s (Left why t) runs allowed h next = level_kept N P (core s) (core t) h
    go_in_kept k reach s (Stopped why t) runs allowed h next = level_kept N P (core s) (core t) h

    pub kept_activating : {k : Kind} {m : Run A (Made A)} (reach : Reach) (s : State A) → P s.frame reach → Records k m → runs_body k ≡ false → Kept N P (core s) (core (end (activating reach m s)))
    unfolding activating
    kept_activating {k = k} {m = m} reach s allowed h runs = go_in_kept k reach s (m s) runs allowed (h.level.by s) (h.next s)

    -- the running body is known
    pub with_frame : {X : Type 0} (k : Option ℕ → Run A X) → ((s : State A) → Kept N P (core s) (core (end (k s.frame s)))) → Keeps N P (frame >>= k)
    unfolding frame ◌>>=◌ go_on
    with_frame k h = record { by = h }

    pub bind_at : {X Y : Type 0} (m : Run A X) (f : X → Run A Y) (s : State A) → Kept N P (core s) (core (end (m s))) → ((x : X) → Keeps N P (f x)) → Kept N P (core s) (core (end ((m >>= f) s)))
    unfolding ◌>>=◌
    bind_at m f s h k = go_on_kept N P (core s) (m s) f h (λ x t. (k x).by t)

    -- an entry of a reach that each body allows
    pub keeps_activating : {k : Kind} {m : Run A (Made A)} (reach : Reach) → ((f : Option ℕ) → P f reach) → Records k m → runs_body k ≡ false → Keeps N P (activating reach m)
    keeps_activating reach allowed h runs = record { by = λ s. kept_activating reach s (allowed s.frame) h runs }

  -- ---- bodies

  -- a body is entered by its event, and when it has ended the entries and the body around it come back
  framed_core : (s t : State A) (fr : Option ℕ) (noted : List (Noted A)) → Level (core s) (core t) → fr ≡ t.frame → Later t.noted noted → (Fine (core s) → AllControlled noted) →
      ((a : Active A) → IsAmong a s.active → InOrder (core s) → IsControlledBy a.number (length t.noted) noted) → Level (core s) (record { noted = noted; frame = fr; active = s.active })
  framed_core s t fr noted h same later controlled under = record {
    active = refl;
    frame = same ∙ h.frame;
    later = later_trans s.noted t.noted noted h.later later;
    fine = λ f. record { stand = subst (λ fr. Stand noted fr s.active) (sym (same ∙ h.frame)) (stand_up s.noted noted s.frame s.active (later_trans s.noted t.noted noted h.later later) f.stand); made = f.made; controlled = controlled f };
    under = λ a i o. under_trans a.number (length s.noted) t.noted noted later (h.under a i o) (under a i o);
  }

  framed : {X : Type 0} (s t : State A) (fr : Option ℕ) (o : Outcome A X) → Level (core s) (core t) → fr ≡ t.frame → Later t.noted (end o).noted → (Fine (core s) → AllControlled (end o).noted) →
      ((a : Active A) → IsAmong a s.active → InOrder (core s) → IsControlledBy a.number (length t.noted) (end o).noted) → Level (core s) (core (end (active_again s.active (frame_again fr o))))
  unfolding active_again frame_again end
  framed s t fr (Done x u) h same later controlled under = framed_core s t fr u.noted h same later controlled under
  framed s t fr (Left why u) h same later controlled under = framed_core s t fr u.noted h same later controlled under
  framed s t fr (Stopped why u) h same later controlled under = framed_core s t fr u.noted h same later controlled under

  again_level : (s : State A) (d : Core) → Level (core s) d → Level (core s) (record { noted = d.noted; frame = d.frame; active = s.active })
  again_level s d h = record {
    active = refl;
    frame = h.frame;
    later = h.later;
    fine = λ f. record { stand = subst (Stand d.noted d.frame) h.active (h.fine f).stand; made = f.made; controlled = (h.fine f).controlled };
    under = h.under;
  }

  -- all that happens in a body is controlled by its event, or later ones
  in_body : (N : ℕ → Type 0) (P : Option ℕ → Reach → Type 0) (k : Kind) (s t : State A) (e : Made A) (d : Core) → Level (core s) (core t) → IsNext k s e t →
      Kept N P (record { noted = t.noted; frame = Some e.number; active = entry_of Around e ∷ t.active }) d → (a : Active A) → IsAmong a s.active → InOrder (core s) → IsControlledBy a.number (length t.noted) d.noted
  unfolding entry_of ends_with
  in_body N P k s t e d h next inner a i o =
      let up : length t.noted ≡ suc (length s.noted) = ap length next.noted in
      let at = next.number in
      let lt = all_below (length s.noted) s.active a o i in
      let order : AreInOrder e.number t.active = subst (AreInOrder e.number) (sym h.active) (subst (λ n. AreInOrder n s.active) (sym next.number) o) in
      under_less a.number e.number (length t.noted) d.noted (omega (arith, lt, at)) (inner.under (record { number = e.number; from_all = e.from_all; reach = Around }) (inl refl) (λ n is. refl) (omega (arith, up, at), order))

  -- as the body begins, its event is active before the entries that were so
  fine_body : (k : Kind) (s t : State A) (e : Made A) → runs_body k ≡ true → IsNext k s e t → Level (core s) (core t) → Fine (core s) → Fine (record { noted = t.noted; frame = Some e.number; active = entry_of Around e ∷ t.active })
  unfolding entry_of body_next
  fine_body k s t e runs next h f = record {
    stand = inl (body_next k s t e runs next f, subst (λ fr. Stand t.noted fr t.active) (h.frame ∙ sym next.of_body) (h.fine f).stand);
    made = (next.made, (h.fine f).made);
    controlled = (h.fine f).controlled;
  }

  body_level : {X : Type 0} (N : ℕ → Type 0) (P : Option ℕ → Reach → Type 0) (d : Kind) (k : Made A → Run A X) (s : State A) (o : Outcome A (Made A)) → runs_body d ≡ true → Level (core s) (core (end o)) → IfNext d s o → ((e : Made A) → Keeps N P (k e)) → Level (core s) (core (end (active_again s.active (go_on (go_in Around o) (λ e. in_frame e.number (k e))))))
  unfolding go_in entered with_active go_on in_frame end entry_of active_again
  body_level N P d k s (Done e t) runs h next keeps =
      let inner = (keeps e).by (record t { active = entry_of Around e ∷ t.active; frame = Some e.number }) in
      framed s t t.frame (k e (record t { active = entry_of Around e ∷ t.active; frame = Some e.number })) h refl inner.later
      (λ f. (inner.fine (fine_body d s t e runs next h f)).controlled)
      (in_body N P d s t e _ h next inner)
  body_level N P d k s (Left why t) runs h next keeps = again_level s (core t) h
  body_level N P d k s (Stopped why t) runs h next keeps = again_level s (core t) h

  pub level_body : {X : Type 0} {d : Kind} {m : Run A (Made A)} (N : ℕ → Type 0) (P : Option ℕ → Reach → Type 0) (k : Made A → Run A X) → Records d m → runs_body d ≡ true → ((e : Made A) → Keeps N P (k e)) → Levels (scoped (activating Around m >>= (λ e. in_frame e.number (k e))))
  unfolding scoped activating ◌>>=◌
  level_body {d = d} {m = m} N P k h runs keeps = record { by = λ s. body_level N P d k s (m s) runs (h.level.by s) (h.next s) keeps }

  -- ---- statements

  among_outlasting : (fr : Option ℕ) (n : ℕ) (a : Active A) (es : List (Active A)) → ends_with fr n a.reach ≡ false → IsAmong a es → IsAmong a (outlasting fr n es)
  unfolding outlasting
  among_outlasting fr n a [] spared i = elim i [ ]
  among_outlasting fr n a (b ∷ rest) spared i = here (ends_with fr n b.reach) refl i (among_outlasting fr n a rest spared)
    where
      here : (z : Bool) → ends_with fr n b.reach ≡ z → (b ≡ a) ⊎ IsAmong a rest → (IsAmong a rest → IsAmong a (outlasting fr n rest)) → IsAmong a (if z then outlasting fr n rest else b ∷ outlasting fr n rest)
      here true e (inl is) up = let same : ends_with fr n b.reach ≡ ends_with fr n a.reach = ap (λ (x : Active A). ends_with fr n x.reach) is in absurd (cc)
      here true e (inr old) up = up old
      here false e (inl is) up = inl is
      here false e (inr old) up = inr (up old)

  among_before : (fr : Option ℕ) (n : ℕ) (a : Active A) (es : List (Active A)) → IsAmong a (outlasting fr n es) → IsAmong a es
  unfolding outlasting
  among_before fr n a [] i = elim i [ ]
  among_before fr n a (b ∷ rest) i = here (ends_with fr n b.reach) i (among_before fr n a rest)
    where
      here : (z : Bool) → IsAmong a (if z then outlasting fr n rest else b ∷ outlasting fr n rest) → (IsAmong a (outlasting fr n rest) → IsAmong a rest) → (b ≡ a) ⊎ IsAmong a rest
      here true j up = inr (up j)
      here false (inl is) up = inl is
      here false (inr j) up = inr (up j)

  pub spared_among : (fr : Option ℕ) (n : ℕ) (a : Active A) (es : List (Active A)) → IsAmong a (outlasting fr n es) → ends_with fr n a.reach ≡ false
  unfolding outlasting
  spared_among fr n a [] i = elim i [ ]
  spared_among fr n a (b ∷ rest) i = here (ends_with fr n b.reach) refl i (spared_among fr n a rest)
    where
      here : (z : Bool) → ends_with fr n b.reach ≡ z → IsAmong a (if z then outlasting fr n rest else b ∷ outlasting fr n rest) → (IsAmong a (outlasting fr n rest) → ends_with fr n a.reach ≡ false) → ends_with fr n a.reach ≡ false
      here true e j up = up j
      here false e (inl is) up = sym (ap (λ (x : Active A). ends_with fr n x.reach) is) ∙ e
      here false e (inr j) up = up j

  stand_outlasting : (noted : List (Noted A)) (fr g : Option ℕ) (n : ℕ) (es : List (Active A)) → Stand noted fr es → Stand noted fr (outlasting g n es)
  unfolding outlasting ends_with
  stand_outlasting noted fr g n [] h = h
  stand_outlasting noted fr g n (a ∷ rest) (inl h) =
      subst (λ z. Stand noted fr (if z then outlasting g n rest else a ∷ outlasting g n rest)) (sym (ap (ends_with g n) h.0.around ∙ around g n)) (inl (h.0, stand_outlasting noted h.0.event.frame g n rest h.1))
    where
      around : (g : Option ℕ) (n : ℕ) → ends_with g n Around ≡ false
      around g n = refl
  stand_outlasting noted fr g n (a ∷ rest) (inr h) = here (ends_with g n a.reach) (stand_outlasting noted fr g n rest h.1)
    where
      here : (z : Bool) → Stand noted fr (outlasting g n rest) → Stand noted fr (if z then outlasting g n rest else a ∷ outlasting g n rest)
      here true k = k
      here false k = inr (h.0, k)

  made_outlasting : (g : Option ℕ) (n : ℕ) (es : List (Active A)) → AreMade es → AreMade (outlasting g n es)
  unfolding outlasting
  made_outlasting g n [] h = tt
  made_outlasting g n (a ∷ rest) h = here (ends_with g n a.reach) (made_outlasting g n rest h.1)
    where
      here : (z : Bool) → AreMade (outlasting g n rest) → AreMade (if z then outlasting g n rest else a ∷ outlasting g n rest)
      here true k = k
      here false k = (h.0, k)

  order_outlasting : (m : ℕ) (g : Option ℕ) (n : ℕ) (es : List (Active A)) → AreInOrder m es → AreInOrder m (outlasting g n es)
  unfolding outlasting
  order_outlasting m g n [] h = tt
  order_outlasting m g n (a ∷ rest) h = here (ends_with g n a.reach) (order_outlasting a.number g n rest h.1)
    where
      here : (z : Bool) → AreInOrder a.number (outlasting g n rest) → AreInOrder m (if z then outlasting g n rest else a ∷ outlasting g n rest)
      here true k = let lt = h.0 in order_up a.number m (outlasting g n rest) (omega (arith, lt)) k
      here false k = (h.0, k)

  module _ (N : ℕ → Type 0) (P : Option ℕ → Reach → Type 0) where
    reached : (n : ℕ) (c d : Core) → N n → Kept N P c d → Kept N P c (record { noted = d.noted; frame = d.frame; active = outlasting c.frame n d.active })
    reached n c d is h = record {
      frame = h.frame;
      later = h.later;
      fine = λ f. record { stand = stand_outlasting d.noted d.frame c.frame n d.active (h.fine f).stand; made = made_outlasting c.frame n d.active (h.fine f).made; controlled = (h.fine f).controlled };
      made = λ m. made_outlasting c.frame n d.active (h.made m);
      order = λ o. order_outlasting (length d.noted) c.frame n d.active (h.order o);
      under = h.under;
      stays = λ a i spared. among_outlasting c.frame n a d.active (spared n is) (h.stays a i spared);
      added = λ a i. h.added a (among_before c.frame n a d.active i);
    }

    ended_kept : {X : Type 0} (n : ℕ) (s : State A) (o : Outcome A X) → N n → Kept N P (core s) (core (end o)) → Kept N P (core s) (core (end (end_reaches s.frame n o)))
    unfolding end_reaches without end
    ended_kept n s (Done x t) is h = reached n (core s) (core t) is h
    ended_kept n s (Left why t) is h = reached n (core s) (core t) is h
    ended_kept n s (Stopped why t) is h = reached n (core s) (core t) is h

    arrival : (n : ℕ) (why : Reason A) (c : Core) (s : State A) (b : Bool) → Kept N P c (core s) → Kept N P c (core (end (choose b (end_normally n) (be_left n why) s)))
    unfolding choose end_normally be_left covering end
    arrival n why c s true h = h
    arrival n why c s false h = h

    cover_kept : (n : ℕ) (c : Core) (o : Outcome A Unit) → Kept N P c (core (end o)) → Kept N P c (core (end (cover_end n o)))
    unfolding cover_end end_normally covering end
    cover_kept n c (Done x s) h = h
    cover_kept n c (Left why s) h = arrival n why c s (arrives n why) h
    cover_kept n c (Stopped why s) h = h

    covered_kept : {m : Run A Unit} (n : ℕ) (s : State A) → Keeps N P m → Kept N P (core s) (core (end (covered n m s)))
    unfolding covered covering
    covered_kept {m = m} n s h = cover_kept n (core s) _ (h.by _)

    keeps_reaching : {m : Run A Unit} (n : ℕ) → N n → Keeps N P m → Keeps N P (reaching n (covered n m))
    unfolding reaching
    keeps_reaching {m = m} n is h = record { by = λ s. ended_kept n s (covered n m s) is (covered_kept n s h) }

    pub keeps_statement : {m : Run A Unit} (n : ℕ) → N n → Keeps N P m → Keeps N P (statement n m)
    unfolding statement
    keeps_statement n is h = after_kept (lift level_tick) (keeps_reaching n is h)
