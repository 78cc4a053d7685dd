-- What the end of a run has executed and crossed is what its records and covers show.
use Rattle.std.proofs.Common.{◌≡◌, ◌⊎◌, ◌<◌, ◌+◌, ◌&&◌, arith, inl, inr, ⊎_elim, ℕ, zero, suc, Bool, true, false, not, List, [], ◌∷◌, ◌++◌, length, map, Option, Some, refl, sym, ap, ◌∙◌, subst}
use Rattle.std.specs.Prelude.{None as Absent}
use Rattle.std.specs.Prelude.{◌||◌, ◌==◌, nat_eq, reverse, slice_get, if◌then◌else◌}
use Rattle.std.specs.List.{Contains, list_any}
use Rattle.std.proofs.lemmas.Bool.{eqb-true, eq-eqb}
use Rattle.std.proofs.lemmas.List.{length-map, length-reverse}
use mathlib.Core.List.{reverse-cons, map-append}
use Rattle.wy_kernel.specs.Program.{Program}
use Rattle.wy_value.specs.declared.value.Value.{Value}
use Rattle.wy_value.specs.declared.value.Value.TheVariants as val
use Rattle.wy_event.specs.declared.record.Cover.{Cover}
use Rattle.wy_event.specs.declared.record.Kind.{Kind}
use Rattle.wy_event.specs.declared.record.Kind.TheVariants as kind
use Rattle.wy_event.specs.Record.{Recorded}
use Rattle.wy_event.specs.Sources.{is_entity}
use Rattle.wy_index.specs.declared.found.Hit.{Hit}
use Rattle.wy_index.specs.Found.{gathered, one_if, is_call, is_init, is_call_of, is_init_of, is_hit, body_of, caller_in, hit_at, hits_in}
use Rattle.wy_steps.specs.Sets.{Sets}
use Rattle.wy_steps.specs.State.{Noted, State, Covered}
use Rattle.wy_steps.specs.Steps.{event_in}
use Rattle.wy_meaning.specs.Run.{covers}
use Rattle.wy_meaning.specs.Kept.{covered_of}
use Rattle.wy_static.specs.declared.point.Point.{Point}
use Rattle.wy_static.specs.declared.point.Point.TheVariants as point
use Rattle.wy_static.specs.declared.point.LinkKind.{LinkKind}
use Rattle.wy_static.specs.declared.point.LinkKind.TheVariants as link_kind
use Rattle.wy_static.specs.declared.point.Link.{Link}
use Rattle.wy_static.specs.Links.{IsLink}
use Rattle.wy_static.specs.LookUps.{method_of}
use Rattle.wy_paths.specs.Leads.{Leads}
use Rattle.wy_whynot.specs.Executed.{cover_of, cover_or_none, is_test, is_catch, is_value, gave, caught, executed, begins_at, IsCrossed, IsCrossedAs}
use Rattle.wy_paths.proofs.Chaining.{leads_on}
use Rattle.law_reached.specs.Laws.{IsReachedByCrossed, StandsOnLink}
use Rattle.law_reached.proofs.Contained.{nothing_in, in_head, in_tail, in_cases}
use Rattle.law_reached.proofs.Seen.{Happened, Shows, Begins, CallerIs, Executed, CrossedAs, Reached, at_start, onward, Stands}

-- ---- lists

some_same : {X : Type 0} {x y : X} → Some x ≡ Some y → x ≡ y
some_same e = cc e

pub got : {X : Type 0} (xs : List X) (k : ℕ) (x : X) → slice_get xs k ≡ Some x → Contains xs x
got [] k x e = absurd (cc e)
got (y ∷ xs) zero x e = subst (λ z. Contains (y ∷ xs) z) (some_same e) (in_head y xs)
got (y ∷ xs) (suc k) x e = in_tail y x xs (got xs k x e)

pub place_in : {X : Type 0} (xs : List X) (x : X) → Contains xs x → (k : ℕ) × (slice_get xs k ≡ Some x)
place_in [] x i = nothing_in x i
place_in (y ∷ xs) x i = ⊎_elim (λ (e : y ≡ x). (zero, ap Some e)) (λ (j : Contains xs x). let r = place_in xs x j in (suc r.0, r.1)) (in_cases y x xs i)

or_cases : (a b : Bool) → (a || b) ≡ true → (a ≡ true) ⊎ (b ≡ true)
or_cases true b e = inl refl
or_cases false b e = inr e

or_left : (a b : Bool) → a ≡ true → (a || b) ≡ true
or_left true b e = refl
or_left false b e = absurd (cc e)

or_right : (a b : Bool) → b ≡ true → (a || b) ≡ true
or_right true b e = refl
or_right false b e = e

and_both : (a b : Bool) → (a && b) ≡ true → (a ≡ true) × (b ≡ true)
and_both true b e = (refl, e)
and_both false b e = absurd (cc e)

both_and : (a b : Bool) → a ≡ true → b ≡ true → (a && b) ≡ true
both_and true b e f = f
both_and false b e f = absurd (cc e)

any_at : {X : Type 0} (test : X → Bool) (xs : List X) → list_any test xs ≡ true → (k : ℕ) × (x : X) × (slice_get xs k ≡ Some x) × (test x ≡ true)
any_at test [] e = absurd (cc e)
any_at test (x ∷ xs) e = ⊎_elim (λ h. (zero, x, refl, h)) (λ h. let r = any_at test xs h in (suc r.0, r.1, r.2, r.3)) (or_cases (test x) (list_any test xs) e)

any_of : {X : Type 0} (test : X → Bool) (xs : List X) (k : ℕ) (x : X) → slice_get xs k ≡ Some x → test x ≡ true → list_any test xs ≡ true
any_of test [] k x e h = absurd (cc e)
any_of test (y ∷ xs) zero x e h = or_left (test y) (list_any test xs) (ap test (some_same e) ∙ h)
any_of test (y ∷ xs) (suc k) x e h = or_right (test y) (list_any test xs) (any_of test xs k x e h)

any_append : {X : Type 0} (test : X → Bool) (xs ys : List X) → list_any test (xs ++ ys) ≡ true → (list_any test xs ≡ true) ⊎ (list_any test ys ≡ true)
any_append test [] ys e = inr e
any_append test (x ∷ xs) ys e = ⊎_elim (λ h. inl (or_left (test x) (list_any test xs) h)) (λ h. ⊎_elim (λ g. inl (or_right (test x) (list_any test xs) g)) (λ g. inr g) (any_append test xs ys h)) (or_cases (test x) (list_any test (xs ++ ys)) e)

append_left : {X : Type 0} (test : X → Bool) (xs ys : List X) → list_any test xs ≡ true → list_any test (xs ++ ys) ≡ true
append_left test [] ys e = absurd (cc e)
append_left test (x ∷ xs) ys e = ⊎_elim (λ h. or_left (test x) (list_any test (xs ++ ys)) h) (λ h. or_right (test x) (list_any test (xs ++ ys)) (append_left test xs ys h)) (or_cases (test x) (list_any test xs) e)

append_right : {X : Type 0} (test : X → Bool) (xs ys : List X) → list_any test ys ≡ true → list_any test (xs ++ ys) ≡ true
append_right test [] ys e = e
append_right test (x ∷ xs) ys e = or_right (test x) (list_any test (xs ++ ys)) (append_right test xs ys e)

any_one : {X : Type 0} (test : X → Bool) (b : Bool) (x : X) → list_any test (one_if b x) ≡ true → (b ≡ true) × (test x ≡ true)
any_one test true x e = (refl, ⊎_elim (λ h. h) (λ h. absurd (cc h)) (or_cases (test x) false e))
any_one test false x e = absurd (cc e)

one_any : {X : Type 0} (test : X → Bool) (b : Bool) (x : X) → b ≡ true → test x ≡ true → list_any test (one_if b x) ≡ true
one_any test true x e h = or_left (test x) false h
one_any test false x e h = absurd (cc e)

module _ (test : Hit → Bool) (f : ℕ → Recorded → List Hit) where
  any_gathered : (n : ℕ) (rs : List Recorded) → list_any test (gathered f n rs) ≡ true → (k : ℕ) × (r : Recorded) × (slice_get rs k ≡ Some r) × ((m : ℕ) × (list_any test (f m r) ≡ true))
  any_gathered n [] e = absurd (cc e)
  any_gathered n (r ∷ rs) e = ⊎_elim (λ h. (zero, r, refl, (n, h))) (λ h. let x = any_gathered (suc n) rs h in (suc x.0, x.1, x.2, x.3)) (any_append test (f n r) (gathered f (suc n) rs) e)

  gathered_any : (n : ℕ) (rs : List Recorded) (k : ℕ) (r : Recorded) → slice_get rs k ≡ Some r → ((m : ℕ) → list_any test (f m r) ≡ true) → list_any test (gathered f n rs) ≡ true
  gathered_any n [] k r e h = absurd (cc e)
  gathered_any n (x ∷ rs) zero r e h = append_left test (f n x) (gathered f (suc n) rs) (subst (λ z. list_any test (f n z) ≡ true) (sym (some_same e)) (h n))
  gathered_any n (x ∷ rs) (suc k) r e h = append_right test (f n x) (gathered f (suc n) rs) (gathered_any (suc n) rs k r e h)

-- ---- hits

a_call : (k : Kind) → is_call k ≡ true → k ≡ kind.Call
a_call kind.Call e = refl
a_call _ e = absurd (cc e)

an_init : (k : Kind) → is_init k ≡ true → k ≡ kind.Init
an_init kind.Init e = refl
an_init _ e = absurd (cc e)

a_test : (k : Kind) → is_test k ≡ true → k ≡ kind.Test
a_test kind.Test e = refl
a_test _ e = absurd (cc e)

a_catch : (k : Kind) → is_catch k ≡ true → k ≡ kind.Catch
a_catch kind.Catch e = refl
a_catch _ e = absurd (cc e)

entity_is : (o : Option ℕ) (m : ℕ) → is_entity o m ≡ true → o ≡ Some m
unfolding is_entity
entity_is (Some n) m e = ap Some (eqb-true n m e)
entity_is Absent m e = absurd (cc e)

is_its_entity : (o : Option ℕ) (m : ℕ) → o ≡ Some m → is_entity o m ≡ true
unfolding is_entity
is_its_entity o m e = ap (λ z. is_entity z m) e ∙ eq-eqb m m refl

value_is : (n : ℕ) (v : Value) → is_value n v ≡ true → v ≡ val.Arm n
value_is n (val.Arm m) e = ap val.Arm (sym (eqb-true n m e))
value_is n _ e = absurd (cc e)

is_its_value : (n : ℕ) (v : Value) → v ≡ val.Arm n → is_value n v ≡ true
is_its_value n v e = ap (is_value n) e ∙ eq-eqb n n refl

hit_now : (k : Kind) (s site : ℕ) → is_hit k ≡ true → s ≡ site → (is_hit k && (s == site)) ≡ true
hit_now k s site h e = both_and (is_hit k) (s == site) h (eq-eqb s site e)

module _ (rs : List Recorded) where
  arm_shown : (site v : ℕ) → list_any (gave v) (hits_in rs site) ≡ true → (k : ℕ) × (r : Recorded) × (slice_get rs k ≡ Some r) × Shows (point.Arm site v) r
  arm_shown site v e =
      let x = any_gathered (gave v) (hit_at rs site) 0 rs e in
      let y = any_one (gave v) (is_hit x.1.kind && (x.1.site == site)) _ x.3.1 in
      let z = and_both (is_hit x.1.kind) (x.1.site == site) y.0 in
      let g = and_both (is_test x.1.kind) (is_value v x.1.value) y.1 in
      (x.0, x.1, x.2, (a_test x.1.kind g.0, eqb-true x.1.site site z.1, value_is v x.1.value g.1))

  shown_arm : (site v k : ℕ) (r : Recorded) → slice_get rs k ≡ Some r → Shows (point.Arm site v) r → list_any (gave v) (hits_in rs site) ≡ true
  shown_arm site v k r e h = gathered_any (gave v) (hit_at rs site) 0 rs k r e (λ m. one_any (gave v) (is_hit r.kind && (r.site == site)) _ (hit_now r.kind r.site site (ap is_hit h.0) h.1) (both_and (is_test r.kind) (is_value v r.value) (ap is_test h.0) (is_its_value v r.value h.2)))

  catch_shown : (site : ℕ) → list_any caught (hits_in rs site) ≡ true → (k : ℕ) × (r : Recorded) × (slice_get rs k ≡ Some r) × Shows (point.Catch site) r
  catch_shown site e =
      let x = any_gathered caught (hit_at rs site) 0 rs e in
      let y = any_one caught (is_hit x.1.kind && (x.1.site == site)) _ x.3.1 in
      let z = and_both (is_hit x.1.kind) (x.1.site == site) y.0 in
      (x.0, x.1, x.2, (a_catch x.1.kind y.1, eqb-true x.1.site site z.1))

  shown_catch : (site k : ℕ) (r : Recorded) → slice_get rs k ≡ Some r → Shows (point.Catch site) r → list_any caught (hits_in rs site) ≡ true
  shown_catch site k r e h = gathered_any caught (hit_at rs site) 0 rs k r e (λ m. one_any caught (is_hit r.kind && (r.site == site)) _ (hit_now r.kind r.site site (ap is_hit h.0) h.1) (ap is_catch h.0))

-- ---- covers

covers_at : (f : ℕ → Covered) (i m n : ℕ) (c : Covered) → slice_get (covers f i m) n ≡ Some c → (n < m) × (f (i + n) ≡ c)
unfolding covers
covers_at f i zero n c e = absurd (cc e)
covers_at f i (suc m) zero c e = (omega arith, ap f (let q : i + 0 ≡ i = omega arith in q) ∙ some_same e)
covers_at f i (suc m) (suc n) c e = let h = covers_at f (suc i) m n c e in let l = h.0 in (omega (arith, l), ap f (let q : i + suc n ≡ suc i + n = omega arith in q) ∙ h.1)

at_covers : (f : ℕ → Covered) (i m n : ℕ) → n < m → slice_get (covers f i m) n ≡ Some (f (i + n))
unfolding covers
at_covers f i zero n l = absurd (omega (arith, l))
at_covers f i (suc m) zero l = ap (λ k. Some (f k)) (let q : i ≡ i + 0 = omega arith in q)
at_covers f i (suc m) (suc n) l = at_covers f (suc i) m n (omega (arith, l)) ∙ ap (λ k. Some (f k)) (let q : suc i + n ≡ i + suc n = omega arith in q)

mapped_at : {X Y : Type 0} (g : X → Y) (xs : List X) (n : ℕ) (x : X) → slice_get xs n ≡ Some x → slice_get (map g xs) n ≡ Some (g x)
mapped_at g [] n x e = absurd (cc e)
mapped_at g (y ∷ xs) zero x e = ap (λ z. Some (g z)) (some_same e)
mapped_at g (y ∷ xs) (suc n) x e = mapped_at g xs n x e

at_mapped : {X Y : Type 0} (g : X → Y) (xs : List X) (n : ℕ) (y : Y) → slice_get (map g xs) n ≡ Some y → (x : X) × (slice_get xs n ≡ Some x) × (g x ≡ y)
at_mapped g [] n y e = absurd (cc e)
at_mapped g (x ∷ xs) zero y e = (x, refl, some_same e)
at_mapped g (x ∷ xs) (suc n) y e = at_mapped g xs n y e

not_zero : (n : ℕ) → not (n == 0) ≡ true → 0 < n
not_zero zero e = absurd (cc e)
not_zero (suc n) e = omega arith

zero_not : (n : ℕ) → 0 < n → not (n == 0) ≡ true
zero_not n l = go (n == 0) refl
  where
    go : (b : Bool) → (n == 0) ≡ b → not (n == 0) ≡ true
    go true e = let q : n ≡ 0 = eqb-true n 0 e in absurd (omega (arith, l, q))
    go false e = ap not e

covered_begins : (c : Cover) → (covered_of c).begins ≡ c.begins
unfolding covered_of
covered_begins c = refl

-- ---- the end of a run

get_seam : (xs : List Recorded) (x : Recorded) → slice_get (xs ++ x ∷ []) (length xs) ≡ Some x
get_seam [] x = refl
get_seam (y ∷ xs) x = get_seam xs x

get_front : (xs : List Recorded) (x : Recorded) (n : ℕ) → (n ≡ length xs → ⊥) → slice_get (xs ++ x ∷ []) n ≡ slice_get xs n
get_front [] x zero h = absurd (h refl)
get_front [] x (suc n) h = refl
get_front (y ∷ xs) x zero h = refl
get_front (y ∷ xs) x (suc n) h = get_front xs x n (λ e. h (ap suc e))

numbered_at : (xs : List Recorded) (x : Recorded) (n : ℕ) → slice_get (xs ++ x ∷ []) n ≡ (if nat_eq n (length xs) then Some x else slice_get xs n)
numbered_at xs x n = go (nat_eq n (length xs)) refl
  where
    go : (b : Bool) → nat_eq n (length xs) ≡ b → slice_get (xs ++ x ∷ []) n ≡ (if nat_eq n (length xs) then Some x else slice_get xs n)
    go true e = ap (λ k. slice_get (xs ++ x ∷ []) k) (eqb-true n (length xs) e) ∙ get_seam xs x ∙ ap (λ b. if b then Some x else slice_get xs n) (sym e)
    go false e = get_front xs x n (λ q. cc (sym (eq-eqb n (length xs) q) ∙ e)) ∙ ap (λ b. if b then Some x else slice_get xs n) (sym e)

module _ {A : Sets} where
  abbrev pub in_order : List (Noted A) → List Recorded
  in_order noted = map (λ e. e.event) (reverse noted)

  pub event_at_is : (noted : List (Noted A)) (n : ℕ) → slice_get (in_order noted) n ≡ event_in noted n
  unfolding event_in
  event_at_is [] n = refl
  event_at_is (e ∷ rest) n =
      ap (λ xs. slice_get xs n) (ap (map (λ (x : Noted A). x.event)) (reverse-cons e rest) ∙ map-append (λ (x : Noted A). x.event) (reverse rest) (e ∷ []))
      ∙ numbered_at (map (λ (x : Noted A). x.event) (reverse rest)) e.event n
      ∙ rw (length-map (reverse rest) (λ (x : Noted A). x.event), length-reverse rest) (ap (λ o. if nat_eq n (length rest) then Some e.event else o) (event_at_is rest n))

  -- the records of a state, and covers that are those of its statements
  module _ (p : Program) (t : State A) (cs : List Cover) (are : map covered_of cs ≡ covers t.coverage 0 p.statements) where
    abbrev rs : List Recorded
    rs = in_order t.noted

    at : (k : ℕ) (e : Recorded) → event_in t.noted k ≡ Some e → slice_get rs k ≡ Some e
    at k e h = event_at_is t.noted k ∙ h

    known : (k : ℕ) (e : Recorded) → slice_get rs k ≡ Some e → event_in t.noted k ≡ Some e
    known k e h = sym (event_at_is t.noted k) ∙ h

    pub caller_is : (f : Option ℕ) (b : ℕ) → CallerIs t.noted f b → caller_in rs f ≡ b
    caller_is Absent b h = sym h
    caller_is (Some f) b h = ap body_of (at f h.0 h.1) ∙ h.2

    happened : {Q : Recorded → Type 0} (x : (k : ℕ) × (r : Recorded) × (slice_get rs k ≡ Some r) × Q r) → Happened t.noted Q
    happened x = record { number = x.0; event = x.1; there = known x.0 x.1 x.2; is = x.3 }

    began : (n : ℕ) (o : Option Cover) → slice_get cs n ≡ o → not ((cover_or_none o).begins == 0) ≡ true → Executed p t (point.Statement n)
    began n Absent e h = absurd (cc h)
    began n (Some c) e h =
        let m : slice_get (covers t.coverage 0 p.statements) n ≡ Some (covered_of c) = subst (λ xs. slice_get xs n ≡ Some (covered_of c)) are (mapped_at covered_of cs n c e) in
        let x = covers_at t.coverage 0 p.statements n (covered_of c) m in
        let same : t.coverage n ≡ covered_of c = ap t.coverage (let q : n ≡ 0 + n = omega arith in q) ∙ x.1 in
        (subst (λ k. 0 < k) (sym (ap (λ (z : Covered). z.begins) same ∙ covered_begins c)) (not_zero c.begins h), x.0)

    pub was_executed : (q : Point) → executed rs cs q ≡ true → Executed p t q
    unfolding executed
    was_executed point.Start h = tt
    was_executed (point.Entry m) h =
        let x = any_at (is_call_of m) rs h in
        let y = and_both (is_call x.1.kind) (is_entity x.1.entity m) x.3 in
        happened (x.0, x.1, x.2, (a_call x.1.kind y.0, entity_is x.1.entity m y.1))
    was_executed (point.Init c) h =
        let x = any_at (is_init_of c) rs h in
        let y = and_both (is_init x.1.kind) (is_entity x.1.entity c) x.3 in
        happened (x.0, x.1, x.2, (an_init x.1.kind y.0, entity_is x.1.entity c y.1))
    was_executed (point.Statement n) h = began n (slice_get cs n) refl h
    was_executed (point.Arm site v) h = happened (arm_shown rs site v h)
    was_executed (point.Catch site) h = happened (catch_shown rs site h)

    begun_there : (n : ℕ) → Executed p t (point.Statement n) → not ((cover_of cs n).begins == 0) ≡ true
    begun_there n h =
        let m : slice_get (map covered_of cs) n ≡ Some (t.coverage (0 + n)) = subst (λ xs. slice_get xs n ≡ Some (t.coverage (0 + n))) (sym are) (at_covers t.coverage 0 p.statements n h.1) in
        let x = at_mapped covered_of cs n (t.coverage (0 + n)) m in
        let same : t.coverage n ≡ covered_of x.0 = ap t.coverage (let q : n ≡ 0 + n = omega arith in q) ∙ sym x.2 in
        let begins : 0 < x.0.begins = subst (λ k. 0 < k) (ap (λ (z : Covered). z.begins) same ∙ covered_begins x.0) h.0 in
        ap (λ (o : Option Cover). not ((cover_or_none o).begins == 0)) x.1 ∙ zero_not x.0.begins begins

    pub is_executed : (q : Point) → Executed p t q → executed rs cs q ≡ true
    unfolding executed
    is_executed point.Start h = refl
    is_executed (point.Entry m) h = any_of (is_call_of m) rs h.number h.event (at h.number h.event h.there) (both_and (is_call h.event.kind) (is_entity h.event.entity m) (ap is_call h.is.0) (is_its_entity h.event.entity m h.is.1))
    is_executed (point.Init c) h = any_of (is_init_of c) rs h.number h.event (at h.number h.event h.there) (both_and (is_init h.event.kind) (is_entity h.event.entity c) (ap is_init h.is.0) (is_its_entity h.event.entity c h.is.1))
    is_executed (point.Statement n) h = begun_there n h
    is_executed (point.Arm site v) h = shown_arm rs site v h.number h.event (at h.number h.event h.there) h.is
    is_executed (point.Catch site) h = shown_catch rs site h.number h.event (at h.number h.event h.there) h.is

    begins_there : (q : Point) (e : Recorded) → Begins q e → begins_at q e ≡ true
    begins_there (point.Entry m) e h = both_and (is_call e.kind) (is_entity e.entity m) (ap is_call h.0) (is_its_entity e.entity m h.1)
    begins_there (point.Init c) e h = both_and (is_init e.kind) (is_entity e.entity c) (ap is_init h.0) (is_its_entity e.entity c h.1)
    begins_there point.Start e h = absurd h
    begins_there (point.Statement n) e h = absurd h
    begins_there (point.Arm site v) e h = absurd h
    begins_there (point.Catch site) e h = absurd h

    is_crossed : (k : LinkKind) (l : Link) → CrossedAs p k t l → IsCrossedAs k p rs cs l
    is_crossed link_kind.Call l h = record { event = h.event; there = got rs h.number h.event (at h.number h.event h.there); begins = begins_there l.to h.event h.begins; site = h.site; caller = caller_is h.event.frame (method_of p l.from) h.caller }
    is_crossed link_kind.Into l h = (is_executed l.from h.0, is_executed l.to h.1)
    is_crossed link_kind.Next l h = (is_executed l.from h.0, is_executed l.to h.1)
    is_crossed (link_kind.Arm v) l h = (is_executed l.from h.0, is_executed l.to h.1)
    is_crossed link_kind.Catch l h = (is_executed l.from h.0, is_executed l.to h.1)

    pub reached_by : (q : Point) → Reached p t q → IsReachedByCrossed p rs cs q
    reached_by q at_start = ([], refl)
    reached_by q (onward l r i c h e) =
        let x = reached_by l.from h in
        (x.0 ++ l ∷ [], subst (Leads (λ l. IsLink p l × IsCrossed p rs cs l) point.Start (x.0 ++ l ∷ [])) e (leads_on (λ l. IsLink p l × IsCrossed p rs cs l) point.Start x.0 l x.1 (i, is_crossed l.kind l c)))

    pub stands_there : (e : Recorded) → Stands p t e → StandsOnLink p rs cs e
    stands_there e h = record { link = h.link; is_link = h.is_link; is_call = h.is_call; begins = begins_there h.link.to e h.begins; site = h.site; caller = caller_is e.frame (method_of p h.link.from) h.caller; executed = is_executed h.link.from h.executed }
