-- Places whose parts are there: what is read, where it is, and what is set.
use Rattle.std.proofs.Common.{◌≡◌, ◌∙◌, ℕ, zero, true, false, List, [], ◌∷◌, ◌++◌, length, refl, ap, ap₂, Some, Result, Ok, Err}
use Rattle.std.specs.Prelude.{None as Absent}
use Rattle.wy_kernel.specs.declared.operator.Primitive.{Primitive}
use Rattle.wy_kernel.specs.declared.types.Base.TheVariants.{Primitive as Basic}
use Rattle.wy_kernel.specs.declared.types.Ty.{Ty}
use Rattle.wy_kernel.specs.declared.types.Ty.TheVariants.{Of}
use Rattle.wy_kernel.specs.Program.{Program, element_type, is_below}
use Rattle.wy_value.specs.declared.value.Value.{Value}
use Rattle.wy_value.specs.declared.value.Value.TheVariants.{None as Nothing, Null, Object}
use Rattle.wy_event.specs.declared.record.Kind.TheVariants as kind
use Rattle.wy_event.specs.declared.record.Slot.{Slot}
use Rattle.wy_event.specs.declared.record.Slot.TheVariants.{Field, Elem}
use Rattle.wy_event.specs.declared.record.Use.{Use}
use Rattle.wy_event.specs.declared.record.Use.TheVariants.{Place}
use Rattle.wy_steps.specs.Sets.{nothing}
use Rattle.wy_steps.specs.State.{State, Carried, Run, Unassigned, go_on, ◌>>=◌, ◌>>◌, return, choose, stop}
use Rattle.wy_steps.specs.Steps.{Made, held_of, joined, note_write, read, value_of}
use Rattle.wy_meaning.specs.World.{World, array_index, array_store, fail, into, is_null, length_of, null_pointer, object_of, type_of}
use Rattle.wy_meaning.specs.Place.{Spot, assign, check_store, checked_index, element_spot, fetch, field_spot, index_in, lacks_value, may_store, store}
use Rattle.wy_operation.specs.Around.{Ends}
use Rattle.wy_operation.specs.Operands.{Pair}
use Rattle.wy_operation.specs.Spots.{Stored, is_primitive, spot_of}
use Rattle.wy_operation.proofs.Exceptions.{fails}
use Rattle.wy_operation.proofs.Operators.{pair_is}
use Rattle.wy_operation.proofs.Runs.{answers_next, done_first}
use Rattle.wy_state.specs.Agrees.{Shape, Agrees, Comes, Onward, StepGives, itself}
use Rattle.wy_state.specs.Seen.{given, made_of, valued}
use Rattle.wy_state.specs.Steps.{value_of_slot}
use Rattle.wy_state.specs.declared.parts.Halt.{Halt}
use Rattle.wy_state.proofs.Onward.{answers_after, onward_as, onward_same, onward_then}

-- ---- what is read

module _ (p : Program) (m : Shape) (x : Slot) (v : Value) (found : Onward p m (value_of_slot x) m (return v)) where
  abbrev pub seen : Carried nothing
  seen = given v (Place x m.events ∷ [])

  read_comes : (s : State nothing) → Agrees p m s → Comes p m (return seen) (read x s)
  unfolding read return
  read_comes s a =
      let c = found.from s a in
      let value : v ≡ (held_of (s.store x)).value = cc (c.is) in
      record { state = s; agrees = a; is = rw (← a.events, value) refl }

  pub read_goes : Onward p m (read x) m (return seen)
  read_goes = record { from = read_comes; same = refl }

  module _ (parts : Carried nothing) where
    abbrev pub fetched : Carried nothing → Run nothing (Carried nothing)
    fetched c = choose (lacks_value x c.value) (stop Unassigned) (return (joined c.value parts c))

    fetch_starts : Onward p m (fetch (spot_of x parts)) m (fetched seen)
    unfolding fetch
    fetch_starts = onward_as (λ s. refl) (done_first (read x) fetched seen read_goes)

    pub fetch_goes : lacks_value x v ≡ false → Onward p m (fetch (spot_of x parts)) m (return (given v (parts.uses ++ Place x m.events ∷ [])))
    unfolding choose joined
    fetch_goes has = onward_then fetch_starts (rw has (onward_same p m _))

    pub fetch_stops : lacks_value x v ≡ true → Onward p m (fetch (spot_of x parts)) m (stop Unassigned)
    unfolding choose
    fetch_stops lacks = onward_then fetch_starts (rw lacks (onward_same p m _))

-- ---- fields and elements

-- no object: null, or what an ill-typed program could have
no_object : (w : World nothing) (site : ℕ) (operands : Carried nothing) (v : Value) → ((n : ℕ) → v ≡ Object n → ⊥) → (s : State nothing) → object_of w site operands v s ≡ fail w null_pointer site operands s
unfolding object_of
no_object w site operands (Object n) other s = absurd (other n refl)
no_object w site operands _ other s = refl

module _ (p : Program) (m : Shape) (w : World nothing) (site : ℕ) where
  -- what comes after an object that is none
  none_first : {Y : Type 0} (n : Shape) (e : Halt) (c : Carried nothing) (v : Value) (k : ℕ → Run nothing Y) (f : Run nothing Y) → ((s : State nothing) → f s ≡ (object_of w site c v >>= k) s) →
      ((i : ℕ) → v ≡ Object i → ⊥) → Ends p e m (fail w null_pointer site c) n → StepGives p (itself {X = Y}) (Err e) m f n
  unfolding ◌>>=◌
  none_first n e c v k f same none a =
      answers_after p m n (fail w null_pointer site c) itself itself k f e (λ s. same s ∙ ap (λ o. go_on o k) (no_object w site c v none s)) (fails w null_pointer site ℕ p e m n c a)

  module _ (f : ℕ) (us : List Use) where
    abbrev pub in_object : Carried nothing → ℕ → Run nothing (Spot nothing)
    in_object c n = return (spot_of (Field n f) c)

    field_is : (v : Value) (s : State nothing) → field_spot w f site (given v us) s ≡ (object_of w site (given v us) v >>= in_object (given v us)) s
    unfolding field_spot
    field_is v s = refl

    pub field_goes : (n : ℕ) (v : Value) → v ≡ Object n → Onward p m (field_spot w f site (given v us)) m (return (spot_of (Field n f) (given v us)))
    unfolding field_spot object_of ◌>>=◌ go_on return
    field_goes n v is = rw is (onward_same p m _)

    pub field_fails : (n : Shape) (e : Halt) (v : Value) → ((i : ℕ) → v ≡ Object i → ⊥) → Ends p e m (fail w null_pointer site (given v us)) n → StepGives p (itself {X = Spot nothing}) (Err e) m (field_spot w f site (given v us)) n
    field_fails n e v none a = none_first n e (given v us) v (in_object (given v us)) _ (field_is v) none a

  -- ---- elements

  module _ (array index : Value) (us : List Use) (o : Pair array index us) where
    abbrev pub at_index : ℕ → ℕ → Run nothing (Spot nothing)
    at_index n i = return (spot_of (Elem n i) (given Nothing us))

    abbrev pub by_length : ℕ → ℕ → Run nothing (Spot nothing)
    by_length n length = checked_index w site (given Nothing us) (index_in length index) >>= at_index n

    abbrev pub in_array : ℕ → Run nothing (Spot nothing)
    in_array n = length_of n >>= by_length n

    element_is : (s : State nothing) → element_spot w site o.first o.second s ≡ (object_of w site (given Nothing us) array >>= in_array) s
    unfolding element_spot
    element_is s = rw (pair_is array index us o, o.is_left, o.is_right) refl

    pub element_null : (n : Shape) (e : Halt) → ((i : ℕ) → array ≡ Object i → ⊥) → Ends p e m (fail w null_pointer site (given Nothing us)) n → StepGives p (itself {X = Spot nothing}) (Err e) m (element_spot w site o.first o.second) n
    element_null n e none a = none_first n e (given Nothing us) array in_array _ element_is none a

    module _ (k length : ℕ) (is : array ≡ Object k) (long : Onward p m (length_of k) m (return length)) where
      element_starts : Onward p m (element_spot w site o.first o.second) m (by_length k length)
      unfolding object_of ◌>>=◌ go_on return
      element_starts = onward_as element_is (rw is (done_first (length_of k) (by_length k) length long))

      pub element_goes : (i : ℕ) → index_in length index ≡ Some i → Onward p m (element_spot w site o.first o.second) m (return (spot_of (Elem k i) (given Nothing us)))
      unfolding checked_index ◌>>=◌ go_on return
      element_goes i within = onward_then element_starts (rw within (onward_same p m (at_index k i)))

      checked_out : index_in length index ≡ Absent → (s : State nothing) → by_length k length s ≡ (fail w array_index site (given Nothing us) >>= at_index k) s
      unfolding checked_index
      checked_out out s = rw out refl

      pub element_out : (n : Shape) (e : Halt) → index_in length index ≡ Absent → Ends p e m (fail w array_index site (given Nothing us)) n → StepGives p (itself {X = Spot nothing}) (Err e) m (element_spot w site o.first o.second) n
      element_out n e out a =
          answers_next p itself (Err e) m m n _ _ element_starts
          (answers_after p m n (fail w array_index site (given Nothing us)) itself itself (at_index k) _ e (checked_out out) (fails w array_index site ℕ p e m n (given Nothing us) a))

-- ---- what is set

assign_as : (site : ℕ) (spot : Spot nothing) (right : Carried nothing) (x : Slot) (v : Value) (c : Carried nothing) → spot.slot ≡ x → right.value ≡ v → joined right.value spot.parts right ≡ c →
    (s : State nothing) → assign site spot right s ≡ (note_write (into kind.Set site x v) c >>= (λ e. return (value_of e v))) s
unfolding assign
assign_as site spot right x v c slot value all s = rw (← slot, ← value, ← all) refl

module _ (p : Program) (m n : Shape) (site : ℕ) (x : Slot) (v : Value) (us : List Use) (o : Stored x v us) where
  abbrev pub set_event : Run nothing (Made nothing)
  set_event = note_write (into kind.Set site x v) (given v us)

  stored_is : joined o.right.value o.spot.parts o.right ≡ given v us
  unfolding joined
  stored_is = ap₂ given o.is_right o.are_joined

  assign_is : (s : State nothing) → assign site o.spot o.right s ≡ (set_event >>= (λ e. return (value_of e v))) s
  assign_is s = assign_as site o.spot o.right x v (given v us) o.is_slot o.is_right stored_is s

  pub assign_goes : (r : Result ℕ Halt) → StepGives p made_of r m set_event n → StepGives p (λ e. valued e v) r m (assign site o.spot o.right) n
  unfolding value_of
  assign_goes (Ok e) a = onward_as assign_is (done_first set_event (λ e. return (value_of e v)) (made_of e) a)
  assign_goes (Err e) a = answers_after p m n set_event made_of (λ e. valued e v) (λ e. return (value_of e v)) _ e assign_is a

-- ---- what an array may hold

module _ (p : Program) (element found : Ty) where
  pub may_null : (v : Value) → is_null v ≡ true → may_store p element found v ≡ true
  unfolding may_store is_null
  may_null Null is = refl
  may_null _ is = cc

of_primitive : (p : Program) (found : Ty) (q : Primitive) (v : Value) → may_store p (Of (Basic q) 0) found v ≡ true
unfolding may_store
of_primitive p found q Null = refl
of_primitive p found q _ = refl

pub may_primitive : (p : Program) (element found : Ty) (v : Value) → is_primitive element ≡ true → may_store p element found v ≡ true
may_primitive p (Of (Basic q) zero) found v is = of_primitive p found q v
may_primitive p _ found v is = cc

pub may_below : (p : Program) (element found : Ty) (v : Value) → is_null v ≡ false → is_primitive element ≡ false → may_store p element found v ≡ is_below p found element
unfolding may_store is_null
may_below p element found Null null is = cc
may_below p (Of (Basic q) zero) found _ null is = cc
may_below p _ found _ null is = refl

module _ (p : Program) (m : Shape) (w : World nothing) (is : w.program ≡ p) (site : ℕ) (x : Slot) (v : Value) (us : List Use) (o : Stored x v us) where
  abbrev pub check : Run nothing (Unit {0})
  check = check_store w site o.spot o.right x

  -- the type of the array, that of the value, and the choice
  abbrev pub choice : Ty → Ty → Run nothing (Unit {0})
  choice array value = choose (may_store w.program (element_type array) value v) (return tt) (fail w array_store site (given Nothing us))

  abbrev pub by_value : Ty → Run nothing (Unit {0})
  by_value array = type_of v >>= choice array

  operands_are : joined Nothing o.spot.parts o.right ≡ given Nothing us
  unfolding joined
  operands_are = ap (given Nothing) o.are_joined

  pub check_other : ((a i : ℕ) → x ≡ Elem a i → ⊥) → Onward p m check m (return tt)
  unfolding check_store return
  check_other none = onward_as (cases x none) (onward_same p m (return tt))
    where
      cases : (y : Slot) → ((a i : ℕ) → y ≡ Elem a i → ⊥) → (s : State nothing) → check_store w site o.spot o.right y s ≡ return tt s
      cases (Elem a i) none s = absurd (none a i refl)
      cases _ none s = refl

  module _ (a i : ℕ) (at : x ≡ Elem a i) (array value : Ty) (of_array : Onward p m (type_of (Object a)) m (return array)) (of_value : Onward p m (type_of v) m (return value)) where
    check_is : (s : State nothing) → check s ≡ (type_of (Object a) >>= by_value) s
    unfolding check_store
    check_is s = rw (at, operands_are, o.is_right) refl

    check_starts : Onward p m check m (choice array value)
    check_starts = onward_as check_is (onward_then (done_first (type_of (Object a)) by_value array of_array) (done_first (type_of v) (choice array) value of_value))

    may_is : may_store w.program (element_type array) value v ≡ may_store p (element_type array) value v
    may_is = ap (λ q. may_store q (element_type array) value v) is

    pub check_fits : may_store p (element_type array) value v ≡ true → Onward p m check m (return tt)
    unfolding choose
    check_fits may = onward_then check_starts (rw (may_is ∙ may) (onward_same p m (return tt)))

    pub check_fails : (n : Shape) (e : Halt) → may_store p (element_type array) value v ≡ false → Ends p e m (fail w array_store site (given Nothing us)) n → StepGives p (itself {X = Unit {0}}) (Err e) m check n
    unfolding choose
    check_fails n e may b = answers_next p itself (Err e) m m n _ _ check_starts (rw (may_is ∙ may) (fails w array_store site (Unit {0}) p e m n (given Nothing us) b))

  store_is : (s : State nothing) → store w site o.spot o.right s ≡ (check >>= (λ _. assign site o.spot o.right)) s
  unfolding store ◌>>◌
  store_is s = rw o.is_slot refl

  pub store_halts : (n : Shape) (e : Halt) → StepGives p (itself {X = Unit {0}}) (Err e) m check n → StepGives p (λ e. valued e v) (Err e) m (store w site o.spot o.right) n
  store_halts n e a = answers_after p m n check itself (λ e. valued e v) (λ _. assign site o.spot o.right) _ e store_is a

  pub store_goes : (l n : Shape) (r : Result ℕ Halt) → Onward p m check l (return tt) → StepGives p (λ e. valued e v) r l (assign site o.spot o.right) n → StepGives p (λ e. valued e v) r m (store w site o.spot o.right) n
  store_goes l n r a b = answers_next p (λ e. valued e v) r m l n _ _ (onward_as store_is (done_first check (λ _. assign site o.spot o.right) tt a)) b
