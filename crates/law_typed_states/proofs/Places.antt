-- Places that are found, read and assigned hold what their types say.
use Rattle.std.proofs.Common.{◌≡◌, ℕ, zero, suc, Bool, true, false, List, [], ◌∷◌, Option, Some, refl, sym, ap, ◌∙◌, subst}
use Rattle.std.specs.Prelude.{None as Absent}
use Rattle.std.specs.Prelude.{slice_get, slice_index_or, if◌then◌else◌}
use Rattle.wy_kernel.specs.declared.operator.Primitive.{Primitive}
use Rattle.wy_kernel.specs.declared.operator.BinOp.{BinOp}
use Rattle.wy_kernel.specs.declared.types.Base.{Base}
use Rattle.wy_kernel.specs.declared.types.Ty.{Ty}
use Rattle.wy_kernel.specs.declared.types.Ty.TheVariants.{Of}
use Rattle.wy_kernel.specs.Program.{Field, field, is_source, element_type}
use Rattle.wy_kernel.specs.Subtyping.{class_type, primitive_type}
use Rattle.wy_kernel.specs.Builtin.{throwable_class}
use Rattle.wy_value.specs.declared.value.Value.{Value}
use Rattle.wy_value.specs.declared.value.Value.TheVariants as val
use Rattle.wy_event.specs.declared.record.Kind.TheVariants as kind
use Rattle.wy_event.specs.declared.record.Slot.{Slot}
use Rattle.wy_event.specs.declared.record.Slot.TheVariants as slot
use Rattle.wy_event.specs.Record.{Recorded}
use Rattle.wy_steps.specs.State.{Carried, Run, Noted, Threw, ◌>>◌}
use Rattle.wy_steps.specs.Steps.{with_value, joined, value_of, code_of, event_in, event_at}
use Rattle.wy_meaning.specs.World.{World, plain, class_code, throwing, fail, type_in, type_of, units_of, length_of, object_of, null_pointer, arithmetic, array_store, array_index}
use Rattle.wy_meaning.specs.Place.{Located, AtLocal, AtStatic, AtField, AtElem, Spot, initialize_source, initialize, local_spot, static_spot, field_spot, checked_index, element_spot, find, lacks_value, fetch, read_place, assign, may_store, check_store, store, set_place, operated, primitive_of, divided, update_place}
use Rattle.wy_typing.specs.Types.{int_type, UpdatesIn}
use Rattle.wy_typing.specs.Expressions.{IsField}
use Rattle.law_induction.specs.Law.{nothing, both, Entails, FrameKind, Region, In, a_throw}
use Rattle.law_induction.proofs.Rules.{newest, before, trivially}
use Rattle.law_typed_states.specs.Typed.{Runs, local_types, Refers}
use Rattle.law_typed_states.proofs.Values.{updated_is}
use Rattle.law_typed_states.proofs.Library.{static_of_source, Fails, arithmetic_fails, array_store_fails, array_index_fails, null_pointer_fails}
use Rattle.law_typed_states.proofs.Law.{is, begun, current, place, told, read_from, stores, answer, reason}
use Rattle.law_typed_states.proofs.Rules.{Ground, A, p, Known, Does, bind, forgets, gives, leaves, stops, either, next, frames, looks, asks, reads, notes, notes_object, sets_slot}
use Rattle.law_typed_states.proofs.Facts.{new_is, found_as, HasFound, HoldsType, a_local, a_static, a_field, an_element, holds_type, may_read, read_is, store_fits, primitive_fits, checked_fits, called}

-- what calls and initializations do
pub record Methods (G : Ground) : Type 1 where
  pub call : (site method : ℕ) → Option (Carried (A G)) → List (Carried (A G)) → Run (A G) (Carried (A G))
  pub enter : (site class : ℕ) → Run (A G) Unit
  pub calls : (r : Region) (site m : ℕ) (receiver : Option (Carried (A G))) (args : List (Carried (A G))) (P : Known G) → Entails P (called G m receiver args) → Does G r P (call site m receiver args) (λ v. answer (A G) (p G) m v.value)
  pub enters : (r : Region) (site c : ℕ) (P : Known G) → Does G r P (enter site c) (λ t. begun (A G) (p G) c)

module _ (G : Ground) where
  abbrev pub of_type : Ty → Value → Known G
  of_type ty v = is (A G) (p G) ty v

  abbrev pub world_of : Methods G → World (A G)
  world_of M = record { program = p G; call = M.call; enter = M.enter }

module _ (G : Ground) (M : Methods G) where
  abbrev w : World (A G)
  w = world_of G M

  -- ---- exceptions

  pub throws : {r : Region} {X : Type 0} {P : Known G} {Q : X → Known G} (site : ℕ) (v : Carried (A G)) → Entails P (of_type G (class_type throwable_class) v.value) → Does G r P (throwing site v) Q
  unfolding throwing value_of reason
  throws site v e = next G (forgets G (notes G (plain kind.Throw site v.value) v (a_throw site v.value v))) (λ x. leaves G (Threw x.number (value_of x v.value)) e)

  pub fails : {r : Region} {X : Type 0} {P : Known G} {Q : X → Known G} (c site : ℕ) (v : Carried (A G)) → Fails (p G) c → Does G r P (fail w c site v) Q
  unfolding fail value_of
  fails c site v f = bind G (notes_object G site (class_code c) v) (λ e. throws site (value_of e (val.Object e.number)) (new_is G e site (class_code c) val.None (class_type c) (class_type throwable_class) (newest _ _) f.code (record { reference = tt; concrete = f.made; below = f.below })))

  pub null_fails : {r : Region} {X : Type 0} {P : Known G} {Q : X → Known G} (site : ℕ) (v : Carried (A G)) → Does G r P (fail w null_pointer site v) Q
  null_fails site v = fails null_pointer site v (null_pointer_fails (p G) G.fits.declarations.library_classes)

  -- ---- what is looked up

  pub looks_up : {r : Region} {P : Known G} (n : ℕ) → Does G r P (event_at n) (λ o. nothing)
  looks_up n = looks G n (λ o. nothing) (λ o m h e. tt)

  object_found : (m : List (Noted (A G))) (ty : Ty) (k : ℕ) (o : Option Recorded) → Refers (p G) m ty k → o ≡ event_in m k → HasFound G m (val.Object k) (type_in o)
  unfolding type_in
  object_found m ty k o h e = (h.event, h.there, h.is_new, h.stands.concrete, ap type_in (e ∙ h.there))

  pub finds_type : {r : Region} {P : Known G} (ty : Ty) (v : Value) → Entails P (of_type G ty v) → Does G r P (type_of v) (found_as G v)
  unfolding type_of found_as is
  finds_type ty (val.Object k) e = bind G (looks G k (λ o. found_as G (val.Object k) (type_in o)) (λ o m h q. object_found m ty k o (e.by m h) q)) (λ o. gives G (type_in o) (newest _ _))
  finds_type ty (val.Text k) e = gives G _ (record { by = λ n h. refl })
  finds_type ty (val.Fixed k) e = gives G _ (record { by = λ n h. refl })
  finds_type ty _ e = gives G _ (record { by = λ n h. refl })

  pub some_type : {r : Region} {P : Known G} (v : Value) → Does G r P (type_of v) (λ t. nothing)
  unfolding type_of
  some_type (val.Object k) = next G (looks_up k) (λ o. gives G _ trivially)
  some_type (val.Text k) = gives G _ trivially
  some_type (val.Fixed k) = gives G _ trivially
  some_type _ = gives G _ trivially

  pub some_units : {r : Region} {P : Known G} (v : Value) → Does G r P (units_of w v) (λ t. nothing)
  unfolding units_of
  some_units (val.Text k) = next G (looks_up k) (λ o. gives G _ trivially)
  some_units (val.Fixed k) = gives G _ trivially
  some_units _ = gives G _ trivially

  pub some_length : {r : Region} {P : Known G} (n : ℕ) → Does G r P (length_of n) (λ t. nothing)
  unfolding length_of
  some_length n = next G (looks_up n) (λ o. gives G _ trivially)

  pub finds_object : {r : Region} {P : Known G} (ty : Ty) (site : ℕ) (c : Carried (A G)) (v : Value) → Entails P (of_type G ty v) → Does G r P (object_of w site c v) (λ n. of_type G ty (val.Object n))
  unfolding object_of
  finds_object ty site c (val.Object n) e = gives G n e
  finds_object ty site c _ e = null_fails site c

  -- ---- classes

  starts : {r : Region} {P : Known G} (site c : ℕ) (source : Bool) → source ≡ true → Does G r P (initialize_source w site c source) (λ t. begun (A G) (p G) c)
  unfolding initialize_source told begun both
  starts site c false e = absurd (cc e)
  starts {r = r} site c true e = bind G (asks G c) (λ going. either G going (λ q. gives G tt (record { by = λ n h. h.1 q })) (λ q. M.enters r site c _))

  pub initializes : {r : Region} {P : Known G} (site c : ℕ) → is_source c ≡ true → Does G r P (initialize w site c) (λ t. begun (A G) (p G) c)
  unfolding initialize
  initializes site c e = starts site c (is_source c) e

  may_start : {r : Region} {P : Known G} (site c : ℕ) (source : Bool) → Does G r P (initialize_source w site c source) (λ t. nothing)
  unfolding initialize_source
  may_start site c false = gives G tt trivially
  may_start {r = r} site c true = forgets G (starts site c true refl)

  pub may_initialize : {r : Region} {P : Known G} (site c : ℕ) → Does G r P (initialize w site c) (λ t. nothing)
  unfolding initialize
  may_initialize site c = may_start site c (is_source c)

  module _ (i : FrameKind) where
    -- a run that gives a value of the type
    pub record Types (m : Run (A G) (Carried (A G))) (ty : Ty) : Type 1 where
      pub by : (P : Known G) → Does G (In i) P m (λ v. of_type G ty v.value)

    -- a place of values of the type, by the runs of its parts
    abbrev pub Locates : Located (A G) → Ty → Type 1
    Locates (AtLocal k) ty = (slice_get (local_types (p G) i) k ≡ Some ty) × Unit {1}
    Locates (AtStatic k site) ty = (f : Field) × IsField (p G) k f × (f.is_static ≡ true) × (f.ty ≡ ty) × Unit {1}
    Locates (AtField object k site) ty = (f : Field) × IsField (p G) k f × (f.ty ≡ ty) × Types object (class_type f.class)
    Locates (AtElem array index site) ty = (base : Base) × (b : ℕ) × (Of base b ≡ ty) × Types array (Of base (suc b)) × Types index int_type

    abbrev SpotOf : Ty → Spot (A G) → Known G
    SpotOf ty x = holds_type G i ty x.slot

    finds_local : {P : Known G} (k : ℕ) (ty : Ty) → slice_get (local_types (p G) i) k ≡ Some ty → Does G (In i) P (local_spot k) (SpotOf ty)
    unfolding local_spot current holds_type both code_of
    finds_local k ty e = bind G (frames G) (λ o. gives G _ (record { by = λ n h. let c = h.1 in a_local (subst (λ f. Runs n f i) (sym (ap code_of c.1)) c.2) e }))

    field_found : (xs : List Field) (k : ℕ) (f d : Field) → slice_get xs k ≡ Some f → slice_index_or xs k d ≡ f
    field_found [] k f d e = absurd (cc e)
    field_found (x ∷ xs) zero f d e = cc e
    field_found (x ∷ xs) (suc k) f d e = field_found xs k f d e

    source_of : (k : ℕ) (f : Field) → IsField (p G) k f → f.is_static ≡ true → is_source (field (p G) k).class ≡ true
    unfolding field
    source_of k f e s = subst (λ (z : Field). is_source z.class ≡ true) (sym (field_found (p G).fields k f _ e)) (static_of_source (p G) G.library G.fits.declarations.library_fields k f e s)

    finds_static : {P : Known G} (k site : ℕ) (f : Field) (ty : Ty) → IsField (p G) k f → f.is_static ≡ true → f.ty ≡ ty → Does G (In i) P (static_spot w k site) (SpotOf ty)
    unfolding static_spot holds_type begun both ◌>>◌
    finds_static k site f ty e s t = bind G (initializes site (field (p G) k).class (source_of k f e s)) (λ u. gives G _ (record { by = λ n h. a_static f h.1 e t }))

    finds_field : {P : Known G} (k site : ℕ) (o : Carried (A G)) (f : Field) (ty : Ty) → IsField (p G) k f → f.ty ≡ ty → Entails P (of_type G (class_type f.class) o.value) → Does G (In i) P (field_spot w k site o) (SpotOf ty)
    unfolding field_spot holds_type is both
    finds_field k site o f ty e t h = bind G (finds_object (class_type f.class) site o o.value h) (λ n. gives G _ (record { by = λ m q. let r = q.1 in a_field f (record { event = r.event; there = r.there; is_new = r.is_new }) e t }))

    checks_index : {P : Known G} (site : ℕ) (c : Carried (A G)) (o : Option ℕ) → Does G (In i) P (checked_index w site c o) (λ n. nothing)
    unfolding checked_index
    checks_index site c (Some k) = gives G k trivially
    checks_index site c Absent = fails array_index site c (array_index_fails (p G) G.fits.declarations.library_classes)

    finds_element : {P : Known G} (site : ℕ) (a k : Carried (A G)) (base : Base) (b : ℕ) (ty : Ty) → Of base b ≡ ty → Entails P (of_type G (Of base (suc b)) a.value) → Does G (In i) P (element_spot w site a k) (SpotOf ty)
    unfolding element_spot holds_type is both
    finds_element site a k base b ty t h = bind G (finds_object (Of base (suc b)) site _ a.value h) (λ n. next G (some_length n) (λ l. next G (checks_index site _ _) (λ j. gives G _ (record { by = λ m q. an_element base b t q.1 }))))

    pub finds : {P : Known G} (x : Located (A G)) (ty : Ty) → Locates x ty → Does G (In i) P (find w x) (SpotOf ty)
    unfolding find
    finds (AtLocal k) ty h = finds_local k ty h.0
    finds (AtStatic k site) ty h = finds_static k site h.0 ty h.1 h.2 h.3
    finds {P = P} (AtField object k site) ty h = bind G (h.3.by P) (λ o. finds_field k site o h.0 ty h.1 h.2 (newest _ _))
    finds {P = P} (AtElem array index site) ty h = bind G (h.3.by P) (λ a. next G (forgets G (h.4.by _)) (λ k. finds_element site a k h.0 h.1 ty h.2 (newest _ _)))

    -- ---- reading

    pub fetches : {P : Known G} (x : Spot (A G)) (ty : Ty) → Entails P (SpotOf ty x) → Does G (In i) P (fetch x) (λ v. of_type G ty v.value)
    unfolding fetch joined holds_type read_from is both
    fetches x ty e = bind G (reads G x.slot (may_read G i ty x.slot e)) (λ v. either G (lacks_value x.slot v.value) (λ l. stops G _ tt) (λ l. gives G _ (record { by = λ n h. read_is G i n ty x.slot v.value (e.by n h.0) h.1 l })))

    pub reads_place : {P : Known G} (x : Located (A G)) (ty : Ty) → Locates x ty → Does G (In i) P (read_place w x) (λ v. of_type G ty v.value)
    unfolding read_place
    reads_place x ty h = bind G (finds x ty h) (λ s. fetches s ty (newest _ _))

    -- ---- assigning

    pub assigns : {P : Known G} (site : ℕ) (x : Spot (A G)) (v : Carried (A G)) (ty : Ty) → Entails P (place (A G) (p G) x.slot) → Entails P (stores (A G) (p G) x.slot v.value) → Entails P (of_type G ty v.value) → Does G (In i) P (assign site x v) (λ u. of_type G ty u.value)
    unfolding assign value_of
    assigns site x v ty e f h = next G (sets_slot G site x.slot v.value _ e f) (λ u. gives G _ h)

    array_found : (m : List (Noted (A G))) (ty : Ty) (a j : ℕ) (o : Option Recorded) → HoldsType G i m ty (slot.Elem a j) → o ≡ event_in m a → HasFound G m (val.Object a) (type_in o)
    array_found m ty a j o (an_element base b t r) e = object_found m (Of base (suc b)) a o r e

    looks_array : {P : Known G} (a j : ℕ) (ty : Ty) → Entails P (holds_type G i ty (slot.Elem a j)) → Does G (In i) P (type_of (val.Object a)) (found_as G (val.Object a))
    unfolding type_of holds_type found_as
    looks_array a j ty e = bind G (looks G a (λ o. found_as G (val.Object a) (type_in o)) (λ o m q s. array_found m ty a j o (e.by m q) s)) (λ o. gives G (type_in o) (newest _ _))

    checks_element : {P : Known G} (site : ℕ) (x : Spot (A G)) (v : Carried (A G)) (a j : ℕ) (ty : Ty) → Entails P (holds_type G i ty (slot.Elem a j)) → Entails P (of_type G ty v.value) → Does G (In i) P (check_store w site x v (slot.Elem a j)) (λ t. stores (A G) (p G) (slot.Elem a j) v.value)
    unfolding check_store holds_type is both found_as stores
    checks_element {P = P} site x v a j ty e h =
        bind G (looks_array a j ty e) (λ whole. bind G (finds_type ty v.value (before _ _ h)) (λ found.
        either G (may_store (p G) (element_type whole) found v.value) (λ m. gives G tt (record { by = λ n q. checked_fits G i n ty a j v.value whole found (e.by n q.0.0) (h.by n q.0.0) q.0.1 q.1 m })) (λ m. fails array_store site _ (array_store_fails (p G) G.fits.declarations.library_classes))))

    checks : {P : Known G} (site : ℕ) (x : Spot (A G)) (v : Carried (A G)) (y : Slot) (ty : Ty) → Entails P (holds_type G i ty y) → Entails P (of_type G ty v.value) → Does G (In i) P (check_store w site x v y) (λ t. stores (A G) (p G) y v.value)
    unfolding check_store holds_type is stores
    checks site x v (slot.Elem a j) ty e h = checks_element site x v a j ty e h
    checks site x v (slot.Local f k) ty e h = gives G tt (record { by = λ n q. store_fits G i n ty (slot.Local f k) v.value tt (e.by n q) (h.by n q) })
    checks site x v (slot.Static k) ty e h = gives G tt (record { by = λ n q. store_fits G i n ty (slot.Static k) v.value tt (e.by n q) (h.by n q) })
    checks site x v (slot.Field o k) ty e h = gives G tt (record { by = λ n q. store_fits G i n ty (slot.Field o k) v.value tt (e.by n q) (h.by n q) })
    checks site x v slot.None ty e h = gives G tt (record { by = λ n q. tt })

    -- after the check a value of the type is stored
    pub stores_value : {P : Known G} (site : ℕ) (x : Spot (A G)) (v : Carried (A G)) (ty : Ty) → Entails P (SpotOf ty x) → Entails P (of_type G ty v.value) → Does G (In i) P (store w site x v) (λ u. of_type G ty u.value)
    unfolding store ◌>>◌
    stores_value site x v ty e h = bind G (checks site x v x.slot ty e h) (λ t. assigns site x v ty (before _ _ (may_read G i ty x.slot e)) (newest _ _) (before _ _ h))

    pub sets_place : {P : Known G} (x : Located (A G)) (m : Run (A G) (Carried (A G))) (site : ℕ) (ty : Ty) → Locates x ty → Types m ty → Does G (In i) P (set_place w x m site) (λ u. of_type G ty u.value)
    unfolding set_place
    sets_place {P = P} (AtLocal k) m site ty h d = bind G (d.by P) (λ v. bind G (finds_local k ty h.0) (λ s. stores_value site s v ty (newest _ _) (before _ _ (newest _ _))))
    sets_place {P = P} (AtStatic k at) m site ty h d = bind G (d.by P) (λ v. bind G (finds_static k at h.0 ty h.1 h.2 h.3) (λ s. stores_value site s v ty (newest _ _) (before _ _ (newest _ _))))
    sets_place {P = P} (AtField object k at) m site ty h d = bind G (h.3.by P) (λ o. bind G (d.by _) (λ v. bind G (finds_field k at o h.0 ty h.1 h.2 (before _ _ (newest _ _))) (λ s. stores_value site s v ty (newest _ _) (before _ _ (newest _ _)))))
    sets_place {P = P} (AtElem array index at) m site ty h d = bind G (h.3.by P) (λ a. next G (forgets G (h.4.by _)) (λ k. bind G (d.by _) (λ v. bind G (finds_element at a k h.0 h.1 ty h.2 (before _ _ (newest _ _))) (λ s. stores_value site s v ty (newest _ _) (before _ _ (newest _ _))))))

    -- ---- updating

    pub divides : {P : Known G} (site : ℕ) (c : Carried (A G)) (o : Option Value) (Q : Value → Known G) → ((x : Value) → o ≡ Some x → Entails P (Q x)) → Does G (In i) P (divided w site c o) (λ u. Q u.value)
    unfolding divided with_value
    divides site c (Some x) Q h = gives G _ (h x refl)
    divides site c Absent Q h = fails arithmetic site c (arithmetic_fails (p G) G.fits.declarations.library_classes)

    if_is : {P : Known G} (b : Bool) (x y : Carried (A G)) (ty : Ty) → Entails P (of_type G ty x.value) → Entails P (of_type G ty y.value) → Entails P (of_type G ty (if b then x else y).value)
    if_is true x y ty e f = e
    if_is false x y ty e f = f

    assigns_primitive : {P : Known G} (site : ℕ) (x : Spot (A G)) (v : Carried (A G)) (q : Primitive) → Entails P (SpotOf (primitive_type q) x) → Entails P (of_type G (primitive_type q) v.value) → Does G (In i) P (assign site x v) (λ u. of_type G (primitive_type q) u.value)
    unfolding stores holds_type is
    assigns_primitive site x v q e h = assigns site x v (primitive_type q) (may_read G i (primitive_type q) x.slot e) (record { by = λ n k. primitive_fits G i n q x.slot v.value (e.by n k) (h.by n k) }) h

    pub updates_place : {P : Known G} (x : Located (A G)) (o : BinOp) (m : Run (A G) (Carried (A G))) (to from wide : Primitive) (gives_old : Bool) (site : ℕ) → Locates x (primitive_type to) → Types m (primitive_type from) → UpdatesIn o to from wide → Does G (In i) P (update_place w x o m (primitive_type to) wide gives_old site) (λ u. of_type G (primitive_type to) u.value)
    unfolding update_place with_value is
    updates_place x o m to from wide gives_old site h d u =
        bind G (finds x (primitive_type to) h) (λ s. bind G (fetches s (primitive_type to) (newest _ _)) (λ old. bind G (d.by _) (λ v.
        bind G (divides site _ (operated o wide old.value v.value) (λ y. of_type G (primitive_type to) (primitive_of (primitive_type to) y)) (λ y e. updated o to from wide old.value v.value y u (before _ _ (newest _ _)) (newest _ _) e)) (λ new.
        bind G (assigns_primitive site s _ to (before _ _ (before _ _ (before _ _ (newest _ _)))) (newest _ _)) (λ set.
        gives G _ (if_is gives_old old set (primitive_type to) (before _ _ (before _ _ (before _ _ (newest _ _)))) (newest _ _)))))))
      where
        updated : {P : Known G} (o : BinOp) (to from wide : Primitive) (a b y : Value) → UpdatesIn o to from wide → Entails P (of_type G (primitive_type to) a) → Entails P (of_type G (primitive_type from) b) → operated o wide a b ≡ Some y → Entails P (of_type G (primitive_type to) (primitive_of (primitive_type to) y))
        updated o to from wide a b y u e f q = record { by = λ n k. updated_is (p G) n o to from wide a b y u (e.by n k) (f.by n k) q }
