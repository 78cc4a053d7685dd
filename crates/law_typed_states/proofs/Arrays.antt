-- What creates an array gives one of its type, with elements of theirs.
use Rattle.std.proofs.Common.{◌≡◌, ◌<◌, ◌≤◌, arith, ℕ, zero, suc, List, [], ◌∷◌, length, replicate, Some, refl, sym, ap, ◌∙◌, subst}
use Rattle.std.specs.Prelude.{pos}
use Rattle.wy_kernel.specs.declared.types.Base.{Base}
use Rattle.wy_kernel.specs.declared.types.Base.TheVariants.{Primitive as Basic, Class as Named}
use Rattle.wy_kernel.specs.declared.types.Ty.{Ty}
use Rattle.wy_kernel.specs.declared.types.Ty.TheVariants.{Of}
use Rattle.wy_kernel.specs.Program.{type_code, type_of_code, element_type}
use Rattle.wy_kernel.specs.Subtyping.{IsReference, same}
use Rattle.wy_kernel.specs.Table.{IsTypeOf}
use Rattle.wy_value.specs.declared.value.Value.{Value}
use Rattle.wy_value.specs.declared.value.Value.TheVariants as val
use Rattle.wy_event.specs.declared.record.Kind.TheVariants as kind
use Rattle.wy_event.specs.declared.record.Slot.TheVariants as slot
use Rattle.wy_event.specs.Record.{Recorded}
use Rattle.wy_steps.specs.State.{Carried, Run, Noted}
use Rattle.wy_steps.specs.Steps.{Made, Draft, constant, value_of, code_of, event_in}
use Rattle.wy_meaning.specs.World.{World, about, negative_size, natural_of}
use Rattle.wy_meaning.specs.Array.{make_array, for_each, subarrays, any_negative, make_arrays, create_array, first_site, rest_sites, set_elements, create_filled, new_array}
use Rattle.wy_typing.specs.Types.{int_type}
use Rattle.law_induction.specs.Law.{nothing, both, Entails, FrameKind, Region, In}
use Rattle.law_induction.proofs.Rules.{newest, before, trivially}
use Rattle.law_typed_states.specs.Typed.{Is, MayStand, made_type}
use Rattle.law_typed_states.proofs.Library.{negative_size_fails, code_is}
use Rattle.law_typed_states.proofs.Moments.{Later}
use Rattle.law_typed_states.proofs.Law.{is, event, place, stores, object}
use Rattle.law_typed_states.proofs.Rules.{Ground, A, p, Known, Does, bind, gives, either, next, after, takes_elements, notes_array, sets_slot}
use Rattle.law_typed_states.proofs.Facts.{new_is, AllAre, all_are, element_fits, element_of}
use Rattle.law_typed_states.proofs.Places.{Methods, of_type, world_of, fails}
use Rattle.law_typed_states.proofs.Forms.{T}
use Rattle.law_typed_states.proofs.Calls.{AllTypes, gives_all}

abbrev pub AllAlike : List Ty → Ty → Type 0
AllAlike [] ty = Unit {0}
AllAlike (t ∷ ts) ty = (t ≡ ty) × AllAlike ts ty

module _ (G : Ground) (M : Methods G) where
  abbrev w : World (A G)
  w = world_of G M

  abbrev array_draft : ℕ → Ty → ℕ → Draft
  array_draft site ty n = about kind.New site (type_code ty) (val.Int (pos n))

  pub makes_array : {r : Region} {P : Known G} (site : ℕ) (ty : Ty) (n : ℕ) (c : Carried (A G)) → Does G r P (make_array w site ty n c) (event (A G) (p G) (array_draft site ty n))
  unfolding make_array
  makes_array site ty n c = after G (takes_elements G n) (notes_array G site (type_code ty) n c)

  -- the object is an array with elements of the type
  pub record ElementsAre (n : List (Noted (A G))) (k : ℕ) (ty : Ty) : Type 0 where
    pub array : Recorded
    pub there : event_in n k ≡ Some array
    pub is_new : array.kind ≡ kind.New
    pub elements : element_type (made_type array) ≡ ty

  elements_up : (m n : List (Noted (A G))) (k : ℕ) (ty : Ty) → Later m n → ElementsAre m k ty → ElementsAre n k ty
  elements_up m n k ty le h = record { array = h.array; there = le k h.array h.there; is_new = h.is_new; elements = h.elements }

  unfoldable pub elements_are : ℕ → Ty → Known G
  unfolding elements_up
  elements_are k ty = record { holds = λ n. ElementsAre n k ty; up = λ m n. elements_up m n k ty }

  -- a type that arrays are made of
  pub record IsMadeAs (ty : Ty) : Type 0 where
    pub stands : MayStand (p G) ty ty
    pub code : type_of_code (type_code ty) ≡ ty

  pub made_elements : {P : Known G} (e : Made (A G)) (site : ℕ) (ty : Ty) (n : ℕ) (element : Ty) → Entails P (event (A G) (p G) (array_draft site ty n) e) → ((m : List (Noted (A G))) → P.holds m → (type_of_code (type_code ty) ≡ ty) × (element_type ty ≡ element)) → Entails P (elements_are e.number element)
  unfolding event elements_are about code_of
  made_elements e site ty n element h c = record { by = λ m q. let x = h.by m q in let y = c m q in record { array = x.event; there = x.there; is_new = x.kind; elements = ap element_type (ap (λ o. type_of_code (code_of o)) x.entity ∙ y.0) ∙ y.1 } }

  pub element_place : {P : Known G} (k j : ℕ) (ty : Ty) → Entails P (elements_are k ty) → Entails P (place (A G) (p G) (slot.Elem k j))
  unfolding elements_are place object
  element_place k j ty e = record { by = λ n q. let h = e.by n q in record { event = h.array; there = h.there; is_new = h.is_new } }

  pub element_stores : {P : Known G} (k j : ℕ) (ty : Ty) (v : Value) → Entails P (elements_are k ty) → Entails P (of_type G ty v) → Entails P (stores (A G) (p G) (slot.Elem k j) v)
  unfolding elements_are stores is
  element_stores k j ty v e f = record { by = λ n q. let h = e.by n q in element_fits G n k j h.array v h.there (subst (λ t. Is (p G) n t v) (sym h.elements) (f.by n q)) }

  -- ---- arrays of arrays

  -- so many dimensions may be made, of elements of the type
  abbrev Nested : Ty → List (Carried (A G)) → Type 0
  Nested ty [] = Unit {0}
  Nested ty (d ∷ ds) = IsMadeAs ty × Nested (element_type ty) ds

  unfoldable nested : Ty → List (Carried (A G)) → Known G
  nested ty ds = record { holds = λ n. Nested ty ds; up = λ m n le h. h }

  repeats : {r : Region} {P : Known G} (n k : ℕ) (f : ℕ → Run (A G) Unit) → ((j : ℕ) → Does G r P (f j) (λ t. nothing)) → Does G r P (for_each k n f) (λ t. nothing)
  unfolding for_each
  repeats zero k f h = gives G tt trivially
  repeats (suc n) k f h = after G (h k) (repeats n (suc k) f h)

  pub made_is : {P : Known G} (e : Made (A G)) (site : ℕ) (ty : Ty) (n : ℕ) → Entails P (event (A G) (p G) (array_draft site ty n) e) → ((m : List (Noted (A G))) → P.holds m → IsMadeAs ty) → Entails P (of_type G ty (val.Object e.number))
  unfolding is
  made_is e site ty n h c = record { by = λ m q. let x = c m q in (new_is G e site (type_code ty) (val.Int (pos n)) ty ty h x.code x.stands).by m q }

  fills : (ds : List (Carried (A G))) {r : Region} (site : ℕ) (ty : Ty) (parent n : ℕ) (P : Known G) → Entails P (elements_are parent ty) → Entails P (nested ty ds) → Does G r P (subarrays w site ty ds parent n) (λ t. nothing)
  unfolding subarrays nested both
  fills [] site ty parent n P e h = gives G tt trivially
  fills (d ∷ ds) site ty parent n P e h = repeats n 0 _ (λ j. bind G (makes_array site ty (natural_of d.value) d) (λ sub.
      next G (sets_slot G site (slot.Elem parent j) (val.Object sub.number) _ (element_place parent j ty (before _ _ e)) (element_stores parent j ty (val.Object sub.number) (before _ _ e) (made_is sub site ty (natural_of d.value) (newest _ _) (λ m q. (h.by m q.0).0)))) (λ set.
      fills ds site (element_type ty) sub.number (natural_of d.value) _ (made_elements sub site ty (natural_of d.value) (element_type ty) (newest _ _) (λ m q. ((h.by m q.0).0.code, refl))) (record { by = λ m q. (h.by m q.0).1 }))))

  makes_arrays : {r : Region} {P : Known G} (site : ℕ) (ty : Ty) (ds : List (Carried (A G))) → Entails P (nested ty ds) → ((n : List (Noted (A G))) → P.holds n → 0 < length ds) → Does G r P (make_arrays w site ty ds) (λ u. of_type G ty u.value)
  unfolding make_arrays nested both value_of
  makes_arrays site ty [] h some = gives G _ (record { by = λ n q. let l = some n q in absurd (omega (arith, l)) })
  makes_arrays site ty (d ∷ ds) h some = bind G (makes_array site ty (natural_of d.value) d) (λ e.
      after G (fills ds site (element_type ty) e.number (natural_of d.value) _ (made_elements e site ty (natural_of d.value) (element_type ty) (newest _ _) (λ m q. ((h.by m q.0).0.code, refl))) (record { by = λ m q. (h.by m q.0).1 }))
      (gives G _ (made_is e site ty (natural_of d.value) (newest _ _) (λ m q. (h.by m q.0).0))))

  array_reference : (b : Base) (n : ℕ) → IsReference (Of b (suc n))
  array_reference (Basic q) n = tt
  array_reference (Named c) n = tt

  known_array : (many : ℕ) (b : Base) (m n : ℕ) → IsTypeOf many (Of b m) → IsTypeOf many (Of b n)
  known_array many (Basic q) m n h = tt
  known_array many (Named c) m n h = h

  pub array_made : (b : Base) (n m : ℕ) → IsTypeOf (length (p G).classes) (Of b m) → IsMadeAs (Of b (suc n))
  array_made b n m h = record { stands = record { reference = array_reference b n; concrete = tt; below = same }; code = code_is (length (p G).classes) b (suc n) G.library.few (known_array (length (p G).classes) b m (suc n) h) }

  pub one_less : (b : Base) (n : ℕ) → element_type (Of b (suc n)) ≡ Of b n
  one_less b n = element_of G (Of b (suc n)) b n refl

  nested_from : (n : List (Noted (A G))) (b : Base) (m brackets k : ℕ) (ds : List (Carried (A G))) → IsTypeOf (length (p G).classes) (Of b k) → m ≤ brackets → AllAre G n (replicate m int_type) ds → Nested (Of b brackets) ds
  nested_from n b m brackets k [] known le h = tt
  nested_from n b zero brackets k (d ∷ ds) known le h = absurd h
  nested_from n b (suc m) zero k (d ∷ ds) known le h = absurd (omega (arith, le))
  nested_from n b (suc m) (suc brackets) k (d ∷ ds) known le h = (array_made b brackets k known, subst (λ t. Nested t ds) (sym (one_less b brackets)) (nested_from n b m brackets k ds known (omega (arith, le)) h.1))

  some_dimension : (n : List (Noted (A G))) (m : ℕ) (ds : List (Carried (A G))) → AllAre G n (replicate (suc m) int_type) ds → 0 < length ds
  some_dimension n m [] h = absurd h
  some_dimension n m (d ∷ ds) h = omega arith

  module _ (i : FrameKind) where
    creates_array : {P : Known G} (b : Base) (brackets n : ℕ) (dims : List (Run (A G) (Carried (A G)))) (site : ℕ) → n < brackets → IsTypeOf (length (p G).classes) (Of b brackets) → AllTypes G M i dims (replicate (suc n) int_type) → Does G (In i) P (create_array w (Of b brackets) dims site) (λ u. of_type G (Of b brackets) u.value)
    unfolding create_array all_are both nested
    creates_array b brackets n dims site lt known d = bind G (gives_all G M i dims _ _ d) (λ ds. either G (any_negative ds) (λ e. fails G M negative_size site _ (negative_size_fails (p G) G.fits.declarations.library_classes)) (λ e.
        makes_arrays site (Of b brackets) ds (record { by = λ m q. nested_from m b (suc n) brackets brackets ds known (omega (arith, lt)) q.1 }) (λ m q. some_dimension m n ds q.1)))

    sets_elements : (ms : List (Run (A G) (Carried (A G)))) (ts : List Ty) (e : Made (A G)) (k : ℕ) (sites : List ℕ) (ty : Ty) (P : Known G) → AllAlike ts ty → Entails P (elements_are e.number ty) → AllTypes G M i ms ts → Does G (In i) P (set_elements e k sites ms) (λ t. nothing)
    unfolding set_elements
    sets_elements [] ts e k sites ty P same_types h d = gives G tt trivially
    sets_elements (m ∷ ms) [] e k sites ty P same_types h d = absurd d.0
    sets_elements (m ∷ ms) (t ∷ ts) e k sites ty P same_types h d = bind G (d.0.by P) (λ v. next G (sets_slot G (first_site sites) (slot.Elem e.number k) v.value _ (element_place e.number k ty (before _ _ h)) (element_stores e.number k ty v.value (before _ _ h) (subst (λ u. Entails (both P (of_type G t v.value)) (of_type G u v.value)) same_types.0 (newest _ _)))) (λ s.
        sets_elements ms ts e (suc k) (rest_sites sites) ty _ same_types.1 (before _ _ h) d.1))

    pub alike : (n : ℕ) (ty : Ty) → AllAlike (replicate n ty) ty
    alike zero ty = tt
    alike (suc n) ty = (refl, alike n ty)

    creates_filled : {P : Known G} (b : Base) (brackets n : ℕ) (ms : List (Run (A G) (Carried (A G)))) (sites : List ℕ) (site : ℕ) → IsTypeOf (length (p G).classes) (Of b brackets) → AllTypes G M i ms (replicate n (Of b brackets)) → Does G (In i) P (create_filled w (Of b (suc brackets)) ms sites site) (λ u. of_type G (Of b (suc brackets)) u.value)
    unfolding create_filled value_of
    creates_filled b brackets n ms sites site known d =
        let made = array_made b brackets brackets known in
        bind G (makes_array site (Of b (suc brackets)) (length ms) (constant val.None)) (λ e.
        after G (sets_elements ms _ e 0 sites (Of b brackets) _ (alike n (Of b brackets)) (made_elements e site (Of b (suc brackets)) (length ms) (Of b brackets) (newest _ _) (λ m q. (made.code, one_less b brackets))) d)
        (gives G _ (made_is e site (Of b (suc brackets)) (length ms) (newest _ _) (λ m q. made))))

    pub array_types : (b : Base) (brackets n : ℕ) (dims : List (Run (A G) (Carried (A G)))) (site : ℕ) → n < brackets → IsTypeOf (length (p G).classes) (Of b brackets) → AllTypes G M i dims (replicate (suc n) int_type) → T G M i (new_array w (Of b brackets) dims [] [] site) (Of b brackets)
    unfolding new_array
    array_types b brackets n [] site lt known d = absurd d.0
    array_types b brackets n (m ∷ ms) site lt known d = record { by = λ P. creates_array b brackets n (m ∷ ms) site lt known d }

    pub filled_types : (b : Base) (brackets n : ℕ) (ms : List (Run (A G) (Carried (A G)))) (sites : List ℕ) (site : ℕ) → IsTypeOf (length (p G).classes) (Of b brackets) → AllTypes G M i ms (replicate n (Of b brackets)) → T G M i (new_array w (Of b (suc brackets)) [] ms sites site) (Of b (suc brackets))
    unfolding new_array
    filled_types b brackets n ms sites site known d = record { by = λ P. creates_filled b brackets n ms sites site known d }
