-- Every run keeps it that its stores hold what the records give: an instance of the induction over runs, which needs to know nothing
-- of values.
use Rattle.std.proofs.Common.{◌≡◌, ℕ, suc, List, [], ◌∷◌, length, Some, sym, subst}
use Rattle.std.specs.Prelude.{slice_get, if◌then◌else◌}
use Rattle.wy_kernel.specs.Program.{Program}
use Rattle.wy_event.specs.declared.record.Slot.{Slot}
use Rattle.wy_event.specs.declared.record.Slot.TheVariants as slot
use Rattle.wy_event.specs.Record.{Recorded, same_slot}
use Rattle.wy_event.specs.Sources.{last_write}
use Rattle.wy_steps.specs.Sets.{Sets}
use Rattle.wy_steps.specs.State.{Carried, Store, Noted, State}
use Rattle.wy_kernel.specs.Limits.{depth_limit}
use Rattle.wy_steps.specs.Steps.{no_value, Draft, next_event, with_event, with_stored, with_created, with_active, without, covering, owner_in, made}
use Rattle.wy_meaning.specs.Run.{world, main_run, end}
use Rattle.law_induction.specs.Law.{nothing, Facts}
use Rattle.law_induction.specs.Uniform.{Uniform}
use Rattle.law_induction.specs.States.{StateLaw}
use Rattle.law_induction.proofs.States.{law_of, steps_of}
use Rattle.law_induction.proofs.Loops.{counted}
use Rattle.law_induction.proofs.Theorem.{runs_keep}
use Rattle.law_held.specs.Last.{store_after}
use Rattle.law_held.proofs.Stores.{left_noted, left_written, left_created, Holds, StoreHolds, declared_holds, holds_after}

module _ (A : Sets) (p : Program) (rs : List Recorded) where
  -- the events so far, the newest first, are the first of the records
  abbrev pub AreFirst : List (Noted A) → Type 0
  AreFirst [] = Unit {0}
  AreFirst (e ∷ rest) = (slice_get rs (length rest) ≡ Some e.event) × AreFirst rest

  -- the store just before each of them
  abbrev pub AllHold : List (Noted A) → Type 0
  AllHold [] = Unit {0}
  AllHold (e ∷ rest) = StoreHolds A p rs e.before (length rest) × AllHold rest

  pub record Inv (noted : List (Noted A)) (store : Store A) : Type 0 where
    pub store_holds : StoreHolds A p rs store (length noted)
    pub all_hold : AllHold noted

  inv_declared : (f k : ℕ) (s : State A) → Inv s.noted s.store → Inv s.noted (λ y. if same_slot y (slot.Local f k) then no_value (s.store y) else s.store y)
  inv_declared f k s i = record { store_holds = λ x. declared_holds A p rs (same_slot x (slot.Local f k)) x (s.store x) (last_write (owner_in p) rs x (length s.noted)) (i.store_holds x); all_hold = i.all_hold }

  -- an event behind which the store is as it leaves it
  inv_event : (d : Draft) (c : Carried A) (s : State A) (store : Store A) → ((x : Slot) → store x ≡ store_after p (length s.noted) (next_event d c s) x) → AreFirst (next_event d c s ∷ s.noted) → Inv s.noted s.store → Inv (next_event d c s ∷ s.noted) store
  unfolding next_event
  inv_event d c s store left first i = record {
    store_holds = λ x. subst (λ o. Holds A p rs x o (last_write (owner_in p) rs x (suc (length s.noted)))) (sym (left x)) (holds_after A p rs (length s.noted) (next_event d c s) first.0 i.store_holds x);
    all_hold = (i.store_holds, i.all_hold);
  }

  abbrev no_facts : Facts A
  no_facts = record {
    program = p;
    moments = record { moment = Unit {0}; later = λ m n. Unit {0} };
    fit = λ v. nothing;
    value = λ v. nothing;
    place = λ x. nothing;
    made = λ k e. nothing;
    body = λ i n. nothing;
    current = λ i o. nothing;
    told = λ c b. nothing;
    read_from = λ x v. nothing;
    stores = λ x v. nothing;
    sees = λ n o m. Unit {0};
    reason = λ r why. nothing;
    threw = λ e. nothing;
    out = λ r i why n h. tt;
  }

  abbrev law : StateLaw A
  unfolding with_event made with_stored with_created with_active without covering
  law = record {
    facts = no_facts;
    now = λ s. tt;
    goes = λ s t. AreFirst t.noted → AreFirst s.noted;
    goes_nowhere = λ s h. h;
    goes_on = λ s t u g h f. g (h f);
    goes_later = λ s t g. tt;
    part = λ s. AreFirst s.noted;
    part_before = λ s t g f. g f;
    inv = λ r s. Inv s.noted s.store;
    inv_body = λ i s. (λ h. h, λ h. h);
    stopped = λ why n. Unit {0};
    stopped_plainly = λ why h n. tt;
    stopped_later = λ why m n le h. tt;
    stopped_failed = λ e n h. tt;
    event_seen = λ r s n i. tt;
    begun_told = λ r s c i. tt;
    frame_known = λ i s j. tt;
    slot_known = λ r s x i h. tt;
    goes_quietly = λ s a b c i h. h;
    inv_quietly = λ r s a b c l i. i;
    goes_declared = λ s f k h. h;
    inv_declared = λ r s f k i h. inv_declared f k s i;
    goes_recorded = λ s d c h. h.1;
    inv_recorded = λ r s d c g room h i v e. inv_event d c s s.store (λ x. left_noted A p d c s x g) h i;
    made_recorded = λ s d c h e. tt;
    goes_stored = λ t x h f. f;
    inv_stored = λ r s d c g room h i x y v e. inv_event d c s _ (λ z. left_written A p d c s z g) h i;
    goes_created = λ s d c f. f;
    inv_created = λ r s d c g room h i v e. inv_event d c s _ (λ z. left_created A p d c s z g) h i;
    goes_printed = λ t bytes f. f;
    inv_printed = λ r t bytes h j. j;
    goes_active = λ t entries f. f;
    inv_entered = λ r reach s t d c k a b i j g. j;
    inv_again = λ r s t g i j. j;
    inv_without = λ r f n t j. j;
    goes_framed = λ t f h. h;
    inv_within = λ r i n s j h. j;
    inv_outside = λ r i n s t g j k. k;
    goes_ended = λ s t k g. g;
    goes_left = λ s t k e g. g;
    inv_begun = λ r s k i. i;
    inv_ended = λ r t k j. j;
    inv_left = λ r t k why h j. j;
    inv_stopped = λ r t k why h j. j;
    now_covered = λ t k f. tt;
    part_covered = λ t k f h. h;
  }

  unfoldable whole : Uniform A
  unfolding law law_of counted steps_of
  whole = record {
    law = law_of A law;
    made_as = λ k e. nothing;
    object = λ n. nothing;
    left = λ e. nothing;
    jump_reason = λ r target e n h. tt;
    return_reason = λ r e v n h k. tt;
    throw_reason = λ r e v n h k. tt;
    of_jump = λ r target e n h. tt;
    of_return = λ r e v n h. (tt, tt);
    of_throw = λ r e v n h. (tt, tt);
    storable = λ x v n h k. tt;
    plain_value = λ v h n. tt;
    carried_value = λ c n h. tt;
    object_value = λ e n h. tt;
    text_value = λ e n h. tt;
    object_at = λ k n h. tt;
    constant_fits = λ v n h. tt;
    with_value_fits = λ v c n h k. tt;
    joined_fits = λ v x y n h k l. tt;
    value_of_fits = λ k e v h n l m. tt;
    chosen_fits = λ e c n h k. tt;
    read_fits = λ x v n h. tt;
    made_is = λ x e n h. tt;
    throw_made = λ e n h. tt;
    jump_made = λ e n h. tt;
    return_made = λ e n h. tt;
    call_made = λ m e n h. tt;
    init_made = λ c e n h. tt;
    static_place = λ f n. tt;
    local_place = λ i f k n h. tt;
    current_place = λ i o k n h. tt;
    field_place = λ o f n h. tt;
    element_place = λ a k n h. tt;
  }

  -- from a state whose stores hold that, with the records of which its end has the first
  pub run_holds : (s : State A) → AreFirst (end (main_run (world p depth_limit) s)).noted → Inv s.noted s.store → Inv (end (main_run (world p depth_limit) s)).noted (end (main_run (world p depth_limit) s)).store
  unfolding law law_of counted steps_of whole
  run_holds s first i = (((runs_keep A whole nothing).by s).kept first i tt).0
