-- A run with more steps left goes at least as far: an instance of the induction over runs, which needs to know nothing of values.
use Rattle.std.proofs.Common.{◌≡◌, ℕ, zero, suc, Bool, true, false, ◌≤◌, refl, arith}
use Rattle.wy_kernel.specs.Program.{Program}
use Rattle.wy_steps.specs.Sets.{Sets}
use Rattle.wy_steps.specs.State.{Carried, Run, choose}
use Rattle.wy_kernel.specs.Limits.{depth_limit}
use Rattle.wy_steps.specs.Steps.{Made, Draft}
use Rattle.wy_meaning.specs.Statement.{turns, while_form, do_form}
use Rattle.wy_meaning.specs.Run.{world, main_run}
use Rattle.law_induction.specs.Law.{nothing, Recording, noted, created, Facts, StepLaw}
use Rattle.law_induction.specs.Uniform.{Uniform}
use Rattle.law_induction.proofs.Theorem.{runs_keep}
use Rattle.law_budget.proofs.LongerRules.{Further, Longer, further_bind, further_after, further_stop, bind, after, with_steps, longer_catching, longer_choose, longer_return, longer_leave, longer_stop, longer_tick, longer_frame, longer_event_at, longer_is_begun, longer_read, longer_declare, longer_take_elements, longer_take_units, longer_room_for_output, longer_write_out, longer_next_byte, longer_note, longer_note_write, longer_note_new, longer_scoped, longer_reaching, longer_in_frame, longer_activating, longer_covered}

module _ (A : Sets) (d : ℕ) where
  -- ---- loops

  longer_turns : (n : ℕ) (test : Run A Bool) (m : Run A Unit) → Longer A d test → Longer A d m → Longer A d (turns n test m)
  unfolding turns
  longer_turns zero test m ht hm = longer_stop A d _
  longer_turns (suc n) test m ht hm = bind A d ht (λ b. longer_choose A d b (after A d hm (longer_turns n test m ht hm)) (longer_return A d tt))

  further_choose : (b : Bool) (m k l : Run A Unit) → Further A d m k → Longer A d l → Further A d (choose b m l) (choose b k l)
  unfolding choose
  further_choose true m k l h hl = h
  further_choose false m k l h hl = hl.by

  -- a loop that may take more turns goes further
  further_turns : (n j : ℕ) (test : Run A Bool) (m : Run A Unit) → n ≤ j → Longer A d test → Longer A d m → Further A d (turns n test m) (turns j test m)
  unfolding turns
  further_turns zero j test m le ht hm = further_stop A d (λ s. (longer_turns j test m ht hm).by.grows s)
  further_turns (suc n) zero test m le ht hm = absurd (omega (arith, le))
  further_turns (suc n) (suc j) test m le ht hm = further_bind A d ht.by (λ b. further_choose b _ _ _ (further_after A d hm.by (further_turns n j test m (omega (arith, le)) ht hm)) (longer_return A d tt))

  longer_while : (test : Run A Bool) (m : Run A Unit) → Longer A d test → Longer A d m → Longer A d (while_form test m)
  unfolding while_form
  longer_while test m ht hm = with_steps A d (λ n j le. further_turns (suc n) (suc j) test m (omega (arith, le)) ht hm)

  longer_do : (m : Run A Unit) (test : Run A Bool) → Longer A d m → Longer A d test → Longer A d (do_form m test)
  unfolding do_form
  longer_do m test hm ht = with_steps A d (λ n j le. further_after A d hm.by (further_turns (suc n) (suc j) test m (omega (arith, le)) ht hm))

  -- ---- the law

  no_facts : Program → Facts A
  no_facts p = record {
    program = p;
    moments = record { moment = Unit {0}; later = λ m n. Unit {0} };
    fit = λ v. nothing;
    value = λ v. nothing;
    place = λ x. nothing;
    made = λ k e. nothing;
    body = λ i n. nothing;
    current = λ i o. nothing;
    told = λ c b. nothing;
    read_from = λ x v. nothing;
    stores = λ x v. nothing;
    sees = λ n o m. Unit {0};
    reason = λ r why. nothing;
    threw = λ e. nothing;
    out = λ r i why n h. tt;
  }

  chosen_longer : {X : Type 0} (b : Bool) (m k : Run A X) → (b ≡ true → Longer A d m) → (b ≡ false → Longer A d k) → Longer A d (choose b m k)
  unfolding choose
  chosen_longer true m k h l = h refl
  chosen_longer false m k h l = l refl

  recorded_longer : (p : Program) (x : Draft) (c : Carried A) (m : Run A (Made A)) → Recording p x c m → Longer A d m
  recorded_longer p x c m (noted x1 c1 g) = longer_note A d x1 c1
  recorded_longer p x c m (created x1 c1 g) = longer_note_new A d p x1 c1

  steps : Program → StepLaw A
  unfolding no_facts
  steps p = record {
    facts = no_facts p;
    keeps = λ r {X} P m Q. Longer A d m;
    weakens = λ r {X} P P' m Q k e. k;
    gives_less = λ r {X} P m Q S k e. k;
    binds = λ r {X} {Y} P m Q f S h l. bind A d h l;
    returns = λ r {X} P x Q e. longer_return A d x;
    leaves = λ r {X} P why Q e. longer_leave A d why;
    stops = λ r {X} P why Q h. longer_stop A d why;
    fails = λ r {X} P e Q h. longer_stop A d _;
    catches = λ r {X} P m f Q h l. longer_catching A d h l;
    catches_last = λ i {X} P m f Q h l. longer_catching A d h l;
    chooses = λ r {X} P b m k Q h l. chosen_longer b m k h l;
    ticks = λ r P. longer_tick A d;
    frames = λ i P. longer_frame A d;
    looks = λ r P n Q h. longer_event_at A d n;
    asks = λ r P c. longer_is_begun A d c;
    takes_elements = λ r P n. longer_take_elements A d n;
    takes_units = λ r P n. longer_take_units A d n;
    takes_byte = λ r P. longer_next_byte A d;
    reads = λ r P x e. longer_read A d x;
    declares = λ r P f k e. longer_declare A d _;
    records = λ r P x c m g v e. recorded_longer p x c m g;
    enters = λ r P reach x c m g t v e. longer_activating A d reach (recorded_longer p x c m g);
    writes = λ r P x c g s y v e. longer_note_write A d x c;
    enters_writing = λ r P reach x c g t s y v e. longer_activating A d reach (longer_note_write A d x c);
    prints = λ r P x c bytes g v e. after A d (longer_room_for_output A d bytes) (bind A d (longer_note A d x c) (λ n. longer_write_out A d bytes));
    scopes = λ r {X} P m Q h. longer_scoped A d h;
    reaches = λ r {X} P n m Q h. longer_reaching A d n h;
    runs_in = λ r {X} P i n m Q e h. longer_in_frame A d n h;
    covers = λ r P n m h. longer_covered A d n h;
  }

  whole : Program → Uniform A
  unfolding no_facts steps
  whole p = record {
    law = record {
      steps = steps p;
      whiles = λ r P test m ht hm. longer_while test m (ht nothing) (hm nothing);
      dos = λ r P test m ht hm. longer_do m test (hm nothing) (ht nothing);
    };
    made_as = λ k e. nothing;
    object = λ n. nothing;
    left = λ e. nothing;
    jump_reason = λ r target e n h. tt;
    return_reason = λ r e v n h k. tt;
    throw_reason = λ r e v n h k. tt;
    of_jump = λ r target e n h. tt;
    of_return = λ r e v n h. (tt, tt);
    of_throw = λ r e v n h. (tt, tt);
    storable = λ x v n h k. tt;
    plain_value = λ v h n. tt;
    carried_value = λ c n h. tt;
    object_value = λ e n h. tt;
    text_value = λ e n h. tt;
    object_at = λ k n h. tt;
    constant_fits = λ v n h. tt;
    with_value_fits = λ v c n h k. tt;
    joined_fits = λ v x y n h k l. tt;
    value_of_fits = λ k e v h n l m. tt;
    chosen_fits = λ e c n h k. tt;
    read_fits = λ x v n h. tt;
    made_is = λ x e n h. tt;
    throw_made = λ e n h. tt;
    jump_made = λ e n h. tt;
    return_made = λ e n h. tt;
    call_made = λ m e n h. tt;
    init_made = λ c e n h. tt;
    static_place = λ f n. tt;
    local_place = λ i f k n h. tt;
    current_place = λ i o k n h. tt;
    field_place = λ o f n h. tt;
    element_place = λ a k n h. tt;
  }

  pub run_longer : (p : Program) → Longer A d (main_run (world p depth_limit))
  unfolding whole steps no_facts
  run_longer p = runs_keep A (whole p) nothing
