-- What agrees still agrees, where one thing changes on both sides.
use Rattle.std.proofs.Common.{◌≡◌, ◌≤◌, ◌<◌, ◌∙◌, ℕ, List, length, set, get_or, Option, sym, ap, arith, inl, inr, get_or-set_same, get_or-set_other}
use Rattle.std.specs.Prelude.{if◌then◌else◌}
use Rattle.std.proofs.lemmas.Bool.Decides.{eqb_tells}
use Rattle.std.proofs.lemmas.List.{length-set}
use Rattle.wy_kernel.specs.Program.{Program}
use Rattle.wy_event.specs.declared.record.Cover.{Cover}
use Rattle.wy_steps.specs.Sets.{nothing}
use Rattle.wy_steps.specs.State.{State, Store, Active, Covered}
use Rattle.wy_steps.specs.Steps.{cover_with}
use Rattle.wy_calls.specs.Calls.{CallFrame, event_of}
use Rattle.wy_state.specs.Agrees.{Shape, Agrees, Fall, HasCovers, HasFreshLocals, HasFreshStatics, HasLocals, HasSlots, IsUnmade}
use Rattle.wy_state.specs.Seen.{blank, covered_of}

module _ (p : Program) (m : Shape) (s : State nothing) where
  pub with_left : (x y : ℕ) → y ≡ x → Agrees p m s → Agrees p (record m { left = x }) (record s { left = y })
  with_left x y is a = record {
    events = a.events;
    kept = a.kept;
    uses = a.uses;
    left = is;
    elements = a.elements;
    units = a.units;
    output = a.output;
    input = a.input;
    active = a.active;
    frame = a.frame;
    covers = a.covers;
    throws = a.throws;
    fall = a.fall;
    locals = a.locals;
    fresh_locals = a.fresh_locals;
    same_plan = a.same_plan;
    slots = a.slots;
    fresh_statics = a.fresh_statics;
    unmade = a.unmade;
    codes = a.codes;
    sizes = a.sizes;
    texts = a.texts;
    begun = a.begun;
  }

  pub with_elements : (x y : ℕ) → y ≡ x → Agrees p m s → Agrees p (record m { elements = x }) (record s { elements = y })
  with_elements x y is a = record {
    events = a.events;
    kept = a.kept;
    uses = a.uses;
    left = a.left;
    elements = is;
    units = a.units;
    output = a.output;
    input = a.input;
    active = a.active;
    frame = a.frame;
    covers = a.covers;
    throws = a.throws;
    fall = a.fall;
    locals = a.locals;
    fresh_locals = a.fresh_locals;
    same_plan = a.same_plan;
    slots = a.slots;
    fresh_statics = a.fresh_statics;
    unmade = a.unmade;
    codes = a.codes;
    sizes = a.sizes;
    texts = a.texts;
    begun = a.begun;
  }

  pub with_units : (x y : ℕ) → y ≡ x → Agrees p m s → Agrees p (record m { units = x }) (record s { units = y })
  with_units x y is a = record {
    events = a.events;
    kept = a.kept;
    uses = a.uses;
    left = a.left;
    elements = a.elements;
    units = is;
    output = a.output;
    input = a.input;
    active = a.active;
    frame = a.frame;
    covers = a.covers;
    throws = a.throws;
    fall = a.fall;
    locals = a.locals;
    fresh_locals = a.fresh_locals;
    same_plan = a.same_plan;
    slots = a.slots;
    fresh_statics = a.fresh_statics;
    unmade = a.unmade;
    codes = a.codes;
    sizes = a.sizes;
    texts = a.texts;
    begun = a.begun;
  }

  pub with_input : (x y : List ℕ) → y ≡ x → Agrees p m s → Agrees p (record m { input = x }) (record s { input = y })
  with_input x y is a = record {
    events = a.events;
    kept = a.kept;
    uses = a.uses;
    left = a.left;
    elements = a.elements;
    units = a.units;
    output = a.output;
    input = is;
    active = a.active;
    frame = a.frame;
    covers = a.covers;
    throws = a.throws;
    fall = a.fall;
    locals = a.locals;
    fresh_locals = a.fresh_locals;
    same_plan = a.same_plan;
    slots = a.slots;
    fresh_statics = a.fresh_statics;
    unmade = a.unmade;
    codes = a.codes;
    sizes = a.sizes;
    texts = a.texts;
    begun = a.begun;
  }

  pub with_output : (x y : List ℕ) → y ≡ x → Agrees p m s → Agrees p (record m { output = x }) (record s { output = y })
  with_output x y is a = record {
    events = a.events;
    kept = a.kept;
    uses = a.uses;
    left = a.left;
    elements = a.elements;
    units = a.units;
    output = is;
    input = a.input;
    active = a.active;
    frame = a.frame;
    covers = a.covers;
    throws = a.throws;
    fall = a.fall;
    locals = a.locals;
    fresh_locals = a.fresh_locals;
    same_plan = a.same_plan;
    slots = a.slots;
    fresh_statics = a.fresh_statics;
    unmade = a.unmade;
    codes = a.codes;
    sizes = a.sizes;
    texts = a.texts;
    begun = a.begun;
  }

  pub with_covers : (cs : List Cover) (f : ℕ → Covered) → HasCovers f cs → Agrees p m s → Agrees p (record m { covers = cs }) (record s { coverage = f })
  with_covers cs f has a = record {
    events = a.events;
    kept = a.kept;
    uses = a.uses;
    left = a.left;
    elements = a.elements;
    units = a.units;
    output = a.output;
    input = a.input;
    active = a.active;
    frame = a.frame;
    covers = has;
    throws = a.throws;
    fall = a.fall;
    locals = a.locals;
    fresh_locals = a.fresh_locals;
    same_plan = a.same_plan;
    slots = a.slots;
    fresh_statics = a.fresh_statics;
    unmade = a.unmade;
    codes = a.codes;
    sizes = a.sizes;
    texts = a.texts;
    begun = a.begun;
  }

  -- the same frames, and these entries
  pub with_entries : (es olds : List (Active nothing)) (ss : List (List (Active nothing))) → olds ≡ es → Agrees p m s →
      Agrees p (record m { calls = record { frames = m.calls.frames; active = es; scopes = ss } }) (record s { active = olds })
  with_entries es olds ss is a = record {
    events = a.events;
    kept = a.kept;
    uses = a.uses;
    left = a.left;
    elements = a.elements;
    units = a.units;
    output = a.output;
    input = a.input;
    active = is;
    frame = a.frame;
    covers = a.covers;
    throws = a.throws;
    fall = a.fall;
    locals = a.locals;
    fresh_locals = a.fresh_locals;
    same_plan = a.same_plan;
    slots = a.slots;
    fresh_statics = a.fresh_statics;
    unmade = a.unmade;
    codes = a.codes;
    sizes = a.sizes;
    texts = a.texts;
    begun = a.begun;
  }

  -- other frames, with their locals
  pub with_frames : (fs : List CallFrame) (entered : ℕ) (f : Option ℕ) → f ≡ event_of fs → Fall entered fs → HasLocals s.store fs → HasFreshLocals s.store entered → Agrees p m s →
      Agrees p (record m { calls = record { frames = fs; active = m.calls.active; scopes = m.calls.scopes }; entered = entered }) (record s { frame = f })
  with_frames fs entered f is falls has fresh a = record {
    events = a.events;
    kept = a.kept;
    uses = a.uses;
    left = a.left;
    elements = a.elements;
    units = a.units;
    output = a.output;
    input = a.input;
    active = a.active;
    frame = is;
    covers = a.covers;
    throws = a.throws;
    fall = falls;
    locals = has;
    fresh_locals = fresh;
    same_plan = a.same_plan;
    slots = a.slots;
    fresh_statics = a.fresh_statics;
    unmade = a.unmade;
    codes = a.codes;
    sizes = a.sizes;
    texts = a.texts;
    begun = a.begun;
  }

  -- other locals of the same frames, in another store that has the rest
  pub with_locals : (fs : List CallFrame) (store : Store nothing) → event_of fs ≡ event_of m.calls.frames → Fall m.entered fs → HasLocals store fs → HasFreshLocals store m.entered →
      HasSlots store m.heap → HasFreshStatics p store m.heap → ((n : ℕ) → m.events ≤ n → IsUnmade m.heap store n) → Agrees p m s →
      Agrees p (record m { calls = record { frames = fs; active = m.calls.active; scopes = m.calls.scopes } }) (record s { store = store })
  with_locals fs store same falls has fresh slots statics unmade a = record {
    events = a.events;
    kept = a.kept;
    uses = a.uses;
    left = a.left;
    elements = a.elements;
    units = a.units;
    output = a.output;
    input = a.input;
    active = a.active;
    frame = a.frame ∙ sym same;
    covers = a.covers;
    throws = a.throws;
    fall = falls;
    locals = has;
    fresh_locals = fresh;
    same_plan = a.same_plan;
    slots = slots;
    fresh_statics = statics;
    unmade = unmade;
    codes = a.codes;
    sizes = a.sizes;
    texts = a.texts;
    begun = a.begun;
  }

-- ---- coverage

pub covers_changed : (cs : List Cover) (k : ℕ) (c : Cover) (coverage : ℕ → Covered) (f : Covered → Covered) → k < length cs → covered_of c ≡ f (covered_of (get_or cs k blank)) → HasCovers coverage cs → HasCovers (cover_with k f coverage) (set cs k c)
unfolding cover_with
covers_changed cs k c coverage f lt is h n below = elim (eqb_tells n k) as (λ _. cover_with k f coverage n ≡ covered_of (get_or (set cs k c) n blank)) [
  | inl same ↦ ap (λ b. if b then f (coverage n) else coverage n) same.0 ∙ rw same.1 (ap f (h k lt) ∙ sym is ∙ ap covered_of (sym (get_or-set_same cs k c blank lt)))
  | inr other ↦ ap (λ b. if b then f (coverage n) else coverage n) other.0 ∙ h n (omega (arith, length-set cs k c, below)) ∙ ap covered_of (sym (get_or-set_other cs k n c blank other.1))
]
