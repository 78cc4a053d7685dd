-- What why tells over the trace of a run is what the run carried.
use Rattle.std.proofs.Common.{◌≡◌, ◌∙◌, sym, subst, refl, ℕ, zero, suc, ◌<◌, ◌≤◌, Bool, true, false, cond, List, [], ◌∷◌, length, map, Option, Some, None, Result, Ok, Err, arith}
use Rattle.std.specs.Prelude.{All, slice_get, nat_le, nat_lt}
use Rattle.std.proofs.lemmas.Bool.{leb-true, ltb-true}
use Rattle.std.proofs.lemmas.List.{length-map}
use Rattle.wy_kernel.specs.declared.program.Program as memory
use Rattle.wy_kernel.specs.Program.{Program}
use Rattle.wy_kernel.specs.Parts.{program_of}
use Rattle.wy_value.specs.declared.value.Value.{Value}
use Rattle.wy_value.specs.declared.value.Value.TheVariants as val
use Rattle.wy_event.specs.declared.record.Version.{Version}
use Rattle.wy_event.specs.declared.record.Version.TheVariants as version
use Rattle.wy_event.specs.Record.{Recorded, recorded}
use Rattle.wy_event.specs.Sources.{Owners, closure, data_closure, last_write, written, creation, is_so, or_else, writes, creates}
use Rattle.wy_event.specs.declared.record.Kind.{Kind}
use Rattle.wy_event.specs.declared.record.Kind.TheVariants as kind
use Rattle.wy_event.specs.declared.record.Slot.{Slot}
use Rattle.wy_event.specs.declared.record.Slot.TheVariants as slot
use Rattle.wy_event.specs.declared.record.Trace.{Trace}
use Rattle.wy_fitting.specs.Fits.{AllTold, IsTold, told, told_value, told_units}
use Rattle.wy_steps.specs.Sets.{nothing, numbers}
use Rattle.wy_steps.specs.State.{Held, Noted}
use Rattle.wy_steps.specs.Steps.{owner_in}
use Rattle.wy_meaning.specs.Run.{events, history}
use Rattle.law_carried.specs.Backward.{BackwardIsForward, StoredIsLastWrite, stored_at}
use Rattle.law_shaped.specs.Shaped.{RecordsAreShaped, Shaped, UnitsOf, ValueOf, IsNoValue}
use Rattle.wy_why.specs.Answer.{up_to}
use Rattle.wy_ask.specs.Asked.{event_of, owners, static_place, field_place, element_place, stored}
use Rattle.wy_ask.specs.Reading.{and_then}
use Rattle.wy_ask.specs.Questions.{Asked}
use Rattle.wy_ask.specs.Questions as question
use Rattle.wy_ask.proofs.Stores.{print_below}
use Rattle.wy_telling.specs.Answers.{Refused, NotRead, NoSuch, answered, not_there, not_read, marked_lines}
use Rattle.wy_telling.specs.Why.{WhyIs, why_text}
use Rattle.wy_reply.specs.ByRun.{CanTell}
use Rattle.wy_reply.specs.Tellings.{Wanted, Why, Tells, affects, certify, check, lacking, scoped, why, whynot, questions, explore, audit, migrated, output}
use Rattle.wy_reply.specs.Carried.{CarriedAnswer, Means, SameSets, static, field, element, local}

-- ---- bytes tell all of a run's records

nothing_is : (v : Value) → IsNoValue v → val.None ≡ v
nothing_is val.None h = refl
nothing_is (val.Bool b) h = absurd h
nothing_is (val.Byte z) h = absurd h
nothing_is (val.Short z) h = absurd h
nothing_is (val.Char u) h = absurd h
nothing_is (val.Int z) h = absurd h
nothing_is (val.Long z) h = absurd h
nothing_is val.Null h = absurd h
nothing_is (val.Object n) h = absurd h
nothing_is (val.Text n) h = absurd h
nothing_is (val.Fixed n) h = absurd h
nothing_is (val.Arm n) h = absurd h

value_is : (k : Kind) (v : Value) → ValueOf k v → told_value version.Two k v ≡ v
value_is kind.Text v h = nothing_is v h
value_is kind.Init v h = refl
value_is kind.New v h = refl
value_is kind.Call v h = refl
value_is kind.Bind v h = refl
value_is kind.Set v h = refl
value_is kind.Test v h = refl
value_is kind.Read v h = refl
value_is kind.Print v h = refl
value_is kind.Return v h = refl
value_is kind.Jump v h = refl
value_is kind.Throw v h = refl
value_is kind.Catch v h = refl

units_are : (k : Kind) (us : List ℕ) → UnitsOf k us → told_units k us ≡ us
units_are kind.Text us h = refl
units_are kind.Init [] h = refl
units_are kind.New [] h = refl
units_are kind.Call [] h = refl
units_are kind.Bind [] h = refl
units_are kind.Set [] h = refl
units_are kind.Test [] h = refl
units_are kind.Read [] h = refl
units_are kind.Print [] h = refl
units_are kind.Return [] h = refl
units_are kind.Jump [] h = refl
units_are kind.Throw [] h = refl
units_are kind.Catch [] h = refl
units_are kind.Init (u ∷ us) h = absurd h
units_are kind.New (u ∷ us) h = absurd h
units_are kind.Call (u ∷ us) h = absurd h
units_are kind.Bind (u ∷ us) h = absurd h
units_are kind.Set (u ∷ us) h = absurd h
units_are kind.Test (u ∷ us) h = absurd h
units_are kind.Read (u ∷ us) h = absurd h
units_are kind.Print (u ∷ us) h = absurd h
units_are kind.Return (u ∷ us) h = absurd h
units_are kind.Jump (u ∷ us) h = absurd h
units_are kind.Throw (u ∷ us) h = absurd h
units_are kind.Catch (u ∷ us) h = absurd h

shaped_is_told : (rs : List Recorded) (n : ℕ) (e : Recorded) → Shaped rs n e → IsTold version.Two e
unfolding told
shaped_is_told rs n e s = λ i. record {
  kind = e.kind;
  site = e.site;
  frame = e.frame;
  control = e.control;
  entity = e.entity;
  slot = e.slot;
  value = value_is e.kind e.value s.value_of_kind i;
  units = units_are e.kind e.units s.units_of_kind i;
  uses = e.uses;
}

-- what holds of each record by its number holds of all
all_by_number : (P : Recorded → Type 0) (rs : List Recorded) → ((n : ℕ) (e : Recorded) → slice_get rs n ≡ Some e → P e) → All P rs
all_by_number P [] each k d less = absurd (omega (arith, less))
all_by_number P (r ∷ rs) each zero d less = each 0 r refl
all_by_number P (r ∷ rs) each (suc k) d less = all_by_number P rs (λ n e at. each (suc n) e at) k d (omega (arith, less))

pub all_told : (p : Program) (input : List ℕ) (steps : ℕ) → RecordsAreShaped nothing p input steps → AllTold version.Two (events nothing p input steps)
all_told p input steps shaped = all_by_number (IsTold version.Two) (events nothing p input steps) (λ n e at. shaped_is_told (events nothing p input steps) n e (shaped n e at))

-- a version that can tell the events of a run tells all of them
pub told_in : (v : Version) (p : Program) (input : List ℕ) (steps : ℕ) → RecordsAreShaped nothing p input steps → CanTell v (events nothing p input steps) → AllTold v (events nothing p input steps)
told_in version.One p input steps shaped can = can
told_in version.Two p input steps shaped can = all_told p input steps shaped

-- ---- an answer is below the end

some_is : (a b : ℕ) → Some a ≡ Some b → a ≡ b
some_is a b e = cc

written_step : (b : Bool) (m w : ℕ) (o : Option ℕ) → (o ≡ Some w → w < m) → cond b (Some m) o ≡ Some w → w < suc m
written_step true m w o below e = let same = some_is m w e in omega (arith, same)
written_step false m w o below e = let le = below e in omega (arith, le)

written_below : (rs : List Recorded) (x : Slot) (m w : ℕ) → written rs x m ≡ Some w → w < m
unfolding written
written_below rs x zero w e = absurd (cc)
written_below rs x (suc m) w e = written_step (is_so (writes x) (slice_get rs m)) m w (written rs x m) (written_below rs x m w) e

created_step : (b : Bool) (m w : ℕ) (o : Option ℕ) → (o ≡ Some w → w < m) → or_else o (cond b (Some m) None) ≡ Some w → w < suc m
unfolding or_else
created_step b m w (Some n) below e = let le = below e in omega (arith, le)
created_step true m w None below e = let same = some_is m w e in omega (arith, same)
created_step false m w None below e = absurd (cc)

creation_below : (owner : Owners) (rs : List Recorded) (x : Slot) (m w : ℕ) → creation owner rs x m ≡ Some w → w < m
unfolding creation
creation_below owner rs x zero w e = absurd (cc)
creation_below owner rs x (suc m) w e = created_step (is_so (creates owner m x) (slice_get rs m)) m w (creation owner rs x m) (creation_below owner rs x m w) e

either_below : (o c : Option ℕ) (m w : ℕ) → (o ≡ Some w → w < m) → (c ≡ Some w → w < m) → or_else o c ≡ Some w → w < m
unfolding or_else
either_below (Some n) c m w first second e = first e
either_below None c m w first second e = second e

last_write_below : (owner : Owners) (rs : List Recorded) (x : Slot) (m w : ℕ) → last_write owner rs x m ≡ Some w → w < m
unfolding last_write
last_write_below owner rs x m w e = either_below (written rs x m) (creation owner rs x m) m w (written_below rs x m w) (creation_below owner rs x m w) e

-- what a question with a moment finds is the last write of its place below a moment that the trace reaches
pub record Found (owner : Owners) (rs : List Recorded) (place : Option Slot) (m w : ℕ) : Type 0 where
  pub reached : m ≤ length rs
  pub slot : Slot
  pub is_slot : place ≡ Some slot
  pub is_last : last_write owner rs slot m ≡ Some w

found_at : (b : Bool) (owner : Owners) (rs : List Recorded) (place : Option Slot) (m w : ℕ) → nat_le m (length rs) ≡ b → cond b (and_then place (λ x. last_write owner rs x m)) None ≡ Some w → Found owner rs place m w
found_at true owner rs (Some x) m w reached e = record { reached = leb-true _ _ reached; slot = x; is_slot = refl; is_last = e }
found_at true owner rs None m w reached e = absurd (cc)
found_at false owner rs place m w reached e = absurd (cc)

found : (owner : Owners) (rs : List Recorded) (place : Option Slot) (m w : ℕ) → stored owner rs place m ≡ Some w → Found owner rs place m w
found owner rs place m w e = found_at (nat_le m (length rs)) owner rs place m w refl e

found_below : (owner : Owners) (rs : List Recorded) (place : Option Slot) (m w : ℕ) → Found owner rs place m w → w < length rs
found_below owner rs place m w f = let a = f.reached in let b = last_write_below owner rs f.slot m w f.is_last in omega arith

number_below : (b : Bool) (n w m : ℕ) → nat_lt n m ≡ b → cond b (Some n) None ≡ Some w → w < m
number_below true n w m less e = let lt = ltb-true n m less in let same = some_is n w e in omega (arith, lt, same)
number_below false n w m less e = absurd (cc)

pub event_below : (p : Program) (rs : List Recorded) (q : Asked) (w : ℕ) → event_of p rs q ≡ Some w → w < length rs
event_below p rs (question.Print k) w e = print_below rs k (Some w) (sym e)
event_below p rs (question.Event n) w e = number_below (nat_lt n (length rs)) n w (length rs) refl e
event_below p rs (question.Static class name m) w e = found_below (owners p) rs (static_place p class name) m w (found (owners p) rs (static_place p class name) m w e)
event_below p rs (question.Field n class name m) w e = found_below (owners p) rs (field_place p rs n class name m) m w (found (owners p) rs (field_place p rs n class name m) m w e)
event_below p rs (question.Elem n i m) w e = found_below (owners p) rs (element_place rs n i m) m w (found (owners p) rs (element_place rs n i m) m w e)
event_below p rs (question.Local n i m) w e = found_below (owners p) rs (Some (slot.Local n i)) m w (found (owners p) rs (Some (slot.Local n i)) m w e)

-- ---- the answer

-- what is known of each run
pub record Runs (p : Program) (input : List ℕ) (steps : ℕ) : Type 0 where
  pub same : events numbers p input steps ≡ events nothing p input steps
  pub carried : BackwardIsForward p input steps
  pub stores : StoredIsLastWrite p input steps

pub noted_at : (l : List (Noted numbers)) (n : ℕ) → n < length (map (λ (e : Noted numbers). e.event) l) → (e : Noted numbers) × (slice_get l n ≡ Some e)
noted_at [] n less = absurd (omega (arith, less))
noted_at (e ∷ l) zero less = (e, refl)
noted_at (e ∷ l) (suc n) less = noted_at l n (omega (arith, less))

pub owners_are : (p : Program) → owners p ≡ owner_in p
unfolding owner_in
owners_are p = refl

placed : (p : Program) (rs : List Recorded) (place : Option Slot) (x : Slot) (m w : ℕ) → place ≡ Some x → Found (owners p) rs place m w → (m ≤ length rs) × (last_write (owners p) rs x m ≡ Some w)
placed p rs place x m w is f = let both : Some f.slot ≡ Some x = sym f.is_slot ∙ is in let same : f.slot ≡ x = cc in (f.reached, subst (λ (y : Slot). last_write (owners p) rs y m ≡ Some w) same f.is_last)

-- the records of a run are those of its history
pub history_length : (p : Program) (input : List ℕ) (steps : ℕ) → length (events numbers p input steps) ≡ length (history numbers p input steps)
unfolding events
history_length p input steps = length-map (history numbers p input steps) (λ (e : Noted numbers). e.event)

history_reached : (p : Program) (input : List ℕ) (steps m : ℕ) → m ≤ length (events numbers p input steps) → m ≤ length (history numbers p input steps)
history_reached p input steps m le = omega (arith, le, history_length p input steps)

history_below : (p : Program) (input : List ℕ) (steps w : ℕ) → w < length (events numbers p input steps) → w < length (map (λ (e : Noted numbers). e.event) (history numbers p input steps))
unfolding events
history_below p input steps w less = less

abbrev pub ok_text : List ℕ → Result (List ℕ) Refused
ok_text x = Ok x

pub ok_is : (x y : List ℕ) → ok_text x ≡ ok_text y → x ≡ y
ok_is x y e = cc

-- the place of a question with a moment, as what is found has it
place_found : (p : Program) (rs : List Recorded) (q : Asked) (x : Slot) (m w : ℕ) → Means p rs q x m → event_of p rs q ≡ Some w → (m ≤ length rs) × (last_write (owners p) rs x m ≡ Some w)
place_found p rs _ x m w (static class name _ _ is) e = placed p rs (static_place p class name) x m w is (found (owners p) rs (static_place p class name) m w e)
place_found p rs _ x m w (field object class name _ _ is) e = placed p rs (field_place p rs object class name m) x m w is (found (owners p) rs (field_place p rs object class name m) m w e)
place_found p rs _ x m w (element array index _ _ is) e = placed p rs (element_place rs array index m) x m w is (found (owners p) rs (element_place rs array index m) m w e)
place_found p rs _ x m w (local frame index _) e = placed p rs (Some x) x m w refl (found (owners p) rs (Some x) m w e)

held_is : (p : Program) (input : List ℕ) (steps : ℕ) → Runs p input steps → (q : Asked) (w : ℕ) (e : Noted numbers) → event_of p (events numbers p input steps) q ≡ Some w →
    slice_get (history numbers p input steps) w ≡ Some e → (x : Slot) (m : ℕ) → Means p (events numbers p input steps) q x m → (h : Held numbers) × (stored_at p input steps m x ≡ Some h) × SameSets h e
held_is p input steps run q w e is at x m means =
    let f = place_found p (events numbers p input steps) q x m w means is in
    let reached : m ≤ length (history numbers p input steps) = history_reached p input steps m f.0 in
    let h = run.stores m x w e reached (subst (λ (o : Owners). last_write o (events numbers p input steps) x m ≡ Some w) (owners_are p) f.1) at in
    (h.0, h.1, record { by_data = h.2; in_all = h.3 })

carried_text : (p : Program) (lines input : List ℕ) (steps w : ℕ) (e : Noted numbers) → Runs p input steps → slice_get (history numbers p input steps) w ≡ Some e →
    why_text p lines (events numbers p input steps) w ≡ marked_lines p lines (events numbers p input steps) e.from_data (up_to w e.from_all)
unfolding why_text
carried_text p lines input steps w e run at =
    let data-there : data_closure (owner_in p) (events numbers p input steps) w ≡ e.from_data = λ i k. (run.carried w e at k).0 i in
    let all-there : closure (owner_in p) (events numbers p input steps) w ≡ e.from_all = λ i k. (run.carried w e at k).1 i in
    let data-is = subst (λ (o : Owners). data_closure o (events numbers p input steps) w ≡ e.from_data) (sym (owners_are p)) data-there in
    let all-is = subst (λ (o : Owners). closure o (events numbers p input steps) w ≡ e.from_all) (sym (owners_are p)) all-there in
    λ i. marked_lines p lines (events numbers p input steps) (data-is i) (up_to w (all-is i))

answer_carried : (p : Program) (lines input : List ℕ) (steps : ℕ) (asks text : List ℕ) → Runs p input steps → (r : Result (List ℕ) Refused) → r ≡ Ok text → WhyIs p lines (events numbers p input steps) asks r →
    CarriedAnswer p lines input steps asks text
answer_carried p lines input steps asks text run _ same (answered q w is_asked is) =
    let e = noted_at (history numbers p input steps) w (history_below p input steps w (event_below p (events numbers p input steps) q w is)) in
    let texts : why_text p lines (events numbers p input steps) w ≡ text = ok_is _ _ same in
    record {
      asked = q;
      is_asked = is_asked;
      event = w;
      is_event = is;
      noted = e.0;
      is_noted = e.1;
      lists = sym texts ∙ carried_text p lines input steps w e.0 run e.1;
      stored = held_is p input steps run q w e.0 is e.1;
    }
answer_carried p lines input steps asks text run _ same (not_there q is_asked is) = absurd (cc)
answer_carried p lines input steps asks text run _ same (not_read none) = absurd (cc)

-- ---- what is told

tells_why : (p : memory.Program) (seal : List ℕ) (t : Trace) (w : Wanted) (s : ℕ) (x : List ℕ) → Tells p seal t w s x → (asks : List ℕ) → w ≡ Why asks → s ≡ 0 →
    (r : Result (List ℕ) Refused) × (r ≡ Ok x) × WhyIs (program_of p) p.lines.items (map recorded t.events) asks r
tells_why p seal t _ _ _ output asks same zero_is = absurd (cc)
tells_why p seal t _ _ _ (why question (Ok text) is) asks same zero_is = let e : question ≡ asks = cc in (Ok text, refl, subst (λ (q : List ℕ). WhyIs (program_of p) p.lines.items (map recorded t.events) q (Ok text)) e is)
tells_why p seal t _ _ _ (why question (Err NotRead) is) asks same zero_is = absurd (omega (arith, zero_is))
tells_why p seal t _ _ _ (why question (Err (NoSuch n)) is) asks same zero_is = absurd (omega (arith, zero_is))
tells_why p seal t _ _ _ (affects question answer is) asks same zero_is = absurd (cc)
tells_why p seal t _ _ _ questions asks same zero_is = absurd (cc)
tells_why p seal t _ _ _ (whynot word answer is) asks same zero_is = absurd (cc)
tells_why p seal t _ _ _ (explore input status text is) asks same zero_is = absurd (cc)
tells_why p seal t _ _ _ (audit v is) asks same zero_is = absurd (cc)
tells_why p seal t _ _ _ (certify question answer is) asks same zero_is = absurd (cc)
tells_why p seal t _ _ _ (scoped said call answer is) asks same zero_is = absurd (cc)
tells_why p seal t _ _ _ (check bytes r is judged) asks same zero_is = absurd (cc)
tells_why p seal t _ _ _ (lacking status text) asks same zero_is = absurd (cc)
tells_why p seal t _ _ _ migrated asks same zero_is = absurd (cc)

pub told_carried : (p : memory.Program) (seal : List ℕ) (t : Trace) (w : Wanted) (s : ℕ) (x : List ℕ) (input : List ℕ) (steps : ℕ) → Runs (program_of p) input steps → map recorded t.events ≡ events nothing (program_of p) input steps →
    Tells p seal t w s x → s ≡ 0 → (asks : List ℕ) → w ≡ Why asks → CarriedAnswer (program_of p) p.lines.items input steps asks x
told_carried p seal t w s x input steps run read tells done asks same =
    let r = tells_why p seal t w s x tells asks same done in
    answer_carried (program_of p) p.lines.items input steps asks x run r.0 r.1
    (subst (λ (rs : List Recorded). WhyIs (program_of p) p.lines.items rs asks r.0) (read ∙ sym run.same) r.2)
