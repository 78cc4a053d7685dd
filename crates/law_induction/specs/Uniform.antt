-- A law that knows the same of values wherever they stand: each may be stored, passed and given back. Then one thing has to be shown of
-- each kind of value, event and slot, and every form keeps the law.
use Rattle.std.specs.Prelude.{ℕ, Option}
use Rattle.wy_value.specs.declared.value.Value.{Value}
use Rattle.wy_value.specs.declared.value.Value.TheVariants as val
use Rattle.wy_event.specs.declared.record.Kind.{Kind}
use Rattle.wy_event.specs.declared.record.Kind.TheVariants as kind
use Rattle.wy_event.specs.declared.record.Slot.{Slot}
use Rattle.wy_event.specs.declared.record.Slot.TheVariants as slot_at
use Rattle.wy_steps.specs.Sets.{Sets}
use Rattle.wy_steps.specs.State.{Carried, Jumped, Returned, Threw}
use Rattle.wy_steps.specs.Steps.{Made, Draft, constant, with_value, joined, value_of, chosen, code_of}
use Rattle.law_induction.specs.Law.{Fact, FrameKind, OfCall, OfInit, Region, Law}

abbrev pub IsNoReference : Value → Type 0
IsNoReference (val.Object n) = ⊥
IsNoReference (val.Text n) = ⊥
IsNoReference _ = Unit {0}

abbrev pub IsValued : Kind → Type 0
IsValued kind.New = Unit {0}
IsValued kind.Set = Unit {0}
IsValued kind.Test = Unit {0}
IsValued kind.Text = Unit {0}
IsValued kind.Read = Unit {0}
IsValued kind.Return = Unit {0}
IsValued kind.Throw = Unit {0}
IsValued _ = ⊥

pub record Uniform (A : Sets) : Type 1 where
  pub law : Law A
  pub open law use *
  -- an event of a kind, the number of an object, and what left a body
  pub made_as : Kind → Made A → Fact moments
  pub object : ℕ → Fact moments
  pub left : ℕ → Fact moments
  -- reasons
  pub jump_reason : (r : Region) (target e : ℕ) (n : moments.moment) → (left e).holds n → (reason r (Jumped target e)).holds n
  pub return_reason : (r : Region) (e : ℕ) (v : Carried A) (n : moments.moment) → (left e).holds n → (fit v).holds n → (reason r (Returned e v)).holds n
  pub throw_reason : (r : Region) (e : ℕ) (v : Carried A) (n : moments.moment) → (threw e).holds n → (fit v).holds n → (reason r (Threw e v)).holds n
  pub of_jump : (r : Region) (target e : ℕ) (n : moments.moment) → (reason r (Jumped target e)).holds n → (left e).holds n
  pub of_return : (r : Region) (e : ℕ) (v : Carried A) (n : moments.moment) → (reason r (Returned e v)).holds n → (left e).holds n × (fit v).holds n
  pub of_throw : (r : Region) (e : ℕ) (v : Carried A) (n : moments.moment) → (reason r (Threw e v)).holds n → (threw e).holds n × (fit v).holds n
  pub storable : (x : Slot) (v : Value) (n : moments.moment) → (place x).holds n → (value v).holds n → (stores x v).holds n
  -- values
  pub plain_value : (v : Value) → IsNoReference v → (n : moments.moment) → (value v).holds n
  pub carried_value : (c : Carried A) (n : moments.moment) → (fit c).holds n → (value c.value).holds n
  pub object_value : (e : Made A) (n : moments.moment) → (made_as kind.New e).holds n → (value (val.Object e.number)).holds n
  pub text_value : (e : Made A) (n : moments.moment) → (made_as kind.Text e).holds n → (value (val.Text e.number)).holds n
  pub object_at : (k : ℕ) (n : moments.moment) → (value (val.Object k)).holds n → (object k).holds n
  pub constant_fits : (v : Value) (n : moments.moment) → (value v).holds n → (fit (constant v)).holds n
  pub with_value_fits : (v : Value) (c : Carried A) (n : moments.moment) → (value v).holds n → (fit c).holds n → (fit (with_value v c)).holds n
  pub joined_fits : (v : Value) (x y : Carried A) (n : moments.moment) → (value v).holds n → (fit x).holds n → (fit y).holds n → (fit (joined v x y)).holds n
  pub value_of_fits : (k : Kind) (e : Made A) (v : Value) → IsValued k → (n : moments.moment) → (made_as k e).holds n → (value v).holds n → (fit (value_of e v)).holds n
  pub chosen_fits : (e : Made A) (c : Carried A) (n : moments.moment) → (made_as kind.Test e).holds n → (fit c).holds n → (fit (chosen e c)).holds n
  pub read_fits : (x : Slot) (v : Carried A) (n : moments.moment) → (read_from x v).holds n → (fit v).holds n
  -- events
  pub made_is : (d : Draft) (e : Made A) (n : moments.moment) → (made d e).holds n → (made_as d.kind e).holds n
  pub throw_made : (e : Made A) (n : moments.moment) → (made_as kind.Throw e).holds n → (threw e.number).holds n
  pub jump_made : (e : Made A) (n : moments.moment) → (made_as kind.Jump e).holds n → (left e.number).holds n
  pub return_made : (e : Made A) (n : moments.moment) → (made_as kind.Return e).holds n → (left e.number).holds n
  pub call_made : (m : ℕ) (e : Made A) (n : moments.moment) → (made_as kind.Call e).holds n → (body (OfCall m) e.number).holds n
  pub init_made : (c : ℕ) (e : Made A) (n : moments.moment) → (made_as kind.Init e).holds n → (body (OfInit c) e.number).holds n
  -- places
  pub static_place : (f : ℕ) (n : moments.moment) → (place (slot_at.Static f)).holds n
  pub local_place : (i : FrameKind) (f k : ℕ) (n : moments.moment) → (body i f).holds n → (place (slot_at.Local f k)).holds n
  pub current_place : (i : FrameKind) (o : Option ℕ) (k : ℕ) (n : moments.moment) → (current i o).holds n → (place (slot_at.Local (code_of o) k)).holds n
  pub field_place : (o f : ℕ) (n : moments.moment) → (object o).holds n → (place (slot_at.Field o f)).holds n
  pub element_place : (a k : ℕ) (n : moments.moment) → (object a).holds n → (place (slot_at.Elem a k)).holds n
