-- What one event marks.
use Rattle.std.proofs.Common.{◌≡◌, ◌+◌, ◌*◌, ◌<◌, ◌≤◌, ℕ, zero, suc, Bool, true, false, ◌&&◌, ◌||◌, List, [], ◌∷◌, ◌++◌, length, take, get_or, Option, Some, refl, sym, ap, ap₂, ◌∙◌, append_assoc, append-nil, zero-add, arith}
use Rattle.std.specs.Prelude.{None as Absent}
use Rattle.std.specs.Prelude.{if◌then◌else◌, nat_eq}
use Rattle.std.proofs.lemmas.List.{take_more}
use Rattle.std.proofs.lemmas.List.Sums.{sum_by-append}
use Rattle.wy_event.specs.declared.record.Use.{Use}
use Rattle.wy_event.specs.declared.record.Use.TheVariants.{Place, Value, Choice}
use Rattle.wy_event.specs.declared.record.Slot.{Slot}
use Rattle.wy_event.specs.Numbers.{Numbers, none, only, union, union_of}
use Rattle.wy_event.specs.Record.{Recorded}
use Rattle.wy_event.specs.Sources.{Owners, Data, Choosing, Control, Source, with_role, use_source, use_sources, event_sources, last_write, is_data, source_events}
use Rattle.wy_view.specs.References.{UseBelow, UsesBelow}
use Rattle.wy_why.specs.Marks.{taken}
use Rattle.wy_why.specs.Uses.{is_place, places}

pub or_no : (b : Bool) → (b || false) ≡ b
or_no true = refl
or_no false = refl

pub nothing_taken : (all flow : Bool) (j : ℕ) → union_of only (taken all flow []) j ≡ false
unfolding source_events union_of none
nothing_taken true flow j = refl
nothing_taken false true j = refl
nothing_taken false false j = refl

-- a source by data
pub data_taken : (all flow : Bool) (e j : ℕ) → union_of only (taken all flow (with_role Data (Some e))) j ≡ ((all || flow) && nat_eq j e)
unfolding with_role source_events is_data union_of union only none
data_taken true flow e j = or_no (nat_eq j e)
data_taken false true e j = or_no (nat_eq j e)
data_taken false false e j = refl

-- a choice or the control parent
pub choice_taken : (all flow : Bool) (e j : ℕ) → union_of only (taken all flow (with_role Choosing (Some e))) j ≡ ((all || false) && nat_eq j e)
unfolding with_role source_events is_data union_of union only none
choice_taken true flow e j = or_no (nat_eq j e)
choice_taken false true e j = refl
choice_taken false false e j = refl

pub control_taken : (all flow : Bool) (e j : ℕ) → union_of only (taken all flow (with_role Control (Some e))) j ≡ ((all || false) && nat_eq j e)
unfolding with_role source_events is_data union_of union only none
control_taken true flow e j = or_no (nat_eq j e)
control_taken false true e j = refl
control_taken false false e j = refl

-- what a use marks, by what it is
module _ (owner : Owners) (rs : List Recorded) (all flow : Bool) (u : Use) (j : ℕ) where
  pub by_place : (x : Slot) (m : ℕ) (o : Option ℕ) → u ≡ Place x m → o ≡ last_write owner rs x m → union_of only (taken all flow (use_source owner rs u)) j ≡ union_of only (taken all flow (with_role Data o)) j
  unfolding use_source
  by_place x m o is wrote = ap (λ v. union_of only (taken all flow (use_source owner rs v)) j) is ∙ ap (λ p. union_of only (taken all flow (with_role Data p)) j) (sym wrote)

  pub by_nothing : (x : Slot) (m : ℕ) → u ≡ Place x m → Absent ≡ last_write owner rs x m → union_of only (taken all flow (use_source owner rs u)) j ≡ false
  unfolding with_role
  by_nothing x m is wrote = by_place x m Absent is wrote ∙ nothing_taken all flow j

  pub by_value : (e : ℕ) → u ≡ Value e → union_of only (taken all flow (use_source owner rs u)) j ≡ ((all || flow) && nat_eq j e)
  unfolding use_source
  by_value e is = ap (λ v. union_of only (taken all flow (use_source owner rs v)) j) is ∙ data_taken all flow e j

  pub by_choice : (e : ℕ) → u ≡ Choice e → union_of only (taken all flow (use_source owner rs u)) j ≡ ((all || false) && nat_eq j e)
  unfolding use_source
  by_choice e is = ap (λ v. union_of only (taken all flow (use_source owner rs v)) j) is ∙ choice_taken all flow e j

pub source_events-append : (all : Bool) (a b : List Source) → source_events all (a ++ b) ≡ source_events all a ++ source_events all b
unfolding source_events
source_events-append all [] b = refl
source_events-append all (s ∷ a) b = go (all || is_data s.role) (source_events-append all a b)
  where
    go : (d : Bool) → source_events all (a ++ b) ≡ source_events all a ++ source_events all b → (if d then s.event ∷ source_events all (a ++ b) else source_events all (a ++ b)) ≡ (if d then s.event ∷ source_events all a else source_events all a) ++ source_events all b
    go true is = ap (λ l. s.event ∷ l) is
    go false is = is

taken-append : (all flow : Bool) (a b : List Source) → taken all flow (a ++ b) ≡ taken all flow a ++ taken all flow b
taken-append true flow a b = source_events-append true a b
taken-append false true a b = source_events-append false a b
taken-append false false a b = refl

union_of-append : (f : ℕ → Numbers) (a b : List ℕ) (j : ℕ) → union_of f (a ++ b) j ≡ (union_of f a j || union_of f b j)
unfolding union_of union none
union_of-append f [] b j = refl
union_of-append f (w ∷ a) b j = ap (λ t. f w j || t) (union_of-append f a b j) ∙ go (f w j)
  where
    go : (x : Bool) → (x || (union_of f a j || union_of f b j)) ≡ ((x || union_of f a j) || union_of f b j)
    go true = refl
    go false = refl

-- one after another
pub more_taken : (all flow : Bool) (a b : List Source) (j : ℕ) → union_of only (taken all flow (a ++ b)) j ≡ (union_of only (taken all flow a) j || union_of only (taken all flow b) j)
more_taken all flow a b j = ap (λ l. union_of only l j) (taken-append all flow a b) ∙ union_of-append only (taken all flow a) (taken all flow b) j

-- ---- uses in a row

module _ (owner : Owners) (rs : List Recorded) where
  use_sources-append : (a b : List Use) → use_sources owner rs (a ++ b) ≡ use_sources owner rs a ++ use_sources owner rs b
  unfolding use_sources
  use_sources-append [] b = refl
  use_sources-append (u ∷ a) b = ap (λ l. use_source owner rs u ++ l) (use_sources-append a b) ∙ sym (append_assoc (use_source owner rs u) (use_sources owner rs a) (use_sources owner rs b))

  pub one_more_use : (us : List Use) (i : ℕ) (d : Use) → i < length us → use_sources owner rs (take (i + 1) us) ≡ use_sources owner rs (take i us) ++ use_source owner rs (get_or us i d)
  unfolding use_sources
  one_more_use us i d lt =
      ap (use_sources owner rs) (take_more us i d lt)
      ∙ use_sources-append (take i us) (get_or us i d ∷ [])
      ∙ ap (λ l. use_sources owner rs (take i us) ++ l) (append-nil (use_source owner rs (get_or us i d)))

pub one_more_place : (us : List Use) (i : ℕ) (d : Use) → i < length us → places (take (i + 1) us) ≡ places (take i us) + is_place (get_or us i d)
one_more_place us i d lt = ap places (take_more us i d lt) ∙ sum_by-append is_place (take i us) (get_or us i d ∷ []) ∙ ap (λ n. places (take i us) + n) (zero-add (is_place (get_or us i d)))

pub use_below : (n : ℕ) (us : List Use) (i : ℕ) (d : Use) → UsesBelow n us → i < length us → UseBelow n (get_or us i d)
use_below n [] i d below lt = absurd (omega (arith, lt))
use_below n (v ∷ us) zero d below lt = below.0
use_below n (v ∷ us) (suc i) d below lt = use_below n us i d below.1 (omega (arith, lt))

pub or_more : (a b c : Bool) → ((a || b) || c) ≡ (a || (b || c))
or_more true b c = refl
or_more false b c = refl

pub more_steps : (first mid last a b l : ℕ) → mid ≤ first + a * (l + 1) → last ≤ mid + b * (l + 1) → last ≤ first + (a + b) * (l + 1)
more_steps first mid last a b l le more = omega (arith, le, more)

-- ---- an event's sources

module _ (owner : Owners) (rs : List Recorded) (all flow : Bool) (e : Recorded) (j : ℕ) where
  both_parts : (a b c x y : Bool) → a ≡ (b || x) → c ≡ (a || y) → c ≡ (b || (x || y))
  both_parts a b c x y first second = second ∙ ap (λ t. t || y) first ∙ or_more b x y

  pub with_parent : (us : List Use) (p : ℕ) (old mid new : Bool) → us ≡ e.uses → e.control ≡ Some p → mid ≡ (old || union_of only (taken all flow (use_sources owner rs us)) j) → new ≡ (mid || ((all || false) && nat_eq j p))
      → new ≡ (old || union_of only (taken all flow (event_sources owner rs e)) j)
  unfolding event_sources
  with_parent us p old mid new is parent first second =
      both_parts mid old new _ _ first second
      ∙ ap (λ b. old || b)
      (ap₂ (λ a b. a || b) (ap (λ l. union_of only (taken all flow (use_sources owner rs l)) j) is) (sym (ap (λ o. union_of only (taken all flow (with_role Control o)) j) parent ∙ control_taken all flow p j))
      ∙ sym (more_taken all flow (use_sources owner rs e.uses) (with_role Control e.control) j))

  pub without_parent : (us : List Use) (old new : Bool) → us ≡ e.uses → e.control ≡ Absent → new ≡ (old || union_of only (taken all flow (use_sources owner rs us)) j)
      → new ≡ (old || union_of only (taken all flow (event_sources owner rs e)) j)
  unfolding event_sources with_role
  without_parent us old new is none first =
      first ∙ ap (λ l. old || union_of only (taken all flow l) j)
      (ap (use_sources owner rs) is ∙ sym (append-nil (use_sources owner rs e.uses)) ∙ ap (λ o. use_sources owner rs e.uses ++ with_role Control o) (sym none))
