-- Which event created a slot, found by what it made.
use Rattle.std.proofs.Common.{◌≡◌, ℕ, zero, suc, ◌+◌, ◌<◌, ◌≤◌, Bool, true, false, ◌&&◌, List, [], ◌∷◌, length, Option, Some, None, refl, sym, ap, ap₂, ◌∙◌, ⊎_elim, add-zero, zero-add, eq-eqb, ne_eqb, lt-ltb, le-ltb, arith}
use Rattle.std.specs.Prelude.{slice_get, if◌then◌else◌, nat_eq, unwrap_or, ◌^◌}
use Rattle.std.proofs.lemmas.Bool.{cases_lt, cases_eq}
use Rattle.std.proofs.lemmas.Option.{slice_get_within, none-some, same_Some}
use Rattle.wy_event.specs.declared.record.Kind.{Kind}
use Rattle.wy_event.specs.declared.record.Kind.TheVariants as kind
use Rattle.wy_event.specs.declared.record.Slot.{Slot}
use Rattle.wy_event.specs.declared.record.Slot.TheVariants as slot
use Rattle.wy_event.specs.Record.{Recorded}
use Rattle.wy_kernel.specs.View.{NONE, present}
use Rattle.wy_event.specs.Sources.{Owners, is_entity, creates_as, creates, is_so, or_else, creation}
use Rattle.wy_index.proofs.Numbers.{absent_number, present_number}
use Rattle.wy_index.specs.Found.{first_from, is_init, is_init_of, is_new, made_new, maker_of, earlier}

not_true : (b : Bool) → (b ≡ true → ⊥) → b ≡ false
not_true true h = absurd (h refl)
not_true false h = refl

module _ (owner : Owners) (rs : List Recorded) (x : Slot) where
  pub creation_none : (m : ℕ) → ((k : ℕ) (r : Recorded) → k < m → slice_get rs k ≡ Some r → creates owner k x r ≡ false) → creation owner rs x m ≡ None
  unfolding creation is_so or_else
  creation_none zero none = refl
  creation_none (suc m) none = ap₂ (λ o b. or_else o (if b then Some m else None)) (creation_none m (λ k r lt. none k r (omega (arith, lt)))) (quiet (slice_get rs m) refl)
    where
      quiet : (o : Option Recorded) → slice_get rs m ≡ o → is_so (creates owner m x) o ≡ false
      quiet None at = refl
      quiet (Some r) at = none m r (omega arith) at

  pub creation_at : (m e : ℕ) (r : Recorded) → e < m → slice_get rs e ≡ Some r → creates owner e x r ≡ true
      → ((k : ℕ) (s : Recorded) → k < e → slice_get rs k ≡ Some s → creates owner k x s ≡ false) → creation owner rs x m ≡ Some e
  unfolding creation is_so or_else
  creation_at zero e r lt at is none = absurd (omega arith)
  creation_at (suc m) e r lt at is none = ⊎_elim
      (λ (same : e ≡ m).
      let front = creation_none m (λ k s below. none k s (omega (arith, below, same))) in
      ap₂ (λ o p. or_else o (if is_so (creates owner m x) p then Some m else None)) front (ap (slice_get rs) (sym same) ∙ at)
      ∙ ap (λ k. if creates owner k x r then Some k else None) (sym same) ∙ ap (λ b. if b then Some e else None) is)
      (λ (apart : e ≡ m → ⊥). ap (λ o. or_else o (if is_so (creates owner m x) (slice_get rs m) then Some m else None)) (creation_at m e r (omega (arith, lt, apart)) at is none))
      (cases_eq e m)

-- ---- the first that passes

module _ (test : Recorded → Bool) where
  -- record k is the first that passes, as event e
  record Passes (n : ℕ) (rs : List Recorded) (e : ℕ) : Type 0 where
    place : ℕ
    one : Recorded
    number : e ≡ n + place
    there : slice_get rs place ≡ Some one
    passes : test one ≡ true
    none_before : (i : ℕ) (s : Recorded) → i < place → slice_get rs i ≡ Some s → test s ≡ false

  before_more : (r : Recorded) (rs : List Recorded) → test r ≡ false → (k : ℕ) → ((i : ℕ) (s : Recorded) → i < k → slice_get rs i ≡ Some s → test s ≡ false) → (i : ℕ) (t : Recorded) → i < suc k → slice_get (r ∷ rs) i ≡ Some t → test t ≡ false
  before_more r rs here k none zero t lt at_i = ap test (sym (same_Some r t at_i)) ∙ here
  before_more r rs here k none (suc i) t lt at_i = none i t (omega (arith, lt)) at_i

  first_passes : (n : ℕ) (rs : List Recorded) (e : ℕ) → first_from test n rs ≡ Some e → Passes n rs e
  first_passes n [] e is = absurd (none-some e is)
  first_passes n (r ∷ rs) e is = go (test r) refl (λ at. first_passes (suc n) rs e at) is
    where
      go : (b : Bool) → test r ≡ b → (first_from test (suc n) rs ≡ Some e → Passes (suc n) rs e) → (if b then Some n else first_from test (suc n) rs) ≡ Some e → Passes n (r ∷ rs) e
      go true passes rest at = record { place = 0; one = r; number = sym (same_Some n e at) ∙ sym (add-zero n); there = refl; passes = passes; none_before = λ i t lt. absurd (omega (arith, lt)) }
      go false fails rest at =
          let more = rest at in
          record { place = suc more.place; one = more.one; number = omega (arith, more.number); there = more.there; passes = more.passes; none_before = before_more r rs fails more.place more.none_before }

  none_passes : (n : ℕ) (rs : List Recorded) → first_from test n rs ≡ None → (k : ℕ) (r : Recorded) → slice_get rs k ≡ Some r → test r ≡ false
  none_passes n [] is k r at = absurd (none-some r at)
  none_passes n (s ∷ rs) is k r at = go (test s) refl (λ none i at_i. none_passes (suc n) rs none i r at_i) is k at
    where
      go : (b : Bool) → test s ≡ b → (first_from test (suc n) rs ≡ None → (i : ℕ) → slice_get rs i ≡ Some r → test r ≡ false) → (if b then Some n else first_from test (suc n) rs) ≡ None → (i : ℕ) → slice_get (s ∷ rs) i ≡ Some r → test r ≡ false
      go true passes rest none i at_i = absurd (none-some n (sym none))
      go false fails rest none zero at_i = ap test (sym (same_Some s r at_i)) ∙ fails
      go false fails rest none (suc i) at_i = rest none i at_i

  pub first_within : (rs : List Recorded) (e : ℕ) → first_from test 0 rs ≡ Some e → e < length rs
  first_within rs e is = let first = first_passes 0 rs e is in omega (arith, first.number, slice_get_within rs first.place first.one first.there)

-- ---- what made a slot

creates_static : (owner : Owners) (k : Kind) (n f : ℕ) (entity : Option ℕ) → creates_as owner k n entity (slot.Static f) ≡ (is_init k && is_entity entity (owner f))
unfolding creates_as
creates_static owner kind.Init n f entity = refl
creates_static owner _ n f entity = refl

creates_field : (owner : Owners) (k : Kind) (n o f : ℕ) (entity : Option ℕ) → creates_as owner k n entity (slot.Field o f) ≡ (is_new k && nat_eq o n)
unfolding creates_as
creates_field owner kind.New n o f entity = refl
creates_field owner _ n o f entity = refl

creates_element : (owner : Owners) (k : Kind) (n a i : ℕ) (entity : Option ℕ) → creates_as owner k n entity (slot.Elem a i) ≡ (is_new k && nat_eq a n)
unfolding creates_as
creates_element owner kind.New n a i entity = refl
creates_element owner _ n a i entity = refl

creates_local : (owner : Owners) (k : Kind) (n f i : ℕ) (entity : Option ℕ) → creates_as owner k n entity (slot.Local f i) ≡ false
unfolding creates_as
creates_local owner kind.New n f i entity = refl
creates_local owner kind.Init n f i entity = refl
creates_local owner _ n f i entity = refl

creates_nothing : (owner : Owners) (k : Kind) (n : ℕ) (entity : Option ℕ) → creates_as owner k n entity slot.None ≡ false
unfolding creates_as
creates_nothing owner kind.New n entity = refl
creates_nothing owner kind.Init n entity = refl
creates_nothing owner _ n entity = refl

-- an object's slots are created by its New
by_object : (owner : Owners) (rs : List Recorded) (x : Slot) (o m : ℕ) → ((k : ℕ) (n : ℕ) (r : Recorded) → n ≡ k → creates owner n x r ≡ (is_new r.kind && nat_eq o n))
    → creation owner rs x m ≡ earlier m (made_new o (slice_get rs o))
by_object owner rs x o m is = go (slice_get rs o) refl
  where
    others : (k : ℕ) (s : Recorded) → (o ≡ k → ⊥) → creates owner k x s ≡ false
    others k s apart = is k k s refl ∙ ap (λ b. is_new s.kind && b) (ne_eqb o k apart) ∙ and_no (is_new s.kind)
      where
        and_no : (b : Bool) → (b && false) ≡ false
        and_no true = refl
        and_no false = refl

    go : (at : Option Recorded) → slice_get rs o ≡ at → creation owner rs x m ≡ earlier m (made_new o at)
    go None at = creation_none owner rs x m (λ k s lt at_k. others k s (λ e. none-some s (sym at ∙ ap (slice_get rs) e ∙ at_k)))
    go (Some r) at = kinds (is_new r.kind) refl
      where
        kinds : (b : Bool) → is_new r.kind ≡ b → creation owner rs x m ≡ earlier m (if b then Some o else None)
        kinds false not_new = creation_none owner rs x m (λ k s lt at_k. ⊎_elim
            (λ (e : o ≡ k). is k k s refl ∙ ap (λ b. b && nat_eq o k) (ap (λ (t : Recorded). is_new t.kind) (sym (same_Some r s (sym at ∙ ap (slice_get rs) e ∙ at_k))) ∙ not_new))
            (λ (apart : o ≡ k → ⊥). others k s apart)
            (cases_eq o k))
        kinds true new = ⊎_elim
            (λ (lt : o < m). creation_at owner rs x m o r lt at (is o o r refl ∙ ap₂ (λ a b. a && b) new (eq-eqb o o refl)) (λ k s below at_k. others k s (λ e. omega (arith, below, e))) ∙ sym (ap (λ b. if b then Some o else None) (lt-ltb o m lt)))
            (λ (ge : m ≤ o). creation_none owner rs x m (λ k s lt at_k. others k s (λ e. omega (arith, lt, ge, e))) ∙ sym (ap (λ b. if b then Some o else None) (le-ltb o m ge)))
            (cases_lt o m)

-- static fields by the first Init of their class
by_class : (owner : Owners) (rs : List Recorded) (f m : ℕ) → creation owner rs (slot.Static f) m ≡ earlier m (first_from (is_init_of (owner f)) 0 rs)
unfolding creates
by_class owner rs f m = go (first_from (is_init_of (owner f)) 0 rs) refl
  where
    go : (first : Option ℕ) → first_from (is_init_of (owner f)) 0 rs ≡ first → creation owner rs (slot.Static f) m ≡ earlier m first
    go None is = creation_none owner rs (slot.Static f) m (λ k s lt at. creates_static owner s.kind k f s.entity ∙ none_passes (is_init_of (owner f)) 0 rs is k s at)
    go (Some e) is =
        let first = first_passes (is_init_of (owner f)) 0 rs e is in
        let number : e ≡ first.place = first.number ∙ zero-add first.place in
        let at : slice_get rs e ≡ Some first.one = ap (slice_get rs) number ∙ first.there in
        ⊎_elim
        (λ (lt : e < m). creation_at owner rs (slot.Static f) m e first.one lt at (creates_static owner first.one.kind e f first.one.entity ∙ first.passes) (λ k s below at_k. creates_static owner s.kind k f s.entity ∙ first.none_before k s (omega (arith, below, number)) at_k) ∙ sym (ap (λ b. if b then Some e else None) (lt-ltb e m lt)))
        (λ (ge : m ≤ e). creation_none owner rs (slot.Static f) m (λ k s lt at_k. creates_static owner s.kind k f s.entity ∙ first.none_before k s (omega (arith, lt, ge, number)) at_k) ∙ sym (ap (λ b. if b then Some e else None) (le-ltb e m ge)))
        (cases_lt e m)

pub creation_is : (owner : Owners) (rs : List Recorded) (x : Slot) (m : ℕ) → creation owner rs x m ≡ earlier m (maker_of owner rs x)
unfolding creates
creation_is owner rs slot.None m = creation_none owner rs slot.None m (λ k s lt at. creates_nothing owner s.kind k s.entity)
creation_is owner rs (slot.Local f i) m = creation_none owner rs (slot.Local f i) m (λ k s lt at. creates_local owner s.kind k f i s.entity)
creation_is owner rs (slot.Static f) m = by_class owner rs f m
creation_is owner rs (slot.Field o f) m = by_object owner rs (slot.Field o f) o m (λ k n r e. creates_field owner r.kind n o f r.entity)
creation_is owner rs (slot.Elem a i) m = by_object owner rs (slot.Elem a i) a m (λ k n r e. creates_element owner r.kind n a i r.entity)

pub creation_from : (owner : Owners) (rs : List Recorded) (x : Slot) (m : ℕ) (o : Option ℕ) → o ≡ maker_of owner rs x → creation owner rs x m ≡ earlier m o
creation_from owner rs x m o is = creation_is owner rs x m ∙ ap (earlier m) (sym is)

-- a first event as it is kept
pub first_as_kept : (test : Recorded → Bool) (rs : List Recorded) (o : Option ℕ) (n : ℕ) → length rs < 2 ^ 32 → o ≡ first_from test 0 rs → n ≡ unwrap_or o NONE → present n ≡ first_from test 0 rs
first_as_kept test rs None n few first is = absent_number n is ∙ first
first_as_kept test rs (Some e) n few first is =
    let within = first_within test rs e (sym first) in
    ap present is ∙ present_number e (λ none. omega (arith, few, within, none)) ∙ first
