-- What a history keeps of the records that it has seen, and what it finds there.
use Rattle.std.proofs.Common.{◌≡◌, ◌⊎◌, inl, inr, ◌+◌, ◌<◌, ◌≤◌, ℕ, zero, suc, Bool, true, false, cond, List, [], ◌∷◌, ◌++◌, length, map, get_or, Vec, Global, Option, Some, None, option_map, refl, sym, ap, ap₂, ◌∙◌, subst, ⊎_elim, add-zero, zero-add, arith}
use Rattle.std.specs.Prelude.{◌&&◌, Contains, IfSome, IsSome, if◌then◌else◌, slice_get, nat_lt}
use Rattle.std.specs.List.Sorted.{IsNonDecreasing, IsNonDecreasingBy, IsPartitionPoint}
use Rattle.std.specs.declared.cmp.Ordering.{Ordering}
use Rattle.std.specs.declared.cmp.Ordering.TheVariants.{Less, Equal, Greater}
use Rattle.std.specs.Ordering.{is_eq}
use Rattle.std.proofs.lemmas.Bool.{false≢true, and_parts, cases_lt, false_from_ne_true, ltb-false, ltb-true}
use Rattle.std.proofs.lemmas.Cmp.{tied_itself}
use Rattle.std.proofs.lemmas.List.{append-nil, get_or_default, get_or_past, map-append}
use Rattle.std.proofs.lemmas.Option.{none-some, same_Some, slice_get_within}
use Rattle.wy_kernel.specs.declared.types.Field.{Field}
use Rattle.wy_kernel.specs.Program as program
use Rattle.wy_kernel.specs.View.{field_of}
use Rattle.wy_event.specs.declared.record.Slot.{Slot}
use Rattle.wy_event.specs.Record.{Recorded, same_slot}
use Rattle.wy_event.specs.Sources.{is_write, or_else, writes, written}
use Rattle.wy_index.specs.Found.{first_from, gathered, is_init_of, is_new, made_new}
use Rattle.wy_index.specs.Order.{is_no_slot, slot_cmp}
use Rattle.wy_index.proofs.Building.{owner_kept}
use Rattle.wy_index.proofs.Gathering.{first_more, gathered_more}
use Rattle.wy_index.proofs.Orders.{one_slot, same_as_itself, same_slot_is, slots_total}
use Rattle.wy_index.proofs.Writes.{written_at, written_none}
use Rattle.wy_why.specs.Answer.{Rises}
use Rattle.wy_why.proofs.Closures.{Among}
use Rattle.wy_cert.proofs.Members.{among_of, of_among}
use Rattle.wy_check.specs.declared.history.History.{History}
use Rattle.wy_check.specs.History.{HasSeen, IsAsked}
use Rattle.wy_check.specs.Marks.{mark_of}
use Rattle.wy_check.specs.Writes.{IsLastBelow, first_of, write_of, writes_of, written_in}

abbrev new_of : Option Recorded → Bool
new_of None = false
new_of (Some r) = is_new r.kind

marked_at : (rs : List Recorded) (k : ℕ) → mark_of (map (λ (r : Recorded). is_new r.kind) rs) k ≡ new_of (slice_get rs k)
marked_at [] k = get_or_past [] k false (omega arith)
marked_at (r ∷ rs) zero = refl
marked_at (r ∷ rs) (suc k) = marked_at rs k

-- ---- one event more

keeps_writes : (o p : Option (List ℕ)) (a b c : List ℕ) → p ≡ option_map (λ ws. ws ++ b) o → IfSome o (λ ws. ws ≡ a) → c ≡ a ++ b → IfSome p (λ ws. ws ≡ c)
keeps_writes None p a b c is old more = subst (λ q. IfSome q (λ ws. ws ≡ c)) (sym is) tt
keeps_writes (Some ws) p a b c is old more = subst (λ q. IfSome q (λ ws. ws ≡ c)) (sym is) (ap (λ l. l ++ b) old ∙ sym more)

pub seen_more : (old new : History) (rs : List Recorded) (r : Recorded) (n : ℕ) → HasSeen old rs → length rs ≡ n
    → ((x : Slot) → written_in new.writes x ≡ option_map (λ ws. ws ++ write_of x n r) (written_in old.writes x))
    → new.made.items ≡ old.made.items ++ is_new r.kind ∷ []
    → ((class : ℕ) → first_of new.inits class ≡ or_else (first_of old.inits class) (if is_init_of class r then Some n else None))
    → HasSeen new (rs ++ r ∷ [])
seen_more old new rs r n seen is wrote made inits = record {
  writes = λ x. keeps_writes (written_in old.writes x) (written_in new.writes x) (writes_of x rs) (write_of x n r) (writes_of x (rs ++ r ∷ [])) (wrote x) (seen.writes x)
      (gathered_more (write_of x) 0 rs r ∙ ap (λ k. writes_of x rs ++ write_of x k r) (zero-add (length rs) ∙ is));
  made = made ∙ ap (λ l. l ++ is_new r.kind ∷ []) seen.made ∙ sym (map-append (λ (s : Recorded). is_new s.kind) rs (r ∷ []));
  inits = λ class. inits class ∙ ap₂ (λ o k. or_else o (if is_init_of class r then Some k else None)) (seen.inits class) (sym (zero-add (length rs) ∙ is)) ∙ sym (first_more (is_init_of class) 0 rs r);
}

still_asked : (o p : Option (List ℕ)) (f : List ℕ → List ℕ) → p ≡ option_map f o → IsSome o → IsSome p
still_asked None p f is some = absurd (false≢true some)
still_asked (Some ws) p f is some = subst IsSome (sym is) refl

pub asked_more : (old new : History) (f : Slot → List ℕ → List ℕ) → ((x : Slot) → written_in new.writes x ≡ option_map (f x) (written_in old.writes x)) → (x : Slot) → IsAsked old x → IsAsked new x
asked_more old new f same x some = still_asked (written_in old.writes x) (written_in new.writes x) (f x) (same x) some

-- ---- who wrote a slot

module _ (x : Slot) where
  wrote : (n : ℕ) (rs : List Recorded) (k : ℕ) (r : Recorded) → slice_get rs k ≡ Some r → writes x r ≡ true → Among (n + k) (gathered (write_of x) n rs)
  wrote n [] k r at is = absurd (none-some r at)
  wrote n (s ∷ rs) zero r at is = subst (λ b. Among (n + 0) ((if b then n ∷ [] else []) ++ gathered (write_of x) (suc n) rs)) (sym (ap (writes x) (same_Some s r at) ∙ is)) (inl (add-zero n))
  wrote n (s ∷ rs) (suc k) r at is = go (writes x s) (subst (λ m. Among m (gathered (write_of x) (suc n) rs)) place (wrote (suc n) rs k r at is))
    where
      place : suc n + k ≡ n + suc k
      place = omega arith

      go : (b : Bool) → Among (n + suc k) (gathered (write_of x) (suc n) rs) → Among (n + suc k) ((if b then n ∷ [] else []) ++ gathered (write_of x) (suc n) rs)
      go true there = inr there
      go false there = there

  pub record Wrote (n : ℕ) (rs : List Recorded) (e : ℕ) : Type 0 where
    pub place : ℕ
    pub one : Recorded
    pub number : e ≡ n + place
    pub there : slice_get rs place ≡ Some one
    pub wrote_it : writes x one ≡ true

  of_writes : (n : ℕ) (rs : List Recorded) (e : ℕ) → Among e (gathered (write_of x) n rs) → Wrote n rs e
  of_writes n [] e at = absurd at
  of_writes n (r ∷ rs) e at = go (writes x r) refl (of_writes (suc n) rs e) at
    where
      later : Wrote (suc n) rs e → Wrote n (r ∷ rs) e
      later w = record { place = suc w.place; one = w.one; number = omega (arith, w.number); there = w.there; wrote_it = w.wrote_it }

      go : (b : Bool) → writes x r ≡ b → (Among e (gathered (write_of x) (suc n) rs) → Wrote (suc n) rs e) → Among e ((if b then n ∷ [] else []) ++ gathered (write_of x) (suc n) rs) → Wrote n (r ∷ rs) e
      go true is rest (inl here) = record { place = 0; one = r; number = here ∙ sym (add-zero n); there = refl; wrote_it = is }
      go true is rest (inr there) = later (rest there)
      go false is rest there = later (rest there)

  writes_rise : (n : ℕ) (rs : List Recorded) → Rises n (n + length rs) (gathered (write_of x) n rs)
  writes_rise n [] = tt
  writes_rise n (r ∷ rs) = go (writes x r) (subst (λ h. Rises (suc n) h (gathered (write_of x) (suc n) rs)) end (writes_rise (suc n) rs))
    where
      end : suc n + length rs ≡ n + suc (length rs)
      end = omega arith

      lower : (ns : List ℕ) → Rises (suc n) (n + suc (length rs)) ns → Rises n (n + suc (length rs)) ns
      lower [] up = tt
      lower (m ∷ ns) up = (omega (arith, up.0), up.1, up.2)

      go : (b : Bool) → Rises (suc n) (n + suc (length rs)) (gathered (write_of x) (suc n) rs) → Rises n (n + suc (length rs)) ((if b then n ∷ [] else []) ++ gathered (write_of x) (suc n) rs)
      go true up = (omega arith, omega arith, up)
      go false up = lower (gathered (write_of x) (suc n) rs) up

  pub wrote_in : (rs : List Recorded) (k : ℕ) (r : Recorded) → slice_get rs k ≡ Some r → writes x r ≡ true → Contains (writes_of x rs) k
  wrote_in rs k r at is = of_among (writes_of x rs) k (subst (λ m. Among m (writes_of x rs)) (zero-add k) (wrote 0 rs k r at is))

  pub in_writes : (rs : List Recorded) (e : ℕ) → Contains (writes_of x rs) e → Wrote 0 rs e
  in_writes rs e has = of_writes 0 rs e (among_of (writes_of x rs) e has)

-- ---- lists that rise are in order

above_low : (low high : ℕ) (ns : List ℕ) (i d : ℕ) → Rises low high ns → i < length ns → low ≤ get_or ns i d
above_low low high [] i d up lt = absurd (omega (arith, lt))
above_low low high (n ∷ ns) zero d up lt = up.0
above_low low high (n ∷ ns) (suc i) d up lt = let rest = above_low (suc n) high ns i d up.2 (omega (arith, lt)) in omega (arith, rest, up.0)

pub in_order : (low high : ℕ) (ns : List ℕ) → Rises low high ns → IsNonDecreasingBy (λ n. n) ns
in_order low high [] up i j d le lt = absurd (omega (arith, lt))
in_order low high (n ∷ ns) up zero zero d le lt = omega arith
in_order low high (n ∷ ns) up zero (suc j) d le lt = let rest = above_low (suc n) high ns j d up.2 (omega (arith, lt)) in omega (arith, rest)
in_order low high (n ∷ ns) up (suc i) zero d le lt = absurd (omega (arith, le))
in_order low high (n ∷ ns) up (suc i) (suc j) d le lt = in_order (suc n) high ns up.2 i j d (omega (arith, le)) (omega (arith, lt))

pub writes_order : (x : Slot) (rs : List Recorded) → IsNonDecreasing (writes_of x rs)
writes_order x rs = in_order 0 (0 + length rs) (writes_of x rs) (writes_rise x 0 rs)

-- ---- the last below a moment

pub last_none : (xs : List ℕ) (m : ℕ) → IsPartitionPoint (λ y. nat_lt y m ≡ true) (λ y. nat_lt y m ≡ false) xs 0 → IsLastBelow xs m None
last_none xs m point = λ k has. subst (λ n. m ≤ n) has.2 (ltb-false (get_or xs has.0 k) m (point.1 has.0 k (omega arith) has.1))

pub last_some : (xs : List ℕ) (m i e : ℕ) → IsNonDecreasing xs → IsPartitionPoint (λ y. nat_lt y m ≡ true) (λ y. nat_lt y m ≡ false) xs (suc i) → suc i ≤ length xs → e ≡ get_or xs i 0 → IsLastBelow xs m (Some e)
last_some xs m i e order point le is =
    let here : get_or xs i e ≡ e = get_or_default xs i e 0 (omega (arith, le)) ∙ sym is in (
      (i, omega (arith, le), here),
      subst (λ n. n < m) here (ltb-true (get_or xs i e) m (point.0 i e (omega arith) (omega arith))),
      λ k has lt. ⊎_elim
          (λ (front : has.0 < suc i).
          let up = order has.0 i 0 (omega (arith, front)) (omega (arith, le)) in
          let at : get_or xs has.0 0 ≡ k = get_or_default xs has.0 0 k has.1 ∙ has.2 in
          omega (arith, up, at, is))
          (λ (behind : suc i ≤ has.0).
          let far = ltb-false (get_or xs has.0 k) m (point.1 has.0 k behind has.1) in
          absurd (omega (arith, far, has.2, lt)))
          (cases_lt has.0 (suc i)),
    )

-- ---- the last write

pub last_is_written : (x : Slot) (rs : List Recorded) (m : ℕ) (o : Option ℕ) → IsLastBelow (writes_of x rs) m o → o ≡ written rs x m
last_is_written x rs m None none = sym (written_none rs x m (λ k r lt at. false_from_ne_true (writes x r) (λ is. let le = none k (wrote_in x rs k r at is) in omega (arith, lt, le))))
last_is_written x rs m (Some e) last =
    let w = in_writes x rs e last.0 in
    let number : e ≡ w.place = w.number ∙ zero-add w.place in
    sym (written_at rs x m e w.one last.1 (ap (slice_get rs) number ∙ w.there) w.wrote_it
    (λ k s more lt at. false_from_ne_true (writes x s) (λ is. let le = last.2 k (wrote_in x rs k s at is) lt in omega (arith, more, le))))

-- the events that are kept under a slot
pub kept_is : (o : Option (Vec ℕ Global)) (v : Vec ℕ Global) (events : List ℕ) → Some v ≡ o → IfSome (option_map (λ (w : Vec ℕ Global). w.items) o) (λ ws. ws ≡ events) → v.items ≡ events
kept_is o v events is same = subst (λ p. IfSome (option_map (λ (w : Vec ℕ Global). w.items) p) (λ ws. ws ≡ events)) (sym is) same

pub kept_some : (o : Option (Vec ℕ Global)) → None ≡ o → IsSome (option_map (λ (w : Vec ℕ Global). w.items) o) → ⊥
kept_some o is some = false≢true (subst (λ p. IsSome (option_map (λ (w : Vec ℕ Global). w.items) p)) (sym is) some)

-- ---- what is a New

pub new_marked : (rs : List Recorded) (k : ℕ) → mark_of (map (λ (r : Recorded). is_new r.kind) rs) k ≡ true → Some k ≡ made_new k (slice_get rs k)
new_marked rs k is = go (slice_get rs k) (sym (marked_at rs k) ∙ is)
  where
    go : (o : Option Recorded) → new_of o ≡ true → Some k ≡ made_new k o
    go None out = absurd (false≢true out)
    go (Some r) is_so = sym (ap (λ b. if b then Some k else None) is_so)

pub new_unmarked : (rs : List Recorded) (k : ℕ) → mark_of (map (λ (r : Recorded). is_new r.kind) rs) k ≡ false → None ≡ made_new k (slice_get rs k)
new_unmarked rs k is = go (slice_get rs k) (sym (marked_at rs k) ∙ is)
  where
    go : (o : Option Recorded) → new_of o ≡ false → None ≡ made_new k o
    go None out = refl
    go (Some r) out = sym (ap (λ b. if b then Some k else None) out)

-- ---- the class of a field

pub class_at : (p : program.Program) (fields : List Field) (n : ℕ) (x : Field) → p.fields ≡ map field_of fields → n < length fields → x ≡ get_or fields n x → x.class ≡ (program.field p n).class
class_at p fields n x is lt at = ap (λ (f : Field). f.class) at ∙ sym (at_class fields n lt) ∙ owner_kept p fields n is
  where
    at_class : (fs : List Field) (n : ℕ) → n < length fs → get_or (map (λ (f : Field). f.class) fs) n 0 ≡ (get_or fs n x).class
    at_class [] n lt = absurd (omega (arith, lt))
    at_class (f ∷ fs) zero lt = refl
    at_class (f ∷ fs) (suc n) lt = at_class fs n (omega (arith, lt))

classes_long : (fs : List Field) → length (map (λ (f : Field). f.class) fs) ≡ length fs
classes_long [] = refl
classes_long (f ∷ fs) = ap suc (classes_long fs)

pub class_past : (p : program.Program) (fields : List Field) (n : ℕ) → p.fields ≡ map field_of fields → length fields ≤ n → 0 ≡ (program.field p n).class
class_past p fields n is le = sym (get_or_past (map (λ (f : Field). f.class) fields) n 0 (omega (arith, le, classes_long fields))) ∙ owner_kept p fields n is

-- ---- one slot's list changes

abbrev items_in : Option (Vec ℕ Global) → Option (List ℕ)
items_in o = option_map (λ (w : Vec ℕ Global). w.items) o

-- a list that is put under a slot
pub put_asked : (b : Bool) (v : Vec ℕ Global) (old new : Option (Vec ℕ Global)) → new ≡ cond b (Some v) old → IsSome (option_map (λ (w : Vec ℕ Global). w.items) old)
    → IsSome (option_map (λ (w : Vec ℕ Global). w.items) new)
put_asked true v old new is asked = subst (λ o. IsSome (option_map (λ (w : Vec ℕ Global). w.items) o)) (sym is) refl
put_asked false v old new is asked = subst (λ o. IsSome (option_map (λ (w : Vec ℕ Global). w.items) o)) (sym is) asked

pub put_empty : (b : Bool) (v : Vec ℕ Global) (old new : Option (Vec ℕ Global)) → new ≡ cond b (Some v) old → v.items ≡ [] → IfSome (option_map (λ (w : Vec ℕ Global). w.items) old) (λ events. events ≡ [])
    → IfSome (option_map (λ (w : Vec ℕ Global). w.items) new) (λ events. events ≡ [])
put_empty true v old new is none all = subst (λ o. IfSome (option_map (λ (w : Vec ℕ Global). w.items) o) (λ events. events ≡ [])) (sym is) none
put_empty false v old new is none all = subst (λ o. IfSome (option_map (λ (w : Vec ℕ Global). w.items) o) (λ events. events ≡ [])) (sym is) all

same_lists : (o : Option (List ℕ)) → o ≡ option_map (λ ws. ws ++ []) o
same_lists None = refl
same_lists (Some ws) = ap Some (sym (append-nil ws))

-- an event that wrote no such slot
pub not_written : (x : Slot) (n : ℕ) (r : Recorded) (o : Option (List ℕ)) → writes x r ≡ false → o ≡ option_map (λ ws. ws ++ write_of x n r) o
not_written x n r o out = same_lists o ∙ ap (λ b. option_map (λ ws. ws ++ (if b then n ∷ [] else [])) o) (sym out)

pub no_write : (x : Slot) (r : Recorded) → is_write r.kind ≡ false → writes x r ≡ false
unfolding writes
no_write x r out = ap (λ b. b && same_slot x r.slot) out

pub no_slot : (x : Slot) (r : Recorded) → is_no_slot r.slot ≡ true → writes x r ≡ false
unfolding writes
no_slot x r none = false_from_ne_true (is_write r.kind && same_slot x r.slot) (λ does.
    let same = same_slot_is x r.slot (and_parts (is_write r.kind) (same_slot x r.slot) does).1 in
    false≢true (sym same.1 ∙ ap is_no_slot same.0 ∙ none))

pub other_slot : (x : Slot) (r : Recorded) → is_eq (slot_cmp r.slot x) ≡ false → writes x r ≡ false
unfolding writes
other_slot x r apart = false_from_ne_true (is_write r.kind && same_slot x r.slot) (λ does.
    let same = same_slot_is x r.slot (and_parts (is_write r.kind) (same_slot x r.slot) does).1 in
    false≢true (sym apart ∙ ap (λ y. is_eq (slot_cmp r.slot y)) same.0 ∙ ap is_eq (tied_itself slots_total r.slot)))

pub this_slot : (x : Slot) (r : Recorded) → is_write r.kind ≡ true → is_no_slot r.slot ≡ false → r.slot ≡ x → writes x r ≡ true
unfolding writes
this_slot x r does some same = ap₂ (λ a b. a && b) does (ap (λ y. same_slot y r.slot) (sym same) ∙ same_as_itself r.slot some)

is_equal : (o : Ordering) → is_eq o ≡ true → o ≡ Equal
is_equal Less e = absurd (false≢true e)
is_equal Equal e = refl
is_equal Greater e = absurd (false≢true e)

-- an event behind those that wrote its slot
pub one_write : (x : Slot) (n : ℕ) (r : Recorded) (v w : Vec ℕ Global) (there old new : Option (Vec ℕ Global)) → is_write r.kind ≡ true → is_no_slot r.slot ≡ false
    → new ≡ cond (is_eq (slot_cmp r.slot x)) (Some w) old → (r.slot ≡ x → there ≡ old) → Some v ≡ there → w.items ≡ v.items ++ n ∷ []
    → option_map (λ (u : Vec ℕ Global). u.items) new ≡ option_map (λ ws. ws ++ write_of x n r) (option_map (λ (u : Vec ℕ Global). u.items) old)
one_write x n r v w there old new does some is same at pushed = go (is_eq (slot_cmp r.slot x)) refl is
  where
    go : (b : Bool) → is_eq (slot_cmp r.slot x) ≡ b → new ≡ cond b (Some w) old → items_in new ≡ option_map (λ ws. ws ++ write_of x n r) (items_in old)
    go true here is =
        let one = one_slot r.slot x (is_equal (slot_cmp r.slot x) here) in
        ap items_in is ∙ ap Some pushed ∙ ap (λ b. Some (v.items ++ (if b then n ∷ [] else []))) (sym (this_slot x r does some one))
        ∙ ap (λ o. option_map (λ ws. ws ++ write_of x n r) (items_in o)) (at ∙ same one)
    go false apart is = ap items_in is ∙ not_written x n r (items_in old) (other_slot x r apart)

-- an event whose slot isn't asked about
pub not_asked : (x : Slot) (n : ℕ) (r : Recorded) (old : Slot → Option (List ℕ)) → None ≡ old r.slot → old x ≡ option_map (λ ws. ws ++ write_of x n r) (old x)
not_asked x n r old none = go (is_eq (slot_cmp r.slot x)) refl
  where
    go : (b : Bool) → is_eq (slot_cmp r.slot x) ≡ b → old x ≡ option_map (λ ws. ws ++ write_of x n r) (old x)
    go true here = subst (λ o. o ≡ option_map (λ ws. ws ++ write_of x n r) o) (none ∙ ap old (one_slot r.slot x (is_equal (slot_cmp r.slot x) here))) refl
    go false apart = not_written x n r (old x) (other_slot x r apart)

pub has_some : {X : Type 0} (x : X) (o : Option X) → Some x ≡ o → IsSome o
has_some x o is = subst IsSome is refl

pub listed_none : (o : Option (Vec ℕ Global)) → None ≡ o → None ≡ option_map (λ (w : Vec ℕ Global). w.items) o
listed_none o is = ap items_in is
