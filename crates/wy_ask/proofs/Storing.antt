-- The fields that Sets wrote, one Set more at a time.
use Rattle.std.specs.HashMap.{HashMap}
use Rattle.std.specs.declared.hash.BuildHasherDefault.{BuildHasherDefault}
use Rattle.std.specs.declared.hash.FoldHasher.{FoldHasher}
use Rattle.wy_view.specs.References.{ValueBelow}
use Rattle.std.proofs.Common.{◌≡◌, ◌∙◌, ℕ, Bool, true, false, not, ◌&&◌, ◌||◌, cond, List, [], ◌∷◌, ◌++◌, map, filter, reverse, length, take, get_or, ◌+◌, ◌<◌, ◌≤◌, Option, Some, None, refl, sym, ap, ap₂, subst, append_assoc, arith}
use Rattle.std.specs.Prelude.{All, IfSome, ◌==◌, nat_eq, if◌then◌else◌, find, option_map, unwrap_or}
use Rattle.std.specs.List.{list_any}
use Rattle.std.specs.Option.{is_some, option_eq}
use Rattle.std.proofs.lemmas.List.{map-append, reverse-append, take_more, take_all}
use Rattle.std.proofs.lemmas.List.Elements.{All-push, All-same, filter-append}
use Rattle.std.proofs.lemmas.List.Sorted.{IsPermutation-reverse, list_any-IsPermutation}
use Rattle.wy_value.specs.declared.value.Value.{Value}
use Rattle.wy_value.specs.declared.value.Value.TheVariants as value_of
use Rattle.wy_event.specs.declared.record.Slot.{Slot}
use Rattle.wy_event.specs.declared.record.Slot.TheVariants.{Static, Field, Local, Elem}
use Rattle.wy_event.specs.declared.record.Slot.TheVariants as slot
use Rattle.wy_event.specs.Record.{Recorded, same_slot}
use Rattle.wy_ask.specs.declared.asking.Listed.{Listed}
use Rattle.wy_ask.specs.declared.asking.Listed.TheVariants.{Stored}
use Rattle.wy_ask.specs.Held.{Key, field_of, held, key_of, same_key, slot_of}
use Rattle.wy_ask.specs.Listing.{IsListedBelow, each_once, field_sets, is_field, is_set, last_set, last_value, stored_by}

-- ---- keys

pub slot_of_key : (x : Slot) (k : Key) → key_of x ≡ Some k → x ≡ slot_of k
slot_of_key (Static f) k is = ap (λ (o : Option Key). slot_of (unwrap_or o (None, f))) is
slot_of_key (Field object f) k is = ap (λ (o : Option Key). slot_of (unwrap_or o (Some object, f))) is
slot_of_key (Local frame index) k is = cc
slot_of_key (Elem array index) k is = cc
slot_of_key slot.None k is = cc

pub same_fields : (o q : Option ℕ) (f g : ℕ) → same_slot (field_of o f) (field_of q g) ≡ (option_eq nat_eq o q && (f == g))
unfolding same_slot
same_fields None None f g = refl
same_fields None (Some q) f g = refl
same_fields (Some o) None f g = refl
same_fields (Some o) (Some q) f g = refl

-- ---- each slot once

abbrev kept_if : Bool → Slot → List Slot
kept_if found x = if found then [] else x ∷ []

kept_by : (p : Slot → Bool) (x : Slot) (a b : Bool) → p x ≡ not a → filter p (kept_if b x) ≡ kept_if (a || b) x
kept_by p x true true is = refl
kept_by p x true false is = ap (λ c. cond c (x ∷ []) []) is
kept_by p x false true is = refl
kept_by p x false false is = ap (λ c. cond c (x ∷ []) []) is

pub each_once_more : (xs : List Slot) (x : Slot) → each_once (xs ++ x ∷ []) ≡ each_once xs ++ kept_if (list_any (λ y. same_slot y x) xs) x
each_once_more [] x = refl
each_once_more (y ∷ ys) x =
    let p : Slot → Bool = λ z. not (same_slot y z) in
    ap (λ l. y ∷ filter p l) (each_once_more ys x)
    ∙ ap (λ l. y ∷ l) (filter-append p (each_once ys) (kept_if (list_any (λ z. same_slot z x) ys) x)
    ∙ ap (λ l. filter p (each_once ys) ++ l) (kept_by p x (same_slot y x) (list_any (λ z. same_slot z x) ys) refl))

-- ---- the last of a slot

some_found : {X : Type 0} (p : X → Bool) (xs : List X) → is_some (find p xs) ≡ list_any p xs
some_found p [] = refl
some_found p (x ∷ xs) = go (p x) (some_found p xs)
  where
    go : (b : Bool) → is_some (find p xs) ≡ list_any p xs → is_some (cond b (Some x) (find p xs)) ≡ (b || list_any p xs)
    go true more = refl
    go false more = more

any_slot : (x : Slot) (sets : List Recorded) → list_any (λ y. same_slot y x) (map (λ r. r.slot) sets) ≡ list_any (λ r. same_slot r.slot x) sets
any_slot x [] = refl
any_slot x (r ∷ sets) = ap (λ b. same_slot r.slot x || b) (any_slot x sets)

some_mapped : {X Y : Type 0} (f : X → Y) (o : Option X) → is_some (option_map f o) ≡ is_some o
some_mapped f None = refl
some_mapped f (Some x) = refl

-- a slot was written where a value is held for it
pub was_written : (x : Slot) (sets : List Recorded) → is_some (option_map (λ r. r.value) (last_set sets x)) ≡ list_any (λ y. same_slot y x) (map (λ r. r.slot) sets)
was_written x sets =
    some_mapped (λ r. r.value) (last_set sets x) ∙ some_found (λ r. same_slot r.slot x) (reverse sets)
    ∙ sym (list_any-IsPermutation (λ r. same_slot r.slot x) sets (reverse sets) (IsPermutation-reverse sets)) ∙ sym (any_slot x sets)

pub last_more : (sets : List Recorded) (r : Recorded) (x : Slot) → last_set (sets ++ r ∷ []) x ≡ (if same_slot r.slot x then Some r else last_set sets x)
last_more sets r x = ap (find (λ s. same_slot s.slot x)) (reverse-append sets (r ∷ []))

pub slots_more : (sets : List Recorded) (r : Recorded) → each_once (map (λ s. s.slot) (sets ++ r ∷ [])) ≡ each_once (map (λ s. s.slot) sets) ++ kept_if (list_any (λ y. same_slot y r.slot) (map (λ s. s.slot) sets)) r.slot
slots_more sets r = ap each_once (map-append (λ s. s.slot) sets (r ∷ [])) ∙ each_once_more (map (λ s. s.slot) sets) r.slot

-- ---- what is kept

abbrev Held : Type 0
Held = HashMap Key Value (BuildHasherDefault FoldHasher)

abbrev Holds : Held → List Recorded → Type 0
Holds values sets = (k : Key) → held values k ≡ option_map (λ r. r.value) (last_set sets (slot_of k))

mapped_if : {X Y : Type 0} (f : X → Y) (b : Bool) (xs ys : List X) → map f (if b then xs else ys) ≡ (if b then map f xs else map f ys)
mapped_if f true xs ys = refl
mapped_if f false xs ys = refl

option_if : (b : Bool) (r : Recorded) (o : Option Recorded) → option_map (λ r. r.value) (if b then Some r else o) ≡ (if b then Some r.value else option_map (λ r. r.value) o)
option_if true r o = refl
option_if false r o = refl

pub keys_more : (values : Held) (keys more : List Key) (key : Key) (sets : List Recorded) (r : Recorded) → key_of r.slot ≡ Some key → Holds values sets → map slot_of keys ≡ each_once (map (λ s. s.slot) sets)
    → more ≡ keys ++ (if is_some (held values key) then [] else key ∷ []) → map slot_of more ≡ each_once (map (λ s. s.slot) (sets ++ r ∷ []))
keys_more values keys more key sets r at holds front is =
    let same : r.slot ≡ slot_of key = slot_of_key r.slot key at in
    let written : is_some (held values key) ≡ list_any (λ y. same_slot y r.slot) (map (λ s. s.slot) sets) =
    ap is_some (holds key) ∙ was_written (slot_of key) sets ∙ ap (λ x. list_any (λ y. same_slot y x) (map (λ s. s.slot) sets)) (sym same) in
    ap (map slot_of) is ∙ map-append slot_of keys (if is_some (held values key) then [] else key ∷ [])
    ∙ ap₂ (λ (a b : List Slot). a ++ b) front (mapped_if slot_of (is_some (held values key)) [] (key ∷ []) ∙ ap₂ (λ (b : Bool) (x : Slot). if b then [] else x ∷ []) written (sym same))
    ∙ sym (slots_more sets r)

pub values_more : (old new : Held) (key : Key) (value : Value) (sets : List Recorded) (r : Recorded) → key_of r.slot ≡ Some key → r.value ≡ value → Holds old sets
    → ((q : Key) → held new q ≡ cond (same_key key q) (Some value) (held old q)) → Holds new (sets ++ r ∷ [])
values_more old new key value sets r at gave holds more = λ k.
    let same : r.slot ≡ slot_of key = slot_of_key r.slot key at in
    more k ∙ ap (λ o. cond (same_key key k) (Some value) o) (holds k) ∙ ap (λ v. cond (same_key key k) (Some v) (option_map (λ s. s.value) (last_set sets (slot_of k)))) (sym gave)
    ∙ ap (λ b. cond b (Some r.value) (option_map (λ s. s.value) (last_set sets (slot_of k)))) (sym (ap (λ x. same_slot x (slot_of k)) same ∙ same_fields key.0 k.0 key.1 k.1))
    ∙ sym (ap (option_map (λ s. s.value)) (last_more sets r (slot_of k)) ∙ option_if (same_slot r.slot (slot_of k)) r (last_set sets (slot_of k)))

some_below : (n : ℕ) (b : Bool) (value : Value) (o : Option Value) → ValueBelow n value → IfSome o (ValueBelow n) → IfSome (cond b (Some value) o) (ValueBelow n)
some_below n true value o here other = here
some_below n false value o here other = other

pub below_more : (n : ℕ) (old new : Held) (key : Key) (value : Value) → ((k : Key) → IfSome (held old k) (ValueBelow n)) → ValueBelow n value
    → ((q : Key) → held new q ≡ cond (same_key key q) (Some value) (held old q)) → (k : Key) → IfSome (held new k) (ValueBelow n)
below_more n old new key value below here more k = subst (λ o. IfSome o (ValueBelow n)) (sym (more k)) (some_below n (same_key key k) value (held old k) here (below k))

-- ---- which events are Sets of fields

field_if : (x : Slot) (k : Key) → key_of x ≡ Some k → is_field x ≡ true
field_if (Static f) k is = refl
field_if (Field object f) k is = refl
field_if (Local frame index) k is = cc
field_if (Elem array index) k is = cc
field_if slot.None k is = cc

no_field : (x : Slot) → key_of x ≡ None → is_field x ≡ false
no_field (Static f) is = cc
no_field (Field object f) is = cc
no_field _ is = refl

pub taken : (r : Recorded) (k : Key) → is_set r.kind ≡ true → key_of r.slot ≡ Some k → field_sets (r ∷ []) ≡ r ∷ []
taken r k set at = ap₂ (λ a b. cond (a && b) (r ∷ []) []) set (field_if r.slot k at)

pub passed : (r : Recorded) → is_set r.kind ≡ false → field_sets (r ∷ []) ≡ []
passed r set = ap (λ a. cond (a && is_field r.slot) (r ∷ []) []) set

and_false : (a : Bool) → (a && false) ≡ false
and_false true = refl
and_false false = refl

pub passed_by : (r : Recorded) → key_of r.slot ≡ None → field_sets (r ∷ []) ≡ []
passed_by r at = ap (λ b. cond (is_set r.kind && b) (r ∷ []) []) (no_field r.slot at) ∙ ap (λ b. cond b (r ∷ []) []) (and_false (is_set r.kind))

-- ---- what is listed of them

abbrev pub stored_at : Held → ℕ → Key → Listed
stored_at values moment k = Stored (slot_of k) moment (unwrap_or (held values k) value_of.None)

each_stored : (values : Held) (sets : List Recorded) (moment : ℕ) (keys : List Key) → Holds values sets → map (stored_at values moment) keys ≡ map (λ x. Stored x moment (last_value sets x)) (map slot_of keys)
each_stored values sets moment [] holds = refl
each_stored values sets moment (k ∷ keys) holds = ap₂ (λ v l. Stored (slot_of k) moment (unwrap_or v value_of.None) ∷ l) (holds k) (each_stored values sets moment keys holds)

pub all_stored : (values : Held) (sets : List Recorded) (moment i : ℕ) (keys : List Key) → length keys ≤ i → Holds values sets → map slot_of keys ≡ each_once (map (λ s. s.slot) sets) → map (stored_at values moment) (take i keys) ≡ stored_by sets moment
all_stored values sets moment i keys all holds slots = ap (map (stored_at values moment)) (take_all i keys all) ∙ each_stored values sets moment keys holds ∙ ap (map (λ x. Stored x moment (last_value sets x))) slots

next_stored : (values : Held) (moment : ℕ) (keys : List Key) (i : ℕ) (d : Key) → i < length keys → map (stored_at values moment) (take (i + 1) keys) ≡ map (stored_at values moment) (take i keys) ++ stored_at values moment (get_or keys i d) ∷ []
next_stored values moment keys i d lt = ap (map (stored_at values moment)) (take_more keys i d lt) ∙ map-append (stored_at values moment) (take i keys) (get_or keys i d ∷ [])

pub push_stored : (values : Held) (moment : ℕ) (keys : List Key) (i : ℕ) (d : Key) (old listed new : List Listed) (x : Slot) (v : Value) → i < length keys → x ≡ slot_of (get_or keys i d) → v ≡ unwrap_or (held values (get_or keys i d)) value_of.None
    → listed ≡ old ++ map (stored_at values moment) (take i keys) → new ≡ listed ++ Stored x moment v ∷ [] → new ≡ old ++ map (stored_at values moment) (take (i + 1) keys)
push_stored values moment keys i d old listed new x v lt at gives front is =
    is ∙ ap (λ l. l ++ Stored x moment v ∷ []) front ∙ ap₂ (λ y w. (old ++ map (stored_at values moment) (take i keys)) ++ Stored y moment w ∷ []) at gives
    ∙ append_assoc old (map (stored_at values moment) (take i keys)) (stored_at values moment (get_or keys i d) ∷ []) ∙ ap (λ l. old ++ l) (sym (next_stored values moment keys i d lt))

held_below : (n : ℕ) (o : Option Value) → IfSome o (ValueBelow n) → ValueBelow n (unwrap_or o value_of.None)
held_below n None h = tt
held_below n (Some v) h = h

pub push_below : (n : ℕ) (values : Held) (moment : ℕ) (k : Key) (listed new : List Listed) (x : Slot) (v : Value) → ((k : Key) → IfSome (held values k) (ValueBelow n)) → v ≡ unwrap_or (held values k) value_of.None → All (IsListedBelow n) listed
    → new ≡ listed ++ Stored x moment v ∷ [] → All (IsListedBelow n) new
push_below n values moment k listed new x v below gives all is =
    All-same (IsListedBelow n) new (listed ++ Stored x moment v ∷ []) is (All-push (IsListedBelow n) listed (Stored x moment v) all (subst (ValueBelow n) (sym gives) (held_below n (held values k) (below k))))

pub value_up : (m n : ℕ) (v : Value) → m ≤ n → ValueBelow m v → ValueBelow n v
value_up m n (value_of.Object k) le h = omega (arith, le, h)
value_up m n (value_of.Text k) le h = omega (arith, le, h)
value_up m n _ le h = tt
