-- The changes in the ring, as the past of a session.
use Rattle.std.proofs.Common.{◌≡◌, ◌∙◌, ℕ, zero, suc, ◌-◌, ◌+◌, ◌<◌, ◌≤◌, List, [], ◌∷◌, ◌++◌, length, get_or, take, drop, reverse, refl, sym, ap, ap₂, subst, arith, ⊎_elim, length-drop}
use Rattle.std.specs.Prelude.{Option, Some, All}
use Rattle.std.specs.Prelude.{None as Absent}
use mathlib.Core.HLevel.{is_prop→PathP}
use native.Mathlib.Nat.{ℕ_set}
use Rattle.std.proofs.lemmas.List.{reverse-append, length-reverse, take-append-drop, take_all, take_at, take_more}
use Rattle.std.proofs.lemmas.List.Elements.{All-drop, All-push, All-take}
use Rattle.std.proofs.lemmas.Option.{get_or_from_slice_get, none-some, slice_get-get_or, slice_get_within}
use Rattle.std.proofs.lemmas.Bool.{cases_lt}
use Rattle.circular_buffer.specs.Buffer.{Buffer, buffer, keep_last, last_item}
use Rattle.wy_explore.specs.declared.explorer.Answered.{Answered}
use Rattle.wy_explore.specs.declared.explorer.Change.{Change}
use Rattle.wy_explore.specs.declared.explorer.Change.TheVariants.{Asked, Looked}
use Rattle.wy_explore.specs.declared.explorer.Explorer.{Explorer}
use Rattle.wy_explore.specs.Explorer.{HoldsIn, event_asked, positions}
use Rattle.wy_explore.specs.Session.{Session, asking, looking_at}

last_reversed : {X : Type 0} (n : ℕ) (xs : List X) → reverse (drop (length xs - n) xs) ≡ take n (reverse xs)
last_reversed {X} n xs = ⊎_elim
    (λ (few : length xs < n).
    let none : length xs - n ≡ 0 = omega (arith, few) in
    ap (λ k. reverse (drop k xs)) none ∙ sym (take_all n (reverse xs) (omega (arith, few, length-reverse xs))))
    (λ (many : n ≤ length xs).
    let k : ℕ = length xs - n in
    let size : length (reverse (drop k xs)) ≡ n = omega (arith, many, length-reverse (drop k xs), length-drop k xs) in
    sym (ap (λ l. take n (reverse l)) (sym (take-append-drop k xs)) ∙ ap (take n) (reverse-append (take k xs) (drop k xs))
    ∙ take_at (reverse (drop k xs)) (reverse (take k xs)) n size))
    (cases_lt (length xs) n)

first_positions : (n : ℕ) (asked : Option ℕ) (changes : List Change) → positions asked (take n changes) ≡ take n (positions asked changes)
first_positions zero asked changes = refl
first_positions (suc n) asked [] = refl
first_positions (suc n) asked (Looked cursor ∷ changes) = ap (λ l. record { asked = asked; cursor = cursor } ∷ l) (first_positions n asked changes)
first_positions (suc n) asked (Asked question cursor ∷ changes) =
    ap (λ l. record { asked = event_asked question; cursor = cursor } ∷ l) (first_positions n (event_asked question) changes)

-- one more change, of which the last ones are kept
pub one_more : (n : ℕ) (asked : Option ℕ) (changes : List Change) (change : Change)
    → positions asked (reverse (keep_last n (changes ++ change ∷ []))) ≡ take n (positions asked (change ∷ reverse changes))
one_more n asked changes change =
    ap (positions asked) (last_reversed n (changes ++ change ∷ []) ∙ ap (take n) (reverse-append changes (change ∷ [])))
    ∙ first_positions n asked (change ∷ reverse changes)

-- an explorer's parts as a session
abbrev pub session : Option Answered → Option ℕ → List Change → Session
session question cursor changes = record {
  at = record { asked = event_asked question; cursor = cursor };
  past = positions (event_asked question) (reverse changes);
}

-- the ring as it is after another change
abbrev Keeps : Buffer Change → Change → Buffer Change → Type 0
Keeps old change new = new ≡ buffer (keep_last old.capacity (old.items ++ change ∷ [])) old.capacity

kept : (asked : Option ℕ) (old new : Buffer Change) (change : Change) → old.capacity ≡ 64 → Keeps old change new
    → positions asked (reverse new.items) ≡ take 64 (positions asked (change ∷ reverse old.items))
kept asked old new change room is =
    ap (λ (b : Buffer Change). positions asked (reverse b.items)) is
    ∙ ap (λ n. positions asked (reverse (keep_last n (old.items ++ change ∷ [])))) room ∙ one_more 64 asked old.items change

pub looked : (question : Option Answered) (cursor left found : Option ℕ) (event : ℕ) (old new : Buffer Change) → old.capacity ≡ 64
    → left ≡ cursor → found ≡ Some event → Keeps old (Looked left) new
    → session question found new.items ≡ looking_at (session question cursor old.items) event
looked question cursor left found event old new room left_is found_is is =
    let past = kept (event_asked question) old new (Looked left) room is
    ∙ ap (λ c. take 64 (positions (event_asked question) (Looked c ∷ reverse old.items))) left_is in
    ap₂ (λ c l. record { at = record { asked = event_asked question; cursor = c }; past = l }) found_is past

pub asked_about : (question : Option Answered) (cursor : Option ℕ) (asked : Answered) (left : Option Answered) (left_cursor : Option ℕ)
    (now : Option Answered) (found : Option ℕ) (old new : Buffer Change) → old.capacity ≡ 64
    → left ≡ question → left_cursor ≡ cursor → now ≡ Some asked → found ≡ Some asked.event → Keeps old (Asked left left_cursor) new
    → session now found new.items ≡ asking (session question cursor old.items) asked.event
asked_about question cursor asked left left_cursor now found old new room left_is cursor_is now_is found_is is =
    let after : positions (event_asked now) (reverse new.items) ≡ take 64 (positions (event_asked question) (Looked cursor ∷ reverse old.items)) =
    kept (event_asked now) old new (Asked left left_cursor) room is
    ∙ ap₂ (λ q c. take 64 (record { asked = event_asked q; cursor = c } ∷ positions (event_asked q) (reverse old.items))) left_is cursor_is in
    let here : event_asked now ≡ Some asked.event = ap event_asked now_is in
    λ i. record { at = record { asked = here i; cursor = found_is i }; past = after i }

-- ---- back

last_there : (changes : List Change) (change : Change) → last_item changes ≡ Some change → changes ≡ take (length changes - 1) changes ++ change ∷ []
last_there changes change is =
    let n : ℕ = length changes - 1 in
    let some : n < length changes = slice_get_within changes n change is in
    sym (take_all (n + 1) changes (omega (arith, some))) ∙ take_more changes n change some
    ∙ ap (λ x. take n changes ++ x ∷ []) (get_or_from_slice_get changes n change change is)

last_first : (changes : List Change) (change : Change) → last_item changes ≡ Some change → reverse changes ≡ change ∷ reverse (take (length changes - 1) changes)
last_first changes change is = ap reverse (last_there changes change is) ∙ reverse-append (take (length changes - 1) changes) (change ∷ [])

none_last : (changes : List Change) → last_item changes ≡ Absent → changes ≡ []
none_last [] is = refl
none_last (x ∷ xs) is =
    let n : ℕ = length (x ∷ xs) - 1 in
    absurd (none-some (get_or (x ∷ xs) n x) (sym is ∙ slice_get-get_or (x ∷ xs) n x (omega arith)))

-- the ring as it is after its last change was taken out
abbrev Leaves : Buffer Change → Buffer Change → Type 0
Leaves old new = new ≡ buffer (take (length old.items - 1) old.items) old.capacity

pub before : (asked : Option ℕ) (old new : Buffer Change) (change : Change) → last_item old.items ≡ Some change → Leaves old new
    → positions asked (reverse old.items) ≡ positions asked (change ∷ reverse new.items)
before asked old new change is leaves =
    ap (positions asked) (last_first old.items change is) ∙ ap (λ (b : Buffer Change). positions asked (change ∷ reverse b.items)) (sym leaves)

pub nothing_before : (asked : Option ℕ) (old : Buffer Change) → last_item old.items ≡ Absent → positions asked (reverse old.items) ≡ []
nothing_before asked old is = ap (λ l. positions asked (reverse l)) (none_last old.items is)

pub nothing_left : (old new : Buffer Change) → last_item old.items ≡ Absent → Leaves old new → new ≡ old
nothing_left old new is leaves =
    leaves ∙ ap (λ l. buffer l old.capacity) (take_all (length old.items - 1) old.items (omega (arith, ap length (none_last old.items is))))

-- an explorer whose ring is as it was is as it was
pub same_ring : (x : Explorer) (past : Buffer Change) (room : past.capacity ≡ 64) (e : past ≡ x.past)
    → record { question = x.question; cursor = x.cursor; past = past; room = room } ≡ x
same_ring x past room e = λ i. record {
  question = x.question;
  cursor = x.cursor;
  past = e i;
  room = is_prop→PathP (λ i. (e i).capacity ≡ 64) (λ i. ℕ_set (e i).capacity 64) room x.room i;
}

-- ---- what is held

module _ (P : Answered → Type 0) (C : ℕ → Type 0) where
  pub all_kept : (old new : Buffer Change) (change : Change) → Keeps old change new → All (HoldsIn P C) old.items → HoldsIn P C change → All (HoldsIn P C) new.items
  all_kept old new change is all one =
      subst (λ (b : Buffer Change). All (HoldsIn P C) b.items) (sym is)
      (All-drop (HoldsIn P C) (length (old.items ++ change ∷ []) - old.capacity) (old.items ++ change ∷ []) (All-push (HoldsIn P C) old.items change all one))

  pub all_left : (old new : Buffer Change) → Leaves old new → All (HoldsIn P C) old.items → All (HoldsIn P C) new.items
  all_left old new leaves all = subst (λ (b : Buffer Change). All (HoldsIn P C) b.items) (sym leaves) (All-take (HoldsIn P C) (length old.items - 1) old.items all)

  pub last_holds : (changes : List Change) (change : Change) → last_item changes ≡ Some change → All (HoldsIn P C) changes → HoldsIn P C change
  last_holds changes change is all =
      let n : ℕ = length changes - 1 in
      subst (HoldsIn P C) (get_or_from_slice_get changes n change change is) (all n change (slice_get_within changes n change is))
