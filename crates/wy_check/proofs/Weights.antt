-- What the line of one event more says is weighed.
use Rattle.std.proofs.Common.{◌≡◌, ◌⊎◌, inl, inr, ◌+◌, ◌<◌, ◌≤◌, ℕ, zero, suc, Bool, true, false, ◌||◌, ◌&&◌, List, [], ◌∷◌, ◌++◌, length, length-append, map, get_or, take, Vec, Global, Option, Some, None, refl, sym, ap, ap₂, ◌∙◌, subst, ⊎_elim, eq-eqb, eqb-true, arith}
use Rattle.std.specs.Prelude.{Contains, slice_get, nat_eq, ◌↔◌}
use Rattle.std.specs.Bool.{Decides}
use Rattle.std.specs.List.{list_all, list_any}
use Rattle.std.proofs.lemmas.Bool.{false≢true, and_parts, cases_lt, cases_eq, or_cases, or_left, or_right}
use Rattle.wy_paths.proofs.Sorting.{sorted_same}
use Rattle.std.proofs.lemmas.Option.{none-some, same_Some, slice_get_within}
use Rattle.wy_event.specs.Record.{Recorded}
use Rattle.wy_event.specs.Sources as records
use Rattle.wy_event.specs.Sources.{Owners, event_sources, sources}
use Rattle.wy_why.specs.declared.source.Role.{Role}
use Rattle.wy_why.specs.declared.source.Role.TheVariants as role
use Rattle.wy_why.specs.declared.source.Source.{Source}
use Rattle.wy_why.specs.Answer.{Rises}
use Rattle.std.specs.List.Sorted.{IsStrictlySortedBy}
use Rattle.wy_why.specs.Sources.{role_of, source_cmp, source_of}
use Rattle.wy_view.specs.References.{RefersBelow}
use Rattle.wy_why.proofs.Closures.{sources_below}
use Rattle.wy_why.proofs.Listing.{contains_below, member_listed}
use Rattle.wy_why.proofs.Ordered.{sources_total}
use Rattle.wy_why.proofs.Walking.{sources_at}
use Rattle.wy_cert.specs.declared.certificate.Listed.{Listed}
use Rattle.wy_cert.specs.Spelling.{events}
use Rattle.wy_cert.specs.Goodness.{AreSources, ComesFrom}
use Rattle.wy_cert.proofs.Members.{from_map}
use Rattle.wy_check.specs.declared.weighing.Weighing.{Weighing}
use Rattle.wy_check.specs.declared.history.History.{History}
use Rattle.wy_check.specs.Asking.{AreAsked, AreLinesAsked, uses_at}
use Rattle.wy_check.specs.History.{HasSeen}
use Rattle.wy_check.specs.Weighing.{AreMarked, IsAsSaid, IsNeeded, IsTold, IsWeighed, IsWeighedNext}
use Rattle.wy_check.specs.Marks.{mark_of}
use Rattle.wy_check.proofs.Fronts.{front_more, sources_front}

-- ---- one list of sources

role_same : (a b : Role) → role_of a ≡ role_of b → a ≡ b
role_same role.Data role.Data is = refl
role_same role.Choice role.Choice is = refl
role_same role.Control role.Control is = refl
role_same _ _ is = cc

source_same : (s t : Source) → source_of s ≡ source_of t → s ≡ t
source_same s t is = ap₂ (λ e r. record { event = e; role = r }) (ap (λ (u : records.Source). u.event) is) (role_same s.role t.role (ap (λ (u : records.Source). u.role) is))

module _ (owner : Owners) (rs : List Recorded) (n : ℕ) where
  also_found : (xs ys : List Source) → AreSources owner rs n xs → AreSources owner rs n ys → (s : Source) → Contains xs s → Contains ys s
  also_found xs ys a b s has =
      let back = from_map source_of ys (source_of s) ((b.exact (source_of s)).1 ((a.exact (source_of s)).0 (member_listed source_of xs (map source_of xs) s refl has))) in
      subst (Contains ys) (source_same back.0 s back.2) back.1

  pub one_list : (xs ys : List Source) → AreSources owner rs n xs → AreSources owner rs n ys → xs ≡ ys
  one_list xs ys a b = sorted_same sources_total xs ys a.in_order b.in_order (also_found xs ys a b) (also_found ys xs b a)

-- ---- a line that says what it ought to

pub is_told : (owner : Owners) (rs : List Recorded) (lines : List Listed) (end : ℕ) (marks : List Bool) (l : Listed) (found : List Source)
    → AreSources owner rs l.event found → AreMarked lines end marks → IsAsSaid found l marks ↔ IsTold owner rs lines l
is_told owner rs lines end marks l found are marked = (
  λ said. record {
    sources = subst (AreSources owner rs l.event) said.0 are;
    closed = λ s has. (marked.marked s.event).0 (said.1 s (subst (λ ss. Contains ss s) (sym said.0) has));
  },
  λ told.
      let same = one_list owner rs l.event found l.sources are told.sources in
      (same, λ s has. (marked.marked s.event).1 (told.closed s (subst (λ ss. Contains ss s) same has))),
)

-- ---- events that are sources

module _ {X : Type 0} (p : X → Bool) where
  pub any_some : (xs : List X) → list_any p xs ≡ true → (x : X) × Contains xs x × (p x ≡ true)
  any_some [] is = absurd (false≢true is)
  any_some (x ∷ xs) is = ⊎_elim
      (λ (here : p x ≡ true). (x, (0, omega arith, refl), here))
      (λ (later : list_any p xs ≡ true). let rest = any_some xs later in (rest.0, (suc rest.1.0, omega (arith, rest.1.1), rest.1.2), rest.2))
      (or_cases (p x) (list_any p xs) is)

  pub any_from : (xs : List X) (x : X) → Contains xs x → p x ≡ true → list_any p xs ≡ true
  any_from [] x has is = absurd (omega (arith, has.1))
  any_from (y ∷ xs) x (zero, lt, same) is = or_left (p y) (list_any p xs) (ap p same ∙ is)
  any_from (y ∷ xs) x (suc k, lt, same) is = or_right (p y) (list_any p xs) (any_from xs x (k, omega (arith, lt), same) is)

pub any_comes : (owner : Owners) (rs : List Recorded) (n : ℕ) (found : List Source) → AreSources owner rs n found → (j : ℕ)
    → (list_any (λ (s : Source). nat_eq j s.event) found ≡ true) ↔ ComesFrom owner rs n j
any_comes owner rs n found are j = (
  λ is.
      let one = any_some (λ (s : Source). nat_eq j s.event) found is in
      let has = (are.exact (source_of one.0)).0 (member_listed source_of found (map source_of found) one.0 refl one.1) in
      (role_of one.0.role, subst (λ e. Contains (sources owner rs n) (record { role = role_of one.0.role; event = e })) (sym (eqb-true j one.0.event one.2)) has),
  λ comes.
      let back = from_map source_of found (record { role = comes.0; event = j }) ((are.exact (record { role = comes.0; event = j })).1 comes.1) in
      any_from (λ (s : Source). nat_eq j s.event) found back.0 back.1 (eq-eqb j back.0.event (sym (ap (λ (u : records.Source). u.event) back.2))),
)

-- sources are below their event
pub comes_below : (owner : Owners) (rs : List Recorded) (n : ℕ) (r : Recorded) → slice_get rs n ≡ Some r → RefersBelow n r → (j : ℕ) → ComesFrom owner rs n j → j < n
comes_below owner rs n r at refers j comes =
    contains_below n (event_sources owner rs r) (record { role = comes.0; event = j }) (sources_below owner rs n r refers)
    (subst (λ ss. Contains ss (record { role = comes.0; event = j })) (sources_at owner rs n r at) comes.1)

-- ---- lists that rise, by places

pub beyond : {X : Type 0} (xs : List X) (i j : ℕ) (x : X) → slice_get xs i ≡ None → i ≤ j → slice_get xs j ≡ Some x → ⊥
beyond [] i j x none le at = none-some x at
beyond (y ∷ xs) zero j x none le at = none-some y (sym none)
beyond (y ∷ xs) (suc i) zero x none le at = absurd (omega (arith, le))
beyond (y ∷ xs) (suc i) (suc j) x none le at = beyond xs i j x none (omega (arith, le)) at

pub listed_at : (ls : List Listed) (i : ℕ) (l : Listed) → slice_get ls i ≡ Some l → Contains ls l
listed_at [] i l at = absurd (none-some l at)
listed_at (k ∷ ls) zero l at = (0, omega arith, same_Some k l at)
listed_at (k ∷ ls) (suc i) l at = let rest = listed_at ls i l at in (suc rest.0, omega (arith, rest.1), rest.2)

pub place_of : (ls : List Listed) (l : Listed) → Contains ls l → (i : ℕ) × (slice_get ls i ≡ Some l)
place_of [] l has = absurd (omega (arith, has.1))
place_of (k ∷ ls) l (zero, lt, is) = (0, ap Some is)
place_of (k ∷ ls) l (suc i, lt, is) = let rest = place_of ls l (i, omega (arith, lt), is) in (suc rest.0, rest.1)

pub at_least : (low high : ℕ) (ls : List Listed) (i : ℕ) (l : Listed) → Rises low high (events ls) → slice_get ls i ≡ Some l → (low ≤ l.event) × (l.event < high)
at_least low high [] i l up at = absurd (none-some l at)
at_least low high (k ∷ ls) zero l up at = let same = ap (λ (m : Listed). m.event) (same_Some k l at) in (omega (arith, up.0, same), omega (arith, up.1, same))
at_least low high (k ∷ ls) (suc i) l up at = let rest = at_least (suc k.event) high ls i l up.2 at in (omega (arith, rest.0, up.0), rest.1)

pub later_above : (low high : ℕ) (ls : List Listed) (i j : ℕ) (l m : Listed) → Rises low high (events ls) → i < j → slice_get ls i ≡ Some l → slice_get ls j ≡ Some m → l.event < m.event
later_above low high [] i j l m up lt at_i at_j = absurd (none-some l at_i)
later_above low high (k ∷ ls) i zero l m up lt at_i at_j = absurd (omega (arith, lt))
later_above low high (k ∷ ls) zero (suc j) l m up lt at_i at_j =
    let same = ap (λ (n : Listed). n.event) (same_Some k l at_i) in
    let up_j = (at_least (suc k.event) high ls j m up.2 at_j).0 in
    omega (arith, same, up_j)
later_above low high (k ∷ ls) (suc i) (suc j) l m up lt at_i at_j = later_above (suc k.event) high ls i j l m up.2 (omega (arith, lt)) at_i at_j

-- ---- one line more

module _ (owner : Owners) (rs : List Recorded) (lines : List Listed) (k : ℕ) where
  pub needed_more : (l : Listed) (j : ℕ) (old new any : Bool) → slice_get lines k ≡ Some l → Decides old (IsNeeded owner rs lines k j) → new ≡ (old || any)
      → (any ≡ true) ↔ ComesFrom owner rs l.event j → Decides new (IsNeeded owner rs lines (suc k) j)
  needed_more l j old new any at before is here = (
    λ yes. ⊎_elim
        (λ (was : old ≡ true). let one = before.0 was in record { place = one.place; line = one.line; first = omega (arith, one.first); there = one.there; comes = one.comes })
        (λ (now : any ≡ true). record { place = k; line = l; first = omega arith; there = at; comes = here.0 now })
        (or_cases old any (sym is ∙ yes)),
    λ one. is ∙ ⊎_elim
        (λ (front : one.place < k). or_left old any (before.1 (record { place = one.place; line = one.line; first = front; there = one.there; comes = one.comes })))
        (λ (last : k ≤ one.place).
        let place : one.place ≡ k = omega (arith, last, one.first) in
        let same : one.line ≡ l = same_Some one.line l (sym one.there ∙ ap (slice_get lines) place ∙ at) in
        or_right old any (here.1 (subst (λ (m : Listed). ComesFrom owner rs m.event j) same one.comes)))
        (cases_lt one.place k),
  )

-- ---- the next event

module _ (owner : Owners) (rs : List Recorded) (lines : List Listed) (end n : ℕ) where
  -- no line is of it
  passed : (old : Weighing) → Rises 0 end (events lines) → IsWeighed owner rs lines end n old
      → ((l : Listed) → slice_get lines (length old.sound.items) ≡ Some l → l.event ≡ n → ⊥)
      → (i : ℕ) (l : Listed) → slice_get lines i ≡ Some l → length old.sound.items ≤ i → suc n ≤ l.event
  passed old up w lacks i l at le = ⊎_elim
      (λ (here : i ≡ length old.sound.items). let apart = lacks l (subst (λ k. slice_get lines k ≡ Some l) here at) in let above = w.ahead i l at le in omega (arith, apart, above))
      (λ (apart : i ≡ length old.sound.items → ⊥). first (slice_get lines (length old.sound.items)) refl (omega (arith, le, apart)))
      (cases_eq i (length old.sound.items))
    where
      first : (o : Option Listed) → slice_get lines (length old.sound.items) ≡ o → length old.sound.items < i → suc n ≤ l.event
      first None none lt = absurd (beyond lines (length old.sound.items) i l none (omega (arith, lt)) at)
      first (Some k) there lt =
          let above = w.ahead (length old.sound.items) k there (omega arith) in
          let later = later_above 0 end lines (length old.sound.items) i k l up lt there at in
          omega (arith, above, later)

  pub passed_by : (old new : Weighing) (r : Recorded) → Rises 0 end (events lines) → slice_get rs n ≡ Some r → n ≤ length rs → IsWeighed owner rs lines end n old
      → ((l : Listed) → slice_get lines (length old.sound.items) ≡ Some l → l.event ≡ n → ⊥)
      → new.needed ≡ old.needed → new.sound ≡ old.sound → HasSeen new.history (take n rs ++ r ∷ []) → AreLinesAsked new.history rs lines
      → IsWeighed owner rs lines end (suc n) new
  passed_by old new r up at le w lacks needed sound seen asked = record {
    seen = subst (HasSeen new.history) (sym (front_more rs n r at)) seen;
    asked = asked;
    room = ap (λ (v : Vec Bool Global). length v.items) needed ∙ w.room;
    some = subst (λ (v : Vec Bool Global). length v.items ≤ length lines) (sym sound) w.some;
    behind = λ i l at_i lt. let below = w.behind i l at_i (subst (λ (v : Vec Bool Global). i < length v.items) sound lt) in omega (arith, below);
    ahead = λ i l at_i more. passed old up w lacks i l at_i (subst (λ (v : Vec Bool Global). length v.items ≤ i) sound more);
    told = λ i l at_i lt. subst (λ (v : Vec Bool Global). Decides (mark_of v.items i) (IsTold owner rs lines l)) (sym sound) (w.told i l at_i (subst (λ (v : Vec Bool Global). i < length v.items) sound lt));
    needed = λ j lt. subst (λ (v : Vec Bool Global). Decides (mark_of v.items j) (IsNeeded owner rs lines (length new.sound.items) j)) (sym needed)
        (subst (λ (v : Vec Bool Global). Decides (mark_of old.needed.items j) (IsNeeded owner rs lines (length v.items) j)) (sym sound) (w.needed j lt));
    sources = λ i l at_i lt. w.sources i l at_i (subst (λ (v : Vec Bool Global). i < length v.items) sound lt);
  }

  -- the line of the event was weighed
  pub weighed_more : (old mid new : Weighing) (l : Listed) (r : Recorded) → Rises 0 end (events lines) → slice_get rs n ≡ Some r → RefersBelow n r → IsWeighed owner rs lines end n old
      → slice_get lines (length old.sound.items) ≡ Some l → l.event ≡ n → IsWeighedNext owner rs lines end n old mid
      → new.needed ≡ mid.needed → new.sound ≡ mid.sound → HasSeen new.history (take n rs ++ r ∷ []) → AreLinesAsked new.history rs lines
      → IsWeighed owner rs lines end (suc n) new
  weighed_more old mid new l r up at refers w there is next needed sound seen asked =
      let one : length new.sound.items ≡ suc (length old.sound.items) = ap (λ (v : Vec Bool Global). length v.items) sound ∙ next.one in
      record {
        seen = subst (HasSeen new.history) (sym (front_more rs n r at)) seen;
        asked = asked;
        room = ap (λ (v : Vec Bool Global). length v.items) needed ∙ next.room;
        some = omega (arith, one, slice_get_within lines (length old.sound.items) l there);
        behind = λ i m at_i lt. ⊎_elim
            (λ (before : i < length old.sound.items). let below = w.behind i m at_i before in omega (arith, below))
            (λ (last : length old.sound.items ≤ i).
            let place : i ≡ length old.sound.items = omega (arith, last, lt, one) in
            let same : m ≡ l = same_Some m l (sym at_i ∙ ap (slice_get lines) place ∙ there) in
            omega (arith, ap (λ (k : Listed). k.event) same, is))
            (cases_lt i (length old.sound.items));
        ahead = λ i m at_i more. let later = later_above 0 end lines (length old.sound.items) i l m up (omega (arith, more, one)) there at_i in omega (arith, later, is);
        told = λ i m at_i lt. subst (λ (v : Vec Bool Global). Decides (mark_of v.items i) (IsTold owner rs lines m)) (sym sound) (next.told i m at_i (subst (λ (v : Vec Bool Global). i < length v.items) sound lt));
        needed = λ j lt. subst (λ (v : Vec Bool Global). Decides (mark_of v.items j) (IsNeeded owner rs lines (length new.sound.items) j)) (sym needed)
            (subst (λ (v : Vec Bool Global). Decides (mark_of mid.needed.items j) (IsNeeded owner rs lines (length v.items) j)) (sym sound) (next.needed j lt));
        sources = λ i m at_i lt. ⊎_elim
            (λ (before : i < length old.sound.items). w.sources i m at_i before)
            (λ (last : length old.sound.items ≤ i).
            let place : i ≡ length old.sound.items = omega (arith, last, lt, one) in
            let same : l ≡ m = same_Some l m (sym there ∙ ap (slice_get lines) (sym place) ∙ at_i) in
            λ j comes. comes_below owner rs m.event r (subst (λ k. slice_get rs k ≡ Some r) (sym is ∙ ap (λ (k : Listed). k.event) same) at) (subst (λ k. RefersBelow k r) (sym is ∙ ap (λ (k : Listed). k.event) same) refers) j comes)
            (cases_lt i (length old.sound.items));
      }

-- the sources that were found are those of the event
pub found_are : (owner : Owners) (rs : List Recorded) (n : ℕ) (r : Recorded) (found : List Source) → slice_get rs n ≡ Some r → RefersBelow n r
    → ((s : records.Source) → Contains (map source_of found) s ↔ Contains (event_sources owner (take n rs) r) s) → IsStrictlySortedBy source_cmp found → AreSources owner rs n found
found_are owner rs n r found at refers exact order = record {
  exact = λ s. subst (λ ss. Contains (map source_of found) s ↔ Contains ss s) (sources_front owner rs n r refers ∙ sym (sources_at owner rs n r at)) (exact s);
  in_order = order;
}

-- the uses of a line's event are asked about
pub line_asked : (h : History) (rs : List Recorded) (ls : List Listed) (i : ℕ) (l : Listed) → AreLinesAsked h rs ls → slice_get ls i ≡ Some l → AreAsked h (uses_at rs l.event)
line_asked h rs [] i l asked at = absurd (none-some l at)
line_asked h rs (k ∷ ls) zero l asked at = subst (λ (m : Listed). AreAsked h (uses_at rs m.event)) (same_Some k l at) asked.0
line_asked h rs (k ∷ ls) (suc i) l asked at = line_asked h rs ls i l asked.1 at

front_mark : (xs : List Bool) (b : Bool) (i : ℕ) → i < length xs → mark_of (xs ++ b ∷ []) i ≡ mark_of xs i
front_mark [] b i lt = absurd (omega (arith, lt))
front_mark (x ∷ xs) b zero lt = refl
front_mark (x ∷ xs) b (suc i) lt = front_mark xs b i (omega (arith, lt))

last_mark : (xs : List Bool) (b : Bool) → mark_of (xs ++ b ∷ []) (length xs) ≡ b
last_mark [] b = refl
last_mark (x ∷ xs) b = last_mark xs b

pub weighed_next : (owner : Owners) (rs : List Recorded) (lines : List Listed) (end n : ℕ) (old new : Weighing) (l : Listed) (found : List Source) (b : Bool) (marks : List Bool)
    → IsWeighed owner rs lines end n old → AreMarked lines end marks → slice_get lines (length old.sound.items) ≡ Some l → l.event ≡ n → AreSources owner rs n found
    → new.history ≡ old.history → length new.needed.items ≡ length old.needed.items
    → ((j : ℕ) → j < length old.needed.items → mark_of new.needed.items j ≡ (mark_of old.needed.items j || list_any (λ (s : Source). nat_eq j s.event) found))
    → new.sound.items ≡ old.sound.items ++ b ∷ [] → (b ≡ true) ↔ IsAsSaid found l marks → IsWeighedNext owner rs lines end n old new
weighed_next owner rs lines end n old new l found b marks w marked there at are history room needs sound said =
    let one : length new.sound.items ≡ suc (length old.sound.items) = (let h = ap length sound in omega (arith, h, length-append old.sound.items (b ∷ []))) in
    let are_l : AreSources owner rs l.event found = subst (λ k. AreSources owner rs k found) (sym at) are in
    let told = is_told owner rs lines end marks l found are_l marked in
    record {
      history = history;
      room = room ∙ w.room;
      one = one;
      told = λ i m at_i lt. ⊎_elim
          (λ (front : i < length old.sound.items). subst (λ v. Decides v (IsTold owner rs lines m)) (sym (ap (λ xs. mark_of xs i) sound ∙ front_mark old.sound.items b i front)) (w.told i m at_i front))
          (λ (last : length old.sound.items ≤ i).
          let place : i ≡ length old.sound.items = omega (arith, last, lt, one) in
          let same : m ≡ l = same_Some m l (sym at_i ∙ ap (slice_get lines) place ∙ there) in
          subst (λ v. Decides v (IsTold owner rs lines m)) (sym (ap₂ (λ xs k. mark_of xs k) sound place ∙ last_mark old.sound.items b))
          (subst (λ (k : Listed). Decides b (IsTold owner rs lines k)) (sym same) (λ yes. told.0 (said.0 yes), λ is. said.1 (told.1 is))))
          (cases_lt i (length old.sound.items));
      needed = λ j lt. subst (λ k. Decides (mark_of new.needed.items j) (IsNeeded owner rs lines k j)) (sym one)
          (needed_more owner rs lines (length old.sound.items) l j (mark_of old.needed.items j) (mark_of new.needed.items j) (list_any (λ (s : Source). nat_eq j s.event) found) there (w.needed j lt)
          (needs j (omega (arith, lt, w.room))) (any_comes owner rs l.event found are_l j));
    }

-- ---- what holds of each

all_from : {X : Type 0} (p : X → Bool) (xs : List X) → list_all p xs ≡ true → (x : X) → Contains xs x → p x ≡ true
all_from p [] all x has = absurd (omega (arith, has.1))
all_from p (y ∷ xs) all x (zero, lt, same) = ap p (sym same) ∙ (and_parts (p y) (list_all p xs) all).0
all_from p (y ∷ xs) all x (suc k, lt, same) = all_from p xs (and_parts (p y) (list_all p xs) all).1 x (k, omega (arith, lt), same)

all_to : {X : Type 0} (p : X → Bool) (xs : List X) → ((x : X) → Contains xs x → p x ≡ true) → list_all p xs ≡ true
all_to p [] each = refl
all_to p (y ∷ xs) each = ap₂ (λ a b. a && b) (each y (0, omega arith, refl)) (all_to p xs (λ x has. each x (suc has.0, omega (arith, has.1), has.2)))

pub said_so : (found : List Source) (l : Listed) (marks : List Bool) (b : Bool) → found ≡ l.sources → b ≡ list_all (λ (s : Source). mark_of marks s.event) found → (b ≡ true) ↔ IsAsSaid found l marks
said_so found l marks b same is = (
  λ yes. (same, all_from (λ (s : Source). mark_of marks s.event) found (sym is ∙ yes)),
  λ said. is ∙ all_to (λ (s : Source). mark_of marks s.event) found said.1,
)
