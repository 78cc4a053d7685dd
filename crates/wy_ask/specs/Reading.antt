-- The question that a word asks, as the functions of this crate find it.
use Rattle.std.specs.Prelude.{◌≡◌, ℕ, Bool, true, false, ◌&&◌, nat_eq, List, [], ◌∷◌, ◌++◌, Option, Some, None, option_map, if◌then◌else◌, codes, Result, Ok, Err}
use Rattle.std.specs.Borrow.{Bor}
use Rattle.wy_ask.specs.declared.parts.FieldWord.{FieldWord}
use Rattle.wy_ask.specs.declared.question.Question.{Question}
use Rattle.wy_ask.specs.declared.question.AskError.{AskError}
use Rattle.wy_ask.specs.declared.question.AskError.TheVariants as errors
use Rattle.wy_ask.specs.Words.{is_name, number_of, library}
use Rattle.wy_ask.specs.Questions.{Asked, Print, Event, Static, Field, Elem, Local, asked}

abbrev pub and_then : {X Y : Type 0} → Option X → (X → Option Y) → Option Y
and_then None f = None
and_then (Some x) f = f x

-- what stands behind the front of a text, if it begins so
abbrev pub behind : List ℕ → List ℕ → Option (List ℕ)
behind [] text = Some text
behind (b ∷ front) [] = None
behind (b ∷ front) (c ∷ text) = if nat_eq b c then behind front text else None

abbrev pub with_first : ℕ → Option (List ℕ × List ℕ) → Option (List ℕ × List ℕ)
with_first b None = None
with_first b (Some x) = Some (b ∷ x.0, x.1)

-- what stands before the first sign of this kind, and behind it
abbrev pub cut : ℕ → List ℕ → Option (List ℕ × List ℕ)
cut sign [] = None
cut sign (b ∷ text) = if nat_eq b sign then Some ([], text) else with_first b (cut sign text)

abbrev pub parts : Bor (List ℕ) × Bor (List ℕ) → List ℕ × List ℕ
parts x = (x.0.now, x.1.now)

abbrev pub placed : Bor (List ℕ) × ℕ → List ℕ × ℕ
placed x = (x.0.now, x.1)

-- what this reads behind the front of a text, and another reading where it begins otherwise
abbrev pub by_front : {X Y : Type 0} → Option X → (X → Option Y) → Option Y → Option Y
by_front None f other = other
by_front (Some rest) f other = f rest

-- a class in its package, if it is of the library
abbrev pub class_word : Bool → List ℕ → List ℕ
class_word of_library name = if of_library then library ++ name else name

abbrev pub field_seen : FieldWord → List ℕ × List ℕ
field_seen x = (class_word x.of_library x.class.now, x.name.now)

abbrev pub named_as : Bool → Option (List ℕ × List ℕ) → Option (List ℕ × List ℕ)
named_as of_library None = None
named_as of_library (Some x) = if is_name x.0 && is_name x.1 then Some (class_word of_library x.0, x.1) else None

-- a class and a field
abbrev pub named_in : List ℕ → Option (List ℕ × List ℕ)
named_in text = by_front (behind library text) (λ rest. named_as true (cut 46 rest)) (named_as false (cut 46 text))

-- a place, and the moment behind it
abbrev pub at_moment : List ℕ → Option (List ℕ × ℕ)
at_moment text = and_then (cut 64 text) (λ x. option_map (λ m. (x.0, m)) (number_of x.1))

-- a holder, and the part behind it
abbrev pub within : List ℕ → Option (ℕ × List ℕ)
within place = and_then (cut 58 place) (λ x. option_map (λ n. (n, x.1)) (number_of x.0))

-- a holder, an index and a moment
abbrev pub numbered_in : List ℕ → Option (ℕ × ℕ × ℕ)
numbered_in text = and_then (at_moment text) (λ x. and_then (within x.0) (λ y. option_map (λ i. (y.0, i, x.1)) (number_of y.1)))

abbrev pub static_in : List ℕ → Option Asked
static_in text = and_then (at_moment text) (λ x. option_map (λ f. Static f.0 f.1 x.1) (named_in x.0))

abbrev pub field_in : List ℕ → Option Asked
field_in text = and_then (at_moment text) (λ x. and_then (within x.0) (λ y. option_map (λ f. Field y.0 f.0 f.1 x.1) (named_in y.1)))

abbrev pub elem_in : List ℕ → Option Asked
elem_in text = option_map (λ x. Elem x.0 x.1 x.2) (numbered_in text)

abbrev pub local_in : List ℕ → Option Asked
local_in text = option_map (λ x. Local x.0 x.1 x.2) (numbered_in text)

abbrev pub event_in : List ℕ → Option Asked
event_in text =
    by_front (behind (codes "p") text) (λ w. option_map Print (number_of w))
    (by_front (behind (codes "e") text) (λ w. option_map Event (number_of w)) None)

abbrev pub numbered_or_event_in : List ℕ → Option Asked
numbered_or_event_in text = by_front (behind (codes "elem:") text) elem_in (by_front (behind (codes "local:") text) local_in (event_in text))

-- the question that a text asks
abbrev pub question_in : List ℕ → Option Asked
question_in text = by_front (behind (codes "static:") text) static_in (by_front (behind (codes "field:") text) field_in (numbered_or_event_in text))

-- this question, and none exactly where there is none; memory can run out at any text
abbrev pub Reads : Result Question AskError → Option Asked → Type 0
Reads (Ok q) found = found ≡ Some (asked q)
Reads (Err errors.BadQuestion) found = found ≡ None
Reads (Err (errors.NoSuch n)) found = ⊥
Reads (Err errors.NoMemory) found = Unit {0}
