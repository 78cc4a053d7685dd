-- What an index finds in a list of records.
use Rattle.std.specs.Prelude.{◌+◌, ℕ, suc, pos, Bool, true, false, ◌&&◌, ◌==◌, nat_lt, if◌then◌else◌, List, [], ◌∷◌, ◌++◌, Option, Some, slice_get, slice_index_or}
use Rattle.std.specs.Prelude.{None as Absent}
use Rattle.wy_value.specs.declared.value.Value.{Value}
use Rattle.wy_value.specs.declared.value.Value.TheVariants.{Int}
use Rattle.wy_event.specs.declared.record.Kind.{Kind}
use Rattle.wy_event.specs.declared.record.Kind.TheVariants as kind
use Rattle.wy_event.specs.Record.{Recorded}
use Rattle.wy_kernel.specs.View.{NONE}
use Rattle.wy_event.specs.Sources.{Owners, is_write, is_entity}
use Rattle.wy_event.specs.declared.record.Slot.{Slot}
use Rattle.wy_event.specs.declared.record.Slot.TheVariants.{Static, Field, Elem}
use Rattle.wy_index.specs.declared.posting.Posting.{Posting}
use Rattle.wy_index.specs.declared.found.Hit.{Hit}
use Rattle.wy_index.specs.declared.found.Made.{Made}

-- what each record gives with its number, from number n on, in their order
abbrev pub gathered : {X : Type 0} → (ℕ → Recorded → List X) → ℕ → List Recorded → List X
gathered f n [] = []
gathered f n (r ∷ rs) = f n r ++ gathered f (suc n) rs

abbrev pub one_if : {X : Type 0} → Bool → X → List X
one_if b x = if b then x ∷ [] else []

-- a number as it is kept: NONE where it is absent
abbrev pub number : Option ℕ → ℕ
number Absent = NONE
number (Some n) = n

-- ---- writes

abbrev pub posting_of : ℕ → Recorded → List Posting
posting_of n r = one_if (is_write r.kind) (record { slot = r.slot; event = n })

abbrev pub postings_in : List Recorded → List Posting
postings_in rs = gathered posting_of 0 rs

-- ---- what was made

abbrev pub length_of : Value → ℕ
length_of (Int (pos n)) = n
length_of _ = 0

-- the type code of an object or array, and the length of an array
abbrev pub made_as : Kind → ℕ → Value → Option Made
made_as kind.New entity value = Some (record { entity = entity; length = length_of value })
made_as _ entity value = Absent

abbrev pub made_by : Recorded → Option Made
made_by r = made_as r.kind (number r.entity) r.value

abbrev pub made_at : Option Recorded → Option Made
made_at Absent = Absent
made_at (Some r) = made_by r

abbrev pub is_new : Kind → Bool
is_new kind.New = true
is_new _ = false

-- ---- prints, calls and initializations

abbrev pub is_print : Kind → Bool
is_print kind.Print = true
is_print _ = false

abbrev pub print_of : ℕ → Recorded → List ℕ
print_of n r = one_if (is_print r.kind) n

abbrev pub prints_in : List Recorded → List ℕ
prints_in rs = gathered print_of 0 rs

abbrev pub is_call : Kind → Bool
is_call kind.Call = true
is_call _ = false

abbrev pub is_init : Kind → Bool
is_init kind.Init = true
is_init _ = false

abbrev pub is_call_of : ℕ → Recorded → Bool
is_call_of method r = is_call r.kind && is_entity r.entity method

abbrev pub is_init_of : ℕ → Recorded → Bool
is_init_of class r = is_init r.kind && is_entity r.entity class

-- the first record that passes, from number n on
abbrev pub first_from : (Recorded → Bool) → ℕ → List Recorded → Option ℕ
first_from test n [] = Absent
first_from test n (r ∷ rs) = if test r then Some n else first_from test (suc n) rs

-- ---- hits

-- tests, calls, initializations and catches: what happened at a site of the text
abbrev pub is_hit : Kind → Bool
is_hit kind.Test = true
is_hit kind.Call = true
is_hit kind.Init = true
is_hit kind.Catch = true
is_hit _ = false

-- initializers are numbered behind methods; a class that leaves no room has none
abbrev pub first_initializer : ℕ
first_initializer = 2147483648

abbrev pub initializer_number : ℕ → ℕ
initializer_number class = if nat_lt class 2147483647 then first_initializer + class else NONE

-- the body that an event begins: its method's number, or that of its class's initializer
abbrev pub body_as : Kind → ℕ → ℕ
body_as kind.Call entity = entity
body_as kind.Init entity = initializer_number entity
body_as _ entity = NONE

abbrev pub body_of : Option Recorded → ℕ
body_of Absent = NONE
body_of (Some r) = body_as r.kind (number r.entity)

-- the body that is kept for a frame
abbrev pub body_at : List ℕ → Option ℕ → ℕ
body_at bodies Absent = NONE
body_at bodies (Some frame) = slice_index_or bodies frame NONE

abbrev pub caller_in : List Recorded → Option ℕ → ℕ
caller_in rs Absent = NONE
caller_in rs (Some frame) = body_of (slice_get rs frame)

-- the hit that record n is at a site, in a body
abbrev pub hit_from : ℕ → ℕ → ℕ → Recorded → List Hit
hit_from caller site n r = one_if (is_hit r.kind && (r.site == site)) (record { event = n; kind = r.kind; entity = number r.entity; caller = caller; value = r.value })

abbrev pub hit_at : List Recorded → ℕ → ℕ → Recorded → List Hit
hit_at rs site n r = hit_from (caller_in rs r.frame) site n r

-- those at a site, in their order
abbrev pub hits_in : List Recorded → ℕ → List Hit
hits_in rs site = gathered (hit_at rs site) 0 rs

-- ---- creations

-- the event with a number, if it is a New
abbrev pub made_new : ℕ → Option Recorded → Option ℕ
made_new n Absent = Absent
made_new n (Some r) = if is_new r.kind then Some n else Absent

-- the New of an object's field or an array's element, and the first Init of the class of a static field
abbrev pub maker_of : Owners → List Recorded → Slot → Option ℕ
maker_of owner rs (Static f) = first_from (is_init_of (owner f)) 0 rs
maker_of owner rs (Field object f) = made_new object (slice_get rs object)
maker_of owner rs (Elem array i) = made_new array (slice_get rs array)
maker_of owner rs _ = Absent

-- an event, if it is below a moment
abbrev pub earlier : ℕ → Option ℕ → Option ℕ
earlier moment Absent = Absent
earlier moment (Some n) = if nat_lt n moment then Some n else Absent
