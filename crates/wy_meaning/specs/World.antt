-- What the forms of a program share: the program, and what a call and an initialization do; the exceptions that the machine throws; and what a value refers to.
use Rattle.std.specs.Prelude.{ℕ, ◌+◌, pos, Bool, true, false, List, [], ◌∷◌, Option, Some}
use Rattle.std.specs.Prelude.{None as Absent}
use Rattle.wy_kernel.specs.declared.types.Base.TheVariants.{Class as Named}
use Rattle.wy_kernel.specs.declared.types.Ty.{Ty}
use Rattle.wy_kernel.specs.declared.types.Ty.TheVariants.{Null as OfNull, Of}
use Rattle.wy_kernel.specs.Program.{Program, type_of_code, string_class, fixed_text}
use Rattle.wy_value.specs.declared.value.Value.{Value}
use Rattle.wy_value.specs.declared.value.Value.TheVariants.{None as Nothing, Bool as Boolean, Int, Null, Object, Text, Fixed}
use Rattle.wy_event.specs.declared.record.Kind.{Kind}
use Rattle.wy_event.specs.declared.record.Kind.TheVariants as kind
use Rattle.wy_event.specs.declared.record.Slot.{Slot}
use Rattle.wy_event.specs.declared.record.Slot.TheVariants.{None as Nowhere}
use Rattle.wy_event.specs.Record.{Recorded}
use Rattle.wy_steps.specs.Sets.{Sets}
use Rattle.wy_steps.specs.State.{Carried, Run, Threw, ◌>>=◌, return, leave}
use Rattle.wy_steps.specs.Steps.{Draft, value_of, note, note_new, event_at, code_of}

-- a call of a method by its site, its number, its receiver if it has one and its arguments; and an initialization of a class by its site and its number
pub record World (A : Sets) : Type 0 where
  pub program : Program
  pub call : (site method : ℕ) → Option (Carried A) → List (Carried A) → Run A (Carried A)
  pub enter : (site class : ℕ) → Run A Unit

-- ---- drafts of events

unfoldable pub plain : Kind → ℕ → Value → Draft
plain k site v = record { kind = k; site = site; entity = Absent; slot = Nowhere; value = v; units = [] }

unfoldable pub about : Kind → ℕ → ℕ → Value → Draft
about k site entity v = record { kind = k; site = site; entity = Some entity; slot = Nowhere; value = v; units = [] }

unfoldable pub into : Kind → ℕ → Slot → Value → Draft
into k site x v = record { kind = k; site = site; entity = Absent; slot = x; value = v; units = [] }

unfoldable pub spelling : ℕ → List ℕ → Draft
spelling site units = record { kind = kind.Text; site = site; entity = Absent; slot = Nowhere; value = Nothing; units = units }

-- ---- exceptions of the machine (JLS 11.1.1): a New and a Throw at the failing form, and no constructor

abbrev pub arithmetic : ℕ
arithmetic = 6

abbrev pub array_store : ℕ
array_store = 7

abbrev pub class_cast : ℕ
class_cast = 8

abbrev pub number_format : ℕ
number_format = 10

abbrev pub array_index : ℕ
array_index = 13

abbrev pub string_index : ℕ
string_index = 14

abbrev pub negative_size : ℕ
negative_size = 15

abbrev pub null_pointer : ℕ
null_pointer = 16

-- the type code of a class
unfoldable pub class_code : ℕ → ℕ
class_code c = 16 + c

-- throws an object at a site
unfoldable pub throwing : {A : Sets} {X : Type 0} → ℕ → Carried A → Run A X
throwing site v = do
  e ← note (plain kind.Throw site v.value) v
  leave (Threw e.number (value_of e v.value))

-- an exception of a class, of the operands of the form that failed
unfoldable pub fail : {A : Sets} {X : Type 0} → World A → ℕ → ℕ → Carried A → Run A X
fail w c site operands = do
  e ← note_new w.program (about kind.New site (class_code c) Nothing) operands
  throwing site (value_of e (Object e.number))

-- ---- what a value refers to

unfoldable pub is_true : Value → Bool
is_true (Boolean b) = b
is_true _ = false

-- the arm that a test of two ends takes: 1 where it is true, 0 where it is false
unfoldable pub arm_of_truth : Bool → ℕ
arm_of_truth true = 1
arm_of_truth false = 0

unfoldable pub object_in : Value → ℕ
object_in (Object n) = n
object_in _ = 0

unfoldable pub type_in : Option Recorded → Ty
type_in Absent = OfNull
type_in (Some e) = type_of_code (code_of e.entity)

-- the run-time type of a reference
unfoldable pub type_of : {A : Sets} → Value → Run A Ty
type_of (Object n) = do
  e ← event_at n
  return (type_in e)
type_of (Text n) = return (Of (Named string_class) 0)
type_of (Fixed n) = return (Of (Named string_class) 0)
type_of _ = return OfNull

unfoldable pub units_in : Option Recorded → List ℕ
units_in Absent = []
units_in (Some e) = e.units

-- the units of a text
unfoldable pub units_of : {A : Sets} → World A → Value → Run A (List ℕ)
units_of w (Text n) = do
  e ← event_at n
  return (units_in e)
units_of w (Fixed n) = return (fixed_text w.program n)
units_of w _ = return []

unfoldable pub natural_of : Value → ℕ
natural_of (Int (pos n)) = n
natural_of _ = 0

unfoldable pub length_in : Option Recorded → ℕ
length_in Absent = 0
length_in (Some e) = natural_of e.value

-- the number of an array's elements
unfoldable pub length_of : {A : Sets} → ℕ → Run A ℕ
length_of n = do
  e ← event_at n
  return (length_in e)

unfoldable pub is_text : Value → Bool
is_text (Text n) = true
is_text (Fixed n) = true
is_text _ = false

unfoldable pub is_null : Value → Bool
is_null Null = true
is_null _ = false

-- the object that a value refers to; at null the form at the site fails, of these operands
unfoldable pub object_of : {A : Sets} → World A → ℕ → Carried A → Value → Run A ℕ
object_of w site operands (Object n) = return n
object_of w site operands _ = fail w null_pointer site operands

-- ---- parts of a form in order

unfoldable pub all_of : {A : Sets} → List (Run A (Carried A)) → Run A (List (Carried A))
all_of [] = return []
all_of (m ∷ ms) = do
  v ← m
  vs ← all_of ms
  return (v ∷ vs)
