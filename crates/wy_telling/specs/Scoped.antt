-- Why the guards around a statement were not passed in a call, line by line.
use Rattle.std.specs.Prelude.{◌≡◌, ◌<◌, ℕ, suc, true, false, List, [], ◌∷◌, ◌++◌, length, Result, Ok, Err, Vec, codes}
use Rattle.std.specs.List.{flat_map}
use Rattle.std.specs.declared.alloc.Global.{Global}
use Rattle.wy_kernel.specs.Program.{Program}
use Rattle.wy_kernel.specs.Statements.{statements_of}
use Rattle.wy_kernel.specs.View.{NONE, present}
use Rattle.wy_event.specs.Record.{Recorded}
use Rattle.wy_view.specs.View.{RefusedFor, Told}
use Rattle.wy_static.specs.declared.point.Point.{Point}
use Rattle.wy_static.specs.declared.point.Point.TheVariants.{Entry, Init, Catch as Clause}
use Rattle.wy_static.specs.declared.point.LinkKind.{LinkKind}
use Rattle.wy_static.specs.declared.point.LinkKind.TheVariants.{Arm}
use Rattle.wy_text.specs.EndLines.{line_of, name_of, place_of}
use Rattle.wy_whynot.specs.declared.item.Made.{Made}
use Rattle.wy_scope.specs.Evidence.{Evidence}
use Rattle.wy_scope.specs.Items.{AreItems, IsMissed, region_of_statement}
use Rattle.wy_scope.specs.Laws.{is_call_at}
use Rattle.wy_scope.specs.Passing.{IsFirstPass}
use Rattle.wy_ask.specs.declared.naming.NamedStatement.{NamedStatement}
use Rattle.wy_ask.specs.Lines.{numbers_on}
use Rattle.wy_ask.specs.Statements.{Names, SpellsStatement}
use Rattle.wy_telling.specs.declared.scoped.Unscoped.{Unscoped}
use Rattle.wy_telling.specs.declared.scoped.Unscoped.TheVariants as unscoped
use Rattle.wy_telling.specs.Items.{call_text, catch_text, last_from, no_call_line, tested, truth}
use Rattle.wy_telling.specs.Whynot.{NamesStatement}

-- ---- the lines

-- how often the test gave the other value in the call
unfoldable pub tests_text_in : ℕ → List ℕ → List ℕ
tests_text_in value [] = codes "no test there"
tests_text_in value (first ∷ rest) = tested value (suc (length rest)) first (last_from first rest)

unfoldable pub arm_text_in : ℕ → List ℕ → List ℕ
arm_text_in value tests =
    codes "arm " ++ (truth value ++ (codes " not taken: " ++ tests_text_in value tests))

unfoldable pub class_text_in : Program → ℕ → List ℕ
class_text_in p class =
    codes "class " ++ (name_of p (present class) ++ codes " not initialized in this call")

-- what was not come to: a method with what was called in its place, a class, or a clause
unfoldable pub crossing : Program → Point → List Made → List ℕ
crossing p (Entry method) made = call_text p method made NONE
crossing p (Init class) made = class_text_in p class
crossing p (Clause site) made = catch_text p site
crossing p _ made = []

unfoldable pub reason_in : Program → LinkKind → Evidence → List ℕ
reason_in p (Arm value) i = arm_text_in value i.tests
reason_in p _ i = crossing p i.link.to i.made

-- where a link is, and why it was not crossed
unfoldable pub item_line_in : Program → List ℕ → Evidence → List ℕ
item_line_in p lines i =
    line_of (place_of lines (present i.link.site) ++ (codes " " ++ reason_in p i.link.kind i))

-- a line an item; without items no call leads to the statement
unfoldable pub items_text_in : Program → List ℕ → List Evidence → List ℕ
items_text_in p lines [] = no_call_line
items_text_in p lines (i ∷ items) = flat_map (item_line_in p lines) (i ∷ items)

-- ---- the answer

-- why there is no answer: the word names no statement, there is no such call, or the statement's region was
-- passed in it
pub data Refused : Type 0 where
  NotRead : Refused
  NoSuch : (number : ℕ) → Refused
  Passed : (line place event : ℕ) → Refused

-- the answer to a word and a call that are put to a trace of a program
pub data ScopeIs (p : Program) (lines : List ℕ) (rs : List Recorded) (word : List ℕ) (call : ℕ)
    : Result (List ℕ) Refused → Type 0 where
  answered : (line place n : ℕ) (items : List Evidence) → NamesStatement p lines word line place n
      → is_call_at rs call ≡ true → IsMissed p rs call n → AreItems p rs call n items
      → ScopeIs p lines rs word call (Ok (items_text_in p lines items))
  passed : (line place n event : ℕ) → NamesStatement p lines word line place n
      → is_call_at rs call ≡ true → IsFirstPass p rs call (region_of_statement p n) event
      → ScopeIs p lines rs word call (Err (Passed line place event))
  no_call : (line place n : ℕ) → NamesStatement p lines word line place n
      → is_call_at rs call ≡ false → ScopeIs p lines rs word call (Err (NoSuch call))
  not_there : (line place : ℕ) → Names word line place
      → length (numbers_on lines line (statements_of p)) < place
      → ScopeIs p lines rs word call (Err (NoSuch line))
  not_read : ((line place : ℕ) → ¬ SpellsStatement line place word)
      → ScopeIs p lines rs word call (Err NotRead)

-- a word and a call have one answer
abbrev pub OneAnswerToScope : Type 0
OneAnswerToScope = (p : Program) (lines : List ℕ) (rs : List Recorded) (word : List ℕ) (call : ℕ)
    (a b : Result (List ℕ) Refused)
    → ScopeIs p lines rs word call a → ScopeIs p lines rs word call b → a ≡ b

-- this text or this refusal is the answer; a view can refuse, and memory run out, at any word
abbrev pub TellsScope : Program → List ℕ → List Recorded → List ℕ → ℕ
    → Result (Vec ℕ Global) Unscoped → Type 0
TellsScope p lines rs word call (Ok text) = ScopeIs p lines rs word call (Ok text.items)
TellsScope p lines rs word call (Err unscoped.NotRead) = ScopeIs p lines rs word call (Err NotRead)
TellsScope p lines rs word call (Err (unscoped.NoSuch number)) =
    ScopeIs p lines rs word call (Err (NoSuch number))
TellsScope p lines rs word call (Err (unscoped.Passed line place event)) =
    ScopeIs p lines rs word call (Err (Passed line place event))
TellsScope p lines rs word call (Err (unscoped.View error)) = Unit {0}

-- a view's refusal has its cause, and every other answer leaves the view's faults
abbrev pub KeepsFaults : {X : Type 0} → Result X Unscoped → Told → Told → Type 0
KeepsFaults (Ok x) old new = new.faults ≡ old.faults
KeepsFaults (Err unscoped.NotRead) old new = new.faults ≡ old.faults
KeepsFaults (Err (unscoped.NoSuch number)) old new = new.faults ≡ old.faults
KeepsFaults (Err (unscoped.Passed line place event)) old new = new.faults ≡ old.faults
KeepsFaults (Err (unscoped.View error)) old new = RefusedFor error old new

-- ---- the parts of the way

-- the lines of the items of a statement in a call, that there is no such call, or that its region was passed
abbrev pub TellsNamedIn : Program → List ℕ → List Recorded → NamedStatement → ℕ
    → Result (Vec ℕ Global) Unscoped → Type 0
TellsNamedIn p lines rs s call (Ok text) =
    (is_call_at rs call ≡ true) × IsMissed p rs call s.number
    × ((items : List Evidence) × AreItems p rs call s.number items
    × (text.items ≡ items_text_in p lines items))
TellsNamedIn p lines rs s call (Err unscoped.NotRead) = ⊥
TellsNamedIn p lines rs s call (Err (unscoped.NoSuch number)) =
    (number ≡ call) × (is_call_at rs call ≡ false)
TellsNamedIn p lines rs s call (Err (unscoped.Passed line place event)) =
    (line ≡ s.line) × (place ≡ s.place) × (is_call_at rs call ≡ true)
    × IsFirstPass p rs call (region_of_statement p s.number) event
TellsNamedIn p lines rs s call (Err (unscoped.View error)) = Unit {0}
