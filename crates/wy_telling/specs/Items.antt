-- The lines of items: the links that a run reached and did not cross, each with what the run shows of it.
use Rattle.std.specs.Prelude.{ℕ, suc, ◌==◌, nat_lt, if◌then◌else◌, List, [], ◌∷◌, ◌++◌, length, codes}
use Rattle.std.specs.Fmt.{decimal}
use Rattle.std.specs.List.{flat_map}
use Rattle.wy_kernel.specs.Program.{Program}
use Rattle.wy_kernel.specs.Statements.{statements_of}
use Rattle.wy_kernel.specs.View.{NONE, present}
use Rattle.wy_text.specs.EndLines.{line_of, name_of, place_of}
use Rattle.wy_text.specs.Names.{method_name}
use Rattle.wy_static.specs.declared.point.Point.{Point}
use Rattle.wy_static.specs.declared.point.Point.TheVariants.{Entry, Init, Catch as Clause}
use Rattle.wy_static.specs.declared.point.LinkKind.{LinkKind}
use Rattle.wy_static.specs.declared.point.LinkKind.TheVariants.{Arm, Call, Catch, Into, Next}
use Rattle.wy_whynot.specs.declared.item.Made.{Made}
use Rattle.wy_whynot.specs.Evidence.{Evidence, GOING_ON}
use Rattle.wy_telling.specs.Caught.{class_caught}

-- the event that left a statement, where one did
unfoldable pub cause_text : ℕ → List ℕ
cause_text cause = if nat_lt cause GOING_ON then codes "left by #" ++ decimal cause else codes "run ended"

-- ---- tests

abbrev pub truth : ℕ → List ℕ
truth value = if value == 1 then codes "true" else codes "false"

abbrev pub other_truth : ℕ → List ℕ
other_truth value = if value == 1 then codes "false" else codes "true"

abbrev pub last_from : ℕ → List ℕ → ℕ
last_from x [] = x
last_from x (y ∷ ys) = last_from y ys

unfoldable pub tested : ℕ → ℕ → ℕ → ℕ → List ℕ
tested value count first last =
    decimal count ++ (codes " tested " ++ (other_truth value
    ++ (codes ", first #" ++ (decimal first ++ (codes ", last #" ++ decimal last)))))

-- how often the test gave the other value, or why it was never made
unfoldable pub tests_text : ℕ → List ℕ → ℕ → List ℕ
tests_text value [] cause = cause_text cause
tests_text value (first ∷ rest) cause = tested value (suc (length rest)) first (last_from first rest)

unfoldable pub arm_text : ℕ → List ℕ → ℕ → List ℕ
arm_text value tests cause =
    codes "arm " ++ (truth value ++ (codes " not taken: " ++ tests_text value tests cause))

-- ---- calls

unfoldable pub one_made : Program → Made → List ℕ
one_made p m = method_name p (present m.method) ++ (codes " at #" ++ decimal m.event)

unfoldable pub more_made : Program → List Made → List ℕ
more_made p made = flat_map (λ m. codes ", " ++ one_made p m) made

-- why a call was never made, where none was
unfoldable pub no_call_text : ℕ → List ℕ
no_call_text cause = if cause == NONE then codes "no call there" else cause_text cause

-- the methods that were called there in its place
unfoldable pub calls_text : Program → List Made → ℕ → List ℕ
calls_text p [] cause = no_call_text cause
calls_text p (m ∷ made) cause = one_made p m ++ more_made p made

unfoldable pub call_text : Program → ℕ → List Made → ℕ → List ℕ
call_text p method made cause =
    codes "call " ++ (method_name p (present method) ++ (codes " not made: " ++ calls_text p made cause))

unfoldable pub class_text : Program → ℕ → ℕ → List ℕ
class_text p class cause =
    codes "class " ++ (name_of p (present class) ++ (codes " not initialized: " ++ cause_text cause))

-- ---- other links

unfoldable pub stopped_text : ℕ → List ℕ
stopped_text cause = codes "did not go on: " ++ cause_text cause

unfoldable pub catch_text : Program → ℕ → List ℕ
catch_text p site =
    codes "catch " ++ (name_of p (class_caught (statements_of p) site) ++ codes " not reached")

-- ---- items

unfoldable pub call_to : Program → Point → List Made → ℕ → List ℕ
call_to p (Entry method) made cause = call_text p method made cause
call_to p (Init class) made cause = class_text p class cause
call_to p _ made cause = stopped_text cause

unfoldable pub catch_at : Program → Point → ℕ → List ℕ
catch_at p (Clause site) cause = catch_text p site
catch_at p _ cause = stopped_text cause

unfoldable pub reason : Program → LinkKind → Evidence → List ℕ
reason p (Arm value) i = arm_text value i.tests i.cause
reason p Call i = call_to p i.link.to i.made i.cause
reason p Catch i = catch_at p i.link.to i.cause
reason p Into i = stopped_text i.cause
reason p Next i = stopped_text i.cause

-- where a link is, and why it was not crossed
unfoldable pub item_line : Program → List ℕ → Evidence → List ℕ
item_line p lines i =
    line_of (place_of lines (present i.link.site) ++ (codes " " ++ reason p i.link.kind i))

unfoldable pub no_call_line : List ℕ
no_call_line = line_of (codes "no call leads here")

-- a line an item; without items no call leads to the statement
unfoldable pub items_text : Program → List ℕ → List Evidence → List ℕ
items_text p lines [] = no_call_line
items_text p lines (i ∷ items) = flat_map (item_line p lines) (i ∷ items)
