-- A session that closed over some traces closed over fewer.
use Rattle.std.proofs.Common.{ℕ, List, Option}
use Rattle.wy_session.specs.Scene.{Scene}
use Rattle.wy_session.specs.Situation.{Scenes}
use Rattle.wy_session.specs.Closings.{Closed, Closes, Failures, ReadsOut}
use Rattle.wy_session.specs.declared.ending.Ending.{Ending}
use Rattle.wy_session.specs.declared.ending.Ending.TheVariants.{Done, LongLine, LongInput, KeysFailed, OutFailed, View, NoMemory}

closes_over : (over for : Scenes) (told : Option (List ℕ)) (f : Failures) (e : Ending) (said line : List ℕ) → ((x : Scene) → for x → over x) → Closes over told f e said line → Closes for told f e said line
closes_over over for told f Done said line fewer c = (c.0, c.1, c.2, λ x input at. c.3 x input (fewer x at))
closes_over over for told f LongLine said line fewer c = (c.0, c.1, c.2, λ x input at. c.3 x input (fewer x at))
closes_over over for told f LongInput said line fewer c = (c.0, c.1, c.2, λ x input at. c.3 x input (fewer x at))
closes_over over for told f KeysFailed said line fewer c = (c.0, c.1, c.2, λ x input at. c.3 x input (fewer x at))
closes_over over for told f OutFailed said line fewer c = (c.0, c.1, λ x input at. c.2 x input (fewer x at))
closes_over over for told f (View e) said line fewer c = (c.0, c.1, c.2, λ x input at. c.3 x input (fewer x at))
closes_over over for told f NoMemory said line fewer c = (c.0, c.1, λ x input at. c.2 x input (fewer x at))

pub closed_over : (over for : Scenes) (told : Option (List ℕ)) (f : Failures) (old new : Option (List ℕ)) (e : Ending) → ((x : Scene) → for x → over x) → Closed over told f old new e → Closed for told f old new e
closed_over over for told f old new e fewer c = record { said = c.said; line = c.line; closes = closes_over over for told f e c.said c.line fewer c.closes; written = c.written }

pub reads_out_over : (over for : Scenes) (told left : Option (List ℕ)) (e : Ending) → ((x : Scene) → for x → over x) → ReadsOut over told left e → ReadsOut for told left e
reads_out_over over for told left Done fewer r = λ x input at. r x input (fewer x at)
reads_out_over over for told left LongLine fewer r = tt
reads_out_over over for told left LongInput fewer r = tt
reads_out_over over for told left KeysFailed fewer r = tt
reads_out_over over for told left OutFailed fewer r = tt
reads_out_over over for told left (View e) fewer r = tt
reads_out_over over for told left NoMemory fewer r = tt
