-- What is written of a reply, and what reading on does.
use Rattle.std.proofs.Common.{◌≡◌, sym, ap, refl, inl, inr, ℕ, List, [], take, drop, append-nil, Option, Some, None, Result, Ok, Err}
use Rattle.std.proofs.lemmas.List.{take-append-drop}
use Rattle.wy_explore.specs.Session.{Session}
use Rattle.wy_outside.specs.Sink.{appended}
use Rattle.wy_session.specs.Scene.{Said, Scene}
use Rattle.wy_session.specs.Line.{AnswersLine}
use Rattle.wy_session.specs.Situation.{Situation}
use Rattle.wy_session.specs.Closings.{Answered, IsBroken, IsPrefixOfReply, IsWithin, Puts}
use Rattle.wy_session.specs.declared.ending.Ending.{Ending}
use Rattle.wy_session.specs.declared.ending.Ending.TheVariants.{Done, LongLine, LongInput, KeysFailed, OutFailed, View, NoMemory}

-- nothing was written
pub appended_nothing : (old : Option (List ℕ)) → old ≡ appended old []
appended_nothing None = refl
appended_nothing (Some before) = ap Some (sym (append-nil before))

front_of_reply : (x : Scene) (s t : Session) (line text : List ℕ) (k : ℕ) → Said x s line t (Some text) → IsPrefixOfReply x s line (take k text)
front_of_reply x s t line text k is = inr (t, text, is, (drop k text, sym (take-append-drop k text)))

broken_reply : (x : Scene) (s : Session) (line part : List ℕ) (stands : Session → Type 0) (e : Ending) → IsBroken e → IsPrefixOfReply x s line part → Answered x s line stands (Err e) part
broken_reply x s line part stands OutFailed broken is = is
broken_reply x s line part stands NoMemory broken is = is
broken_reply x s line part stands Done broken is = absurd broken
broken_reply x s line part stands LongLine broken is = absurd broken
broken_reply x s line part stands LongInput broken is = absurd broken
broken_reply x s line part stands KeysFailed broken is = absurd broken
broken_reply x s line part stands (View e) broken is = absurd broken

unlimited : (e : Ending) → IsBroken e → IsWithin (Err e)
unlimited OutFailed broken = tt
unlimited NoMemory broken = tt
unlimited Done broken = absurd broken
unlimited LongLine broken = absurd broken
unlimited LongInput broken = absurd broken
unlimited KeysFailed broken = absurd broken
unlimited (View e) broken = absurd broken

-- the reply to a line is written, or not all of it
pub put_answers : (before after : Situation) (line text : List ℕ) (old new : Option (List ℕ)) (n m : ℕ) (r : Result Unit Ending)
    → ((x : Scene) (s : Session) → before x s → (t : Session) × Said x s line t (Some text) × after x t)
    → Puts text old new n m r → AnswersLine before after line old new n m r
put_answers before after line text old new n m (Ok u) said (written, same) = (text, said, written, same, tt)
put_answers before after line text old new n m (Err e) said (broken, out, (k, written)) = (take k text, part, written, out, unlimited e broken) where
  part : (x : Scene) (s : Session) → before x s → Answered x s line (after x) (Err e) (take k text)
  part x s at = of (said x s at) where
    of : (t : Session) × Said x s line t (Some text) × after x t → Answered x s line (after x) (Err e) (take k text)
    of (t, is, then) = broken_reply x s line (take k text) (after x) e broken (front_of_reply x s t line text k is)

-- a line ends the session
pub over_answers : (before after : Situation) (line : List ℕ) (old : Option (List ℕ)) (n : ℕ)
    → ((x : Scene) (s : Session) → before x s → (t : Session) × Said x s line t None × after x t)
    → AnswersLine before after line old old n n (Err Done)
over_answers before after line old n said = (nothing, ends, appended_nothing old, refl, tt) where
  nothing : List ℕ
  nothing = []

  ends : (x : Scene) (s : Session) → before x s → (t : Session) × Said x s line t None × (nothing ≡ nothing)
  ends x s at = of (said x s at) where
    of : (t : Session) × Said x s line t None × after x t → (t : Session) × Said x s line t None × (nothing ≡ nothing)
    of (t, is, then) = (t, is, refl)
