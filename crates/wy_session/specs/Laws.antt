-- What holds of sessions.
use Rattle.std.specs.Prelude.{◌≡◌, ℕ, List, Option}
use Rattle.wy_explore.specs.Session.{Session}
use Rattle.wy_session.specs.Scene.{Said, Scene}
use Rattle.wy_session.specs.Talk.{Talks}

-- a line has one answer
abbrev pub OneSaid : Scene → Type 0
OneSaid x = (s : Session) (line : List ℕ) (t u : Session) (a b : Option (List ℕ))
    → Said x s line t a → Said x s line u b → (t ≡ u) × (a ≡ b)

-- an input has one session
abbrev pub OneTalkOf : Scene → Type 0
OneTalkOf x = (input : List ℕ) (m n : ℕ) (a b : List ℕ)
    → Talks x input m a → Talks x input n b → (m ≡ n) × (a ≡ b)

abbrev pub OneTalk : Type 0
OneTalk = (x : Scene) → OneTalkOf x
