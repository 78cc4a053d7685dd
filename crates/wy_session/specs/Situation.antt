-- Where a responder stands.
use Rattle.wy_explore.specs.Session.{Session}
use Rattle.wy_session.specs.Scene.{Scene}

-- it is over this trace, and the session stands there
abbrev pub Situation : Type 1
Situation = Scene → Session → Type 0

-- a session is over one of these traces: there is none where nothing is told of the records
abbrev pub Scenes : Type 1
Scenes = Scene → Type 0
