-- An explorer with the trace that it looks at.
use Rattle.std.specs.Prelude.{◌≡◌, List, map, Some}
use Rattle.wy_kernel.specs.declared.program.Program as memory
use Rattle.wy_kernel.specs.Parts.{program_of}
use Rattle.wy_event.specs.declared.record.Cover.{Cover}
use Rattle.wy_event.specs.declared.record.Event.{Event}
use Rattle.wy_event.specs.Record.{recorded}
use Rattle.wy_view.specs.View.{Told}
use Rattle.wy_static.specs.LookUps.{AreLinksOf}
use Rattle.wy_static.specs.declared.answer.Links.{Links}
use Rattle.wy_ask.specs.Opened.{IsOpenedOf}
use Rattle.wy_ask.specs.declared.opened.Opened.{Opened}
use Rattle.wy_explore.specs.declared.explorer.Explorer.{Explorer}
use Rattle.wy_explore.specs.declared.reply.Reply.{Reply}
use Rattle.wy_explore.specs.declared.reply.Reply.TheVariants as reply
use Rattle.wy_explore.specs.Explorer.{AllAnswered, AllWithin, event_asked, session_of}
use Rattle.wy_explore.specs.Session.{Session}
use Rattle.wy_session.specs.Scene.{Scene}

-- the scene of a program, of events that are recorded, and of what is told of its statements
abbrev pub scene_of : memory.Program → List Event → List Cover → Scene
scene_of p events covers = record {
  program = program_of p;
  lines = p.lines.items;
  records = map recorded events;
  covers = covers;
}

-- a program, what is told of its statements and what a view tells are of this scene
pub record IsSceneOf (p : memory.Program) (listed : List Cover) (told : Told) (x : Scene) : Type 0 where
  pub program : x.program ≡ program_of p
  pub lines : x.lines ≡ p.lines.items
  pub records : told.records ≡ Some x.records
  pub covers : x.covers ≡ listed

-- an opened trace is of this scene, by what its view tells
abbrev pub IsSceneIn : {V : Type 0} → Told → Opened V → Scene → Type 0
IsSceneIn told o x = IsSceneOf o.program.now o.coverage.now told x

-- an explorer of an opened trace, with the links of its program, can be asked
pub record IsReady {V : Type 0} (told : Told) (o : Opened V) (links : Links) (e : Explorer) : Type 0 where
  pub is_opened : IsOpenedOf told o
  pub are_links : AreLinksOf links (program_of o.program.now)
  pub within : AllWithin told.count e

-- it is over this trace, and stands there
pub record IsDesk {V : Type 0} (told : Told) (o : Opened V) (e : Explorer) (x : Scene) (s : Session) : Type 0 where
  pub scene : IsSceneIn told o x
  pub session : s ≡ session_of e
  pub answered : AllAnswered x.program x.records e

-- an answer that is replied is that of the question which was asked last
abbrev pub IsAsked : Explorer → Reply → Type 0
IsAsked e (reply.Answer event) = event_asked e.question ≡ Some event
IsAsked e _ = Unit {0}
