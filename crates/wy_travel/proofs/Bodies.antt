-- A number past the bodies of a program is that of none; what the record of a frame says.
use Rattle.std.proofs.Common.{◌≡◌, ◌≤◌, ℕ, length, None, Option, Some, sym, ap, arith}
use Rattle.std.proofs.lemmas.List.{get_or_past, length-map}
use Rattle.std.specs.Prelude.{map, option_map}
use Rattle.wy_kernel.specs.declared.program.Program.{Program}
use Rattle.wy_kernel.specs.Parts.{program_of}
use Rattle.wy_kernel.specs.Program.{body, init_body}
use Rattle.wy_kernel.specs.View.{body_of, present}
use Rattle.wy_event.specs.declared.record.Event.{Event}
use Rattle.wy_event.specs.Record.{Recorded, recorded}
use Rattle.wy_view.specs.References.{OptionBelow, RefersBelow}
use Rattle.wy_travel.specs.Frames.{frame_of}

pub no_body : (p : Program) (m : ℕ) → length p.bodies.items ≤ m → None ≡ body (program_of p) m
unfolding body
no_body p m le = sym (get_or_past (map (option_map body_of) p.bodies.items) m _ (let long : length (map (option_map body_of) p.bodies.items) ≡ length p.bodies.items = simp length-map in omega (arith, long)))

pub no_init_body : (p : Program) (c : ℕ) → length p.init_bodies.items ≤ c → None ≡ init_body (program_of p) c
unfolding init_body
no_init_body p c le = sym (get_or_past (map (option_map body_of) p.init_bodies.items) c _ (let long : length (map (option_map body_of) p.init_bodies.items) ≡ length p.init_bodies.items = simp length-map in omega (arith, long)))

pub frame_there : (e : Event) (o : Option Recorded) → o ≡ Some (recorded e) → present e.frame ≡ frame_of o
unfolding recorded frame_of
frame_there e o at = ap frame_of (sym at)

pub frame_below : (e : Event) (n : ℕ) → RefersBelow n (recorded e) → OptionBelow n (present e.frame)
unfolding recorded
frame_below e n refers = refers.frame
