-- What the lists that the search through a program keeps say, without where their forms lie in memory.
use Rattle.std.specs.Prelude.{List, map}
use Rattle.wy_kernel.specs.Form as plain
use Rattle.wy_kernel.specs.View.{expression}
use Rattle.wy_kernel.specs.Program.{Program}
use Rattle.wy_kernel.specs.Parts.{program_of}
use Rattle.wy_calls.specs.declared.lookup.Dispatcher.{Dispatcher}
use Rattle.wy_static.specs.declared.way.Owner.{Owner}
use Rattle.wy_static.specs.declared.form.Owned.{Owned}

abbrev pub form_seen : Owned → Owner × plain.Expression
form_seen x = (x.owner, expression x.form.now)

abbrev pub forms_seen : List Owned → List (Owner × plain.Expression)
forms_seen xs = map form_seen xs

-- the program of which a dispatcher finds the methods
abbrev pub seen_by : Dispatcher → Program
seen_by d = program_of d.program.now
