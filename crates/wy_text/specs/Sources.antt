-- The line of a source: how an event comes from another, and that event's line.
use Rattle.std.specs.Prelude.{ℕ, false, List, ◌++◌, codes}
use Rattle.wy_kernel.specs.Program.{Program}
use Rattle.wy_event.specs.Record.{Recorded}
use Rattle.wy_event.specs.Sources.{Role, Data, Choosing, Control, Source}
use Rattle.wy_text.specs.EventLines.{event_line}

unfoldable pub role_word : Role → List ℕ
role_word Data = codes "data"
role_word Choosing = codes "choice"
role_word Control = codes "control"

unfoldable pub source_line : Program → List ℕ → List Recorded → Source → List ℕ
source_line p lines records s =
    role_word s.role ++ (codes " " ++ event_line p lines records s.event false)
