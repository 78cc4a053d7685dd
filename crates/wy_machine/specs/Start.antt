-- What is known of a statement before a run.
use Rattle.wy_event.specs.declared.record.Cover.{Cover}
use Rattle.wy_kernel.specs.View.{NONE}

-- it never began, and nothing left it
abbrev pub untouched : Cover
untouched = record { begins = 0; ends = 0; first = NONE; cause = NONE }
