use Rattle.law_frames.proofs.Reading.{active_are_read, entries_stay_named}
use Rattle.law_frames.proofs.Frames.{events_show_entries}
use Rattle.law_frames.proofs.active_entries_are_read.Goals as goal

pub returns-clause-read : goal.returns-clause-read
returns-clause-read c = active_are_read

pub returns-clause-shown : goal.returns-clause-shown
returns-clause-shown c = events_show_entries

pub returns-clause-named : goal.returns-clause-named
returns-clause-named c = entries_stay_named
