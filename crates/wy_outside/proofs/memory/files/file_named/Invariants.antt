-- the files that are left answer as all of them do
use Rattle.std.proofs.Common.{◌≡◌, drop}
use Rattle.wy_outside.specs.Shelf.{files_of}
use Rattle.wy_outside.proofs.memory.files.file_named.Given as goal

abbrev pub invariant-loop-file_name : goal.invariant-loop-file_name
invariant-loop-file_name l = files_of l.files l.name ≡ files_of (drop l.file_name-index l.files) l.name
