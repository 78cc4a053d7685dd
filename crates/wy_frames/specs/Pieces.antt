-- A frame in memory as contracts see it.
use Rattle.wy_frames.specs.declared.split.Piece.{Piece}
use Rattle.wy_frames.specs.Frames.{Frame}

abbrev pub frame_in : Piece → Frame
frame_in p = record { letter = p.letter; payload = p.payload.now; whole = p.whole.now; rest = p.rest.now }
