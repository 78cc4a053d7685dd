use Rattle.law_carried.proofs.Whole.{same_events}
use Rattle.law_frames.specs.Joined.{joined}
use Rattle.law_frames.proofs.Frames.{frames_are_active_bodies}
use Rattle.law_frames.proofs.frames_are_the_bodies_that_were_active.Goals as goal

pub returns-clause-frames : goal.returns-clause-frames
returns-clause-frames c = frames_are_active_bodies

pub returns-clause-events : goal.returns-clause-events
returns-clause-events c = same_events joined
