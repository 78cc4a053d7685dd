-- What stood at an event of a trace is within the trace.
use Rattle.std.proofs.Common.{◌≡◌, ℕ, ◌<◌, ◌≤◌, List, Some, arith, subst}
use Rattle.std.specs.Prelude.{All, IfSome, Option}
use Rattle.wy_value.specs.declared.value.Value.{Value}
use Rattle.wy_view.specs.References.{ValueBelow}
use Rattle.wy_ask.proofs.Storing.{value_up}
use Rattle.wy_travel.specs.declared.frames.Frame.{Frame}
use Rattle.wy_travel.specs.Backtrace.{IsBelow}

frame_up : (m n : ℕ) (f : Frame) → m ≤ n → IsBelow m f → IsBelow n f
frame_up m n f le is = record {
  call = omega (arith, is.call, le);
  locals = λ k d short. value_up m n _ le (is.locals k d short);
}

-- the event that is looked at is one of the trace
module _ (count event : ℕ) (cursor : Option ℕ) (within : IfSome cursor (λ n. n < count)) (is : cursor ≡ Some event) where
  pub looked_within : event < count
  looked_within = subst (λ o. IfSome o (λ n. n < count)) is within

  pub frames_within : (frames : List Frame) → All (IsBelow event) frames → All (IsBelow count) frames
  frames_within frames all = λ k d short. frame_up event count _ (omega (arith, looked_within)) (all k d short)

  pub value_within : (v : Value) → ValueBelow event v → ValueBelow count v
  value_within v below = value_up event count v (omega (arith, looked_within)) below
