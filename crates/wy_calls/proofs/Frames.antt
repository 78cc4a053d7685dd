-- Frames with their locals, as they lie in memory.
use Rattle.std.proofs.Common.{◌≡◌, ℕ, ◌+◌, List, [], ◌∷◌, length, take, set, reverse, refl, ap, ◌∙◌, arith, suc}
use Rattle.std.proofs.lemmas.List.{take-set-le, drop-set-add, length-reverse}
use Rattle.wy_value.specs.declared.value.Value.{Value}
use Rattle.wy_calls.specs.declared.parts.Live.{Live}
use Rattle.wy_calls.specs.Calls.{event_of, with_newest}
use Rattle.wy_calls.specs.Layout.{framed, newest_of, IsPlace}

pub as_many_frames : (ls : List Live) (vs : List Value) → length (framed ls vs) ≡ length ls
as_many_frames [] vs = refl
as_many_frames (l ∷ ls) vs = ap suc (as_many_frames ls (take l.base vs))

pub as_many : (ls : List Live) (vs : List Value) → length (framed (reverse ls) vs) ≡ length ls
as_many ls vs = as_many_frames (reverse ls) vs ∙ length-reverse ls

pub newest_has_event : (ls : List Live) (vs : List Value) → event_of (framed ls vs) ≡ newest_of ls
newest_has_event [] vs = refl
newest_has_event (l ∷ ls) vs = refl

-- a local of the newest frame is written where it lies
pub written : (ls : List Live) (vs : List Value) (i at : ℕ) (v : Value) → IsPlace ls vs i at → framed ls (set vs at v) ≡ with_newest i v (framed ls vs)
written [] vs i at v h = absurd h
written (l ∷ ls) vs i at v h = rw (h.0, drop-set-add l.base vs i v, take-set-le l.base vs (l.base + i) v (omega arith)) refl
