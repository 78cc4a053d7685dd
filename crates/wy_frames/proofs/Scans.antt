-- One frame more, and what is wrong with one.
use Rattle.std.proofs.Common.{◌≡◌, ℕ, ◌+◌, ◌<◌, ◌≤◌, List, [], ◌++◌, length, drop, Bool, true, false, cond, ltb, Option, Some, Ok, Err, refl, sym, ap, ◌∙◌, append_assoc, arith}
use Rattle.std.specs.Prelude.{None as Absent}
use Rattle.std.proofs.lemmas.Bool.{ltb-false}
use Rattle.std.proofs.lemmas.List.{length-drop, append-nil}
use Rattle.wy_payload.specs.declared.fault.DamageRule.TheVariants as rule
use Rattle.wy_payload.specs.declared.ranges.Ranges.{Ranges}
use Rattle.wy_frames.specs.declared.past.Past.{Past}
use Rattle.wy_frames.specs.declared.error.TraceError.{TraceError}
use Rattle.wy_frames.specs.declared.error.TraceError.TheVariants.{Cut, Damaged, BadSeal, NoMemory}
use Rattle.wy_frames.specs.declared.stage.ReadEvent.{ReadEvent}
use Rattle.wy_frames.specs.declared.stage.Stage.{Stage}
use Rattle.wy_frames.specs.Frames.{Frame, opening_length, said_length, frame_of_length, frame_of}
use Rattle.wy_frames.specs.Progress.{Progress, Next, next_of}
use Rattle.wy_frames.specs.Holds.{Holds, Refuses, Stands}
use Rattle.wy_frames.specs.Scan.{Fails, turn_next, turn, without_frame, is_passed, Leaves, frame, IsRefused, Refused, Reached, Rests}

-- ---- frames

pub some_is : {A : Type 0} (b : Bool) (x y : A) → cond b Absent (Some x) ≡ Some y → (b ≡ false) × (x ≡ y)
some_is true x y e = absurd cc
some_is false x y e = (refl, cc)

pub inner_is : {A : Type 0} (b : Bool) (x : Option A) (y : A) → cond b Absent x ≡ Some y → (b ≡ false) × (x ≡ Some y)
inner_is true x y e = absurd cc
inner_is false x y e = (refl, e)

-- a whole frame has so many bytes, those of its opening at least
pub record IsWhole (bytes : List ℕ) (f : Frame) : Type 0 where
  pub size : ℕ
  pub within : opening_length + size ≤ length bytes
  pub rest : f.rest ≡ drop (opening_length + size) bytes

pub whole_frame : (bytes : List ℕ) (f : Frame) → frame_of bytes ≡ Some f → IsWhole bytes f
unfolding frame_of frame_of_length
whole_frame bytes f e =
    let size = said_length bytes in
    let outer = inner_is (ltb (length bytes) opening_length) (frame_of_length size bytes) f e in
    let inner = some_is (ltb (length bytes) (opening_length + size)) _ f outer.1 in
    record { size = size; within = ltb-false _ _ inner.0; rest = sym (ap (λ (g : Frame). g.rest) inner.1) }

pub rest_is_shorter : (bytes : List ℕ) (f : Frame) → frame_of bytes ≡ Some f → length f.rest < length bytes
rest_is_shorter bytes f e =
    let w = whole_frame bytes f e in
    omega (arith, w.within, ap length w.rest, length-drop (opening_length + w.size) bytes)

-- ---- turns

pub turn_with : (r : Ranges) (steps : ℕ) (s : Progress) (bytes : List ℕ) (f : Frame) → frame_of bytes ≡ Some f → turn r steps s bytes ≡ turn_next s f.rest (next_of r steps s f)
unfolding turn
turn_with r steps s bytes f e = rw e refl

pub turn_without : (r : Ranges) (steps : ℕ) (s : Progress) (bytes : List ℕ) → frame_of bytes ≡ Absent → turn r steps s bytes ≡ without_frame (length s.before) (is_passed s.stage bytes)
unfolding turn
turn_without r steps s bytes e = rw e refl

module _ (r : Ranges) (steps : ℕ) (from s : Progress) (fed : List ℕ) (old : List ReadEvent) where
  pub at_first : (p : Past) (bytes : List ℕ) → Holds p s → Leaves r steps from fed s bytes → Reached r steps from fed s old old p bytes
  at_first p bytes h l = record { standing = s; holds = h; leaves = l; more = []; placed = sym (append-nil s.placed); kept = sym (append-nil old) }

  more_stands : (new newer : List ReadEvent) (p q : Past) (rest others : List ℕ) (x : Reached r steps from fed s old new p rest) (more : List ReadEvent) (n : Next) → turn r steps x.standing rest ≡ turn_next x.standing others n
      → Stands q more x.standing n → newer ≡ new ++ more → Reached r steps from fed s old newer q others
  more_stands new newer p q rest others x more (Ok t) e stands kept = record {
    standing = t;
    holds = stands.0;
    leaves = frame x.standing rest t others x.leaves e;
    more = x.more ++ more;
    placed = stands.1 ∙ ap (λ l. l ++ more) x.placed ∙ append_assoc s.placed x.more more;
    kept = kept ∙ ap (λ l. l ++ more) x.kept ∙ append_assoc old x.more more;
  }
  more_stands new newer p q rest others x more (Err w) e stands kept = absurd stands

  pub one_more : (new newer : List ReadEvent) (p q : Past) (rest : List ℕ) (f : Frame) (more : List ReadEvent) → (x : Reached r steps from fed s old new p rest) → frame_of rest ≡ Some f
      → Stands q more x.standing (next_of r steps x.standing f) → newer ≡ new ++ more → Reached r steps from fed s old newer q f.rest
  one_more new newer p q rest f more x e stands kept = more_stands new newer p q rest f.rest x more (next_of r steps x.standing f) (turn_with r steps x.standing rest f e) stands kept

  fails : (new : List ReadEvent) (p : Past) (rest : List ℕ) (x : Reached r steps from fed s old new p rest) (e : TraceError) → turn r steps x.standing rest ≡ Fails e → IsRefused r steps from fed e
  fails new p rest x e is = record { standing = x.standing; rest = rest; leaves = x.leaves; fails = is }

  pub refused_there : (new : List ReadEvent) (p : Past) (rest : List ℕ) (f : Frame) (e : TraceError) → (x : Reached r steps from fed s old new p rest) → frame_of rest ≡ Some f → Refuses e x.standing (next_of r steps x.standing f) → Refused r steps from fed e
  refused_there new p rest f NoMemory x e h = tt
  refused_there new p rest f (Damaged byte broken) x e h = fails new p rest x (Damaged byte broken) (turn_with r steps x.standing rest f e ∙ ap (turn_next x.standing f.rest) h.1 ∙ ap (λ n. Fails (Damaged n broken)) (sym h.0))
  refused_there new p rest f BadSeal x e h = fails new p rest x BadSeal (turn_with r steps x.standing rest f e ∙ ap (turn_next x.standing f.rest) h)
  refused_there new p rest f (Cut byte) x e h = absurd h

  pub passed_there : (new : List ReadEvent) (p : Past) (rest : List ℕ) → (x : Reached r steps from fed s old new p rest) → frame_of rest ≡ Absent → is_passed p.stage rest ≡ true → IsRefused r steps from fed (Damaged p.at rule.After)
  passed_there new p rest x e passed = fails new p rest x (Damaged p.at rule.After)
      (turn_without r steps x.standing rest e ∙ ap (λ (stage : Stage). without_frame (length x.standing.before) (is_passed stage rest)) (sym x.holds.stage) ∙ ap (without_frame (length x.standing.before)) passed ∙ ap (λ n. Fails (Damaged n rule.After)) (sym x.holds.counts.at))

  pub rests_there : (new : List ReadEvent) (p : Past) (rest : List ℕ) → Reached r steps from fed s old new p rest → frame_of rest ≡ Absent → is_passed p.stage rest ≡ false → Rests r steps from fed s old new p rest
  rests_there new p rest x e passed = (x, turn_without r steps x.standing rest e ∙ ap (λ (stage : Stage). without_frame (length x.standing.before) (is_passed stage rest)) (sym x.holds.stage) ∙ ap (without_frame (length x.standing.before)) passed)
