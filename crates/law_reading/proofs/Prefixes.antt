-- A strict prefix of a trace is cut where it ends.
use Rattle.std.proofs.Common.{◌≡◌, ◌⊎◌, ℕ, zero, suc, ◌+◌, ◌<◌, ◌≤◌, Bool, true, false, cond, eqb, ltb, List, [], ◌∷◌, ◌++◌, length, ◌-◌, take, drop, Option, Some, Result, Ok, Err, refl, sym, ap, ◌∙◌, subst, inl, inr, arith, length-append}
use Rattle.std.specs.Prelude.{None as Absent}
use Rattle.std.specs.Prelude.{MatchResult, slice_index}
use Rattle.std.specs.Int.{w32, from_be_bytes}
use Rattle.std.proofs.lemmas.Bool.{eqb-true, eq-eqb, ne_eqb, ltb-true, ltb-false, lt-ltb, le-ltb}
use Rattle.std.proofs.lemmas.List.{take-append-le, take-take, drop-take, length-take, length-drop}
use Rattle.std.proofs.Math.Seq.{take-append-add}
use Rattle.wy_kernel.specs.declared.program.Program.{Program}
use Rattle.wy_event.specs.declared.record.Version.{Version}
use Rattle.wy_event.specs.declared.record.Head.{Head}
use Rattle.wy_event.specs.declared.record.Trace.{Trace}
use Rattle.wy_spelling.specs.Spelling.{magic, opening}
use Rattle.wy_payload.specs.declared.fault.DamageRule.TheVariants as rule
use Rattle.wy_payload.specs.declared.ranges.Ranges.{Ranges}
use Rattle.wy_payload.specs.Reading.{all_of}
use Rattle.wy_payload.specs.Closing.{head_at}
use Rattle.wy_payload.specs.Ranges.{ranges_of}
use Rattle.wy_frames.specs.declared.error.TraceError.{TraceError}
use Rattle.wy_frames.specs.declared.error.TraceError.TheVariants.{Cut, Damaged}
use Rattle.wy_frames.specs.declared.stage.Stage.{Stage}
use Rattle.wy_frames.specs.declared.stage.Stage.TheVariants as stages
use Rattle.wy_frames.specs.Frames.{Frame, opening_length, said_length, frame_of_length, frame_of}
use Rattle.wy_frames.specs.Heads.{ReadHead, agreeing, magic_length, version_of, read_head_as, head_in, head_of}
use Rattle.wy_frames.specs.Ends.{IsUnsealed}
use Rattle.wy_frames.specs.Progress.{Progress, start, Violates, Unsealed, Next, open_next, covered_next, ended_next, next_at, next_of}
use Rattle.wy_frames.specs.Scan.{Waits, Goes, turn_next, is_passed, without_frame, turn_frame, turn, Leaves, nothing, frame}
use Rattle.wy_frames.specs.Traces.{IsCut, IsReadBehind, IsReadAs}
use Rattle.wy_frames.proofs.Scans.{inner_is, some_is, turn_with, turn_without}
use Rattle.law_reading.specs.Spelled.{AreBytes}
use Rattle.wy_spelling.proofs.Lengths.{magic_long}
use Rattle.law_reading.proofs.Versions.{cut_agrees, version_spelled}
use Rattle.law_reading.proofs.Heads.{agrees_all, magic_stands, refuses, lettered, answered, head_spelled}
use Rattle.law_reading.proofs.SpelledTraces.{never_goes, sealed_waits}

-- ---- a frame in the first bytes

-- a frame that bytes begin with: its length, and that it is there
record IsThere (bytes : List ℕ) (f : Frame) : Type 0 where
  size : ℕ
  long : opening_length ≤ length bytes
  said : said_length bytes ≡ size
  within : opening_length + size ≤ length bytes
  made : record { letter = slice_index bytes 0; payload = drop opening_length (take (opening_length + size) bytes); whole = take (opening_length + size) bytes; rest = drop (opening_length + size) bytes } ≡ f

is_there : (bytes : List ℕ) (f : Frame) → frame_of bytes ≡ Some f → IsThere bytes f
unfolding frame_of frame_of_length
is_there bytes f e =
    let outer = inner_is (ltb (length bytes) opening_length) (frame_of_length (said_length bytes) bytes) f e in
    let inner = some_is (ltb (length bytes) (opening_length + said_length bytes)) _ f outer.1 in
    record { size = said_length bytes; long = ltb-false _ _ outer.0; said = refl; within = ltb-false _ _ inner.0; made = inner.1 }

made_frame : (bytes : List ℕ) (size : ℕ) → opening_length ≤ length bytes → said_length bytes ≡ size → opening_length + size ≤ length bytes
    → frame_of bytes ≡ Some (record { letter = slice_index bytes 0; payload = drop opening_length (take (opening_length + size) bytes); whole = take (opening_length + size) bytes; rest = drop (opening_length + size) bytes })
unfolding frame_of frame_of_length
made_frame bytes size long said within =
    ap (λ (b : Bool). cond b Absent (frame_of_length (said_length bytes) bytes)) (le-ltb (length bytes) opening_length long)
    ∙ ap (λ (n : ℕ). frame_of_length n bytes) said
    ∙ ap (λ (b : Bool). cond b Absent (Some (record { letter = slice_index bytes 0; payload = drop opening_length (take (opening_length + size) bytes); whole = take (opening_length + size) bytes; rest = drop (opening_length + size) bytes }))) (le-ltb (length bytes) (opening_length + size) within)

short_frame : (bytes : List ℕ) → length bytes < opening_length → frame_of bytes ≡ Absent
unfolding frame_of
short_frame bytes short = ap (λ (b : Bool). cond b Absent (frame_of_length (said_length bytes) bytes)) (lt-ltb (length bytes) opening_length short)

part_frame : (bytes : List ℕ) (size : ℕ) → opening_length ≤ length bytes → said_length bytes ≡ size → length bytes < opening_length + size → frame_of bytes ≡ Absent
unfolding frame_of frame_of_length
part_frame bytes size long said short =
    ap (λ (b : Bool). cond b Absent (frame_of_length (said_length bytes) bytes)) (le-ltb (length bytes) opening_length long)
    ∙ ap (λ (n : ℕ). frame_of_length n bytes) said
    ∙ ap (λ (b : Bool). cond b Absent (Some (record { letter = slice_index bytes 0; payload = drop opening_length (take (opening_length + size) bytes); whole = take (opening_length + size) bytes; rest = drop (opening_length + size) bytes }))) (lt-ltb (length bytes) (opening_length + size) short)

-- the first bytes say the length that all of them say
same_length : (k : ℕ) (bytes : List ℕ) → opening_length ≤ k → said_length (take k bytes) ≡ said_length bytes
same_length zero bytes le = absurd (omega (arith, le))
same_length (suc m) bytes le =
    let one : suc m ≡ 1 + m = omega arith in
    ap (λ (j : ℕ). said_length (take j bytes)) one
    ∙ ap (λ (l : List ℕ). from_be_bytes w32 (take 4 l)) (drop-take 1 m bytes)
    ∙ ap (from_be_bytes w32) (take-take 4 m (drop 1 bytes) (omega (arith, le)))

same_first : (k : ℕ) (bytes : List ℕ) → 0 < k → slice_index (take k bytes) 0 ≡ slice_index bytes 0
same_first zero bytes lt = absurd (omega (arith, lt))
same_first (suc m) [] lt = refl
same_first (suc m) (b ∷ bytes) lt = refl

-- the frame with so many of the bytes behind it
abbrev cut_to : ℕ → Frame → Frame
cut_to m f = record { letter = f.letter; payload = f.payload; whole = f.whole; rest = take m f.rest }

same_frame : (x y : Frame) → x.letter ≡ y.letter → x.payload ≡ y.payload → x.whole ≡ y.whole → x.rest ≡ y.rest → x ≡ y
same_frame x y p q r s = λ i. record { letter = p i; payload = q i; whole = r i; rest = s i }

frame_within : (bytes : List ℕ) (f : Frame) (t : IsThere bytes f) (k m : ℕ) → k ≡ (opening_length + t.size) + m → frame_of (take k bytes) ≡ Some (cut_to m f)
frame_within bytes f t k m is =
    let n = opening_length + t.size in
    let long : n ≤ length (take k bytes) = omega (arith, length-take k bytes, t.within, is) in
    let whole : take n (take k bytes) ≡ f.whole = take-take n k bytes (omega (arith, is)) ∙ ap (λ (g : Frame). g.whole) t.made in
    let payload : drop opening_length (take n (take k bytes)) ≡ f.payload = ap (drop opening_length) (take-take n k bytes (omega (arith, is))) ∙ ap (λ (g : Frame). g.payload) t.made in
    let letter : slice_index (take k bytes) 0 ≡ f.letter = same_first k bytes (omega (arith, is)) ∙ ap (λ (g : Frame). g.letter) t.made in
    let rest : drop n (take k bytes) ≡ take m f.rest = ap (λ (j : ℕ). drop n (take j bytes)) is ∙ drop-take n m bytes ∙ ap (λ (g : Frame). take m g.rest) t.made in
    let there : Frame = record { letter = slice_index (take k bytes) 0; payload = drop opening_length (take n (take k bytes)); whole = take n (take k bytes); rest = drop n (take k bytes) } in
    made_frame (take k bytes) t.size (omega (arith, long)) (same_length k bytes (omega (arith, is)) ∙ t.said) long
    ∙ ap Some (same_frame there (cut_to m f) letter payload whole rest)

no_frame_within : (bytes : List ℕ) (f : Frame) (t : IsThere bytes f) (k : ℕ) → k < opening_length + t.size → frame_of (take k bytes) ≡ Absent
no_frame_within bytes f t k short = by_opening (ltb k opening_length) refl
  where
    by_opening : (b : Bool) → ltb k opening_length ≡ b → frame_of (take k bytes) ≡ Absent
    by_opening true is = short_frame (take k bytes) (omega (arith, length-take k bytes, ltb-true _ _ is))
    by_opening false is = part_frame (take k bytes) t.size (omega (arith, length-take k bytes, ltb-false _ _ is, t.within, short)) (same_length k bytes (ltb-false _ _ is) ∙ t.said) (omega (arith, length-take k bytes, short))

whole_length : (bytes : List ℕ) (f : Frame) (t : IsThere bytes f) → length f.whole ≡ opening_length + t.size
whole_length bytes f t = sym (ap (λ (g : Frame). length g.whole) t.made) ∙ omega (arith, length-take (opening_length + t.size) bytes, t.within)

rest_length : (bytes : List ℕ) (f : Frame) (t : IsThere bytes f) → length bytes ≡ (opening_length + t.size) + length f.rest
rest_length bytes f t = omega (arith, length-drop (opening_length + t.size) bytes, ap (λ (g : Frame). length g.rest) t.made, t.within)

-- ---- a turn in the first bytes

goes_is : (s t : Progress) (rest others : List ℕ) (next : Next) → turn_next s rest next ≡ Goes t others → (next ≡ Ok t) × (rest ≡ others)
goes_is s t rest others (Ok u) e = (cc, cc)
goes_is s t rest others (Err (Violates r)) e = absurd cc
goes_is s t rest others (Err Unsealed) e = absurd cc

-- what a frame adds doesn't depend on the bytes behind it
same_next : (r : Ranges) (steps : ℕ) (s : Progress) (f : Frame) (m : ℕ) (stage : Stage) → next_at r steps s stage (cut_to m f) ≡ next_at r steps s stage f
unfolding next_at open_next covered_next ended_next
same_next r steps s f m stages.Open = refl
same_next r steps s f m (stages.Covered c) = refl
same_next r steps s f m (stages.Ended t) = refl
same_next r steps s f m (stages.Sealed t seal) = refl

-- behind a seal no frame stands
goes_on_unsealed : (r : Ranges) (steps : ℕ) (s t : Progress) (f : Frame) (others : List ℕ) (stage : Stage) → turn_next s f.rest (next_at r steps s stage f) ≡ Goes t others → IsUnsealed stage
unfolding next_at
goes_on_unsealed r steps s t f others stages.Open e = tt
goes_on_unsealed r steps s t f others (stages.Covered c) e = tt
goes_on_unsealed r steps s t f others (stages.Ended x) e = tt
goes_on_unsealed r steps s t f others (stages.Sealed x seal) e = absurd cc

not_passed_there : (stage : Stage) (bytes : List ℕ) → IsUnsealed stage → is_passed stage bytes ≡ false
not_passed_there stages.Open bytes bare = refl
not_passed_there (stages.Covered c) bytes bare = refl
not_passed_there (stages.Ended t) bytes bare = refl
not_passed_there (stages.Sealed t seal) bytes bare = absurd bare

waits_there : (r : Ranges) (steps : ℕ) (s : Progress) (bytes : List ℕ) → frame_of bytes ≡ Absent → IsUnsealed s.stage → turn r steps s bytes ≡ Waits
waits_there r steps s bytes none bare = turn_without r steps s bytes none ∙ ap (without_frame (length s.before)) (not_passed_there s.stage bytes bare)

module _ (r : Ranges) (steps : ℕ) (from : Progress) (bytes : List ℕ) (k : ℕ) where
  -- in the first k bytes so much stands, and then a frame is cut
  record Cuts : Type 0 where
    standing : Progress
    left : List ℕ
    leaves : Leaves r steps from (take k bytes) standing left
    waits : turn r steps standing left ≡ Waits
    unsealed : IsUnsealed standing.stage

  -- or what stands in all bytes stands in these, n of them, and m follow
  record Keeps (s : Progress) (rest : List ℕ) : Type 0 where
    n : ℕ
    m : ℕ
    parts : k ≡ n + m
    all : length bytes ≡ n + length rest
    leaves : Leaves r steps from (take k bytes) s (take m rest)

  one_step : (s t : Progress) (rest others : List ℕ) → turn r steps s rest ≡ Goes t others → Keeps s rest → Cuts ⊎ Keeps t others
  unfolding turn
  one_step s t rest others e kept = by_frame (frame_of rest) refl e
    where
      further : (f : Frame) (there : IsThere rest f) (more : ℕ) → kept.m ≡ (opening_length + there.size) + more → (next_of r steps s f ≡ Ok t) × (f.rest ≡ others) → Keeps t others
      further f there more is goes = record {
        n = kept.n + (opening_length + there.size);
        m = more;
        parts = omega (arith, kept.parts, is);
        all = omega (arith, kept.all, rest_length rest f there, ap length goes.1);
        leaves = frame s (take kept.m rest) t (take more others) kept.leaves
            (turn_with r steps s (take kept.m rest) (cut_to more f) (frame_within rest f there kept.m more is)
            ∙ ap (turn_next s (take more f.rest)) (same_next r steps s f more s.stage ∙ goes.0)
            ∙ ap (λ (l : List ℕ). Goes t (take more l)) goes.1);
      }

      by_length : (f : Frame) (there : IsThere rest f) → turn_next s f.rest (next_of r steps s f) ≡ Goes t others → (b : Bool) → ltb kept.m (opening_length + there.size) ≡ b → Cuts ⊎ Keeps t others
      by_length f there goes true is = inl (record {
        standing = s;
        left = take kept.m rest;
        leaves = kept.leaves;
        waits = waits_there r steps s (take kept.m rest) (no_frame_within rest f there kept.m (ltb-true _ _ is)) (goes_on_unsealed r steps s t f others s.stage goes);
        unsealed = goes_on_unsealed r steps s t f others s.stage goes;
      })
      by_length f there goes false is = inr (further f there (kept.m - (opening_length + there.size)) (omega (arith, ltb-false _ _ is)) (goes_is s t f.rest others (next_of r steps s f) goes))

      by_frame : (o : Option Frame) → frame_of rest ≡ o → turn_frame (next_of r steps s) s rest o ≡ Goes t others → Cuts ⊎ Keeps t others
      by_frame Absent is goes = absurd (never_goes (length s.before) (is_passed s.stage rest) t others goes)
      by_frame (Some f) is goes = let there = is_there rest f is in by_length f there goes (ltb kept.m (opening_length + there.size)) refl

  leaves_within : (s : Progress) (rest : List ℕ) → Leaves r steps from bytes s rest → Cuts ⊎ Keeps s rest
  leaves_within _ _ nothing = inr (record { n = 0; m = k; parts = omega arith; all = omega arith; leaves = nothing })
  leaves_within _ _ (frame s rest t others before e) = after (leaves_within s rest before)
    where
      after : Cuts ⊎ Keeps s rest → Cuts ⊎ Keeps t others
      after (inl cut) = inl cut
      after (inr kept) = one_step s t rest others e kept

-- ---- behind the head

behind_cut : (v : Version) (p : Program) (head : Head) (fed : List ℕ) (x : Trace) (k : ℕ) → k < length fed → IsReadBehind v p head fed (Ok x) → IsCut v p head (take k fed) (Cut (length (opening v head ++ take k fed)))
behind_cut v p head fed x k short read = by_end (leaves_within (ranges_of v p) head.steps (start v head) fed k read.0 read.1.rest read.1.leaves)
  where
    none : read.1.rest ≡ []
    none = sealed_waits (ranges_of v p) head.steps read.0 read.1.rest x.tail read.2.seal read.2.sealed read.1.waits

    by_end : Cuts (ranges_of v p) head.steps (start v head) fed k ⊎ Keeps (ranges_of v p) head.steps (start v head) fed k read.0 read.1.rest → IsCut v p head (take k fed) (Cut (length (opening v head ++ take k fed)))
    by_end (inl cut) = (cut.standing, record { rest = cut.left; leaves = cut.leaves; waits = cut.waits }, cut.unsealed, refl)
    by_end (inr kept) = absurd (omega (arith, kept.parts, kept.all, ap length none, short))

-- ---- the head

-- the first bytes of those that begin with a magic, and others
cut_in_magic : (v : Version) (bytes : List ℕ) (n : ℕ) → agreeing (magic v) bytes ≡ magic_length → n < magic_length → take n bytes ≡ take n (magic v)
cut_in_magic v bytes n agrees short =
    ap (take n) (magic_stands v bytes agrees) ∙ take-append-le n (magic v) (drop magic_length bytes) (omega (arith, short, magic_long v))

in_magic : (v : Version) (bytes : List ℕ) (n : ℕ) → agreeing (magic v) bytes ≡ magic_length → n < magic_length → n < length bytes → head_of (take n bytes) ≡ Err (Cut n)
unfolding head_of
in_magic v bytes n agrees short less =
    let w = version_of (take n bytes) in
    let len : length (take n bytes) ≡ n = omega (arith, length-take n bytes, less) in
    let all : agreeing (magic w) (take n bytes) ≡ n = ap (agreeing (magic w)) (cut_in_magic v bytes n agrees short) ∙ cut_agrees v w n short in
    ap (λ (a : ℕ). cond (eqb a magic_length) (head_in w (length (take n bytes)) (frame_of (drop magic_length (take n bytes)))) (cond (eqb a (length (take n bytes))) (Err (Cut a)) (Err (Damaged a rule.Magic)))) all
    ∙ ap (λ (b : Bool). cond b (head_in w (length (take n bytes)) (frame_of (drop magic_length (take n bytes)))) (cond (eqb n (length (take n bytes))) (Err (Cut n)) (Err (Damaged n rule.Magic)))) (ne_eqb n magic_length (λ e. omega (arith, e, short)))
    ∙ ap (λ (b : Bool). cond b (Err (Cut n)) (Err (Damaged n rule.Magic))) (eq-eqb n (length (take n bytes)) (sym len))

-- behind the magic the version stays
cut_behind : (v : Version) (bytes : List ℕ) (m : ℕ) → agreeing (magic v) bytes ≡ magic_length → take (magic_length + m) bytes ≡ magic v ++ take m (drop magic_length bytes)
cut_behind v bytes m agrees =
    let rest = drop magic_length bytes in
    ap (take (magic_length + m)) (magic_stands v bytes agrees) ∙ ap (λ (k : ℕ). take (k + m) (magic v ++ rest)) (sym (magic_long v)) ∙ take-append-add (magic v) rest m

behind_magic : (v : Version) (bytes : List ℕ) (m : ℕ) → agreeing (magic v) bytes ≡ magic_length → magic_length + m ≤ length bytes → head_of (take (magic_length + m) bytes) ≡ head_in v (magic_length + m) (frame_of (take m (drop magic_length bytes)))
unfolding head_of
behind_magic v bytes m agrees within =
    let n = magic_length + m in
    let cut = take n bytes in
    let len : length cut ≡ n = omega (arith, length-take n bytes, within) in
    let parts = cut_behind v bytes m agrees in
    let is : version_of cut ≡ v = ap version_of parts ∙ version_spelled v (take m (drop magic_length bytes)) in
    let all : agreeing (magic v) cut ≡ magic_length = ap (agreeing (magic v)) parts ∙ agrees_all (magic v) (take m (drop magic_length bytes)) ∙ magic_long v in
    ap (λ (w : Version). cond (eqb (agreeing (magic w) cut) magic_length) (head_in w (length cut) (frame_of (drop magic_length cut))) (cond (eqb (agreeing (magic w) cut) (length cut)) (Err (Cut (agreeing (magic w) cut))) (Err (Damaged (agreeing (magic w) cut) rule.Magic)))) is
    ∙ ap (λ (a : ℕ). cond (eqb a magic_length) (head_in v (length cut) (frame_of (drop magic_length cut))) (cond (eqb a (length cut)) (Err (Cut a)) (Err (Damaged a rule.Magic)))) all
    ∙ ap (λ (l : ℕ). head_in v l (frame_of (drop magic_length cut))) len
    ∙ ap (λ (l : List ℕ). head_in v n (frame_of l)) (drop-take magic_length m bytes)

-- what a head is read as doesn't depend on the bytes behind its frame
same_head : (v : Version) (size : ℕ) (m : ℕ) (f : Frame) (y : ReadHead) (other : ℕ) → head_in v other (Some f) ≡ Ok y → head_in v size (Some (cut_to m f)) ≡ Ok y
same_head v size m f y other e = e

-- ---- a trace

abbrev refused : TraceError → Result Trace TraceError
refused e = Err e

module _ (p : Program) (bytes : List ℕ) (x : Trace) (are : AreBytes bytes) (n : ℕ) (less : n < length bytes) where
  with_rest : (y : ReadHead) (m : ℕ) → n ≡ y.1 + m → take y.1 bytes ≡ opening y.2 y.0 → head_of (take n bytes) ≡ Ok y → IsReadBehind y.2 p y.0 (drop y.1 bytes) (Ok x) → IsReadAs p (take n bytes) (Err (Cut n))
  with_rest y m parts spelled is read =
      let fed = drop y.1 bytes in
      let rest : drop y.1 (take n bytes) ≡ take m fed = ap (λ (j : ℕ). drop y.1 (take j bytes)) parts ∙ drop-take y.1 m bytes in
      let cut = behind_cut y.2 p y.0 fed x m (omega (arith, length-drop y.1 bytes, less, parts)) read in
      let len : length (opening y.2 y.0 ++ take m fed) ≡ n = length-append (opening y.2 y.0) (take m fed) ∙ omega (arith, ap length spelled, length-take y.1 bytes, length-take m fed, length-drop y.1 bytes, less, parts) in
      let there : IsReadBehind y.2 p y.0 (take m fed) (Err (Cut n)) = subst (λ (j : ℕ). IsReadBehind y.2 p y.0 (take m fed) (Err (Cut j))) len (inr cut) in
      let moved : IsReadBehind y.2 p y.0 (drop y.1 (take n bytes)) (Err (Cut n)) = subst (λ (l : List ℕ). IsReadBehind y.2 p y.0 l (Err (Cut n))) (sym rest) there in
      subst (λ (h : Result ReadHead TraceError). MatchResult h (λ z. IsReadBehind z.2 p z.0 (drop z.1 (take n bytes)) (Err (Cut n))) (λ e. refused (Cut n) ≡ refused e)) (sym is) moved

  refused_there : head_of (take n bytes) ≡ Err (Cut n) → IsReadAs p (take n bytes) (Err (Cut n))
  refused_there is = subst (λ (h : Result ReadHead TraceError). MatchResult h (λ z. IsReadBehind z.2 p z.0 (drop z.1 (take n bytes)) (Err (Cut n))) (λ e. refused (Cut n) ≡ refused e)) (sym is) refl

  in_frame : (v : Version) (y : ReadHead) (f : Frame) (there : IsThere (drop magic_length bytes) f) (m : ℕ) → n ≡ magic_length + m → agreeing (magic v) bytes ≡ magic_length → take y.1 bytes ≡ opening y.2 y.0 → y.1 ≡ magic_length + length f.whole
      → head_in v (length bytes) (Some f) ≡ Ok y → IsReadBehind y.2 p y.0 (drop y.1 bytes) (Ok x) → (b : Bool) → ltb m (opening_length + there.size) ≡ b → IsReadAs p (take n bytes) (Err (Cut n))
  in_frame v y f there m parts agrees spelled ends is read true short =
      let none = no_frame_within (drop magic_length bytes) f there m (ltb-true _ _ short) in
      refused_there (ap (λ (j : ℕ). head_of (take j bytes)) parts ∙ behind_magic v bytes m agrees (omega (arith, less, parts)) ∙ ap (head_in v (magic_length + m)) none ∙ ap (λ (j : ℕ). Err (Cut j)) (sym parts))
  in_frame v y f there m parts agrees spelled ends is read false long =
      let more = m - (opening_length + there.size) in
      let size : m ≡ (opening_length + there.size) + more = omega (arith, ltb-false _ _ long) in
      let whole = frame_within (drop magic_length bytes) f there m more size in
      let head : head_of (take n bytes) ≡ Ok y = ap (λ (j : ℕ). head_of (take j bytes)) parts ∙ behind_magic v bytes m agrees (omega (arith, less, parts)) ∙ ap (head_in v (magic_length + m)) whole ∙ same_head v (magic_length + m) more f y (length bytes) is in
      with_rest y more (omega (arith, parts, size, ends, whole_length (drop magic_length bytes) f there)) spelled head read

  with_frame : (v : Version) (y : ReadHead) (o : Option Frame) → frame_of (drop magic_length bytes) ≡ o → agreeing (magic v) bytes ≡ magic_length → take y.1 bytes ≡ opening y.2 y.0 → head_in v (length bytes) o ≡ Ok y → IsReadBehind y.2 p y.0 (drop y.1 bytes) (Ok x)
      → (b : Bool) → ltb n magic_length ≡ b → IsReadAs p (take n bytes) (Err (Cut n))
  with_frame v y Absent is agrees spelled e read b at = absurd cc
  with_frame v y (Some f) is agrees spelled e read true at = refused_there (in_magic v bytes n agrees (ltb-true _ _ at) less)
  with_frame v y (Some f) is agrees spelled e read false at =
      let there = is_there (drop magic_length bytes) f is in
      let m = n - magic_length in
      let l = lettered (eqb f.letter 72) (read_head_as v (magic_length + length f.whole) (all_of (head_at f.payload))) (Damaged magic_length rule.FrameKind) y e in
      let a = answered v (magic_length + length f.whole) (all_of (head_at f.payload)) y l.1 in
      in_frame v y f there m (omega (arith, ltb-false _ _ at)) agrees spelled (sym a.1) e read (ltb m (opening_length + there.size)) refl

  with_head : (h : Result ReadHead TraceError) → head_of bytes ≡ h → MatchResult h (λ y. IsReadBehind y.2 p y.0 (drop y.1 bytes) (Ok x)) (λ e. Ok x ≡ Err e) → IsReadAs p (take n bytes) (Err (Cut n))
  unfolding head_of
  with_head (Ok y) is read =
      let v = version_of bytes in
      let count = agreeing (magic v) bytes in
      let r = refuses (eqb count magic_length) (head_in v (length bytes) (frame_of (drop magic_length bytes))) (eqb count (length bytes)) (Cut count) (Damaged count rule.Magic) y is in
      with_frame v y (frame_of (drop magic_length bytes)) refl (eqb-true count magic_length r.0) (head_spelled bytes y.0 y.1 y.2 are is) r.1 read (ltb n magic_length) refl
  with_head (Err e) is read = absurd cc

pub prefix_cut : (p : Program) (bytes : List ℕ) (x : Trace) (n : ℕ) → AreBytes bytes → IsReadAs p bytes (Ok x) → n < length bytes → IsReadAs p (take n bytes) (Err (Cut n))
prefix_cut p bytes x n are read less = with_head p bytes x are n less (head_of bytes) refl read
