-- A head that is read keeps the rules.
use Rattle.std.proofs.Common.{◌≡◌, ℕ, ◌+◌, ◌≤◌, Bool, true, false, cond, eqb, List, length, take, drop, Option, Some, Ok, Err, arith}
use Rattle.std.specs.Prelude.{None as Absent}
use Rattle.std.specs.Prelude.{IfOk, nat_le, nat_lt, ◌&&◌}
use Rattle.std.specs.Int.{w32}
use Rattle.std.proofs.lemmas.Bool.{leb-true}
use Rattle.std.proofs.lemmas.List.{length-take}
use Rattle.std.proofs.lemmas.Result.{IfOk-at_ok}
use Rattle.wy_kernel.specs.Limits.{input_limit, source_limit, steps_limit}
use Rattle.wy_event.specs.declared.record.Version.{Version}
use Rattle.wy_spelling.specs.Spelling.{magic}
use Rattle.wy_payload.specs.declared.fault.DamageRule.TheVariants as rule
use Rattle.wy_payload.specs.Rules.{in_range}
use Rattle.wy_payload.specs.Reading.{Read, all_of, at_most_at, block_at, number_at, passed}
use Rattle.wy_payload.specs.Closing.{head_at}
use Rattle.wy_payload.proofs.Readers.{then_has}
use Rattle.wy_frames.specs.declared.error.TraceError.TheVariants.{Cut, Damaged}
use Rattle.wy_frames.specs.Frames.{Frame, frame_of}
use Rattle.wy_frames.specs.Heads.{ReadHead, agreeing, head_in, head_of, magic_length, read_head_as, version_of}
use Rattle.law_reading.specs.Readable.{HeadMayStand}
use Rattle.law_reading.proofs.Heads.{answered, lettered, refuses}
use Rattle.law_reading.proofs.ReferringNumbers.{Has, after, at_most_has, in_range_is, passed_has}

cut_has : (b : Bool) (limit : ℕ) (x : List ℕ × List ℕ) → length x.0 ≤ limit → IfOk (cond b (Err rule.Length) (Ok x)) (λ (y : List ℕ × List ℕ). length y.0 ≤ limit)
cut_has true limit x short = tt
cut_has false limit x short = short

block_has : (limit : ℕ) (bytes : List ℕ) → Has (λ (x : List ℕ). length x ≤ limit) (block_at limit bytes)
unfolding block_at
block_has limit bytes = then_has (at_most_at limit bytes) _ _ _ (at_most_has limit bytes) (λ n up. cut_has (nat_lt (length n.1) n.0) limit (take n.0 n.1, drop n.0 n.1) (omega (arith, up, length-take n.0 n.1)))

both : (a b : Bool) → (a && b) ≡ true → (a ≡ true) × (b ≡ true)
both true true e = (cc, cc)
both true false e = absurd cc
both false b e = absurd cc

head_has : (bytes : List ℕ) → Has HeadMayStand (head_at bytes)
unfolding head_at
head_has bytes =
    after (number_at w32 bytes) _ _ (λ steps.
    then_has (passed (in_range (nat_le 1 steps.0 && nat_le steps.0 steps_limit)) steps.1) _ (λ _. (1 ≤ steps.0) × steps.0 ≤ steps_limit) _
    (passed_has (in_range (nat_le 1 steps.0 && nat_le steps.0 steps_limit)) steps.1 (λ _. (1 ≤ steps.0) × steps.0 ≤ steps_limit) (λ ok.
    let h = both (nat_le 1 steps.0) (nat_le steps.0 steps_limit) (in_range_is (nat_le 1 steps.0 && nat_le steps.0 steps_limit) ok) in
    (leb-true 1 steps.0 h.0, leb-true steps.0 steps_limit h.1))) (λ rest few.
    then_has (block_at input_limit rest) _ _ _ (block_has input_limit rest) (λ input short.
    then_has (block_at source_limit input.1) _ _ _ (block_has source_limit input.1) (λ source within.
    record { some_steps = few.0; steps = few.1; input = short; source = within }))))

test_has : {A : Type 0} (b : Bool) (x : A) (P : A → Type 0) → P x → IfOk (cond b (Ok x) (Err rule.Length)) P
test_has true x P h = h
test_has false x P h = tt

pub all_has : {A : Type 0} (read : Read A) (P : A → Type 0) → Has P read → IfOk (all_of read) P
all_has read P h = then_has read _ (λ x. P x.0) P h (λ x p. test_has (eqb (length x.1) 0) x.0 P p)

stands_in : (v : Version) (size : ℕ) (y : ReadHead) (o : Option Frame) → head_in v size o ≡ Ok y → HeadMayStand y.0
stands_in v size y Absent e = absurd cc
stands_in v size y (Some f) e =
    let l = lettered (eqb f.letter 72) (read_head_as v (magic_length + length f.whole) (all_of (head_at f.payload))) (Damaged magic_length rule.FrameKind) y e in
    let a = answered v (magic_length + length f.whole) (all_of (head_at f.payload)) y l.1 in
    IfOk-at_ok HeadMayStand a.0 (all_has (head_at f.payload) HeadMayStand (head_has f.payload))

pub head_stands : (bytes : List ℕ) (y : ReadHead) → head_of bytes ≡ Ok y → HeadMayStand y.0
unfolding head_of
head_stands bytes y e =
    let w = version_of bytes in
    let n = agreeing (magic w) bytes in
    let r = refuses (eqb n magic_length) (head_in w (length bytes) (frame_of (drop magic_length bytes))) (eqb n (length bytes)) (Cut n) (Damaged n rule.Magic) y e in
    stands_in w (length bytes) y (frame_of (drop magic_length bytes)) r.1
