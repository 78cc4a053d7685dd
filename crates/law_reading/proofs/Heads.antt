-- A head that is read is spelled so.
use Rattle.std.proofs.Common.{◌≡◌, ℕ, suc, ◌+◌, ◌≤◌, Bool, true, false, cond, eqb, ltb, List, [], ◌∷◌, ◌++◌, length, take, drop, Option, Some, Result, Ok, Err, refl, sym, ap, ◌∙◌, subst, append_assoc, arith, length-append}
use Rattle.std.specs.Prelude.{None as Absent}
use Rattle.std.specs.Prelude.{nat_le, ◌&&◌}
use Rattle.std.specs.Int.{w32}
use Rattle.std.proofs.lemmas.Bool.{eqb-true, eq-eqb, leb-true, ltb-false}
use Rattle.std.proofs.lemmas.List.{append-nil, nil_from_length, take_at, take-append-drop, take-take, length-take, length-drop}
use Rattle.std.proofs.lemmas.Nat.{be_bytes_4}
use Rattle.wy_event.specs.declared.record.Version.{Version}
use Rattle.wy_event.specs.declared.record.Head.{Head}
use Rattle.wy_spelling.specs.Spelling.{magic, number, head_payload, head_frame, opening}
use Rattle.wy_payload.specs.declared.fault.DamageRule.{DamageRule}
use Rattle.wy_payload.specs.declared.fault.DamageRule.TheVariants as rule
use Rattle.wy_payload.specs.Rules.{in_range}
use Rattle.wy_payload.specs.Reading.{◌>>=◌, passed, number_at, at_most_at, block_at, all_of}
use Rattle.wy_kernel.specs.Limits.{steps_limit, input_limit, source_limit}
use Rattle.wy_payload.specs.Closing.{head_at}
use Rattle.wy_frames.specs.declared.error.TraceError.{TraceError}
use Rattle.wy_frames.specs.declared.error.TraceError.TheVariants.{Cut, Damaged}
use Rattle.wy_frames.specs.Frames.{Frame, opening_length, said_length, frame_of_length, frame_of}
use Rattle.wy_frames.specs.Heads.{ReadHead, agreeing, magic_length, version_of, read_head_as, head_in, head_of}
use Rattle.wy_spelling.proofs.Lengths.{magic_long}
use Rattle.wy_frames.proofs.Scans.{inner_is, some_is}
use Rattle.law_reading.specs.Spelled.{AreBytes}
use Rattle.law_reading.proofs.SpelledNumbers.{bytes_behind, bytes_before, guarded, read_then, passing, Spelled, number_spelled, block_spelled, one_after}

abbrev pub done : {A : Type 0} → A → Result A DamageRule
done x = Ok x

pub ok_is : {A : Type 0} (x y : A) → done x ≡ done y → x ≡ y
ok_is x y e = cc

-- ---- the payload

payload_spelled : (bytes : List ℕ) (x : Head × List ℕ) → AreBytes bytes → head_at bytes ≡ Ok x → Spelled bytes (head_payload x.0) x.1
unfolding head_at head_payload
payload_spelled bytes x are e =
    let a = read_then (number_at w32 bytes) (λ steps. passed (in_range (nat_le 1 steps.0 && nat_le steps.0 steps_limit)) steps.1 >>= λ rest. block_at input_limit rest >>= λ input. block_at source_limit input.1 >>= λ source. Ok (record { steps = steps.0; input = input.0; source = source.0 }, source.1)) x e in
    let b = read_then (passed (in_range (nat_le 1 a.0.0 && nat_le a.0.0 steps_limit)) a.0.1) (λ rest. block_at input_limit rest >>= λ input. block_at source_limit input.1 >>= λ source. Ok (record { steps = a.0.0; input = input.0; source = source.0 }, source.1)) x a.2 in
    let c = read_then (block_at input_limit b.0) (λ input. block_at source_limit input.1 >>= λ source. Ok (record { steps = a.0.0; input = input.0; source = source.0 }, source.1)) x b.2 in
    let d = read_then (block_at source_limit c.0.1) (λ source. Ok (record { steps = a.0.0; input = c.0.0; source = source.0 }, source.1)) x c.2 in
    let s0 = number_spelled bytes a.0 are a.1 in
    let here : Spelled bytes (number a.0.0) b.0 = subst (λ (l : List ℕ). Spelled bytes (number a.0.0) l) (passing (in_range (nat_le 1 a.0.0 && nat_le a.0.0 steps_limit)) a.0.1 b.0 b.1) s0 in
    let s1 = block_spelled input_limit b.0 c.0 here.rest_bytes c.1 in
    let s2 = block_spelled source_limit c.0.1 d.0 s1.rest_bytes d.1 in
    let behind = one_after b.0 (number (length c.0.0) ++ c.0.0) c.0.1 (number (length d.0.0) ++ d.0.0) d.0.1 s1 s2 in
    let all = one_after bytes (number a.0.0) b.0 ((number (length c.0.0) ++ c.0.0) ++ (number (length d.0.0) ++ d.0.0)) d.0.1 here behind in
    let grouped = subst (λ (l : List ℕ). Spelled bytes (number a.0.0 ++ l) d.0.1) (append_assoc (number (length c.0.0)) c.0.0 (number (length d.0.0) ++ d.0.0)) all in
    let made : Head × List ℕ = (record { steps = a.0.0; input = c.0.0; source = d.0.0 }, d.0.1) in
    subst (λ (y : Head × List ℕ). Spelled bytes (head_payload y.0) y.1) (ok_is made x d.2) grouped

ended : (b : Bool) (x y : Head) → cond b (Ok x) (Err rule.Length) ≡ done y → (b ≡ true) × (x ≡ y)
ended true x y e = (refl, cc)
ended false x y e = absurd cc

whole_payload : (payload : List ℕ) (h : Head) → AreBytes payload → all_of (head_at payload) ≡ Ok h → payload ≡ head_payload h
whole_payload payload h are e =
    let a = read_then (head_at payload) (λ x. cond (eqb (length x.1) 0) (Ok x.0) (Err rule.Length)) h e in
    let s = payload_spelled payload a.0 are a.1 in
    let g = ended (eqb (length a.0.1) 0) a.0.0 h a.2 in
    let none : a.0.1 ≡ [] = nil_from_length a.0.1 (eqb-true (length a.0.1) 0 g.0) in
    s.parts ∙ ap (λ l. head_payload a.0.0 ++ l) none ∙ append-nil (head_payload a.0.0) ∙ ap head_payload g.1

-- ---- the frame

pub record IsFrame (bytes : List ℕ) (f : Frame) : Type 0 where
  pub whole_is : f.whole ≡ f.letter ∷ number (length f.payload) ++ f.payload
  pub parts : f.whole ++ f.rest ≡ bytes
  pub payload_bytes : AreBytes f.payload

long_frame : (b : ℕ) (tail : List ℕ) (f : Frame) → AreBytes (b ∷ tail) → frame_of (b ∷ tail) ≡ Some f → IsFrame (b ∷ tail) f
unfolding frame_of frame_of_length
long_frame b tail f are e =
    let bytes : List ℕ = b ∷ tail in
    let size = said_length bytes in
    let n = opening_length + size in
    let outer = inner_is _ _ f e in
    let inner = some_is (ltb (length bytes) n) _ f outer.1 in
    let within : n ≤ length bytes = ltb-false _ _ inner.0 in
    let payload = drop 5 (take n bytes) in
    let front : number size ≡ take 4 tail = be_bytes_4 (take 4 tail) size (omega (arith, length-take 4 tail, within)) (bytes_before 4 tail (bytes_behind 1 bytes are)) refl in
    let len : length payload ≡ size = omega (arith, length-drop 5 (take n bytes), length-take n bytes, within) in
    let cut : take n bytes ≡ (b ∷ take 4 tail) ++ payload = sym (take-append-drop 5 (take n bytes)) ∙ ap (λ l. l ++ payload) (take-take 5 n bytes (omega arith)) in
    let made : Frame = record { letter = b; payload = payload; whole = take n bytes; rest = drop n bytes } in
    let shown : IsFrame bytes made = record {
      whole_is = cut ∙ ap (λ l. (b ∷ l) ++ payload) (sym front) ∙ ap (λ k. (b ∷ number k) ++ payload) (sym len);
      parts = take-append-drop n bytes;
      payload_bytes = bytes_behind 5 (take n bytes) (bytes_before n bytes are);
    } in
    subst (λ (g : Frame). IsFrame bytes g) inner.1 shown

no_frame : (f : Frame) → frame_of [] ≡ Some f → ⊥
unfolding frame_of
no_frame f e = cc

pub whole_frame : (bytes : List ℕ) (f : Frame) → AreBytes bytes → frame_of bytes ≡ Some f → IsFrame bytes f
whole_frame [] f are e = absurd (no_frame f e)
whole_frame (b ∷ tail) f are e = long_frame b tail f are e

-- ---- the magic

pub one_agrees : (b : Bool) (n m : ℕ) → cond b (suc n) 0 ≡ suc m → (b ≡ true) × (n ≡ m)
one_agrees true n m e = (refl, omega (arith, e))
one_agrees false n m e = absurd (omega (arith, e))

agrees : (xs ys : List ℕ) → agreeing xs ys ≡ length xs → ys ≡ xs ++ drop (length xs) ys
unfolding agreeing
agrees [] ys e = refl
agrees (x ∷ xs) [] e = absurd (omega (arith, e))
agrees (x ∷ xs) (y ∷ ys) e =
    let one = one_agrees (eqb x y) (agreeing xs ys) (length xs) e in
    ap (λ k. k ∷ ys) (sym (eqb-true x y one.0)) ∙ ap (λ l. x ∷ l) (agrees xs ys one.1)

-- ---- the answer

pub lettered : (b : Bool) (r : Result ReadHead TraceError) (e : TraceError) (y : ReadHead) → cond b r (Err e) ≡ Ok y → (b ≡ true) × (r ≡ Ok y)
lettered true r e y is = (refl, is)
lettered false r e y is = absurd cc

pub answered : (v : Version) (end : ℕ) (r : Result Head DamageRule) (y : ReadHead) → read_head_as v end r ≡ Ok y → (r ≡ Ok y.0) × (end ≡ y.1) × (v ≡ y.2)
answered v end (Ok h) y e = (cc, cc, cc)
answered v end (Err d) y e = absurd cc

pub refuses : (b : Bool) (r : Result ReadHead TraceError) (c : Bool) (e f : TraceError) (y : ReadHead) → cond b r (cond c (Err e) (Err f)) ≡ Ok y → (b ≡ true) × (r ≡ Ok y)
refuses true r c e f y is = (refl, is)
refuses false r true e f y is = absurd cc
refuses false r false e f y is = absurd cc

pub agrees_all : (xs ys : List ℕ) → agreeing xs (xs ++ ys) ≡ length xs
unfolding agreeing
agrees_all [] ys = refl
agrees_all (x ∷ xs) ys = ap (λ b. cond b (suc (agreeing xs (xs ++ ys))) 0) (eq-eqb x x refl) ∙ ap suc (agrees_all xs ys)

pub magic_stands : (v : Version) (bytes : List ℕ) → agreeing (magic v) bytes ≡ magic_length → bytes ≡ magic v ++ drop magic_length bytes
magic_stands v bytes e = agrees (magic v) bytes (e ∙ sym (magic_long v)) ∙ ap (λ n. magic v ++ drop n bytes) (magic_long v)

with_frame : (v : Version) (bytes : List ℕ) (y : ReadHead) (o : Option Frame) → AreBytes bytes → bytes ≡ magic v ++ drop 8 bytes → frame_of (drop 8 bytes) ≡ o → head_in v (length bytes) o ≡ Ok y → take y.1 bytes ≡ opening y.2 y.0
unfolding opening head_frame
with_frame v bytes y Absent are parts is e = absurd cc
with_frame v bytes y (Some f) are parts is e =
    let l = lettered (eqb f.letter 72) (read_head_as v (magic_length + length f.whole) (all_of (head_at f.payload))) (Damaged magic_length rule.FrameKind) y e in
    let a = answered v (magic_length + length f.whole) (all_of (head_at f.payload)) y l.1 in
    let shown = whole_frame (drop 8 bytes) f (bytes_behind 8 bytes are) is in
    let letter : f.letter ≡ 72 = eqb-true f.letter 72 l.0 in
    let payload : f.payload ≡ head_payload y.0 = whole_payload f.payload y.0 shown.payload_bytes a.0 in
    let whole : f.whole ≡ 72 ∷ number (length (head_payload y.0)) ++ head_payload y.0 = shown.whole_is ∙ ap (λ k. (k ∷ number (length f.payload)) ++ f.payload) letter ∙ ap (λ l. (72 ∷ number (length l)) ++ l) payload in
    let all : bytes ≡ (magic v ++ f.whole) ++ f.rest = parts ∙ ap (λ l. magic v ++ l) (sym shown.parts) ∙ sym (append_assoc (magic v) f.whole f.rest) in
    let len : length (magic v ++ f.whole) ≡ y.1 = length-append (magic v) f.whole ∙ ap (λ n. n + length f.whole) (magic_long v) ∙ a.1 in
    ap (take y.1) all ∙ take_at (magic v ++ f.whole) f.rest y.1 len ∙ ap (λ l. magic v ++ l) whole ∙ ap (λ (w : Version). magic w ++ head_frame y.0) a.2

pub head_spelled : (bytes : List ℕ) (head : Head) (end : ℕ) (v : Version) → AreBytes bytes → head_of bytes ≡ Ok (head, end, v) → take end bytes ≡ opening v head
unfolding head_of
head_spelled bytes head end v are e =
    let w = version_of bytes in
    let n = agreeing (magic w) bytes in
    let r = refuses (eqb n magic_length) (head_in w (length bytes) (frame_of (drop magic_length bytes))) (eqb n (length bytes)) (Cut n) (Damaged n rule.Magic) (head, end, v) e in
    with_frame w bytes (head, end, v) (frame_of (drop 8 bytes)) are (magic_stands w bytes (eqb-true n 8 r.0)) refl r.1

version_in : (w : Version) (size : ℕ) (o : Option Frame) (y : ReadHead) → head_in w size o ≡ Ok y → w ≡ y.2
version_in w size Absent y e = absurd cc
version_in w size (Some f) y e =
    let l = lettered (eqb f.letter 72) (read_head_as w (magic_length + length f.whole) (all_of (head_at f.payload))) (Damaged magic_length rule.FrameKind) y e in
    (answered w (magic_length + length f.whole) (all_of (head_at f.payload)) y l.1).2

-- the version of a head is that of the bytes
pub version_read : (bytes : List ℕ) (y : ReadHead) → head_of bytes ≡ Ok y → version_of bytes ≡ y.2
unfolding head_of
version_read bytes y e =
    let w = version_of bytes in
    let n = agreeing (magic w) bytes in
    let r = refuses (eqb n magic_length) (head_in w (length bytes) (frame_of (drop magic_length bytes))) (eqb n (length bytes)) (Cut n) (Damaged n rule.Magic) y e in
    version_in w (length bytes) (frame_of (drop magic_length bytes)) y r.1

-- ---- limits

in_limit : {A : Type 0} (b : Bool) (x y : A) → passed (in_range b) x ≡ Ok y → b ≡ true
in_limit true x y e = refl
in_limit false x y e = absurd cc

short_block : (limit : ℕ) (bytes : List ℕ) (x : List ℕ × List ℕ) → block_at limit bytes ≡ Ok x → length x.0 ≤ limit
unfolding block_at at_most_at
short_block limit bytes x e =
    let b = read_then (at_most_at limit bytes) (λ n. cond (ltb (length n.1) n.0) (Err rule.Length) (Ok (take n.0 n.1, drop n.0 n.1))) x e in
    let m = read_then (number_at w32 bytes) (λ n. passed (in_range (nat_le n.0 limit)) n) b.0 b.1 in
    let le : m.0.0 ≤ limit = leb-true _ _ (in_limit (nat_le m.0.0 limit) m.0 b.0 m.2) in
    let same : m.0.0 ≡ b.0.0 = ap (λ (n : ℕ × List ℕ). n.0) (passing (in_range (nat_le m.0.0 limit)) m.0 b.0 m.2) in
    let g = guarded (ltb (length b.0.1) b.0.0) rule.Length (take b.0.0 b.0.1, drop b.0.0 b.0.1) x b.2 in
    let front-is : length (take b.0.0 b.0.1) ≡ length x.0 = ap (λ (p : List ℕ × List ℕ). length p.0) g.1 in
    omega (arith, le, same, front-is, length-take b.0.0 b.0.1)

second : (a b : Bool) → (a && b) ≡ true → b ≡ true
second true b e = e
second false b e = absurd cc

pub record HasLimits (h : Head) : Type 0 where
  pub steps : h.steps ≤ steps_limit
  pub source : length h.source ≤ source_limit

short_payload : (bytes : List ℕ) (x : Head × List ℕ) → head_at bytes ≡ Ok x → HasLimits x.0
unfolding head_at
short_payload bytes x e =
    let a = read_then (number_at w32 bytes) (λ steps. passed (in_range (nat_le 1 steps.0 && nat_le steps.0 steps_limit)) steps.1 >>= λ rest. block_at input_limit rest >>= λ input. block_at source_limit input.1 >>= λ source. Ok (record { steps = steps.0; input = input.0; source = source.0 }, source.1)) x e in
    let b = read_then (passed (in_range (nat_le 1 a.0.0 && nat_le a.0.0 steps_limit)) a.0.1) (λ rest. block_at input_limit rest >>= λ input. block_at source_limit input.1 >>= λ source. Ok (record { steps = a.0.0; input = input.0; source = source.0 }, source.1)) x a.2 in
    let c = read_then (block_at input_limit b.0) (λ input. block_at source_limit input.1 >>= λ source. Ok (record { steps = a.0.0; input = input.0; source = source.0 }, source.1)) x b.2 in
    let d = read_then (block_at source_limit c.0.1) (λ source. Ok (record { steps = a.0.0; input = c.0.0; source = source.0 }, source.1)) x c.2 in
    let made : Head × List ℕ = (record { steps = a.0.0; input = c.0.0; source = d.0.0 }, d.0.1) in
    let few : a.0.0 ≤ steps_limit = leb-true _ _ (second (nat_le 1 a.0.0) (nat_le a.0.0 steps_limit) (in_limit (nat_le 1 a.0.0 && nat_le a.0.0 steps_limit) a.0.1 b.0 b.1)) in
    subst (λ (y : Head × List ℕ). HasLimits y.0) (ok_is made x d.2) (record { steps = few; source = short_block source_limit c.0.1 d.0 d.1 })

short_whole : (payload : List ℕ) (h : Head) → all_of (head_at payload) ≡ Ok h → HasLimits h
short_whole payload h e =
    let a = read_then (head_at payload) (λ x. cond (eqb (length x.1) 0) (Ok x.0) (Err rule.Length)) h e in
    let g = ended (eqb (length a.0.1) 0) a.0.0 h a.2 in
    subst (λ (y : Head). HasLimits y) g.1 (short_payload payload a.0 a.1)

short_in : (v : Version) (size : ℕ) (y : ReadHead) (o : Option Frame) → head_in v size o ≡ Ok y → HasLimits y.0
short_in v size y Absent e = absurd cc
short_in v size y (Some f) e =
    let l = lettered (eqb f.letter 72) (read_head_as v (magic_length + length f.whole) (all_of (head_at f.payload))) (Damaged magic_length rule.FrameKind) y e in
    let a = answered v (magic_length + length f.whole) (all_of (head_at f.payload)) y l.1 in
    short_whole f.payload y.0 a.0

pub head_has_limits : (bytes : List ℕ) (head : Head) (end : ℕ) (v : Version) → head_of bytes ≡ Ok (head, end, v) → HasLimits head
unfolding head_of
head_has_limits bytes head end v e =
    let w = version_of bytes in
    let n = agreeing (magic w) bytes in
    let r = refuses (eqb n magic_length) (head_in w (length bytes) (frame_of (drop magic_length bytes))) (eqb n (length bytes)) (Cut n) (Damaged n rule.Magic) (head, end, v) e in
    short_in w (length bytes) (head, end, v) (frame_of (drop 8 bytes)) r.1

pub head_is_short : (bytes : List ℕ) (head : Head) (end : ℕ) (v : Version) → head_of bytes ≡ Ok (head, end, v) → length head.source ≤ source_limit
head_is_short bytes head end v e = (head_has_limits bytes head end v e).source
