-- What is read of the head at the front of bytes is read of all of them.
use Rattle.std.proofs.Common.{◌≡◌, ℕ, ◌+◌, ◌≤◌, eqb, List, ◌++◌, length, length-append, take, drop, Option, Some, Ok, refl, sym, ap, ◌∙◌, subst, arith, append_assoc, take-append-drop}
use Rattle.std.specs.Prelude.{None as Absent}
use Rattle.std.proofs.lemmas.Bool.{eqb-true}
use Rattle.std.proofs.lemmas.List.{drop-append-le, length-drop, length-take}
use Rattle.wy_event.specs.declared.record.Version.{Version}
use Rattle.wy_spelling.specs.Spelling.{magic, opening}
use Rattle.wy_payload.specs.declared.fault.DamageRule.TheVariants as rule
use Rattle.wy_payload.specs.Reading.{all_of}
use Rattle.wy_payload.specs.Closing.{head_at}
use Rattle.wy_frames.specs.declared.error.TraceError.TheVariants.{Cut, Damaged}
use Rattle.wy_frames.specs.Frames.{Frame, frame_of}
use Rattle.wy_frames.specs.Heads.{ReadHead, agreeing, behind_magic, head_in, head_of, magic_length, read_head_as, version_of}
use Rattle.wy_frames.proofs.Pieces.{frame_more}
use Rattle.law_reading.specs.Spelled.{AreBytes, HeadsAreSpelled}
use Rattle.wy_spelling.proofs.Lengths.{magic_long}
use Rattle.law_reading.proofs.Versions.{version_spelled}
use Rattle.law_reading.proofs.Heads.{agrees_all, answered, lettered, magic_stands, refuses, version_read, whole_frame}
use Rattle.law_reading.proofs.SpelledNumbers.{bytes_behind}
use Rattle.wy_page.specs.Opening.{FrontsBeginTraces}

-- the magic, and the frame behind it, where the head is read from it
record IsBehind (front : List ℕ) (x : ReadHead) : Type 0 where
  agree : agreeing (magic x.2) front ≡ magic_length
  found : Frame
  there : frame_of (drop magic_length front) ≡ Some found
  read : head_in x.2 (length front) (Some found) ≡ Ok x

behind : (front : List ℕ) (x : ReadHead) → head_of front ≡ Ok x → IsBehind front x
unfolding head_of
behind front x is =
    let v = version_of front in
    let n = agreeing (magic v) front in
    let same : v ≡ x.2 = version_read front x is in
    let first = refuses (eqb n magic_length) (head_in v (length front) (frame_of (drop magic_length front))) (eqb n (length front)) (Cut n) (Damaged n rule.Magic) x is in
    by (frame_of (drop magic_length front)) refl (subst (λ (w : Version). agreeing (magic w) front ≡ magic_length) same (eqb-true n magic_length first.0)) (subst (λ (w : Version). head_in w (length front) (frame_of (drop magic_length front)) ≡ Ok x) same first.1)
  where
    by : (o : Option Frame) → frame_of (drop magic_length front) ≡ o → agreeing (magic x.2) front ≡ magic_length → head_in x.2 (length front) o ≡ Ok x → IsBehind front x
    by Absent there agree read = absurd cc
    by (Some f) there agree read = record { agree = agree; found = f; there = there; read = read }

front_long : (front : List ℕ) (x : ReadHead) → IsBehind front x → magic_length ≤ length front
front_long front x b = omega (arith, ap length (magic_stands x.2 front b.agree), length-append (magic x.2) (drop magic_length front), magic_long x.2)

head_more : (front others : List ℕ) (x : ReadHead) → IsBehind front x → head_of (front ++ others) ≡ Ok x
unfolding head_of
head_more front others x b =
    let v = x.2 in
    let bytes = front ++ others in
    let long = front_long front x b in
    let parts : bytes ≡ magic v ++ (drop magic_length front ++ others) = ap (λ l. l ++ others) (magic_stands v front b.agree) ∙ append_assoc (magic v) (drop magic_length front) others in
    let is : version_of bytes ≡ v = ap version_of parts ∙ version_spelled v (drop magic_length front ++ others) in
    let agree : agreeing (magic v) bytes ≡ magic_length = ap (agreeing (magic v)) parts ∙ agrees_all (magic v) (drop magic_length front ++ others) ∙ magic_long v in
    let rest : drop magic_length bytes ≡ drop magic_length front ++ others = drop-append-le magic_length front others long in
    ap (λ (w : Version). behind_magic w (agreeing (magic w) bytes) bytes) is
    ∙ ap (λ n. behind_magic v n bytes) agree
    ∙ ap (λ l. head_in v (length bytes) (frame_of l)) rest
    ∙ ap (head_in v (length bytes)) (frame_more (drop magic_length front) others b.found b.there)
    ∙ b.read

-- the place behind it is within the front
end_within : (front : List ℕ) (x : ReadHead) → AreBytes front → IsBehind front x → x.1 ≤ length front
end_within front x are b =
    let f = b.found in
    let letter = lettered (eqb f.letter 72) (read_head_as x.2 (magic_length + length f.whole) (all_of (head_at f.payload))) (Damaged magic_length rule.FrameKind) x b.read in
    let place = answered x.2 (magic_length + length f.whole) (all_of (head_at f.payload)) x letter.1 in
    let shown = whole_frame (drop magic_length front) f (bytes_behind magic_length front are) b.there in
    omega (arith, place.1, ap length shown.parts, length-append f.whole f.rest, length-drop magic_length front, front_long front x b)

pub begins : HeadsAreSpelled → FrontsBeginTraces
begins spelled front others head end v are is short =
    let b = behind front (head, end, v) is in
    let within : end ≤ length front = end_within front (head, end, v) are b in
    let begin : take end front ≡ opening v head = spelled front head end v are is in
    let place : end ≡ length (opening v head) = omega (arith, ap length begin, length-take end front, within) in
    let parts : front ++ others ≡ opening v head ++ (drop end front ++ others) = ap (λ l. l ++ others) (sym (take-append-drop end front)) ∙ append_assoc (take end front) (drop end front) others ∙ ap (λ l. l ++ (drop end front ++ others)) begin in (
      record { rest = drop end front ++ others; spelled = parts; read = head_more front others (head, end, v) b ∙ ap (λ n. Ok (head, n, v)) place; short = short },
      place,
    )
