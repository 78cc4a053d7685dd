-- From the frames that stand to what all bytes are read as.
use Rattle.std.proofs.Common.{◌≡◌, ℕ, ◌≤◌, List, length, drop, Result, Ok, Err, ap, inl, inr, subst, arith}
use Rattle.wy_kernel.specs.declared.program.Program.{Program}
use Rattle.wy_event.specs.declared.record.Version.{Version}
use Rattle.wy_event.specs.declared.record.Head.{Head}
use Rattle.wy_event.specs.declared.record.Trace.{Trace}
use Rattle.wy_kernel.specs.Limits.{trace_limit}
use Rattle.wy_spelling.specs.Spelling.{opening}
use Rattle.wy_frames.specs.declared.error.TraceError.{TraceError}
use Rattle.wy_frames.specs.declared.error.TraceError.TheVariants.{Cut, Damaged, BadSeal, NoMemory}
use Rattle.wy_frames.specs.declared.decoder.Decoder.{Decoder}
use Rattle.wy_frames.specs.declared.scanner.Scanner.{Scanner}
use Rattle.wy_frames.specs.Progress.{Progress}
use Rattle.wy_frames.specs.Scanning.{Stays}
use Rattle.wy_frames.specs.Heads.{head_of}
use Rattle.wy_frames.specs.Decoding.{Decodes, IsTrace}
use Rattle.wy_frames.specs.Traces.{AllStand, IsReadBehind, IsReadAs, ReadsAs}
use Rattle.wy_frames.proofs.Openings.{opening_is_long, payload_is_long}

pub opening_is_short : (h : Head) → length h.input ≤ 16777216 → length h.source ≤ 1048576 → (v : Version) → length (opening v h) ≤ trace_limit
opening_is_short h a b v = omega (arith, opening_is_long v h, payload_is_long h, a, b)

all_stand : (d : Decoder) (v : Version) (p : Program) (head : Head) (fed : List ℕ) (t : Progress) → Decodes d v p head fed t → AllStand v p head fed t
all_stand d v p head fed t h = record { rest = d.scanner.rest.items; leaves = h.scans.leaves; waits = h.scans.waits }

with_head : (v : Version) (p : Program) (bytes : List ℕ) (head : Head) (end : ℕ) (r : Result Trace TraceError) → head_of bytes ≡ Ok (head, end, v) → IsReadBehind v p head (drop end bytes) r → IsReadAs p bytes r
with_head v p bytes head end r e h = rw e h

pub finished : (d : Decoder) (v : Version) (p : Program) (bytes : List ℕ) (head : Head) (end : ℕ) (fed : List ℕ) (t : Progress) (r : Result Trace TraceError) → head_of bytes ≡ Ok (head, end, v) → fed ≡ drop end bytes → Decodes d v p head fed t → IsTrace r v head fed t → ReadsAs r p bytes
finished d v p bytes head end fed t (Ok x) e is h has = with_head v p bytes head end (Ok x) e (subst (λ (l : List ℕ). IsReadBehind v p head l (Ok x)) is (t, all_stand d v p head fed t h, has))
finished d v p bytes head end fed t (Err (Cut byte)) e is h has = with_head v p bytes head end (Err (Cut byte)) e (subst (λ (l : List ℕ). IsReadBehind v p head l (Err (Cut byte))) is (inr (t, all_stand d v p head fed t h, has.1, ap Cut has.0)))
finished d v p bytes head end fed t (Err NoMemory) e is h has = tt
finished d v p bytes head end fed t (Err (Damaged byte rule)) e is h has = absurd has
finished d v p bytes head end fed t (Err BadSeal) e is h has = absurd has

pub refused : (s : Scanner) (v : Version) (p : Program) (bytes : List ℕ) (head : Head) (end : ℕ) (fed : List ℕ) (r : TraceError) → head_of bytes ≡ Ok (head, end, v) → fed ≡ drop end bytes → Stays s v p head fed r → ReadsAs (Err r) p bytes
refused s v p bytes head end fed (Cut byte) e is h = with_head v p bytes head end (Err (Cut byte)) e (subst (λ (l : List ℕ). IsReadBehind v p head l (Err (Cut byte))) is (inl h.refused))
refused s v p bytes head end fed NoMemory e is h = tt
refused s v p bytes head end fed (Damaged byte rule) e is h = with_head v p bytes head end (Err (Damaged byte rule)) e (subst (λ (l : List ℕ). IsReadBehind v p head l (Err (Damaged byte rule))) is (inl h.refused))
refused s v p bytes head end fed BadSeal e is h = with_head v p bytes head end (Err BadSeal) e (subst (λ (l : List ℕ). IsReadBehind v p head l (Err BadSeal)) is (inl h.refused))
