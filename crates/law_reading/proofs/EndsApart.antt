-- Two ends of runs whose numbers fit, and that are spelled alike, are one.
use Rattle.std.proofs.Common.{◌≡◌, ℕ, ◌<◌, ◌≤◌, ◌^◌, List, [], ◌∷◌, ◌++◌, map, length, drop, refl, sym, ap, ◌∙◌, subst, arith, length-append}
use Rattle.std.specs.Prelude.{slice_index}
use Rattle.std.specs.List.{AllByRecursion, concat, flat_map}
use Rattle.std.proofs.lemmas.List.Concat.{flat_map-cons}
use Rattle.std.proofs.lemmas.List.Elements.{recursion_from_All}
use Rattle.sha2.specs.Sha256.{sha256}
use Rattle.wy_event.specs.declared.record.Cover.{Cover}
use Rattle.wy_event.specs.declared.record.Coverage.{Coverage}
use Rattle.wy_event.specs.declared.record.Tail.{Tail}
use Rattle.wy_fitting.specs.Fits.{CoverFits, EndFits}
use Rattle.wy_kernel.specs.Limits.{trace_limit}
use Rattle.wy_spelling.specs.Spelling.{number, frame, cover_bytes, coverage_payload, coverage_frame, count_bytes, tail_payload, end_frame, event_frame, opening, tail_frames, closing, seal_frame}
use Rattle.law_reading.specs.Spelled.{RecordedEndsAreReadBack}
use Rattle.law_reading.proofs.BackTraces.{same_number, same_frame}
use Rattle.law_reading.proofs.BackEnds.{ends_told}

-- ---- covers

record SameCover (a b : Cover) (x y : List ℕ) : Type 0 where
  covers : a ≡ b
  behind : x ≡ y

same_cover : (a b : Cover) (x y : List ℕ) → CoverFits a → CoverFits b → cover_bytes a ++ x ≡ cover_bytes b ++ y → SameCover a b x y
unfolding cover_bytes
same_cover a b x y f g e =
    let begins = same_number a.begins b.begins (number a.ends ++ (number a.first ++ (number a.cause ++ x))) (number b.ends ++ (number b.first ++ (number b.cause ++ y))) f.begins g.begins e in
    let ends = same_number a.ends b.ends (number a.first ++ (number a.cause ++ x)) (number b.first ++ (number b.cause ++ y)) f.ends g.ends begins.behind in
    let first = same_number a.first b.first (number a.cause ++ x) (number b.cause ++ y) f.first g.first ends.behind in
    let cause = same_number a.cause b.cause x y f.cause g.cause first.behind in
    record { covers = λ i. record { begins = begins.numbers i; ends = ends.numbers i; first = first.numbers i; cause = cause.numbers i }; behind = cause.behind }

same_covers : (xs ys : List Cover) → AllByRecursion CoverFits xs → AllByRecursion CoverFits ys → length xs ≡ length ys → flat_map cover_bytes xs ≡ flat_map cover_bytes ys → xs ≡ ys
same_covers [] [] f g n e = refl
same_covers [] (y ∷ ys) f g n e = absurd (omega (arith, n))
same_covers (x ∷ xs) [] f g n e = absurd (omega (arith, n))
same_covers (x ∷ xs) (y ∷ ys) f g n e =
    let one = same_cover x y (flat_map cover_bytes xs) (flat_map cover_bytes ys) f.0 g.0 (sym (flat_map-cons cover_bytes x xs) ∙ e ∙ flat_map-cons cover_bytes y ys) in
    let others = same_covers xs ys f.1 g.1 (omega (arith, n)) one.behind in
    λ i. one.covers i ∷ others i

-- each takes a byte at least
as_many : (xs : List Cover) → length xs ≤ length (flat_map cover_bytes xs)
unfolding cover_bytes
as_many [] = omega arith
as_many (x ∷ xs) = omega (arith, as_many xs, ap length (flat_map-cons cover_bytes x xs), length-append (cover_bytes x) (flat_map cover_bytes xs))

few : (c : Coverage) → length (coverage_payload c) < 2 ^ 32 → length c.statements < 2 ^ 32
unfolding coverage_payload
few c short = omega (arith, short, as_many c.statements, length-append (number (length c.statements)) (flat_map cover_bytes c.statements))

same_coverage : (c d : Coverage) → AllByRecursion CoverFits c.statements → AllByRecursion CoverFits d.statements → length c.statements < 2 ^ 32 → length d.statements < 2 ^ 32 → coverage_payload c ≡ coverage_payload d → c ≡ d
unfolding coverage_payload
same_coverage c d f g c-few d-few e =
    let n = same_number (length c.statements) (length d.statements) (flat_map cover_bytes c.statements) (flat_map cover_bytes d.statements) c-few d-few e in
    let covers = same_covers c.statements d.statements f g n.numbers n.behind in
    λ i. record { statements = covers i }

-- ---- ends

same_end : (a b : Tail) → EndFits a → EndFits b → a.coverage ≡ b.coverage → tail_payload a ≡ tail_payload b → a ≡ b
unfolding tail_payload count_bytes
same_end a b f g covers e =
    let stop : a.stop ≡ b.stop = ap (λ l. slice_index l 0) e in
    let last = same_number a.last b.last (count_bytes a) (count_bytes b) f.last g.last (ap (drop 1) e) in
    let steps = same_number a.steps b.steps (number a.events ++ (number a.uses ++ number a.output)) (number b.events ++ (number b.uses ++ number b.output)) f.steps g.steps last.behind in
    let events = same_number a.events b.events (number a.uses ++ number a.output) (number b.uses ++ number b.output) f.events g.events steps.behind in
    let uses = same_number a.uses b.uses (number a.output) (number b.output) f.uses g.uses events.behind in
    let output = same_number a.output b.output [] [] f.output g.output uses.behind in
    λ i. record { coverage = covers i; stop = stop i; last = last.numbers i; steps = steps.numbers i; events = events.numbers i; uses = uses.numbers i; output = output.numbers i }

within : (a : Tail) → length (tail_frames a) < 2 ^ 32 → length (coverage_payload a.coverage) < 2 ^ 32
unfolding tail_frames coverage_frame
within a short = omega (arith, short, length-append (frame 67 (coverage_payload a.coverage)) (end_frame a), length-append (67 ∷ number (length (coverage_payload a.coverage))) (coverage_payload a.coverage))

same_frames : (a b : Tail) → EndFits a → EndFits b → length (tail_frames a) < 2 ^ 32 → length (tail_frames b) < 2 ^ 32 → tail_frames a ≡ tail_frames b → a ≡ b
unfolding tail_frames coverage_frame end_frame
same_frames a b f g a-short b-short e =
    let c = coverage_payload a.coverage in
    let d = coverage_payload b.coverage in
    let c-short = within a a-short in
    let d-short = within b b-short in
    let one = same_frame 67 67 c d (frame 84 (tail_payload a)) (frame 84 (tail_payload b)) c-short d-short e in
    let covers = same_coverage a.coverage b.coverage (recursion_from_All CoverFits a.coverage.statements f.covers) (recursion_from_All CoverFits b.coverage.statements g.covers) (few a.coverage c-short) (few b.coverage d-short) one.payloads in
    same_end a b f g covers (ap (drop 5) one.behind)

-- ---- a run's own trace

ends_short : (more : List ℕ) (end : Tail) (bytes : List ℕ) → bytes ≡ more ++ closing end more → length bytes ≤ trace_limit → length (tail_frames end) < 2 ^ 32
unfolding closing
ends_short more end bytes parts small =
    let t = tail_frames end in
    let s = seal_frame (sha256 (more ++ t)) in
    let whole : length (more ++ (t ++ s)) ≤ trace_limit = subst (λ (l : List ℕ). length l ≤ trace_limit) parts small in
    omega (arith, whole, length-append more (t ++ s), length-append t s)

pub ends_back : RecordedEndsAreReadBack
ends_back v p head rs end bytes x are small fit parts read f g =
    let told = ends_told v p head rs end bytes x are small fit parts read in
    let short = ends_short (opening v head ++ concat (map (event_frame v) rs)) end bytes parts small in
    same_frames x.tail end g f (subst (λ (l : List ℕ). length l < 2 ^ 32) (sym told) short) short told
