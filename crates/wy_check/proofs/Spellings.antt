-- Bytes spell one certificate.
use Rattle.std.proofs.Common.{◌≡◌, ◌+◌, ◌<◌, ◌≤◌, ◌^◌, ℕ, List, [], ◌∷◌, ◌++◌, length, length-append, refl, sym, ap, ap₂, ◌∙◌, append_assoc, arith}
use Rattle.std.specs.Prelude.{codes}
use Rattle.std.specs.Fmt.{decimal}
use Rattle.std.specs.List.{AllByRecursion, flat_map}
use Rattle.wy_why.specs.declared.source.Role.{Role}
use Rattle.wy_why.specs.declared.source.Role.TheVariants as role
use Rattle.wy_why.specs.declared.source.Source.{Source}
use Rattle.wy_cert.specs.declared.certificate.Certificate.{Certificate}
use Rattle.wy_cert.specs.declared.certificate.Listed.{Listed}
use Rattle.wy_cert.specs.Spelling.{FitsLine, FitsSource, IsWritten, colon, letter_of, line_feed, line_text, source_text, space, spelled}
use Rattle.wy_cert.proofs.Lines.{line_split}
use Rattle.wy_cert.proofs.Numbers.{are_digits, number_digits, one_end}
use Rattle.wy_cert.proofs.Reading.{head_parts, same_front, source_ends, space_no_end}

pub head_same : (a b : ℕ) (x y : List ℕ) → a ∷ x ≡ b ∷ y → a ≡ b
head_same a b x y is = cc

pub tail_same : (a b : ℕ) (x y : List ℕ) → a ∷ x ≡ b ∷ y → x ≡ y
tail_same a b x y is = cc

one_number : (n m : ℕ) → n < 2 ^ 32 → m < 2 ^ 32 → decimal n ≡ decimal m → n ≡ m
one_number n m fits also is = sym (are_digits n (decimal n) fits refl).value ∙ (are_digits m (decimal n) also is).value

one_role : (a b : Role) → letter_of a ≡ letter_of b → a ≡ b
one_role role.Data role.Data is = refl
one_role role.Data role.Choice is = absurd (let apart : 100 ≡ 104 = is in omega (arith, apart))
one_role role.Data role.Control is = absurd (let apart : 100 ≡ 99 = is in omega (arith, apart))
one_role role.Choice role.Data is = absurd (let apart : 104 ≡ 100 = is in omega (arith, apart))
one_role role.Choice role.Choice is = refl
one_role role.Choice role.Control is = absurd (let apart : 104 ≡ 99 = is in omega (arith, apart))
one_role role.Control role.Data is = absurd (let apart : 99 ≡ 100 = is in omega (arith, apart))
one_role role.Control role.Choice is = absurd (let apart : 99 ≡ 104 = is in omega (arith, apart))
one_role role.Control role.Control is = refl

-- the sources of a line, up to its end
one_of_sources : (a b : List Source) (x y : List ℕ) → AllByRecursion FitsSource a → AllByRecursion FitsSource b
    → flat_map source_text a ++ line_feed ∷ x ≡ flat_map source_text b ++ line_feed ∷ y → (a ≡ b) × (x ≡ y)
one_of_sources [] [] x y fit also is = (refl, tail_same line_feed line_feed x y is)
one_of_sources [] (t ∷ b) x y fit also is = absurd (space_no_end (letter_of t.role ∷ colon ∷ (decimal t.event ++ flat_map source_text b) ++ line_feed ∷ y) x (sym is))
one_of_sources (s ∷ a) [] x y fit also is = absurd (space_no_end (letter_of s.role ∷ colon ∷ (decimal s.event ++ flat_map source_text a) ++ line_feed ∷ x) y is)
one_of_sources (s ∷ a) (t ∷ b) x y fit also is =
    let left : List ℕ = flat_map source_text a ++ line_feed ∷ x in
    let right : List ℕ = flat_map source_text b ++ line_feed ∷ y in
    let whole : source_text s ++ left ≡ source_text t ++ right = sym (append_assoc (source_text s) (flat_map source_text a) (line_feed ∷ x)) ∙ is ∙ append_assoc (source_text t) (flat_map source_text b) (line_feed ∷ y) in
    let behind = tail_same space space (letter_of s.role ∷ colon ∷ (decimal s.event ++ left)) (letter_of t.role ∷ colon ∷ (decimal t.event ++ right)) whole in
    let letters = head_same (letter_of s.role) (letter_of t.role) (colon ∷ (decimal s.event ++ left)) (colon ∷ (decimal t.event ++ right)) behind in
    let numbers = tail_same colon colon (decimal s.event ++ left) (decimal t.event ++ right) (tail_same (letter_of s.role) (letter_of t.role) (colon ∷ (decimal s.event ++ left)) (colon ∷ (decimal t.event ++ right)) behind) in
    let ends = one_end (decimal s.event) (decimal t.event) left right (number_digits s.event fit.0) (number_digits t.event also.0) (source_ends a x) (source_ends b y) numbers in
    let rest = one_of_sources a b x y fit.1 also.1 ends.1 in
    (ap₂ (λ u us. u ∷ us) (ap₂ (λ e r. record { event = e; role = r }) (one_number s.event t.event fit.0 also.0 ends.0) (one_role s.role t.role letters)) rest.0, rest.1)

some_line : (l : Listed) (ls : List Listed) → FitsLine l → [] ≡ flat_map line_text (l ∷ ls) → ⊥
some_line l ls fits is =
    let behind : List ℕ = flat_map source_text l.sources ++ line_feed ∷ flat_map line_text ls in
    let long = length-append (decimal l.event) behind in
    let some = (are_digits l.event (decimal l.event) fits.0 refl).some in
    let none = ap length (is ∙ line_split l (flat_map line_text ls)) in
    omega (arith, long, some, none)

one_of_lines : (a b : List Listed) → AllByRecursion FitsLine a → AllByRecursion FitsLine b → flat_map line_text a ≡ flat_map line_text b → a ≡ b
one_of_lines [] [] fit also is = refl
one_of_lines [] (l ∷ b) fit also is = absurd (some_line l b also.0 is)
one_of_lines (k ∷ a) [] fit also is = absurd (some_line k a fit.0 (sym is))
one_of_lines (k ∷ a) (l ∷ b) fit also is =
    let left = flat_map line_text a in
    let right = flat_map line_text b in
    let ends = one_end (decimal k.event) (decimal l.event) (flat_map source_text k.sources ++ line_feed ∷ left) (flat_map source_text l.sources ++ line_feed ∷ right) (number_digits k.event fit.0.0) (number_digits l.event also.0.0)
    (source_ends k.sources left) (source_ends l.sources right) (sym (line_split k left) ∙ is ∙ line_split l right) in
    let sources = one_of_sources k.sources l.sources left right fit.0.1 also.0.1 ends.1 in
    ap₂ (λ m ms. m ∷ ms) (ap₂ (λ e ss. record { event = e; sources = ss }) (one_number k.event l.event fit.0.0 also.0.0 ends.0) sources.0) (one_of_lines a b fit.1 also.1 sources.1)

pub one_spelling : (c d : Certificate) → IsWritten c → IsWritten d → spelled c ≡ spelled d → c ≡ d
one_spelling c d first second is =
    let count = length c.listed in
    let other = length d.listed in
    let left = flat_map line_text c.listed in
    let right = flat_map line_text d.listed in
    let behind_count : List ℕ = line_feed ∷ left in
    let behind_other : List ℕ = line_feed ∷ right in
    let behind_event : List ℕ = space ∷ (decimal count ++ behind_count) in
    let behind_asked : List ℕ = space ∷ (decimal other ++ behind_other) in
    let parts = sym (head_parts c.hex c.event count left) ∙ is ∙ head_parts d.hex d.event other right in
    let hexes = (same_front (codes "whycert 1 ") (codes "whycert 1 ") (c.hex ++ (space ∷ (decimal c.event ++ behind_event))) (d.hex ++ (space ∷ (decimal d.event ++ behind_asked))) refl parts).1 in
    let hex = same_front c.hex d.hex (space ∷ (decimal c.event ++ behind_event)) (space ∷ (decimal d.event ++ behind_asked)) (first.hex.0 ∙ sym second.hex.0) hexes in
    let event = one_end (decimal c.event) (decimal d.event) behind_event behind_asked (number_digits c.event first.event) (number_digits d.event second.event) refl refl
    (tail_same space space (decimal c.event ++ behind_event) (decimal d.event ++ behind_asked) hex.1) in
    let counts = one_end (decimal count) (decimal other) behind_count behind_other (number_digits count first.few) (number_digits other second.few) refl refl
    (tail_same space space (decimal count ++ behind_count) (decimal other ++ behind_other) event.1) in
    let lines = one_of_lines c.listed d.listed first.lines second.lines (tail_same line_feed line_feed left right counts.1) in
    let asked = one_number c.event d.event first.event second.event event.0 in
    λ i. record { hex = hex.0 i; event = asked i; listed = lines i }
