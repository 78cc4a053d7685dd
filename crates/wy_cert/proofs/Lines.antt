-- Lines, one behind another: what was read, and that nothing else could be.
use Rattle.std.proofs.Common.{◌≡◌, ◌+◌, ◌<◌, ◌≤◌, ◌^◌, ℕ, zero, suc, List, [], ◌∷◌, ◌++◌, length, map, refl, sym, ap, ap₂, ◌∙◌, subst, append_assoc, append-nil, length-append, arith}
use Rattle.std.specs.Fmt.{decimal}
use Rattle.std.specs.List.{AllByRecursion, flat_map}
use Rattle.std.proofs.lemmas.List.{map-append}
use Rattle.std.proofs.lemmas.List.Concat.{flat_map-append}
use Rattle.wy_why.specs.Answer.{Rises}
use Rattle.wy_cert.specs.declared.certificate.Listed.{Listed}
use Rattle.wy_cert.specs.Spelling.{FitsLine, events, line_feed, line_text, source_text}
use Rattle.wy_why.specs.declared.source.Source.{Source}
use Rattle.wy_cert.specs.Reading.{AddsLine, AddsSources, AreLines, above_all}
use Rattle.wy_cert.proofs.Reading.{above_next, above_push, rises_push}

pub line_split : (l : Listed) (rest : List ℕ) → line_text l ++ rest ≡ decimal l.event ++ (flat_map source_text l.sources ++ line_feed ∷ rest)
line_split l rest =
    append_assoc (decimal l.event) (flat_map source_text l.sources ++ line_feed ∷ []) rest
    ∙ ap (λ x. decimal l.event ++ x) (append_assoc (flat_map source_text l.sources) (line_feed ∷ []) rest)

-- the sources of a line, read from an empty list on or from any other
pub line_sources : (old : List Source) (l : Listed) (bytes rest : List ℕ) → FitsLine l → bytes ≡ flat_map source_text l.sources ++ line_feed ∷ rest → AddsSources old (old ++ l.sources) bytes rest l.sources
line_sources old l bytes rest fits is = record { added = refl; fits = fits.1; spelled = is }

pub line_same : (event : ℕ) (l : Listed) (sources : List Source) → event ≡ l.event → sources ≡ l.sources → record { event = event; sources = sources } ≡ l
line_same event l sources p q = ap₂ (λ e ss. record { event = e; sources = ss }) p q

pub nothing_left : (bytes : List ℕ) → length bytes ≡ 0 → bytes ≡ []
nothing_left [] none = refl
nothing_left (b ∷ bytes) none = absurd (omega (arith, none))

-- lines were read, and whatever the bytes spell begins with them
pub record HasLines (i count : ℕ) (bytes rest : List ℕ) (listed : List Listed) (least : ℕ) : Type 0 where
  pub read : length listed ≡ i
  pub fit : AllByRecursion FitsLine listed
  pub rises : Rises 0 (2 ^ 32) (events listed)
  pub least_is : least ≡ above_all 0 (events listed)
  pub spelled : bytes ≡ flat_map line_text listed ++ rest
  pub ahead : (ls : List Listed) → AreLines count bytes ls → (later : List Listed) × ((ls ≡ listed ++ later) × (rest ≡ flat_map line_text later))

pub begins_lines : (count : ℕ) (bytes : List ℕ) (listed : List Listed) → listed ≡ [] → HasLines 0 count bytes bytes listed 0
begins_lines count bytes listed none = subst (λ ls. HasLines 0 count bytes bytes ls 0) (sym none) (record {
  read = refl;
  fit = tt;
  rises = tt;
  least_is = refl;
  spelled = refl;
  ahead = λ ls are. (ls, (refl, are.spelled));
})

pub fit_push : (a : List Listed) (l : Listed) → AllByRecursion FitsLine a → FitsLine l → AllByRecursion FitsLine (a ++ l ∷ [])
fit_push [] l all one = (one, tt)
fit_push (k ∷ a) l all one = (all.0, fit_push a l all.1 one)

fit_later : (a b : List Listed) → AllByRecursion FitsLine (a ++ b) → AllByRecursion FitsLine b
fit_later [] b all = all
fit_later (k ∷ a) b all = fit_later a b all.1

events_push : (a : List Listed) (l : Listed) → events (a ++ l ∷ []) ≡ events a ++ l.event ∷ []
events_push a l = map-append (λ (k : Listed). k.event) a (l ∷ [])

events_more : (a : List Listed) (l : Listed) (b : List Listed) → events (a ++ (l ∷ b)) ≡ events a ++ (l.event ∷ events b)
events_more a l b = map-append (λ (k : Listed). k.event) a (l ∷ b)

module _ (i count : ℕ) (bytes rest : List ℕ) (listed : List Listed) (least : ℕ) (h : HasLines i count bytes rest listed least) where
  -- what the next line is, if the bytes are lines
  pub record IsNext (ls : List Listed) : Type 0 where
    pub line : Listed
    pub later : List Listed
    pub is : ls ≡ listed ++ (line ∷ later)
    pub adds : AddsLine listed (listed ++ line ∷ []) least rest (flat_map line_text later) line

  pub next_line : (ls : List Listed) → i < count → AreLines count bytes ls → IsNext ls
  next_line ls lt are = go (h.ahead ls are)
    where
      go : (later : List Listed) × ((ls ≡ listed ++ later) × (rest ≡ flat_map line_text later)) → IsNext ls
      go ([], is) = absurd (omega (arith, lt, are.all, ap length (is.0 ∙ append-nil listed), h.read))
      go (l ∷ later, is) = record {
        line = l;
        later = later;
        is = is.0;
        adds = record {
          added = refl;
          fits = (fit_later listed (l ∷ later) (subst (AllByRecursion FitsLine) is.0 are.fit)).0;
          above = subst (λ k. k ≤ l.event) (sym h.least_is) (above_next 0 (2 ^ 32) (events listed) l.event (events later) (subst (Rises 0 (2 ^ 32)) (ap events is.0 ∙ events_more listed l later) are.rises));
          spelled = is.1;
        };
      }

  pub one_line : (l : Listed) (event : ℕ) (left : List ℕ) (new : List Listed) → i < count → event ≡ l.event → AddsLine listed new least rest left l
      → ((k : Listed) (behind : List ℕ) → AddsLine listed (listed ++ k ∷ []) least rest behind k → (event ≡ k.event) × (left ≡ behind) × (new ≡ listed ++ k ∷ []))
      → HasLines (i + 1) count bytes left new (event + 1)
  one_line l event left new lt is adds only = record {
    read = ap length adds.added ∙ length-append listed (l ∷ []) ∙ ap (λ n. n + 1) h.read;
    fit = subst (AllByRecursion FitsLine) (sym adds.added) (fit_push listed l h.fit adds.fits);
    rises = subst (Rises 0 (2 ^ 32)) (sym (ap events adds.added ∙ events_push listed l)) (rises_push 0 (2 ^ 32) (events listed) l.event h.rises (subst (λ k. k ≤ l.event) h.least_is adds.above) adds.fits.0);
    least_is = (let more : event + 1 ≡ suc l.event = omega (arith, is) in more) ∙ sym (ap (above_all 0) (ap events adds.added ∙ events_push listed l) ∙ above_push 0 (events listed) l.event);
    spelled = h.spelled ∙ ap (λ t. flat_map line_text listed ++ t) adds.spelled ∙ sym (append_assoc (flat_map line_text listed) (line_text l) left)
        ∙ ap (λ t. t ++ left) (ap (λ t. flat_map line_text listed ++ t) (sym (append-nil (line_text l))) ∙ sym (flat_map-append line_text listed (l ∷ [])) ∙ ap (flat_map line_text) (sym adds.added));
    ahead = λ ls are.
        let next = next_line ls lt are in
        let same = only next.line (flat_map line_text next.later) next.adds in
        (next.later, (next.is ∙ sym (append_assoc listed (next.line ∷ []) next.later) ∙ ap (λ t. t ++ next.later) (sym same.2), same.1));
  }

  pub ends_lines : rest ≡ [] → i ≡ count → AreLines count bytes listed
  ends_lines none all = record {
    all = h.read ∙ all;
    fit = h.fit;
    rises = h.rises;
    spelled = h.spelled ∙ ap (λ t. flat_map line_text listed ++ t) none ∙ append-nil (flat_map line_text listed);
  }

  pub only_lines : (ls : List Listed) → i ≡ count → AreLines count bytes ls → (ls ≡ listed) × (rest ≡ [])
  only_lines ls all are = go (h.ahead ls are)
    where
      go : (later : List Listed) × ((ls ≡ listed ++ later) × (rest ≡ flat_map line_text later)) → (ls ≡ listed) × (rest ≡ [])
      go ([], is) = (is.0 ∙ append-nil listed, is.1)
      go (l ∷ later, is) = absurd (omega (arith, all, are.all, ap length is.0, length-append listed (l ∷ later), h.read))
