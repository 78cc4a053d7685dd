-- The lines of a certificate as they are made.
use Rattle.std.proofs.Common.{◌≡◌, ◌+◌, ◌/◌, ◌%◌, ◌<◌, ◌≤◌, ◌^◌, ℕ, zero, suc, List, [], ◌∷◌, ◌++◌, length, map, get_or, take, Bool, true, Some, refl, sym, ap, ap₂, ◌∙◌, subst, append_assoc, append-nil, arith}
use Rattle.std.specs.Prelude.{Contains, ◌↔◌}
use Rattle.std.specs.List.{AllByRecursion, flat_map, list_all}
use Rattle.std.specs.List.Sorted.{IsStrictlySortedBy}
use Rattle.std.proofs.lemmas.Bool.{agree_below_at, and_from}
use Rattle.std.proofs.lemmas.List.{length-map, map-append, take_more}
use Rattle.std.proofs.lemmas.List.Concat.{flat_map-append}
use Rattle.hex.specs.Hex.{encode_lower, encode_with, lower_digits}
use Rattle.wy_event.specs.Record.{Recorded}
use Rattle.wy_event.specs.Sources as records
use Rattle.wy_event.specs.Sources.{Owners, closure, sources}
use Rattle.wy_view.specs.View.{Told}
use Rattle.wy_index.specs.declared.index.Index.{Index}
use Rattle.wy_index.specs.Index.{owners_of}
use Rattle.wy_why.specs.declared.source.Source.{Source}
use Rattle.wy_why.specs.Answer.{Rises, up_to}
use Rattle.wy_why.specs.Sources.{source_cmp, source_of}
use Rattle.wy_cert.specs.declared.certificate.Certificate.{Certificate}
use Rattle.wy_cert.specs.declared.certificate.Listed.{Listed}
use Rattle.wy_cert.specs.Spelling.{FitsLine, FitsSource, IsSealText, IsWritten, events, head_text, is_hex, line_text, spelled}
use Rattle.wy_cert.specs.Goodness.{AreSources, Certifies}
use Rattle.wy_cert.specs.Made.{AreSaid, IsMade}
use Rattle.wy_cert.proofs.Goodness.{all_sound, is_last}
use Rattle.wy_cert.proofs.Lines.{fit_push}
use Rattle.wy_cert.proofs.Members.{few_rise}

pub begins_made : (index : Index) (start : Told) (first : List ℕ) (all : List ℕ) → IsMade index start first first all 0
begins_made index start first all = record {
  lines = [];
  listed = refl;
  fit = tt;
  text = sym (append-nil first);
  said = λ rs is. tt;
}

said_push : (owner : Owners) (rs : List Recorded) (a : List Listed) (l : Listed) → AreSaid owner rs a → AreSources owner rs l.event l.sources → ((s : Source) → Contains l.sources s → s.event < l.event) → AreSaid owner rs (a ++ l ∷ [])
said_push owner rs [] l all are below = ((are, below), tt)
said_push owner rs (k ∷ a) l all are below = (all.0, said_push owner rs a l all.1 are below)

fits_below : (ss : List Source) (n : ℕ) → n < 2 ^ 32 → ((s : Source) → Contains ss s → s.event < n) → AllByRecursion FitsSource ss
fits_below [] n fits below = tt
fits_below (s ∷ ss) n fits below =
    let first = below s (0, omega arith, refl) in
    (omega (arith, first, fits), fits_below ss n fits (λ t has. below t (suc has.0, omega (arith, has.1), has.2)))

module _ (index : Index) (start : Told) (first out : List ℕ) (all : List ℕ) (n : ℕ) (made : IsMade index start first out all n) where
  pub one_made : (found : List Source) (new : List ℕ) (e : ℕ) → n < length all → e ≡ get_or all n 0 → e < 2 ^ 32 → new ≡ out ++ line_text (record { event = e; sources = found })
      → ((rs : List Recorded) → start.records ≡ Some rs → (s : records.Source) → Contains (map source_of found) s ↔ Contains (sources (owners_of index) rs e) s)
      → IsStrictlySortedBy source_cmp found → ((s : Source) → Contains found s → s.event < e) → IsMade index start first new all (n + 1)
  one_made found new e lt is fits put exact order below =
      let l : Listed = record { event = e; sources = found } in
      record {
        lines = made.lines ++ l ∷ [];
        listed = map-append (λ (k : Listed). k.event) made.lines (l ∷ []) ∙ ap₂ (λ a b. a ++ b ∷ []) made.listed is ∙ sym (take_more all n 0 lt);
        fit = fit_push made.lines l made.fit (fits, fits_below found e fits below);
        text = put ∙ ap (λ t. t ++ line_text l) made.text ∙ append_assoc first (flat_map line_text made.lines) (line_text l)
            ∙ ap (λ t. first ++ t) (ap (λ t. flat_map line_text made.lines ++ t) (sym (append-nil (line_text l))) ∙ sym (flat_map-append line_text made.lines (l ∷ [])));
        said = λ rs told. said_push (owners_of index) rs made.lines l (made.said rs told) (record { exact = exact rs told; in_order = order }) below;
      }

take_whole : (xs : List ℕ) (n : ℕ) → length xs ≤ n → take n xs ≡ xs
take_whole [] zero le = refl
take_whole [] (suc n) le = refl
take_whole (x ∷ xs) zero le = absurd (omega (arith, le))
take_whole (x ∷ xs) (suc n) le = ap (λ l. x ∷ l) (take_whole xs n (omega (arith, le)))

pub rises_up : (low high up : ℕ) (ns : List ℕ) → high ≤ up → Rises low high ns → Rises low up ns
rises_up low high up [] le r = tt
rises_up low high up (n ∷ ns) le r = (r.0, omega (arith, r.1, le), rises_up (suc n) high up ns le r.2)

pub whole_made : (index : Index) (start : Told) (first out : List ℕ) (all : List ℕ) (n : ℕ) → IsMade index start first out all n → length all ≤ n → IsMade index start first out all (length all)
whole_made index start first out all n made le = record {
  lines = made.lines;
  listed = made.listed ∙ take_whole all n le ∙ sym (take_whole all (length all) (omega arith));
  fit = made.fit;
  text = made.text;
  said = made.said;
}

-- all lines are there
pub all_made : (index : Index) (start : Told) (out : List ℕ) (all : List ℕ) (n : ℕ) (seal : List ℕ) (event : ℕ) (rs : List Recorded) → start.records ≡ Some rs
    → IsMade index start (head_text (encode_lower seal) event (length all)) out all n → length all ≤ n → all ≡ up_to event (closure (owners_of index) rs event) → Rises 0 (event + 1) all → event < length rs → length rs < 2 ^ 32
    → IsSealText (encode_lower seal) → Certifies (owners_of index) rs seal event out
all_made index start out all n seal event rs told made whole is up there few digits =
    let owner = owners_of index in
    let listed : events made.lines ≡ all = made.listed ∙ take_whole all n whole in
    let c : Certificate = record { hex = encode_lower seal; event = event; listed = made.lines } in
    let said = made.said rs told in
    let closed : events c.listed ≡ up_to event (closure owner rs event) = listed ∙ is in
    let rises : Rises 0 (event + 1) (events c.listed) = subst (Rises 0 (event + 1)) (sym listed) up in
    record {
      certificate = c;
      asked = refl;
      listed = closed;
      written = record {
        hex = digits;
        event = omega (arith, there, few);
        few = omega (arith, few_rise 0 (event + 1) (events c.listed) rises (omega arith), length-map made.lines (λ (k : Listed). k.event), there, few);
        lines = made.fit;
        rises = rises_up 0 (event + 1) (2 ^ 32) (events c.listed) (omega (arith, there, few)) rises;
      };
      good = record {
        of_trace = refl;
        there = there;
        last = is_last owner rs c there closed said;
        sound = all_sound owner rs c there closed said;
      };
      spelled = made.text ∙ ap (λ k. head_text (encode_lower seal) event k ++ flat_map line_text made.lines) (sym (sym (length-map made.lines (λ (k : Listed). k.event)) ∙ ap length listed));
    }

-- ---- the digits of a seal

-- each byte has two
pub hex_lower : (bytes : List ℕ) → ((i : ℕ) → get_or bytes i 0 < 256) → list_all is_hex (encode_lower bytes) ≡ true
unfolding encode_with
hex_lower [] fits = refl
hex_lower (b ∷ bytes) fits =
    let byte : b < 256 = fits 0 in
    and_from _ _ (digit_lower (b / 16) (omega (arith, byte))) (and_from _ _ (digit_lower (b % 16) (omega arith)) (hex_lower bytes (λ i. fits (suc i))))
  where
    digit_lower : (d : ℕ) → d < 16 → is_hex (get_or lower_digits d 0) ≡ true
    digit_lower d lt = agree_below_at (λ k. is_hex (get_or lower_digits k 0)) (λ k. true) 16 d refl lt
