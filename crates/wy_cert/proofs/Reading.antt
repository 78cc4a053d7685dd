-- Parts of a certificate, one behind another: what was read, and that nothing else could be.
use Rattle.std.proofs.Common.{◌≡◌, ◌⊎◌, inl, inr, ◌+◌, ◌<◌, ◌≤◌, ◌^◌, ℕ, zero, suc, Bool, true, false, cond, List, [], ◌∷◌, ◌++◌, length, map, Option, Some, None, Result, refl, sym, ap, ap₂, ◌∙◌, subst, ⊎_elim, append_assoc, append-nil, eq-eqb, ne_eqb, eqb-true, arith}
use Rattle.std.specs.Prelude.{if◌then◌else◌, nat_eq, codes, option_map, is_some}
use Rattle.std.specs.Borrow.{Bor}
use Rattle.std.specs.Option.{ok_or}
use Rattle.std.proofs.lemmas.Bool.{false≢true}
use Rattle.std.specs.Fmt.{decimal}
use Rattle.std.specs.List.{AllByRecursion, flat_map}
use Rattle.std.proofs.lemmas.List.Concat.{flat_map-append}
use Rattle.std.proofs.lemmas.Option.{none-some, same_Some}
use Rattle.wy_why.specs.declared.source.Role.{Role}
use Rattle.wy_why.specs.declared.source.Role.TheVariants as role
use Rattle.wy_why.specs.declared.source.Source.{Source}
use Rattle.wy_why.specs.Answer.{Rises}
use Rattle.wy_cert.specs.declared.certificate.Listed.{Listed}
use Rattle.wy_cert.specs.Spelling.{FitsLine, FitsSource, events, head_text, letter_of, line_feed, line_text, source_text, space}
use Rattle.wy_cert.specs.declared.error.ReadError.{ReadError}
use Rattle.wy_cert.specs.declared.error.ReadError.TheVariants.{NotRead}
use Rattle.wy_cert.specs.Reading.{AddsSources, EndsNumber, IsReadAs, above_all, after_byte}

-- ---- a byte at the front

pub after_some : (b : ℕ) (bytes rest : List ℕ) → after_byte b bytes ≡ Some rest → bytes ≡ b ∷ rest
after_some b [] rest is = absurd (none-some rest is)
after_some b (c ∷ bytes) rest is = go (nat_eq c b) refl is
  where
    go : (t : Bool) → nat_eq c b ≡ t → (if t then Some bytes else None) ≡ Some rest → c ∷ bytes ≡ b ∷ rest
    go true same at = ap₂ (λ x l. x ∷ l) (eqb-true c b same) (same_Some bytes rest at)
    go false other at = absurd (none-some rest at)

pub after_here : (b : ℕ) (rest : List ℕ) → after_byte b (b ∷ rest) ≡ Some rest
after_here b rest = ap (λ t. if t then Some rest else None) (eq-eqb b b refl)

pub after_other : (b c : ℕ) (rest : List ℕ) → (c ≡ b → ⊥) → after_byte b (c ∷ rest) ≡ None
after_other b c rest apart = ap (λ t. if t then Some rest else None) (ne_eqb c b apart)

pub after_in : (b : ℕ) (bytes rest : List ℕ) → bytes ≡ b ∷ rest → after_byte b bytes ≡ Some rest
after_in b bytes rest is = ap (after_byte b) is ∙ after_here b rest

pub space_no_end : (a b : List ℕ) → space ∷ a ≡ line_feed ∷ b → ⊥
space_no_end a b e = cc

pub behind_some : (b : ℕ) (bytes : List ℕ) (o : Option (Bor (List ℕ))) → option_map (λ (rest : Bor (List ℕ)). rest.now) o ≡ after_byte b bytes → is_some o ≡ true → (tail : List ℕ) × (bytes ≡ b ∷ tail)
behind_some b bytes None is some = absurd (false≢true some)
behind_some b bytes (Some rest) is some = (rest.now, after_some b bytes rest.now (sym is))

pub behind_none : (b : ℕ) (bytes : List ℕ) (o : Option (Bor (List ℕ))) → option_map (λ (rest : Bor (List ℕ)). rest.now) o ≡ after_byte b bytes → is_some o ≡ false → after_byte b bytes ≡ None
behind_none b bytes None is none = sym is
behind_none b bytes (Some rest) is none = absurd (false≢true (sym none))

-- what stands behind the end of a line is handed on
pub rest_read : (o : Option (Bor (List ℕ))) (r : Result (Bor (List ℕ)) ReadError) (rest : List ℕ) (now new : List Source) → option_map (λ (x : Bor (List ℕ)). x.now) o ≡ Some rest → r ≡ ok_or o NotRead → now ≡ new
    → IsReadAs r (λ (behind : Bor (List ℕ)). (behind.now ≡ rest) × (now ≡ new))
rest_read None r rest now new is gives same = absurd (none-some rest is)
rest_read (Some x) r rest now new is gives same = subst (λ q. IsReadAs q (λ (behind : Bor (List ℕ)). (behind.now ≡ rest) × (now ≡ new))) (sym gives) (same_Some x.now rest is, same)

pub four_same : {A B C D : Type 0} (a a' : A) (b b' : B) (c c' : C) (d d' : D) → a ≡ a' → b ≡ b' → c ≡ c' → d ≡ d' → ◌≡◌ {A = Option (A × B × C × D)} (Some (a, b, c, d)) (Some (a', b', c', d'))
four_same a a' b b' c c' d d' p q r s = cc

tail_same : (a b : ℕ) (x y : List ℕ) → a ∷ x ≡ b ∷ y → x ≡ y
tail_same a b x y e = cc

head_same : (a b : ℕ) (x y : List ℕ) → a ∷ x ≡ b ∷ y → a ≡ b
head_same a b x y e = cc

-- two fronts of one length
pub same_front : (a b x y : List ℕ) → length a ≡ length b → a ++ x ≡ b ++ y → (a ≡ b) × (x ≡ y)
same_front [] [] x y long is = (refl, is)
same_front [] (c ∷ b) x y long is = absurd (omega (arith, long))
same_front (c ∷ a) [] x y long is = absurd (omega (arith, long))
same_front (c ∷ a) (d ∷ b) x y long is =
    let rest = same_front a b x y (omega (arith, long)) (tail_same c d (a ++ x) (b ++ y) is) in
    (ap₂ (λ e l. e ∷ l) (head_same c d (a ++ x) (b ++ y) is) rest.0, rest.1)

-- ---- the first line

-- its parts, one behind another
pub head_parts : (hex : List ℕ) (event count : ℕ) (rest : List ℕ) → head_text hex event count ++ rest ≡ codes "whycert 1 " ++ (hex ++ (space ∷ (decimal event ++ (space ∷ (decimal count ++ (line_feed ∷ rest))))))
head_parts hex event count rest =
    append_assoc (codes "whycert 1 ") (hex ++ (space ∷ (decimal event ++ (space ∷ (decimal count ++ line_feed ∷ []))))) rest
    ∙ ap (λ l. codes "whycert 1 " ++ l) (append_assoc hex (space ∷ (decimal event ++ (space ∷ (decimal count ++ line_feed ∷ [])))) rest)
    ∙ ap (λ l. codes "whycert 1 " ++ (hex ++ (space ∷ l))) (append_assoc (decimal event) (space ∷ (decimal count ++ line_feed ∷ [])) rest)
    ∙ ap (λ l. codes "whycert 1 " ++ (hex ++ (space ∷ (decimal event ++ (space ∷ l))))) (append_assoc (decimal count) (line_feed ∷ []) rest)

pub head_joined : (bytes a hex b : List ℕ) (event : ℕ) (d : List ℕ) (count : ℕ) (e rest : List ℕ) → bytes ≡ codes "whycert 1 " ++ a → a ≡ hex ++ b → b ≡ space ∷ (decimal event ++ d)
    → d ≡ space ∷ (decimal count ++ e) → e ≡ line_feed ∷ rest → bytes ≡ head_text hex event count ++ rest
head_joined bytes a hex b event d count e rest one two three four five =
    one ∙ ap (λ l. codes "whycert 1 " ++ l) (two ∙ ap (λ l. hex ++ l) (three ∙ ap (λ l. space ∷ (decimal event ++ l)) (four ∙ ap (λ l. space ∷ (decimal count ++ l)) five)))
    ∙ sym (head_parts hex event count rest)

-- ---- sources up to the end of their line

-- sources were read behind the old ones, and whatever the bytes spell begins with them
pub record IsWithin (old now : List Source) (bytes rest : List ℕ) : Type 0 where
  pub more : List Source
  pub added : now ≡ old ++ more
  pub fits : AllByRecursion FitsSource more
  pub spelled : bytes ≡ flat_map source_text more ++ rest
  pub ahead : (new all : List Source) (behind : List ℕ) → AddsSources old new bytes behind all
      → (later : List Source) × ((all ≡ more ++ later) × (rest ≡ flat_map source_text later ++ line_feed ∷ behind))

pub begins_within : (old : List Source) (bytes : List ℕ) → IsWithin old old bytes bytes
begins_within old bytes = record {
  more = [];
  added = sym (append-nil old);
  fits = tt;
  spelled = refl;
  ahead = λ new all behind adds. (all, (refl, adds.spelled));
}

-- a number is followed by no digit there
pub source_ends : (later : List Source) (behind : List ℕ) → EndsNumber (flat_map source_text later ++ line_feed ∷ behind)
source_ends [] behind = refl
source_ends (s ∷ later) behind = refl

fits_later : (a b : List Source) → AllByRecursion FitsSource (a ++ b) → AllByRecursion FitsSource b
fits_later [] b all = all
fits_later (s ∷ a) b all = fits_later a b all.1

fits_push : (a : List Source) (s : Source) → AllByRecursion FitsSource a → FitsSource s → AllByRecursion FitsSource (a ++ s ∷ [])
fits_push [] s all one = (one, tt)
fits_push (t ∷ a) s all one = (all.0, fits_push a s all.1 one)

pub parts_of : {X Y : Type 0} (a b : X) (x y : Y) → ◌≡◌ {A = Option (X × Y)} (Some (a, x)) (Some (b, y)) → (a ≡ b) × (x ≡ y)
parts_of a b x y e = let p = same_Some (a, x) (b, y) e in (ap (λ q. q.0) p, ap (λ q. q.1) p)

-- the sources that are ahead, where the first is read
module _ (old now : List Source) (bytes rest : List ℕ) (w : IsWithin old now bytes rest) where
  pub next_is : (new all : List Source) (behind : List ℕ) → AddsSources old new bytes behind all → (tail : List ℕ) → rest ≡ space ∷ tail
      → (s : Source) × (later : List Source) × ((all ≡ w.more ++ (s ∷ later)) × FitsSource s × (rest ≡ source_text s ++ (flat_map source_text later ++ line_feed ∷ behind)))
  next_is new all behind adds tail here = go (w.ahead new all behind adds)
    where
      go : (later : List Source) × ((all ≡ w.more ++ later) × (rest ≡ flat_map source_text later ++ line_feed ∷ behind))
          → (s : Source) × (later : List Source) × ((all ≡ w.more ++ (s ∷ later)) × FitsSource s × (rest ≡ source_text s ++ (flat_map source_text later ++ line_feed ∷ behind)))
      go ([], is) = absurd (space_no_end tail behind (sym here ∙ is.1))
      go (s ∷ later, is) =
          let fits = fits_later w.more (s ∷ later) (subst (AllByRecursion FitsSource) is.0 adds.fits) in
          (s, later, (is.0, fits.0, is.1 ∙ append_assoc (source_text s) (flat_map source_text later) (line_feed ∷ behind)))

  -- one source more
  pub one_within : (s : Source) (left : List ℕ) (new : List Source) → FitsSource s → rest ≡ source_text s ++ left → new ≡ now ++ s ∷ []
      → ((t : Source) (behind : List ℕ) → FitsSource t → EndsNumber behind → rest ≡ source_text t ++ behind → ◌≡◌ {A = Option (Source × List ℕ)} (Some (s, left)) (Some (t, behind))) → IsWithin old new bytes left
  one_within s left new fits here is only = record {
    more = w.more ++ s ∷ [];
    added = is ∙ ap (λ l. l ++ s ∷ []) w.added ∙ append_assoc old w.more (s ∷ []);
    fits = fits_push w.more s w.fits fits;
    spelled = w.spelled ∙ ap (λ l. flat_map source_text w.more ++ l) here ∙ sym (append_assoc (flat_map source_text w.more) (source_text s) left)
        ∙ ap (λ l. l ++ left) (ap (λ l. flat_map source_text w.more ++ l) (sym (append-nil (source_text s))) ∙ sym (flat_map-append source_text w.more (s ∷ [])));
    ahead = λ all_new all behind adds.
        let next = next_is all_new all behind adds (letter_of s.role ∷ 58 ∷ (decimal s.event ++ left)) here in
        let same = parts_of s next.0 left (flat_map source_text next.1 ++ line_feed ∷ behind) (only next.0 (flat_map source_text next.1 ++ line_feed ∷ behind) next.2.1 (source_ends next.1 behind) next.2.2) in
        (next.1, (next.2.0 ∙ ap (λ t. w.more ++ (t ∷ next.1)) (sym same.0) ∙ sym (append_assoc w.more (s ∷ []) next.1), same.1));
  }

  -- what is ahead at the end of the line
  pub ends_within : (new all : List Source) (behind : List ℕ) → AddsSources old new bytes behind all → after_byte space rest ≡ None
      → (new ≡ now) × (rest ≡ line_feed ∷ behind)
  ends_within new all behind adds none = go (w.ahead new all behind adds)
    where
      go : (later : List Source) × ((all ≡ w.more ++ later) × (rest ≡ flat_map source_text later ++ line_feed ∷ behind)) → (new ≡ now) × (rest ≡ line_feed ∷ behind)
      go ([], is) = (adds.added ∙ ap (λ l. old ++ l) (is.0 ∙ append-nil w.more) ∙ sym w.added, is.1)
      go (s ∷ later, is) = absurd (none-some _ (sym none ∙ after_in space rest ((letter_of s.role ∷ 58 ∷ decimal s.event) ++ (flat_map source_text later ++ line_feed ∷ behind)) (is.1 ∙ append_assoc (source_text s) (flat_map source_text later) (line_feed ∷ behind))))

  pub found_within : (behind : List ℕ) → rest ≡ line_feed ∷ behind → AddsSources old now bytes behind w.more
  found_within behind is = record { added = w.added; fits = w.fits; spelled = w.spelled ∙ ap (λ l. flat_map source_text w.more ++ l) is }

-- ---- lines that rise

pub rises_push : (low high : ℕ) (ns : List ℕ) (n : ℕ) → Rises low high ns → above_all low ns ≤ n → n < high → Rises low high (ns ++ n ∷ [])
rises_push low high [] n up le lt = (le, lt, tt)
rises_push low high (m ∷ ns) n up le lt = (up.0, up.1, rises_push (suc m) high ns n up.2 le lt)

pub above_push : (low : ℕ) (ns : List ℕ) (n : ℕ) → above_all low (ns ++ n ∷ []) ≡ suc n
above_push low [] n = refl
above_push low (m ∷ ns) n = above_push (suc m) ns n

pub above_next : (low high : ℕ) (ns : List ℕ) (n : ℕ) (more : List ℕ) → Rises low high (ns ++ (n ∷ more)) → above_all low ns ≤ n
above_next low high [] n more up = up.0
above_next low high (m ∷ ns) n more up = above_next (suc m) high ns n more up.2
