-- What is marked stays marked, with an event more and with a block more.
use Rattle.std.proofs.Common.{◌≡◌, ℕ, zero, suc, ◌+◌, ◌-◌, ◌*◌, ◌<◌, ◌≤◌, List, [], ◌∷◌, ◌++◌, length, length-append, take, drop, Some, refl, sym, ap, ◌∙◌, subst, arith, ⊎_elim, Result, Ok, Err, OnOk, append_assoc, add-one, take-suc, drop-cons}
use Rattle.std.specs.Prelude.{◌%◌, Vec, slice_get, slice_index}
use Rattle.std.specs.declared.alloc.Global.{Global}
use Rattle.std.proofs.lemmas.Bool.{cases_lt}
use Rattle.std.proofs.lemmas.List.{drop-append-le, drop-drop, get_or_append_left, length-drop, take-append-le}
use Rattle.std.proofs.Math.Seq.{get_or-append_seam}
use Rattle.sha2.specs.Sha256.{sha256}
use Rattle.wy_page.specs.Blocks.{block_length}
use Rattle.wy_page.specs.Places.{AreAllMarked, AreMarked, RiseTo, first_of, part}
use Rattle.wy_page.specs.declared.marks.Marks.{Marks}

-- ---- lists with one more

before_last : (xs : List ℕ) (x : ℕ) (k : ℕ) → k < length xs → slice_index (xs ++ x ∷ []) k ≡ slice_index xs k
before_last xs x k within = get_or_append_left xs (x ∷ []) 0 k within

at_last : (xs : List ℕ) (x : ℕ) (k : ℕ) → k ≡ length xs → slice_index (xs ++ x ∷ []) k ≡ x
at_last xs x k is = ap (slice_index (xs ++ x ∷ [])) is ∙ get_or-append_seam xs x [] 0

got_before : {X : Type 0} (xs : List X) (x : X) (k : ℕ) → k < length xs → slice_get (xs ++ x ∷ []) k ≡ slice_get xs k
got_before [] x k within = absurd (omega (arith, within))
got_before (y ∷ xs) x zero within = refl
got_before (y ∷ xs) x (suc k) within = got_before xs x k (omega (arith, within))

got_last : {X : Type 0} (xs : List X) (x : X) (k : ℕ) → k ≡ length xs → slice_get (xs ++ x ∷ []) k ≡ Some x
got_last [] x zero is = refl
got_last [] x (suc k) is = absurd (omega (arith, is))
got_last (y ∷ xs) x zero is = absurd (omega (arith, is))
got_last (y ∷ xs) x (suc k) is = got_last xs x k (omega (arith, is))

one_more : {X : Type 0} (xs : List X) (x : X) → length (xs ++ x ∷ []) ≡ length xs + 1
one_more xs x = length-append xs (x ∷ [])

-- the part of the bytes from a place on, counted from there
pub part_behind : (base from to : ℕ) (all : List ℕ) → base ≤ from → from ≤ to → part (from - base) (to - base) (drop base all) ≡ part from to all
part_behind base from to all a b =
    let first : from ≡ base + (from - base) = omega (arith, a) in
    let size : (to - base) - (from - base) ≡ to - from = omega (arith, a, b) in
    ap (λ l. take ((to - base) - (from - base)) l) (drop-drop (from - base) base all ∙ ap (λ n. drop n all) (sym first)) ∙ ap (λ n. take n (drop from all)) size

-- ---- what is marked, by its parts; the last block may have all of its events

pub record Noted (starts : List ℕ) (digests : List (List ℕ)) (from count end : ℕ) (places bytes : List ℕ) : Type 0 where
  pub counted : length places ≡ count + 1
  pub size : length starts ≡ length digests
  pub whole : block_length * length digests ≤ count
  pub from_is : slice_index places (block_length * length digests) ≡ from
  pub end_is : slice_index places count ≡ end
  pub starts_are : (b : ℕ) → b < length digests → slice_index starts b ≡ slice_index places (block_length * b)
  pub digests_are : (b : ℕ) → b < length digests → slice_get digests b ≡ Some (sha256 (part (slice_index places (block_length * b)) (slice_index places (block_length * (b + 1))) bytes))

pub noted : (m : Marks) (places bytes : List ℕ) → AreMarked m places bytes → Noted m.starts.items m.digests.items m.from m.count m.end places bytes
noted m places bytes a = record { counted = a.counted; size = a.size; whole = a.whole; from_is = a.from; end_is = a.end; starts_are = a.starts; digests_are = a.digests }

pub marked : (m : Marks) (places bytes : List ℕ) → Noted m.starts.items m.digests.items m.from m.count m.end places bytes → m.count < block_length * length m.digests.items + block_length → AreMarked m places bytes
marked m places bytes n others = record { counted = n.counted; size = n.size; whole = n.whole; others = others; from = n.from_is; end = n.end_is; starts = n.starts_are; digests = n.digests_are }

module _ (starts : List ℕ) (digests : List (List ℕ)) (from count end : ℕ) (places bytes : List ℕ) (n : Noted starts digests from count end places bytes) where
  -- an event more
  pub noted_more : (next : ℕ) → Noted starts digests from (count + 1) next (places ++ next ∷ []) bytes
  noted_more next =
      let at : (k : ℕ) → k ≤ count → slice_index (places ++ next ∷ []) k ≡ slice_index places k = λ k up_to. before_last places next k (omega (arith, n.counted, up_to)) in
      record {
        counted = omega (arith, one_more places next, n.counted);
        size = n.size;
        whole = omega (arith, n.whole);
        from_is = at (block_length * length digests) n.whole ∙ n.from_is;
        end_is = at_last places next (count + 1) (sym n.counted);
        starts_are = λ b within. n.starts_are b within ∙ sym (at (block_length * b) (omega (arith, within, n.whole)));
        digests_are = λ b within. n.digests_are b within ∙ (λ i. Some (sha256 (part (sym (at (block_length * b) (omega (arith, within, n.whole))) i) (sym (at (block_length * (b + 1)) (omega (arith, within, n.whole))) i) bytes)));
      }

  -- with the digest of the events behind the last block
  abbrev pub with_block : List (List ℕ)
  with_block = digests ++ sha256 (part from end bytes) ∷ []

  -- a block more, which has all of its events
  pub noted_block : count ≡ block_length * length digests + block_length → Noted (starts ++ from ∷ []) with_block end count end places bytes
  noted_block full =
      let many : length with_block ≡ length digests + 1 = one_more digests (sha256 (part from end bytes)) in
      let last : slice_index places (block_length * (length digests + 1)) ≡ end = ap (slice_index places) (omega (arith, full)) ∙ n.end_is in
      record {
        counted = n.counted;
        size = omega (arith, one_more starts from, many, n.size);
        whole = omega (arith, many, full);
        from_is = ap (λ k. slice_index places (block_length * k)) many ∙ last;
        end_is = n.end_is;
        starts_are = λ b within. ⊎_elim (λ lt. before_last starts from b (omega (arith, lt, n.size)) ∙ n.starts_are b lt) (λ le.
            let is : b ≡ length digests = omega (arith, le, within, many) in
            at_last starts from b (is ∙ sym n.size) ∙ sym n.from_is ∙ ap (λ k. slice_index places (block_length * k)) (sym is)) (cases_lt b (length digests));
        digests_are = λ b within. ⊎_elim (λ lt. got_before digests (sha256 (part from end bytes)) b lt ∙ n.digests_are b lt) (λ le.
            let is : b ≡ length digests = omega (arith, le, within, many) in
            let first : from ≡ slice_index places (block_length * b) = sym n.from_is ∙ ap (λ k. slice_index places (block_length * k)) (sym is) in
            let behind : end ≡ slice_index places (block_length * (b + 1)) = sym last ∙ ap (λ k. slice_index places (block_length * (k + 1))) (sym is) in
            got_last digests (sha256 (part from end bytes)) b is ∙ (λ i. Some (sha256 (part (first i) (behind i) bytes)))) (cases_lt b (length digests));
      }

-- bytes more, where the whole blocks end before them
part_more : (from to : ℕ) (bytes more : List ℕ) → from ≤ to → to ≤ length bytes → part from to (bytes ++ more) ≡ part from to bytes
part_more from to bytes more up within = ap (take (to - from)) (drop-append-le from bytes more (omega (arith, up, within))) ∙ take-append-le (to - from) (drop from bytes) more (omega (arith, length-drop from bytes, up, within))

pub marked_bytes : (m : Marks) (places bytes more : List ℕ) → ((b : ℕ) → b < length m.digests.items → (slice_index places (block_length * b) ≤ slice_index places (block_length * (b + 1))) × (slice_index places (block_length * (b + 1)) ≤ length bytes)) → AreMarked m places bytes → AreMarked m places (bytes ++ more)
marked_bytes m places bytes more lie a = record {
  counted = a.counted;
  size = a.size;
  whole = a.whole;
  others = a.others;
  from = a.from;
  end = a.end;
  starts = a.starts;
  digests = λ b within. a.digests b within ∙ ap (λ l. Some (sha256 l)) (sym (part_more (slice_index places (block_length * b)) (slice_index places (block_length * (b + 1))) bytes more (lie b within).0 (lie b within).1));
}

-- ---- all events

module _ (starts : List ℕ) (digests : List (List ℕ)) (from count end : ℕ) (places bytes : List ℕ) (n : Noted starts digests from count end places bytes) where
  begins : (b : ℕ) → b ≤ length digests → slice_index (starts ++ from ∷ []) b ≡ slice_index places (block_length * b)
  begins b up_to = ⊎_elim (λ lt. before_last starts from b (omega (arith, lt, n.size)) ∙ n.starts_are b lt) (λ le.
      let is : b ≡ length digests = omega (arith, le, up_to) in
      at_last starts from b (is ∙ sym n.size) ∙ sym n.from_is ∙ ap (λ k. slice_index places (block_length * k)) (sym is)) (cases_lt b (length digests))

  first_is : (b : ℕ) → block_length * b ≤ count → first_of count b ≡ block_length * b
  first_is b up_to = omega (arith, up_to)

  -- the last block has all of its events, or there is none
  pub all_whole : count ≡ block_length * length digests → AreAllMarked (starts ++ from ∷ []) digests count places bytes
  all_whole full = record {
    counted = n.counted;
    size = omega (arith, one_more starts from, n.size);
    enough = omega (arith, full);
    needed = omega (arith, full);
    starts_are = λ b up_to. begins b up_to ∙ ap (slice_index places) (sym (first_is b (omega (arith, up_to, full))));
    digests_are = λ b within. n.digests_are b within ∙ (λ i. Some (sha256 (part (sym (begins b (omega (arith, within))) i) (sym (begins (b + 1) (omega (arith, within))) i) bytes)));
  }

  -- it has fewer
  pub all_others : block_length * length digests < count → count < block_length * length digests + block_length
      → AreAllMarked ((starts ++ from ∷ []) ++ end ∷ []) (with_block starts digests from count end places bytes n) count places bytes
  all_others some few =
      let all = starts ++ from ∷ [] in
      let blocks = with_block starts digests from count end places bytes n in
      let long : length all ≡ length digests + 1 = omega (arith, one_more starts from, n.size) in
      let many : length blocks ≡ length digests + 1 = one_more digests (sha256 (part from end bytes)) in
      let at : (b : ℕ) → b ≤ length digests → slice_index (all ++ end ∷ []) b ≡ slice_index places (block_length * b) = λ b up_to. before_last all end b (omega (arith, up_to, long)) ∙ begins b up_to in
      let last : slice_index (all ++ end ∷ []) (length digests + 1) ≡ end = at_last all end (length digests + 1) (sym long) in
      record {
        counted = n.counted;
        size = omega (arith, one_more all end, long, many);
        enough = omega (arith, many, few);
        needed = omega (arith, many, some);
        starts_are = λ b up_to. ⊎_elim (λ lt. at b (omega (arith, lt)) ∙ ap (slice_index places) (sym (first_is b (omega (arith, lt, some))))) (λ le.
            let is : b ≡ length digests + 1 = omega (arith, le, up_to, many) in
            ap (slice_index (all ++ end ∷ [])) is ∙ last ∙ sym n.end_is ∙ ap (slice_index places) (omega (arith, is, few))) (cases_lt b (length digests + 1));
        digests_are = λ b within. ⊎_elim (λ lt. got_before digests (sha256 (part from end bytes)) b lt ∙ n.digests_are b lt ∙ (λ i. Some (sha256 (part (sym (at b (omega (arith, lt))) i) (sym (at (b + 1) (omega (arith, lt))) i) bytes)))) (λ le.
            let is : b ≡ length digests = omega (arith, le, within, many) in
            let first : from ≡ slice_index (all ++ end ∷ []) b = sym n.from_is ∙ ap (λ k. slice_index places (block_length * k)) (sym is) ∙ sym (at b (omega (arith, is))) in
            let behind : end ≡ slice_index (all ++ end ∷ []) (b + 1) = sym last ∙ ap (λ k. slice_index (all ++ end ∷ []) (k + 1)) (sym is) in
            got_last digests (sha256 (part from end bytes)) b is ∙ (λ i. Some (sha256 (part (first i) (behind i) bytes)))) (cases_lt b (length digests));
      }

-- ---- what the functions say

-- a block more, by the bytes from a place on
pub block_marked : (old new : Marks) (places all bytes : List ℕ) (base count end : ℕ) → Noted old.starts.items old.digests.items old.from count end places all → count ≡ block_length * length old.digests.items + block_length → base ≤ old.from → old.from ≤ end → bytes ≡ drop base all
    → new.starts.items ≡ old.starts.items ++ old.from ∷ [] → new.digests.items ≡ old.digests.items ++ sha256 (part (old.from - base) (end - base) bytes) ∷ [] → new.from ≡ end → new.count ≡ count → new.end ≡ end → AreMarked new places all
block_marked old new places all bytes base count end n full low up here starts digests from same last =
    let part_is : part (old.from - base) (end - base) bytes ≡ part old.from end all = ap (part (old.from - base) (end - base)) here ∙ part_behind base old.from end all low up in
    let digests_are : new.digests.items ≡ with_block old.starts.items old.digests.items old.from count end places all n = digests ∙ ap (λ l. old.digests.items ++ sha256 l ∷ []) part_is in
    let block = noted_block old.starts.items old.digests.items old.from count end places all n full in
    let one : Noted new.starts.items new.digests.items new.from new.count new.end places all =
    subst (λ (s : List ℕ). Noted s new.digests.items new.from new.count new.end places all) (sym starts)
    (subst (λ (d : List (List ℕ)). Noted (old.starts.items ++ old.from ∷ []) d new.from new.count new.end places all) (sym digests_are)
    (subst (λ (f : ℕ). Noted (old.starts.items ++ old.from ∷ []) (with_block old.starts.items old.digests.items old.from count end places all n) f new.count new.end places all) (sym from)
    (subst (λ (k : ℕ). Noted (old.starts.items ++ old.from ∷ []) (with_block old.starts.items old.digests.items old.from count end places all n) end k new.end places all) (sym same)
    (subst (λ (e : ℕ). Noted (old.starts.items ++ old.from ∷ []) (with_block old.starts.items old.digests.items old.from count end places all n) end count e places all) (sym last) block)))) in
    marked new places all one (omega (arith, same, full, ap length digests, one_more old.digests.items (sha256 (part (old.from - base) (end - base) bytes))))

pub alone_marked : (old new : Marks) (places all : List ℕ) (end : ℕ) → AreMarked old places all → new.starts ≡ old.starts → new.digests ≡ old.digests → new.from ≡ old.from → new.count ≡ old.count + 1 → new.end ≡ end → new.count < block_length * length old.digests.items + block_length → AreMarked new (places ++ end ∷ []) all
alone_marked old new places all end a starts digests from count last few =
    let n = noted_more old.starts.items old.digests.items old.from old.count old.end places all (noted old places all a) end in
    record {
      counted = n.counted ∙ ap (λ k. k + 1) (sym count);
      size = ap (λ (v : Vec ℕ Global). length v.items) starts ∙ n.size ∙ ap (λ (v : Vec (List ℕ) Global). length v.items) (sym digests);
      whole = omega (arith, n.whole, count, ap (λ (v : Vec (List ℕ) Global). length v.items) digests);
      others = omega (arith, few, ap (λ (v : Vec (List ℕ) Global). length v.items) digests);
      from = ap (λ (v : Vec (List ℕ) Global). slice_index (places ++ end ∷ []) (block_length * length v.items)) digests ∙ n.from_is ∙ sym from;
      end = ap (slice_index (places ++ end ∷ [])) count ∙ n.end_is ∙ sym last;
      starts = λ b within. ap (λ (v : Vec ℕ Global). slice_index v.items b) starts ∙ n.starts_are b (subst (λ (v : Vec (List ℕ) Global). b < length v.items) digests within);
      digests = λ b within. ap (λ (v : Vec (List ℕ) Global). slice_get v.items b) digests ∙ n.digests_are b (subst (λ (v : Vec (List ℕ) Global). b < length v.items) digests within);
    }

-- the parts of what is kept in the end
pub all_of_parts : (s t : List ℕ) (d f : List (List ℕ)) (k n : ℕ) (places all : List ℕ) → t ≡ s → f ≡ d → n ≡ k → AreAllMarked s d k places all → AreAllMarked t f n places all
all_of_parts s t d f k n places all p q r a = subst (λ (l : List ℕ). AreAllMarked l f n places all) (sym p) (subst (λ (l : List (List ℕ)). AreAllMarked s l n places all) (sym q) (subst (λ (j : ℕ). AreAllMarked s d j places all) (sym r) a))

pub whole_marked : (old new : Marks) (places all : List ℕ) → old.count % block_length ≡ 0 → AreMarked old places all → new.starts.items ≡ old.starts.items ++ old.from ∷ [] → new.digests ≡ old.digests → new.count ≡ old.count → AreAllMarked new.starts.items new.digests.items new.count places all
whole_marked old new places all full a starts digests count =
    all_of_parts (old.starts.items ++ old.from ∷ []) new.starts.items old.digests.items new.digests.items old.count new.count places all starts (ap (λ (v : Vec (List ℕ) Global). v.items) digests) count (all_whole old.starts.items old.digests.items old.from old.count old.end places all (noted old places all a) (omega (arith, full, a.whole, a.others)))

pub others_marked : (old mid new : Marks) (places all bytes : List ℕ) → (old.count % block_length ≡ 0 → ⊥) → AreMarked old places all → bytes ≡ drop old.from all → mid.starts.items ≡ old.starts.items ++ old.from ∷ [] → mid.digests.items ≡ old.digests.items ++ sha256 (part (old.from - old.from) (old.end - old.from) bytes) ∷ [] → mid.from ≡ old.end → mid.count ≡ old.count
    → new.starts.items ≡ mid.starts.items ++ mid.from ∷ [] → new.digests ≡ mid.digests → new.count ≡ mid.count → AreAllMarked new.starts.items new.digests.items new.count places all
others_marked old mid new places all bytes some a here starts digests from count bound same many =
    let n = noted old places all a in
    let part_is : part (old.from - old.from) (old.end - old.from) bytes ≡ part old.from old.end all = ap (part (old.from - old.from) (old.end - old.from)) here ∙ part_behind old.from old.from old.end all (omega arith) old.order in
    all_of_parts ((old.starts.items ++ old.from ∷ []) ++ old.end ∷ []) new.starts.items (with_block old.starts.items old.digests.items old.from old.count old.end places all n) new.digests.items old.count new.count places all
    (bound ∙ (λ i. starts i ++ from i ∷ [])) (ap (λ (v : Vec (List ℕ) Global). v.items) same ∙ digests ∙ ap (λ l. old.digests.items ++ sha256 l ∷ []) part_is) (many ∙ count)
    (all_others old.starts.items old.digests.items old.from old.count old.end places all n (omega (arith, some, a.whole, a.others)) a.others)

-- ---- answers

pub on_one : {T E : Type 0} {A C : Type 0} (r : Result T E) → (A → C) → OnOk r A → OnOk r C
on_one (Ok x) f a = f a
on_one (Err e) f a = tt

pub on_three : {T E : Type 0} {A B C D : Type 0} (r : Result T E) → (A → B → C → D) → OnOk r A → OnOk r B → OnOk r C → OnOk r D
on_three (Ok x) f a b c = f a b c
on_three (Err e) f a b c = tt

-- the next of places that rise
pub next_rises : (bound at : ℕ) (ends : List ℕ) (i : ℕ) → i < length ends → RiseTo bound at (drop i ends) → RiseTo bound at (slice_index ends i ∷ drop (i + 1) ends)
next_rises bound at ends i within rise = subst (RiseTo bound at) (drop-cons ends i 0 within ∙ ap (λ k. slice_index ends i ∷ drop k ends) (sym (add-one i))) rise

-- one more of the places is noted
pub one_taken : (places ends : List ℕ) (i : ℕ) → i < length ends → (places ++ take i ends) ++ slice_index ends i ∷ [] ≡ places ++ take (i + 1) ends
one_taken places ends i within = append_assoc places (take i ends) (slice_index ends i ∷ []) ∙ ap (λ l. places ++ l) (sym (ap (λ k. take k ends) (add-one i) ∙ take-suc ends i 0 within))
