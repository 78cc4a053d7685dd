-- What the mirrors have, and which count rose, where one of them refused.
use Rattle.std.proofs.Common.{◌≡◌, ℕ, zero, suc, ◌+◌, ◌-◌, ◌^◌, ◌<◌, ◌≤◌, min, List, [], ◌∷◌, length, map, take, Option, Some, None, Err, MatchBool, refl, sym, ◌∙◌, ap, ap₂, subst, append-nil, arith}
use Rattle.std.proofs.lemmas.List.{length-map}
use Rattle.std.proofs.Math.Seq.{take-length}
use Rattle.wy_outside.specs.Counts.{Rose}
use Rattle.wy_outside.specs.Sink.{appended, is_failed}
use Rattle.wy_outside.specs.declared.sink.SinkError.{SinkError}
use Rattle.wy_outside.specs.declared.sink.SinkError.TheVariants.{Failed}
use Rattle.wy_record.specs.Recorders.{ChangedOnlyAt, Mirrors, HavePrefix, opened, with_more}
use Rattle.wy_record.specs.declared.recorder.RecordError.{RecordError}
use Rattle.wy_record.specs.declared.recorder.RecordError.TheVariants.{SinkFault, Differs, NoMemory}
use Rattle.wy_framing.specs.declared.serve.Act.{Act}
use Rattle.wy_framing.specs.declared.serve.Act.TheVariants.{Open}
use Rattle.wy_framing.specs.Served.{RoseIn, behind}
use Rattle.wy_framing.specs.Told.{emptied}

-- what is as it was has nothing of the piece
pub same_has_front : (piece : List ℕ) (mirrors : Mirrors) → HavePrefix piece mirrors mirrors
same_has_front piece [] = tt
same_has_front piece (None ∷ rest) = same_has_front piece rest
same_has_front piece (Some bytes ∷ rest) = ((0, sym (append-nil bytes)), same_has_front piece rest)

one_more : (piece : List ℕ) (n : ℕ) (mirror : Option (List ℕ)) (olds news : Mirrors) → HavePrefix piece olds news → HavePrefix piece (mirror ∷ olds) (appended mirror (take n piece) ∷ news)
one_more piece n None olds news rest = rest
one_more piece n (Some bytes) olds news rest = ((n, refl), rest)

-- the first one has a front, and those behind it have theirs
joined : {X : Type 0} (f : X → Option (List ℕ)) (piece : List ℕ) (n : ℕ) (xs rest : List X) (x : X) (new : Option (List ℕ)) (news : Mirrors) → xs ≡ x ∷ rest → new ≡ appended (f x) (take n piece) → HavePrefix piece (map f rest) news → HavePrefix piece (map f xs) (new ∷ news)
joined {X} f piece n xs rest x new news is grown fronts =
    let P : Option (List ℕ) → Type 0 = λ m. HavePrefix piece (f x ∷ map f rest) (m ∷ news) in
    let Q : List X → Type 0 = λ ys. HavePrefix piece (map f ys) (new ∷ news) in
    subst Q (sym is) (subst P (sym grown) (one_more piece n (f x) (map f rest) news fronts))

pub refused_here : {X : Type 0} (f : X → Option (List ℕ)) (piece : List ℕ) (xs rest : List X) (x : X) (new : Option (List ℕ)) → xs ≡ x ∷ rest → ((n : ℕ) × (n ≤ length piece) × (new ≡ appended (f x) (take n piece))) → HavePrefix piece (map f xs) (new ∷ map f rest)
refused_here f piece xs rest x new is (n, most, grown) = joined f piece n xs rest x new (map f rest) is grown (same_has_front piece (map f rest))

pub refused_later : {X : Type 0} (f : X → Option (List ℕ)) (piece : List ℕ) (xs rest : List X) (x : X) (new : Option (List ℕ)) (news : Mirrors) → xs ≡ x ∷ rest → new ≡ appended (f x) piece → HavePrefix piece (map f rest) news → HavePrefix piece (map f xs) (new ∷ news)
refused_later f piece xs rest x new news is grown fronts = joined f piece (length piece) xs rest x new news is (grown ∙ ap (λ t. appended (f x) t) (sym (take-length piece))) fronts

-- the piece stands behind what the first one held, and behind what those behind it held
pub taken_each : {X : Type 0} (f : X → Option (List ℕ)) (piece : List ℕ) (xs rest : List X) (x : X) (new : Option (List ℕ)) (news : Mirrors) → xs ≡ x ∷ rest → new ≡ appended (f x) piece → news ≡ with_more piece (map f rest) → new ∷ news ≡ with_more piece (map f xs)
taken_each f piece xs rest x new news is first others = ap₂ (λ m ms. m ∷ ms) first others ∙ ap (λ ys. with_more piece (map f ys)) (sym is)

-- where mirrors that are opened hold nothing, so does the first, and so do those behind it
pub blank_first : {X : Type 0} (f : X → Option (List ℕ)) (act : Act) (xs rest : List X) (x : X) → xs ≡ x ∷ rest → (act ≡ Open → opened (map f xs) ≡ map f xs) → act ≡ Open → emptied (f x) ≡ f x
blank_first f act xs rest x is blank opens =
    let both : opened (map f (x ∷ rest)) ≡ map f (x ∷ rest) = subst (λ ys. opened (map f ys) ≡ map f ys) is (blank opens) in
    cc

pub blank_rest : {X : Type 0} (f : X → Option (List ℕ)) (act : Act) (xs rest : List X) (x : X) → xs ≡ x ∷ rest → (act ≡ Open → opened (map f xs) ≡ map f xs) → act ≡ Open → opened (map f rest) ≡ map f rest
blank_rest f act xs rest x is blank opens =
    let both : opened (map f (x ∷ rest)) ≡ map f (x ∷ rest) = subst (λ ys. opened (map f ys) ≡ map f ys) is (blank opens) in
    cc

-- ---- counts

rose_within : (n : ℕ) (olds news : List ℕ) → ChangedOnlyAt Rose n olds news → n < length olds
rose_within zero [] news rose = absurd rose
rose_within (suc n) [] news rose = absurd rose
rose_within zero (old ∷ olds) [] rose = absurd rose
rose_within (suc n) (old ∷ olds) [] rose = absurd rose
rose_within zero (old ∷ olds) (new ∷ news) rose = omega arith
rose_within (suc n) (old ∷ olds) (new ∷ news) rose = omega (arith, rose_within n olds news rose.1)

next : (n old new : ℕ) (olds news : List ℕ) → length olds + 1 < 2 ^ 32 → new ≡ old → ChangedOnlyAt Rose n olds news → ChangedOnlyAt Rose (min (n + 1) (2 ^ 32 - 1)) (old ∷ olds) (new ∷ news)
next n old new olds news few kept rose =
    let P : ℕ → Type 0 = λ k. ChangedOnlyAt Rose k (old ∷ olds) (new ∷ news) in
    let is_next : suc n ≡ min (n + 1) (2 ^ 32 - 1) = omega (arith, few, rose_within n olds news rose) in
    subst P is_next (kept, rose)

one_behind : (error : RecordError) (old new : ℕ) (olds news : List ℕ) → length olds + 1 < 2 ^ 32 → new ≡ old → RoseIn (Err error) olds news → RoseIn (Err (behind error)) (old ∷ olds) (new ∷ news)
one_behind (SinkFault n) old new olds news few kept rose = next n old new olds news few kept rose
one_behind (Differs n) old new olds news few kept rose = absurd rose
one_behind NoMemory old new olds news few kept rose = rw kept (ap (λ t. old ∷ t) rose)

pub rose_later : {X : Type 0} (f : X → ℕ) (error answer : RecordError) (xs rest : List X) (x : X) (new : ℕ) (news : List ℕ) → length xs < 2 ^ 32 → xs ≡ x ∷ rest → answer ≡ behind error → new ≡ f x → RoseIn (Err error) (map f rest) news → RoseIn (Err answer) (map f xs) (new ∷ news)
rose_later {X} f error answer xs rest x new news few is named kept rose =
    let Q : List X → Type 0 = λ ys. length ys < 2 ^ 32 → RoseIn (Err (behind error)) (map f ys) (new ∷ news) in
    let A : RecordError → Type 0 = λ a. RoseIn (Err a) (map f xs) (new ∷ news) in
    let at_cons : length (x ∷ rest) < 2 ^ 32 → RoseIn (Err (behind error)) (f x ∷ map f rest) (new ∷ news) = λ short. one_behind error (f x) new (map f rest) news (omega (arith, short, length-map rest f)) kept rose in
    subst A (sym named) (subst Q (sym is) at_cons few)

pub rose_here : {X : Type 0} (f : X → ℕ) (error : SinkError) (xs rest : List X) (x : X) (new : ℕ) → xs ≡ x ∷ rest → error ≡ Failed → MatchBool (is_failed error) (Rose (f x) new) (new ≡ f x) → ChangedOnlyAt Rose 0 (map f xs) (new ∷ map f rest)
rose_here {X} f error xs rest x new is named counted =
    let Q : List X → Type 0 = λ ys. ChangedOnlyAt Rose 0 (map f ys) (new ∷ map f rest) in
    let E : SinkError → Type 0 = λ e. MatchBool (is_failed e) (Rose (f x) new) (new ≡ f x) in
    let rose : Rose (f x) new = subst E named counted in
    subst Q (sym is) (rose, refl)
