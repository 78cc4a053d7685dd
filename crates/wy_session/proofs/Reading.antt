-- Reading on, line by line.
use Rattle.std.proofs.Common.{◌≡◌, ◌≢◌, ◌∙◌, sym, ap, refl, subst, inl, inr, ℕ, ◌+◌, ◌≤◌, ◌<◌, ◌⊎◌, nat_eq, eqb-true, zero, suc, Bool, true, false, List, [], ◌∷◌, ◌++◌, length, append_assoc, append-nil, length-append, Option, Some, None, Result, Ok, Err, arith}
use Rattle.std.specs.List.{Contains}
use Rattle.std.proofs.lemmas.Bool.{eqb-false}
use Rattle.std.proofs.lemmas.List.Elements.{Contains-append_cases}
use Rattle.std.specs.Io.BufRead.{strip_last}
use Rattle.wy_explore.specs.Session.{Session}
use Rattle.wy_outside.specs.Sink.{appended}
use Rattle.wy_session.specs.Scene.{Scene}
use Rattle.wy_session.specs.Line.{Reads, ReadsOn}
use Rattle.wy_session.specs.Situation.{Situation}
use Rattle.wy_session.specs.Talk.{BeginsTalk, Ends, FirstLine, IsReadOut, QuitsBefore, Reaches, Talks, long_line_text, most_in_line}
use Rattle.wy_session.specs.Talk as talk
use Rattle.wy_session.specs.Closings.{EndsWith, Leads, OutFor, Stops, StopsAt}
use Rattle.wy_session.specs.declared.line.OpenLine.{OpenLine}
use Rattle.wy_session.specs.declared.ending.Ending.{Ending}
use Rattle.wy_session.specs.declared.ending.Ending.TheVariants.{Done, LongLine, LongInput, KeysFailed, OutFailed, View, NoMemory}
use Rattle.wy_session.proofs.Stopping.{limited}

-- ---- outputs

pub appended_twice : (old mid new : Option (List ℕ)) (said more : List ℕ) → mid ≡ appended old said → new ≡ appended mid more → new ≡ appended old (said ++ more)
appended_twice None mid new said more first second = second ∙ ap (λ (o : Option (List ℕ)). appended o more) first
appended_twice (Some before) mid new said more first second =
    second ∙ ap (λ (o : Option (List ℕ)). appended o more) first ∙ ap Some (append_assoc before said more)

-- ---- a whole line more

-- the bytes of the line that was held, then those up to its end, then the rest
regrouped : (held front behind rest left : List ℕ) → rest ≡ front ++ (10 ∷ behind) → (held ++ rest) ++ left ≡ ((held ++ front) ++ 10 ∷ []) ++ (behind ++ left)
regrouped held front behind rest left is = rw is (simp append_assoc)

on : (x : Scene) (s t u : Session) (b c d : ℕ) (bytes held front behind rest next said more : List ℕ) → rest ≡ front ++ (10 ∷ behind) → Leads x s b bytes t c (held ++ rest) said →
    Leads x t c ((held ++ front) ++ 10 ∷ []) u d (next ++ []) more → Leads x s b bytes u d (next ++ behind) (said ++ more)
on x s t u b c d bytes held front behind rest next said more is first second = record {
  reaches = λ input left earlier reaches count.
      let e = regrouped held front behind rest left is in
      let before = first.reaches input left earlier reaches count in
      let after = second.reaches input (behind ++ left) (earlier ++ said) (subst (λ (l : List ℕ). Reaches x input t l (earlier ++ said)) e before)
      (omega (arith, count, first.counts, length-append bytes left, length-append (held ++ rest) left, ap length e)) in
      subst (λ (l : List ℕ). Reaches x input u l (earlier ++ (said ++ more))) (simp append_assoc) (subst (λ (l : List ℕ). Reaches x input u ((next ++ []) ++ (behind ++ left)) l) (append_assoc earlier said more) after);
  counts = omega (arith, first.counts, second.counts, ap length is, length-append held rest, length-append front (10 ∷ behind), length-append (held ++ front) (10 ∷ []), length-append held front, length-append next behind, length-append next []);
}

pub reads_on : (before mid after : Situation) (b : ℕ) (bytes front behind rest said more : List ℕ) (l k n : OpenLine) → rest ≡ front ++ (10 ∷ behind) → k.bytes.items ≡ l.bytes.items ++ front → k.before ≡ l.before →
    ReadsOn before mid b bytes l rest said → ReadsOn mid after k.before (k.bytes.items ++ 10 ∷ []) n [] more → ReadsOn before after b bytes n behind (said ++ more)
reads_on before mid after b bytes front behind rest said more l k n is put same first second = record { counts = counted; leads = λ x s at. of x s (first.leads x s at) } where
  counted : b + length bytes ≡ n.before + length (n.bytes.items ++ behind)
  counted = omega (arith, first.counts, second.counts, same, ap length put, ap length is, length-append l.bytes.items rest, length-append l.bytes.items front, length-append front (10 ∷ behind), length-append k.bytes.items (10 ∷ []), length-append n.bytes.items behind, length-append n.bytes.items [])

  of : (x : Scene) (s : Session) → (t : Session) × Leads x s b bytes t l.before (l.bytes.items ++ rest) said × mid x t → (u : Session) × Leads x s b bytes u n.before (n.bytes.items ++ behind) (said ++ more) × after x u
  of x s (t, leads, stands) = then (second.leads x t stands) where
    then : (u : Session) × Leads x t k.before (k.bytes.items ++ 10 ∷ []) u n.before (n.bytes.items ++ []) more × after x u → (u : Session) × Leads x s b bytes u n.before (n.bytes.items ++ behind) (said ++ more) × after x u
    then (u, further, also) = (
      u,
      on x s t u b l.before n.before bytes l.bytes.items front behind rest n.bytes.items said more is leads
          (subst (λ (z : List ℕ). Leads x t l.before (z ++ 10 ∷ []) u n.before (n.bytes.items ++ []) more) put (subst (λ (z : ℕ). Leads x t z (k.bytes.items ++ 10 ∷ []) u n.before (n.bytes.items ++ []) more) same further)),
      also,
    )

-- ---- the session ends

-- the more is left of an input, the more of it was read
nothing_before : (behind left : List ℕ) → behind ++ left ≡ [] → left ≡ []
nothing_before [] left e = e
nothing_before (b ∷ behind) left e = absurd (cc)

read_further : (x : Scene) (input behind left : List ℕ) → IsReadOut x input (behind ++ left) → IsReadOut x input left
read_further x input behind left (inl none) = inl (nothing_before behind left none)
read_further x input behind left (inr (more, quits)) = inr (more ++ behind, subst (QuitsBefore x input) (sym (append_assoc more behind left)) quits)

stops_further : (x : Scene) (input behind left : List ℕ) (e : Ending) (text : List ℕ) → StopsAt x input (behind ++ left) e text → StopsAt x input left e text
stops_further x input behind left Done text is = (is.0, read_further x input behind left is.1)
stops_further x input behind left LongLine text is = is
stops_further x input behind left LongInput text is = is
stops_further x input behind left KeysFailed text is = is
stops_further x input behind left OutFailed text is = is
stops_further x input behind left (View e) text is = is
stops_further x input behind left NoMemory text is = is

-- what ends it behind these bytes ends it here
pub stops_on : (before mid : Situation) (b : ℕ) (bytes more_bytes behind rest said more : List ℕ) (l : OpenLine) (e : Ending) → l.bytes.items ++ rest ≡ more_bytes ++ behind → ReadsOn before mid b bytes l rest said →
    ((x : Scene) (s : Session) → mid x s → Stops x s l.before more_bytes e more) → (x : Scene) (s : Session) → before x s → Stops x s b bytes e (said ++ more)
stops_on before mid b bytes more_bytes behind rest said more l e is first second x s at = of (first.leads x s at) where
  of : (t : Session) × Leads x s b bytes t l.before (l.bytes.items ++ rest) said × mid x t → Stops x s b bytes e (said ++ more)
  of (t, leads, stands) = λ input left earlier reaches count.
      let same : (l.bytes.items ++ rest) ++ left ≡ more_bytes ++ (behind ++ left) = ap (λ (z : List ℕ). z ++ left) is ∙ append_assoc more_bytes behind left in
      subst (StopsAt x input left e) (append_assoc earlier said more) (stops_further x input behind left e ((earlier ++ said) ++ more)
      (second x t stands input (behind ++ left) (earlier ++ said) (subst (λ (z : List ℕ). Reaches x input t z (earlier ++ said)) same (leads.reaches input left earlier reaches count))
      (omega (arith, count, leads.counts, length-append bytes left, length-append (l.bytes.items ++ rest) left, ap length same))))

-- want of memory ends it anywhere
pub memory_stops : (before mid : Situation) (b : ℕ) (bytes rest said : List ℕ) (l : OpenLine) → ReadsOn before mid b bytes l rest said → (x : Scene) (s : Session) → before x s → Stops x s b bytes NoMemory said
memory_stops before mid b bytes rest said l first x s at = of (first.leads x s at) where
  of : (t : Session) × Leads x s b bytes t l.before (l.bytes.items ++ rest) said × mid x t → Stops x s b bytes NoMemory said
  of (t, leads, stands) = λ input left earlier reaches count. talk.answered t ((l.bytes.items ++ rest) ++ left) (earlier ++ said) (leads.reaches input left earlier reaches count) ([], sym (append-nil (earlier ++ said)))

-- ---- a line that gets too long

-- a first line that begins with bytes without a line feed has at least these
pub record LongFirst (bytes left : List ℕ) : Type 0 where
  pub text : List ℕ
  pub line : List ℕ
  pub behind : List ℕ
  pub first : FirstLine (bytes ++ left) text line behind
  pub long : length bytes ≤ length text

only_that : (x y : ℕ) → Contains (x ∷ []) y → x ≡ y
only_that x y (zero, low, is) = is
only_that x y (suc k, low, is) = absurd (omega (arith, low))

one_more : (bytes : List ℕ) (y : ℕ) → ¬ Contains bytes 10 → nat_eq y 10 ≡ false → ¬ Contains (bytes ++ y ∷ []) 10
one_more bytes y un other has = of (Contains-append_cases bytes (y ∷ []) 10 has) where
  of : Contains bytes 10 ⊎ Contains (y ∷ []) 10 → ⊥
  of (inl before) = un before
  of (inr last) = absurd (eqb-false y 10 other (only_that y 10 last))

begun_by : (bytes left : List ℕ) (y : ℕ) → bytes ≢ [] → bytes ++ y ∷ [] ≢ []
begun_by [] left y some = λ e. some refl
begun_by (b ∷ bytes) left y some = λ e. cc

long_with : (bytes left : List ℕ) (y : ℕ) → LongFirst (bytes ++ y ∷ []) left → LongFirst bytes (y ∷ left)
long_with bytes left y l = record {
  text = l.text;
  line = l.line;
  behind = l.behind;
  first = subst (λ (z : List ℕ). FirstLine z l.text l.line l.behind) (append_assoc bytes (y ∷ []) left) l.first;
  long = omega (arith, l.long, length-append bytes (y ∷ []));
}

long_by : (bytes left : List ℕ) (y : ℕ) (b : Bool) → nat_eq y 10 ≡ b → ¬ Contains bytes 10 → (nat_eq y 10 ≡ false → LongFirst (bytes ++ y ∷ []) left) → LongFirst bytes (y ∷ left)
long_by bytes left y true is un further = record {
  text = bytes;
  line = strip_last 13 bytes;
  behind = left;
  first = subst (λ (z : ℕ). FirstLine (bytes ++ z ∷ left) bytes (strip_last 13 bytes) left) (sym (eqb-true y 10 is)) (talk.ended bytes left un);
  long = omega arith;
}
long_by bytes left y false is un further = long_with bytes left y (further is)

pub long_first : (bytes left : List ℕ) → bytes ≢ [] → ¬ Contains bytes 10 → LongFirst bytes left
long_first bytes [] some un = record { text = bytes; line = bytes; behind = []; first = subst (λ (z : List ℕ). FirstLine z bytes bytes []) (sym (append-nil bytes)) (talk.last bytes some un); long = omega arith }
long_first bytes (y ∷ left) some un = long_by bytes left y (nat_eq y 10) refl un (λ other. long_first (bytes ++ y ∷ []) left (begun_by bytes left y some) (one_more bytes y un other))

pub long_stops : (before mid : Situation) (b : ℕ) (bytes rest said : List ℕ) (l k : OpenLine) (old now new : Option (List ℕ)) (n m q : ℕ) (e : Ending) → ReadsOn before mid b bytes l rest said → k.bytes.items ≡ l.bytes.items ++ rest →
    ¬ Contains k.bytes.items 10 → most_in_line < length k.bytes.items → now ≡ appended old said → m ≡ n → EndsWith long_line_text LongLine now new m q e → Reads before mid b bytes k old new n q (Err e)
long_stops before mid b bytes rest said l k old now new n m q e first put un long written same is =
    let of = limited long_line_text LongLine e now new m q tt is in (
      said ++ of.said,
      λ x s at. stops_on before mid b bytes (l.bytes.items ++ rest) [] rest said of.said l e (sym (append-nil (l.bytes.items ++ rest))) first
          (λ y t stands input left earlier reaches count. of.stops y input left earlier
          (let f = long_first k.bytes.items left (λ none. omega (arith, long, ap length none)) un in
          talk.talks t _ earlier long_line_text 8 reaches (talk.long_line _ f.text f.line f.behind (subst (λ (z : List ℕ). FirstLine (z ++ left) f.text f.line f.behind) put f.first) (omega (arith, long, f.long)))))
          x s at,
      appended_twice old now new said of.said written of.written,
      subst (λ (z : ℕ). OutFor e z q) same of.out,
    )

-- all was read
pub all_read : (before mid : Situation) (b : ℕ) (bytes rest said : List ℕ) (l k : OpenLine) → k.bytes.items ≡ l.bytes.items ++ rest → k.before ≡ l.before → ReadsOn before mid b bytes l rest said → ReadsOn before mid b bytes k [] said
all_read before mid b bytes rest said l k put same first = record { counts = omega (arith, first.counts, same, ap length put, length-append k.bytes.items []); leads = λ x s at. of x s (first.leads x s at) } where
  of : (x : Scene) (s : Session) → (t : Session) × Leads x s b bytes t l.before (l.bytes.items ++ rest) said × mid x t → (t : Session) × Leads x s b bytes t k.before (k.bytes.items ++ []) said × mid x t
  of x s (t, leads, stands) = (t, subst (λ (z : List ℕ). Leads x s b bytes t k.before z said) (sym put ∙ sym (append-nil k.bytes.items)) (subst (λ (z : ℕ). Leads x s b bytes t z (l.bytes.items ++ rest) said) (sym same) leads), stands)

pub nothing_read : (at : Situation) (l : OpenLine) (rest : List ℕ) → ReadsOn at at l.before (l.bytes.items ++ rest) l rest []
nothing_read at l rest = record { counts = refl; leads = λ x s stands. (s, record { reaches = λ input left earlier reaches count. subst (Reaches x input s ((l.bytes.items ++ rest) ++ left)) (sym (append-nil earlier)) reaches; counts = refl }, stands) }

-- ---- the same of what a call gave

pub memory_reads : (before mid : Situation) (b : ℕ) (bytes rest said : List ℕ) (l k : OpenLine) (old new : Option (List ℕ)) (n m : ℕ) (r : Result Unit Ending) (e : Ending) → r ≡ Err e → e ≡ NoMemory → ReadsOn before mid b bytes l rest said →
    new ≡ appended old said → m ≡ n → Reads before mid b bytes k old new n m r
memory_reads before mid b bytes rest said l k old new n m r e is memory first written same =
    subst (Reads before mid b bytes k old new n m) (sym (is ∙ ap Err memory)) (said, memory_stops before mid b bytes rest said l first, written, same)

pub end_reads : (before mid after : Situation) (b : ℕ) (bytes front behind rest said : List ℕ) (l k n : OpenLine) (old now new : Option (List ℕ)) (u v w : ℕ) (r : Result Unit Ending) (e : Ending) → r ≡ Err e → rest ≡ front ++ (10 ∷ behind) →
    k.bytes.items ≡ l.bytes.items ++ front → k.before ≡ l.before → ReadsOn before mid b bytes l rest said → now ≡ appended old said → v ≡ u →
    Reads mid after k.before (k.bytes.items ++ 10 ∷ []) n now new v w (Err e) → Reads before after b bytes n old new u w r
end_reads before mid after b bytes front behind rest said l k n old now new u v w r e of is put same first written kept (more, stops, also, out) =
    subst (Reads before after b bytes n old new u w) (sym of) (
      said ++ more,
      stops_on before mid b bytes (k.bytes.items ++ 10 ∷ []) behind rest said more l e grouped first (λ x s stands. subst (λ (z : ℕ). Stops x s z (k.bytes.items ++ 10 ∷ []) e more) same (stops x s stands)),
      appended_twice old now new said more written also,
      subst (λ (z : ℕ). OutFor e z w) kept out,
    ) where
      grouped : l.bytes.items ++ rest ≡ (k.bytes.items ++ 10 ∷ []) ++ behind
      grouped = rw (is, put) (simp append_assoc)

-- a whole line more, and what was written for it
pub record WholeLine (before after : Situation) (b : ℕ) (bytes : List ℕ) (n : OpenLine) (behind : List ℕ) (old new : Option (List ℕ)) (u w : ℕ) : Type 0 where
  pub said : List ℕ
  pub reads : ReadsOn before after b bytes n behind said
  pub written : new ≡ appended old said
  pub faults : w ≡ u

pub whole_line : (before mid after : Situation) (b : ℕ) (bytes front behind rest said : List ℕ) (l k n : OpenLine) (old now new : Option (List ℕ)) (u v w : ℕ) → rest ≡ front ++ (10 ∷ behind) →
    k.bytes.items ≡ l.bytes.items ++ front → k.before ≡ l.before → ReadsOn before mid b bytes l rest said → now ≡ appended old said → v ≡ u →
    Reads mid after k.before (k.bytes.items ++ 10 ∷ []) n now new v w (Ok tt) → WholeLine before after b bytes n behind old new u w
whole_line before mid after b bytes front behind rest said l k n old now new u v w is put same first written kept (more, second, also, stayed) = record {
  said = said ++ more;
  reads = reads_on before mid after b bytes front behind rest said more l k n is put same first second;
  written = appended_twice old now new said more written also;
  faults = stayed ∙ kept;
}

-- no line feed comes into what has none
pub still_unended : (bytes front : List ℕ) → ¬ Contains bytes 10 → ¬ Contains front 10 → ¬ Contains (bytes ++ front) 10
still_unended bytes front un also has = of (Contains-append_cases bytes front 10 has) where
  of : Contains bytes 10 ⊎ Contains front 10 → ⊥
  of (inl before) = un before
  of (inr last) = also last

-- ---- pieces

-- a piece more is to be read
pub read_more : (before mid : Situation) (b : ℕ) (bytes piece said : List ℕ) (l : OpenLine) → ReadsOn before mid b bytes l [] said → ReadsOn before mid b (bytes ++ piece) l piece said
read_more before mid b bytes piece said l first = record {
  counts = omega (arith, first.counts, length-append bytes piece, length-append l.bytes.items piece, length-append l.bytes.items []);
  leads = λ x s at. of x s (first.leads x s at);
} where
  of : (x : Scene) (s : Session) → (t : Session) × Leads x s b bytes t l.before (l.bytes.items ++ []) said × mid x t → (t : Session) × Leads x s b (bytes ++ piece) t l.before (l.bytes.items ++ piece) said × mid x t
  of x s (t, leads, stands) = (
    t,
    record {
      reaches = λ input left earlier reaches count. subst (λ (z : List ℕ). Reaches x input t z (earlier ++ said)) (simp append_assoc)
          (leads.reaches input (piece ++ left) earlier (subst (λ (z : List ℕ). Reaches x input s z earlier) (append_assoc bytes piece left) reaches) (count ∙ ap (λ (z : List ℕ). b + length z) (append_assoc bytes piece left)));
      counts = omega (arith, first.counts, length-append bytes piece, length-append l.bytes.items piece, length-append l.bytes.items []);
    },
    stands,
  )

-- and is read
pub reads_then : (before mid after : Situation) (b : ℕ) (bytes piece said more : List ℕ) (l n : OpenLine) → ReadsOn before mid b bytes l piece said → ReadsOn mid after l.before (l.bytes.items ++ piece) n [] more → ReadsOn before after b bytes n [] (said ++ more)
reads_then before mid after b bytes piece said more l n first second = record {
  counts = first.counts ∙ second.counts;
  leads = λ x s at. of x s (first.leads x s at);
} where
  of : (x : Scene) (s : Session) → (t : Session) × Leads x s b bytes t l.before (l.bytes.items ++ piece) said × mid x t → (u : Session) × Leads x s b bytes u n.before (n.bytes.items ++ []) (said ++ more) × after x u
  of x s (t, leads, stands) = then (second.leads x t stands) where
    then : (u : Session) × Leads x t l.before (l.bytes.items ++ piece) u n.before (n.bytes.items ++ []) more × after x u → (u : Session) × Leads x s b bytes u n.before (n.bytes.items ++ []) (said ++ more) × after x u
    then (u, further, also) = (
      u,
      record {
        reaches = λ input left earlier reaches count. subst (Reaches x input u ((n.bytes.items ++ []) ++ left)) (append_assoc earlier said more)
            (further.reaches input left (earlier ++ said) (leads.reaches input left earlier reaches count) (omega (arith, count, leads.counts, length-append bytes left, length-append (l.bytes.items ++ piece) left)));
        counts = leads.counts ∙ further.counts;
      },
      also,
    )
