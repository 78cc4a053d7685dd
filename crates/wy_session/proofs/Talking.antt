-- The whole of a session, from its parts.
use Rattle.std.proofs.Common.{◌≡◌, ◌∙◌, sym, ap, refl, subst, inl, inr, ℕ, ◌+◌, ◌≤◌, List, [], ◌∷◌, ◌++◌, length, take, drop, append_assoc, append-nil, length-append, Option, Some, None, option_map, Ok, Err, Vec, Global, arith}
use Rattle.std.specs.Prelude.{min}
use Rattle.std.proofs.lemmas.List.{take-append-drop}
use Rattle.std.specs.List.{Contains}
use Rattle.wy_explore.specs.Session.{Session, begun}
use Rattle.wy_outside.specs.Counts.{Rose}
use Rattle.wy_outside.specs.Sink.{appended}
use Rattle.wy_outside.specs.Source.{EndsExactly}
use Rattle.wy_session.specs.Scene.{Scene}
use Rattle.wy_session.specs.Line.{Finishes, Reads, ReadsOn}
use Rattle.wy_session.specs.Situation.{Scenes, Situation}
use Rattle.wy_session.specs.Talk.{BeginsTalk, Reaches}
use Rattle.wy_session.specs.Talk as talk
use Rattle.wy_session.specs.Closings.{BreaksOff, Closed, Closes, EndsWith, Failures, IsBroken, KeysStayed, Leads, OutFor, ReadsOut, Stops, StopsAt, WritesPart, failures, keys_fault_line}
use Rattle.wy_session.specs.Views.{ending_of}
use Rattle.wy_view.specs.declared.view.ViewError.{ViewError}
use Rattle.wy_view.specs.declared.view.ViewError.TheVariants as view
use Rattle.wy_session.specs.declared.line.OpenLine.{OpenLine}
use Rattle.wy_session.specs.declared.ending.Ending.{Ending}
use Rattle.wy_session.specs.declared.ending.Ending.TheVariants.{Done, LongLine, LongInput, KeysFailed, OutFailed, View, NoMemory}
use Rattle.wy_session.proofs.Parts.{appended_nothing}
use Rattle.wy_session.proofs.Reading.{appended_twice, read_more, stops_on}

-- ---- what is told of the input

-- what is left of an input, of which so much was read

pub record Left (read input : List ℕ) (left : Option (List ℕ)) : Type 0 where
  pub rest : List ℕ
  pub is : left ≡ Some rest
  pub input_is : input ≡ read ++ rest

left_of : (told : Option (List ℕ)) (read input : List ℕ) (left : Option (List ℕ)) → told ≡ option_map (λ rest. read ++ rest) left → told ≡ Some input → Left read input left
left_of told read input None is so = absurd (let e = sym is ∙ so in cc)
left_of told read input (Some rest) is so = record { rest = rest; is = refl; input_is = (let e = sym so ∙ is in cc) }

pub told_on : (told : Option (List ℕ)) (read piece : List ℕ) (left next : Option (List ℕ)) → told ≡ option_map (λ rest. read ++ rest) left → left ≡ option_map (λ rest. piece ++ rest) next → told ≡ option_map (λ rest. (read ++ piece) ++ rest) next
told_on told read piece left None is takes = is ∙ ap (option_map (λ (rest : List ℕ). read ++ rest)) takes
told_on told read piece left (Some rest) is takes = is ∙ ap (option_map (λ (rest : List ℕ). read ++ rest)) takes ∙ ap Some (sym (append_assoc read piece rest))

at_end : (told : Option (List ℕ)) (read input : List ℕ) (left : Option (List ℕ)) (bytes : Vec ℕ Global) → told ≡ option_map (λ rest. read ++ rest) left → EndsExactly left (Ok bytes) → bytes.items ≡ [] → told ≡ Some input → input ≡ read
at_end told read input None bytes is ends none so = absurd (let e = sym is ∙ so in cc)
at_end told read input (Some rest) bytes is ends none so =
    let e : input ≡ read ++ rest = (let x = sym so ∙ is in cc) in
    e ∙ ap (λ (l : List ℕ). read ++ l) (ends.0 none) ∙ append-nil read

-- ---- what was answered so far

record Here (mid : Situation) (x : Scene) (input bytes said : List ℕ) (l : OpenLine) : Type 0 where
  pub session : Session
  pub stands : mid x session
  pub reaches : Reaches x input session bytes said
  pub counts : length input ≡ l.before + length bytes

-- where the session stands, with this part of the input behind the line that is held
here : (before mid : Situation) (x : Scene) (input read rest said : List ℕ) (l : OpenLine) → before x begun → ReadsOn before mid 0 read l [] said → input ≡ read ++ rest → Here mid x input (l.bytes.items ++ rest) said l
here before mid x input read rest said l at reads is = of (reads.leads x begun at) where
  of : (t : Session) × Leads x begun 0 read t l.before (l.bytes.items ++ []) said × mid x t → Here mid x input (l.bytes.items ++ rest) said l
  of (t, leads, stands) = record {
    session = t;
    stands = stands;
    reaches = subst (λ (z : List ℕ). Reaches x input t (z ++ rest) said) (append-nil l.bytes.items) (leads.reaches input rest [] (subst (λ (z : List ℕ). Reaches x input begun z []) is talk.start) (omega (arith, ap length is)));
    counts = omega (arith, ap length is, leads.counts, length-append read rest, length-append l.bytes.items [], length-append l.bytes.items rest);
  }

-- the scenes over which a responder is begun
abbrev pub begun_over : Situation → Scenes
begun_over before x = before x begun

pub begins : (before mid : Situation) (told left : Option (List ℕ)) (read said : List ℕ) (l : OpenLine) → ReadsOn before mid 0 read l [] said → told ≡ option_map (λ rest. read ++ rest) left → WritesPart (begun_over before) told said
begins before mid told left read said l reads is = λ x input at so.
    let y = left_of told read input left is so in
    let h = here before mid x input read y.rest said l at reads y.input_is in
    talk.answered h.session (l.bytes.items ++ y.rest) said h.reaches ([], sym (append-nil said))

-- ---- how it ends

-- so it ends over a trace and an input, with this left of it
record StoppedAt (x : Scene) (input : List ℕ) (left : Option (List ℕ)) (e : Ending) (said : List ℕ) : Type 0 where
  rest : List ℕ
  is : left ≡ Some rest
  stops : StopsAt x input rest e said

-- over each trace that a session is over, and each input that is told
abbrev Stopped : Scenes → Option (List ℕ) → Option (List ℕ) → Ending → List ℕ → Type 0
Stopped over told left e said = (x : Scene) (input : List ℕ) → over x → told ≡ Some input → StoppedAt x input left e said

closes_by : (over : Scenes) (told left : Option (List ℕ)) (f : Failures) (e : Ending) (said : List ℕ) → KeysStayed f → OutFor e f.out_before f.out_after → Stopped over told left e said → Closes over told f e said []
closes_by over told left f Done said keys out stops = (refl, keys, out, λ x input at so. (stops x input at so).stops.0)
closes_by over told left f LongLine said keys out stops = (refl, keys, out, λ x input at so. (stops x input at so).stops)
closes_by over told left f LongInput said keys out stops = (refl, keys, out, λ x input at so. (stops x input at so).stops)
closes_by over told left f KeysFailed said keys out stops = absurd out
closes_by over told left f OutFailed said keys out stops = (inl (refl, keys), out, λ x input at so. (stops x input at so).stops)
closes_by over told left f (View e) said keys out stops = (refl, keys, out, λ x input at so. (stops x input at so).stops)
closes_by over told left f NoMemory said keys out stops = (inl (refl, keys), out, λ x input at so. (stops x input at so).stops)

-- and so much of the input was read
reads_out_by : (over : Scenes) (told left : Option (List ℕ)) (e : Ending) (said : List ℕ) → Stopped over told left e said → ReadsOut over told left e
reads_out_by over told left Done said stops = λ x input at so. let s = stops x input at so in (s.rest, s.is, s.stops.1)
reads_out_by over told left LongLine said stops = tt
reads_out_by over told left LongInput said stops = tt
reads_out_by over told left KeysFailed said stops = tt
reads_out_by over told left OutFailed said stops = tt
reads_out_by over told left (View e) said stops = tt
reads_out_by over told left NoMemory said stops = tt

-- a session that a fault ends has not ended with all said
not_done : (over : Scenes) (told left : Option (List ℕ)) (e : Ending) → IsBroken e → ReadsOut over told left e
not_done over told left OutFailed broken = tt
not_done over told left NoMemory broken = tt
not_done over told left Done broken = absurd broken
not_done over told left LongLine broken = absurd broken
not_done over told left LongInput broken = absurd broken
not_done over told left KeysFailed broken = absurd broken
not_done over told left (View e) broken = absurd broken

pub fault_reads : (over : Scenes) (told left : Option (List ℕ)) (text : List ℕ) (old new : Option (List ℕ)) (n m : ℕ) (e : Ending) → EndsWith text KeysFailed old new n m e → ReadsOut over told left e
fault_reads over told left text old new n m e (inl (failed, written, same)) = subst (ReadsOut over told left) (sym failed) tt
fault_reads over told left text old new n m e (inr (broken, out, written)) = not_done over told left e broken

pub nothing_reads : (over : Scenes) (told left : Option (List ℕ)) (e : ViewError) (ending : Ending) → ending ≡ ending_of e → ReadsOut over told left ending
nothing_reads over told left e ending is = subst (ReadsOut over told left) (sym is) (of e) where
  of : (e : ViewError) → ReadsOut over told left (ending_of e)
  of view.NoMemory = tt
  of view.ReadFault = tt
  of view.Gone = tt
  of (view.Changed block kept found) = tt

closed_by : (over : Scenes) (told : Option (List ℕ)) (f : Failures) (old new : Option (List ℕ)) (e : Ending) (said : List ℕ) → Closes over told f e said [] → new ≡ appended old said → Closed over told f old new e
closed_by over told f old new e said closes written = record { said = said; line = []; closes = closes; written = written ∙ ap (appended old) (sym (append-nil said)) }

-- what was written, with the counts of the start
pub record Before (old now : Option (List ℕ)) (said : List ℕ) (keys_start keys_now out_start out_now : ℕ) : Type 0 where
  pub written : now ≡ appended old said
  pub keys : keys_now ≡ keys_start
  pub out : out_now ≡ out_start

-- nothing is left behind the end
none_left : (told : Option (List ℕ)) (read input : List ℕ) (left next : Option (List ℕ)) (bytes : Vec ℕ Global) → told ≡ option_map (λ rest. read ++ rest) left → EndsExactly left (Ok bytes) → bytes.items ≡ [] →
    left ≡ option_map (λ rest. bytes.items ++ rest) next → told ≡ Some input → next ≡ Some []
none_left told read input None next bytes is ends none takes so = absurd (let e = sym is ∙ so in cc)
none_left told read input (Some rest) None bytes is ends none takes so = absurd (let e = takes in cc)
none_left told read input (Some rest) (Some more) bytes is ends none takes so =
    let e : rest ≡ bytes.items ++ more = (let x = takes in cc) in
    ap Some (sym (ap (λ (l : List ℕ). l ++ more) none) ∙ sym e ∙ ends.0 none)

finish_stopped : (before mid : Situation) (told left next : Option (List ℕ)) (bytes : Vec ℕ Global) (read said more : List ℕ) (l : OpenLine) (e : Ending) →
    ReadsOn before mid 0 read l [] said → told ≡ option_map (λ rest. read ++ rest) left → EndsExactly left (Ok bytes) → bytes.items ≡ [] → left ≡ option_map (λ rest. bytes.items ++ rest) next →
    ((x : Scene) (s : Session) → mid x s → (input earlier : List ℕ) → Reaches x input s l.bytes.items earlier → length input ≡ l.before + length l.bytes.items → StopsAt x input [] e (earlier ++ more)) → Stopped (begun_over before) told next e (said ++ more)
finish_stopped before mid told left next bytes read said more l e reads is ends none takes stops = λ x input at so.
    let h = here before mid x input read [] said l at reads (at_end told read input left bytes is ends none so ∙ sym (append-nil read)) in record {
      rest = [];
      is = none_left told read input left next bytes is ends none takes so;
      stops = stops x h.session h.stands input said (subst (λ (z : List ℕ). Reaches x input h.session z said) (append-nil l.bytes.items) h.reaches) (h.counts ∙ ap (λ (z : List ℕ). l.before + length z) (append-nil l.bytes.items));
    }

pub finish_closes : (before mid : Situation) (told left next : Option (List ℕ)) (bytes : Vec ℕ Global) (read said : List ℕ) (l : OpenLine) (old now new : Option (List ℕ)) (ks kn ke os on oe : ℕ) (e : Ending) →
    ReadsOn before mid 0 read l [] said → told ≡ option_map (λ rest. read ++ rest) left → EndsExactly left (Ok bytes) → bytes.items ≡ [] → left ≡ option_map (λ rest. bytes.items ++ rest) next → Before old now said ks kn os on → ke ≡ kn → Finishes mid l.before l.bytes.items now new on oe e → Closed (begun_over before) told (failures ks ke os oe) old new e
finish_closes before mid told left next bytes read said l old now new ks kn ke os on oe e reads is ends none takes b keys (more, stops, written, out) =
    closed_by (begun_over before) told (failures ks ke os oe) old new e (said ++ more)
    (closes_by (begun_over before) told next (failures ks ke os oe) e (said ++ more) (keys ∙ b.keys) (subst (λ (z : ℕ). OutFor e z oe) b.out out) (finish_stopped before mid told left next bytes read said more l e reads is ends none takes stops))
    (appended_twice old now new said more b.written written)

pub finish_reads : (before mid : Situation) (told left next : Option (List ℕ)) (bytes : Vec ℕ Global) (read said : List ℕ) (l : OpenLine) (now new : Option (List ℕ)) (on oe : ℕ) (e : Ending) →
    ReadsOn before mid 0 read l [] said → told ≡ option_map (λ rest. read ++ rest) left → EndsExactly left (Ok bytes) → bytes.items ≡ [] → left ≡ option_map (λ rest. bytes.items ++ rest) next → Finishes mid l.before l.bytes.items now new on oe e → ReadsOut (begun_over before) told next e
finish_reads before mid told left next bytes read said l now new on oe e reads is ends none takes (more, stops, written, out) =
    reads_out_by (begun_over before) told next e (said ++ more) (finish_stopped before mid told left next bytes read said more l e reads is ends none takes stops)

piece_stopped : (before mid : Situation) (told left next : Option (List ℕ)) (read piece said more : List ℕ) (l : OpenLine) (e : Ending) →
    ReadsOn before mid 0 read l [] said → told ≡ option_map (λ rest. read ++ rest) left → left ≡ option_map (λ rest. piece ++ rest) next →
    ((x : Scene) (s : Session) → mid x s → Stops x s l.before (l.bytes.items ++ piece) e more) → Stopped (begun_over before) told next e (said ++ more)
piece_stopped before mid told left next read piece said more l e reads is takes stops = λ x input at so.
    let y = left_of told (read ++ piece) input next (told_on told read piece left next is takes) so in record {
      rest = y.rest;
      is = y.is;
      stops = stops_on before mid 0 (read ++ piece) (l.bytes.items ++ piece) [] piece said more l e (sym (append-nil (l.bytes.items ++ piece))) (read_more before mid 0 read piece said l reads) stops x begun at input y.rest []
          (subst (λ (z : List ℕ). Reaches x input begun z []) y.input_is talk.start) (omega (arith, ap length y.input_is));
    }

pub piece_closes : (before mid after : Situation) (told left next : Option (List ℕ)) (read piece said : List ℕ) (l k : OpenLine) (old now new : Option (List ℕ)) (ks kn ke os on oe : ℕ) (e : Ending) →
    ReadsOn before mid 0 read l [] said → told ≡ option_map (λ rest. read ++ rest) left → left ≡ option_map (λ rest. piece ++ rest) next → Before old now said ks kn os on → ke ≡ kn →
    Reads mid after l.before (l.bytes.items ++ piece) k now new on oe (Err e) → Closed (begun_over before) told (failures ks ke os oe) old new e
piece_closes before mid after told left next read piece said l k old now new ks kn ke os on oe e reads is takes b keys (more, stops, written, out) =
    closed_by (begun_over before) told (failures ks ke os oe) old new e (said ++ more)
    (closes_by (begun_over before) told next (failures ks ke os oe) e (said ++ more) (keys ∙ b.keys) (subst (λ (z : ℕ). OutFor e z oe) b.out out) (piece_stopped before mid told left next read piece said more l e reads is takes stops))
    (appended_twice old now new said more b.written written)

pub piece_reads : (before mid after : Situation) (told left next : Option (List ℕ)) (read piece said : List ℕ) (l k : OpenLine) (now new : Option (List ℕ)) (on oe : ℕ) (e : Ending) →
    ReadsOn before mid 0 read l [] said → told ≡ option_map (λ rest. read ++ rest) left → left ≡ option_map (λ rest. piece ++ rest) next → Reads mid after l.before (l.bytes.items ++ piece) k now new on oe (Err e) → ReadsOut (begun_over before) told next e
piece_reads before mid after told left next read piece said l k now new on oe e reads is takes (more, stops, written, out) =
    reads_out_by (begun_over before) told next e (said ++ more) (piece_stopped before mid told left next read piece said more l e reads is takes stops)

pub memory_closes : (before mid : Situation) (told left : Option (List ℕ)) (read said : List ℕ) (l : OpenLine) (old now : Option (List ℕ)) (ks kn ke os on : ℕ) → ReadsOn before mid 0 read l [] said →
    told ≡ option_map (λ rest. read ++ rest) left → Before old now said ks kn os on → ke ≡ kn → Closed (begun_over before) told (failures ks ke os on) old now NoMemory
memory_closes before mid told left read said l old now ks kn ke os on reads is b keys =
    closed_by (begun_over before) told (failures ks ke os on) old now NoMemory said (inl (refl, keys ∙ b.keys), b.out, begins before mid told left read said l reads is) b.written

broken_closes : (over : Scenes) (told : Option (List ℕ)) (f : Failures) (said line : List ℕ) (e : Ending) → IsBroken e → OutFor e f.out_before f.out_after → BreaksOff f line → WritesPart over told said → Closes over told f e said line
broken_closes over told f said line OutFailed broken out off part = (off, out, part)
broken_closes over told f said line NoMemory broken out off part = (off, out, part)
broken_closes over told f said line Done broken out off part = absurd broken
broken_closes over told f said line LongLine broken out off part = absurd broken
broken_closes over told f said line LongInput broken out off part = absurd broken
broken_closes over told f said line KeysFailed broken out off part = absurd broken
broken_closes over told f said line (View e) broken out off part = absurd broken

pub fault_closes : (before mid : Situation) (told left : Option (List ℕ)) (read said : List ℕ) (l : OpenLine) (old now new : Option (List ℕ)) (ks kn ke os on oe : ℕ) (e : Ending) → ReadsOn before mid 0 read l [] said →
    told ≡ option_map (λ rest. read ++ rest) left → Before old now said ks kn os on → Rose kn ke → EndsWith keys_fault_line KeysFailed now new on oe e → Closed (begun_over before) told (failures ks ke os oe) old new e
fault_closes before mid told left read said l old now new ks kn ke os on oe e reads is b rose (inl (failed, written, same)) = record {
  said = said;
  line = keys_fault_line;
  closes = subst (λ (z : Ending). Closes (begun_over before) told (failures ks ke os oe) z said keys_fault_line) (sym failed) (refl, subst (λ (z : ℕ). Rose z ke) b.keys rose, same ∙ b.out, begins before mid told left read said l reads is);
  written = appended_twice old now new said keys_fault_line b.written written;
}
fault_closes before mid told left read said l old now new ks kn ke os on oe e reads is b rose (inr (broken, out, (k, written))) = record {
  said = said;
  line = take k keys_fault_line;
  closes = broken_closes (begun_over before) told (failures ks ke os oe) said (take k keys_fault_line) e broken (subst (λ (z : ℕ). OutFor e z oe) b.out out)
      (inr (subst (λ (z : ℕ). Rose z ke) b.keys rose, (drop k keys_fault_line, sym (take-append-drop k keys_fault_line)))) (begins before mid told left read said l reads is);
  written = appended_twice old now new said (take k keys_fault_line) b.written written;
}

-- ---- how much was taken

pub taken_on : (start now next a c most : ℕ) → min (start + a) most ≤ now → next ≡ min (now + c) most → min (start + (a + c)) most ≤ next
taken_on start now next a c most first second = omega (arith, first, second)

-- nothing was read
pub told_nothing : (told : Option (List ℕ)) → told ≡ option_map (λ rest. [] ++ rest) told
told_nothing None = refl
told_nothing (Some input) = refl

pub nothing_in : (bytes : List ℕ) → bytes ≡ [] → Contains bytes 10 → ⊥
nothing_in [] none (k, low, is) = absurd (omega (arith, low))
nothing_in (b ∷ bytes) none has = absurd (cc)

-- nothing was read or written
pub nothing_closes : (over : Scenes) (told : Option (List ℕ)) (keys out : ℕ) (old : Option (List ℕ)) (e : ViewError) → Closed over told (failures keys keys out out) old old (ending_of e)
nothing_closes over told keys out old view.NoMemory = record {
  said = [];
  line = [];
  closes = (inl (refl, refl), refl, λ x input at so. talk.answered begun input [] talk.start ([], refl));
  written = appended_nothing old;
}
nothing_closes over told keys out old view.ReadFault = record { said = []; line = []; closes = (refl, refl, refl, λ x input at so. (begun, input, talk.start)); written = appended_nothing old }
nothing_closes over told keys out old view.Gone = record { said = []; line = []; closes = (refl, refl, refl, λ x input at so. (begun, input, talk.start)); written = appended_nothing old }
nothing_closes over told keys out old (view.Changed block kept found) = record { said = []; line = []; closes = (refl, refl, refl, λ x input at so. (begun, input, talk.start)); written = appended_nothing old }

pub nothing_closed : (over : Scenes) (told : Option (List ℕ)) (keys out : ℕ) (old : Option (List ℕ)) (e : ViewError) (ending : Ending) → ending ≡ ending_of e → Closed over told (failures keys keys out out) old old ending
nothing_closed over told keys out old e ending is = subst (Closed over told (failures keys keys out out) old old) (sym is) (nothing_closes over told keys out old e)
