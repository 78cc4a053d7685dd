-- How a line ends a session, or leads it on.
use Rattle.std.proofs.Common.{◌≡◌, ◌∙◌, sym, ap, subst, inl, inr, ℕ, ◌+◌, ◌-◌, ◌≤◌, ◌<◌, List, [], ◌∷◌, ◌++◌, length, take, drop, append_assoc, append-nil, length-append, Option, Result, Ok, Err, arith}
use Rattle.std.specs.List.{Contains}
use Rattle.std.specs.Io.BufRead.{strip_last}
use Rattle.std.proofs.lemmas.List.{take-append-drop}
use Rattle.wy_explore.specs.Session.{Session}
use Rattle.wy_outside.specs.Sink.{appended}
use Rattle.wy_session.specs.Scene.{Scene}
use Rattle.wy_session.specs.Line.{AnswersLine, Reads}
use Rattle.wy_session.specs.Situation.{Situation}
use Rattle.wy_session.specs.Talk.{AnswersFirst, BeginsTalk, Ends, FirstLine, Fits, IsPrefixOf, Reaches, Talks, long_input_text, long_line_text, most_in_all, most_in_line}
use Rattle.wy_session.specs.Talk as talk
use Rattle.wy_session.specs.Closings.{Answered, EndsWith, IsBroken, IsPrefixOfReply, IsLong, IsWithin, Leads, LongAt, OutFor, StopsAt}
use Rattle.wy_session.specs.declared.line.OpenLine.{OpenLine}
use Rattle.wy_session.specs.declared.ending.Ending.{Ending}
use Rattle.wy_session.specs.declared.ending.Ending.TheVariants.{Done, LongLine, LongInput, KeysFailed, OutFailed, View, NoMemory}
use Rattle.wy_session.proofs.Saying.{says_quit}

-- ---- a limit

-- a prefix of a text comes after another
front_behind : (earlier part rest text : List ℕ) → text ≡ part ++ rest → earlier ++ text ≡ (earlier ++ part) ++ rest
front_behind earlier part rest text is = ap (λ (l : List ℕ). earlier ++ l) is ∙ sym (append_assoc earlier part rest)

broken_off : (x : Scene) (input left text : List ℕ) (e : Ending) → IsBroken e → BeginsTalk x input text → StopsAt x input left e text
broken_off x input left text OutFailed broken is = is
broken_off x input left text NoMemory broken is = is
broken_off x input left text Done broken is = absurd broken
broken_off x input left text LongLine broken is = absurd broken
broken_off x input left text LongInput broken is = absurd broken
broken_off x input left text KeysFailed broken is = absurd broken
broken_off x input left text (View e) broken is = absurd broken

-- the ending of a limit
abbrev pub IsLimit : Ending → Type 0
IsLimit LongLine = Unit {0}
IsLimit LongInput = Unit {0}
IsLimit _ = ⊥

at_limit : (x : Scene) (input left text : List ℕ) (e : Ending) → IsLimit e → Talks x input 8 text → StopsAt x input left e text
at_limit x input left text LongLine limit is = is
at_limit x input left text LongInput limit is = is
at_limit x input left text Done limit is = absurd limit
at_limit x input left text KeysFailed limit is = absurd limit
at_limit x input left text OutFailed limit is = absurd limit
at_limit x input left text (View e) limit is = absurd limit
at_limit x input left text NoMemory limit is = absurd limit

out_stayed : (e : Ending) (n m : ℕ) → IsLimit e → m ≡ n → OutFor e n m
out_stayed LongLine n m limit is = is
out_stayed LongInput n m limit is = is
out_stayed Done n m limit is = absurd limit
out_stayed KeysFailed n m limit is = absurd limit
out_stayed OutFailed n m limit is = absurd limit
out_stayed (View e) n m limit is = absurd limit
out_stayed NoMemory n m limit is = absurd limit

-- what was written at a limit, and how the session ends by it
pub record Limited (text : List ℕ) (old new : Option (List ℕ)) (n m : ℕ) (e : Ending) : Type 0 where
  pub said : List ℕ
  pub stops : (x : Scene) (input left earlier : List ℕ) → Talks x input 8 (earlier ++ text) → StopsAt x input left e (earlier ++ said)
  pub written : new ≡ appended old said
  pub out : OutFor e n m

pub limited : (text : List ℕ) (wanted e : Ending) (old new : Option (List ℕ)) (n m : ℕ) → IsLimit wanted → EndsWith text wanted old new n m e → Limited text old new n m e
limited text wanted e old new n m limit (inl (is, written, same)) = record {
  said = text;
  stops = λ x input left earlier talks. subst (λ (z : Ending). StopsAt x input left z (earlier ++ text)) (sym is) (at_limit x input left (earlier ++ text) wanted limit talks);
  written = written;
  out = subst (λ (z : Ending). OutFor z n m) (sym is) (out_stayed wanted n m limit same);
}
limited text wanted e old new n m limit (inr (broken, out, (k, written))) = record {
  said = take k text;
  stops = λ x input left earlier talks. broken_off x input left (earlier ++ take k text) e broken
      (talk.ended 8 (earlier ++ text) talks (drop k text, front_behind earlier (take k text) (drop k text) text (sym (take-append-drop k text))));
  written = written;
  out = out;
}

-- ---- what was read for a limit

pub limit_long : (text : List ℕ) (wanted e : Ending) (old new : Option (List ℕ)) (n m read : ℕ) → most_in_line < read → EndsWith text wanted old new n m e → IsLong read e
limit_long text wanted LongLine old new n m read many is = many
limit_long text wanted LongInput old new n m read many is = many
limit_long text wanted Done old new n m read many is = tt
limit_long text wanted KeysFailed old new n m read many is = tt
limit_long text wanted OutFailed old new n m read many is = tt
limit_long text wanted (View e) old new n m read many is = tt
limit_long text wanted NoMemory old new n m read many is = tt

pub within_long : (e : Ending) (read : ℕ) → IsWithin (Err e) → IsLong read e
within_long Done read is = tt
within_long LongLine read is = absurd is
within_long LongInput read is = absurd is
within_long KeysFailed read is = tt
within_long OutFailed read is = tt
within_long (View e) read is = tt
within_long NoMemory read is = tt

pub long_result : (r : Result Unit Ending) (e : Ending) (read : ℕ) → r ≡ Err e → IsLong read e → LongAt read r
long_result r e read is long = subst (LongAt read) (sym is) long

pub longer : (e : Ending) (n m : ℕ) → n ≤ m → IsLong n e → IsLong m e
longer Done n m le is = tt
longer LongLine n m le is = omega (arith, le, is)
longer LongInput n m le is = omega (arith, le, is)
longer KeysFailed n m le is = tt
longer OutFailed n m le is = tt
longer (View e) n m le is = tt
longer NoMemory n m le is = tt

-- ---- lines

-- the first line where a line feed comes
pub feed_ends : (bytes left : List ℕ) → ¬ Contains bytes 10 → FirstLine ((bytes ++ 10 ∷ []) ++ left) bytes (strip_last 13 bytes) left
feed_ends bytes left unended = subst (λ (l : List ℕ). FirstLine l bytes (strip_last 13 bytes) left) (sym (append_assoc bytes (10 ∷ []) left)) (talk.ended bytes left unended)

-- the bytes that came before what is left
pub come_before : (b : ℕ) (input bytes left : List ℕ) → length input ≡ b + length ((bytes ++ 10 ∷ []) ++ left) → length input - length left ≡ b + length bytes + 1
come_before b input bytes left count = omega (arith, count, length-append (bytes ++ 10 ∷ []) left, length-append bytes (10 ∷ []))

-- ---- an answered line

-- the session goes on, or the writing of the reply broke off
pub begins_reply : (x : Scene) (s : Session) (input rest bytes line behind earlier part : List ℕ) → Reaches x input s rest earlier → Fits input rest bytes line behind → IsPrefixOfReply x s line part → BeginsTalk x input (earlier ++ part)
begins_reply x s input rest bytes line behind earlier part reaches fits (inl none) =
    talk.answered s rest earlier reaches ([], sym (append-nil (earlier ++ part) ∙ ap (λ (l : List ℕ). earlier ++ l) none ∙ append-nil earlier))
begins_reply x s input rest bytes line behind earlier part reaches fits (inr (t, reply, is, (more, front))) =
    talk.answered t behind (earlier ++ reply) (talk.line s t rest bytes line behind earlier reply reaches fits is) (more, front_behind earlier part more reply front)

answers_first : (x : Scene) (s : Session) (input rest earlier part : List ℕ) → Reaches x input s rest earlier → part ≡ [] → AnswersFirst x input (earlier ++ part)
answers_first x s input rest earlier part reaches none = (s, rest, subst (λ (l : List ℕ). Reaches x input s rest l) (sym (ap (λ (l : List ℕ). earlier ++ l) none ∙ append-nil earlier)) reaches)

pub answered_stops : (x : Scene) (s : Session) (input rest bytes line behind earlier part : List ℕ) (stands : Session → Type 0) (e : Ending) → Reaches x input s rest earlier → Fits input rest bytes line behind →
    Answered x s line stands (Err e) part → StopsAt x input behind e (earlier ++ part)
answered_stops x s input rest bytes line behind earlier part stands Done reaches fits (t, is, none) = (
  subst (λ (l : List ℕ). Talks x input 0 (earlier ++ l)) (sym none) (talk.talks s rest earlier [] 0 reaches (talk.quit t rest bytes line behind fits is)),
  inr ([], record { session = s; rest = rest; bytes = bytes; line = line; said = earlier; reaches = reaches; fits = fits; quits = says_quit x s line t is }),
)
answered_stops x s input rest bytes line behind earlier part stands LongLine reaches fits is = absurd is
answered_stops x s input rest bytes line behind earlier part stands LongInput reaches fits is = absurd is
answered_stops x s input rest bytes line behind earlier part stands KeysFailed reaches fits is = absurd is
answered_stops x s input rest bytes line behind earlier part stands OutFailed reaches fits is = begins_reply x s input rest bytes line behind earlier part reaches fits is
answered_stops x s input rest bytes line behind earlier part stands (View e) reaches fits is = answers_first x s input rest earlier part reaches is
answered_stops x s input rest bytes line behind earlier part stands NoMemory reaches fits is = begins_reply x s input rest bytes line behind earlier part reaches fits is

-- ---- the end of a line

fits_in : (b : ℕ) (input bytes left : List ℕ) → ¬ Contains bytes 10 → length bytes ≤ most_in_line → b + length bytes + 1 ≤ most_in_all → length input ≡ b + length ((bytes ++ 10 ∷ []) ++ left) → Fits input ((bytes ++ 10 ∷ []) ++ left) bytes (strip_last 13 bytes) left
fits_in b input bytes left unended short within count = record {
  first = feed_ends bytes left unended;
  short = short;
  within = omega (arith, within, come_before b input bytes left count);
}

pub long_line_stops : (before after : Situation) (b : ℕ) (bytes : List ℕ) (l : OpenLine) (old new : Option (List ℕ)) (n m : ℕ) (e : Ending) → ¬ Contains bytes 10 → most_in_line < length bytes →
    EndsWith long_line_text LongLine old new n m e → Reads before after b (bytes ++ 10 ∷ []) l old new n m (Err e)
long_line_stops before after b bytes l old new n m e unended long is =
    let of = limited long_line_text LongLine e old new n m tt is in (
      of.said,
      λ x s at input left earlier reaches count. of.stops x input left earlier
          (talk.talks s _ earlier long_line_text 8 reaches (talk.long_line _ bytes (strip_last 13 bytes) left (feed_ends bytes left unended) long)),
      of.written,
      of.out,
    )

pub long_input_stops : (before after : Situation) (b : ℕ) (bytes : List ℕ) (l : OpenLine) (old new : Option (List ℕ)) (n m : ℕ) (e : Ending) → ¬ Contains bytes 10 → length bytes ≤ most_in_line → most_in_all < b + length bytes + 1 →
    EndsWith long_input_text LongInput old new n m e → Reads before after b (bytes ++ 10 ∷ []) l old new n m (Err e)
long_input_stops before after b bytes l old new n m e unended short long is =
    let of = limited long_input_text LongInput e old new n m tt is in (
      of.said,
      λ x s at input left earlier reaches count. of.stops x input left earlier
          (talk.talks s _ earlier long_input_text 8 reaches (talk.long_input _ bytes (strip_last 13 bytes) left (feed_ends bytes left unended) short (omega (arith, long, come_before b input bytes left count)))),
      of.written,
      of.out,
    )

pub answer_stops : (before after : Situation) (b : ℕ) (bytes line : List ℕ) (l : OpenLine) (old new : Option (List ℕ)) (n m : ℕ) (e : Ending) (r : Result Unit Ending) → ¬ Contains bytes 10 → length bytes ≤ most_in_line → b + length bytes + 1 ≤ most_in_all →
    line ≡ strip_last 13 bytes → r ≡ Err e → AnswersLine before after line old new n m (Err e) → Reads before after b (bytes ++ 10 ∷ []) l old new n m r
answer_stops before after b bytes line l old new n m e r unended short within stripped is (part, answered, written, out, within_limits) =
    subst (Reads before after b (bytes ++ 10 ∷ []) l old new n m) (sym is) (
      part,
      λ x s at input left earlier reaches count. answered_stops x s input _ bytes (strip_last 13 bytes) left earlier part (after x) e reaches (fits_in b input bytes left unended short within count)
          (subst (λ (z : List ℕ). Answered x s z (after x) (Err e) part) stripped (answered x s at)),
      written,
      out,
    )

pub answer_leads : (before after : Situation) (b : ℕ) (bytes : List ℕ) (l : OpenLine) (old new : Option (List ℕ)) (n m : ℕ) → ¬ Contains bytes 10 → length bytes ≤ most_in_line → b + length bytes + 1 ≤ most_in_all →
    l.bytes.items ≡ [] → l.before ≡ b + length bytes + 1 → AnswersLine before after (strip_last 13 bytes) old new n m (Ok tt) → Reads before after b (bytes ++ 10 ∷ []) l old new n m (Ok tt)
answer_leads before after b bytes l old new n m unended short within empty is (part, answered, written, out, within_limits) =
    (part, record { counts = omega (arith, is, length-append bytes (10 ∷ []), ap length empty, length-append l.bytes.items []); leads = λ x s at. of x s (answered x s at) }, written, out) where
      of : (x : Scene) (s : Session) → Answered x s (strip_last 13 bytes) (after x) (Ok tt) part → (t : Session) × Leads x s b (bytes ++ 10 ∷ []) t l.before (l.bytes.items ++ []) part × after x t
      of x s (t, said, stands) = (
        t,
        record {
          reaches = λ input left earlier reaches count. subst (λ (z : List ℕ). Reaches x input t ((z ++ []) ++ left) (earlier ++ part)) (sym empty)
              (talk.line s t ((bytes ++ 10 ∷ []) ++ left) bytes (strip_last 13 bytes) left earlier part reaches (fits_in b input bytes left unended short within count) said);
          counts = omega (arith, is, length-append bytes (10 ∷ []), ap length empty, length-append l.bytes.items []);
        },
        stands,
      )
