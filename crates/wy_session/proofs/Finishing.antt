-- The end of the input.
use Rattle.std.proofs.Common.{◌≡◌, ◌≢◌, ap, refl, subst, inl, ℕ, ◌+◌, ◌≤◌, ◌<◌, List, [], ◌∷◌, ◌++◌, length, append-nil, Option, Ok, Err, arith}
use Rattle.std.specs.List.{Contains}
use Rattle.wy_explore.specs.Session.{Session}
use Rattle.wy_session.specs.Scene.{Scene}
use Rattle.wy_session.specs.Line.{AnswersLine, Finishes}
use Rattle.wy_session.specs.Situation.{Situation}
use Rattle.wy_session.specs.Talk.{Fits, Reaches, Talks, long_input_text, most_in_all, most_in_line}
use Rattle.wy_session.specs.Talk as talk
use Rattle.wy_session.specs.Closings.{Answered, EndsWith}
use Rattle.wy_session.specs.declared.ending.Ending.{Ending}
use Rattle.wy_session.specs.declared.ending.Ending.TheVariants.{Done, LongInput}
use Rattle.wy_session.proofs.Parts.{appended_nothing}
use Rattle.wy_session.proofs.Stopping.{answered_stops, limited}

pub nothing_left : (before : Situation) (b : ℕ) (bytes : List ℕ) (old : Option (List ℕ)) (n : ℕ) → length bytes ≡ 0 → Finishes before b bytes old old n n Done
nothing_left before b [] old n none = ([], λ x s at input earlier reaches count. (talk.talks s [] earlier [] 0 reaches talk.over, inl refl), appended_nothing old, refl)
nothing_left before b (y ∷ bytes) old n none = absurd (omega (arith, none))

filled : (bytes : List ℕ) → (length bytes ≡ 0 → ⊥) → bytes ≢ []
filled bytes some = λ none. some (ap length none)

pub long_input_at_end : (before : Situation) (b : ℕ) (bytes : List ℕ) (old new : Option (List ℕ)) (n m : ℕ) (e : Ending) → (length bytes ≡ 0 → ⊥) → ¬ Contains bytes 10 → length bytes ≤ most_in_line → most_in_all < b + length bytes →
    EndsWith long_input_text LongInput old new n m e → Finishes before b bytes old new n m e
long_input_at_end before b bytes old new n m e some un short long is =
    let of = limited long_input_text LongInput e old new n m tt is in (
      of.said,
      λ x s at input earlier reaches count. of.stops x input [] earlier
          (talk.talks s bytes earlier long_input_text 8 reaches (talk.long_input bytes bytes bytes [] (talk.last bytes (filled bytes some) un) short (omega (arith, long, count)))),
      of.written,
      of.out,
    )

fits_at_end : (b : ℕ) (input bytes : List ℕ) → (length bytes ≡ 0 → ⊥) → ¬ Contains bytes 10 → length bytes ≤ most_in_line → b + length bytes ≤ most_in_all → length input ≡ b + length bytes → Fits input bytes bytes bytes []
fits_at_end b input bytes some un short within count = record { first = talk.last bytes (filled bytes some) un; short = short; within = omega (arith, within, count) }

pub last_answered : (before after : Situation) (b : ℕ) (bytes line : List ℕ) (old new : Option (List ℕ)) (n m : ℕ) → (length bytes ≡ 0 → ⊥) → ¬ Contains bytes 10 → length bytes ≤ most_in_line → b + length bytes ≤ most_in_all →
    line ≡ bytes → AnswersLine before after line old new n m (Ok tt) → Finishes before b bytes old new n m Done
last_answered before after b bytes line old new n m some un short within same (part, answered, written, out, limits) =
    (part, λ x s at input earlier reaches count. (of x s input earlier reaches count (subst (λ (z : List ℕ). Answered x s z (after x) (Ok tt) part) same (answered x s at)), inl refl), written, out) where
      of : (x : Scene) (s : Session) (input earlier : List ℕ) → Reaches x input s bytes earlier → length input ≡ b + length bytes → Answered x s bytes (after x) (Ok tt) part → Talks x input 0 (earlier ++ part)
      of x s input earlier reaches count (t, said, stands) = subst (Talks x input 0) (append-nil (earlier ++ part))
          (talk.talks t [] (earlier ++ part) [] 0 (talk.line s t bytes bytes bytes [] earlier part reaches (fits_at_end b input bytes some un short within count) said) talk.over)

pub last_stops : (before after : Situation) (b : ℕ) (bytes line : List ℕ) (old new : Option (List ℕ)) (n m : ℕ) (e : Ending) → (length bytes ≡ 0 → ⊥) → ¬ Contains bytes 10 → length bytes ≤ most_in_line → b + length bytes ≤ most_in_all →
    line ≡ bytes → AnswersLine before after line old new n m (Err e) → Finishes before b bytes old new n m e
last_stops before after b bytes line old new n m e some un short within same (part, answered, written, out, limits) =
    (part, λ x s at input earlier reaches count. answered_stops x s input bytes bytes bytes [] earlier part (after x) e reaches (fits_at_end b input bytes some un short within count) (subst (λ (z : List ℕ). Answered x s z (after x) (Err e) part) same (answered x s at)), written, out)
