-- The active entries are read back from what an event carries.
use Rattle.std.proofs.Common.{◌≡◌, ℕ, List, [], ◌∷◌, ◌++◌, Some, refl, sym, ap, ◌∙◌, subst}
use Rattle.std.specs.Prelude.{map}
use Rattle.std.specs.Option.{option_to_list}
use Rattle.wy_kernel.specs.Program.{Program}
use Rattle.wy_steps.specs.State.{Active}
use Rattle.wy_steps.specs.Steps.{next_event, control_set}
use Rattle.law_counted.proofs.ActiveRules.{AreMade, BeginsWith}
use Rattle.law_counted.proofs.ActiveTheorem.{statements_make}
use Rattle.law_frames.specs.Joined.{Joined, One, Both, joined, event_in_set, entries_in, active_in, AreNamed, ActiveAreRead, EntriesStayNamed}

-- the entries whose sets were joined are these
pub entries_are_read : (es : List (Active joined)) → AreNamed es → entries_in (control_set es) ≡ map (λ a. a.number) es
unfolding control_set entries_in
entries_are_read [] h = refl
entries_are_read (a ∷ rest) h =
    ap (λ o. option_to_list o ++ entries_in (control_set rest)) h.0 ∙ ap (λ l. a.number ∷ l) (entries_are_read rest h.1)

pub active_are_read : ActiveAreRead
unfolding next_event active_in
active_are_read d c s h = entries_are_read s.active h

-- to be named is to come from what the entry's event comes from

names : (n : ℕ) (x : Joined) → BeginsWith joined n x → event_in_set x ≡ Some n
unfolding event_in_set
names n x h = subst (λ y. event_in_set y ≡ Some n) (sym h.1) refl

pub made_are_named : (es : List (Active joined)) → AreMade joined es → AreNamed es
made_are_named [] h = tt
made_are_named (a ∷ rest) h = (names a.number a.from_all h.0, made_are_named rest h.1)

made : (n : ℕ) (x : Joined) → event_in_set x ≡ Some n → BeginsWith joined n x
unfolding event_in_set
made n (Both (One m) others) is = let same : m ≡ n = cc in (others, ap (λ k. Both (One k) others) same)
made n _ is = absurd (cc)

named_are_made : (es : List (Active joined)) → AreNamed es → AreMade joined es
named_are_made [] h = tt
named_are_made (a ∷ rest) h = (made a.number a.from_all h.0, named_are_made rest h.1)

pub entries_stay_named : (p : Program) → EntriesStayNamed p
entries_stay_named p depth x s h = made_are_named _ (statements_make joined p depth x s (named_are_made s.active h))
