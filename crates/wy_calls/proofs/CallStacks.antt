-- What stands of the calls stays as it has to be, and is what contracts see, under each thing that is done.
use Rattle.std.proofs.Common.{◌≡◌, ◌-◌, ◌<◌, ◌≤◌, ℕ, ◌+◌, Bool, true, false, List, [], ◌∷◌, ◌++◌, length, suc, take, drop, map, reverse, Some, slice_get, subst, refl, sym, ap, ◌∙◌, arith}
use Rattle.std.specs.Prelude.{None as Absent}
use Rattle.std.specs.Prelude.{nat_eq, ◌&&◌, slice_set, not, Result, Ok, Err, IfErr}
use Rattle.std.specs.Option.{IsSomeAnd}
use Rattle.std.specs.Result.{IsErrAnd}
use Rattle.std.proofs.lemmas.Option.{none-some}
use Rattle.std.specs.List.{All, filter}
use Rattle.std.proofs.lemmas.List.{length-map, length-reverse, take-append-le, take-take, take-append-drop, length-append, length-take-le, reverse-append}
use Rattle.std.proofs.lemmas.List.Elements.{All-append, All-cons, All-head, All-tail, All-nil, All-map, All-filter, All-push, All-take, All-weaker, filter-append}
use Rattle.std.proofs.lemmas.List.Quantifiers.{all_pairs_push}
use Rattle.std.proofs.lemmas.List.Kept.{AllPairs-filter}
use mathlib.Core.List.{reverse-cons}
use Rattle.wy_steps.specs.Steps as steps
use Rattle.wy_kernel.specs.Limits.{depth_limit}
use Rattle.wy_steps.specs.Steps.{outlasting, same_frame, parent}
use Rattle.wy_kernel.specs.View.{present}
use Rattle.wy_calls.specs.Calls.{CallFrame, CallStack, IsUpTo, MayEnd, Refuses, first_of, event_of, activated, ended, closed, with_local, with_newest}
use Rattle.wy_calls.specs.declared.parts.Reach.{Reach}
use Rattle.wy_calls.specs.declared.parts.Reach.TheVariants.{Around, Through}
use Rattle.wy_calls.specs.declared.error.CallError.{CallError}
use Rattle.wy_calls.specs.declared.error.CallError.TheVariants.{NoMemory}
use Rattle.wy_calls.specs.declared.parts.Entry.{Entry}
use Rattle.wy_calls.specs.declared.parts.Live.{Live}
use Rattle.wy_value.specs.declared.value.Value.{Value}
use Rattle.wy_calls.proofs.Frames.{written}
use Rattle.wy_calls.specs.declared.parts.Begun.{Begun}
use Rattle.wy_calls.specs.Layout.{Ascends, ends_with, outlasts, mark_in, without, Sits, IsAtMost, IsBelow, IsNext, IsUnder, IsStanding, Falls, active_of, active_in, framed, scopes_in, reach_seen, IsPlace}
use Rattle.wy_calls.proofs.Last.{split_at_last, last_is_first, none_is_last, is_present, nobody_is_absent}
use Rattle.wy_calls.proofs.Entries.{All-both, all_below, same_both, filter_keeps, filter_passes, filter_of_reverse, sits_more, sits_without, outlasts_below, rises_without, ascends_taken, raised, under, scopes_stay}

-- an entry sits among the statements that have begun
abbrev pub Seated : List Begun → Entry → Type 0
Seated os e = Sits os e.number e.reach

-- ---- an entry more

pub one_more : (es : List Entry) (e : Entry) → active_in (es ++ e ∷ []) ≡ active_of e ∷ active_in es
one_more es e = ap (map active_of) (reverse-append es (e ∷ []))

pub scopes_with_more : (os : List Begun) (es xs : List Entry) (ns : List ℕ) → IsStanding os es ns → scopes_in (es ++ xs) ns ≡ scopes_in es ns
scopes_with_more os es xs ns h = sym (scopes_stay es (es ++ xs) ns (length es) h.falls (sym (take-append-le (length es) es xs (omega arith))))

pub stands_with_more : (os : List Begun) (es : List Entry) (e : Entry) (ns : List ℕ) → Seated os e → IsNext es e.number → IsStanding os es ns → IsStanding os (es ++ e ∷ []) ns
stands_with_more os es e ns sits next h = record {
  sits = All-push (Seated os) es e h.sits sits;
  ascends = all_pairs_push (λ a b. a.number < b.number) es e h.ascends (λ k d lt. next.1 k d lt);
  rises = h.rises;
  falls = raised ns (length es) (length (es ++ e ∷ [])) (omega (arith, length-append es (e ∷ []))) h.falls;
}

-- ---- a statement that begins, and one that ends

pub stands_begun : (os : List Begun) (o : Begun) (es : List Entry) (ns : List ℕ) → mark_in os o.frame o.statement ≡ Absent → IsAtMost os o.frame → IsStanding os es ns → IsStanding (o ∷ os) es ns
stands_begun os o es ns none most h = record {
  sits = All-weaker (Seated os) (Seated (o ∷ os)) (λ e is. sits_more o os e.number e.reach none is) es h.sits;
  ascends = h.ascends;
  rises = (most, h.rises);
  falls = h.falls;
}

pub not_true : (b : Bool) → not b ≡ true → b ≡ false
not_true true is = sym is
not_true false is = refl

-- ---- what outlasts a statement

abbrev pub Outlast : ℕ → ℕ → List Entry → Type 0
Outlast f s es = All (λ e. outlasts f s e ≡ true) es

-- entries below its mark do
pub below_outlast : (os : List Begun) (es : List Entry) (f s mark n : ℕ) → All (Seated os) es → mark_in os f s ≡ Some mark → All (λ e. IsBelow e mark) (take n es) → All (λ e. outlasts f s e ≡ true) (take n es)
below_outlast os es f s mark n sits is low =
    All-both (Seated os) (λ e. IsBelow e mark) (λ e. outlasts f s e ≡ true) (λ e seat lt. ap not (outlasts_below os f s mark e.number e.reach is lt seat)) (take n es) (All-take (Seated os) n es sits) low

no_end : (os : List Begun) (f s n : ℕ) (r : Reach) → mark_in os f s ≡ Absent → Sits os n r → ends_with f s r ≡ false
no_end os f s n Around none h = refl
no_end os f s n (Through g t) none h = one (nat_eq f g && nat_eq s t) refl
  where
    one : (b : Bool) → (nat_eq f g && nat_eq s t) ≡ b → b ≡ false
    one false at = refl
    one true at =
        let same = same_both f s g t at in
        absurd (subst (λ x. IsSomeAnd x (λ m. m ≤ n)) (ap (λ x. mark_in os x t) (sym same.0) ∙ ap (λ x. mark_in os f x) (sym same.1) ∙ none) h)

-- where it hasn't begun, all do
pub all_outlast : (os : List Begun) (es : List Entry) (f s n : ℕ) → All (Seated os) es → mark_in os f s ≡ Absent → All (λ e. outlasts f s e ≡ true) (take n es)
all_outlast os es f s n sits none = All-take (λ e. outlasts f s e ≡ true) n es (All-weaker (Seated os) (λ e. outlasts f s e ≡ true) (λ e seat. ap not (no_end os f s e.number e.reach none seat)) es sits)

fewer_outlast : (es : List Entry) (f s m n : ℕ) → m ≤ n → Outlast f s (take n es) → Outlast f s (take m es)
fewer_outlast es f s m n le h = subst (Outlast f s) (take-take m n es le) (All-take (λ e. outlasts f s e ≡ true) m (take n es) h)

-- how many entries the newest scope brings back
abbrev pub newest_mark : List ℕ → ℕ
newest_mark [] = 0
newest_mark (n ∷ ns) = n

mark_is_under : (ns : List ℕ) → IsUnder ns (newest_mark ns)
mark_is_under [] = tt
mark_is_under (n ∷ ns) = omega arith

mark_is_inside : (es : List Entry) (ns : List ℕ) → Falls ns (length es) → newest_mark ns ≤ length es
mark_is_inside es [] h = omega arith
mark_is_inside es (n ∷ ns) h = h.0

under_bound : (ns : List ℕ) (k : ℕ) → IsUnder ns k → newest_mark ns ≤ k
under_bound [] k h = omega arith
under_bound (n ∷ ns) k h = h

newest_back : (es : List Entry) (ns : List ℕ) → first_of (scopes_in es ns) ≡ active_in (take (newest_mark ns) es)
newest_back es [] = refl
newest_back es (n ∷ ns) = refl

at_most_all : {X : Type 0} (p : X → Bool) (xs : List X) → length (filter p xs) ≤ length xs
at_most_all p [] = omega arith
at_most_all p (x ∷ xs) = one (p x) refl (at_most_all p xs)
  where
    one : (b : Bool) → p x ≡ b → length (filter p xs) ≤ length xs → length (filter p (x ∷ xs)) ≤ length (x ∷ xs)
    one true is le = rw is (omega (arith, le))
    one false is le = rw is (omega (arith, le))

whole : (f s : ℕ) (es : List Entry) → length (filter (outlasts f s) es) ≡ length es → Outlast f s es
whole f s [] same = All-nil (λ e. outlasts f s e ≡ true)
whole f s (e ∷ es) same = one (outlasts f s e) refl (whole f s es)
  where
    one : (b : Bool) → outlasts f s e ≡ b → (length (filter (outlasts f s) es) ≡ length es → Outlast f s es) → Outlast f s (e ∷ es)
    one true is rest =
        let same_rest : suc (length (filter (outlasts f s) es)) ≡ suc (length es) = rw is at same in
        All-cons (λ e. outlasts f s e ≡ true) e es is (rest (omega (arith, same_rest)))
    one false is rest =
        let same_rest : length (filter (outlasts f s) es) ≡ suc (length es) = rw is at same in
        absurd (omega (arith, same_rest, at_most_all (outlasts f s) es))

as_many_back : (xs ys : List Entry) → active_in xs ≡ active_in ys → length xs ≡ length ys
as_many_back xs ys same = sym (length-reverse xs) ∙ sym (length-map (reverse xs) active_of) ∙ ap length same ∙ length-map (reverse ys) active_of ∙ length-reverse ys

-- an end, by how many entries surely outlast the statement
module _ (os : List Begun) (es : List Entry) (ns : List ℕ) (f s from : ℕ) (h : IsStanding os es ns) (inside : from ≤ length es) (stay_below : filter (outlasts f s) (take from es) ≡ take from es) where
  front_and_rest : filter (outlasts f s) es ≡ take from es ++ filter (outlasts f s) (drop from es)
  front_and_rest =
      ap (filter (outlasts f s)) (sym (take-append-drop from es)) ∙ filter-append (outlasts f s) (take from es) (drop from es)
      ∙ ap (λ xs. xs ++ filter (outlasts f s) (drop from es)) stay_below

  same_front : take from (filter (outlasts f s) es) ≡ take from es
  same_front =
      let long : length (take from es) ≡ from = length-take-le from es inside in
      ap (take from) front_and_rest ∙ take-append-le from (take from es) (filter (outlasts f s) (drop from es)) (omega (arith, long)) ∙ take-take from from es (omega arith)

  pub stands_ended : (xs : List Entry) (rest : List Begun) → xs ≡ filter (outlasts f s) es → rest ≡ without os f s → IsUnder ns from → IsStanding rest xs ns
  stands_ended xs rest same is_rest le = rw (same, is_rest) (record {
    sits = All-both (Seated os) (λ e. outlasts f s e ≡ true) (Seated (without os f s)) (λ e sits other. sits_without os f s e.number e.reach (not_true (ends_with f s e.reach) other) sits) (filter (outlasts f s) es)
        (All-filter (outlasts f s) (Seated os) es h.sits) (filter_passes (outlasts f s) es);
    ascends = AllPairs-filter (λ a b. a.number < b.number) (outlasts f s) es h.ascends;
    rises = rises_without os f s h.rises;
    falls =
        let long : length (filter (outlasts f s) es) ≡ length (take from es) + length (filter (outlasts f s) (drop from es)) = ap length front_and_rest ∙ length-append (take from es) (filter (outlasts f s) (drop from es)) in
        raised ns from (length (filter (outlasts f s) es)) (omega (arith, long, length-take-le from es inside)) (under ns from (length es) le h.falls);
  })

  pub scopes_ended : IsUnder ns from → scopes_in (filter (outlasts f s) es) ns ≡ scopes_in es ns
  scopes_ended le = scopes_stay (filter (outlasts f s) es) es ns from (under ns from (length es) le h.falls) same_front

outlasting_each : (f n : ℕ) (es : List Entry) → outlasting (Some f) n (map active_of es) ≡ map active_of (filter (outlasts f n) es)
unfolding outlasting steps.ends_with same_frame
outlasting_each f n [] = refl
outlasting_each f n (e ∷ es) = one (steps.ends_with (Some f) n (reach_seen e.reach)) refl (alike e.reach) (outlasting_each f n es)
  where
    alike : (r : Reach) → steps.ends_with (Some f) n (reach_seen r) ≡ ends_with f n r
    alike Around = refl
    alike (Through g m) = refl

    one : (b : Bool) → steps.ends_with (Some f) n (reach_seen e.reach) ≡ b → steps.ends_with (Some f) n (reach_seen e.reach) ≡ ends_with f n e.reach
        → outlasting (Some f) n (map active_of es) ≡ map active_of (filter (outlasts f n) es)
        → outlasting (Some f) n (map active_of (e ∷ es)) ≡ map active_of (filter (outlasts f n) (e ∷ es))
    one true is same rest = rw (is, sym same ∙ is) rest
    one false is same rest = rw (is, sym same ∙ is) (ap (λ xs. active_of e ∷ xs) rest)

pub outlasting_in : (f n : ℕ) (es : List Entry) → active_in (filter (outlasts f n) es) ≡ outlasting (Some f) n (active_in es)
outlasting_in f n es = ap (map active_of) (sym (filter_of_reverse (outlasts f n) es)) ∙ sym (outlasting_each f n (reverse es))

-- ---- a statement that may end

pub may_end_is : (fs : List CallFrame) (es : List Entry) (ns : List ℕ) (f s from : ℕ) → event_of fs ≡ Some f → IsUnder ns from → All (λ e. outlasts f s e ≡ true) (take from es)
    → MayEnd s (record { frames = fs; active = active_in es; scopes = scopes_in es ns })
may_end_is fs es ns f s from newest le out =
    let kept : filter (outlasts f s) (take (newest_mark ns) es) ≡ take (newest_mark ns) es = filter_keeps (outlasts f s) (take (newest_mark ns) es) (fewer_outlast es f s (newest_mark ns) from (under_bound ns from le) out) in (
      (λ none. absurd (none-some f (sym none ∙ newest))),
      rw (newest, newest_back es ns) (sym (outlasting_in f s (take (newest_mark ns) es)) ∙ ap active_in kept),
    )

pub brought_back_outlast : (fs : List CallFrame) (es : List Entry) (ns : List ℕ) (f s : ℕ) → event_of fs ≡ Some f → MayEnd s (record { frames = fs; active = active_in es; scopes = scopes_in es ns })
    → All (λ e. outlasts f s e ≡ true) (take (newest_mark ns) es)
brought_back_outlast fs es ns f s newest may =
    let back : List Entry = take (newest_mark ns) es in
    whole f s back (as_many_back (filter (outlasts f s) back) back
    (outlasting_in f s back ∙ ap (λ g. outlasting g s (active_in back)) (sym newest) ∙ ap (outlasting (event_of fs) s) (sym (newest_back es ns)) ∙ may.1 ∙ newest_back es ns))

-- what stands after it, as the scopes bring back what they did
module _ (fs : List CallFrame) (os : List Begun) (es : List Entry) (ns : List ℕ) (f s : ℕ) (h : IsStanding os es ns) (newest : event_of fs ≡ Some f) (may : MayEnd s (record { frames = fs; active = active_in es; scopes = scopes_in es ns })) where
  kept_back : filter (outlasts f s) (take (newest_mark ns) es) ≡ take (newest_mark ns) es
  kept_back = filter_keeps (outlasts f s) (take (newest_mark ns) es) (brought_back_outlast fs es ns f s newest may)

  pub stands_after_end : (xs : List Entry) (rest : List Begun) → xs ≡ filter (outlasts f s) es → rest ≡ without os f s → IsStanding rest xs ns
  stands_after_end xs rest same is_rest = stands_ended os es ns f s (newest_mark ns) h (mark_is_inside es ns h.falls) kept_back xs rest same is_rest (mark_is_under ns)

  pub scopes_after_end : scopes_in (filter (outlasts f s) es) ns ≡ scopes_in es ns
  scopes_after_end = scopes_ended os es ns f s (newest_mark ns) h (mark_is_inside es ns h.falls) kept_back (mark_is_under ns)

-- ---- scopes

pub stands_closed : (os : List Begun) (es xs : List Entry) (n : ℕ) (ns : List ℕ) → xs ≡ take n es → IsStanding os es (n ∷ ns) → IsStanding os xs ns
stands_closed os es xs n ns is h = rw is (record { sits = All-take (Seated os) n es h.sits; ascends = ascends_taken n es h.ascends; rises = h.rises; falls = rw (length-take-le n es h.falls.0) h.falls.1 })

pub stands_without : (os : List Begun) (es : List Entry) (n : ℕ) (ns : List ℕ) → IsStanding os es (n ∷ ns) → IsStanding os es ns
stands_without os es n ns h = record { sits = h.sits; ascends = h.ascends; rises = h.rises; falls = raised ns n (length es) h.falls.0 h.falls.1 }

pub scopes_closed : (os : List Begun) (es : List Entry) (n : ℕ) (ns : List ℕ) → IsStanding os es (n ∷ ns) → scopes_in (take n es) ns ≡ scopes_in es ns
scopes_closed os es n ns h = scopes_stay (take n es) es ns n h.falls.1 (take-take n n es (omega arith))

-- ---- as contracts see it

abbrev pub seen : List CallFrame → List Entry → List ℕ → CallStack
seen fs es ns = record { frames = fs; active = active_in es; scopes = scopes_in es ns }

module _ (fs : List CallFrame) (os : List Begun) (es xs : List Entry) (ns : List ℕ) where
  pub activated_is : (e : Entry) → xs ≡ es ++ e ∷ [] → IsStanding os es ns → seen fs xs ns ≡ activated e.number (reach_seen e.reach) (seen fs es ns)
  activated_is e is h =
      let now : active_in xs ≡ active_of e ∷ active_in es = ap active_in is ∙ one_more es e in
      let same : scopes_in xs ns ≡ scopes_in es ns = ap (λ ys. scopes_in ys ns) is ∙ scopes_with_more os es (e ∷ []) ns h in
      (λ i. record { frames = fs; active = now i; scopes = same i })

  pub ended_is : (f s : ℕ) → xs ≡ filter (outlasts f s) es → event_of fs ≡ Some f → scopes_in (filter (outlasts f s) es) ns ≡ scopes_in es ns → seen fs xs ns ≡ ended s (seen fs es ns)
  ended_is f s is newest scopes =
      let now : active_in xs ≡ outlasting (event_of fs) s (active_in es) = ap active_in is ∙ outlasting_in f s es ∙ ap (λ g. outlasting g s (active_in es)) (sym newest) in
      let same : scopes_in xs ns ≡ scopes_in es ns = ap (λ ys. scopes_in ys ns) is ∙ scopes in
      (λ i. record { frames = fs; active = now i; scopes = same i })

  pub closed_is : (n : ℕ) → xs ≡ take n es → IsStanding os es (n ∷ ns) → seen fs xs ns ≡ closed (seen fs es (n ∷ ns))
  closed_is n is h =
      let now : active_in xs ≡ active_in (take n es) = ap active_in is in
      let same : scopes_in xs ns ≡ scopes_in es ns = ap (λ ys. scopes_in ys ns) is ∙ scopes_closed os es n ns h in
      (λ i. record { frames = fs; active = now i; scopes = same i })

pub control_is : (es : List Entry) (e : Entry) → slice_get es (length es - 1) ≡ Some e → present e.number ≡ parent (active_in es)
unfolding parent
control_is es e is = is_present e.number e.is_number ∙ ap (λ xs. parent (map active_of xs)) (sym (last_is_first es e is))

pub no_control : (es : List Entry) → slice_get es (length es - 1) ≡ Absent → present 4294967295 ≡ parent (active_in es)
unfolding parent
no_control es is = nobody_is_absent ∙ ap (λ xs. parent (active_in xs)) (sym (none_is_last es is))

pub set_is : (ls : List Live) (vs : List Value) (ms : List Live) (us : List Value) (es : List Entry) (ns : List ℕ) (i at : ℕ) (v : Value) → ms ≡ ls → us ≡ vs → IsPlace (reverse ms) us i at
    → record { frames = framed (reverse ls) (slice_set vs at v); active = active_in es; scopes = scopes_in es ns } ≡ with_local i v (record { frames = framed (reverse ls) vs; active = active_in es; scopes = scopes_in es ns })
set_is ls vs ms us es ns i at v same alike h =
    let there : IsPlace (reverse ls) vs i at = subst (λ xs. IsPlace xs vs i at) (ap reverse same) (subst (λ xs. IsPlace (reverse ms) xs i at) alike h) in
    let now : framed (reverse ls) (slice_set vs at v) ≡ with_newest i v (framed (reverse ls) vs) = written (reverse ls) vs i at v there in
    (λ k. record { frames = now k; active = active_in es; scopes = scopes_in es ns })

pub refused_for_memory : (r : Result (Unit {0}) CallError) (old new : CallStack) → IsErrAnd r (λ e. e ≡ NoMemory) → length old.frames < depth_limit → IfErr r (λ e. Refuses e old new)
refused_for_memory (Ok x) old new is lt = tt
refused_for_memory (Err e) old new is lt = rw is lt

all_reversed : {X : Type 0} (P : X → Type 0) (xs : List X) → All P xs → All P (reverse xs)
all_reversed P [] h = h
all_reversed P (x ∷ xs) h = rw (reverse-cons x xs) (All-append P (reverse xs) (x ∷ []) (all_reversed P xs (All-tail P x xs h)) (All-cons P x [] (All-head P x xs h) (All-nil P)))

-- the newest entry is the greatest
pub none_is_greater : (es : List Entry) (e : Entry) → Ascends es → slice_get es (length es - 1) ≡ Some e → All (λ a. IsUpTo e.number a) (active_in es)
none_is_greater es e h is =
    let low : All (λ x. IsBelow x (e.number + 1)) es = all_below es (take (length es - 1) es) e (e.number + 1) (split_at_last es e is) h (omega arith) in
    All-map (λ a. IsUpTo e.number a) active_of (reverse es) (all_reversed (λ x. x.number ≤ e.number) es (λ k d lt. let b = low k d lt in omega (arith, b)))

pub none_is_there : (es : List Entry) (n : ℕ) → slice_get es (length es - 1) ≡ Absent → All (λ a. IsUpTo n a) (active_in es)
none_is_there es n is = rw (none_is_last es is) (All-nil (λ a. IsUpTo n a))
