-- The way from a question to its answer.
use Rattle.std.proofs.Common.{◌≡◌, ◌∙◌, inl, inr, ⊎_elim, ◌-◌, ◌<◌, ◌≤◌, ℕ, zero, suc, Bool, true, false, List, [], ◌∷◌, length, refl, sym, ap, subst, arith}
use Rattle.std.proofs.Math.Path.{fun_ext}
use Rattle.std.specs.Prelude.{filter, if◌then◌else◌, Vec, IfOk, Result, Ok, Err}
use Rattle.std.specs.List.{range_with_len}
use Rattle.std.specs.declared.alloc.Global.{Global}
use Rattle.std.proofs.lemmas.Bool.{false≢true}
use Rattle.wy_kernel.specs.Program.{Program}
use Rattle.wy_event.specs.Numbers.{Numbers}
use Rattle.wy_event.specs.Record.{Recorded}
use Rattle.wy_event.specs.Sources.{Owners, Source, closure, data_closure, is_data, source_events, sources}
use Rattle.wy_view.specs.declared.view.ViewError.{ViewError}
use Rattle.wy_index.specs.declared.index.Index.{Index}
use Rattle.wy_index.specs.Index.{owners_of}
use Rattle.wy_why.specs.Answer.{Rises, up_to}
use Rattle.wy_why.specs.Walk.{closure_of}
use Rattle.wy_why.proofs.Closures.{Among, closure_cases, closure_itself, closure_source}
use Rattle.wy_ask.specs.Asked.{owners}
use Rattle.wy_affects.specs.Affected.{affected, affected_by_data}
use Rattle.wy_telling.specs.Affects.{affects_text, later_lines, nothing_later_line}
use Rattle.wy_telling.specs.Answers.{AnswerIs, NoSuch, Telling, TellsAnswer, answered, marked_lines, not_read, not_there}
use Rattle.wy_telling.specs.Untelling.{FindsAsked}
use Rattle.wy_telling.specs.declared.untold.Untold.{Untold}
use Rattle.wy_telling.specs.declared.untold.Untold.TheVariants as untold
use Rattle.wy_telling.specs.Why.{why_text}

-- ---- the data are among all

flow_sources : (ss : List Source) (w : ℕ) → Among w (source_events false ss) → Among w (source_events true ss)
unfolding source_events
flow_sources [] w at = at
flow_sources (s ∷ ss) w at = go (is_data s.role) at (flow_sources ss w)
  where
    go : (b : Bool) → Among w (if b then s.event ∷ source_events false ss else source_events false ss) → (Among w (source_events false ss) → Among w (source_events true ss)) → Among w (s.event ∷ source_events true ss)
    go true (inl here) more = inl here
    go true (inr later) more = inr (more later)
    go false later more = inr (more later)

module _ (owner : Owners) (rs : List Recorded) where
  flow_within : (most n j : ℕ) → n < most → closure_of owner false rs n j ≡ true → closure_of owner true rs n j ≡ true
  flow_within zero n j lt is = absurd (omega (arith, lt))
  flow_within (suc most) n j lt is = ⊎_elim
      (λ (here : j ≡ n). subst (λ m. closure_of owner true rs n m ≡ true) (sym here) (closure_itself owner true rs n))
      (λ (found : (w : ℕ) × Among w (source_events false (sources owner rs n)) × (w < n) × (closure_of owner false rs w j ≡ true)).
      closure_source owner true rs n found.0 j (flow_sources (sources owner rs n) found.0 found.1) found.2 (flow_within most found.0 j (omega (arith, lt, found.2)) found.3))
      (closure_cases owner false rs n j is)

  pub data_within : (n j : ℕ) → data_closure owner rs n j ≡ true → closure owner rs n j ≡ true
  unfolding closure data_closure
  data_within n j is = flow_within (suc n) n j (omega arith) is

-- to take those of a smaller set is to take them from those of a greater
filter_within : (a b : Numbers) → ((j : ℕ) → b j ≡ true → a j ≡ true) → (xs : List ℕ) → filter b xs ≡ filter b (filter a xs)
filter_within a b within [] = refl
filter_within a b within (x ∷ xs) = go (b x) (a x) refl refl (filter_within a b within xs)
  where
    go : (u v : Bool) → b x ≡ u → a x ≡ v → filter b xs ≡ filter b (filter a xs) → (if u then x ∷ filter b xs else filter b xs) ≡ filter b (if v then x ∷ filter a xs else filter a xs)
    go true true is there rest = ap (λ l. x ∷ l) rest ∙ sym (ap (λ c. if c then x ∷ filter b (filter a xs) else filter b (filter a xs)) is)
    go true false is there rest = absurd (false≢true (sym there ∙ within x is))
    go false true is there rest = rest ∙ sym (ap (λ c. if c then x ∷ filter b (filter a xs) else filter b (filter a xs)) is)
    go false false is there rest = rest

-- ---- the lines

pub rises_up : (low m n : ℕ) (xs : List ℕ) → m ≤ n → Rises low m xs → Rises low n xs
rises_up low m n [] le rises = tt
rises_up low m n (x ∷ xs) le (at, below, more) = (at, omega (arith, le, below), rises_up (suc x) m n xs le more)

pub from_zero : (low high : ℕ) (xs : List ℕ) → Rises low high xs → Rises 0 high xs
from_zero low high [] rises = tt
from_zero low high (x ∷ xs) (at, below, more) = (omega arith, below, more)

-- an answer's marked lines are those that are told of its event
pub why_told : (p : Program) (lines : List ℕ) (rs : List Recorded) (event : ℕ) (index : Index) (all flow : List ℕ) (r : Result (Vec ℕ Global) ViewError) → ((f : ℕ) → owners_of index f ≡ owners p f)
    → all ≡ up_to event (closure (owners_of index) rs event) → flow ≡ up_to event (data_closure (owners_of index) rs event)
    → ((by_data : Numbers) → flow ≡ filter by_data all → IfOk r (λ text. text.items ≡ marked_lines p lines rs by_data all))
    → IfOk r (λ text. text.items ≡ why_text p lines rs event)
unfolding why_text
why_told p lines rs event index all flow r same all_is flow_is gives =
    let owner = owners_of index in
    let by_data = data_closure owner rs event in
    let some : flow ≡ filter by_data all = flow_is ∙ filter_within (closure owner rs event) by_data (data_within owner rs event) (range_with_len 0 (suc event)) ∙ ap (filter by_data) (sym all_is) in
    let told : marked_lines p lines rs by_data all ≡ why_text p lines rs event = ap (marked_lines p lines rs by_data) all_is ∙ ap (λ o. marked_lines p lines rs (data_closure o rs event) (up_to event (closure o rs event))) (fun_ext same) in
    subst (λ l. IfOk r (λ text. text.items ≡ l)) told (gives by_data some)

-- the lines of what comes from an event, where something does, are those that are told of it
pub affects_told : (p : Program) (lines : List ℕ) (rs : List Recorded) (event : ℕ) (index : Index) (all flow : List ℕ) (r : Result (Vec ℕ Global) ViewError) → ((f : ℕ) → owners_of index f ≡ owners p f)
    → all ≡ affected (owners_of index) rs event → flow ≡ affected_by_data (owners_of index) rs event → (all ≡ [] → ⊥)
    → ((by_data : Numbers) → flow ≡ filter by_data all → IfOk r (λ text. text.items ≡ marked_lines p lines rs by_data all))
    → IfOk r (λ text. text.items ≡ affects_text p lines rs event)
unfolding affects_text
affects_told p lines rs event index all flow r same all_is flow_is some gives =
    let owner = owners_of index in
    let by_data : Numbers = λ n. data_closure owner rs n event in
    let part : flow ≡ filter by_data all = flow_is ∙ filter_within (λ n. closure owner rs n event) by_data (λ n. data_within owner rs n event) (range_with_len (suc event) (length rs - suc event)) ∙ ap (filter by_data) (sym all_is) in
    let told : marked_lines p lines rs by_data all ≡ affects_text p lines rs event =
    some_later p lines rs by_data all some ∙ ap (later_lines p lines rs by_data) all_is ∙ ap (λ o. later_lines p lines rs (λ n. data_closure o rs n event) (affected o rs event)) (fun_ext same) in
    subst (λ l. IfOk r (λ text. text.items ≡ l)) told (gives by_data part)
  where
    some_later : (p : Program) (lines : List ℕ) (rs : List Recorded) (by_data : Numbers) (events : List ℕ) → (events ≡ [] → ⊥) → marked_lines p lines rs by_data events ≡ later_lines p lines rs by_data events
    some_later p lines rs by_data [] some = absurd (some refl)
    some_later p lines rs by_data (n ∷ events) some = refl

-- the line that is told of an event from which nothing comes
pub nothing_told : (p : Program) (lines : List ℕ) (rs : List Recorded) (event : ℕ) (index : Index) (all text : List ℕ) → ((f : ℕ) → owners_of index f ≡ owners p f)
    → all ≡ affected (owners_of index) rs event → all ≡ [] → text ≡ nothing_later_line → text ≡ affects_text p lines rs event
unfolding affects_text
nothing_told p lines rs event index all text same all_is none is =
    is ∙ ap (later_lines p lines rs (λ n. data_closure (owners p) rs n event)) (sym none ∙ all_is ∙ ap (λ o. affected o rs event) (fun_ext same))

-- ---- the question, and its answer

module _ (telling : Telling) (p : Program) (lines : List ℕ) (rs : List Recorded) (text : List ℕ) where
  -- what is told of the event that is asked about is the answer
  pub told_of : (event : ℕ) (told : Vec ℕ Global) → FindsAsked p rs text (Ok event) → told.items ≡ telling p lines rs event → TellsAnswer telling p lines rs text (Ok told)
  told_of event told (q, asks, at) is = subst (λ l. AnswerIs telling p lines rs text (Ok l)) (sym is) (answered q event asks at)

  pub unasked : (e : Untold) → FindsAsked p rs text (Err e) → TellsAnswer telling p lines rs text (Err e)
  unasked untold.BadQuestion none = not_read none
  unasked (untold.NoSuch n) (q, asks, none, is) = subst (λ m. AnswerIs telling p lines rs text (Err (NoSuch m))) (sym is) (not_there q asks none)
  unasked (untold.View error) none = tt
